-- Attributes, attachments and nodes are refused up to the place alone, and are eaten whatever stands behind them.
use Rattle.std.proofs.Common.{◌≡◌, ℕ, ◌+◌, ◌<◌, ◌≤◌, Bool, true, false, List, length, codes, refl, ap, ◌∙◌, inl, inr, Option, None, Some, arith}
use Rattle.std.proofs.lemmas.List.{length-append}
use Rattle.ll_tokens.specs.declared.kinds.TokenKind.TheVariants.{Attr, MdName, Mdn, Str}
use Rattle.ll_tokens.specs.Tokens.{Lexeme}
use Rattle.ll_tree.specs.declared.module.Attribute.{Attribute}
use Rattle.ll_tree.specs.declared.module.AttributeKind.{AttributeKind}
use Rattle.ll_tree.specs.declared.module.AttributeKind.TheVariants.{Align, ByVal, Dereferenceable, DereferenceableOrNull, ImmArg, InReg, NoAlias, NoCapture, NoFree, NoUndef, NonNull, ReadNone, ReadOnly, Returned, SRet, SignExt, WriteOnly, ZeroExt}
use Rattle.ll_tree.specs.declared.module.Linkage.{Linkage}
use Rattle.ll_tree.specs.declared.module.Linkage.TheVariants.{External, Internal, Private}
use Rattle.ll_tree.specs.declared.module.NodeRef.{NodeRef}
use Rattle.ll_tree.specs.declared.name.NameText.{NameText}
use Rattle.ll_tree.specs.declared.ty.LlType.{LlType}
use Rattle.ll_parser.specs.declared.refusal.Refusal.{Refusal}
use Rattle.ll_parser.specs.GrammarAttributes.{attachment, attribute_group, attribute_word, node_name}
use Rattle.ll_parser.specs.NameReading.{any_of}
use Rattle.ll_parser.specs.Productions.{Production, ◌>>◌, ◌or◌, each, mark, word}
use Rattle.ll_parser.specs.Reading.{DerivesNone, EndsNowhere}
use Rattle.ll_attributes.specs.Attachments.{AttachmentFails, AttachmentsFail, BehindCommaFails, IsNoAttachment, IsNoNode, SkippedFail, attachments_here, behind_comma, skipped_attachments}
use Rattle.ll_attributes.specs.AttributeParts.{NoAttribute, attribute_here, attributes_here, behind_word_here, brackets_here, in_brackets, some_attributes}
use Rattle.ll_attributes.specs.AttributeRefusals.{AttributeFails, AttributesFail, BracketsFail, KindFails, in_align, in_bytes, in_type, no_close, no_type}
use Rattle.ll_attributes.specs.FunctionAttributes.{FunctionAttributeFails, FunctionAttributesFail, IsNoGroup, NoFunctionAttribute, function_attribute_here, function_attributes_here, function_word, in_group, in_text, some_function_attributes, text_here, value_here}
use Rattle.ll_attributes.specs.Heads.{convention_here, linkage_here}
use Rattle.ll_attributes.specs.Lists.{AllOf, SkipsAll, StopsBehind, maybe_here, some_of}
use Rattle.ll_types.proofs.Tokens.{token_shortens}
use Rattle.ll_operands.specs.Parts.{Begins, Stops, any}
use Rattle.ll_front_parts.proofs.Fronts.{IsLocal, Keeps, Sees, Settles, behind_token, keeps_token, kept_as, one, sees_no_mark, sees_none, sees_nowhere, sees_token, settled_as, settled_behind, settled_beside}
use Rattle.ll_front_parts.proofs.Joins.{EndsComma, PassesComma, keeps_any, keeps_as, keeps_each, keeps_named, keeps_none, keeps_nothing, keeps_or, keeps_seq, keeps_where, no_longer}
use Rattle.ll_front_parts.proofs.Types.{bracketed_settles, kind_settles, keeps_type, mark_settles, name_settles, number_settles, type_settles}

-- lists
pub keeps_maybe : (p : Production) → Sees one (Begins p) → Keeps one p → Keeps one (maybe_here p)
keeps_maybe p sees k = keeps_or one p (λ tokens rest. (tokens ≡ rest) × EndsNowhere p tokens) k (keeps_none one (EndsNowhere p) (sees_nowhere one p sees))

keeps_some_of : {A : Type 0} (item : A → Production) → ((x : A) → Keeps one (item x)) → Keeps one (some_of item)
keeps_some_of item k = keeps_any one (each item) (keeps_each item k)

keeps_all_of : {A : Type 0} (item : A → Production) (none : List Lexeme → Type 0) → ((x : A) → Keeps one (item x)) → Sees one none → (xs : List A) → Keeps one (AllOf item none xs)
keeps_all_of item none k sees xs = record {
  keeps = λ tokens rest d. kept_as ((keeps_each item k xs).keeps tokens rest d.items) (λ ts other same e. record { items = e; all = sees rest other same d.all });
}

keeps_skips : (some : Production) (none : List Lexeme → Type 0) → Keeps one some → Sees one none → Keeps one (SkipsAll some none)
keeps_skips some none k sees = record {
  keeps = λ tokens rest d. kept_as (k.keeps tokens rest d.skipped) (λ ts other same e. record { skipped = e; all = sees rest other same d.all });
}

behind_settles : (some : Production) (fails : Stops) → Keeps one some → Settles fails → Settles (StopsBehind some fails)
behind_settles some fails k settles tokens refusal d less =
    settled_as (λ ts r s. record { middle = s.0; before = s.1; fails = s.2 }) (settled_behind k d.before (settles d.middle refusal d.fails less))

-- attributes
keeps_in_brackets : (names : List NameText) (t : LlType) → Keeps one (in_brackets names t)
keeps_in_brackets names t = keeps_seq one _ _ (keeps_token _ _) (keeps_seq one _ _ (keeps_type names t) (keeps_token _ _))

keeps_brackets : (names : List NameText) (t : Option LlType) → Keeps one (brackets_here names t)
keeps_brackets names None = keeps_none one (EndsNowhere (mark 40)) (sees_no_mark 40)
keeps_brackets names (Some t) = keeps_in_brackets names t

keeps_behind_word : (names : List NameText) (kind : AttributeKind) → Keeps one (behind_word_here names kind)
keeps_behind_word names ZeroExt = keeps_nothing one
keeps_behind_word names SignExt = keeps_nothing one
keeps_behind_word names NoAlias = keeps_nothing one
keeps_behind_word names NoCapture = keeps_nothing one
keeps_behind_word names ReadOnly = keeps_nothing one
keeps_behind_word names ReadNone = keeps_nothing one
keeps_behind_word names WriteOnly = keeps_nothing one
keeps_behind_word names NoUndef = keeps_nothing one
keeps_behind_word names NonNull = keeps_nothing one
keeps_behind_word names InReg = keeps_nothing one
keeps_behind_word names Returned = keeps_nothing one
keeps_behind_word names NoFree = keeps_nothing one
keeps_behind_word names ImmArg = keeps_nothing one
keeps_behind_word names (ByVal t) = keeps_brackets names t
keeps_behind_word names (SRet t) = keeps_brackets names t
keeps_behind_word names (Align bytes) = keeps_token _ _
keeps_behind_word names (Dereferenceable bytes) = keeps_seq one _ _ (keeps_token _ _) (keeps_seq one _ _ (keeps_token _ _) (keeps_token _ _))
keeps_behind_word names (DereferenceableOrNull bytes) = keeps_seq one _ _ (keeps_token _ _) (keeps_seq one _ _ (keeps_token _ _) (keeps_token _ _))

keeps_attribute : (names : List NameText) (a : Attribute) → Keeps one (attribute_here names a)
keeps_attribute names a = keeps_seq one _ _ (keeps_token _ _) (keeps_behind_word names a.kind)

pub keeps_attributes : Keeps one (any attributes_here)
keeps_attributes =
    keeps_named attributes_here
    (λ names. keeps_all_of (attribute_here names) NoAttribute (keeps_attribute names)
    (λ a b same none kind. sees_nowhere one (word (attribute_word kind)) (sees_token _ _) a b same (none kind)))

brackets_settle : Settles BracketsFail
brackets_settle tokens refusal (no_type inside m fails) less =
    settled_as (λ ts r s. no_type s.0 s.1 s.2) (behind_token m (type_settles inside refusal fails less))
brackets_settle tokens refusal (no_close names t inside end m d unexpected) less =
    settled_as (λ ts r s. no_close names t s.0 s.2.0 s.1 s.2.1 s.2.2)
    (behind_token m (settled_behind (keeps_type names t) d (mark_settles 41 end refusal unexpected less)))

kind_fails_settles : (text : List ℕ) → Settles (KindFails text)
kind_fails_settles text tokens refusal (in_type is fails) less = settled_as (λ ts r s. in_type is s) (brackets_settle tokens refusal fails less)
kind_fails_settles text tokens refusal (in_align is fails) less = settled_as (λ ts r s. in_align is s) (number_settles tokens refusal fails less)
kind_fails_settles text tokens refusal (in_bytes is fails) less = settled_as (λ ts r s. in_bytes is s) (bracketed_settles tokens refusal fails less)

attribute_settles : Settles AttributeFails
attribute_settles tokens refusal d less =
    settled_as (λ ts r s. record { text = d.text; behind = s.0; begins = s.1; fails = s.2 })
    (behind_token d.begins (kind_fails_settles d.text d.behind refusal d.fails less))

pub attributes_settle : Settles AttributesFail
attributes_settle =
    behind_settles some_attributes AttributeFails (keeps_any one (λ names. some_of (attribute_here names))
    (λ names. keeps_some_of (attribute_here names) (keeps_attribute names))) attribute_settles

-- nodes and attachments
pub node_settles : Settles IsNoNode
node_settles tokens refusal d less =
    settled_beside (DerivesNone node_name) (sees_none node_name (λ x. sees_token _ _)) d.0 (name_settles Mdn tokens refusal d.1 less)

keeps_attachment : (a : List ℕ × NodeRef) → Keeps one (attachment a)
keeps_attachment a = keeps_seq one _ _ (keeps_token _ _) (keeps_token _ _)

keeps_behind_comma : (a : List ℕ × NodeRef) → Keeps one (behind_comma a)
keeps_behind_comma a = keeps_seq one (mark 44) (attachment a) (keeps_token _ _) (keeps_attachment a)

pub keeps_attachments : (attachments : List (List ℕ × NodeRef)) → Keeps one (attachments_here attachments)
keeps_attachments attachments =
    keeps_all_of attachment (EndsNowhere (any_of MdName)) keeps_attachment (sees_nowhere one (any_of MdName) (sees_token _ _)) attachments

attachment_settles : Settles AttachmentFails
attachment_settles tokens refusal (b, d, fails) less = behind_token d (node_settles b refusal fails less)

pub attachments_settle : Settles AttachmentsFail
attachments_settle = behind_settles (some_of attachment) AttachmentFails (keeps_some_of attachment keeps_attachment) attachment_settles

no_attachment_settles : Settles IsNoAttachment
no_attachment_settles tokens refusal (inl d) less = settled_as (λ ts r s. inl s) (kind_settles MdName tokens refusal d less)
no_attachment_settles tokens refusal (inr d) less = settled_as (λ ts r s. inr s) (attachment_settles tokens refusal d less)

comma_settles : Settles BehindCommaFails
comma_settles tokens refusal (b, comma, fails) less = behind_token comma (no_attachment_settles b refusal fails less)

keeps_commas_of : Keeps one (some_of behind_comma)
keeps_commas_of = keeps_some_of behind_comma keeps_behind_comma

pub keeps_skipped : Keeps one skipped_attachments
keeps_skipped = keeps_skips (some_of behind_comma) (EndsNowhere (mark 44)) keeps_commas_of (sees_no_mark 44)

pub skipped_ends : EndsComma skipped_attachments
skipped_ends = record { none = λ tokens rest d. d.all }

pub local_skipped : IsLocal one (record { begins = skipped_attachments; stops = SkippedFail })
local_skipped = record { keeps = keeps_skipped; settles = behind_settles (some_of behind_comma) BehindCommaFails keeps_commas_of comma_settles }

pub skipped_passes : PassesComma (record { begins = skipped_attachments; stops = SkippedFail })
skipped_passes = record { passes = passed }
  where
    passed : (tokens rest : List Lexeme) (refusal : Refusal) → mark 44 tokens rest → SkippedFail tokens refusal → refusal.left < length tokens
    passed tokens rest refusal comma d =
        let kept = keeps_commas_of.keeps tokens d.middle d.before in
        let long : length tokens ≡ length kept.eaten + length d.middle = ap length kept.are ∙ length-append kept.eaten d.middle in
        let less : length d.fails.0 < length d.middle = (token_shortens _ _ d.middle d.fails.0 d.fails.1).less in
        let le : refusal.left ≤ length d.fails.0 = no_longer IsNoAttachment no_attachment_settles d.fails.0 refusal refusal.left refl d.fails.2 in
        omega (arith, long, less, le)

-- attributes of functions
keeps_value_here : Keeps one value_here
keeps_value_here =
    keeps_or one (mark 61 >> any_of Str) (λ tokens rest. (tokens ≡ rest) × EndsNowhere (mark 61) tokens)
    (keeps_seq one (mark 61) (any_of Str) (keeps_token _ _) (keeps_token _ _))
    (keeps_none one (EndsNowhere (mark 61)) (sees_no_mark 61))

keeps_function_attribute : Keeps one function_attribute_here
keeps_function_attribute =
    keeps_or one attribute_group (text_here or function_word) (keeps_token _ _)
    (keeps_or one text_here function_word (keeps_seq one (any_of Str) value_here (keeps_token _ _) keeps_value_here) (keeps_token _ _))

keeps_some_function : Keeps one some_function_attributes
keeps_some_function = keeps_some_of (λ (_ : Unit {0}). function_attribute_here) (λ _. keeps_function_attribute)

sees_no_function : Sees one NoFunctionAttribute
sees_no_function a b same n = record {
  no_group = sees_nowhere one (any_of Attr) (sees_token _ _) a b same n.no_group;
  no_text = sees_nowhere one (any_of Str) (sees_token _ _) a b same n.no_text;
  no_word = sees_nowhere one function_word (sees_token _ _) a b same n.no_word;
}

pub keeps_function_attributes : Keeps one function_attributes_here
keeps_function_attributes = keeps_skips some_function_attributes NoFunctionAttribute keeps_some_function sees_no_function

pub group_settles : Settles IsNoGroup
group_settles tokens refusal d less =
    settled_beside (EndsNowhere attribute_group) (sees_nowhere one attribute_group (sees_token _ _)) d.0 (name_settles Attr tokens refusal d.1 less)

function_attribute_settles : Settles FunctionAttributeFails
function_attribute_settles tokens refusal (in_group b d fails) less =
    settled_as (λ ts r s. in_group s.0.0 s.0.1 s.1) (settled_beside (Begins (any_of Attr)) (sees_token _ _) (b, d) (group_settles tokens refusal fails less))
function_attribute_settles tokens refusal (in_text b end d m unexpected) less =
    settled_as (λ ts r s. in_text s.0 s.2.0 s.1 s.2.1 s.2.2)
    (behind_token d (behind_token m (kind_settles Str end refusal unexpected less)))

pub function_attributes_settle : Settles FunctionAttributesFail
function_attributes_settle = behind_settles some_function_attributes FunctionAttributeFails keeps_some_function function_attribute_settles

-- words at the heads of functions and variables
pub keeps_linkage : (l : Linkage) → Keeps one (linkage_here l)
keeps_linkage External =
    keeps_as one (λ ts rest d. (d.0, d.1.0, d.1.1)) (λ ts rest d. (d.0, (d.1, d.2)))
    (keeps_none one (λ tokens. EndsNowhere (word (codes "internal")) tokens × EndsNowhere (word (codes "private")) tokens)
    (λ a b same d. (
      sees_nowhere one (word (codes "internal")) (sees_token _ _) a b same d.0,
      sees_nowhere one (word (codes "private"))
          (sees_token _ _) a b same d.1,
    )))
keeps_linkage Internal = keeps_token _ _
keeps_linkage Private = keeps_token _ _

pub keeps_convention : (is_kernel : Bool) → Keeps one (convention_here is_kernel)
keeps_convention true = keeps_token _ _
keeps_convention false =
    keeps_where one (EndsNowhere (word (codes "spir_kernel"))) (maybe_here (word (codes "spir_func")))
    (sees_nowhere one (word (codes "spir_kernel")) (sees_token _ _))
    (keeps_maybe (word (codes "spir_func")) (sees_token _ _) (keeps_token _ _))
