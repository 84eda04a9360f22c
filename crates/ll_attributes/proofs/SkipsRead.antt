-- Attachments and attributes of functions as they are read: what each exit of a reader answers.
use Rattle.std.proofs.Common.{◌≡◌, ℕ, ◌-◌, ◌<◌, List, [], ◌∷◌, ◌++◌, length, drop, refl, sym, ◌∙◌, subst, inl, inr, Result, Ok, Err, MatchResult}
use Rattle.ll_tokens.specs.declared.kinds.Token.{Token}
use Rattle.ll_tokens.specs.declared.kinds.TokenKind.TheVariants.{Attr, MdName, Str}
use Rattle.ll_tokens.specs.Tokens.{Lexeme, lexemes_of}
use Rattle.ll_tree.specs.declared.module.NodeRef.{NodeRef}
use Rattle.ll_parser.specs.declared.refusal.ReadError.{ReadError}
use Rattle.ll_parser.specs.declared.refusal.ReadError.TheVariants.{NoMemory, Refused}
use Rattle.ll_parser.specs.declared.refusal.Refusal.{Refusal}
use Rattle.ll_parser.specs.GrammarAttributes.{attachment, node_name}
use Rattle.ll_parser.specs.NameReading.{any_of}
use Rattle.ll_parser.specs.Productions.{Production, ◌>>◌, each, mark}
use Rattle.ll_parser.specs.Reading.{EndsNowhere, DerivesNone}
use Rattle.ll_parser.specs.Spaces.{IsUnexpected}
use Rattle.ll_types.specs.ValueRefusals.{Unless}
use Rattle.ll_types.proofs.Tokens.{Shortens}
use Rattle.ll_attributes.specs.Attachments.{AttachmentFails, AttachmentsFail, BehindCommaFails, IsNoAttachment, IsNoNode, SkippedFail, attachments_here, behind_comma, skipped_attachments}
use Rattle.ll_attributes.specs.FunctionAttributes.{FunctionAttributeFails, FunctionAttributesFail, NoFunctionAttribute, function_attribute_here, function_attributes_here, in_group, in_text, IsNoGroup, some_function_attributes, value_here}
use Rattle.ll_attributes.specs.Lists.{some_of}
use Rattle.ll_attributes.proofs.AttachmentFacts.{attachment_shortens, attachments_none, behind_shortens, skipped_none}
use Rattle.ll_attributes.proofs.FunctionFacts.{function_attribute_shortens, function_attributes_none}
use Rattle.ll_attributes.proofs.ListFacts.{each_push, some_push}
use Rattle.ll_attributes.proofs.LoopFacts.{SoFar, at_start, fewer_left, one_more, so_far}

-- an attachment
pub attachment_read : (tokens behind rest : List Lexeme) (first : Lexeme) (name : List ℕ) (node : NodeRef) → tokens ≡ first ∷ behind → first.kind ≡ MdName → drop 1 first.text ≡ name → node_name node behind rest → attachment (name, node) tokens rest
unfolding ◌>>◌
attachment_read tokens behind rest first name node is kind text d = (behind, (first, is, kind, text), d)

pub some_attachment : (tokens behind rest : List Lexeme) (first : Lexeme) (node : NodeRef) → tokens ≡ first ∷ behind → first.kind ≡ MdName → node_name node behind rest → (a : List ℕ × NodeRef) × attachment a tokens rest
some_attachment tokens behind rest first node is kind d = ((drop 1 first.text, node), attachment_read tokens behind rest first (drop 1 first.text) node is kind refl d)

pub node_stops : (tokens behind : List Lexeme) (first : Lexeme) (refusal : Refusal) (told : ReadError) → told ≡ Refused refusal → tokens ≡ first ∷ behind → first.kind ≡ MdName → IsNoNode behind refusal → Unless (AttachmentFails tokens) told
node_stops tokens behind first refusal told same is kind none = subst (Unless (AttachmentFails tokens)) (sym same) (behind, (first, is, kind, tt), none)

pub node_stops_skip : (tokens behind : List Lexeme) (first : Lexeme) (refusal told : Refusal) → told ≡ refusal → tokens ≡ first ∷ behind → first.kind ≡ MdName → IsNoNode behind refusal → IsNoAttachment tokens told
node_stops_skip tokens behind first refusal told same is kind none = subst (IsNoAttachment tokens) (sym same) (inr (behind, (first, is, kind, tt), none))

pub behind_comma_read : (tokens behind rest : List Lexeme) → mark 44 tokens behind → (a : List ℕ × NodeRef) × attachment a behind rest → (a : List ℕ × NodeRef) × behind_comma a tokens rest
unfolding ◌>>◌
behind_comma_read tokens behind rest comma (a, d) = (a, (behind, comma, d))

pub behind_comma_stops : (tokens behind : List Lexeme) (refusal told : Refusal) → told ≡ refusal → mark 44 tokens behind → IsNoAttachment behind refusal → BehindCommaFails tokens told
behind_comma_stops tokens behind refusal told same comma none = subst (BehindCommaFails tokens) (sym same) (behind, comma, none)

-- attachments one by one
abbrev pub AttachmentsSoFar : (tokens : List Token) (xs : List (List ℕ × NodeRef)) (left : ℕ) → Type 0
AttachmentsSoFar tokens xs left = SoFar (each attachment xs) tokens left

pub no_attachments_yet : (tokens : List Token) (xs : List (List ℕ × NodeRef)) (left : ℕ) → xs ≡ [] → left ≡ length tokens → AttachmentsSoFar tokens xs left
no_attachments_yet tokens xs left empty whole =
    at_start (each attachment xs) tokens left (subst (λ ys. each attachment ys (lexemes_of tokens) (lexemes_of tokens)) (sym empty) refl) whole

pub fewer_attachments : (tokens here behind : List Token) (xs : List (List ℕ × NodeRef)) (x : List ℕ × NodeRef) (left : ℕ) → AttachmentsSoFar tokens xs left → here ≡ drop (length tokens - left) tokens → attachment x (lexemes_of here) (lexemes_of behind) → length behind < left
fewer_attachments tokens here behind xs x left = fewer_left (each attachment xs) (attachment x) (attachment_shortens x) tokens here behind left

pub more_attachments : (tokens here behind : List Token) (xs ys : List (List ℕ × NodeRef)) (x : List ℕ × NodeRef) (left after : ℕ) → AttachmentsSoFar tokens xs left → here ≡ drop (length tokens - left) tokens → attachment x (lexemes_of here) (lexemes_of behind) → ys ≡ xs ++ x ∷ [] → after ≡ length behind → AttachmentsSoFar tokens ys after
more_attachments tokens here behind xs ys x left after s is d grown count =
    subst (λ zs. AttachmentsSoFar tokens zs after) (sym grown)
    (one_more (each attachment xs) (attachment x) (attachment_shortens x) (each attachment (xs ++ x ∷ [])) tokens here behind left after (each_push attachment xs x) s is d count)

pub attachments_read : (tokens here end : List Token) (xs : List (List ℕ × NodeRef)) (left : ℕ) → AttachmentsSoFar tokens xs left → here ≡ drop (length tokens - left) tokens → end ≡ drop (length tokens - left) tokens → EndsNowhere (any_of MdName) (lexemes_of here) → attachments_here xs (lexemes_of tokens) (lexemes_of end)
attachments_read tokens here end xs left s is is' none = record {
  items = so_far (each attachment xs) tokens end left s is';
  all = subst (λ ls. EndsNowhere (any_of MdName) (lexemes_of ls)) (is ∙ sym is') none;
}

pub attachments_stop : (tokens here : List Token) (xs : List (List ℕ × NodeRef)) (left : ℕ) (error told : ReadError) → told ≡ error → AttachmentsSoFar tokens xs left → here ≡ drop (length tokens - left) tokens → Unless (AttachmentFails (lexemes_of here)) error → Unless (λ refusal. DerivesNone attachments_here (lexemes_of tokens) × AttachmentsFail (lexemes_of tokens) refusal) told
attachments_stop tokens here xs left NoMemory told same s is stops =
    subst (Unless (λ refusal. DerivesNone attachments_here (lexemes_of tokens) × AttachmentsFail (lexemes_of tokens) refusal)) (sym same) tt
attachments_stop tokens here xs left (Refused refusal) told same s is stops =
    subst (Unless (λ r. DerivesNone attachments_here (lexemes_of tokens) × AttachmentsFail (lexemes_of tokens) r)) (sym same) (attachments_none (lexemes_of tokens) refusal place, place)
  where
    place : AttachmentsFail (lexemes_of tokens) refusal
    place = record { middle = lexemes_of here; before = (xs, so_far (each attachment xs) tokens here left s is); fails = stops }

-- attachments behind commas
abbrev pub SkippedSoFar : (tokens : List Token) (left : ℕ) → Type 0
SkippedSoFar tokens left = SoFar (some_of behind_comma) tokens left

pub none_skipped : (tokens : List Token) (left : ℕ) → left ≡ length tokens → SkippedSoFar tokens left
none_skipped tokens left whole = at_start (some_of behind_comma) tokens left ([], refl) whole

abbrev pub next : Production
next tokens rest = (a : List ℕ × NodeRef) × behind_comma a tokens rest

next_shortens : Shortens next
next_shortens tokens rest (a, d) = behind_shortens a tokens rest d

pub fewer_skipped : (tokens here behind : List Token) (left : ℕ) → SkippedSoFar tokens left → here ≡ drop (length tokens - left) tokens → (a : List ℕ × NodeRef) × behind_comma a (lexemes_of here) (lexemes_of behind) → length behind < left
fewer_skipped tokens here behind left = fewer_left (some_of behind_comma) next next_shortens tokens here behind left

pub more_skipped : (tokens here behind : List Token) (left after : ℕ) → SkippedSoFar tokens left → here ≡ drop (length tokens - left) tokens → (a : List ℕ × NodeRef) × behind_comma a (lexemes_of here) (lexemes_of behind) → after ≡ length behind → SkippedSoFar tokens after
more_skipped tokens here behind left after = one_more (some_of behind_comma) next next_shortens (some_of behind_comma) tokens here behind left after (λ a b c before one. some_push behind_comma one.0 a b c before one.1)

pub skipped_read : (tokens here end : List Token) (left : ℕ) → SkippedSoFar tokens left → here ≡ drop (length tokens - left) tokens → end ≡ drop (length tokens - left) tokens → EndsNowhere (mark 44) (lexemes_of here) → skipped_attachments (lexemes_of tokens) (lexemes_of end)
skipped_read tokens here end left s is is' none = record {
  skipped = so_far (some_of behind_comma) tokens end left s is';
  all = subst (λ ls. EndsNowhere (mark 44) (lexemes_of ls)) (is ∙ sym is') none;
}

pub skipped_stop : (tokens here : List Token) (left : ℕ) (refusal told : Refusal) → told ≡ refusal → SkippedSoFar tokens left → here ≡ drop (length tokens - left) tokens → BehindCommaFails (lexemes_of here) refusal → EndsNowhere skipped_attachments (lexemes_of tokens) × SkippedFail (lexemes_of tokens) told
skipped_stop tokens here left refusal told same s is stops =
    subst (λ (r : Refusal). EndsNowhere skipped_attachments (lexemes_of tokens) × SkippedFail (lexemes_of tokens) r) (sym same) (skipped_none (lexemes_of tokens) refusal place, place)
  where
    place : SkippedFail (lexemes_of tokens) refusal
    place = record { middle = lexemes_of here; before = so_far (some_of behind_comma) tokens here left s is; fails = stops }

-- a text behind `=`, 61
value_read : (tokens behind rest : List Lexeme) → mark 61 tokens behind → any_of Str behind rest → value_here tokens rest
unfolding ◌>>◌
value_read tokens behind rest sign t = inl (behind, sign, t)

pub value_behind : {X : Type 0} (left : X → List Lexeme) (tokens behind : List Lexeme) (answer : Result X Refusal) → mark 61 tokens behind → MatchResult answer (λ r. any_of Str behind (left r)) (IsUnexpected (any_of Str) behind) → MatchResult answer (λ r. value_here tokens (left r)) (λ refusal. (end : List Lexeme) × mark 61 tokens end × IsUnexpected (any_of Str) end refusal)
value_behind left tokens behind (Ok r) sign d = value_read tokens behind (left r) sign d
value_behind left tokens behind (Err refusal) sign fails = (behind, sign, fails)

-- an attribute of a function
pub group_stops : (tokens behind : List Lexeme) (first : Lexeme) (refusal told : Refusal) → told ≡ refusal → tokens ≡ first ∷ behind → first.kind ≡ Attr → IsNoGroup tokens refusal → FunctionAttributeFails tokens told
group_stops tokens behind first refusal told same is kind none = subst (FunctionAttributeFails tokens) (sym same) (in_group behind (first, is, kind, tt) none)

pub text_stops : (tokens behind : List Lexeme) (first : Lexeme) (refusal told : Refusal) → told ≡ refusal → tokens ≡ first ∷ behind → first.kind ≡ Str → (end : List Lexeme) × mark 61 behind end × IsUnexpected (any_of Str) end refusal → FunctionAttributeFails tokens told
text_stops tokens behind first refusal told same is kind (end, sign, unexpected) =
    subst (FunctionAttributeFails tokens) (sym same) (in_text behind end (first, is, kind, tt) sign unexpected)

pub text_read : (tokens behind rest : List Lexeme) (first : Lexeme) → tokens ≡ first ∷ behind → first.kind ≡ Str → value_here behind rest → function_attribute_here tokens rest
unfolding ◌>>◌
text_read tokens behind rest first is kind value = inr (inl (behind, (first, is, kind, tt), value))

-- attributes of a function
abbrev pub FunctionSoFar : (tokens : List Token) (left : ℕ) → Type 0
FunctionSoFar tokens left = SoFar some_function_attributes tokens left

pub none_of_function : (tokens : List Token) (left : ℕ) → left ≡ length tokens → FunctionSoFar tokens left
none_of_function tokens left whole = at_start some_function_attributes tokens left ([], refl) whole

pub fewer_of_function : (tokens here behind : List Token) (left : ℕ) → FunctionSoFar tokens left → here ≡ drop (length tokens - left) tokens → function_attribute_here (lexemes_of here) (lexemes_of behind) → length behind < left
fewer_of_function tokens here behind left = fewer_left some_function_attributes function_attribute_here function_attribute_shortens tokens here behind left

pub more_of_function : (tokens here behind : List Token) (left after : ℕ) → FunctionSoFar tokens left → here ≡ drop (length tokens - left) tokens → function_attribute_here (lexemes_of here) (lexemes_of behind) → after ≡ length behind → FunctionSoFar tokens after
more_of_function tokens here behind left after =
    one_more some_function_attributes function_attribute_here function_attribute_shortens some_function_attributes tokens here behind left after
    (λ a b c before one. some_push (λ (_ : Unit {0}). function_attribute_here) tt a b c before one)

pub function_read : (tokens here end : List Token) (left : ℕ) → FunctionSoFar tokens left → here ≡ drop (length tokens - left) tokens → end ≡ drop (length tokens - left) tokens → NoFunctionAttribute (lexemes_of here) → function_attributes_here (lexemes_of tokens) (lexemes_of end)
function_read tokens here end left s is is' none = record {
  skipped = so_far some_function_attributes tokens end left s is';
  all = subst (λ ls. NoFunctionAttribute (lexemes_of ls)) (is ∙ sym is') none;
}

pub function_stops : (tokens here : List Token) (left : ℕ) (refusal told : Refusal) → told ≡ refusal → FunctionSoFar tokens left → here ≡ drop (length tokens - left) tokens → FunctionAttributeFails (lexemes_of here) refusal → EndsNowhere function_attributes_here (lexemes_of tokens) × FunctionAttributesFail (lexemes_of tokens) told
function_stops tokens here left refusal told same s is stops =
    subst (λ (r : Refusal). EndsNowhere function_attributes_here (lexemes_of tokens) × FunctionAttributesFail (lexemes_of tokens) r) (sym same) (function_attributes_none (lexemes_of tokens) refusal place, place)
  where
    place : FunctionAttributesFail (lexemes_of tokens) refusal
    place = record { middle = lexemes_of here; before = so_far some_function_attributes tokens here left s is; fails = stops }
