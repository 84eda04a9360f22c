-- Items of modules are refused up to the place alone, and are eaten whatever stands behind them.
use Rattle.std.proofs.Common.{◌≡◌, ℕ, List, [], ◌∷◌, ◌++◌, All, length, codes, refl, sym, ap, ◌∙◌, subst, inl, inr, Option, None, Some, arith}
use Rattle.ll_tokens.specs.declared.kinds.TokenKind.{TokenKind}
use Rattle.ll_tokens.specs.declared.kinds.TokenKind.TheVariants.{Bang, MdName, MdStr, Mdn}
use Rattle.ll_tokens.specs.Tokens.{Lexeme}
use Rattle.ll_tree.specs.declared.module.NodePart.{NodePart}
use Rattle.ll_tree.specs.declared.module.NodePart.TheVariants as node_form
use Rattle.ll_tree.specs.declared.module.NodeRef.{NodeRef}
use Rattle.ll_tree.specs.declared.name.NameText.{NameText}
use Rattle.ll_parser.specs.GrammarAttributes.{attribute_group, node_name}
use Rattle.ll_parser.specs.GrammarItems.{any_text, dropped_item, is_no_brace, named_nodes, node_part, target_word, unnamed}
use Rattle.ll_parser.specs.NameReading.{any_of}
use Rattle.ll_parser.specs.Productions.{Production, ◌>>◌, listed, mark, maybe, nothing, word}
use Rattle.ll_parser.specs.Reading.{EndsNowhere}
use Rattle.ll_parser.specs.Spaces.{space_here}
use Rattle.ll_parser.proofs.TokenFacts.{same_first}
use Rattle.ll_attributes.specs.Attachments.{skipped_attachments}
use Rattle.ll_attributes.specs.Lists.{maybe_here}
use Rattle.ll_operands.specs.Parts.{Begins, Part, either, mark_part, nothing_part, one_word, repeated, ◌then◌, type_part, typed_part, value_part, word_part}
use Rattle.ll_operands.specs.Whole.{align_comma}
use Rattle.ll_heads.specs.HeadParts.{declaration_part}
use Rattle.ll_items.specs.declared.small_items.SmallItem.{SmallItem}
use Rattle.ll_items.specs.declared.small_items.SmallItem.TheVariants as small
use Rattle.ll_items.specs.declared.starts.Start.{Start}
use Rattle.ll_items.specs.declared.starts.Start.TheVariants as start
use Rattle.ll_items.specs.ItemParts.{StopsAtBrace, braced_part, free, group_name_part, inside_group, kind_part, metadata_part, node_name_part, open_part, some_part, text_part, type_name_part}
use Rattle.ll_items.specs.Starts.{item_part, small_here, start_of}
use Rattle.ll_items.specs.VariableParts.{align_here, alignment_part, behind_variable_type, contents_part, linkage_part, skipped_part, space_part, variable_head, variable_head_part, variable_kind}
use Rattle.ll_modules.specs.Definitions.{whole_definition_part}
use Rattle.ll_modules.specs.ModuleItems.{module_item_part, small_part}
use Rattle.ll_modules.specs.Modules.{ended, items_part}
use Rattle.ll_fronts.proofs.Attributes.{group_settles, keeps_linkage, keeps_skipped, local_skipped, node_settles, skipped_ends, skipped_passes}
use Rattle.ll_front_parts.proofs.Fronts.{IsLocal, Keeps, Sees, Settles, keeps_token, kept_as, one, sees_nowhere, sees_token, settled_as, settled_beside, settled_first, two}
use Rattle.ll_fronts.proofs.Insts.{keeps_linkages, keeps_unnamed, keeps_word_here, local_declaration, local_whole_definition}
use Rattle.ll_front_parts.proofs.Joins.{keeps_any, keeps_at, keeps_comma_then, keeps_listed, keeps_named, keeps_none, keeps_nothing, keeps_or, keeps_seq, keeps_up_to, local_comma_then, local_either, local_mark, local_one_word, local_repeated, local_then, local_word, sees_or}
use Rattle.ll_fronts.proofs.Joins.{local_free, local_sole, local_until}
use Rattle.ll_fronts.proofs.Operations.{local_align, sees_align}
use Rattle.ll_front_parts.proofs.Types.{keeps_space_here, keeps_type, local_global, local_type, local_type_then, named_settles, space_settles}
use Rattle.ll_front_parts.proofs.Values.{keeps_typed, keeps_value, local_typed, local_value}

-- lists
local_some : (item : Part) → IsLocal one item → IsLocal one (some_part item)
local_some item l =
    local_then one item (repeated (mark 44) (mark_part 44 then item)) l
    (local_repeated (mark 44) (mark_part 44 then item) (sees_token _ _) (local_then one (mark_part 44) item (local_mark 44) l))

local_braced : (item : Part) → IsLocal one item → IsLocal one (braced_part item)
local_braced item l =
    local_either one (mark 125) (mark_part 125) (some_part item then mark_part 125) (sees_token _ _) (local_mark 125)
    (local_then one (some_part item) (mark_part 125) (local_some item l) (local_mark 125))

local_kind : (kind : TokenKind) → IsLocal one (kind_part kind)
local_kind kind = local_sole (any_of kind) (sees_token _ _) (keeps_token _ _)

local_node_name : IsLocal one node_name_part
local_node_name = record { keeps = keeps_any one node_name (λ n. keeps_token _ _); settles = node_settles }

local_metadata : IsLocal one metadata_part
local_metadata =
    local_either one (any_of Mdn) node_name_part (either (any_of MdStr) (kind_part MdStr) (either (word (codes "null")) (word_part (codes "null")) typed_part))
    (sees_token _ _) local_node_name
    (local_either one (any_of MdStr) (kind_part MdStr) (either (word (codes "null")) (word_part (codes "null")) typed_part) (sees_token _ _) (local_kind MdStr)
    (local_either one (word (codes "null")) (word_part (codes "null")) typed_part (sees_token _ _) (local_word (codes "null")) local_typed))

-- items of known tokens
local_text : IsLocal one text_part
local_text = local_sole any_text (sees_token _ _) (keeps_token _ _)

local_open : IsLocal one open_part
local_open = local_then one (kind_part Bang) (mark_part 123) (local_kind Bang) (local_mark 123)

-- behind a `=`, 61
behind_equals : (p : Part) → IsLocal one p → IsLocal one (mark_part 61 then p)
behind_equals p l = local_then one (mark_part 61) p (local_mark 61) l

local_type_name : IsLocal one type_name_part
local_type_name = record { keeps = keeps_named _ (λ names name. keeps_token _ _); settles = named_settles _ _ }

local_distinct : IsLocal one (free (maybe_here (word (codes "distinct"))))
local_distinct = local_free (maybe_here (word (codes "distinct"))) (keeps_word_here (codes "distinct"))

-- the tokens between the braces of a group
keeps_no_braces : Keeps one (λ tokens rest. (group : List Lexeme) × All is_no_brace group × (tokens ≡ group ++ rest))
keeps_no_braces = record { keeps = λ tokens rest d. record { eaten = d.0; are = d.2; still = λ other same. (d.0, d.1, refl) } }

sees_brace : Sees one StopsAtBrace
sees_brace [] [] same stops l behind is other = stops l behind is other
sees_brace [] (y ∷ ys) same stops l behind is other = absurd same
sees_brace (x ∷ xs) [] same stops l behind is other = absurd same
sees_brace (x ∷ xs) (y ∷ ys) same stops l behind is other = stops x xs refl (subst is_no_brace (sym (same ∙ same_first y l ys behind is)) other)

keeps_inside : Keeps one inside_group
keeps_inside = keeps_up_to one (λ tokens rest. (group : List Lexeme) × All is_no_brace group × (tokens ≡ group ++ rest)) StopsAtBrace keeps_no_braces sees_brace

-- variables
local_space : IsLocal one space_part
local_space = record { keeps = keeps_any one space_here keeps_space_here; settles = space_settles }

sees_kind : Sees one (Begins variable_kind)
sees_kind = sees_or one (word (codes "global")) (word (codes "constant")) (sees_token _ _) (sees_token _ _)

keeps_kind : Keeps one variable_kind
keeps_kind = keeps_or one (word (codes "global")) (word (codes "constant")) (keeps_token _ _) (keeps_token _ _)

local_variable_head : IsLocal one variable_head_part
local_variable_head =
    local_then one linkage_part _ (local_free linkage_part.begins keeps_linkages)
    (local_then one (free (maybe_here (word (codes "dso_local")))) _ (local_free (maybe_here (word (codes "dso_local"))) (keeps_word_here (codes "dso_local")))
    (local_then one (free (maybe_here unnamed)) _ (local_free (maybe_here unnamed) keeps_unnamed)
    (local_then one space_part _ local_space (local_sole variable_kind sees_kind keeps_kind))))

local_contents : IsLocal one contents_part
local_contents =
    local_type_then one behind_variable_type
    (λ width. local_then one (value_part width) (alignment_part then skipped_part) (local_value width)
    (local_comma_then alignment_part skipped_part skipped_passes skipped_ends local_align local_skipped))

-- items by their first tokens
local_item : (s : Start) → IsLocal one (item_part s)
local_item start.Target =
    local_then one (word_part (codes "target")) _ (local_word (codes "target"))
    (local_then one (one_word target_word) (mark_part 61 then text_part) (local_one_word target_word) (behind_equals text_part local_text))
local_item start.Source =
    local_then one (word_part (codes "source_filename")) (mark_part 61 then text_part) (local_word (codes "source_filename")) (behind_equals text_part local_text)
local_item start.Group =
    local_then one (word_part (codes "attributes")) _ (local_word (codes "attributes"))
    (local_then one group_name_part _ (record { keeps = keeps_token _ _; settles = group_settles })
    (behind_equals (mark_part 123 then free inside_group then mark_part 125)
    (local_then one (mark_part 123) _ (local_mark 123)
    (local_then one (free inside_group) (mark_part 125) (local_free inside_group keeps_inside) (local_mark 125)))))
local_item start.Struct =
    local_then one type_name_part _ local_type_name (behind_equals (word_part (codes "type") then type_part)
    (local_then one (word_part (codes "type")) type_part (local_word (codes "type")) local_type))
local_item start.Variable =
    local_then one _ _ local_global (behind_equals (variable_head_part then contents_part)
    (local_then one variable_head_part contents_part local_variable_head local_contents))
local_item start.Node =
    local_then one node_name_part _ local_node_name (behind_equals (free (maybe_here (word (codes "distinct"))) then open_part then braced_part metadata_part)
    (local_then one (free (maybe_here (word (codes "distinct")))) _ local_distinct
    (local_then one open_part (braced_part metadata_part) local_open (local_braced metadata_part local_metadata))))
local_item start.Named =
    local_then one (kind_part MdName) _ (local_kind MdName)
    (behind_equals (open_part then braced_part node_name_part)
    (local_then one open_part (braced_part node_name_part) local_open (local_braced node_name_part local_node_name)))

sees_start : (s : Option Start) → Sees one (λ tokens. start_of tokens ≡ s)
sees_start s [] [] same is = is
sees_start s [] (y ∷ ys) same is = absurd same
sees_start s (x ∷ xs) [] same is = absurd same
sees_start s (x ∷ xs) (y ∷ ys) same is = ap (λ l. start_of (l ∷ xs)) (sym same) ∙ is

small_settles : Settles small_part.stops
small_settles tokens refusal (inl (s, is, d)) less =
    settled_as (λ ts r x. inl (s, x.0, x.1)) (settled_beside (λ ts. start_of ts ≡ Some s) (sees_start (Some s)) is ((local_item s).settles tokens refusal d less))
small_settles tokens refusal (inr d) less =
    settled_as (λ ts r x. inr x) (settled_first (λ ts. start_of ts ≡ None) (λ ts. 3) (sees_start None) (λ l a b. refl) tokens refusal d less)

-- the items of the grammar
keeps_listed_in : {A : Type 0} (item : A → Production) → ((x : A) → Keeps one (item x)) → (xs : List A) → Keeps one (any_of Bang >> mark 123 >> listed item xs >> mark 125)
keeps_listed_in item k xs =
    keeps_seq one (any_of Bang) _ (keeps_token _ _) (keeps_seq one (mark 123) _ (keeps_token _ _)
    (keeps_seq one (listed item xs) (mark 125) (keeps_listed item k xs) (keeps_token _ _)))

keeps_named_nodes : (name : List ℕ) (nodes : List NodeRef) → Keeps one (named_nodes name nodes)
keeps_named_nodes name nodes =
    keeps_seq one _ _ (keeps_token _ _) (keeps_seq one (mark 61) _ (keeps_token _ _) (keeps_listed_in node_name (λ n. keeps_token _ _) nodes))

keeps_node_part : (names : List NameText) (p : NodePart) → Keeps one (node_part names p)
keeps_node_part names (node_form.Node node) = keeps_token _ _
keeps_node_part names (node_form.Text bytes) = keeps_token _ _
keeps_node_part names node_form.Null = keeps_token _ _
keeps_node_part names (node_form.Value v) = keeps_typed names v

keeps_dropped : Keeps one dropped_item
keeps_dropped =
    keeps_or one (word (codes "source_filename") >> mark 61 >> any_text) _
    (keeps_seq one _ _ (keeps_token _ _) (keeps_seq one _ _ (keeps_token _ _) (keeps_token _ _)))
    (keeps_or one (word (codes "attributes") >> attribute_group >> mark 61 >> mark 123 >>
    (λ tokens rest. (group : List Lexeme) × All is_no_brace group × (tokens ≡ group ++ rest)) >> mark 125) _
    (keeps_seq one _ _ (keeps_token _ _) (keeps_seq one _ _ (keeps_token _ _)
    (keeps_seq one _ _ (keeps_token _ _) (keeps_seq one _ _ (keeps_token _ _) (keeps_seq one _ _ keeps_no_braces (keeps_token _ _))))))
    (record { keeps = λ tokens rest d. kept_as ((keeps_named_nodes d.0 d.1).keeps tokens rest d.3) (λ ts other same e. (d.0, d.1, d.2, e)) }))

keeps_align_here : (bytes : Option ℕ) → Keeps two (align_here bytes)
keeps_align_here None = keeps_none two (EndsNowhere align_comma) (sees_nowhere two align_comma sees_align)
keeps_align_here (Some bytes) = keeps_at two _ (keeps_seq one _ _ (keeps_token _ _) (keeps_seq one _ _ (keeps_token _ _) (keeps_token _ _)))

keeps_small : (names : List NameText) (i : SmallItem) → Keeps one (small_here names i)
keeps_small names (small.Target t) =
    keeps_seq one _ _ (keeps_token _ _) (keeps_seq one _ _ (keeps_token _ _) (keeps_seq one _ _ (keeps_token _ _) (keeps_token _ _)))
keeps_small names (small.Struct s) =
    keeps_seq one _ _ (keeps_token _ _) (keeps_seq one _ _ (keeps_token _ _) (keeps_seq one _ _ (keeps_token _ _) (keeps_type names s.ty)))
keeps_small names (small.Variable v) =
    keeps_seq one _ _ (keeps_token _ _) (keeps_seq one _ _ (keeps_token _ _) (keeps_seq one (variable_head v.linkage v.space) _
    (keeps_seq one _ _ (keeps_linkage v.linkage) (keeps_seq one _ _ (keeps_word_here (codes "dso_local"))
    (keeps_seq one _ _ keeps_unnamed (keeps_seq one _ _ (keeps_space_here v.space) keeps_kind))))
    (keeps_seq one _ _ (keeps_type names v.ty) (keeps_seq one _ _ (keeps_value names v.init v.ty)
    (keeps_comma_then (align_here v.align) skipped_attachments (keeps_align_here v.align) keeps_skipped skipped_ends)))))
keeps_small names (small.Versions nodes) = keeps_named_nodes (codes "opencl.ocl.version") nodes
keeps_small names (small.Node n) =
    keeps_seq one _ _ (keeps_token _ _) (keeps_seq one _ _ (keeps_token _ _)
    (keeps_seq one (maybe (word (codes "distinct"))) _ (keeps_or one (word (codes "distinct")) nothing (keeps_token _ _) (keeps_nothing one))
    (keeps_listed_in (node_part names) (keeps_node_part names) n.parts)))
keeps_small names small.Dropped = keeps_dropped

local_small : IsLocal one small_part
local_small = record { keeps = keeps_named small_here keeps_small; settles = small_settles }

-- items up to the end of the tokens
sees_end : Sees one (Begins ended)
sees_end [] [] same d = d
sees_end [] (y ∷ ys) same d = absurd same
sees_end (x ∷ xs) [] same d = absurd same
sees_end (x ∷ xs) (y ∷ ys) same (rest, end) = let e = ap length end in absurd (omega (arith, e))

pub local_items : IsLocal one items_part
local_items =
    local_until ended module_item_part nothing_part sees_end
    (local_either one (word (codes "define")) whole_definition_part (either (word (codes "declare")) declaration_part small_part)
    (sees_token _ _) local_whole_definition
    (local_either one (word (codes "declare")) declaration_part small_part (sees_token _ _) local_declaration local_small))
    (record { keeps = keeps_nothing one; settles = λ tokens refusal d less. absurd d })
