-- Items of modules are refused at one place, by one rule.
use Rattle.std.proofs.Common.{◌≡◌, ℕ, List, [], ◌∷◌, ◌++◌, All, codes, sym, ◌∙◌, subst, inl, inr, None, Some}
use Rattle.std.proofs.lemmas.List.Elements.{All-head, All-tail}
use Rattle.ll_tokens.specs.declared.kinds.TokenKind.TheVariants.{Bang, MdName, MdStr, Mdn}
use Rattle.ll_tokens.specs.Tokens.{Lexeme}
use Rattle.ll_parser.specs.GrammarItems.{any_text, is_no_brace, target_word, unnamed}
use Rattle.ll_parser.specs.NameReading.{any_of}
use Rattle.ll_parser.specs.Productions.{◌>>◌, ◌or◌, mark, word}
use Rattle.ll_parser.specs.Spaces.{space_here}
use Rattle.ll_parser.proofs.EndFacts.{ends_same}
use Rattle.ll_parser.proofs.SpaceFacts.{word_leaves_one}
use Rattle.ll_parser.proofs.TokenFacts.{same_rest, token_leaves_one}
use Rattle.ll_types.proofs.Tokens.{EndsBy, seq_ends, token_end}
use Rattle.ll_attributes.specs.Heads.{linkage_here}
use Rattle.ll_attributes.specs.Lists.{maybe_here}
use Rattle.ll_tree.specs.declared.module.Linkage.{Linkage}
use Rattle.ll_tree.specs.declared.module.Linkage.TheVariants.{External, Internal, Private}
use Rattle.ll_attributes.proofs.HeadFacts.{linkage_same}
use Rattle.ll_attributes.proofs.ListFacts.{maybe_one}
use Rattle.ll_attributes.proofs.OneRefusal.{group_once, node_once, skipped_once}
use Rattle.ll_operands.specs.Parts.{Begins, Part, either, mark_part, nothing_part, number_part, repeated, ◌then◌, typed_part, value_part, word_part}
use Rattle.ll_operands.specs.Whole.{align_comma}
use Rattle.ll_operands.proofs.PartFacts.{IsExact, exact_global, exact_mark, exact_number, exact_one_word, exact_optional, exact_then, exact_value, exact_word}
use Rattle.ll_heads.specs.HeadParts.{declaration_part}
use Rattle.ll_heads.proofs.HeadExact.{unnamed_one}
use Rattle.ll_items.specs.declared.starts.Start.{Start}
use Rattle.ll_items.specs.declared.starts.Start.TheVariants as start
use Rattle.ll_items.specs.ItemParts.{StopsAtBrace, braced_part, group_item, group_name_part, inside_group, kind_part, metadata_part, named_item, node_item, node_name_part, open_part, some_part, source_item, struct_item, target_item, text_part}
use Rattle.ll_items.specs.Starts.{item_part}
use Rattle.ll_items.specs.VariableParts.{alignment_part, behind_variable_type, contents_part, skipped_part, space_part, variable_head_part, variable_item, variable_kind}
use Rattle.ll_items.proofs.ListsRead.{exact_some}
use Rattle.ll_items.proofs.ItemFacts.{exact_maybe}
use Rattle.ll_items.proofs.NodeFacts.{exact_free, exact_kind, exact_metadata, exact_node_name, exact_sole}
use Rattle.ll_items.proofs.VariableFacts.{words_one}
use Rattle.ll_modules.specs.Definitions.{whole_definition_part}
use Rattle.ll_modules.specs.ModuleItems.{module_item_part, small_part}
use Rattle.ll_modules.specs.Modules.{ended, items_part}
use Rattle.ll_modules.proofs.ItemsExact.{exact_module_item}
use Rattle.ll_places.proofs.Insts.{once_declaration, once_whole_definition}
use Rattle.ll_places.proofs.Joins.{Once, RefusesOnce, once_either, once_one_word, once_optional, once_repeated, once_then, once_type_then, once_until}
use Rattle.ll_places.proofs.Leaves.{exact_type_name, once_behind, once_global, once_mark, once_nothing, once_number, once_type_name, once_word, space_once, space_one, space_refused, unexpected_once}
use Rattle.ll_places.proofs.Types.{once_type}
use Rattle.ll_places.proofs.Values.{once_typed, once_value}

-- lists
once_some : (item : Part) → IsExact item → Once item → Once (some_part item)
once_some item exact once =
    once_then item (repeated (mark 44) (mark_part 44 then item)) exact once
    (once_repeated (mark 44) (mark_part 44 then item) (exact_then (mark_part 44) item (exact_mark 44) exact) (once_then (mark_part 44) item (exact_mark 44) (once_mark 44) once))

once_braced : (item : Part) → IsExact item → Once item → Once (braced_part item)
once_braced item exact once =
    once_either (mark 125) (mark_part 125) (some_part item then mark_part 125) (once_mark 125)
    (once_then (some_part item) (mark_part 125) (exact_some item exact) (once_some item exact once) (once_mark 125))

once_metadata : Once metadata_part
once_metadata =
    once_either (any_of Mdn) node_name_part (either (any_of MdStr) (kind_part MdStr) (either (word (codes "null")) (word_part (codes "null")) typed_part)) (record { refuses = node_once })
    (once_either (any_of MdStr) (kind_part MdStr) (either (word (codes "null")) (word_part (codes "null")) typed_part) (record { refuses = unexpected_once (any_of MdStr) })
    (once_either (word (codes "null")) (word_part (codes "null")) typed_part (once_word (codes "null")) once_typed))

-- items of known tokens
exact_group_name : IsExact group_name_part
exact_group_name = record { one = token_leaves_one _ _ _; none = λ tokens rest refusal s d. s.0 rest d; ends = token_end _ _ }

exact_open : IsExact open_part
exact_open = exact_then _ _ (exact_kind Bang) (exact_mark 123)

once_open : Once open_part
once_open = once_then _ _ (exact_kind Bang) (record { refuses = unexpected_once (any_of Bang) }) (once_mark 123)

once_target : Once target_item
once_target =
    once_then _ _ (exact_word (codes "target")) (once_word (codes "target")) (once_then _ _ (exact_one_word target_word) (once_one_word target_word)
    (once_then (mark_part 61) text_part (exact_mark 61) (once_mark 61) (record { refuses = unexpected_once any_text })))

once_source : Once source_item
once_source =
    once_then _ _ (exact_word (codes "source_filename")) (once_word (codes "source_filename")) (once_then (mark_part 61) text_part (exact_mark 61) (once_mark 61) (record { refuses = unexpected_once any_text }))

once_struct : Once struct_item
once_struct =
    once_then _ _ exact_type_name once_type_name (once_then _ _ (exact_mark 61) (once_mark 61) (once_then _ _ (exact_word (codes "type")) (once_word (codes "type")) once_type))

once_node : Once node_item
once_node =
    once_then _ _ exact_node_name (record { refuses = node_once }) (once_then _ _ (exact_mark 61) (once_mark 61)
    (once_behind (maybe_here (word (codes "distinct"))) (open_part then braced_part metadata_part) (maybe_one (word (codes "distinct")) (word_leaves_one (codes "distinct")))
    (once_then _ _ exact_open once_open (once_braced metadata_part exact_metadata once_metadata))))

once_named : Once named_item
once_named =
    once_then _ _ (exact_kind MdName) (record { refuses = unexpected_once (any_of MdName) }) (once_then _ _ (exact_mark 61) (once_mark 61)
    (once_then _ _ exact_open once_open (once_braced node_name_part exact_node_name (record { refuses = node_once }))))

-- the tokens between the braces of a group
inside_one : (tokens a b : List Lexeme) → inside_group tokens a → inside_group tokens b → a ≡ b
inside_one tokens a b ((xs, all, is), stop) ((ys, all', is'), stop') = no_brace_one xs ys a b all all' stop stop' (sym is ∙ is')
  where
    no_brace_one : (xs ys a b : List Lexeme) → All is_no_brace xs → All is_no_brace ys → StopsAtBrace a → StopsAtBrace b → xs ++ a ≡ ys ++ b → a ≡ b
    no_brace_one [] [] a b all all' stop stop' e = e
    no_brace_one [] (y ∷ ys) a b all all' stop stop' e = absurd (stop y (ys ++ b) e (All-head is_no_brace y ys all'))
    no_brace_one (x ∷ xs) [] a b all all' stop stop' e = absurd (stop' x (xs ++ a) (sym e) (All-head is_no_brace x xs all))
    no_brace_one (x ∷ xs) (y ∷ ys) a b all all' stop stop' e =
        no_brace_one xs ys a b (All-tail is_no_brace x xs all) (All-tail is_no_brace y ys all') stop stop' (same_rest x y (xs ++ a) (ys ++ b) e)

once_group : Once group_item
once_group =
    once_then _ _ (exact_word (codes "attributes")) (once_word (codes "attributes")) (once_then _ _ exact_group_name (record { refuses = group_once })
    (once_then _ _ (exact_mark 61) (once_mark 61) (once_then _ _ (exact_mark 123) (once_mark 123) (once_behind inside_group (mark_part 125) inside_one (once_mark 125)))))

-- variables
space_end : (v : ℕ) → EndsBy (space_here v)
space_end v tokens rest (inl d) = seq_ends _ _ (token_end _ _) (seq_ends _ _ (token_end _ _) (seq_ends _ _ (token_end _ _) (token_end _ _))) tokens rest d
space_end v tokens rest (inr (_, same, _)) = ends_same tokens rest same

exact_space : IsExact space_part
exact_space = record {
  one = λ tokens a b d e. space_one d.0 e.0 tokens a b d.1 e.1;
  none = λ tokens rest refusal s d. space_refused tokens refusal s d.0 rest d.1;
  ends = λ tokens rest d. space_end d.0 tokens rest d.1;
}

once_variable_head : Once variable_head_part
once_variable_head =
    once_behind _ _ (λ tokens a b d e. (linkage_same d.0 e.0 tokens a b d.1 e.1).1)
    (once_behind (maybe_here (word (codes "dso_local"))) _ (maybe_one (word (codes "dso_local")) (word_leaves_one (codes "dso_local")))
    (once_behind (maybe_here unnamed) _ (maybe_one unnamed unnamed_one)
    (once_then space_part _ exact_space (record { refuses = space_once }) (record { refuses = unexpected_once variable_kind }))))

align_opens : (tokens rest : List Lexeme) → (mark_part 44 then word_part (codes "align") then number_part).begins tokens rest → Begins align_comma tokens
unfolding ◌>>◌
align_opens tokens rest (m, comma, (n, w, d)) = (n, (m, comma, w))

exact_alignment : IsExact alignment_part
exact_alignment =
    exact_optional align_comma (mark_part 44 then word_part (codes "align") then number_part) (exact_then _ _ (exact_mark 44) (exact_then _ _ (exact_word (codes "align")) exact_number)) align_opens

once_alignment : Once alignment_part
once_alignment =
    once_optional align_comma (mark_part 44 then word_part (codes "align") then number_part)
    (once_then _ _ (exact_mark 44) (once_mark 44) (once_then _ _ (exact_word (codes "align")) (once_word (codes "align")) once_number))

once_contents : Once contents_part
once_contents =
    once_type_then behind_variable_type once_type
    (λ width. once_then (value_part width) (alignment_part then skipped_part) (exact_value width) (once_value width) (once_then alignment_part skipped_part exact_alignment once_alignment (record { refuses = skipped_once })))

exact_variable_head : IsExact variable_head_part
exact_variable_head =
    exact_then _ _ (exact_free _ (λ tokens a b d e. (linkage_same d.0 e.0 tokens a b d.1 e.1).1) (λ tokens rest d. linkage_end d.0 tokens rest d.1))
    (exact_then _ _ (exact_maybe (word (codes "dso_local")) (word_leaves_one (codes "dso_local")) (token_end _ _))
    (exact_then _ _ (exact_maybe unnamed unnamed_one (words_end (codes "unnamed_addr") (codes "local_unnamed_addr")))
    (exact_then _ _ exact_space (exact_sole variable_kind (words_one (codes "global") (codes "constant")) (words_end (codes "global") (codes "constant"))))))
  where
    words_end : (v w : List ℕ) → EndsBy (word v or word w)
    words_end v w tokens rest (inl d) = token_end _ _ tokens rest d
    words_end v w tokens rest (inr d) = token_end _ _ tokens rest d

    linkage_end : (l : Linkage) → EndsBy (linkage_here l)
    linkage_end External tokens rest (same, _, _) = ends_same tokens rest same
    linkage_end Internal tokens rest w = token_end _ _ tokens rest w
    linkage_end Private tokens rest w = token_end _ _ tokens rest w

once_variable : Once variable_item
once_variable =
    once_then _ _ exact_global once_global (once_then _ _ (exact_mark 61) (once_mark 61)
    (once_then variable_head_part contents_part exact_variable_head once_variable_head once_contents))

-- items by their first tokens
once_item : (s : Start) → Once (item_part s)
once_item start.Target = once_target
once_item start.Source = once_source
once_item start.Group = once_group
once_item start.Struct = once_struct
once_item start.Variable = once_variable
once_item start.Node = once_node
once_item start.Named = once_named

some_none : (s : Start) → Some s ≡ None → ⊥
some_none s e = absurd cc

one_start : (a b : Start) → Some a ≡ Some b → a ≡ b
one_start a b e = cc

small_once : RefusesOnce small_part.stops
small_once tokens r s (inl (a, is, d)) (inl (b, is', e)) =
    (once_item a).refuses tokens r s d (subst (λ x. (item_part x).stops tokens s) (one_start b a (sym is' ∙ is)) e)
small_once tokens r s (inl (a, is, d)) (inr (none, _)) = absurd (some_none a (sym is ∙ none))
small_once tokens r s (inr (none, _)) (inl (a, is, d)) = absurd (some_none a (sym is ∙ none))
small_once tokens r s (inr (_, place)) (inr (_, place')) = place ∙ sym place'

once_small : Once small_part
once_small = record { refuses = small_once }

once_module_item : Once module_item_part
once_module_item =
    once_either (word (codes "define")) whole_definition_part (either (word (codes "declare")) declaration_part small_part) once_whole_definition
    (once_either (word (codes "declare")) declaration_part small_part once_declaration once_small)

-- items up to the end of the tokens
pub once_items : Once items_part
once_items = once_until ended module_item_part nothing_part exact_module_item once_module_item once_nothing
