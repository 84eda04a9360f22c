-- Items as parts: each leaves one list of tokens, and refused tokens begin none.
use Rattle.std.proofs.Common.{◌≡◌, ℕ, List, [], ◌∷◌, ◌++◌, All, codes, refl, sym, ◌∙◌, subst, inl, inr}
use Rattle.std.proofs.lemmas.List.Elements.{All-head, All-tail}
use Rattle.ll_tokens.specs.declared.kinds.TokenKind.TheVariants.{Bang, MdName, Word}
use Rattle.ll_tokens.specs.Tokens.{Lexeme}
use Rattle.ll_tree.specs.declared.module.Node.{Node}
use Rattle.ll_tree.specs.declared.module.NodeRef.{NodeRef}
use Rattle.ll_tree.specs.declared.module.Struct.{Struct}
use Rattle.ll_tree.specs.declared.module.Target.{Target}
use Rattle.ll_tree.specs.declared.name.NameText.{NameText}
use Rattle.ll_parser.specs.GrammarAttributes.{node_name}
use Rattle.ll_parser.specs.GrammarItems.{any_text, is_no_brace, named_nodes, node, node_part, target, target_word}
use Rattle.ll_parser.specs.NameReading.{any_of}
use Rattle.ll_parser.specs.Productions.{Production, ◌>>◌, maybe, word}
use Rattle.ll_parser.proofs.EndFacts.{Ends, ends_same, ends_then, token_ends}
use Rattle.ll_parser.proofs.SpaceFacts.{word_leaves_one}
use Rattle.ll_parser.proofs.TokenFacts.{same_rest, token_leaves_one}
use Rattle.ll_types.proofs.Tokens.{EndsBy, kinds_apart, token_end}
use Rattle.ll_attributes.specs.Lists.{maybe_here}
use Rattle.ll_attributes.proofs.ListFacts.{maybe_one}
use Rattle.ll_operands.specs.Parts.{mark_part, one_word, ◌then◌, type_part, word_part}
use Rattle.ll_operands.proofs.PartFacts.{IsExact, exact_mark, exact_one_word, exact_then, exact_type, exact_word}
use Rattle.ll_items.specs.ItemParts.{StopsAtBrace, braced_part, free, group_item, group_name_part, inside_group, metadata_part, named_item, node_item, node_name_part, open_part, source_item, struct_here, struct_item, target_item, text_part, type_name_part}
use Rattle.ll_items.proofs.ListsRead.{braced_is_part, exact_braced}
use Rattle.ll_items.proofs.NodeFacts.{exact_free, exact_kind, exact_metadata, exact_node_name, exact_sole, metadata_is_part, metadata_no_close, node_no_close}

exact_text : IsExact text_part
exact_text = exact_sole any_text (token_leaves_one _ _ _) (token_end _ _)

exact_type_name : IsExact type_name_part
exact_type_name = record {
  one = λ tokens a b d e. token_leaves_one _ _ _ tokens a b d.2 e.2;
  none = λ tokens rest refusal s d. s.0 d.0 d.1 rest d.2;
  ends = λ tokens rest d. token_ends _ _ tokens rest d.2;
}

exact_group_name : IsExact group_name_part
exact_group_name = record {
  one = token_leaves_one _ _ _;
  none = λ tokens rest refusal s d. s.0 rest d;
  ends = token_end _ _;
}

pub maybe_ends : (p : Production) → EndsBy p → EndsBy (maybe_here p)
maybe_ends p ends tokens rest (inl d) = ends tokens rest d
maybe_ends p ends tokens rest (inr (same, _)) = ends_same tokens rest same

pub exact_maybe : (p : Production) → ((tokens a b : List Lexeme) → p tokens a → p tokens b → a ≡ b) → EndsBy p → IsExact (free (maybe_here p))
exact_maybe p one ends = exact_free (maybe_here p) (maybe_one p one) (maybe_ends p ends)

exact_open : IsExact open_part
exact_open = exact_then _ _ (exact_kind Bang) (exact_mark 123)

-- the tokens between the braces of a group
no_brace_one : (xs ys : List Lexeme) (a b : List Lexeme) → All is_no_brace xs → All is_no_brace ys → StopsAtBrace a → StopsAtBrace b → xs ++ a ≡ ys ++ b → a ≡ b
no_brace_one [] [] a b all all' stop stop' e = e
no_brace_one [] (y ∷ ys) a b all all' stop stop' e = absurd (stop y (ys ++ b) e (All-head is_no_brace y ys all'))
no_brace_one (x ∷ xs) [] a b all all' stop stop' e = absurd (stop' x (xs ++ a) (sym e) (All-head is_no_brace x xs all))
no_brace_one (x ∷ xs) (y ∷ ys) a b all all' stop stop' e =
    no_brace_one xs ys a b (All-tail is_no_brace x xs all) (All-tail is_no_brace y ys all') stop stop' (same_rest x y (xs ++ a) (ys ++ b) e)

inside_one : (tokens a b : List Lexeme) → inside_group tokens a → inside_group tokens b → a ≡ b
inside_one tokens a b ((xs, all, is), stop) ((ys, all', is'), stop') = no_brace_one xs ys a b all all' stop stop' (sym is ∙ is')

behind_front : (xs tokens rest : List Lexeme) → tokens ≡ xs ++ rest → Ends tokens rest
behind_front [] tokens rest is = ends_same tokens rest is
behind_front (x ∷ xs) tokens rest is =
    ends_then tokens (xs ++ rest) rest (token_ends x.kind (λ _. Unit {0}) tokens (xs ++ rest) (x, is, refl, tt)) (behind_front xs (xs ++ rest) rest refl)

inside_ends : EndsBy inside_group
inside_ends tokens rest ((xs, all, is), stop) = behind_front xs tokens rest is

-- the items
pub exact_target : IsExact target_item
exact_target = exact_then _ _ (exact_word (codes "target")) (exact_then _ _ (exact_one_word target_word) (exact_then _ _ (exact_mark 61) exact_text))

pub exact_struct : IsExact struct_item
exact_struct = exact_then _ _ exact_type_name (exact_then _ _ (exact_mark 61) (exact_then _ _ (exact_word (codes "type")) exact_type))

pub exact_node : IsExact node_item
exact_node =
    exact_then _ _ exact_node_name (exact_then _ _ (exact_mark 61) (exact_then _ _ (exact_maybe (word (codes "distinct")) (word_leaves_one (codes "distinct")) (token_end _ _))
    (exact_then _ _ exact_open (exact_braced metadata_part exact_metadata))))

pub exact_named : IsExact named_item
exact_named = exact_then _ _ (exact_kind MdName) (exact_then _ _ (exact_mark 61) (exact_then _ _ exact_open (exact_braced node_name_part exact_node_name)))

pub exact_source : IsExact source_item
exact_source = exact_then _ _ (exact_word (codes "source_filename")) (exact_then _ _ (exact_mark 61) exact_text)

pub exact_group : IsExact group_item
exact_group =
    exact_then _ _ (exact_word (codes "attributes")) (exact_then _ _ exact_group_name (exact_then _ _ (exact_mark 61) (exact_then _ _ (exact_mark 123)
    (exact_then _ _ (exact_free inside_group inside_one inside_ends) (exact_mark 125)))))

pub target_is_part : (t : Target) (tokens rest : List Lexeme) → target t tokens rest → target_item.begins tokens rest
unfolding ◌>>◌
target_is_part t tokens rest (m, (l, is, kind, (text, byte)), (n, w, (p, sign, (l', is', kind', bytes)))) = (m, (l, is, kind, text), (n, (t.kind, w), (p, sign, (l', is', kind', tt))))

pub struct_is_part : (names : List NameText) (s : Struct) (tokens rest : List Lexeme) → struct_here names s tokens rest → struct_item.begins tokens rest
unfolding ◌>>◌
struct_is_part names s tokens rest (m, name, (n, sign, (p, w, t))) = (m, (names, s.name, name), (n, sign, (p, w, (names, s.ty, t))))

-- `distinct` before a `!`
pub distinct_here : (tokens middle rest : List Lexeme) → maybe (word (codes "distinct")) tokens middle → any_of Bang middle rest → maybe_here (word (codes "distinct")) tokens middle
distinct_here tokens middle rest (inl w) bang = inl w
distinct_here tokens middle rest (inr same) bang =
    inr (same, λ b w. kinds_apart Word Bang _ (λ _. Unit {0}) tokens b rest (λ e. cc) w (subst (λ ls. any_of Bang ls rest) (sym same) bang))

pub node_is_part : (names : List NameText) (n : Node) (tokens rest : List Lexeme) → node names n tokens rest → node_item.begins tokens rest
unfolding ◌>>◌
node_is_part names n tokens rest (m, name, (p, sign, (q, distinct, (r, bang, (s, brace, parts))))) =
    (m, (record { number = n.number; byte = n.byte }, name), (p, sign, (q, distinct_here p q r distinct bang, (s, (r, bang, brace), braced_is_part node_part metadata_part metadata_is_part metadata_no_close names n.parts s rest parts))))

pub named_is_part : (name : List ℕ) (nodes : List NodeRef) (tokens rest : List Lexeme) → named_nodes name nodes tokens rest → named_item.begins tokens rest
unfolding ◌>>◌
named_is_part name nodes tokens rest (m, (l, is, kind, text), (p, sign, (q, bang, (r, brace, parts)))) =
    (m, (l, is, kind, tt), (p, sign, (r, (q, bang, brace), braced_is_part (λ _. node_name) node_name_part (λ names n tokens rest d. (n, d)) node_no_close [] nodes r rest parts)))
