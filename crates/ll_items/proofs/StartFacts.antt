-- Items by their first tokens: each begins as its start says, leaves one list of tokens, and is of the grammar.
use Rattle.std.proofs.Common.{◌≡◌, ℕ, List, [], ◌∷◌, codes, refl, sym, ap, ap₂, ◌∙◌, subst, inl, inr, Option, None, Some, arith}
use Rattle.ll_tokens.specs.declared.kinds.TokenKind.{TokenKind}
use Rattle.ll_tokens.specs.declared.kinds.TokenKind.TheVariants.{Global as GlobalToken, Local as LocalToken, MdName, Mdn, Word}
use Rattle.ll_tokens.specs.Tokens.{Lexeme}
use Rattle.ll_tree.specs.declared.name.NameText.{NameText}
use Rattle.ll_parser.specs.declared.refusal.Refusal.{Refusal}
use Rattle.ll_parser.specs.GrammarItems.{dropped_item, is_no_brace, item}
use Rattle.ll_parser.specs.NameReading.{any_of}
use Rattle.ll_parser.specs.Productions.{Production, ◌>>◌, mark, word}
use Rattle.ll_items.specs.declared.small_items.SmallItem.{SmallItem}
use Rattle.ll_items.specs.declared.small_items.SmallItem.TheVariants as small
use Rattle.ll_items.specs.declared.starts.Start.{Start}
use Rattle.ll_items.specs.declared.starts.Start.TheVariants as start
use Rattle.ll_items.specs.ItemParts.{StopsAtBrace, group_item}
use Rattle.ll_items.specs.Starts.{EndsItem, SmallFails, item_of, item_part, small_here, start_of, token_start, word_start}
use Rattle.ll_parser.proofs.TokenFacts.{same_first}
use Rattle.ll_operands.proofs.PartFacts.{IsExact}
use Rattle.ll_items.proofs.ItemFacts.{exact_group, exact_named, exact_node, exact_source, exact_struct, exact_target, named_is_part, node_is_part, struct_is_part, target_is_part}
use Rattle.ll_items.proofs.VariableFacts.{exact_variable, variable_is_part}
use Rattle.ll_items.proofs.VariableWhole.{variable_right, variable_whole}
use Rattle.ll_items.proofs.WholeFacts.{struct_right, struct_whole}

by_word : (text : List ℕ) (s : Start) (tokens rest : List Lexeme) → word_start text ≡ Some s → word text tokens rest → start_of tokens ≡ Some s
by_word text s tokens rest starts (l, is, kind, spelled) = ap start_of is ∙ ap₂ token_start kind spelled ∙ starts

by_kind : (kind : TokenKind) (s : Start) (tokens rest : List Lexeme) → ((text : List ℕ) → token_start kind text ≡ Some s) → any_of kind tokens rest → start_of tokens ≡ Some s
by_kind kind s tokens rest starts (l, is, of_kind, _) = ap start_of is ∙ ap (λ k. token_start k l.text) of_kind ∙ starts l.text

record Started (tokens rest : List Lexeme) : Type 0 where
  first : Start
  starts : start_of tokens ≡ Some first
  begins : (item_part first).begins tokens rest

exact_item : (s : Start) → IsExact (item_part s)
exact_item start.Target = exact_target
exact_item start.Source = exact_source
exact_item start.Group = exact_group
exact_item start.Struct = exact_struct
exact_item start.Variable = exact_variable
exact_item start.Node = exact_node
exact_item start.Named = exact_named

-- a group of the grammar
stops_at_close : (tokens rest : List Lexeme) → mark 125 tokens rest → StopsAtBrace tokens
stops_at_close tokens rest (l, is, _, text) other behind is' none = none.1 (ap (λ (t : Lexeme). t.text) (same_first other l behind rest (sym is' ∙ is)) ∙ text)

dropped_started : (tokens rest : List Lexeme) → dropped_item tokens rest → Started tokens rest
unfolding ◌>>◌
dropped_started tokens rest (inl (m, w, more)) = record { first = start.Source; starts = by_word (codes "source_filename") start.Source tokens m refl w; begins = (m, w, more) }
dropped_started tokens rest (inr (inl (m, w, (n, group, (p, sign, (q, brace, (r, inside, close))))))) = record {
  first = start.Group;
  starts = by_word (codes "attributes") start.Group tokens m refl w;
  begins = (m, w, (n, group, (p, sign, (q, brace, (r, (inside, stops_at_close r rest close), close)))));
}
dropped_started tokens rest (inr (inr (name, nodes, differs, (m, (l, is, kind, text), more)))) = record {
  first = start.Named;
  starts = by_kind MdName start.Named tokens m (λ text. refl) (l, is, kind, tt);
  begins = named_is_part name nodes tokens rest (m, (l, is, kind, text), more);
}

started : (names : List NameText) (i : SmallItem) (tokens rest : List Lexeme) → small_here names i tokens rest → Started tokens rest
unfolding ◌>>◌
started names (small.Target t) tokens rest (m, (l, is, kind, (text, byte)), more) = record {
  first = start.Target;
  starts = by_word (codes "target") start.Target tokens m refl (l, is, kind, text);
  begins = target_is_part t tokens rest (m, (l, is, kind, (text, byte)), more);
}
started names (small.Struct s) tokens rest (m, (l, is, kind, passes), more) = record {
  first = start.Struct;
  starts = by_kind LocalToken start.Struct tokens m (λ text. refl) (l, is, kind, tt);
  begins = struct_is_part names s tokens rest (m, (l, is, kind, passes), more);
}
started names (small.Variable v) tokens rest (m, (l, is, kind, passes), more) = record {
  first = start.Variable;
  starts = by_kind GlobalToken start.Variable tokens m (λ text. refl) (l, is, kind, tt);
  begins = variable_is_part names v tokens rest (m, (l, is, kind, passes), more);
}
started names (small.Node n) tokens rest (m, (l, is, kind, passes), more) = record {
  first = start.Node;
  starts = by_kind Mdn start.Node tokens m (λ text. refl) (l, is, kind, tt);
  begins = node_is_part names n tokens rest (m, (l, is, kind, passes), more);
}
started names (small.Versions nodes) tokens rest (m, (l, is, kind, passes), more) = record {
  first = start.Named;
  starts = by_kind MdName start.Named tokens m (λ text. refl) (l, is, kind, tt);
  begins = named_is_part (codes "opencl.ocl.version") nodes tokens rest (m, (l, is, kind, passes), more);
}
started names small.Dropped tokens rest d = dropped_started tokens rest d

known : Start → Option Start → Start
known s None = s
known s (Some t) = t

same_part : (tokens rest : List Lexeme) (s : Start) (x : Started tokens rest) → start_of tokens ≡ Some s → (item_part s).begins tokens rest
unfolding known
same_part tokens rest s x starts = subst (λ (t : Start). (item_part t).begins tokens rest) (ap (known s) (sym x.starts ∙ starts)) x.begins

pub small_one : (names other : List NameText) (i j : SmallItem) (tokens a b : List Lexeme) → small_here names i tokens a → small_here other j tokens b → a ≡ b
small_one names other i j tokens a b d e =
    let x : Started tokens a = started names i tokens a d in
    let y : Started tokens b = started other j tokens b e in
    (exact_item x.first).one tokens a b x.begins (same_part tokens b x.first y x.starts)

pub small_none : (tokens : List Lexeme) (refusal : Refusal) → SmallFails tokens refusal → (names : List NameText) (i : SmallItem) (rest : List Lexeme) → small_here names i tokens rest → ⊥
small_none tokens refusal (s, starts, stops) names i rest d = (exact_item s).none tokens rest refusal stops (same_part tokens rest s (started names i tokens rest d) starts)

some_start : Option Start → ℕ
some_start None = 0
some_start (Some s) = 1

pub none_starts : (tokens : List Lexeme) → start_of tokens ≡ None → (names : List NameText) (i : SmallItem) (rest : List Lexeme) → small_here names i tokens rest → ⊥
unfolding some_start
none_starts tokens none names i rest d =
    let x : Started tokens rest = started names i tokens rest d in
    let e : 0 ≡ 1 = ap some_start (sym none ∙ x.starts) in
    absurd (omega (arith, e))

-- what is read is of the grammar, and an item before tokens that don't go on with it is that which is read
pub small_right : (names : List NameText) (i : SmallItem) (tokens rest : List Lexeme) → small_here names i tokens rest → item names (item_of i) tokens rest
small_right names (small.Target t) tokens rest d = d
small_right names (small.Struct s) tokens rest d = struct_right names s tokens rest d
small_right names (small.Variable v) tokens rest d = variable_right names v tokens rest d
small_right names (small.Node n) tokens rest d = d
small_right names (small.Versions nodes) tokens rest d = d
small_right names small.Dropped tokens rest d = d

pub small_whole : (names : List NameText) (i : SmallItem) (tokens rest : List Lexeme) → item names (item_of i) tokens rest → EndsItem rest → small_here names i tokens rest
small_whole names (small.Target t) tokens rest d ends = d
small_whole names (small.Struct s) tokens rest d ends = struct_whole names s tokens rest d ends.no_pointer
small_whole names (small.Variable v) tokens rest d ends = variable_whole names v tokens rest d ends.no_comma
small_whole names (small.Node n) tokens rest d ends = d
small_whole names (small.Versions nodes) tokens rest d ends = d
small_whole names small.Dropped tokens rest d ends = d
