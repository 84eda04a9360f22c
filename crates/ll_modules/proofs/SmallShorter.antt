-- What an item that is no function leaves is shorter than its tokens. It is an end of them, and it is left as well where the first
-- token stands at another place, so that token isn't among what is left.
use Rattle.std.proofs.Common.{◌≡◌, ℕ, zero, suc, ◌-◌, ◌<◌, List, ◌∷◌, length, drop, refl, sym, ap, ◌∙◌, subst, inl, inr, arith}
use Rattle.ll_tokens.specs.Tokens.{Lexeme}
use Rattle.ll_tree.specs.declared.name.NameText.{NameText}
use Rattle.ll_parser.specs.GrammarItems.{dropped_item}
use Rattle.ll_parser.specs.Productions.{◌>>◌, mark}
use Rattle.ll_parser.proofs.EndFacts.{Ends, ends_drop}
use Rattle.ll_parser.proofs.TokenFacts.{same_first}
use Rattle.ll_types.proofs.Tokens.{EndsBy, Shortens}
use Rattle.ll_items.specs.declared.small_items.SmallItem.{SmallItem}
use Rattle.ll_items.specs.declared.small_items.SmallItem.TheVariants as small
use Rattle.ll_items.specs.ItemParts.{StopsAtBrace}
use Rattle.ll_items.specs.Starts.{small_here}
use Rattle.ll_items.proofs.ItemFacts.{exact_group, exact_named, exact_node, exact_source, exact_struct, exact_target, named_is_part, node_is_part, struct_is_part, target_is_part}
use Rattle.ll_items.proofs.VariableFacts.{exact_variable, variable_is_part}

-- the tokens that are left are an end of the others
stops_at_close : (tokens rest : List Lexeme) → mark 125 tokens rest → StopsAtBrace tokens
stops_at_close tokens rest (l, is, kind, text) other behind is' none = none.1 (ap (λ (t : Lexeme). t.text) (same_first other l behind rest (sym is' ∙ is)) ∙ text)

dropped_end : EndsBy dropped_item
unfolding ◌>>◌
dropped_end tokens rest (inl (m, w, more)) = exact_source.ends tokens rest (m, w, more)
dropped_end tokens rest (inr (inl (m, w, (n, group, (p, sign, (q, brace, (r, inside, close))))))) =
    exact_group.ends tokens rest (m, w, (n, group, (p, sign, (q, brace, (r, (inside, stops_at_close r rest close), close)))))
dropped_end tokens rest (inr (inr (name, nodes, differs, d))) = exact_named.ends tokens rest (named_is_part name nodes tokens rest d)

pub small_end : (names : List NameText) (i : SmallItem) → EndsBy (small_here names i)
small_end names (small.Target t) tokens rest d = exact_target.ends tokens rest (target_is_part t tokens rest d)
small_end names (small.Struct s) tokens rest d = exact_struct.ends tokens rest (struct_is_part names s tokens rest d)
small_end names (small.Variable v) tokens rest d = exact_variable.ends tokens rest (variable_is_part names v tokens rest d)
small_end names (small.Node n) tokens rest d = exact_node.ends tokens rest (node_is_part names n tokens rest d)
small_end names (small.Versions nodes) tokens rest d = exact_named.ends tokens rest (named_is_part _ nodes tokens rest d)
small_end names small.Dropped tokens rest d = dropped_end tokens rest d

-- a token at another place
moved : Lexeme → Lexeme
moved l = record l { byte = suc l.byte }

moved_differs : (l : Lexeme) → l ≡ moved l → ⊥
unfolding moved
moved_differs l e =
    let places : l.byte ≡ suc l.byte = ap (λ (t : Lexeme). t.byte) e in
    absurd (omega arith)

-- the same item, but perhaps for its place, with another first token
record Elsewhere (names : List NameText) (tokens rest : List Lexeme) : Type 0 where
  first : Lexeme
  behind : List Lexeme
  is : tokens ≡ first ∷ behind
  other : SmallItem
  begins : small_here names other (moved first ∷ behind) rest

dropped_elsewhere : (names : List NameText) (tokens rest : List Lexeme) → dropped_item tokens rest → Elsewhere names tokens rest
unfolding ◌>>◌ moved
dropped_elsewhere names tokens rest (inl (m, (l, is, kind, text), more)) = record { first = l; behind = m; is = is; other = small.Dropped; begins = inl (m, (moved l, refl, kind, text), more) }
dropped_elsewhere names tokens rest (inr (inl (m, (l, is, kind, text), more))) =
    record { first = l; behind = m; is = is; other = small.Dropped; begins = inr (inl (m, (moved l, refl, kind, text), more)) }
dropped_elsewhere names tokens rest (inr (inr (name, nodes, differs, (m, (l, is, kind, text), more)))) =
    record { first = l; behind = m; is = is; other = small.Dropped; begins = inr (inr (name, nodes, differs, (m, (moved l, refl, kind, text), more))) }

elsewhere : (names : List NameText) (i : SmallItem) (tokens rest : List Lexeme) → small_here names i tokens rest → Elsewhere names tokens rest
unfolding ◌>>◌ moved
elsewhere names (small.Target t) tokens rest (m, (l, is, kind, (text, _)), more) =
    record { first = l; behind = m; is = is; other = small.Target (record t { byte = suc l.byte }); begins = (m, (moved l, refl, kind, (text, refl)), more) }
elsewhere names (small.Struct s) tokens rest (m, (l, is, kind, (_, spells)), more) =
    record { first = l; behind = m; is = is; other = small.Struct (record s { name = record { number = s.name.number; byte = suc l.byte } }); begins = (m, (moved l, refl, kind, (refl, spells)), more) }
elsewhere names (small.Variable v) tokens rest (m, (l, is, kind, (_, spells)), more) =
    record { first = l; behind = m; is = is; other = small.Variable (record v { name = record { number = v.name.number; byte = suc l.byte } }); begins = (m, (moved l, refl, kind, (refl, spells)), more) }
elsewhere names (small.Node n) tokens rest (m, (l, is, kind, (value, below, _)), more) =
    record { first = l; behind = m; is = is; other = small.Node (record n { byte = suc l.byte }); begins = (m, (moved l, refl, kind, (value, below, refl)), more) }
elsewhere names (small.Versions nodes) tokens rest (m, (l, is, kind, text), more) =
    record { first = l; behind = m; is = is; other = small.Versions nodes; begins = (m, (moved l, refl, kind, text), more) }
elsewhere names small.Dropped tokens rest d = dropped_elsewhere names tokens rest d

-- an end of two lists that differ in the first token is shorter than they are
module _ (l k : Lexeme) (m rest : List Lexeme) (differ : l ≡ k → ⊥) (a : Ends (l ∷ m) rest) (b : Ends (k ∷ m) rest) where
  at_once : (t : Lexeme) → Ends (t ∷ m) rest → suc (length m) - length rest ≡ 0 → t ∷ m ≡ rest
  at_once t ends none = subst (λ (n : ℕ). drop n (t ∷ m) ≡ rest) none (ends_drop (t ∷ m) rest ends)

  by_count : (n : ℕ) → suc (length m) - length rest ≡ n → length rest < suc (length m)
  by_count zero e = absurd (differ (same_first l k m m (at_once l a e ∙ sym (at_once k b e))))
  by_count (suc n) e = omega (arith, e)

  shorter : length rest < suc (length m)
  shorter = by_count (suc (length m) - length rest) refl

pub small_shortens : (names : List NameText) (i : SmallItem) → Shortens (small_here names i)
small_shortens names i tokens rest d = record { ends = small_end names i tokens rest d; less = less (elsewhere names i tokens rest d) }
  where
    less : Elsewhere names tokens rest → length rest < length tokens
    less x =
        let whole : length tokens ≡ suc (length x.behind) = ap length x.is in
        let short : length rest < suc (length x.behind) =
        shorter x.first (moved x.first) x.behind rest (moved_differs x.first) (subst (λ ls. Ends ls rest) x.is (small_end names i tokens rest d)) (small_end names x.other (moved x.first ∷ x.behind) rest x.begins) in
        omega arith
