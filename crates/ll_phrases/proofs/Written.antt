-- Phrases that are read as a production: how they are joined as productions are.
use Rattle.std.proofs.Common.{◌≡◌, ℕ, Bool, true, false, ◌||◌, List, [], ◌∷◌, map, Option, Some, None, refl, sym, ◌∙◌, ap, ap₂, subst, inl, inr, ◌⊎◌}
use Rattle.std.specs.Prelude.{if◌then◌else◌, option_map}
use Rattle.std.specs.Option.{option_to_list}
use Rattle.std.proofs.lemmas.Bool.{false≢true}
use Rattle.ll_tokens.specs.declared.kinds.TokenKind.{TokenKind}
use Rattle.ll_tokens.specs.declared.kinds.TokenKind.TheVariants.{Word}
use Rattle.ll_tokens.specs.Tokens.{Lexeme, has_kind}
use Rattle.ll_parser.specs.Productions.{Production, nothing, ◌>>◌, mark, word, each, each_behind_comma, listed, if_there}
use Rattle.ll_phrases.specs.Layouts.{IsLaidOut, layout}
use Rattle.ll_phrases.specs.Phrases.{Phrase, Empty, Gap, Mark, Solid, ◌&◌, a_word, blank, comma, each_behind, each_phrase, if_some, line_end, list_phrase, spelled}

-- A phrase stands behind a token that has to be separated, if it is loose, and behind any other; if it is closed, it ends with no such token
pub record Laid (loose closed : Bool) (phrase : Phrase) : Type 0 where
  pub ends : (before : Bool) → before ≡ false ⊎ loose ≡ true → (end : Bool) × (layout before phrase ≡ Some end) × (closed ≡ true → end ≡ false)

pub laid-out : (loose closed : Bool) (phrase : Phrase) → Laid loose closed phrase → IsLaidOut phrase
laid-out loose closed phrase laid = let (end, is, _) = laid.ends false (inl refl) in (end, is)

pub empty-laid : Laid true false Empty
empty-laid = record { ends = λ before fits. (before, refl, λ so. absurd (false≢true so)) }

pub gap-laid : (byte : ℕ) → layout false (Gap byte) ≡ Some false → Laid true true (Gap byte)
gap-laid byte is = record { ends = λ before fits. (false, is, λ so. refl) }

pub mark-laid : (byte : ℕ) → layout false (Mark byte) ≡ Some false → Laid true true (Mark byte)
mark-laid byte is = record { ends = λ before fits. (false, is, λ so. refl) }

pub solid-laid : (kind : TokenKind) (text : List ℕ) → has_kind kind text ≡ true → Laid false false (Solid kind text)
solid-laid kind text has = record { ends = λ before fits. one before fits }
  where
    one : (before : Bool) → before ≡ false ⊎ false ≡ true → (end : Bool) × (layout before (Solid kind text) ≡ Some end) × (false ≡ true → end ≡ false)
    one false fits = (true, ap (λ t. if t then Some true else None) has, λ so. absurd (false≢true so))
    one true (inl so) = absurd (false≢true (sym so))
    one true (inr so) = absurd (false≢true so)

or-either : (a b : Bool) → (a || b) ≡ true → (a ≡ true) ⊎ (b ≡ true)
or-either true b is = inl refl
or-either false b is = inr is

pub both-laid : {a b c d : Bool} {p q : Phrase} → Laid a b p → Laid c d q → (b || c) ≡ true → Laid a d (p & q)
both-laid {a} {b} {c} {d} {p} {q} one two joins = record { ends = λ before fits. at before fits }
  where
    goes-on : (middle : Bool) → (b ≡ true → middle ≡ false) → (b ≡ true) ⊎ (c ≡ true) → middle ≡ false ⊎ c ≡ true
    goes-on middle ends (inl is) = inl (ends is)
    goes-on middle ends (inr is) = inr is

    at : (before : Bool) → before ≡ false ⊎ a ≡ true → (end : Bool) × (layout before (p & q) ≡ Some end) × (d ≡ true → end ≡ false)
    at before fits =
        let (middle, first, ends) = one.ends before fits in
        let (end, second, closes) = two.ends middle (goes-on middle ends (or-either b c joins)) in
        (end, ap (λ (o : Option Bool). elim o [ None ↦ None | Some m ↦ layout m q ]) first ∙ second, closes)

-- every phrase that is laid out may be taken for one that is neither loose nor closed
pub any-laid : {a b : Bool} {p : Phrase} → Laid a b p → Laid false false p
any-laid {a} {b} {p} laid = record { ends = λ before fits. at before fits }
  where
    at : (before : Bool) → before ≡ false ⊎ false ≡ true → (end : Bool) × (layout before p ≡ Some end) × (false ≡ true → end ≡ false)
    at before (inl so) = let (end, is, _) = laid.ends before (inl so) in (end, is, λ no. absurd (false≢true no))
    at before (inr so) = absurd (false≢true so)

-- the same of one that is to stay loose
pub loose-laid : {b : Bool} {p : Phrase} → Laid true b p → Laid true false p
loose-laid {b} {p} laid = record { ends = λ before fits. let (end, is, _) = laid.ends before fits in (end, is, λ no. absurd (false≢true no)) }

-- Where tokens are spelled as the phrase, the production has them, for something that is the same as `value` where `bare` leaves out its places
pub record Written {A : Type 0} (loose closed : Bool) (bare : A → A) (production : A → Production) (phrase : Phrase) (value : A) : Type 0 where
  pub laid : Laid loose closed phrase
  pub reads : (tokens rest : List Lexeme) → spelled phrase tokens rest → (found : A) × (bare found ≡ bare value) × production found tokens rest

-- the same for a production that stands for nothing
pub record Fixed (loose closed : Bool) (production : Production) (phrase : Phrase) : Type 0 where
  pub laid : Laid loose closed phrase
  pub reads : (tokens rest : List Lexeme) → spelled phrase tokens rest → production tokens rest

pub word-fixed : (text : List ℕ) → has_kind Word text ≡ true → Fixed false false (word text) (a_word text)
word-fixed text has = record { laid = solid-laid Word text has; reads = λ tokens rest is. is }

pub mark-fixed : (byte : ℕ) → layout false (Mark byte) ≡ Some false → Fixed true true (mark byte) (Mark byte)
mark-fixed byte is = record { laid = mark-laid byte is; reads = λ tokens rest is. is }

pub nothing-fixed : Fixed true false nothing Empty
nothing-fixed = record { laid = empty-laid; reads = λ tokens rest is. is }

module _ {A : Type 0} {bare : A → A} {production : A → Production} where
  -- behind a blank
  pub behind-blank : {c d : Bool} {q : Phrase} {value : A} → Written c d bare production q value → Written true d bare production (blank & q) value
  unfolding ◌>>◌
  behind-blank {c} {d} {q} {value} w = record {
    laid = both-laid (gap-laid 32 refl) w.laid refl;
    reads = λ tokens rest (m, same, is). w.reads tokens rest (subst (λ (ts : List Lexeme). spelled q ts rest) (sym same) is);
  }

  -- before a blank
  pub before-blank : {c d : Bool} {q : Phrase} {value : A} → Written c d bare production q value → Written c true bare production (q & blank) value
  unfolding ◌>>◌
  before-blank {c} {d} {q} {value} w = record {
    laid = both-laid w.laid (gap-laid 32 refl) (either-true d);
    reads = λ tokens rest (m, is, same). w.reads tokens rest (subst (λ (ts : List Lexeme). spelled q tokens ts) same is);
  }
    where
      either-true : (b : Bool) → (b || true) ≡ true
      either-true true = refl
      either-true false = refl

  -- a production that stands for nothing, then one that doesn't, and the other way round
  pub fixed-then : {a b c d : Bool} {first : Production} {p q : Phrase} {value : A} → Fixed a b first p → Written c d bare production q value → (b || c) ≡ true
      → Written a d bare (λ x. first >> production x) (p & q) value
  unfolding ◌>>◌
  fixed-then {a} {b} {c} {d} {first} {p} {q} {value} one two joins = record {
    laid = both-laid one.laid two.laid joins;
    reads = λ tokens rest (m, here, there).
        let (found, same, has) = two.reads m rest there in
        (found, same, (m, one.reads tokens m here, has));
  }

  pub then-fixed : {a b c d : Bool} {last : Production} {p q : Phrase} {value : A} → Written a b bare production p value → Fixed c d last q → (b || c) ≡ true
      → Written a d bare (λ x. production x >> last) (p & q) value
  unfolding ◌>>◌
  then-fixed {a} {b} {c} {d} {last} {p} {q} {value} one two joins = record {
    laid = both-laid one.laid two.laid joins;
    reads = λ tokens rest (m, here, there).
        let (found, same, has) = one.reads tokens m here in
        (found, same, (m, has, two.reads m rest there));
  }

  pub any-written : {c d : Bool} {q : Phrase} {value : A} → Written c d bare production q value → Written false false bare production q value
  any-written w = record { laid = any-laid w.laid; reads = w.reads }

  pub loose-written : {d : Bool} {q : Phrase} {value : A} → Written true d bare production q value → Written true false bare production q value
  loose-written w = record { laid = loose-laid w.laid; reads = w.reads }

  -- something else that is made of it, and for which another production has the same tokens, also where that hangs on what is the same
  pub made-same : {B : Type 0} {c d : Bool} {bare_made : B → B} {other : B → Production} {q : Phrase} {value : A} (make plain : A → B) → ((x : A) → bare_made (make x) ≡ plain (bare x))
      → ((x : A) → bare x ≡ bare value → (tokens rest : List Lexeme) → production x tokens rest → other (make x) tokens rest) → Written c d bare production q value → Written c d bare_made other q (make value)
  made-same {B} {c} {d} {bare_made} {other} {q} {value} make plain alike reads w = record {
    laid = w.laid;
    reads = λ tokens rest is.
        let (found, same, has) = w.reads tokens rest is in
        (make found, alike found ∙ (ap plain same ∙ sym (alike value)), reads found same tokens rest has);
  }

  pub made : {B : Type 0} {c d : Bool} {bare_made : B → B} {other : B → Production} {q : Phrase} {value : A} (make plain : A → B) → ((x : A) → bare_made (make x) ≡ plain (bare x))
      → ((x : A) (tokens rest : List Lexeme) → production x tokens rest → other (make x) tokens rest) → Written c d bare production q value → Written c d bare_made other q (make value)
  made make plain alike reads w = made-same make plain alike (λ x same tokens rest has. reads x tokens rest has) w

-- behind a comma and a blank
pub comma-then : {A : Type 0} {bare : A → A} {production : A → Production} {c d : Bool} {q : Phrase} {value : A} → Written c d bare production q value
    → Written true d bare (λ x. mark 44 >> production x) (comma & q) value
unfolding ◌>>◌
comma-then {A} {bare} {production} {c} {d} {q} {value} w = record {
  laid = both-laid (both-laid (mark-laid 44 refl) (gap-laid 32 refl) refl) w.laid refl;
  reads = λ tokens rest (m, (k, comma_is, gap), there).
      let (found, same, has) = w.reads m rest there in
      (found, same, (m, subst (λ (ts : List Lexeme). mark 44 tokens ts) gap comma_is, has));
}

-- one production, then another
abbrev pub bare_pair : {A B : Type 0} → (A → A) → (B → B) → A × B → A × B
bare_pair f g p = (f p.0, g p.1)

pub pair : {A B : Type 0} {a b c d : Bool} {f : A → A} {g : B → B} {first : A → Production} {second : B → Production} {p q : Phrase} {x : A} {y : B}
    → Written a b f first p x → Written c d g second q y → (b || c) ≡ true → Written a d (bare_pair f g) (λ (z : A × B). first z.0 >> second z.1) (p & q) (x, y)
unfolding ◌>>◌
pair one two joins = record {
  laid = both-laid one.laid two.laid joins;
  reads = λ tokens rest (m, here, there).
      let (u, same, has) = one.reads tokens m here in
      let (v, alike, has') = two.reads m rest there in
      ((u, v), ap₂ (λ i j. (i, j)) same alike, (m, has, has'));
}

-- nothing is written for something that has no tokens
pub nothing-written : {A : Type 0} (bare : A → A) (production : A → Production) (value : A) → ((tokens rest : List Lexeme) → tokens ≡ rest → production value tokens rest) → Written true false bare production Empty value
nothing-written bare production value has = record { laid = empty-laid; reads = λ tokens rest is. (value, refl, has tokens rest is) }

-- each item of a list is written
abbrev pub AllWritten : {A : Type 0} (loose closed : Bool) (bare : A → A) (item : A → Production) (phrase : A → Phrase) → List A → Type 0
AllWritten loose closed bare item phrase [] = Unit {0}
AllWritten loose closed bare item phrase (x ∷ xs) = Written loose closed bare item (phrase x) x × AllWritten loose closed bare item phrase xs

either-true : (b : Bool) → (b || true) ≡ true
either-true true = refl
either-true false = refl

-- an item before others
pub more : {A : Type 0} {bare : A → A} {item : A → Production} {c d : Bool} {p q : Phrase} {list behind : List A → Production} (x : A) (xs : List A)
    → ((y : A) (ys : List A) (tokens rest : List Lexeme) → (item y >> behind ys) tokens rest → list (y ∷ ys) tokens rest)
    → Written c d bare item p x → Written true false (map bare) behind q xs → Written c false (map bare) list (p & q) (x ∷ xs)
more {A} {bare} {item} {c} {d} {p} {q} {list} {behind} x xs reads one rest =
    made {other = list} (λ (z : A × List A). z.0 ∷ z.1) (λ z. z.0 ∷ z.1) (λ z. refl) (λ z tokens left has. reads z.0 z.1 tokens left has) (pair one rest (either-true d))

module _ {A : Type 0} (c d : Bool) (bare : A → A) (item : A → Production) (phrase : A → Phrase) where
  -- items behind one another, each of which is loose
  pub each-written : (xs : List A) → AllWritten true d bare item phrase xs → Written true false (map bare) (each item) (each_phrase phrase xs) xs
  each-written [] all = record { laid = empty-laid; reads = λ tokens rest is. ([], refl, is) }
  each-written (x ∷ xs) (one, all) = more x xs (λ y ys tokens rest has. has) one (each-written xs all)

  -- items, each behind a comma
  pub behind-written : (xs : List A) → AllWritten c d bare item phrase xs → Written true false (map bare) (each_behind_comma item) (each_behind phrase xs) xs
  behind-written [] all = record { laid = empty-laid; reads = λ tokens rest is. ([], refl, is) }
  behind-written (x ∷ xs) (one, all) = comma-more x xs one (behind-written xs all)
    where
      comma-more : (y : A) (ys : List A) → Written c d bare item (phrase y) y → Written true false (map bare) (each_behind_comma item) (each_behind phrase ys) ys
          → Written true false (map bare) (each_behind_comma item) (comma & phrase y & each_behind phrase ys) (y ∷ ys)
      comma-more y ys first others =
          made (λ (z : A × List A). z.0 ∷ z.1) (λ z. z.0 ∷ z.1) (λ z. refl) (λ z tokens left has. has) (comma-then (pair first others (either-true d)))

  -- an item, where there is one
  pub if-written : (x : Option A) → AllWritten true d bare item phrase (option_to_list x) → Written true false (option_map bare) (if_there item) (if_some phrase x) x
  if-written None all = nothing-written (option_map bare) (if_there item) None (λ tokens rest is. is)
  if-written (Some x) (one, all) =
      loose-written (made (λ (y : A). Some y) (λ y. Some y) (λ y. refl) (λ y tokens rest has. has) one)

-- items between commas
pub list-written : {A : Type 0} (d : Bool) (bare : A → A) (item : A → Production) (phrase : A → Phrase) (xs : List A) → AllWritten false d bare item phrase xs → Written false false (map bare) (listed item) (list_phrase phrase xs) xs
list-written d bare item phrase [] all = any-written (nothing-written (map bare) (listed item) [] (λ tokens rest is. is))
list-written d bare item phrase (x ∷ xs) (one, all) = more x xs (λ y ys tokens rest has. has) one (behind-written false d bare item phrase xs all)

-- what stands for one value alone is written by what is fixed
pub constant : {A : Type 0} {a b : Bool} {p : Phrase} (bare : A → A) (production : A → Production) (value : A) → Fixed a b (production value) p → Written a b bare production p value
constant bare production value fixed = record { laid = fixed.laid; reads = λ tokens rest is. (value, refl, fixed.reads tokens rest is) }

pub fixed-both : {a b c d : Bool} {first second : Production} {p q : Phrase} → Fixed a b first p → Fixed c d second q → (b || c) ≡ true → Fixed a d (first >> second) (p & q)
unfolding ◌>>◌
fixed-both one two joins = record {
  laid = both-laid one.laid two.laid joins;
  reads = λ tokens rest (m, here, there). (m, one.reads tokens m here, two.reads m rest there);
}

pub fixed-behind-blank : {c d : Bool} {production : Production} {q : Phrase} → Fixed c d production q → Fixed true d production (blank & q)
unfolding ◌>>◌
fixed-behind-blank {c} {d} {production} {q} fixed = record {
  laid = both-laid (gap-laid 32 refl) fixed.laid refl;
  reads = λ tokens rest (m, same, is). fixed.reads tokens rest (subst (λ (ts : List Lexeme). spelled q ts rest) (sym same) is);
}

pub loose-fixed : {d : Bool} {production : Production} {q : Phrase} → Fixed true d production q → Fixed true false production q
loose-fixed fixed = record { laid = loose-laid fixed.laid; reads = fixed.reads }

pub any-fixed : {c d : Bool} {production : Production} {q : Phrase} → Fixed c d production q → Fixed false false production q
any-fixed fixed = record { laid = any-laid fixed.laid; reads = fixed.reads }

-- another production that has the same tokens
pub fixed-as : {c d : Bool} {production other : Production} {q : Phrase} → ((tokens rest : List Lexeme) → production tokens rest → other tokens rest) → Fixed c d production q → Fixed c d other q
fixed-as reads fixed = record { laid = fixed.laid; reads = λ tokens rest is. reads tokens rest (fixed.reads tokens rest is) }

-- behind a comma
pub fixed-comma : {c d : Bool} {production : Production} {q : Phrase} → Fixed c d production q → Fixed true d (mark 44 >> production) (comma & q)
unfolding ◌>>◌
fixed-comma {c} {d} {production} {q} fixed = record {
  laid = both-laid (both-laid (mark-laid 44 refl) (gap-laid 32 refl) refl) fixed.laid refl;
  reads = λ tokens rest (m, (k, comma_is, gap), there). (m, subst (λ (ts : List Lexeme). mark 44 tokens ts) gap comma_is, fixed.reads m rest there);
}

-- behind a word and a blank
pub behind-word : {A : Type 0} {bare : A → A} {production : A → Production} {c d : Bool} {q : Phrase} {value : A} (text : List ℕ) → has_kind Word text ≡ true → Written c d bare production q value
    → Written false d bare (λ x. word text >> production x) (a_word text & blank & q) value
behind-word text has w = fixed-then (word-fixed text has) (behind-blank w) refl

-- Lists that are derived from some tokens, each item of which is written where it is derived
module _ {A : Type 0} {bare : A → A} {item : A → Production} {phrase : A → Phrase} where
  pub each-again : {d : Bool} → ((x : A) (tokens rest : List Lexeme) → item x tokens rest → Written true d bare item (phrase x) x) → (xs : List A) (tokens rest : List Lexeme) → each item xs tokens rest
      → Written true false (map bare) (each item) (each_phrase phrase xs) xs
  unfolding ◌>>◌
  each-again {d} one xs tokens rest is = each-written true d bare item phrase xs (all xs tokens is)
    where
      all : (ys : List A) (ts : List Lexeme) → each item ys ts rest → AllWritten true d bare item phrase ys
      all [] ts none = tt
      all (y ∷ ys) ts (m, first, others) = (one y ts m first, all ys m others)

  pub behind-again : {c d : Bool} → ((x : A) (tokens rest : List Lexeme) → item x tokens rest → Written c d bare item (phrase x) x) → (xs : List A) (tokens rest : List Lexeme) → each_behind_comma item xs tokens rest
      → Written true false (map bare) (each_behind_comma item) (each_behind phrase xs) xs
  unfolding ◌>>◌
  behind-again {c} {d} one xs tokens rest is = behind-written c d bare item phrase xs (all xs tokens is)
    where
      all : (ys : List A) (ts : List Lexeme) → each_behind_comma item ys ts rest → AllWritten c d bare item phrase ys
      all [] ts none = tt
      all (y ∷ ys) ts (k, comma_is, (m, first, others)) = (one y k m first, all ys m others)

  pub list-again : {d : Bool} → ((x : A) (tokens rest : List Lexeme) → item x tokens rest → Written false d bare item (phrase x) x) → (xs : List A) (tokens rest : List Lexeme) → listed item xs tokens rest
      → Written false false (map bare) (listed item) (list_phrase phrase xs) xs
  unfolding ◌>>◌
  list-again {d} one [] tokens rest none = any-written (nothing-written (map bare) (listed item) [] (λ ts left is. is))
  list-again {d} one (x ∷ xs) tokens rest (m, first, others) = more x xs (λ y ys ts left has. has) (one x tokens m first) (behind-again one xs m rest others)

  pub some-again : {d : Bool} → ((x : A) (tokens rest : List Lexeme) → item x tokens rest → Written true d bare item (phrase x) x) → (x : Option A) (tokens rest : List Lexeme) → if_there item x tokens rest
      → Written true false (option_map bare) (if_there item) (if_some phrase x) x
  some-again {d} one None tokens rest is = nothing-written (option_map bare) (if_there item) None (λ ts left same. same)
  some-again {d} one (Some x) tokens rest is = loose-written (made (λ (y : A). Some y) (λ y. Some y) (λ y. refl) (λ y ts left has. has) (one x tokens rest is))

-- behind nothing
empty-before : {a b : Bool} {q : Phrase} → Laid a b q → Laid a b (Empty & q)
empty-before laid = record { ends = λ before fits. laid.ends before fits }

-- and before nothing
before-empty : {a b : Bool} {p : Phrase} → Laid a b p → Laid a b (p & Empty)
before-empty laid = record { ends = λ before fits. let (end, is, closes) = laid.ends before fits in (end, ap (λ (o : Option Bool). elim o [ None ↦ None | Some m ↦ Some m ]) is, closes) }

module _ {A : Type 0} {bare : A → A} {production : A → Production} where
  pub empty-then : {a b : Bool} {q : Phrase} {value : A} → Written a b bare production q value → Written a b bare production (Empty & q) value
  unfolding ◌>>◌
  empty-then {a} {b} {q} {value} w = record {
    laid = empty-before w.laid;
    reads = λ tokens rest (m, same, is). w.reads tokens rest (subst (λ (ts : List Lexeme). spelled q ts rest) (sym same) is);
  }

  pub then-empty : {a b : Bool} {q : Phrase} {value : A} → Written a b bare production q value → Written a b bare production (q & Empty) value
  unfolding ◌>>◌
  then-empty {a} {b} {q} {value} w = record {
    laid = before-empty w.laid;
    reads = λ tokens rest (m, is, same). w.reads tokens rest (subst (λ (ts : List Lexeme). spelled q tokens ts) same is);
  }

  -- at the end of a line
  pub before-line : {c d : Bool} {q : Phrase} {value : A} → Written c d bare production q value → Written c true bare production (q & line_end) value
  unfolding ◌>>◌
  before-line {c} {d} {q} {value} w = record {
    laid = both-laid w.laid (gap-laid 10 refl) (either-true d);
    reads = λ tokens rest (m, is, same). w.reads tokens rest (subst (λ (ts : List Lexeme). spelled q tokens ts) same is);
  }

  -- the same phrase
  pub same-phrase : {a b : Bool} {p q : Phrase} {value : A} → p ≡ q → Written a b bare production p value → Written a b bare production q value
  same-phrase {a} {b} {p} {q} {value} same w = subst (λ (r : Phrase). Written a b bare production r value) same w

  -- Something that is made of it and of the tokens, whose first place it may have
  pub made-at : {B : Type 0} {c d : Bool} {bare_made : B → B} {other : B → Production} {q : Phrase} {value : A} (of : B) (make : List Lexeme → A → B) (plain : A → B) → ((tokens : List Lexeme) (x : A) → bare_made (make tokens x) ≡ plain (bare x))
      → bare_made of ≡ plain (bare value) → ((x : A) → bare x ≡ bare value → (tokens rest : List Lexeme) → production x tokens rest → other (make tokens x) tokens rest) → Written c d bare production q value → Written c d bare_made other q of
  made-at {B} {c} {d} {bare_made} {other} {q} {value} of make plain alike is reads w = record {
    laid = w.laid;
    reads = λ tokens rest spelt.
        let (found, same, has) = w.reads tokens rest spelt in
        (make tokens found, alike tokens found ∙ (ap plain same ∙ sym is), reads found same tokens rest has);
  }

pub fixed-before-blank : {c d : Bool} {production : Production} {q : Phrase} → Fixed c d production q → Fixed c true production (q & blank)
unfolding ◌>>◌
fixed-before-blank {c} {d} {production} {q} fixed = record {
  laid = both-laid fixed.laid (gap-laid 32 refl) (either-true d);
  reads = λ tokens rest (m, is, same). fixed.reads tokens rest (subst (λ (ts : List Lexeme). spelled q tokens ts) same is);
}

pub fixed-before-line : {c d : Bool} {production : Production} {q : Phrase} → Fixed c d production q → Fixed c true production (q & line_end)
unfolding ◌>>◌
fixed-before-line {c} {d} {production} {q} fixed = record {
  laid = both-laid fixed.laid (gap-laid 10 refl) (either-true d);
  reads = λ tokens rest (m, is, same). fixed.reads tokens rest (subst (λ (ts : List Lexeme). spelled q tokens ts) same is);
}

-- every loose phrase may be taken for one that isn't
pub tight-written : {A : Type 0} {bare : A → A} {production : A → Production} {d : Bool} {q : Phrase} {value : A} → Written true d bare production q value → Written false d bare production q value
tight-written {A} {bare} {production} {d} {q} w = record { laid = tight w.laid; reads = w.reads }
  where
    tight : Laid true d q → Laid false d q
    tight laid = record { ends = λ before fits. laid.ends before (inr refl) }

-- behind the end of a line
pub behind-line : {A : Type 0} {bare : A → A} {production : A → Production} {c d : Bool} {q : Phrase} {value : A} → Written c d bare production q value → Written true d bare production (line_end & q) value
unfolding ◌>>◌
behind-line {A} {bare} {production} {c} {d} {q} {value} w = record {
  laid = both-laid (gap-laid 10 refl) w.laid refl;
  reads = λ tokens rest (m, same, is). w.reads tokens rest (subst (λ (ts : List Lexeme). spelled q ts rest) (sym same) is);
}

-- nothing, behind no token that has to be separated
pub nothing-closed : {A : Type 0} (bare : A → A) (production : A → Production) (value : A) → ((tokens rest : List Lexeme) → tokens ≡ rest → production value tokens rest) → Written false true bare production Empty value
nothing-closed bare production value has = record { laid = closed; reads = λ tokens rest is. (value, refl, has tokens rest is) }
  where
    only-false : (before : Bool) → before ≡ false ⊎ false ≡ true → before ≡ false
    only-false before (inl is) = is
    only-false before (inr so) = absurd (false≢true so)

    closed : Laid false true Empty
    closed = record { ends = λ before fits. (before, refl, λ so. only-false before fits) }

-- lines behind one another
pub lines-written : {A : Type 0} (bare : A → A) (production : A → Production) (phrase : A → Phrase) (xs : List A) → AllWritten false true bare production phrase xs → Written false true (map bare) (each production) (each_phrase phrase xs) xs
lines-written bare production phrase [] all = nothing-closed (map bare) (each production) [] (λ ts rs is. is)
lines-written bare production phrase (x ∷ xs) (one, all) =
    made (λ z. z.0 ∷ z.1) (λ z. z.0 ∷ z.1) (λ z. refl) (λ z ts rs has. has) (pair one (lines-written bare production phrase xs all) refl)
