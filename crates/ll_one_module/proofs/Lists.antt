-- Readers of lists and of what may be left out.
use Rattle.std.proofs.Common.{◌≡◌, ℕ, zero, suc, ◌+◌, ◌≤◌, true, false, if◌then◌else◌, List, [], ◌∷◌, map, Option, None, Some, option_map, inl, inr, ◌⊎◌, refl, sym, ap, ◌∙◌, subst, arith}
use Rattle.ll_tokens.specs.Tokens.{Lexeme}
use Rattle.ll_parser.specs.Productions.{Production, nothing, ◌>>◌, mark, each, each_behind_comma, listed, if_there}
use Rattle.ll_one_module.proofs.Readers.{Ahead, Reader, never, bind, done, to, skip, choose, loop, many, Found, Reads, Leads, Opens, Weaker, done-found, to-found, choose-true, choose-false, seq, skipped, made}
use Rattle.ll_one_module.proofs.Fronts.{opens-first}

-- a loop gives the items and leaves the rest, where the numbers for its turns and for its items are great enough
pub record Loops {X : Type 0} (test : Ahead) (r : Reader X) (tokens : List Lexeme) (xs : List X) (rest : List Lexeme) : Type 0 where
  pub fuel : ℕ
  pub is : (n turns : ℕ) → fuel ≤ n → fuel ≤ turns → loop test (r n) turns tokens ≡ (xs, rest)

pub record ReadsMany {X : Type 0} (stop : Ahead) (p : Production) (test : Ahead) (r : Reader X) (xs : List X) : Type 0 where
  pub reads : (tokens rest : List Lexeme) → p tokens rest → stop rest ≡ false → Loops test r tokens xs rest

pub all-read : {X : Type 0} {u test : Ahead} {p : Production} {r : Reader X} {xs : List X} → ReadsMany u p test r xs → Reads u p (many test r) xs
unfolding many
all-read one = record {
  reads = λ tokens rest d stop.
      let found = one.reads tokens rest d stop in
      record { fuel = found.fuel; is = λ n le. found.is n n le le };
}

loop-none : {X : Type 0} (test : Ahead) (item : List Lexeme → X × List Lexeme) (turns : ℕ) (tokens : List Lexeme) → test tokens ≡ false → loop test item turns tokens ≡ ([], tokens)
unfolding loop
loop-none test item zero tokens e = refl
loop-none {X} test item (suc turns) tokens e =
    ap (λ b. if b then (let q : List X × List Lexeme = ((item tokens).0 ∷ (loop test item turns (item tokens).1).0, (loop test item turns (item tokens).1).1) in q) else (let q : List X × List Lexeme = ([], tokens) in q)) e

loop-more : {X : Type 0} (test : Ahead) (item : List Lexeme → X × List Lexeme) (x : X) (xs : List X) (turns least : ℕ) (tokens middle rest : List Lexeme) → test tokens ≡ true → item tokens ≡ (x, middle) → suc least ≤ turns → ((n : ℕ) → least ≤ n → loop test item n middle ≡ (xs, rest)) → loop test item turns tokens ≡ (x ∷ xs, rest)
unfolding loop
loop-more test item x xs zero least tokens middle rest e is le more = absurd (omega arith)
loop-more {X} test item x xs (suc turns) least tokens middle rest e is le more =
    ap (λ b. if b then (let q : List X × List Lexeme = ((item tokens).0 ∷ (loop test item turns (item tokens).1).0, (loop test item turns (item tokens).1).1) in q) else (let q : List X × List Lexeme = ([], tokens) in q)) e
    ∙ ap (λ (p : X × List Lexeme). let q : List X × List Lexeme = (p.0 ∷ (loop test item turns p.1).0, (loop test item turns p.1).1) in q) is
    ∙ ap (λ (p : List X × List Lexeme). let q : List X × List Lexeme = (x ∷ p.0, p.1) in q) (more turns (omega arith))

pub no-more : {X : Type 0} {u test : Ahead} {r : Reader X} → Weaker u test → ReadsMany u nothing test r []
no-more {X} {u} {test} {r} weaker = record {
  reads = λ tokens rest same stop.
      subst (λ ts. Loops test r ts [] rest) (sym same) (record { fuel = 0; is = λ n turns le le'. loop-none test (r n) turns rest (weaker rest stop) });
}

pub one-more : {X : Type 0} {u test s : Ahead} {p q : Production} {r : Reader X} {x : X} {xs : List X} → Opens p test → Reads s p r x → Leads u q s → ReadsMany u q test r xs → ReadsMany u (p >> q) test r (x ∷ xs)
unfolding ◌>>◌
one-more {X} {u} {test} {s} {p} {q} {r} {x} {xs} starts one lead two = record {
  reads = λ tokens rest d stop.
      let f : Found r tokens x d.0 = one.reads tokens d.0 d.1 (lead.leads d.0 rest d.2 stop) in
      let g : Loops test r d.0 xs rest = two.reads d.0 rest d.2 stop in
      record {
        fuel = suc (f.fuel + g.fuel);
        is = λ n turns le le'.
            loop-more test (r n) x xs turns (f.fuel + g.fuel) tokens d.0 rest (starts.opens tokens d.0 d.1) (f.is n (omega arith)) le'
            (λ m le''. g.is n m (omega arith) (omega arith));
      };
}

-- items one behind another, the stop of each of which what follows doesn't pass
lead-items : {A : Type 0} {item : A → Production} {u s : Ahead} → Weaker u s → ((a : A) → Leads never (item a) s) → (all : List A) → Leads u (each item all) s
unfolding ◌>>◌
lead-items {A} {item} {u} {s} weaker leads [] = record { leads = λ tokens rest same stop. ap s same ∙ weaker rest stop }
lead-items {A} {item} {u} {s} weaker leads (a ∷ more) = record { leads = λ tokens rest d stop. (leads a).leads tokens d.0 d.1 refl }

pub each-many : {X A : Type 0} {u test s : Ahead} {item : A → Production} {r : Reader X} (g : A → X) → Weaker u test → Weaker u s → ((a : A) → Opens (item a) test) → ((a : A) → Leads never (item a) s) → ((a : A) → Reads s (item a) r (g a)) → (all : List A) → ReadsMany u (each item all) test r (map g all)
each-many g ends weaker opens leads one [] = no-more ends
each-many g ends weaker opens leads one (a ∷ more) = one-more (opens a) (one a) (lead-items weaker leads more) (each-many g ends weaker opens leads one more)

pub each-reads : {X A : Type 0} {u test s : Ahead} {item : A → Production} {r : Reader X} (g : A → X) → Weaker u test → Weaker u s → ((a : A) → Opens (item a) test) → ((a : A) → Leads never (item a) s) → ((a : A) → Reads s (item a) r (g a)) → (all : List A) → Reads u (each item all) (many test r) (map g all)
each-reads g ends weaker opens leads one all = all-read (each-many g ends weaker opens leads one all)

-- what may be left out
abbrev pub optional : {X : Type 0} → Ahead → Reader X → Reader (Option X)
optional test r = choose test (to Some r) (done None)

pub optional-reads : {X A : Type 0} {u test : Ahead} {item : A → Production} {r : Reader X} (g : A → X) → Weaker u test → ((a : A) → Opens (item a) test) → ((a : A) → Reads u (item a) r (g a)) → (o : Option A) → Reads u (if_there item o) (optional test r) (option_map g o)
optional-reads {X} {A} {u} {test} {item} {r} g weaker opens one None = record {
  reads = λ tokens rest same stop.
      let absent : Option X = None in
      choose-false test (to Some r) (done absent) absent tokens rest (ap test same ∙ weaker rest stop) (subst (λ ts. Found (done absent) ts absent rest) (sym same) (done-found absent rest));
}
optional-reads {X} {A} {u} {test} {item} {r} g weaker opens one (Some a) = record {
  reads = λ tokens rest d stop. choose-true test _ _ (Some (g a)) tokens rest ((opens a).opens tokens rest d) (to-found Some r (g a) tokens rest ((one a).reads tokens rest d stop));
}

-- one of two readers, by what is ahead
pub reads-first : {X : Type 0} {u : Ahead} {p : Production} {r : Reader X} {x : X} (test : Ahead) (s : Reader X) → Opens p test → Reads u p r x → Reads u p (choose test r s) x
reads-first {X} {u} {p} {r} {x} test s opens one = record { reads = λ tokens rest d stop. choose-true test r s x tokens rest (opens.opens tokens rest d) (one.reads tokens rest d stop) }

pub reads-second : {X : Type 0} {u : Ahead} {p : Production} {s : Reader X} {x : X} (test : Ahead) (r : Reader X) → Leads u p test → Reads u p s x → Reads u p (choose test r s) x
reads-second {X} {u} {p} {s} {x} test r fails one = record { reads = λ tokens rest d stop. choose-false test r s x tokens rest (fails.leads tokens rest d stop) (one.reads tokens rest d stop) }

-- items with commas between them, where an item begins with what passes one test, and a further one with what passes another
unfoldable pub separated : {X : Type 0} → Ahead → Ahead → Reader X → Reader (List X)
separated opening further r = choose opening (bind r (λ x. to (λ xs. x ∷ xs) (many further (skip r)))) (done [])

regroup : {X : Type 0} {u test : Ahead} {r : Reader X} {xs : List X} (p q s : Production) → ReadsMany u ((p >> q) >> s) test r xs → ReadsMany u (p >> q >> s) test r xs
unfolding ◌>>◌
regroup p q s one = record { reads = λ tokens rest d stop. one.reads tokens rest (d.2.0, (d.0, d.1, d.2.1), d.2.2) stop }

-- one item more, behind a comma, 44
pub one-comma-more : {X : Type 0} {u test s : Ahead} {p q : Production} {r : Reader X} {x : X} {xs : List X} → Opens (mark 44 >> p) test → Reads s p r x → Leads u q s → ReadsMany u q test (skip r) xs → ReadsMany u (mark 44 >> p >> q) test (skip r) (x ∷ xs)
one-comma-more starts one lead two = regroup _ _ _ (one-more starts (skipped _ _ one) lead two)

lead-commas : {A : Type 0} {u s : Ahead} (item : A → Production) → Weaker u s → Leads never (mark 44) s → (all : List A) → Leads u (each_behind_comma item all) s
unfolding ◌>>◌
lead-commas {A} {u} {s} item weaker comma [] = record { leads = λ tokens rest same stop. ap s same ∙ weaker rest stop }
lead-commas {A} {u} {s} item weaker comma (a ∷ more) = record { leads = λ tokens rest d stop. comma.leads tokens d.0 d.1 refl }

pub commas-many : {X A : Type 0} {u test s : Ahead} {item : A → Production} {r : Reader X} (g : A → X) → Weaker u test → Weaker u s → Leads never (mark 44) s → ((a : A) → Opens (mark 44 >> item a) test) → ((a : A) → Reads s (item a) r (g a)) → (all : List A) → ReadsMany u (each_behind_comma item all) test (skip r) (map g all)
commas-many g ends weaker comma opens one [] = no-more ends
commas-many g ends weaker comma opens one (a ∷ more) = one-comma-more (opens a) (one a) (lead-commas _ weaker comma more) (commas-many g ends weaker comma opens one more)

pub separated-none : {X : Type 0} {u opening : Ahead} (further : Ahead) (r : Reader X) → Weaker u opening → Reads u nothing (separated opening further r) []
unfolding separated
separated-none {X} {u} {opening} further r weaker = record {
  reads = λ tokens rest same stop.
      let nil : List X = [] in
      choose-false opening _ (done nil) nil tokens rest (ap opening same ∙ weaker rest stop) (subst (λ ts. Found (done nil) ts nil rest) (sym same) (done-found nil rest));
}

pub separated-more : {X : Type 0} {u opening further s : Ahead} {p q : Production} {r : Reader X} {x : X} {xs : List X} → Opens p opening → Reads s p r x → Leads u q s → ReadsMany u q further (skip r) xs → Reads u (p >> q) (separated opening further r) (x ∷ xs)
unfolding separated
separated-more starts one lead two = reads-first _ _ (opens-first _ starts) (seq _ one lead (made _ (all-read two)))

pub listed-reads : {X A : Type 0} {u opening further s : Ahead} {item : A → Production} {r : Reader X} (g : A → X) → Weaker u opening → Weaker u further → Weaker u s → Leads never (mark 44) s → ((a : A) → Opens (item a) opening) → ((a : A) → Opens (mark 44 >> item a) further) → ((a : A) → Reads s (item a) r (g a)) → (all : List A) → Reads u (listed item all) (separated opening further r) (map g all)
listed-reads g starts ends weaker comma opens again one [] = separated-none _ _ starts
listed-reads g starts ends weaker comma opens again one (a ∷ more) = separated-more (opens a) (one a) (lead-commas _ weaker comma more) (commas-many g ends weaker comma again one more)

-- either of two productions, by what is ahead
pub or-reads : {X : Type 0} {u : Ahead} {r s : Reader X} {x : X} (p q : Production) (test : Ahead) → Opens p test → Reads u p r x → Leads u q test → Reads u q s x → Reads u (λ tokens rest. p tokens rest ⊎ q tokens rest) (choose test r s) x
or-reads {X} {u} {r} {s} {x} p q test opens one fails two = record { reads = λ tokens rest d stop. cases tokens rest d stop }
  where
    cases : (tokens rest : List Lexeme) → p tokens rest ⊎ q tokens rest → u rest ≡ false → Found (choose test r s) tokens x rest
    cases tokens rest (inl d) stop = choose-true test r s x tokens rest (opens.opens tokens rest d) (one.reads tokens rest d stop)
    cases tokens rest (inr d) stop = choose-false test r s x tokens rest (fails.leads tokens rest d stop) (two.reads tokens rest d stop)

-- a production under a condition
pub only-reads : {X : Type 0} {u : Ahead} {r : Reader X} {x : X} (condition : Type 0) (p : Production) → (condition → Reads u p r x) → Reads u (λ tokens rest. condition × p tokens rest) r x
only-reads condition p one = record { reads = λ tokens rest d stop. (one d.0).reads tokens rest d.1 stop }

-- a production that derives no more than another
pub reads-as : {X : Type 0} {u : Ahead} {p q : Production} {r : Reader X} {x : X} → ((tokens rest : List Lexeme) → p tokens rest → q tokens rest) → Reads u q r x → Reads u p r x
reads-as as' one = record { reads = λ tokens rest d stop. one.reads tokens rest (as' tokens rest d) stop }

pub reads-absurd : {X : Type 0} {u : Ahead} {p : Production} {r : Reader X} {x : X} → ((tokens rest : List Lexeme) → p tokens rest → ⊥) → Reads u p r x
reads-absurd none' = record { reads = λ tokens rest d stop. absurd (none' tokens rest d) }
