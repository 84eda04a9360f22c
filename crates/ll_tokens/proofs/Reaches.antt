-- How far forms reach: in terms of runs of a class, and never past the text's end.
use Rattle.std.proofs.Common.{◌≡◌, ℕ, suc, ◌+◌, ◌<◌, ◌≤◌, Bool, true, false, cond, eqb, List, [], ◌∷◌, length, get_or, Option, Some, None, IfSome, Bor, sym, refl, ap, ◌∙◌, arith, one-add, ne_eqb, eqb-true, lit<}
use Rattle.std.specs.List.{prefix_len}
use Rattle.std.proofs.lemmas.List.Sums.{prefix_len-le-length}
use Rattle.ll_tokens.specs.declared.bytes.ByteClass.{ByteClass}
use Rattle.ll_tokens.specs.declared.bytes.ByteClass.TheVariants.{Name, Unquoted}
use Rattle.ll_tokens.specs.Forms.{in_class, Form, End, Run, One, Byte, Until, Either}
use Rattle.ll_tokens.specs.Reach.{reach, reach_until, one_more, longer, with_next, reach_behind}
use Rattle.std.specs.Bool.{then_some}
use Rattle.std.specs.Option.{option_copied}
use Rattle.std.proofs.lemmas.Bool.{false≢true}
use Rattle.ll_tokens.specs.Tokens.{quoted}

-- a length within the first list is, with one more, within the list with one byte before it
one_more_le : (r : Option ℕ) (k : ℕ) → IfSome r (λ n. n ≤ k) → IfSome (one_more r) (λ n. n ≤ suc k)
one_more_le None k h = tt
one_more_le (Some n) k h = omega arith

longer_le : (a b : Option ℕ) (k : ℕ) → IfSome a (λ n. n ≤ k) → IfSome b (λ n. n ≤ k) → IfSome (longer a b) (λ n. n ≤ k)
longer_le None b k ha hb = hb
longer_le (Some m) None k ha hb = ha
longer_le (Some m) (Some n) k ha hb = omega arith

cond_le : (t : Bool) (r s : Option ℕ) (k : ℕ) → IfSome r (λ n. n ≤ k) → IfSome s (λ n. n ≤ k) → IfSome (cond t r s) (λ n. n ≤ k)
cond_le true r s k hr hs = hr
cond_le false r s k hr hs = hs

reach_until_le : (c : ByteClass) (x : ℕ) (after : List ℕ → Option ℕ) → ((bs : List ℕ) → IfSome (after bs) (λ n. n ≤ length bs)) → (bs : List ℕ) → IfSome (reach_until c x after bs) (λ n. n ≤ length bs)
reach_until_le c x after h [] = tt
reach_until_le c x after h (b ∷ bs) =
    cond_le (eqb b x) _ _ _ (one_more_le (after bs) (length bs) (h bs))
    (cond_le (in_class c b) _ None _ (one_more_le (reach_until c x after bs) (length bs) (reach_until_le c x after h bs)) tt)

-- no form reaches past the end
pub reach_le : (f : Form) (bs : List ℕ) → IfSome (reach f bs) (λ n. n ≤ length bs)
unfolding reach
reach_le End bs = omega arith
reach_le (Run c) bs = prefix_len-le-length (in_class c) bs
reach_le (One c f) [] = tt
reach_le (One c f) (b ∷ bs) = cond_le (in_class c b) _ None _ (one_more_le (reach f bs) (length bs) (reach_le f bs)) tt
reach_le (Byte x f) [] = tt
reach_le (Byte x f) (b ∷ bs) = cond_le (eqb b x) _ None _ (one_more_le (reach f bs) (length bs) (reach_le f bs)) tt
reach_le (Until c x f) bs = reach_until_le c x (reach f) (λ bs. reach_le f bs) bs
reach_le (Either f g) bs = longer_le (reach f bs) (reach g bs) _ (reach_le f bs) (reach_le g bs)

-- a form that begins with one byte, at a text with no byte and at one with one
pub reach_one_nil : (c : ByteClass) (f : Form) (bs : List ℕ) → length bs ≡ 0 → reach (One c f) bs ≡ None
unfolding reach
reach_one_nil c f [] e = refl
reach_one_nil c f (b ∷ bs) e = absurd (omega arith)

pub reach_one_cons : (c : ByteClass) (f : Form) (b : ℕ) (bs rest : List ℕ) → bs ≡ b ∷ rest → reach (One c f) bs ≡ cond (in_class c b) (one_more (reach f rest)) None
unfolding reach
reach_one_cons c f b bs rest e = ap (reach (One c f)) e

pub reach_byte_nil : (x : ℕ) (f : Form) (bs : List ℕ) → length bs ≡ 0 → reach (Byte x f) bs ≡ None
unfolding reach
reach_byte_nil x f [] e = refl
reach_byte_nil x f (b ∷ bs) e = absurd (omega arith)

pub reach_byte_cons : (x : ℕ) (f : Form) (b : ℕ) (bs rest : List ℕ) → bs ≡ b ∷ rest → reach (Byte x f) bs ≡ cond (eqb b x) (one_more (reach f rest)) None
unfolding reach
reach_byte_cons x f b bs rest e = ap (reach (Byte x f)) e

-- what is left behind the first byte where a test holds
pub kept_if : (t : Bool) (f : Form) (rest : Bor (List ℕ)) (r : Option (Bor (List ℕ))) → r ≡ then_some t rest → cond t (one_more (reach f rest.now)) None ≡ reach_behind f (option_copied r)
kept_if true f rest r e = ap (λ o. reach_behind f (option_copied o)) (sym e)
kept_if false f rest r e = ap (λ o. reach_behind f (option_copied o)) (sym e)

pub reach_run : (c : ByteClass) (bs : List ℕ) → reach (Run c) bs ≡ Some (prefix_len (in_class c) bs)
unfolding reach
reach_run c bs = refl

pub reach_end : (bs : List ℕ) → reach End bs ≡ Some 0
unfolding reach
reach_end bs = refl

pub reach_either : (f g : Form) (bs : List ℕ) → reach (Either f g) bs ≡ longer (reach f bs) (reach g bs)
unfolding reach
reach_either f g bs = refl

get_or-cons : (b : ℕ) (bs : List ℕ) (n : ℕ) → get_or (b ∷ bs) (1 + n) 0 ≡ get_or bs n 0
get_or-cons b bs n = ap (λ k. get_or (b ∷ bs) k 0) (one-add n)

-- a byte before the text puts the next byte one further
with_next_test : (t : Bool) (n : ℕ) → cond t (Some ((1 + n) + 1)) None ≡ one_more (cond t (Some (n + 1)) None)
with_next_test true n = ap Some (omega arith)
with_next_test false n = refl

with_next-cons : (x b : ℕ) (bs : List ℕ) (n : ℕ) → with_next x (b ∷ bs) (1 + n) ≡ one_more (with_next x bs n)
with_next-cons x b bs n = ap (λ y. cond (eqb y x) (Some ((1 + n) + 1)) None) (get_or-cons b bs n) ∙ with_next_test (eqb (get_or bs n 0) x) n

-- at the text's end the byte that stands there reads as 0
with_next_nil : (x : ℕ) → 0 < x → with_next x [] 0 ≡ None
with_next_nil x pos = let e : eqb 0 x ≡ false = ne_eqb 0 x (λ z. absurd (omega arith)) in rw e

-- one byte of what `reach_until-run` says
run_step : (c : ByteClass) (x : ℕ) → in_class c x ≡ false → (b : ℕ) (bs : List ℕ) (r : Option ℕ) (p : ℕ) → r ≡ with_next x bs p → (t m : Bool) → eqb b x ≡ t → in_class c b ≡ m → cond t (Some 1) (cond m (one_more r) None) ≡ with_next x (b ∷ bs) (cond m (1 + p) 0)
run_step c x out b bs r p ih true true e i = absurd (false≢true (sym out ∙ ap (in_class c) (sym (eqb-true b x e)) ∙ i))
run_step c x out b bs r p ih true false e i = rw e
run_step c x out b bs r p ih false true e i = ap one_more ih ∙ sym (with_next-cons x b bs p)
run_step c x out b bs r p ih false false e i = rw e

-- bytes of a class that lacks x, and then x
pub reach_until-run : (c : ByteClass) (x : ℕ) → 0 < x → in_class c x ≡ false → (bs : List ℕ) → reach_until c x (reach End) bs ≡ with_next x bs (prefix_len (in_class c) bs)
unfolding reach
reach_until-run c x pos out [] = sym (with_next_nil x pos)
reach_until-run c x pos out (b ∷ bs) =
    run_step c x out b bs _ _ (reach_until-run c x pos out bs) (eqb b x) (in_class c b) refl refl

-- the same of a label without quotes, whose first byte is of the class too
pub reach_label : (bs : List ℕ) (run : ℕ) → run ≡ prefix_len (in_class Name) bs → 0 < run → reach (One Name (Until Name 58 End)) bs ≡ with_next 58 bs run
unfolding reach
reach_label [] run e pos = absurd (omega arith)
reach_label (b ∷ bs) run e pos = label_step b bs (in_class Name b) run e pos
  where
    label_step : (b : ℕ) (bs : List ℕ) (m : Bool) (run : ℕ) → run ≡ cond m (1 + prefix_len (in_class Name) bs) 0 → 0 < run → cond m (one_more (reach_until Name 58 (reach End) bs)) None ≡ with_next 58 (b ∷ bs) run
    label_step b bs true run e pos = ap one_more (reach_until-run Name 58 (lit< tt) refl bs) ∙ sym (with_next-cons 58 b bs _) ∙ ap (with_next 58 (b ∷ bs)) (sym e)
    label_step b bs false run e pos = absurd (omega arith)

pub reach_no_label : (bs : List ℕ) (run : ℕ) → run ≡ prefix_len (in_class Name) bs → run ≡ 0 → reach (One Name (Until Name 58 End)) bs ≡ None
unfolding reach
reach_no_label [] run e zero_run = refl
reach_no_label (b ∷ bs) run e zero_run = label_step b bs (in_class Name b) run e zero_run
  where
    label_step : (b : ℕ) (bs : List ℕ) (m : Bool) (run : ℕ) → run ≡ cond m (1 + prefix_len (in_class Name) bs) 0 → run ≡ 0 → cond m (one_more (reach_until Name 58 (reach End) bs)) None ≡ None
    label_step b bs true run e zero_run = absurd (omega arith)
    label_step b bs false run e zero_run = refl

-- a further byte behind a form's reach
abbrev and_next : ℕ → List ℕ → Option ℕ → Option ℕ
and_next x bs None = None
and_next x bs (Some n) = with_next x bs n

and_next-cons : (x b : ℕ) (bs : List ℕ) (r : Option ℕ) → and_next x (b ∷ bs) (one_more r) ≡ one_more (and_next x bs r)
and_next-cons x b bs None = refl
and_next-cons x b bs (Some n) = with_next-cons x b bs n

byte_alone : (x : ℕ) → 0 < x → (bs : List ℕ) → reach (Byte x End) bs ≡ with_next x bs 0
unfolding reach
byte_alone x pos [] = sym (with_next_nil x pos)
byte_alone x pos (b ∷ bs) = refl

next_step : (x b : ℕ) (bs : List ℕ) (t m : Bool) (r s : Option ℕ) → s ≡ and_next x bs r → cond t (one_more (with_next x bs 0)) (cond m (one_more s) None) ≡ and_next x (b ∷ bs) (cond t (Some 1) (cond m (one_more r) None))
next_step x b bs true m r s e = sym (with_next-cons x b bs 0)
next_step x b bs false true r s e = ap one_more e ∙ sym (and_next-cons x b bs r)
next_step x b bs false false r s e = refl

until_next : (c : ByteClass) (x y : ℕ) → 0 < y → (bs : List ℕ) → reach_until c x (reach (Byte y End)) bs ≡ and_next y bs (reach_until c x (reach End) bs)
unfolding reach
until_next c x y pos [] = refl
until_next c x y pos (b ∷ bs) =
    ap (λ o. cond (eqb b x) (one_more o) (cond (in_class c b) (one_more (reach_until c x (reach (Byte y End)) bs)) None)) (byte_alone y pos bs)
    ∙ next_step y b bs (eqb b x) (in_class c b) _ _ (until_next c x y pos bs)

quoted_next : (bs : List ℕ) → reach (quoted (Byte 58 End)) bs ≡ and_next 58 bs (reach (quoted End) bs)
unfolding reach
quoted_next [] = refl
quoted_next (b ∷ bs) = quote_step b bs (eqb b 34)
  where
    quote_step : (b : ℕ) (bs : List ℕ) (t : Bool) → cond t (one_more (reach_until Unquoted 34 (reach (Byte 58 End)) bs)) None ≡ and_next 58 (b ∷ bs) (cond t (one_more (reach_until Unquoted 34 (reach End) bs)) None)
    quote_step b bs true = ap one_more (until_next Unquoted 34 58 (lit< tt) bs) ∙ sym (and_next-cons 58 b bs _)
    quote_step b bs false = refl

-- a quoted label is a quoted text and a `:`
pub reach_quoted_label : (bs : List ℕ) (n : ℕ) → Some n ≡ reach (quoted End) bs → reach (quoted (Byte 58 End)) bs ≡ with_next 58 bs n
reach_quoted_label bs n e = quoted_next bs ∙ ap (and_next 58 bs) (sym e)

pub reach_no_quoted_label : (bs : List ℕ) → None ≡ reach (quoted End) bs → reach (quoted (Byte 58 End)) bs ≡ None
reach_no_quoted_label bs e = quoted_next bs ∙ ap (and_next 58 bs) (sym e)

-- a quoted text, from the text behind its first quote
pub reach_string : (rest : List ℕ) → reach (Until Unquoted 34 End) rest ≡ with_next 34 rest (prefix_len (in_class Unquoted) rest)
unfolding reach
reach_string rest = reach_until-run Unquoted 34 (lit< tt) refl rest
