-- Words are the spellings of one list of instructions at most.
use Rattle.std.proofs.Common.{◌≡◌, ℕ, ◌+◌, ◌-◌, ◌*◌, ◌/◌, ◌%◌, ◌<◌, ◌≤◌, false, List, [], ◌∷◌, ◌++◌, length, take, drop, get_or, Some, None, sym, ◌∙◌, ap, refl, arith, append_assoc, append-nil, length-append, subst}
use Rattle.std.specs.Prelude.{nat_lt, ◌==◌}
use Rattle.std.specs.Option.{option_or}
use Rattle.std.proofs.lemmas.List.{take_at, drop_at}
use Rattle.std.proofs.lemmas.Bool.{ne_eqb, le-ltb}
use Rattle.spv_codec.specs.declared.module.RawInst.{RawInst}
use Rattle.spv_codec.specs.Ids.{ids_of}
use Rattle.spv_codec.specs.Instructions.{spelling, spellings, operands_rule, count_rule, operands_at, first_rule, Fits, AllFit}

-- two instructions that words begin with are of one opcode and the same operands, and the words behind them are the same
pub record Same (a b : RawInst) (x y : List ℕ) : Type 0 where
  pub op : a.op ≡ b.op
  pub operands : a.operands ≡ b.operands
  pub behind : x ≡ y

pub same-heads : (a b : RawInst) (x y : List ℕ) → a.op < 65536 → b.op < 65536 → spelling a ++ x ≡ spelling b ++ y → Same a b x y
same-heads a b x y a_op b_op same =
    let first : 65536 * (length a.operands + 1) + a.op ≡ 65536 * (length b.operands + 1) + b.op = ap (λ ws. get_or ws 0 0) same in
    let op : a.op ≡ b.op = omega (arith, first) in
    let len : length a.operands ≡ length b.operands = omega (arith, first) in
    let tail : a.operands ++ x ≡ b.operands ++ y = ap (drop 1) same in
    record {
      op = op;
      operands = sym (take_at a.operands x (length b.operands) len) ∙ (ap (take (length b.operands)) tail ∙ take_at b.operands y (length b.operands) refl);
      behind = sym (drop_at a.operands x (length b.operands) len) ∙ (ap (drop (length b.operands)) tail ∙ drop_at b.operands y (length b.operands) refl);
    }

same-inst : (a b : RawInst) → a.op ≡ b.op → a.place ≡ b.place → a.operands ≡ b.operands → a ≡ b
same-inst a b op place operands =
    ap (λ o. record { op = o; place = a.place; operands = a.operands }) op
    ∙ (ap (λ p. record { op = b.op; place = p; operands = a.operands }) place
    ∙ ap (λ w. record { op = b.op; place = b.place; operands = w }) operands)

-- instructions behind the same ones, of the same words, are the same
pub one-list : (before xs ys : List RawInst) → AllFit before xs → AllFit before ys → spellings xs ≡ spellings ys → xs ≡ ys
one-list before [] [] fit_a fit_b same = refl
one-list before [] (b ∷ ys) fit_a fit_b same = absurd (omega (arith, ap length same, length-append (spelling b) (spellings ys)))
one-list before (a ∷ xs) [] fit_a fit_b same = absurd (omega (arith, ap length same, length-append (spelling a) (spellings xs)))
one-list before (a ∷ xs) (b ∷ ys) fit_a fit_b same =
    let heads = same-heads a b (spellings xs) (spellings ys) fit_a.0.op fit_b.0.op same in
    let head : a ≡ b = same-inst a b heads.op (fit_a.0.placed ∙ sym fit_b.0.placed) heads.operands in
    let At : RawInst → Type 0 = λ i. AllFit (before ++ i ∷ []) ys in
    let tail = one-list (before ++ a ∷ []) xs ys fit_a.1 (subst At (sym head) fit_b.1) heads.behind in
    ap (λ i. i ∷ xs) head ∙ ap (λ is. b ∷ is) tail

-- an instruction that fits breaks no rule where it stands
pub fits-no_rule : (before : List RawInst) (a : RawInst) (first : ℕ) (behind rest : List ℕ) → Fits before a → first ∷ behind ≡ spelling a ++ rest
    → first_rule (ids_of before) first behind ≡ None
fits-no_rule before a first behind rest fits same =
    let len = length a.operands in
    let word : first ≡ 65536 * (len + 1) + a.op = ap (λ ws. get_or ws 0 0) same in
    let tail : behind ≡ a.operands ++ rest = ap (drop 1) same in
    let op_fits = fits.op in
    let count : first / 65536 ≡ len + 1 = omega (arith, word) in
    let op : first % 65536 ≡ a.op = omega (arith, word) in
    let long : len ≤ length behind = omega (arith, ap length tail, length-append a.operands rest) in
    let operands : operands_at first behind ≡ a.operands =
    ap (λ n. take (n - 1) behind) count ∙ (ap (λ n. take n behind) (omega arith) ∙ (ap (take len) tail ∙ take_at a.operands rest len refl)) in
    let none : count_rule first behind ≡ None = counts first behind (omega (arith, count)) (omega (arith, count, long)) in
    ap (λ r. option_or r (operands_rule (ids_of before) (first % 65536) (operands_at first behind))) none
    ∙ (ap (λ o. operands_rule (ids_of before) o (operands_at first behind)) op
    ∙ (ap (operands_rule (ids_of before) a.op) operands ∙ fits.right))
  where
    counts : (f : ℕ) (b : List ℕ) → 0 < f / 65536 → f / 65536 ≤ length b + 1 → count_rule f b ≡ None
    counts f b some within =
        let differs : (f / 65536 == 0) ≡ false = ne_eqb (f / 65536) 0 (λ e. absurd (omega arith)) in
        let below : nat_lt (length b + 1) (f / 65536) ≡ false = le-ltb (length b + 1) (f / 65536) within in
        rw (differs, below) refl

-- instructions of all the words, and an instruction that breaks a rule behind others
pub no-fault : (before xs ys : List RawInst) (first : ℕ) (behind : List ℕ) (rule : ℕ) → AllFit before xs → AllFit before ys
    → spellings xs ≡ spellings ys ++ first ∷ behind → first_rule (ids_of (before ++ ys)) first behind ≡ Some rule → ⊥
no-fault before [] [] first behind rule fit_a fit_b same broken = absurd (omega (arith, ap length same))
no-fault before [] (b ∷ ys) first behind rule fit_a fit_b same broken =
    absurd (omega (arith, ap length same, length-append (spellings (b ∷ ys)) (first ∷ behind)))
no-fault before (a ∷ xs) [] first behind rule fit_a fit_b same broken =
    let none = fits-no_rule before a first behind (spellings xs) fit_a.0 (sym same) in
    let At : List RawInst → Type 0 = λ is. first_rule (ids_of is) first behind ≡ Some rule in
    let some : first_rule (ids_of before) first behind ≡ Some rule = subst At (append-nil before) broken in
    cc
no-fault before (a ∷ xs) (b ∷ ys) first behind rule fit_a fit_b same broken =
    let heads = same-heads a b (spellings xs) (spellings ys ++ first ∷ behind) fit_a.0.op fit_b.0.op (same ∙ append_assoc (spelling b) (spellings ys) (first ∷ behind)) in
    let head : a ≡ b = same-inst a b heads.op (fit_a.0.placed ∙ sym fit_b.0.placed) heads.operands in
    let At : RawInst → Type 0 = λ i. AllFit (before ++ i ∷ []) xs in
    let Is : List RawInst → Type 0 = λ is. first_rule (ids_of is) first behind ≡ Some rule in
    no-fault (before ++ b ∷ []) xs ys first behind rule (subst At head fit_a.1) fit_b.1 heads.behind
    (subst Is (sym (append_assoc before (b ∷ []) ys)) broken)

-- two instructions that break a rule first are at one place, and break the same
pub record SameBreak (xs ys : List RawInst) (a_rule b_rule : ℕ) : Type 0 where
  pub place : length (spellings xs) ≡ length (spellings ys)
  pub rule : a_rule ≡ b_rule

pub one-break : (before xs ys : List RawInst) (a_first b_first : ℕ) (a_behind b_behind : List ℕ) (a_rule b_rule : ℕ)
    → AllFit before xs → AllFit before ys → spellings xs ++ a_first ∷ a_behind ≡ spellings ys ++ b_first ∷ b_behind
    → first_rule (ids_of (before ++ xs)) a_first a_behind ≡ Some a_rule → first_rule (ids_of (before ++ ys)) b_first b_behind ≡ Some b_rule
    → SameBreak xs ys a_rule b_rule
one-break before [] [] a_first b_first a_behind b_behind a_rule b_rule fit_a fit_b same a_broken b_broken =
    let first : a_first ≡ b_first = ap (λ ws. get_or ws 0 0) same in
    let behind : a_behind ≡ b_behind = ap (drop 1) same in
    let rules : Some a_rule ≡ Some b_rule =
    sym a_broken ∙ (ap (λ f. first_rule (ids_of (before ++ [])) f a_behind) first ∙ (ap (first_rule (ids_of (before ++ [])) b_first) behind ∙ b_broken)) in
    record { place = refl; rule = cc }
one-break before [] (b ∷ ys) a_first b_first a_behind b_behind a_rule b_rule fit_a fit_b same a_broken b_broken =
    let none = fits-no_rule before b a_first a_behind (spellings ys ++ b_first ∷ b_behind) fit_b.0 (same ∙ append_assoc (spelling b) (spellings ys) (b_first ∷ b_behind)) in
    let At : List RawInst → Type 0 = λ is. first_rule (ids_of is) a_first a_behind ≡ Some a_rule in
    let some : first_rule (ids_of before) a_first a_behind ≡ Some a_rule = subst At (append-nil before) a_broken in
    cc
one-break before (a ∷ xs) [] a_first b_first a_behind b_behind a_rule b_rule fit_a fit_b same a_broken b_broken =
    let none = fits-no_rule before a b_first b_behind (spellings xs ++ a_first ∷ a_behind) fit_a.0 (sym same ∙ append_assoc (spelling a) (spellings xs) (a_first ∷ a_behind)) in
    let At : List RawInst → Type 0 = λ is. first_rule (ids_of is) b_first b_behind ≡ Some b_rule in
    let some : first_rule (ids_of before) b_first b_behind ≡ Some b_rule = subst At (append-nil before) b_broken in
    cc
one-break before (a ∷ xs) (b ∷ ys) a_first b_first a_behind b_behind a_rule b_rule fit_a fit_b same a_broken b_broken =
    let heads = same-heads a b (spellings xs ++ a_first ∷ a_behind) (spellings ys ++ b_first ∷ b_behind) fit_a.0.op fit_b.0.op
    (sym (append_assoc (spelling a) (spellings xs) (a_first ∷ a_behind)) ∙ (same ∙ append_assoc (spelling b) (spellings ys) (b_first ∷ b_behind))) in
    let head : a ≡ b = same-inst a b heads.op (fit_a.0.placed ∙ sym fit_b.0.placed) heads.operands in
    let At : RawInst → Type 0 = λ i. AllFit (before ++ i ∷ []) xs in
    let IsA : List RawInst → Type 0 = λ is. first_rule (ids_of is) a_first a_behind ≡ Some a_rule in
    let IsB : List RawInst → Type 0 = λ is. first_rule (ids_of is) b_first b_behind ≡ Some b_rule in
    let ByA : RawInst → Type 0 = λ i. IsA ((before ++ i ∷ []) ++ xs) in
    let rest = one-break (before ++ b ∷ []) xs ys a_first b_first a_behind b_behind a_rule b_rule (subst At head fit_a.1) fit_b.1 heads.behind
    (subst ByA head (subst IsA (sym (append_assoc before (a ∷ []) xs)) a_broken)) (subst IsB (sym (append_assoc before (b ∷ []) ys)) b_broken) in
    record {
      place = omega (arith, rest.place, length-append (spelling a) (spellings xs), length-append (spelling b) (spellings ys), ap length heads.operands);
      rule = rest.rule;
    }
