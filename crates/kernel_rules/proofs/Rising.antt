-- The places of the names that a text uses rise.
use Rattle.std.proofs.Common.{◌≡◌, ℕ, ◌+◌, ◌<◌, ◌≤◌, Bool, true, false, cond, List, [], ◌∷◌, ◌++◌, map, length, refl, sym, ◌∙◌, ap, subst, arith, Option, Some, None, inl, inr}
use Rattle.std.specs.Prelude.{flat_map, filter, find, min}
use Rattle.std.specs.Option.{option_map}
use Rattle.rule_order.specs.Breaks.{break_at, earlier, first_refusal, least, least_with}
use Rattle.ll_tokens.specs.declared.kinds.TokenKind.{TokenKind}
use Rattle.ll_tokens.specs.Tokens.{IsTokens, Lexeme, PlacesRise}
use Rattle.ll_tokens.proofs.Places.{places_rise_of}
use Rattle.ll_tree.specs.declared.name.Name.{Name}
use Rattle.ll_tree.specs.declared.name.NameText.{NameText}
use Rattle.ll_parser.specs.Productions.{Production, nothing, ◌>>◌, token, mark, each, each_behind_comma, listed}
use Rattle.kernel_text.specs.declared.name_sorts.NameSort.{NameSort}
use Rattle.kernel_text.specs.declared.name_sorts.NameSort.TheVariants as sort
use Rattle.kernel_text.specs.declared.phrases.Phrase.{Phrase}
use Rattle.kernel_text.specs.declared.phrases.Phrase.TheVariants as phrase
use Rattle.kernel_text.specs.Grammar.{IsKernelText, align, block_name, inst, kernel as kernel_production, number_behind, param, suffix, targets}
use Rattle.kernel_text.specs.NameSorts.{written_name}
use Rattle.kernel_text.specs.Phrases.{Wanted, exactly, pieces_of, wanted_token, words_of}
use Rattle.kernel_tree.specs.declared.kernel.Kernel.{Kernel}
use Rattle.kernel_tree.specs.declared.kernel.KernelInst.{KernelInst}
use Rattle.kernel_tree.specs.declared.kernel.KernelInst.TheVariants.{Add, Load, Store}
use Rattle.kernel_tree.specs.declared.kernel.KernelParam.{KernelParam}
use Rattle.kernel_tree.specs.declared.kernel.ValueType.{ValueType}
use Rattle.kernel_tree.specs.declared.kernel.ValueType.TheVariants.{Int, Pointer}
use Rattle.kernel_tree.specs.declared.names.Use.{Use}
use Rattle.kernel_tree.specs.Canonical.{numbers_defined}
use Rattle.kernel_tree.specs.Covered.{first_undefined, is_undefined, used_byte}
use Rattle.kernel_tree.specs.Names.{uses, used_by}
use Rattle.kernel_rules.specs.Rules.{name_rules, undefined_at, undefined_places}

-- tokens from a place on, each behind the one before it
abbrev From : ℕ → List Lexeme → Type 0
From low [] = Unit {0}
From low (first ∷ rest) = (low ≤ first.byte) × From (first.byte + 1) rest

-- places from one on that don't fall, up to another
abbrev Rising : ℕ → List ℕ → ℕ → Type 0
Rising low [] high = low ≤ high
Rising low (place ∷ places) high = (low ≤ place) × Rising place places high

record IsBetween (low : ℕ) (places : List ℕ) (rest : List Lexeme) : Type 0 where
  high : ℕ
  rising : Rising low places high
  from : From high rest

-- a production whose tokens name things at these places
abbrev RisesBy : Production → List ℕ → Type 0
RisesBy p places = (tokens rest : List Lexeme) (low : ℕ) → p tokens rest → From low tokens → IsBetween low places rest

rising-within : (low high : ℕ) (places : List ℕ) → Rising low places high → low ≤ high
rising-within low high [] rising = rising
rising-within low high (place ∷ places) rising =
    let behind : place ≤ high = rising-within place high places rising.1 in
    let here : low ≤ place = rising.0 in
    omega arith

rising-lower : (lower low high : ℕ) (places : List ℕ) → lower ≤ low → Rising low places high → Rising lower places high
rising-lower lower low high [] less rising = let within : low ≤ high = rising in omega arith
rising-lower lower low high (place ∷ places) less rising = let here : low ≤ place = rising.0 in (omega arith, rising.1)

rising-both : (low middle high : ℕ) (first second : List ℕ) → Rising low first middle → Rising middle second high → Rising low (first ++ second) high
rising-both low middle high [] second rising behind = rising-lower low middle high second rising behind
rising-both low middle high (place ∷ first) second rising behind = (rising.0, rising-both place middle high first second rising.1 behind)

from-lower : (lower low : ℕ) (tokens : List Lexeme) → lower ≤ low → From low tokens → From lower tokens
from-lower lower low [] less from = tt
from-lower lower low (first ∷ rest) less from = let here : low ≤ first.byte = from.0 in (omega arith, from.1)

-- productions
nothing-rises : RisesBy nothing []
nothing-rises tokens rest low is from = record { high = low; rising = omega arith; from = subst (From low) is from }

token-rises : (kind : TokenKind) (test : Lexeme → Type 0) → RisesBy (token kind test) []
token-rises kind test tokens rest low (lexeme, is, k, t) from =
    let there : From low (lexeme ∷ rest) = subst (From low) is from in
    let here : low ≤ lexeme.byte = there.0 in
    record { high = lexeme.byte + 1; rising = omega arith; from = there.1 }

name-rises : (s : NameSort) (names : List NameText) (name : Name) → RisesBy (written_name s names name) (name.byte ∷ [])
name-rises s names name tokens rest low (lexeme, is, k, test) from =
    let there : From low (lexeme ∷ rest) = subst (From low) is from in
    let here : low ≤ lexeme.byte = there.0 in
    let same : name.byte ≡ lexeme.byte = test.1 in
    record { high = lexeme.byte + 1; rising = (omega arith, omega arith); from = there.1 }

seq-rises : (p q : Production) (first second : List ℕ) → RisesBy p first → RisesBy q second → RisesBy (p >> q) (first ++ second)
unfolding ◌>>◌
seq-rises p q first second by_first by_second tokens rest low (middle, d, e) from =
    let front = by_first tokens middle low d from in
    let behind = by_second middle rest front.high e front.from in
    record { high = behind.high; rising = rising-both low front.high behind.high first second front.rising behind.rising; from = behind.from }

-- names that aren't counted
unnamed : (p : Production) (places : List ℕ) → RisesBy p places → RisesBy p []
unnamed p places by tokens rest low d from =
    let front = by tokens rest low d from in
    record { high = front.high; rising = rising-within low front.high places front.rising; from = front.from }

exactly-rises : (ws : List Wanted) → RisesBy (exactly ws) []
exactly-rises [] = nothing-rises
exactly-rises (w ∷ ws) = seq-rises (wanted_token w) (exactly ws) [] [] (token-rises _ _) (exactly-rises ws)

words-rise : (p : Phrase) → RisesBy (words_of p) []
words-rise p = exactly-rises (pieces_of p)

align-rises : (b : Bool) → RisesBy (align b) []
align-rises true = words-rise phrase.Align
align-rises false = nothing-rises

module _ (names : List NameText) where
  defined-rises : (name : Name) → RisesBy (written_name sort.Value names name) []
  defined-rises name = unnamed (written_name sort.Value names name) (name.byte ∷ []) (name-rises sort.Value names name)

  inst-rises : (i : KernelInst) → RisesBy (inst names i) (map used_byte (used_by i))
  inst-rises (Add sum left right) =
      seq-rises _ _ [] (left.byte ∷ right.byte ∷ []) (defined-rises sum)
      (seq-rises _ _ [] (left.byte ∷ right.byte ∷ []) (words-rise phrase.AddWords)
      (seq-rises _ _ (left.byte ∷ []) (right.byte ∷ []) (name-rises sort.Value names left)
      (seq-rises _ _ [] (right.byte ∷ []) (words-rise phrase.Comma) (name-rises sort.Value names right))))
  inst-rises (Load loaded pointer is_aligned) =
      seq-rises _ _ [] (pointer.byte ∷ []) (defined-rises loaded)
      (seq-rises _ _ [] (pointer.byte ∷ []) (words-rise phrase.LoadWords)
      (seq-rises _ _ (pointer.byte ∷ []) [] (name-rises sort.Value names pointer) (align-rises is_aligned)))
  inst-rises (Store value pointer is_aligned) =
      seq-rises _ _ [] (value.byte ∷ pointer.byte ∷ []) (words-rise phrase.StoreWords)
      (seq-rises _ _ (value.byte ∷ []) (pointer.byte ∷ []) (name-rises sort.Value names value)
      (seq-rises _ _ [] (pointer.byte ∷ []) (words-rise phrase.PointerOperand)
      (seq-rises _ _ (pointer.byte ∷ []) [] (name-rises sort.Value names pointer) (align-rises is_aligned))))

  map-both : (xs ys : List Use) → map used_byte (xs ++ ys) ≡ map used_byte xs ++ map used_byte ys
  map-both [] ys = refl
  map-both (x ∷ xs) ys = ap (λ bs. used_byte x ∷ bs) (map-both xs ys)

  insts-rise : (is : List KernelInst) → RisesBy (each (inst names) is) (map used_byte (flat_map used_by is))
  insts-rise [] = nothing-rises
  insts-rise (i ∷ is) =
      subst (RisesBy (each (inst names) (i ∷ is))) (sym (map-both (used_by i) (flat_map used_by is)))
      (seq-rises (inst names i) (each (inst names) is) (map used_byte (used_by i)) (map used_byte (flat_map used_by is)) (inst-rises i) (insts-rise is))

  suffix-rises : (t : ValueType) → RisesBy (suffix t) []
  suffix-rises Int = nothing-rises
  suffix-rises Pointer = words-rise phrase.PointerSuffix

  param-rises : (p : KernelParam) → RisesBy (param names p) []
  param-rises p =
      seq-rises _ _ [] [] (words-rise phrase.IntType) (seq-rises _ _ [] [] (suffix-rises p.value_type) (defined-rises p.name))

  behind-rises : (ps : List KernelParam) → RisesBy (each_behind_comma (param names) ps) []
  behind-rises [] = nothing-rises
  behind-rises (p ∷ ps) =
      seq-rises (mark 44) (param names p >> each_behind_comma (param names) ps) [] [] (token-rises _ _)
      (seq-rises (param names p) (each_behind_comma (param names) ps) [] [] (param-rises p) (behind-rises ps))

  params-rise : (ps : List KernelParam) → RisesBy (listed (param names) ps) []
  params-rise [] = nothing-rises
  params-rise (p ∷ ps) = seq-rises (param names p) (each_behind_comma (param names) ps) [] [] (param-rises p) (behind-rises ps)

  block-rises : (next : ℕ) (name : Name) → RisesBy (block_name next names name) []
  block-rises next name tokens rest low (inl d) from =
      unnamed (written_name sort.Label names name) (name.byte ∷ []) (name-rises sort.Label names name) tokens rest low d from
  block-rises next name tokens rest low (inr (numbered, begins, same)) from = nothing-rises tokens rest low same from

targets-rise : (b : Bool) → RisesBy (targets b) []
targets-rise true = words-rise phrase.TargetLines
targets-rise false = nothing-rises

append-nothing : (xs : List ℕ) → xs ++ [] ≡ xs
append-nothing [] = refl
append-nothing (x ∷ xs) = ap (λ ys. x ∷ ys) (append-nothing xs)

kernel-rises : (names : List NameText) (k : Kernel) → RisesBy (kernel_production names k) (map used_byte (uses k))
kernel-rises names k =
    let used = map used_byte (uses k) in
    seq-rises _ _ [] used (targets-rise k.has_targets)
    (seq-rises _ _ [] used (words-rise phrase.KernelWords)
    (seq-rises _ _ [] used (unnamed (written_name sort.Kernel names k.name) (k.name.byte ∷ []) (name-rises sort.Kernel names k.name))
    (seq-rises _ _ [] used (words-rise phrase.ParamsStart)
    (seq-rises _ _ [] used (params-rise names k.params)
    (seq-rises _ _ [] used (words-rise phrase.BodyStart)
    (seq-rises _ _ [] used (block-rises names (number_behind names k.params) k.block)
    (subst (RisesBy (each (inst names) k.insts >> words_of phrase.BodyEnd)) (append-nothing used)
    (seq-rises (each (inst names) k.insts) (words_of phrase.BodyEnd) used [] (insts-rise names k.insts) (words-rise phrase.BodyEnd)))))))))

-- tokens of a text rise
rise-from : (low : ℕ) (first : Lexeme) (rest : List Lexeme) → low ≤ first.byte → PlacesRise (first ∷ rest) → From low (first ∷ rest)
rise-from low first [] less rise = (less, tt)
rise-from low first (next ∷ rest) less rise =
    let some : 0 < length first.text = rise.0 in
    let gap : first.byte + length first.text ≤ next.byte = rise.1 in
    (less, rise-from (first.byte + 1) next rest (omega arith) rise.2)

tokens-from : (tokens : List Lexeme) → PlacesRise tokens → From 0 tokens
tokens-from [] rise = tt
tokens-from (first ∷ rest) rise = rise-from 0 first rest (omega arith) rise

abbrev first_of_places : List ℕ → Option ℕ
first_of_places [] = None
first_of_places (place ∷ places) = Some place

-- some of the places rise too
module _ (test : Use → Bool) where
  filtered-rise : (low high : ℕ) (all : List Use) → Rising low (map used_byte all) high → Rising low (map used_byte (filter test all)) high
  filtered-rise low high [] rising = rising
  filtered-rise low high (use_of ∷ all) rising = by (test use_of) (filtered-rise use_of.name.byte high all rising.1)
    where
      by : (b : Bool) → Rising use_of.name.byte (map used_byte (filter test all)) high → Rising low (map used_byte (cond b (use_of ∷ filter test all) (filter test all))) high
      by true behind = (rising.0, behind)
      by false behind = let here : low ≤ use_of.name.byte = rising.0 in rising-lower low use_of.name.byte high (map used_byte (filter test all)) here behind

  -- the first of them is the first that is found
  first-found : (all : List Use) → option_map used_byte (find test all) ≡ first_of_places (map used_byte (filter test all))
  first-found [] = refl
  first-found (use_of ∷ all) = by (test use_of) (first-found all)
    where
      by : (b : Bool) → option_map used_byte (find test all) ≡ first_of_places (map used_byte (filter test all))
          → option_map used_byte (cond b (Some use_of) (find test all)) ≡ first_of_places (map used_byte (cond b (use_of ∷ filter test all) (filter test all)))
      by true later = refl
      by false later = later

-- the least of places that rise is the first
least-first : (low high : ℕ) (places : List ℕ) → Rising low places high → least places ≡ first_of_places places
least-first low high [] rising = refl
least-first low high (place ∷ []) rising = refl
least-first low high (place ∷ next ∷ places) rising =
    let behind : least (next ∷ places) ≡ Some next = least-first place high (next ∷ places) rising.1 in
    let less : place ≤ next = rising.1.0 in
    let same : min place next ≡ place = omega arith in
    ap (λ (o : Option ℕ). Some (least_with place o)) behind ∙ ap Some same

pub undefined-first : (text : List ℕ) (tokens : List Lexeme) (kernel : Kernel) → IsTokens text tokens → IsKernelText tokens kernel
    → first_refusal (name_rules kernel) ≡ option_map undefined_at (first_undefined kernel)
undefined-first text tokens kernel are reads =
    let from = tokens-from tokens (places_rise_of (length text) text [] tokens are) in
    let between = kernel-rises kernel.names kernel tokens [] 0 reads.reads from in
    let test = is_undefined (numbers_defined kernel) in
    let rising = filtered-rise test 0 between.high (uses kernel) between.rising in
    let is : least (undefined_places kernel) ≡ first_undefined kernel = least-first 0 between.high (undefined_places kernel) rising ∙ sym (first-found test (uses kernel)) in
    told (least (undefined_places kernel)) ∙ ap (option_map undefined_at) is
  where
    told : (o : Option ℕ) → earlier (break_at 20 o) None ≡ option_map undefined_at o
    told None = refl
    told (Some place) = refl
