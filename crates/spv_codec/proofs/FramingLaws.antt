-- Bytes spell one module, or break one rule first.
use Rattle.std.proofs.Common.{◌≡◌, ℕ, zero, suc, ◌+◌, ◌^◌, ◌<◌, ◌≤◌, List, [], ◌∷◌, ◌++◌, length, take, drop, get_or, All, Some, None, sym, ◌∙◌, ap, refl, inl, inr, arith, append_assoc, append-nil, length-append, subst}
use Rattle.std.specs.Prelude.{Bool, true, false, not, ◌==◌, ◌||◌, ◌⊎◌, if◌then◌else◌}
use Rattle.std.proofs.lemmas.Bool.{eqb-true, leb-true, and_parts}
use Rattle.std.proofs.lemmas.List.{take_at, drop_at}
use Rattle.std.proofs.lemmas.List.Elements.{All-append}
use Rattle.ports.specs.declared.faults.SpvFault.{SpvFault}
use Rattle.spv_words.specs.declared.words.Order.{Order}
use Rattle.spv_words.specs.declared.words.Order.TheVariants.{Little, Big}
use Rattle.spv_words.specs.declared.words.TheConstants.{MAGIC}
use Rattle.spv_words.specs.Words.{word_bytes, words_bytes}
use Rattle.spv_words.specs.Feeds.{magic_order}
use Rattle.spv_words.proofs.StringLaws.{one-word_list}
use Rattle.spv_words.proofs.StringLemmas.{length-word_bytes, length-words_bytes}
use Rattle.spv_codec.specs.declared.module.RawInst.{RawInst}
use Rattle.spv_codec.specs.declared.module.RawModule.{RawModule}
use Rattle.spv_codec.specs.Instructions.{spelling, spellings, AllFit, IsInstFault}
use Rattle.spv_codec.specs.Framing.{fault_at, header_fault, is_version, is_bound, module_words, IsSpirv, IsFramingFault, IsShort, IsStrange, Opens}
use Rattle.spv_codec.specs.Laws.{OneModule, ModuleOrFault, OneFault}
use Rattle.spv_codec.proofs.FramingLemmas.{length-Opens}
use Rattle.spv_codec.proofs.StreamLaws.{one-list, no-fault, one-break}

-- the bytes of the magic number tell the order
front : (order : Order) (words rest : List ℕ) → take 4 (words_bytes order (MAGIC ∷ words) ++ rest) ≡ word_bytes order MAGIC
front order words rest =
    ap (take 4) (append_assoc (word_bytes order MAGIC) (words_bytes order words) rest)
    ∙ take_at (word_bytes order MAGIC) (words_bytes order words ++ rest) 4 (length-word_bytes order MAGIC)

pub magic_order-magic : (order : Order) → magic_order (word_bytes order MAGIC) ≡ Some order
magic_order-magic Little = refl
magic_order-magic Big = refl

-- words and the bytes behind them, in one order
record Cut (words others rest more : List ℕ) : Type 0 where
  same_words : words ≡ others
  same_rest : rest ≡ more

one-cut : (order : Order) (words others rest more : List ℕ) → All (λ w. w < 2 ^ 32) words → All (λ w. w < 2 ^ 32) others
    → length rest < 4 → length more < 4 → words_bytes order words ++ rest ≡ words_bytes order others ++ more → Cut words others rest more
one-cut order words others rest more fit others_fit short others_short same =
    let bytes = words_bytes order words in
    let other_bytes = words_bytes order others in
    let len : length bytes ≡ length other_bytes =
    omega (arith, ap length same, length-append bytes rest, length-append other_bytes more, length-words_bytes order words, length-words_bytes order others) in
    let fronts : bytes ≡ other_bytes = sym (take_at bytes rest (length other_bytes) len) ∙ (ap (take (length other_bytes)) same ∙ take_at other_bytes more (length other_bytes) refl) in
    record {
      same_words = one-word_list order bytes words others (record { spelled = refl; in_range = fit }) (record { spelled = fronts; in_range = others_fit });
      same_rest = sym (drop_at bytes rest (length other_bytes) len) ∙ (ap (drop (length other_bytes)) same ∙ drop_at other_bytes more (length other_bytes) refl);
    }

-- what bytes begin with is known
pub record SameOpening (order other : Order) (version other_version generator other_generator bound other_bound schema other_schema : ℕ) (body other_body rest more : List ℕ) : Type 0 where
  pub same_order : order ≡ other
  pub same_version : version ≡ other_version
  pub same_generator : generator ≡ other_generator
  pub same_bound : bound ≡ other_bound
  pub same_schema : schema ≡ other_schema
  pub same_body : body ≡ other_body
  pub same_rest : rest ≡ more

pub one-opening : (bytes : List ℕ) (order other : Order) (v v' g g' b b' s s' : ℕ) (body body' rest rest' : List ℕ)
    → Opens bytes order v g b s body rest → Opens bytes other v' g' b' s' body' rest'
    → SameOpening order other v v' g g' b b' s s' body body' rest rest'
one-opening bytes order other v v' g g' b b' s s' body body' rest rest' first second =
    let words = v ∷ g ∷ b ∷ s ∷ body in
    let others = v' ∷ g' ∷ b' ∷ s' ∷ body' in
    let told : Some order ≡ Some other =
    sym (magic_order-magic order)
    ∙ (ap magic_order (sym (front order words rest) ∙ (ap (take 4) (sym first.spelled ∙ second.spelled) ∙ front other others rest'))
    ∙ magic_order-magic other) in
    let orders : order ≡ other = cc in
    let same : words_bytes other (MAGIC ∷ words) ++ rest ≡ words_bytes other (MAGIC ∷ others) ++ rest' =
    ap (λ o. words_bytes o (MAGIC ∷ words) ++ rest) (sym orders) ∙ (sym first.spelled ∙ second.spelled) in
    let cut = one-cut other (MAGIC ∷ words) (MAGIC ∷ others) rest rest' first.in_range second.in_range first.short second.short same in
    let all : MAGIC ∷ words ≡ MAGIC ∷ others = cut.same_words in
    record {
      same_order = orders;
      same_version = ap (λ ws. get_or ws 1 0) all;
      same_generator = ap (λ ws. get_or ws 2 0) all;
      same_bound = ap (λ ws. get_or ws 3 0) all;
      same_schema = ap (λ ws. get_or ws 4 0) all;
      same_body = ap (drop 5) all;
      same_rest = cut.same_rest;
    }

-- the words of instructions that fit are in range
spellings-in_range : (before insts : List RawInst) → AllFit before insts → All (λ w. w < 2 ^ 32) (spellings insts)
spellings-in_range before [] fit = λ k d lt. absurd (omega arith)
spellings-in_range before (inst ∷ insts) fit =
    All-append (λ w. w < 2 ^ 32) (spelling inst) (spellings insts) (one inst fit.0.op fit.0.short fit.0.in_range) (spellings-in_range (before ++ inst ∷ []) insts fit.1)
  where
    one : (i : RawInst) → i.op < 65536 → length i.operands < 65535 → All (λ w. w < 2 ^ 32) i.operands → All (λ w. w < 2 ^ 32) (spelling i)
    one i op short in_range zero d lt = omega arith
    one i op short in_range (suc k) d lt = in_range k d (omega arith)

-- a right header is in range
pub record HeaderRange (version bound : ℕ) : Type 0 where
  pub version_fits : version < 2 ^ 32
  pub bound_fits : bound < 2 ^ 32

header-range : (version bound schema : ℕ) → header_fault version bound schema ≡ None → HeaderRange version bound
header-range version bound schema none = by_tests (is_version version) refl (is_bound bound) refl none
  where
    by_version : (a b c : Bool) → (0x10000 == version) ≡ a → (0x10100 == version) ≡ b → (0x10200 == version) ≡ c → (a || (b || (c || false))) ≡ true → version < 2 ^ 32
    by_version true b c ea eb ec e = let same = eqb-true 0x10000 version ea in omega arith
    by_version false true c ea eb ec e = let same = eqb-true 0x10100 version eb in omega arith
    by_version false false true ea eb ec e = let same = eqb-true 0x10200 version ec in omega arith
    by_version false false false ea eb ec e = cc

    by_tests : (v : Bool) → is_version version ≡ v → (b : Bool) → is_bound bound ≡ b
        → (if not v then Some (fault_at 4 1) else (if not b then Some (fault_at 6 3) else (if schema == 0 then None else Some (fault_at 5 4)))) ≡ None → HeaderRange version bound
    by_tests false ev b eb n = cc
    by_tests true ev false eb n = cc
    by_tests true ev true eb n =
        let least : bound ≤ 0x3FFFFF = leb-true bound 0x3FFFFF (and_parts _ _ eb).1 in
        record { version_fits = by_version _ _ _ refl refl refl ev; bound_fits = omega arith }

-- the opening of bytes that spell a module
pub Opens-IsSpirv : (bytes : List ℕ) (raw : RawModule) → IsSpirv bytes raw
    → Opens bytes raw.order raw.version raw.generator raw.bound 0 (spellings raw.insts) []
Opens-IsSpirv bytes raw spirv =
    record {
      spelled = spirv.spelled ∙ sym (append-nil (words_bytes raw.order (module_words raw)));
      in_range =
          let header = header-range raw.version raw.bound 0 spirv.right.header in
          five raw.version raw.generator raw.bound (spellings raw.insts) header.version_fits spirv.right.generator header.bound_fits
          (spellings-in_range [] raw.insts spirv.right.fit);
      short = omega arith;
    }
  where
    five : (v g b : ℕ) (ws : List ℕ) → v < 2 ^ 32 → g < 2 ^ 32 → b < 2 ^ 32 → All (λ w. w < 2 ^ 32) ws → All (λ w. w < 2 ^ 32) (MAGIC ∷ v ∷ g ∷ b ∷ 0 ∷ ws)
    five v g b ws fv fg fb fit zero d lt = omega arith
    five v g b ws fv fg fb fit (suc zero) d lt = fv
    five v g b ws fv fg fb fit (suc (suc zero)) d lt = fg
    five v g b ws fv fg fb fit (suc (suc (suc zero))) d lt = fb
    five v g b ws fv fg fb fit (suc (suc (suc (suc zero)))) d lt = omega arith
    five v g b ws fv fg fb fit (suc (suc (suc (suc (suc k))))) d lt = fit k d (omega arith)

pub one-module : OneModule
one-module bytes first second is_first is_second =
    let opening = one-opening bytes first.order second.order first.version second.version first.generator second.generator first.bound second.bound 0 0
    (spellings first.insts) (spellings second.insts) [] [] (Opens-IsSpirv bytes first is_first) (Opens-IsSpirv bytes second is_second) in
    let insts = one-list [] first.insts second.insts is_first.right.fit is_second.right.fit opening.same_body in
    ap (λ o. record { order = o; version = first.version; generator = first.generator; bound = first.bound; insts = first.insts }) opening.same_order
    ∙ (ap (λ v. record { order = second.order; version = v; generator = first.generator; bound = first.bound; insts = first.insts }) opening.same_version
    ∙ (ap (λ g. record { order = second.order; version = second.version; generator = g; bound = first.bound; insts = first.insts }) opening.same_generator
    ∙ (ap (λ b. record { order = second.order; version = second.version; generator = second.generator; bound = b; insts = first.insts }) opening.same_bound
    ∙ ap (λ i. record { order = second.order; version = second.version; generator = second.generator; bound = second.bound; insts = i }) insts)))

-- bytes that open have a header's length, and begin with the magic number
opens-long : (bytes : List ℕ) (order : Order) (v g b s : ℕ) (body rest : List ℕ) → Opens bytes order v g b s body rest → 20 ≤ length bytes
opens-long bytes order v g b s body rest opens = omega (arith, length-Opens bytes order v g b s body rest opens)

opens-magic : (bytes : List ℕ) (order : Order) (v g b s : ℕ) (body rest : List ℕ) → Opens bytes order v g b s body rest
    → magic_order (take 4 bytes) ≡ Some order
opens-magic bytes order v g b s body rest opens =
    ap (λ bs. magic_order (take 4 bs)) opens.spelled ∙ (ap magic_order (front order (v ∷ g ∷ b ∷ s ∷ body) rest) ∙ magic_order-magic order)

-- what is behind a right header
header-same : (v v' b b' s s' : ℕ) → v ≡ v' → b ≡ b' → s ≡ s' → header_fault v b s ≡ header_fault v' b' s'
header-same v v' b b' s s' ev eb es = ap (λ x. header_fault x b s) ev ∙ (ap (λ x. header_fault v' x s) eb ∙ ap (λ x. header_fault v' b' x) es)

same-fault : (f g : SpvFault) → f.rule ≡ g.rule → f.word ≡ g.word → f ≡ g
same-fault f g rules words =
    ap (λ r. record { rule = r; word = f.word }) rules ∙ ap (λ w. record { rule = g.rule; word = w }) words

-- an incomplete word behind right instructions
record CutBody (body rest : List ℕ) (fault : SpvFault) : Type 0 where
  insts : List RawInst
  spelled : body ≡ spellings insts
  fit : AllFit [] insts
  more : 0 < length rest
  due : fault ≡ fault_at 1 (5 + length body)

-- a rule that is broken behind the magic number
abbrev Behind : ℕ → ℕ → ℕ → List ℕ → List ℕ → SpvFault → Type 0
Behind v b s body rest fault =
    (header_fault v b s ≡ Some fault) ⊎ ((header_fault v b s ≡ None) × IsInstFault body fault) ⊎ ((header_fault v b s ≡ None) × CutBody body rest fault)

record OpenFault (bytes : List ℕ) (fault : SpvFault) : Type 0 where
  order : Order
  version : ℕ
  generator : ℕ
  bound : ℕ
  schema : ℕ
  body : List ℕ
  rest : List ℕ
  opens : Opens bytes order version generator bound schema body rest
  behind : Behind version bound schema body rest fault

classified : (bytes : List ℕ) (fault : SpvFault) → IsFramingFault bytes fault → IsShort bytes fault ⊎ IsStrange bytes fault ⊎ OpenFault bytes fault
classified bytes fault (inl short) = inl short
classified bytes fault (inr (inl strange)) = inr (inl strange)
classified bytes fault (inr (inr (inl h))) =
    inr (inr (record { order = h.order; version = h.version; generator = h.generator; bound = h.bound; schema = h.schema; body = h.body; rest = h.rest; opens = h.opens; behind = inl h.due }))
classified bytes fault (inr (inr (inr (inl h)))) =
    inr (inr (record { order = h.order; version = h.version; generator = h.generator; bound = h.bound; schema = h.schema; body = h.body; rest = h.rest; opens = h.opens; behind = inr (inl (h.header, h.inst)) }))
classified bytes fault (inr (inr (inr (inr h)))) =
    inr (inr (record {
      order = h.order;
      version = h.version;
      generator = h.generator;
      bound = h.bound;
      schema = h.schema;
      body = h.body;
      rest = h.rest;
      opens = h.opens;
      behind = inr (inr (h.header, record { insts = h.insts; spelled = h.spelled; fit = h.fit; more = h.more; due = h.due }));
    }))

-- right instructions have none that breaks a rule
right-none : (body : List ℕ) (insts : List RawInst) (fault : SpvFault) → body ≡ spellings insts → AllFit [] insts → IsInstFault body fault → ⊥
right-none body insts fault spelled fit broken =
    no-fault [] insts broken.insts broken.first broken.behind fault.rule fit broken.fit (sym spelled ∙ broken.spelled) broken.rule

one-inst_fault : (body : List ℕ) (f g : SpvFault) → IsInstFault body f → IsInstFault body g → f ≡ g
one-inst_fault body f g first second =
    let same = one-break [] first.insts second.insts first.first second.first first.behind second.behind f.rule g.rule first.fit second.fit
    (sym first.spelled ∙ second.spelled) first.rule second.rule in
    same-fault f g same.rule (first.placed ∙ (ap (λ n. 5 + n) same.place ∙ sym second.placed))

one-behind : (v b s : ℕ) (body rest : List ℕ) (f g : SpvFault) → Behind v b s body rest f → Behind v b s body rest g → f ≡ g
one-behind v b s body rest f g (inl x) (inl y) = cc
one-behind v b s body rest f g (inl x) (inr (inl y)) = let n = y.0 in cc
one-behind v b s body rest f g (inl x) (inr (inr y)) = let n = y.0 in cc
one-behind v b s body rest f g (inr (inl x)) (inl y) = let n = x.0 in cc
one-behind v b s body rest f g (inr (inl x)) (inr (inl y)) = one-inst_fault body f g x.1 y.1
one-behind v b s body rest f g (inr (inl x)) (inr (inr y)) = absurd (right-none body y.1.insts f y.1.spelled y.1.fit x.1)
one-behind v b s body rest f g (inr (inr x)) (inl y) = let n = x.0 in cc
one-behind v b s body rest f g (inr (inr x)) (inr (inl y)) = absurd (right-none body x.1.insts g x.1.spelled x.1.fit y.1)
one-behind v b s body rest f g (inr (inr x)) (inr (inr y)) = x.1.due ∙ sym y.1.due

-- what is broken does not depend on how the bytes were opened
behind-same : (v v' b b' s s' : ℕ) (body body' rest rest' : List ℕ) (f : SpvFault) → v ≡ v' → b ≡ b' → s ≡ s' → body ≡ body' → rest ≡ rest'
    → Behind v b s body rest f → Behind v' b' s' body' rest' f
behind-same v v' b b' s s' body body' rest rest' f ev eb es ebody erest behind =
    let V : ℕ → Type 0 = λ x. Behind x b s body rest f in
    let B : ℕ → Type 0 = λ x. Behind v' x s body rest f in
    let S : ℕ → Type 0 = λ x. Behind v' b' x body rest f in
    let W : List ℕ → Type 0 = λ x. Behind v' b' s' x rest f in
    let R : List ℕ → Type 0 = λ x. Behind v' b' s' body' x f in
    subst R erest (subst W ebody (subst S es (subst B eb (subst V ev behind))))

-- the magic number stands where bytes open, and nowhere else
strange-opens : (bytes : List ℕ) (fault : SpvFault) (order : Order) (v g b s : ℕ) (body rest : List ℕ) → IsStrange bytes fault
    → Opens bytes order v g b s body rest → ⊥
strange-opens bytes fault order v g b s body rest strange opens =
    let some = opens-magic bytes order v g b s body rest opens in
    let none = strange.neither in
    cc

short-long : (bytes : List ℕ) (fault : SpvFault) → IsShort bytes fault → 20 ≤ length bytes → ⊥
short-long bytes fault short long = absurd (omega (arith, short.short))

open-long : (bytes : List ℕ) (fault : SpvFault) → OpenFault bytes fault → 20 ≤ length bytes
open-long bytes fault o = opens-long bytes o.order o.version o.generator o.bound o.schema o.body o.rest o.opens

one-open : (bytes : List ℕ) (f g : SpvFault) → OpenFault bytes f → OpenFault bytes g → f ≡ g
one-open bytes f g x y =
    let same = one-opening bytes x.order y.order x.version y.version x.generator y.generator x.bound y.bound x.schema y.schema x.body y.body x.rest y.rest x.opens y.opens in
    one-behind y.version y.bound y.schema y.body y.rest f g
    (behind-same x.version y.version x.bound y.bound x.schema y.schema x.body y.body x.rest y.rest f same.same_version same.same_bound same.same_schema same.same_body same.same_rest x.behind)
    y.behind

pub one-fault : OneFault
one-fault bytes f g first second = by_class (classified bytes f first) (classified bytes g second)
  where
    by_class : IsShort bytes f ⊎ IsStrange bytes f ⊎ OpenFault bytes f → IsShort bytes g ⊎ IsStrange bytes g ⊎ OpenFault bytes g → f ≡ g
    by_class (inl x) (inl y) = x.due ∙ sym y.due
    by_class (inl x) (inr (inl y)) = absurd (short-long bytes f x y.enough)
    by_class (inl x) (inr (inr y)) = absurd (short-long bytes f x (open-long bytes g y))
    by_class (inr (inl x)) (inl y) = absurd (short-long bytes g y x.enough)
    by_class (inr (inl x)) (inr (inl y)) = x.due ∙ sym y.due
    by_class (inr (inl x)) (inr (inr y)) = absurd (strange-opens bytes f y.order y.version y.generator y.bound y.schema y.body y.rest x y.opens)
    by_class (inr (inr x)) (inl y) = absurd (short-long bytes g y (open-long bytes f x))
    by_class (inr (inr x)) (inr (inl y)) = absurd (strange-opens bytes g x.order x.version x.generator x.bound x.schema x.body x.rest y x.opens)
    by_class (inr (inr x)) (inr (inr y)) = one-open bytes f g x y

module-behind : (v b : ℕ) (body : List ℕ) (insts : List RawInst) (fault : SpvFault) → header_fault v b 0 ≡ None → body ≡ spellings insts → AllFit [] insts
    → Behind v b 0 body [] fault → ⊥
module-behind v b body insts fault right spelled fit (inl x) = cc
module-behind v b body insts fault right spelled fit (inr (inl x)) = right-none body insts fault spelled fit x.1
module-behind v b body insts fault right spelled fit (inr (inr x)) = absurd (omega (arith, x.1.more))

pub module-or_fault : ModuleOrFault
module-or_fault bytes raw fault spirv broken = by_class (classified bytes fault broken)
  where
    opened : Opens bytes raw.order raw.version raw.generator raw.bound 0 (spellings raw.insts) []
    opened = Opens-IsSpirv bytes raw spirv

    by_class : IsShort bytes fault ⊎ IsStrange bytes fault ⊎ OpenFault bytes fault → ⊥
    by_class (inl x) = short-long bytes fault x (opens-long bytes raw.order raw.version raw.generator raw.bound 0 (spellings raw.insts) [] opened)
    by_class (inr (inl x)) = strange-opens bytes fault raw.order raw.version raw.generator raw.bound 0 (spellings raw.insts) [] x opened
    by_class (inr (inr x)) =
        let same = one-opening bytes x.order raw.order x.version raw.version x.generator raw.generator x.bound raw.bound x.schema 0 x.body (spellings raw.insts) x.rest [] x.opens opened in
        module-behind raw.version raw.bound (spellings raw.insts) raw.insts fault spirv.right.header refl spirv.right.fit
        (behind-same x.version raw.version x.bound raw.bound x.schema 0 x.body (spellings raw.insts) x.rest [] fault same.same_version same.same_bound same.same_schema same.same_body same.same_rest x.behind)
