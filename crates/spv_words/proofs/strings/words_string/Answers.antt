-- A string ends at the first zero byte, behind which its word has zeros alone.
use Rattle.std.proofs.Common.{◌≡◌, ◌≢◌, ◌<◌, ◌+◌, ◌*◌, ◌-◌, ◌/◌, List, ℕ, length, take, drop, All, IsTrue, ap, ◌∙◌, sym, subst, arith, string_bytes}
use Rattle.std.proofs.lemmas.Bool.{false≢true}
use Rattle.spv_words.specs.declared.words.Order.TheVariants.{Little}
use Rattle.spv_words.specs.Words.{words_bytes}
use Rattle.std.specs.Prelude.{IsUtf8}
use Rattle.spv_words.specs.Strings.{terminated}
use Rattle.spv_words.proofs.StringLemmas.{ZeroAt, length-words_bytes, no_string-none, spelled-to_zero, text-string, zeros-string}
use Rattle.spv_words.proofs.strings.words_string.Goals as goal

pub returns-in_default-clause-bad : goal.returns-in_default-clause-bad
returns-in_default-clause-bad c =
    λ _ text used string.
    no_string-none c.args.words.now c.deref.result.now (c.deref.ensures.value ∙ c.in_ok-bytes.ensures) c.in_default.ensures.none text used string

pub slice_bounds-are_zero-end : goal.slice_bounds-are_zero-end
slice_bounds-are_zero-end c =
    let whole : length c.deref.result.now ≡ 4 * length c.args.words.now =
    ap length (c.deref.ensures.value ∙ c.in_ok-bytes.ensures) ∙ length-words_bytes Little c.args.words.now in
    let same : length c.deref-2.result.now ≡ length c.deref.result.now = ap length (c.deref-2.ensures.value ∙ sym c.deref.ensures.value) in
    let within : c.in-Some.len < length c.deref.result.now = c.in-Some.ensures.within in
    omega arith

pub returns-then-not-are_zero-clause-bad : goal.returns-then-not-are_zero-clause-bad
returns-then-not-are_zero-clause-bad c =
    λ _ text used string.
    let at : ZeroAt c.deref.result.now c.in-Some.len = record {
      within = c.in-Some.ensures.within;
      zero = c.in-Some.ensures.zero;
      before = c.in-Some.ensures.before;
    } in
    let zeros = zeros-string c.args.words.now c.deref.result.now c.in-Some.len (c.deref.ensures.value ∙ c.in_ok-bytes.ensures) at text used string in
    let P : List ℕ → Type 0 = λ xs. All (λ byte. byte ≡ 0) (take (4 * (c.in-Some.len / 4 + 1) - c.in-Some.len) (drop c.in-Some.len xs)) in
    let yes : IsTrue c.are_zero.result = c.are_zero.ensures.1 (subst P (c.deref.ensures.value ∙ sym c.deref-2.ensures.value) zeros) in
    false≢true (sym c.if-not-are_zero.true ∙ yes)

pub returns-clause-read : goal.returns-clause-read
returns-clause-read c =
    let bytes = c.in_ok-bytes.bytes.items in
    let len = c.in-Some.len in
    let are : bytes ≡ words_bytes Little c.args.words.now = c.in_ok-bytes.ensures in
    let slice : take len c.deref-3.result.now ≡ take len bytes = ap (take len) c.deref-3.ensures.value in
    let text : string_bytes c.in_ok-from_str.field-0 ≡ take len bytes =
    c.in_ok-from_str.ensures.ok ∙ c.in-Ok.ensures.cases.0 ∙ slice in
    let whole : length bytes ≡ 4 * length c.args.words.now = ap length are ∙ length-words_bytes Little c.args.words.now in
    let same : length c.deref.result.now ≡ length bytes = ap length c.deref.ensures.value in
    let at : len < length c.deref.result.now = c.in-Some.ensures.within in
    let within : len < length bytes = omega arith in
    let Zeros : List ℕ → Type 0 = λ xs. All (λ byte. byte ≡ 0) (take (4 * (len / 4 + 1) - len) (drop len xs)) in
    let zeros : Zeros bytes = subst Zeros c.deref-2.ensures.value (c.are_zero.ensures.0 c.if-not-are_zero.false) in
    let NoZero : List ℕ → Type 0 = λ xs. All (λ byte. byte ≢ 0) xs in
    let before : NoZero (take len bytes) = subst NoZero (ap (take len) c.deref.ensures.value) c.in-Some.ensures.before in
    record {
      within = omega arith;
      spelled = spelled-to_zero c.args.words.now bytes len are within zeros ∙ ap terminated (sym text);
      utf8 = subst IsUtf8 (slice ∙ sym text) c.in-Ok.ensures.cases.1;
      no_zero = subst NoZero (sym text) before;
    }

pub returns-in_default-from_utf8-clause-bad : goal.returns-in_default-from_utf8-clause-bad
returns-in_default-from_utf8-clause-bad c =
    λ _ text used string.
    let at : ZeroAt c.deref.result.now c.in-Some.len = record {
      within = c.in-Some.ensures.within;
      zero = c.in-Some.ensures.zero;
      before = c.in-Some.ensures.before;
    } in
    let is_text = text-string c.args.words.now c.deref.result.now c.in-Some.len (c.deref.ensures.value ∙ c.in_ok-bytes.ensures) at text used string in
    let slice : take c.in-Some.len c.deref-3.result.now ≡ text =
    ap (take c.in-Some.len) (c.deref-3.ensures.value ∙ sym c.deref.ensures.value) ∙ is_text in
    c.in_default-from_utf8.ensures.cases.0 (subst IsUtf8 (sym slice) string.utf8)
