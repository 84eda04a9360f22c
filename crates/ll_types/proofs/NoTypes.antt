-- Tokens that are refused for a type begin with none.
use Rattle.std.proofs.Common.{◌≡◌, ℕ, List, [], ◌∷◌, length, codes, sym, subst, arith, Result, Ok, Err, MatchResult}
use Rattle.ll_tokens.specs.Tokens.{Lexeme}
use Rattle.ll_tree.specs.declared.name.NameText.{NameText}
use Rattle.ll_tree.specs.declared.ty.LlType.{LlType}
use Rattle.ll_parser.specs.declared.refusal.ReadError.{ReadError}
use Rattle.ll_parser.specs.declared.refusal.ReadError.TheVariants.{NoMemory, Refused}
use Rattle.ll_parser.specs.declared.refusal.Refusal.{Refusal}
use Rattle.ll_tree.specs.declared.ty.TypeBase.{TypeBase}
use Rattle.ll_parser.specs.GrammarTypes.{number, type_base, pointer}
use Rattle.ll_parser.specs.Pointers.{pointers_here}
use Rattle.ll_parser.specs.NameReading.{DerivesNoneWith}
use Rattle.ll_parser.specs.Productions.{◌>>◌, word, mark, each, each_behind_comma}
use Rattle.ll_parser.specs.Reading.{EndsNowhere, DerivesNone}
use Rattle.ll_parser.specs.WordTypes.{IsOneWord, NoWordType}
use Rattle.ll_parser.proofs.SpaceFacts.{mark_leaves_one, word_leaves_one, number_leaves_one}
use Rattle.ll_types.specs.declared.openings.TypeOpening.TheVariants.{Array, Vector, Struct, Packed, Named, Plain}
use Rattle.ll_types.specs.declared.openings.TypeOpening.{TypeOpening}
use Rattle.ll_types.specs.TypeOpenings.{opens}
use Rattle.ll_types.specs.TypeParts.{ty_here, counted, some_types, members}
use Rattle.ll_types.specs.TypeRefusals.{TypeFails, no_type, no_name, in_array, in_vector, in_struct, in_packed, behind_packed, in_pointers, CountedFails, no_count, no_times, no_part, no_close, MembersFail, no_first, no_next, no_end, TypeStops, TypeRefused}
use Rattle.ll_types.proofs.Tokens.{marks_apart}
use Rattle.ll_types.proofs.TypeOpened.{behind, behind_known}
use Rattle.ll_types.proofs.OneType.{base_one, members_one, one_at, peel, type_no_brace, type_one}

-- what is left of the types behind some of them, and the `}`, 125, behind all
record Left (names : List NameText) (end last : List Lexeme) : Type 0 where
  more : List LlType
  close : List Lexeme
  behind_end : each_behind_comma (ty_here names) more end close
  closed : mark 125 close last

left_behind : (names other : List NameText) (ts us : List LlType) (tokens end last : List Lexeme) → some_types names ts tokens end → members other us tokens last → Left other end last
unfolding ◌>>◌
left_behind names other [] us tokens end last none d = absurd none
left_behind names other (t ∷ ts) [] tokens end last (b, d, more) (m, same, close) =
    absurd (type_no_brace names t tokens b last d (subst (λ ls. mark 125 ls last) (sym same) close))
left_behind names other (t ∷ ts) (u ∷ us) tokens end last (b, d, more) (m, (b', d', more'), close) =
    let same : b' ≡ b = type_one other names u t tokens b' b d' d in
    let left : (vs : List LlType) × each_behind_comma (ty_here other) vs end m = peel (length b) (one_at (length b)) names other ts us b end m last (omega arith) more (subst (λ ls. each_behind_comma (ty_here other) us ls m) same more') close in
    record { more = left.0; close = m; behind_end = left.1; closed = close }

none_at_next : (names : List NameText) (ts : List LlType) (end behind close last : List Lexeme) → mark 44 end behind → DerivesNoneWith ty_here behind → each_behind_comma (ty_here names) ts end close → mark 125 close last → ⊥
unfolding ◌>>◌
none_at_next names [] end behind close last comma none same closed =
    marks_apart 44 125 end behind last (λ e. omega arith) comma (subst (λ ls. mark 125 ls last) (sym same) closed)
none_at_next names (t ∷ ts) end behind close last comma none (a, comma', (b, d, more)) closed =
    none names t b (subst (λ ls. ty_here names t ls b) (mark_leaves_one 44 end a behind comma' comma) d)

none_at_end : (names : List NameText) (ts : List LlType) (end close last : List Lexeme) → EndsNowhere (mark 44) end → EndsNowhere (mark 125) end → each_behind_comma (ty_here names) ts end close → mark 125 close last → ⊥
unfolding ◌>>◌
none_at_end names [] end close last no_comma no_brace same closed = no_brace last (subst (λ ls. mark 125 ls last) (sym same) closed)
none_at_end names (t ∷ ts) end close last no_comma no_brace (a, comma, more) closed = no_comma a comma

none_at_first : (names : List NameText) (ts : List LlType) (tokens rest : List Lexeme) → EndsNowhere (mark 125) tokens → DerivesNoneWith ty_here tokens → members names ts tokens rest → ⊥
unfolding ◌>>◌
none_at_first names [] tokens rest nowhere none (m, same, close) = nowhere rest (subst (λ ls. mark 125 ls rest) (sym same) close)
none_at_first names (t ∷ ts) tokens rest nowhere none (m, (b, d, more), close) = none names t b d

-- a type whose opening is known
known : (tokens inside : List Lexeme) (o : TypeOpening) → opens o tokens inside → (names : List NameText) (t : LlType) (rest : List Lexeme) → ty_here names t tokens rest → (end : List Lexeme) × behind o names inside end
unfolding ◌>>◌
known tokens inside o bracket names t rest ((m, base, ps), none) = (m, behind_known o names t.base tokens inside m bracket base)

none_packed : (names other : List NameText) (ts : List LlType) (inside behind_all end : List Lexeme) → members names ts inside behind_all → EndsNowhere (mark 62) behind_all → (us : List LlType) × (members other us >> mark 62) inside end → ⊥
unfolding ◌>>◌
none_packed names other ts inside behind_all end d nowhere (us, (m, e, close)) =
    nowhere end (subst (λ ls. mark 62 ls end) (members_one (length inside) (one_at _) other names us ts inside m behind_all (omega arith) e d) close)

none_members_packed : (other : List NameText) (inside end : List Lexeme) → DerivesNoneWith members inside → (us : List LlType) × (members other us >> mark 62) inside end → ⊥
unfolding ◌>>◌
none_members_packed other inside end none (us, (m, e, close)) = none other us m e

none_pointers : (names other : List NameText) (base : TypeBase) (tokens behind_base rest : List Lexeme) (t : LlType) → type_base names base tokens behind_base → DerivesNone pointers_here behind_base → ty_here other t tokens rest → ⊥
unfolding ◌>>◌
none_pointers names other base tokens behind_base rest t d none ((m, e, ps), all) =
    let same : m ≡ behind_base = base_one (length tokens) (one_at _) other names t.base base tokens m behind_base (omega arith) e d in
    none t.pointers rest (record { pointers = subst (λ ls. each pointer t.pointers ls rest) same ps; all = all })

none_plain : (tokens end : List Lexeme) (names : List NameText) → NoWordType tokens → (base : TypeBase) × IsOneWord base × type_base names base tokens end → ⊥
none_plain tokens end names nowhere (base, one, d) = nowhere names base one end d

none_times : (code count : ℕ) (tokens behind_count : List Lexeme) → number count tokens behind_count → EndsNowhere (word (codes "x")) behind_count → DerivesNoneWith (counted code) tokens
unfolding ◌>>◌
none_times code count tokens behind_count n nowhere names c rest (p, n', (q, x, more)) =
    nowhere q (subst (λ ls. word (codes "x") ls q) (number_leaves_one _ _ tokens p behind_count n' n) x)

none_part : (code count : ℕ) (tokens behind_count inside : List Lexeme) → number count tokens behind_count → word (codes "x") behind_count inside → DerivesNoneWith ty_here inside → DerivesNoneWith (counted code) tokens
unfolding ◌>>◌
none_part code count tokens behind_count inside n x none names c rest (p, n', (q, x', (r, d, close))) =
    let same : p ≡ behind_count = number_leaves_one _ _ tokens p behind_count n' n in
    let same' : q ≡ inside = word_leaves_one _ behind_count q inside (subst (λ ls. word (codes "x") ls q) same x') x in
    none names c.part r (subst (λ ls. ty_here names c.part ls r) same' d)

none_close : (code count : ℕ) (names : List NameText) (part : LlType) (tokens behind_count inside end : List Lexeme) → number count tokens behind_count → word (codes "x") behind_count inside → ty_here names part inside end → EndsNowhere (mark code) end → DerivesNoneWith (counted code) tokens
unfolding ◌>>◌
none_close code count names part tokens behind_count inside end n x d nowhere other c rest (p, n', (q, x', (r, d', close))) =
    let same : p ≡ behind_count = number_leaves_one _ _ tokens p behind_count n' n in
    let same' : q ≡ inside = word_leaves_one _ behind_count q inside (subst (λ ls. word (codes "x") ls q) same x') x in
    let same'' : r ≡ end = type_one other names c.part part inside r end (subst (λ ls. ty_here other c.part ls r) same' d') d in
    nowhere rest (subst (λ ls. mark code ls rest) same'' close)

none_count : (code : ℕ) (tokens : List Lexeme) → DerivesNone number tokens → DerivesNoneWith (counted code) tokens
unfolding ◌>>◌
none_count code tokens none names c rest (p, n, more) = none c.count p n

mutual
  pub none_type : {tokens : List Lexeme} {refusal : Refusal} → TypeFails tokens refusal → DerivesNoneWith ty_here tokens
  none_type {tokens} (no_type plain nowhere e) names t rest d =
      let k = known tokens tokens Plain plain names t rest d in none_plain tokens k.0 names nowhere k.1
  none_type {tokens} (no_name named fails) names t rest d =
      let k = known tokens tokens Named named names t rest d in fails.0 names k.1.0 k.0 k.1.1
  none_type {tokens} (in_array inside bracket fails) names t rest d =
      let k = known tokens inside Array bracket names t rest d in none_counted fails names k.1.0 k.0 k.1.1
  none_type {tokens} (in_vector inside bracket fails) names t rest d =
      let k = known tokens inside Vector bracket names t rest d in none_counted fails names k.1.0 k.0 k.1.1
  none_type {tokens} (in_struct inside bracket fails) names t rest d =
      let k = known tokens inside Struct bracket names t rest d in none_members fails names k.1.0 k.0 k.1.1
  none_type {tokens} (in_packed inside bracket fails) names t rest d =
      let k = known tokens inside Packed bracket names t rest d in none_members_packed names inside k.0 (none_members fails) k.1
  none_type {tokens} (behind_packed inside behind_all names' ms bracket mem unexpected) names t rest d =
      let k = known tokens inside Packed bracket names t rest d in none_packed names' names ms inside behind_all k.0 mem unexpected.0 k.1
  none_type {tokens} (in_pointers behind_base names' base b refused) names t rest d =
      none_pointers names' names base tokens behind_base rest t b refused.none d

  none_counted : {code : ℕ} {tokens : List Lexeme} {refusal : Refusal} → CountedFails code tokens refusal → DerivesNoneWith (counted code) tokens
  none_counted {code} {tokens} (no_count none) = none_count code tokens none.0
  none_counted {code} {tokens} (no_times behind_count count n unexpected) = none_times code count tokens behind_count n unexpected.0
  none_counted {code} {tokens} (no_part behind_count inside count n x fails) = none_part code count tokens behind_count inside n x (none_type fails)
  none_counted {code} {tokens} (no_close behind_count inside end count names part n x d unexpected) =
      none_close code count names part tokens behind_count inside end n x d unexpected.0

  none_members : {tokens : List Lexeme} {refusal : Refusal} → MembersFail tokens refusal → DerivesNoneWith members tokens
  none_members {tokens} (no_first nowhere fails) names us rest d = none_at_first names us tokens rest nowhere (none_type fails) d
  none_members {tokens} (no_next end behind_comma names' ms some comma fails) names us rest d =
      let left : Left names end rest = left_behind names' names ms us tokens end rest some d in
      none_at_next names left.more end behind_comma left.close rest comma (none_type fails) left.behind_end left.closed
  none_members {tokens} (no_end end names' ms some no_comma unexpected) names us rest d =
      let left : Left names end rest = left_behind names' names ms us tokens end rest some d in
      none_at_end names left.more end left.close rest no_comma unexpected.0 left.behind_end left.closed

-- an answer with the place of a refusal is one that says that there is no type
pub with_none : {X : Type 0} (read : X → Type 0) (tokens : List Lexeme) (answer : Result X ReadError) → MatchResult answer read (TypeStops tokens) → MatchResult answer read (TypeRefused tokens)
with_none read tokens (Ok x) r = r
with_none read tokens (Err NoMemory) stops = tt
with_none read tokens (Err (Refused refusal)) fails = record { none = none_type fails; place = fails }
