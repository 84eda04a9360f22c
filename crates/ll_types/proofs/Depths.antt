-- Brackets that are open, one more and one less, and a turn of the walk over tokens.
use Rattle.std.proofs.Common.{◌≡◌, ℕ, zero, suc, ◌+◌, ◌<◌, ◌≤◌, Bool, true, false, if◌then◌else◌, List, [], ◌∷◌, ◌++◌, length, drop, Option, None, Some, refl, sym, ap, ap₂, ◌∙◌, add-one, arith}
use Rattle.std.proofs.lemmas.List.{length-map}
use Rattle.ll_tokens.specs.declared.kinds.Token.{Token}
use Rattle.ll_tokens.specs.Tokens.{Lexeme, lexeme_of, lexemes_of}
use Rattle.ll_parser.proofs.EndFacts.{lexemes_drop}
use Rattle.ll_types.specs.declared.nesting.Bracket.{Bracket}
use Rattle.ll_types.specs.Nesting.{bracket_at, depth_of, first_too_deep, group_behind, is_too_deep, nesting_refusal, open_behind, refusal_at, without_last}

pub depth_more : (bs : List Bool) → depth_of (bs ++ true ∷ []) ≡ depth_of bs + 1
depth_more [] = refl
depth_more (true ∷ bs) = ap (λ n. n + 1) (depth_more bs)
depth_more (false ∷ bs) = depth_more bs

pub depth_same : (bs : List Bool) → depth_of (bs ++ false ∷ []) ≡ depth_of bs
depth_same [] = refl
depth_same (true ∷ bs) = ap (λ n. n + 1) (depth_same bs)
depth_same (false ∷ bs) = depth_same bs

pub pushed : (old new : List Bool) (depth : ℕ) → depth ≡ depth_of old → new ≡ old ++ true ∷ [] → depth + 1 ≡ depth_of new
pushed old new depth counted is = ap (λ n. n + 1) counted ∙ sym (ap depth_of is ∙ depth_more old)

pub pushed_uncounted : (old new : List Bool) (depth : ℕ) → depth ≡ depth_of old → new ≡ old ++ false ∷ [] → depth ≡ depth_of new
pushed_uncounted old new depth counted is = counted ∙ sym (ap depth_of is ∙ depth_same old)

without_pushed : (bs : List Bool) (b : Bool) → without_last (bs ++ b ∷ []) ≡ bs
without_pushed [] b = refl
without_pushed (x ∷ []) b = refl
without_pushed (x ∷ y ∷ ys) b = ap (λ bs. x ∷ bs) (without_pushed (y ∷ ys) b)

pub popped : (old new : List Bool) (last : Bool) → old ≡ new ++ last ∷ [] → new ≡ without_last old
popped old new last is = sym (ap without_last is ∙ without_pushed new last)

pub popped_depth : (old new : List Bool) (last : Bool) (depth : ℕ) → depth ≡ depth_of old → old ≡ new ++ last ∷ [] → last ≡ true → depth ≡ depth_of new + 1
popped_depth old new last depth counted is on =
    counted ∙ ap depth_of (is ∙ ap (λ b. new ++ b ∷ []) on) ∙ depth_more new

pub popped_same : (old new : List Bool) (last : Bool) (depth : ℕ) → depth ≡ depth_of old → old ≡ new ++ last ∷ [] → last ≡ false → depth ≡ depth_of new
popped_same old new last depth counted is off = counted ∙ ap depth_of (is ∙ ap (λ b. new ++ b ∷ []) off) ∙ depth_same new

-- a turn at a place
turn : (g : Bool) (bs : List Bool) (ls : List Lexeme) (i : ℕ) → i < length ls → first_too_deep g bs (drop i ls) ≡ (if is_too_deep (bracket_at g (drop i ls)) (depth_of bs) then Some (length (drop i ls)) else first_too_deep (group_behind g (drop i ls)) (open_behind bs (bracket_at g (drop i ls))) (drop (suc i) ls))
turn g bs [] i lt = absurd (omega arith)
turn g bs (l ∷ ls) zero lt = refl
turn g bs (l ∷ ls) (suc i) lt = turn g bs ls i (omega arith)

pub goes_on : (g h : Bool) (bs cs : List Bool) (ts : List Token) (here : List Token) (i depth : ℕ) (bracket : Bracket) (test : Bool) → i < length ts → here ≡ drop i ts → bracket ≡ bracket_at g (lexemes_of here) → depth ≡ depth_of bs → test ≡ is_too_deep bracket depth → test ≡ false → h ≡ group_behind g (lexemes_of here) → cs ≡ open_behind bs bracket → first_too_deep h cs (drop (i + 1) (lexemes_of ts)) ≡ first_too_deep g bs (drop i (lexemes_of ts))
goes_on g h bs cs ts here i depth bracket test lt is at counted tested off group opened =
    let place : lexemes_of here ≡ drop i (lexemes_of ts) = ap lexemes_of is ∙ lexemes_drop i ts in
    let within : i < length (lexemes_of ts) = omega (arith, length-map ts lexeme_of) in
    let at_place : bracket ≡ bracket_at g (drop i (lexemes_of ts)) = at ∙ ap (bracket_at g) place in
    let not_deep : is_too_deep (bracket_at g (drop i (lexemes_of ts))) (depth_of bs) ≡ false = ap₂ is_too_deep (sym at_place) (sym counted) ∙ sym tested ∙ off in
    let groups : group_behind g (drop i (lexemes_of ts)) ≡ h = sym (group ∙ ap (group_behind g) place) in
    let opens : open_behind bs (bracket_at g (drop i (lexemes_of ts))) ≡ cs = ap (open_behind bs) (sym at_place) ∙ sym opened in
    let next : drop (suc i) (lexemes_of ts) ≡ drop (i + 1) (lexemes_of ts) = ap (λ n. drop n (lexemes_of ts)) (sym (add-one i)) in
    sym (turn g bs (lexemes_of ts) i within ∙ ap (λ b. if b then Some (length (drop i (lexemes_of ts))) else first_too_deep (group_behind g (drop i (lexemes_of ts))) (open_behind bs (bracket_at g (drop i (lexemes_of ts)))) (drop (suc i) (lexemes_of ts))) not_deep
    ∙ ap₂ (λ x y. first_too_deep x y (drop (suc i) (lexemes_of ts))) groups opens ∙ ap (first_too_deep h cs) next)

pub stops : (g : Bool) (bs : List Bool) (ts : List Token) (here : List Token) (i depth : ℕ) (bracket : Bracket) (test : Bool) → i < length ts → here ≡ drop i ts → bracket ≡ bracket_at g (lexemes_of here) → depth ≡ depth_of bs → test ≡ is_too_deep bracket depth → test ≡ true → first_too_deep g bs (drop i (lexemes_of ts)) ≡ Some (length here)
stops g bs ts here i depth bracket test lt is at counted tested on =
    let place : lexemes_of here ≡ drop i (lexemes_of ts) = ap lexemes_of is ∙ lexemes_drop i ts in
    let within : i < length (lexemes_of ts) = omega (arith, length-map ts lexeme_of) in
    let at_place : bracket ≡ bracket_at g (drop i (lexemes_of ts)) = at ∙ ap (bracket_at g) place in
    let deep : is_too_deep (bracket_at g (drop i (lexemes_of ts))) (depth_of bs) ≡ true = ap₂ is_too_deep (sym at_place) (sym counted) ∙ sym tested ∙ on in
    turn g bs (lexemes_of ts) i within ∙ ap (λ b. if b then Some (length (drop i (lexemes_of ts))) else first_too_deep (group_behind g (drop i (lexemes_of ts))) (open_behind bs (bracket_at g (drop i (lexemes_of ts)))) (drop (suc i) (lexemes_of ts))) deep
    ∙ ap (λ n. Some n) (sym (ap length place) ∙ length-map here lexeme_of)

at_the_end : (g : Bool) (bs : List Bool) (ls : List Lexeme) (i : ℕ) → length ls ≤ i → first_too_deep g bs (drop i ls) ≡ None
at_the_end g bs [] zero le = refl
at_the_end g bs [] (suc i) le = refl
at_the_end g bs (l ∷ ls) zero le = absurd (omega arith)
at_the_end g bs (l ∷ ls) (suc i) le = at_the_end g bs ls i (omega arith)

pub refused : (ts : List Token) (left : ℕ) (found : Option ℕ) → found ≡ first_too_deep false [] (lexemes_of ts) → found ≡ Some left → Some (record { rule = 5; left = left }) ≡ nesting_refusal (lexemes_of ts)
unfolding nesting_refusal
refused ts left found is at = ap (λ o. refusal_at o) (sym at ∙ is)

pub none_refused : (g : Bool) (bs : List Bool) (ts : List Token) (i : ℕ) → length ts ≤ i → first_too_deep g bs (drop i (lexemes_of ts)) ≡ first_too_deep false [] (lexemes_of ts) → None ≡ nesting_refusal (lexemes_of ts)
unfolding nesting_refusal
none_refused g bs ts i le is =
    ap (λ o. refusal_at o) (sym (at_the_end g bs (lexemes_of ts) i (omega (arith, length-map ts lexeme_of))) ∙ is)
