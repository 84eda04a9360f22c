-- Parts keep what they eat, and are refused up to the place alone, where what they consist of does.
use Rattle.std.proofs.Common.{◌≡◌, ℕ, ◌+◌, zero, suc, ◌<◌, ◌≤◌, List, [], ◌∷◌, ◌++◌, append_assoc, length, refl, sym, ap, ◌∙◌, subst, inl, inr, arith}
use Rattle.std.proofs.lemmas.List.{length-append}
use Rattle.ll_tokens.specs.Tokens.{Lexeme}
use Rattle.ll_tree.specs.declared.name.NameText.{NameText}
use Rattle.ll_parser.specs.declared.refusal.Refusal.{Refusal}
use Rattle.ll_parser.specs.Productions.{Production, ◌>>◌, ◌or◌, each, each_behind_comma, listed, mark, word}
use Rattle.ll_parser.specs.Reading.{DerivesNone, EndsNowhere}
use Rattle.ll_types.proofs.Tokens.{token_shortens}
use Rattle.ll_operands.specs.Parts.{Begins, Part, Stops, any, either, mark_part, one_word, optional, repeated, ◌then◌, times, word_part, word_then}
use Rattle.ll_front_parts.proofs.Fronts.{IsComma, IsLocal, Keeps, Kept, Same, SameBehindComma, SameFirst, Sees, Settled, Settles, Sight, behind_token, keeps_token, kept_as, one, same_behind, same_one, sees_at, sees_none, sees_nowhere, sees_token, settled_as, settled_behind, settled_beside, settled_first, settled_seen, settled_when, two, unexpected_settles}

-- productions
pub keeps_at : (sight : Sight) (p : Production) → Keeps one p → Keeps sight p
keeps_at sight p k = record {
  keeps = λ tokens rest d.
      let kept = k.keeps tokens rest d in
      record { eaten = kept.eaten; are = kept.are; still = λ other same. kept.still other (same_one sight rest other same) };
}

pub keeps_none : (sight : Sight) (condition : List Lexeme → Type 0) → Sees sight condition → Keeps sight (λ tokens rest. (tokens ≡ rest) × condition tokens)
keeps_none sight condition sees = record {
  keeps = λ tokens rest d. record { eaten = []; are = d.0; still = λ other same. (refl, sees tokens other (subst (λ ts. Same sight ts other) (sym d.0) same) d.1) };
}

pub keeps_nothing : (sight : Sight) → Keeps sight (λ tokens rest. tokens ≡ rest)
keeps_nothing sight = record { keeps = λ tokens rest d. record { eaten = []; are = d; still = λ other same. refl } }

-- one production, then another
abbrev pub Then : Production → Production → Production
Then p q tokens rest = (middle : List Lexeme) × p tokens middle × q middle rest

-- the end of the first one is seen where the second one is there
module _ (end sight : Sight) (p q : Production) (first : Keeps end p) (second : Keeps sight q) (meets : (eaten rest other : List Lexeme) → q (eaten ++ rest) rest → Same sight rest other → Same end (eaten ++ rest) (eaten ++ other)) where
  meeting_kept : (tokens rest : List Lexeme) → Then p q tokens rest → Kept sight (Then p q) tokens rest
  meeting_kept tokens rest (m, d, e) =
      let a = first.keeps tokens m d in
      let b = second.keeps m rest e in
      record {
        eaten = a.eaten ++ b.eaten;
        are = a.are ∙ ap (λ ts. a.eaten ++ ts) b.are ∙ sym (append_assoc a.eaten b.eaten rest);
        still = λ other same.
            subst (λ ts. Then p q ts other) (sym (append_assoc a.eaten b.eaten other)) (
              b.eaten ++ other,
              a.still (b.eaten ++ other) (subst (λ ts. Same end ts (b.eaten ++ other)) (sym b.are)
                  (meets b.eaten rest other (subst (λ ts. q ts rest) b.are e) same)),
              b.still other same,
            );
      }

  pub keeps_meeting : Keeps sight (Then p q)
  keeps_meeting = record { keeps = meeting_kept }

pub keeps_then : (sight : Sight) (p q : Production) → Keeps sight p → Keeps sight q → Keeps sight (Then p q)
keeps_then sight p q first second = keeps_meeting sight sight p q first second (λ eaten rest other d same. same_behind sight eaten rest other same)

pub keeps_seq : (sight : Sight) (p q : Production) → Keeps sight p → Keeps sight q → Keeps sight (p >> q)
unfolding ◌>>◌
keeps_seq sight p q first second = keeps_then sight p q first second

-- the same under another form
pub keeps_as : {from to : Production} (sight : Sight) → ((ts rest : List Lexeme) → from ts rest → to ts rest) → ((ts rest : List Lexeme) → to ts rest → from ts rest) → Keeps sight from → Keeps sight to
keeps_as sight there back k = record { keeps = λ tokens rest d. kept_as (k.keeps tokens rest (back tokens rest d)) (λ ts other same. there ts other) }

-- one production for each of several values
pub keeps_any : (sight : Sight) {A : Type 0} (p : A → Production) → ((x : A) → Keeps sight (p x)) → Keeps sight (λ tokens rest. (x : A) × p x tokens rest)
keeps_any sight p k = record { keeps = λ tokens rest d. kept_as ((k d.0).keeps tokens rest d.1) (λ ts other same e. (d.0, e)) }

pub keeps_named : {A : Type 0} (item : List NameText → A → Production) → ((names : List NameText) (x : A) → Keeps one (item names x)) → Keeps one (any item)
keeps_named item k = record { keeps = λ tokens rest d. kept_as ((k d.0 d.1).keeps tokens rest d.2) (λ ts other same e. (d.0, d.1, e)) }

pub keeps_if : (sight : Sight) (condition : Type 0) (p : Production) → Keeps sight p → Keeps sight (λ tokens rest. condition × p tokens rest)
keeps_if sight condition p k = record { keeps = λ tokens rest d. kept_as (k.keeps tokens rest d.1) (λ ts other same e. (d.0, e)) }

or_kept : (sight : Sight) (p q : Production) → Keeps sight p → Keeps sight q → (tokens rest : List Lexeme) → (p or q) tokens rest → Kept sight (p or q) tokens rest
or_kept sight p q first second tokens rest (inl d) = kept_as (first.keeps tokens rest d) (λ ts other same. inl)
or_kept sight p q first second tokens rest (inr d) = kept_as (second.keeps tokens rest d) (λ ts other same. inr)

pub keeps_or : (sight : Sight) (p q : Production) → Keeps sight p → Keeps sight q → Keeps sight (p or q)
keeps_or sight p q first second = record { keeps = or_kept sight p q first second }

-- before what is seen at the first token
pub keeps_where : (sight : Sight) (condition : List Lexeme → Type 0) (p : Production) → Sees sight condition → Keeps sight p → Keeps sight (λ tokens rest. condition tokens × p tokens rest)
keeps_where sight condition p sees k = record {
  keeps = λ tokens rest d.
      let kept = k.keeps tokens rest d.1 in
      record {
        eaten = kept.eaten;
        are = kept.are;
        still = λ other same.
            let seen : Same sight tokens (kept.eaten ++ other) = subst (λ ts. Same sight ts (kept.eaten ++ other)) (sym kept.are) (same_behind sight kept.eaten rest other same) in
            (sees tokens (kept.eaten ++ other) seen d.0, kept.still other same);
      };
}

-- behind which something is seen
pub keeps_up_to : (sight : Sight) (p : Production) (condition : List Lexeme → Type 0) → Keeps sight p → Sees sight condition → Keeps sight (λ tokens rest. p tokens rest × condition rest)
keeps_up_to sight p condition k sees = record { keeps = λ tokens rest d. kept_as (k.keeps tokens rest d.0) (λ ts other same e. (e, sees rest other same d.1)) }

pub keeps_each : {A : Type 0} (item : A → Production) → ((x : A) → Keeps one (item x)) → (xs : List A) → Keeps one (each item xs)
keeps_each item k [] = keeps_nothing one
keeps_each item k (x ∷ xs) = keeps_seq one (item x) (each item xs) (k x) (keeps_each item k xs)

pub keeps_commas : {A : Type 0} (item : A → Production) → ((x : A) → Keeps one (item x)) → (xs : List A) → Keeps one (each_behind_comma item xs)
keeps_commas item k [] = keeps_nothing one
keeps_commas item k (x ∷ xs) =
    keeps_seq one (mark 44) (item x >> each_behind_comma item xs) (keeps_token _ _)
    (keeps_seq one (item x) (each_behind_comma item xs) (k x) (keeps_commas item k xs))

pub keeps_listed : {A : Type 0} (item : A → Production) → ((x : A) → Keeps one (item x)) → (xs : List A) → Keeps one (listed item xs)
keeps_listed item k [] = keeps_nothing one
keeps_listed item k (x ∷ xs) = keeps_seq one (item x) (each_behind_comma item xs) (k x) (keeps_commas item k xs)

pub keeps_times : (sight : Sight) (p : Production) → Keeps sight p → (count : ℕ) → Keeps sight (times count p)
keeps_times sight p k zero = keeps_nothing sight
keeps_times sight p k (suc count) = keeps_seq sight p (times count p) k (keeps_times sight p k count)

-- openings
pub sees_or : (sight : Sight) (p q : Production) → Sees sight (Begins p) → Sees sight (Begins q) → Sees sight (Begins (p or q))
sees_or sight p q first second a b same (rest, inl d) = let found = first a b same (rest, d) in (found.0, inl found.1)
sees_or sight p q first second a b same (rest, inr d) = let found = second a b same (rest, d) in (found.0, inr found.1)

pub sees_any : (sight : Sight) {A : Type 0} (p : A → Production) → ((x : A) → Sees sight (Begins (p x))) → Sees sight (Begins (λ tokens rest. (x : A) × p x tokens rest))
sees_any sight p sees a b same (rest, (x, d)) = let found = sees x a b same (rest, d) in (found.0, (x, found.1))

-- joins
keeps_optional : (sight : Sight) (opening : Production) (p : Part) → Sees sight (Begins opening) → Keeps sight p.begins → Keeps sight (optional opening p).begins
keeps_optional sight opening p sees k =
    keeps_or sight p.begins (λ tokens rest. (tokens ≡ rest) × EndsNowhere opening tokens) k
    (keeps_none sight (EndsNowhere opening) (sees_nowhere sight opening sees))

keeps_repeated : (sight : Sight) (opening : Production) (p : Part) → Sees sight (Begins opening) → Keeps sight p.begins → Keeps sight (repeated opening p).begins
keeps_repeated sight opening p sees k =
    keeps_as sight (λ ts rest d. (d.0, d.1.0, d.1.1)) (λ ts rest d. (d.0, (d.1, d.2)))
    (keeps_any sight (λ count tokens rest. times count p.begins tokens rest × EndsNowhere opening rest)
    (λ count. keeps_up_to sight (times count p.begins) (EndsNowhere opening) (keeps_times sight p.begins k count) (sees_nowhere sight opening sees)))

module _ (sight : Sight) (p q : Part) (first : IsLocal one p) (second : IsLocal sight q) where
  then_settles : Settles (p then q).stops
  then_settles tokens refusal (inl d) less = settled_as (λ ts r s. inl s) (first.settles tokens refusal d less)
  then_settles tokens refusal (inr (m, d, f)) less = settled_as (λ ts r s. inr s) (settled_behind first.keeps d (second.settles m refusal f less))

  pub local_then : IsLocal sight (p then q)
  local_then = record { keeps = keeps_seq sight p.begins q.begins (keeps_at sight p.begins first.keeps) second.keeps; settles = then_settles }

pub local_optional : (sight : Sight) (opening : Production) (p : Part) → Sees one (Begins opening) → IsLocal sight p → IsLocal sight (optional opening p)
local_optional sight opening p sees l = record {
  keeps = keeps_optional sight opening p (sees_at sight (Begins opening) sees) l.keeps;
  settles = λ tokens refusal d less. settled_beside (Begins opening) sees d.0 (l.settles tokens refusal d.1 less);
}

module _ (sight : Sight) (opening : Production) (p q : Part) (sees : Sees one (Begins opening)) (first : IsLocal sight p) (second : IsLocal sight q) where
  either_settles : Settles (either opening p q).stops
  either_settles tokens refusal (inl (o, d)) less = settled_as (λ ts r s. inl s) (settled_beside (Begins opening) sees o (first.settles tokens refusal d less))
  either_settles tokens refusal (inr (nowhere, d)) less =
      settled_as (λ ts r s. inr s) (settled_beside (EndsNowhere opening) (sees_nowhere one opening sees) nowhere (second.settles tokens refusal d less))

  pub local_either : IsLocal sight (either opening p q)
  local_either = record {
    keeps = keeps_or sight p.begins (λ tokens rest. EndsNowhere opening tokens × q.begins tokens rest) first.keeps
        (keeps_where sight (EndsNowhere opening) q.begins (sees_nowhere sight opening (sees_at sight (Begins opening) sees)) second.keeps);
    settles = either_settles;
  }

pub local_repeated : (opening : Production) (p : Part) → Sees one (Begins opening) → IsLocal one p → IsLocal one (repeated opening p)
local_repeated opening p sees l = record {
  keeps = keeps_repeated one opening p sees l.keeps;
  settles = λ tokens refusal d less.
      settled_as (λ ts r s. (d.0, s.0, s.1, s.2.0, s.2.1))
      (settled_behind (keeps_times one p.begins l.keeps d.0) d.2 (settled_beside (Begins opening) sees d.3 (l.settles d.1 refusal d.4 less)));
}

-- a part, whatever is seen of its end
pub local_at : (sight : Sight) (p : Part) → IsLocal one p → IsLocal sight p
local_at sight p l = record { keeps = keeps_at sight p.begins l.keeps; settles = l.settles }

-- parts of one token
pub local_mark : (code : ℕ) → IsLocal one (mark_part code)
local_mark code = record { keeps = keeps_token _ _; settles = unexpected_settles (mark code) (sees_token _ _) }

pub local_word : (text : List ℕ) → IsLocal one (word_part text)
local_word text = record { keeps = keeps_token _ _; settles = unexpected_settles (word text) (sees_token _ _) }

pub local_one_word : {K : Type 0} (text : K → List ℕ) → IsLocal one (one_word text)
local_one_word text = record {
  keeps = keeps_any one (λ key. word (text key)) (λ key. keeps_token _ _);
  settles = settled_first (DerivesNone (λ key. word (text key))) (λ tokens. 3) (sees_none (λ key. word (text key)) (λ key. sees_token _ _)) (λ l a b. refl);
}

pub sees_one_word : {K : Type 0} (text : K → List ℕ) → Sees one (Begins (one_word text).begins)
sees_one_word text = sees_any one (λ key. word (text key)) (λ key. sees_token _ _)

-- a word of several, and what it decides on
pub local_word_then : (sight : Sight) {K : Type 0} (text : K → List ℕ) (next : K → Part) → ((key : K) → IsLocal sight (next key)) → IsLocal sight (word_then text next)
local_word_then sight text next l = record {
  keeps = keeps_as sight (λ ts rest d. (d.0, d.1.0, d.1.1, d.1.2)) (λ ts rest d. (d.0, (d.1, d.2, d.3)))
      (keeps_any sight (λ key. Then (word (text key)) (next key).begins)
      (λ key. keeps_then sight (word (text key)) (next key).begins (keeps_at sight (word (text key)) (keeps_token _ _)) (l key).keeps));
  settles = λ tokens refusal d less.
      settled_as (λ ts r s. (d.0, s.0, s.1, s.2)) (behind_token d.2 ((l d.0).settles d.1 refusal d.3 less));
}

-- a comma that begins the tokens stands before the place
pub record PassesComma (p : Part) : Type 0 where
  pub passes : (tokens rest : List Lexeme) (refusal : Refusal) → mark 44 tokens rest → p.stops tokens refusal → refusal.left < length tokens

-- and none stands behind
pub record EndsComma (p : Production) : Type 0 where
  pub none : (tokens rest : List Lexeme) → p tokens rest → EndsNowhere (mark 44) rest

meets_no_comma : (eaten rest other : List Lexeme) → EndsNowhere (mark 44) rest → SameFirst rest other → SameBehindComma (eaten ++ rest) (eaten ++ other)
meets_no_comma [] [] [] none same = tt
meets_no_comma [] [] (y ∷ ys) none same = same
meets_no_comma [] (x ∷ xs) [] none same = same
meets_no_comma [] (x ∷ xs) (y ∷ ys) none same = (same, λ comma. absurd (none xs (x, refl, comma.0, comma.1)))
meets_no_comma (x ∷ eaten) rest other none same = (refl, λ comma. same_behind one eaten rest other same)

pub keeps_comma_then : (p q : Production) → Keeps two p → Keeps one q → EndsComma q → Keeps one (p >> q)
unfolding ◌>>◌
keeps_comma_then p q first second ends =
    keeps_meeting two one p q first second (λ eaten rest other d same. meets_no_comma eaten rest other (ends.none (eaten ++ rest) rest d) same)

-- what is seen behind a comma stands up to the place
module _ (p : Part) (passes : PassesComma p) where
  reached_two : (tokens front behind other : List Lexeme) (at : Lexeme) (refusal : Refusal) → p.stops tokens refusal → tokens ≡ front ++ at ∷ behind → refusal.left ≡ suc (length behind) → SameBehindComma (front ++ at ∷ behind) (front ++ at ∷ other)
  reached_two tokens [] behind other at refusal d are place = (refl, λ comma. absurd (no_comma comma))
    where
      no_comma : IsComma at → ⊥
      no_comma comma =
          let less : refusal.left < length tokens = passes.passes tokens behind refusal (at, are, comma.0, comma.1) d in
          let long : length tokens ≡ suc (length behind) = ap length are in
          omega arith
  reached_two tokens (x ∷ front) behind other at refusal d are place = (refl, λ comma. same_behind one front (at ∷ behind) (at ∷ other) refl)

  sees_past : (tokens : List Lexeme) (refusal : Refusal) → p.stops tokens refusal → (s : Settled p.stops tokens refusal) (other : List Lexeme) → SameBehindComma tokens (s.front ++ s.at ∷ other)
  sees_past tokens refusal d s other =
      subst (λ ts. SameBehindComma ts (s.front ++ s.at ∷ other)) (sym s.are) (reached_two tokens s.front s.behind other s.at refusal d s.are s.place)

  settled_beside_two : (begins : List Lexeme → Type 0) → Sees two begins → (tokens : List Lexeme) (refusal : Refusal) → begins tokens → p.stops tokens refusal → Settled p.stops tokens refusal → Settled (λ ts r. begins ts × p.stops ts r) tokens refusal
  settled_beside_two begins sees tokens refusal here d s =
      settled_seen s (λ other r e. (sees tokens (s.front ++ s.at ∷ other) (sees_past tokens refusal d s other) here, e))

  -- a part whose opening is a comma and the token behind it
  pub local_optional_two : (opening : Production) → Sees two (Begins opening) → IsLocal two p → IsLocal two (optional opening p)
  local_optional_two opening sees l = record {
    keeps = keeps_optional two opening p sees l.keeps;
    settles = λ tokens refusal d less. settled_beside_two (Begins opening) sees tokens refusal d.0 d.1 (l.settles tokens refusal d.1 less);
  }

  pub local_repeated_two : (opening : Production) → Sees two (Begins opening) → IsLocal one p → IsLocal two (repeated opening p)
  local_repeated_two opening sees l = record {
    keeps = keeps_repeated two opening p sees (keeps_at two p.begins l.keeps);
    settles = λ tokens refusal d less.
        settled_as (λ ts r s. (d.0, s.0, s.1, s.2.0, s.2.1))
        (settled_behind (keeps_times one p.begins l.keeps d.0) d.2 (settled_beside_two (Begins opening) sees d.1 refusal d.3 d.4 (l.settles d.1 refusal d.4 less)));
  }

module _ (p q : Part) (passes : PassesComma q) (ends : EndsComma q.begins) (first : IsLocal two p) (second : IsLocal one q) where
  comma_then_settles : Settles (p then q).stops
  comma_then_settles tokens refusal (inl d) less = settled_as (λ ts r s. inl s) (first.settles tokens refusal d less)
  comma_then_settles tokens refusal (inr (m, d, f)) less =
      let s = second.settles m refusal f less in
      settled_as (λ ts r x. inr x) (settled_when two p.begins q.stops tokens m refusal (first.keeps.keeps tokens m d) s (sees_past q passes m refusal f s))

  pub local_comma_then : IsLocal one (p then q)
  local_comma_then = record { keeps = keeps_comma_then p.begins q.begins first.keeps second.keeps ends; settles = comma_then_settles }

-- a place is no further from the end than the tokens
module _ (stops : Stops) (settles : Settles stops) where
  pub no_longer : (tokens : List Lexeme) (refusal : Refusal) (left : ℕ) → refusal.left ≡ left → stops tokens refusal → left ≤ length tokens
  no_longer tokens refusal zero is d = omega arith
  no_longer tokens refusal (suc left) is d =
      let s = settles tokens refusal d (omega (arith, is)) in
      let long : length tokens ≡ length s.front + length (s.at ∷ s.behind) = ap length s.are ∙ length-append s.front (s.at ∷ s.behind) in
      omega (arith, s.place, is, long)

-- behind a comma that stands
module _ (q : Part) (settles : Settles q.stops) where
  passed : (tokens rest : List Lexeme) (refusal : Refusal) → mark 44 tokens rest → (mark_part 44 then q).stops tokens refusal → refusal.left < length tokens
  passed tokens rest refusal comma (inl (nowhere, _)) = absurd (nowhere rest comma)
  passed tokens rest refusal comma (inr (m, d, f)) =
      let le : refusal.left ≤ length m = no_longer q.stops settles m refusal refusal.left refl f in
      let less : length m < length tokens = (token_shortens _ _ tokens m d).less in
      omega arith

  pub passes_comma : PassesComma (mark_part 44 then q)
  passes_comma = record { passes = passed }
