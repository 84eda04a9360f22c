-- Lists of items, read one by one up to where none begins.
use Rattle.std.proofs.Common.{◌≡◌, ℕ, ◌-◌, ◌<◌, ◌≤◌, List, [], ◌∷◌, ◌++◌, length, drop, refl, sym, ap, ◌∙◌, subst, subst₂, arith}
use Rattle.std.proofs.lemmas.List.{length-map, length-drop}
use Rattle.ll_tokens.specs.declared.kinds.Token.{Token}
use Rattle.ll_tokens.specs.Tokens.{Lexeme, lexeme_of, lexemes_of}
use Rattle.ll_tree.specs.declared.name.NameText.{NameText}
use Rattle.ll_parser.specs.NameReading.{ReadsWith}
use Rattle.ll_parser.specs.Productions.{Production, ◌>>◌, each}
use Rattle.ll_parser.proofs.EndFacts.{Ends, ends_then, ends_drop, lexemes_drop, drop_ends}
use Rattle.ll_parser.proofs.TableFacts.{extends_same, extends_then}
use Rattle.kernel_text.specs.declared.error.KernelTextError.{KernelTextError}
use Rattle.kernel_text.specs.declared.error.KernelTextError.TheVariants.{NoMemory, Outside}
use Rattle.kernel_text.specs.Parts.{NextFails, all_of}
use Rattle.kernel_text.specs.Reading.{Fails}
use Rattle.kernel_text.proofs.Shorter.{Shorter}
use Rattle.kernel_text.proofs.ReadFacts.{Item, OneRest, derived}

module _ {A : Type 0} (item : Item A) (Stop : List Lexeme → Type 0) (one : OneRest item)
    (goes_on : (names : List NameText) (x : A) (tokens rest : List Lexeme) → item names x tokens rest → Stop tokens → ⊥) where
  -- as many as there are leave one list
  pub all_one : (names names' : List NameText) (xs ys : List A) (tokens a b : List Lexeme) → each (item names) xs tokens a → Stop a → each (item names') ys tokens b → Stop b → a ≡ b
  unfolding ◌>>◌
  all_one names names' [] [] tokens a b same stop same' stop' = sym same ∙ same'
  all_one names names' [] (y ∷ ys) tokens a b same stop (m, first, _) stop' = absurd (goes_on names' y tokens m first (subst Stop (sym same) stop))
  all_one names names' (x ∷ xs) [] tokens a b (m, first, _) stop same' stop' = absurd (goes_on names x tokens m first (subst Stop (sym same') stop'))
  all_one names names' (x ∷ xs) (y ∷ ys) tokens a b (m, first, more) stop (m', first', more') stop' =
      all_one names names' xs ys m a b more stop (subst (λ ts. each (item names') ys ts b) (sym (one names names' x y tokens m m' first first')) more') stop'

  pub all_rest : OneRest (all_of item Stop)
  all_rest names names' xs ys tokens a b d e = all_one names names' xs ys tokens a b d.0 d.1 e.0 e.1

  -- behind some items one is to come and none does
  none_behind : (names names' : List NameText) (xs ys : List A) (tokens middle rest : List Lexeme) → each (item names) xs tokens middle → (Stop middle → ⊥) → ((y : A) (end : List Lexeme) → item names' y middle end → ⊥) → each (item names') ys tokens rest → Stop rest → ⊥
  unfolding ◌>>◌
  none_behind names names' [] [] tokens middle rest same begins none same' stop = begins (subst Stop (sym same' ∙ same) stop)
  none_behind names names' [] (y ∷ ys) tokens middle rest same begins none (m, first, _) stop = none y m (subst (λ ts. item names' y ts m) same first)
  none_behind names names' (x ∷ xs) [] tokens middle rest (m, first, _) begins none same' stop = goes_on names x tokens m first (subst Stop (sym same') stop)
  none_behind names names' (x ∷ xs) (y ∷ ys) tokens middle rest (m, first, more) begins none (m', first', more') stop =
      none_behind names names' xs ys m middle rest more begins none (subst (λ ts. each (item names') ys ts rest) (sym (one names names' x y tokens m m' first first')) more') stop

  pub all_fail : (names : List NameText) (xs : List A) (tokens middle : List Lexeme) (error told : KernelTextError) → told ≡ error → each (item names) xs tokens middle → NextFails item Stop middle error → Fails (all_of item Stop) tokens told
  all_fail names xs tokens middle NoMemory told same before fails = subst (Fails (all_of item Stop) tokens) (sym same) tt
  all_fail names xs tokens middle Outside told same before fails =
      subst (Fails (all_of item Stop) tokens) (sym same) (λ names' ys rest d. none_behind names names' xs ys tokens middle rest before fails.0 (fails.1 names') d.0 d.1)

-- one item more
pub each_push : {A : Type 0} (item : A → Production) (xs : List A) (x : A) (tokens middle rest : List Lexeme) → each item xs tokens middle → item x middle rest → each item (xs ++ x ∷ []) tokens rest
unfolding ◌>>◌
each_push item [] x tokens middle rest same d = (rest, subst (λ ts. item x ts rest) (sym same) d, refl)
each_push item (y ∷ ys) x tokens middle rest (m, first, more) d = (m, first, each_push item ys x m middle rest more d)

abbrev pub some_of : {A : Type 0} → Item A → Item (List A)
some_of item names xs = each (item names) xs

-- the loop's invariant: these items are read, and this many tokens are left
pub record ReadSoFar {A : Type 0} (item : Item A) (old now : List NameText) (tokens : List Token) (xs : List A) (left : ℕ) : Type 0 where
  pub in_range : left ≤ length tokens
  pub read : ReadsWith (some_of item) old now xs (lexemes_of tokens) (lexemes_of (drop (length tokens - left) tokens))

module _ {A : Type 0} (item : Item A) where
  pub read_start : (old : List NameText) (tokens : List Token) (xs : List A) (left : ℕ) → xs ≡ [] → left ≡ length tokens → ReadSoFar item old old tokens xs left
  read_start old tokens xs left none whole =
      let at_start : length tokens - left ≡ 0 = omega arith in
      record {
        in_range = omega arith;
        read = record {
          extends = extends_same old;
          reads = λ longer e. subst (λ ys. each (item longer) ys (lexemes_of tokens) (lexemes_of (drop (length tokens - left) tokens))) (sym none) (ap (λ n. lexemes_of (drop n tokens)) (sym at_start));
        };
      }

  module _ (shorter : (names : List NameText) (x : A) (tokens rest : List Lexeme) → item names x tokens rest → Shorter tokens rest) where
    pub read_shorter : (old now next : List NameText) (tokens : List Token) (xs : List A) (left : ℕ) (here behind : List Token) (x : A) → ReadSoFar item old now tokens xs left → here ≡ drop (length tokens - left) tokens → ReadsWith item now next x (lexemes_of here) (lexemes_of behind) → length behind < left
    read_shorter old now next tokens xs left here behind x so_far is one =
        let less : length (lexemes_of behind) < length (lexemes_of here) = (shorter next x _ _ (derived item now next x _ _ one)).less in
        let a : length (lexemes_of behind) ≡ length behind = length-map behind lexeme_of in
        let b : length (lexemes_of here) ≡ length here = length-map here lexeme_of in
        let c : length here ≡ length tokens - (length tokens - left) = ap length is ∙ length-drop (length tokens - left) tokens in
        let d : left ≤ length tokens = so_far.in_range in
        omega arith

    pub read_more : (old now next : List NameText) (tokens : List Token) (xs more : List A) (left count : ℕ) (here behind : List Token) (x : A) → ReadSoFar item old now tokens xs left → here ≡ drop (length tokens - left) tokens → ReadsWith item now next x (lexemes_of here) (lexemes_of behind) → more ≡ xs ++ x ∷ [] → count ≡ length behind → ReadSoFar item old next tokens more count
    read_more old now next tokens xs more left count here behind x so_far is one grown counted =
        let less : length behind < left = read_shorter old now next tokens xs left here behind x so_far is one in
        let bound : left ≤ length tokens = so_far.in_range in
        let here_ends : Ends (lexemes_of tokens) (lexemes_of here) = subst (Ends (lexemes_of tokens)) (sym (ap lexemes_of is ∙ lexemes_drop _ tokens)) (drop_ends _ (lexemes_of tokens)) in
        let end : Ends (lexemes_of tokens) (lexemes_of behind) = ends_then _ _ _ here_ends (shorter next x _ _ (derived item now next x _ _ one)).ends in
        let places : length (lexemes_of tokens) - length (lexemes_of behind) ≡ length tokens - count = omega (arith, length-map tokens lexeme_of, length-map behind lexeme_of, counted) in
        let same : lexemes_of behind ≡ lexemes_of (drop (length tokens - count) tokens) = sym (ends_drop _ _ end) ∙ ap (λ n. drop n (lexemes_of tokens)) places ∙ sym (lexemes_drop _ tokens) in
        record {
          in_range = omega arith;
          read = record {
            extends = extends_then old now next so_far.read.extends one.extends;
            reads = λ longer e.
                subst₂ (λ s r. each (item longer) s (lexemes_of tokens) r) (sym grown) same
                (each_push (item longer) xs x _ _ _ (subst (λ ts. each (item longer) xs (lexemes_of tokens) (lexemes_of ts)) (sym is) (so_far.read.reads longer (extends_then now next longer one.extends e))) (one.reads longer e));
          };
        }

  pub read_end : (Stop : List Lexeme → Type 0) (old now next : List NameText) (tokens : List Token) (xs : List A) (left : ℕ) (here last : List Token) → ReadSoFar item old now tokens xs left → here ≡ drop (length tokens - left) tokens → last ≡ drop (length tokens - left) tokens → next ≡ now → Stop (lexemes_of here) → ReadsWith (all_of item Stop) old next xs (lexemes_of tokens) (lexemes_of last)
  read_end Stop old now next tokens xs left here last so_far is is' kept stop =
      subst (λ names. ReadsWith (all_of item Stop) old names xs (lexemes_of tokens) (lexemes_of last)) (sym kept) (record {
        extends = so_far.read.extends;
        reads = λ longer e. (subst (λ ts. each (item longer) xs (lexemes_of tokens) (lexemes_of ts)) (sym is') (so_far.read.reads longer e), subst (λ ts. Stop (lexemes_of ts)) (is ∙ sym is') stop);
      })

  pub read_fails : (Stop : List Lexeme → Type 0) → OneRest item → ((names : List NameText) (x : A) (tokens rest : List Lexeme) → item names x tokens rest → Stop tokens → ⊥) → (old now : List NameText) (tokens : List Token) (xs : List A) (left : ℕ) (here : List Token) (error told : KernelTextError) → told ≡ error → ReadSoFar item old now tokens xs left → here ≡ drop (length tokens - left) tokens → NextFails item Stop (lexemes_of here) error → Fails (all_of item Stop) (lexemes_of tokens) told
  read_fails Stop one goes_on old now tokens xs left here error told same so_far is fails =
      all_fail item Stop one goes_on now xs _ _ error told same (subst (λ ts. each (item now) xs (lexemes_of tokens) (lexemes_of ts)) (sym is) (derived (some_of item) old now xs _ _ so_far.read)) fails
