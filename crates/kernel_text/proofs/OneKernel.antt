-- Tokens are those of one kernel at most, but for the numbers that its table gives to names.
use Rattle.std.proofs.Common.{◌≡◌, ℕ, Bool, true, false, List, [], ◌∷◌, Option, Some, slice_get, map, refl, sym, ap, ◌∙◌, subst, inl, inr}
use Rattle.ll_tokens.specs.Tokens.{Lexeme}
use Rattle.ll_parser.specs.GrammarFunctions.{begins_at, next_after, next_behind}
use Rattle.ll_parser.specs.Productions.{Production, nothing, ◌>>◌, each, listed}
use Rattle.ll_parser.specs.Spellings.{spelling_of}
use Rattle.ll_parser.proofs.TokenFacts.{same_first}
use Rattle.ll_tree.specs.declared.name.Name.{Name}
use Rattle.ll_tree.specs.declared.name.NameKind.TheVariants.{Local as LocalName}
use Rattle.ll_tree.specs.declared.name.NameText.{NameText}
use Rattle.ll_tree.specs.declared.name.Spelling.TheVariants.{Number}
use Rattle.kernel_tree.specs.declared.kernel.Kernel.{Kernel}
use Rattle.kernel_tree.specs.declared.kernel.KernelInst.{KernelInst}
use Rattle.kernel_tree.specs.declared.kernel.KernelInst.TheVariants.{Add, Load, Store}
use Rattle.kernel_tree.specs.declared.kernel.KernelParam.{KernelParam}
use Rattle.kernel_tree.specs.declared.kernel.ValueType.{ValueType}
use Rattle.kernel_tree.specs.declared.kernel.ValueType.TheVariants.{Int, Pointer}
use Rattle.kernel_tree.specs.Same.{IsSameInst, IsSameKernel, IsSameName, IsSameParam, Pairwise}
use Rattle.kernel_text.specs.declared.blocks.BlockText.{BlockText}
use Rattle.kernel_text.specs.declared.name_sorts.NameSort.{NameSort}
use Rattle.kernel_text.specs.declared.name_sorts.NameSort.TheVariants as sort
use Rattle.kernel_text.specs.declared.phrases.Phrase.TheVariants as phrase
use Rattle.kernel_text.specs.Grammar.{IsKernelText, number_behind, param, suffix, targets}
use Rattle.kernel_text.specs.NameSorts.{name_kind, spelled_text, written_name}
use Rattle.kernel_text.specs.Parts.{AtReturn, NoComma, align_here, block, block_name_here, inst_here, insts_end, next_param}
use Rattle.kernel_text.specs.Phrases.{pieces_of, words_of}
use Rattle.kernel_text.proofs.BlockFacts.{block_name_one, block_shape}
use Rattle.kernel_text.proofs.InstFacts.{inst_goes_on, inst_here_rest, insts_end_shape, insts_rest, value_no_store}
use Rattle.kernel_text.proofs.NameFacts.{written_rest}
use Rattle.kernel_text.proofs.ParamFacts.{behind_nothing, commas_as_each, int_no_start, more_params_rest, next_param_goes_on, next_param_rest, param_rest, start_no_comma, value_no_suffix}
use Rattle.kernel_text.proofs.PhraseFacts.{differ, is_same_wanted, words_apart, words_one}
use Rattle.kernel_text.proofs.ReadFacts.{Item, OneRest}
use Rattle.kernel_text.proofs.Sequences.{Apart, LeavesOne, begins, kind_number}

-- what stands behind two productions that leave one rest of the same tokens
record Behind (p p' q q' : Production) (tokens a b : List Lexeme) : Type 0 where
  middle : List Lexeme
  first : p tokens middle
  also_first : p' tokens middle
  second : q middle a
  also_second : q' middle b

step : (p p' q q' : Production) (tokens a b : List Lexeme) → LeavesOne p p' → (p >> q) tokens a → (p' >> q') tokens b → Behind p p' q q' tokens a b
unfolding ◌>>◌
step p p' q q' tokens a b one (m, f, s) (m', f', s') =
    let e : m ≡ m' = one tokens m m' f f' in
    record { middle = m; first = f; also_first = subst (λ ts. p' tokens ts) (sym e) f'; second = s; also_second = subst (λ ts. q' ts b) (sym e) s' }

-- items that the same tokens begin with are the same
abbrev SameAs : {A : Type 0} → Item A → (List NameText → List NameText → A → A → Type 0) → Type 0
SameAs {A} item R = (names names' : List NameText) (x y : A) (tokens a b : List Lexeme) → item names x tokens a → item names' y tokens b → R names names' x y

name_same : (s : NameSort) → SameAs (written_name s) IsSameName
name_same s names names' x y tokens a b (l, is, k, (ok, at, (reach, named))) (m, is', k', (ok', at', (reach', named'))) =
    let same : l ≡ m = same_first l m a b (sym is ∙ is') in
    record {
      entry = record { kind = name_kind s; spelling = spelling_of (spelled_text s l.text) };
      named = named;
      also_named = named' ∙ ap (λ (t : Lexeme). Some (record { kind = name_kind s; spelling = spelling_of (spelled_text s t.text) })) (sym same);
      placed = at ∙ ap (λ (t : Lexeme). t.byte) same ∙ sym at';
    }

typed_same : (names names' : List NameText) (t u : ValueType) (x y : Name) (tokens a b : List Lexeme) → (suffix t >> written_name sort.Value names x) tokens a → (suffix u >> written_name sort.Value names' y) tokens b → (t ≡ u) × IsSameName names names' x y
typed_same names names' Int Int x y tokens a b d e = (refl, name_same sort.Value names names' x y tokens a b (behind_nothing _ tokens a d) (behind_nothing _ tokens b e))
typed_same names names' Pointer Pointer x y tokens a b d e =
    let both = step _ _ _ _ tokens a b (words_one phrase.PointerSuffix) d e in
    (refl, name_same sort.Value names names' x y both.middle a b both.second both.also_second)
typed_same names names' Int Pointer x y tokens a b d e = absurd (value_no_suffix names x tokens a _ (behind_nothing _ tokens a d) (begins _ _ tokens b e).1)
typed_same names names' Pointer Int x y tokens a b d e = absurd (value_no_suffix names' y tokens b _ (behind_nothing _ tokens b e) (begins _ _ tokens a d).1)

param_same : SameAs param IsSameParam
param_same names names' p q tokens a b d e =
    let both = step _ _ _ _ tokens a b (words_one phrase.IntType) d e in
    typed_same names names' p.value_type q.value_type p.name q.name both.middle a b both.second both.also_second

next_param_same : SameAs next_param IsSameParam
next_param_same names names' p q tokens a b d e =
    let both = step _ _ _ _ tokens a b (words_one phrase.Comma) d e in
    param_same names names' p q both.middle a b both.second both.also_second

-- lists of items, each of which can be told from what ends the list
many_same : {A : Type 0} (item : Item A) (Stop : List Lexeme → Type 0) (R : List NameText → List NameText → A → A → Type 0)
    → SameAs item R → OneRest item → ((names : List NameText) (x : A) (tokens rest : List Lexeme) → item names x tokens rest → Stop tokens → ⊥)
    → (names names' : List NameText) (xs ys : List A) (tokens a b : List Lexeme) → each (item names) xs tokens a → Stop a → each (item names') ys tokens b → Stop b → Pairwise (R names names') xs ys
unfolding ◌>>◌
many_same item Stop R same one goes_on names names' [] [] tokens a b d stop e stop' = tt
many_same item Stop R same one goes_on names names' [] (y ∷ ys) tokens a b d stop (m, f, more) stop' = absurd (goes_on names' y tokens m f (subst Stop (sym d) stop))
many_same item Stop R same one goes_on names names' (x ∷ xs) [] tokens a b (m, f, more) stop e stop' = absurd (goes_on names x tokens m f (subst Stop (sym e) stop'))
many_same item Stop R same one goes_on names names' (x ∷ xs) (y ∷ ys) tokens a b (m, f, more) stop (m', f', more') stop' =
    let e : m ≡ m' = one names names' x y tokens m m' f f' in
    (same names names' x y tokens m m' f f', many_same item Stop R same one goes_on names names' xs ys m a b more stop (subst (λ ts. each (item names') ys ts b) (sym e) more') stop')

-- what stands behind the same parts
record Left (q q' : Production) (a b : List Lexeme) : Type 0 where
  middle : List Lexeme
  second : q middle a
  also_second : q' middle b

targets_apart : Apart (words_of phrase.TargetLines) (words_of phrase.KernelWords)
unfolding pieces_of differ is_same_wanted kind_number
targets_apart = words_apart phrase.TargetLines phrase.KernelWords refl

head_same : (x y : Bool) (q q' : Production) (tokens a b : List Lexeme) → (targets x >> (words_of phrase.KernelWords >> q)) tokens a → (targets y >> (words_of phrase.KernelWords >> q')) tokens b → (x ≡ y) × Left q q' a b
head_same true true q q' tokens a b d e =
    let first = step _ _ _ _ tokens a b (words_one phrase.TargetLines) d e in
    let second = step _ _ _ _ first.middle a b (words_one phrase.KernelWords) first.second first.also_second in
    (refl, record { middle = second.middle; second = second.second; also_second = second.also_second })
head_same false false q q' tokens a b d e =
    let second = step _ _ _ _ tokens a b (words_one phrase.KernelWords) (behind_nothing _ tokens a d) (behind_nothing _ tokens b e) in
    (refl, record { middle = second.middle; second = second.second; also_second = second.also_second })
head_same true false q q' tokens a b d e =
    absurd (targets_apart tokens _ _ (begins _ _ tokens a d).1 (begins _ _ tokens b (behind_nothing _ tokens b e)).1)
head_same false true q q' tokens a b d e =
    absurd (targets_apart tokens _ _ (begins _ _ tokens b e).1 (begins _ _ tokens a (behind_nothing _ tokens a d)).1)

body_begins : (q : Production) (tokens rest : List Lexeme) → (words_of phrase.BodyStart >> q) tokens rest → (m : List Lexeme) × words_of phrase.BodyStart tokens m
body_begins q tokens rest d = begins (words_of phrase.BodyStart) q tokens rest d

body_no_comma : (q : Production) (tokens rest : List Lexeme) → (words_of phrase.BodyStart >> q) tokens rest → NoComma tokens
body_no_comma q tokens rest d end comma = let (m, start) = body_begins q tokens rest d in start_no_comma tokens m end start comma

int_no_body : (q : Production) (tokens rest behind : List Lexeme) → words_of phrase.IntType tokens behind → (nothing >> (words_of phrase.BodyStart >> q)) tokens rest → ⊥
int_no_body q tokens rest behind int d =
    let (m, start) = body_begins q tokens rest (behind_nothing (words_of phrase.BodyStart >> q) tokens rest d) in int_no_start tokens behind m int start

-- the parameters with what stands behind them
params_same : (names names' : List NameText) (ps qs : List KernelParam) (q q' : Production) (tokens a b : List Lexeme)
    → (listed (param names) ps >> (words_of phrase.BodyStart >> q)) tokens a → (listed (param names') qs >> (words_of phrase.BodyStart >> q')) tokens b
    → Pairwise (IsSameParam names names') ps qs × Left q q' a b
unfolding ◌>>◌
params_same names names' [] [] q q' tokens a b d e =
    let second = step (words_of phrase.BodyStart) (words_of phrase.BodyStart) q q' tokens a b (words_one phrase.BodyStart) (behind_nothing (words_of phrase.BodyStart >> q) tokens a d) (behind_nothing (words_of phrase.BodyStart >> q') tokens b e) in
    (tt, record { middle = second.middle; second = second.second; also_second = second.also_second })
params_same names names' [] (p' ∷ qs) q q' tokens a b d (m, (n, (k, int, _), _), _) =
    absurd (int_no_body q tokens a k int d)
params_same names names' (p ∷ ps) [] q q' tokens a b (m, (n, (k, int, _), _), _) e =
    absurd (int_no_body q' tokens b k int e)
params_same names names' (p ∷ ps) (p' ∷ qs) q q' tokens a b (m, (n, first, more), behind) (m', (n', first', more'), behind') =
    let e : n ≡ n' = param_rest names names' p p' tokens n n' first first' in
    let stop : NoComma m = body_no_comma q m a behind in
    let stop' : NoComma m' = body_no_comma q' m' b behind' in
    let each_p = commas_as_each names ps n m more in
    let each_q = subst (λ ts. each (next_param names') qs ts m') (sym e) (commas_as_each names' qs n' m' more') in
    let left : m ≡ m' = more_params_rest names names' ps qs n m m' (each_p, stop) (each_q, stop') in
    let second = step (words_of phrase.BodyStart) (words_of phrase.BodyStart) q q' m a b (words_one phrase.BodyStart) behind (subst (λ ts. (words_of phrase.BodyStart >> q') ts b) (sym left) behind') in (
      (param_same names names' p p' tokens n n' first first', many_same next_param NoComma IsSameParam next_param_same next_param_rest next_param_goes_on names names' ps qs n m m' each_p stop each_q stop'),
      record { middle = second.middle; second = second.second; also_second = second.also_second },
    )

align_no_comma : (tokens rest : List Lexeme) → words_of phrase.Align tokens rest → NoComma tokens → ⊥
unfolding pieces_of ◌>>◌
align_no_comma tokens rest (m, comma, more) none = none m (m, comma, refl)

align_same : (x y : Bool) (tokens a b : List Lexeme) → align_here x tokens a → align_here y tokens b → x ≡ y
align_same true true tokens a b d e = refl
align_same false false tokens a b d e = refl
align_same true false tokens a b d e = absurd (align_no_comma tokens a d e.0)
align_same false true tokens a b d e = absurd (align_no_comma tokens b e d.0)

add_no_load : Apart (words_of phrase.AddWords) (words_of phrase.LoadWords)
unfolding pieces_of differ is_same_wanted kind_number
add_no_load = words_apart phrase.AddWords phrase.LoadWords refl

inst_same : SameAs inst_here IsSameInst
inst_same names names' (Add s l r) (Add s' l' r') tokens a b d e =
    let one = step _ _ _ _ tokens a b (written_rest sort.Value names names' s s') d e in
    let two = step _ _ _ _ one.middle a b (words_one phrase.AddWords) one.second one.also_second in
    let three = step _ _ _ _ two.middle a b (written_rest sort.Value names names' l l') two.second two.also_second in
    let four = step _ _ _ _ three.middle a b (words_one phrase.Comma) three.second three.also_second in (
      name_same sort.Value names names' s s' tokens one.middle one.middle one.first one.also_first,
      name_same sort.Value names names' l l' two.middle three.middle three.middle three.first three.also_first,
      name_same sort.Value names names' r r' four.middle a b four.second four.also_second,
    )
inst_same names names' (Load v p x) (Load v' p' x') tokens a b d e =
    let one = step _ _ _ _ tokens a b (written_rest sort.Value names names' v v') d e in
    let two = step _ _ _ _ one.middle a b (words_one phrase.LoadWords) one.second one.also_second in
    let three = step _ _ _ _ two.middle a b (written_rest sort.Value names names' p p') two.second two.also_second in (
      name_same sort.Value names names' v v' tokens one.middle one.middle one.first one.also_first,
      name_same sort.Value names names' p p' two.middle three.middle three.middle three.first three.also_first,
      align_same x x' three.middle a b three.second three.also_second,
    )
inst_same names names' (Store v p x) (Store v' p' x') tokens a b d e =
    let one = step _ _ _ _ tokens a b (words_one phrase.StoreWords) d e in
    let two = step _ _ _ _ one.middle a b (written_rest sort.Value names names' v v') one.second one.also_second in
    let three = step _ _ _ _ two.middle a b (words_one phrase.PointerOperand) two.second two.also_second in
    let four = step _ _ _ _ three.middle a b (written_rest sort.Value names names' p p') three.second three.also_second in (
      name_same sort.Value names names' v v' one.middle two.middle two.middle two.first two.also_first,
      name_same sort.Value names names' p p' three.middle four.middle four.middle four.first four.also_first,
      align_same x x' four.middle a b four.second four.also_second,
    )
inst_same names names' (Store v p x) (Add s l r) tokens a b d e = absurd (value_no_store names' s tokens _ _ (begins _ _ tokens b e).1 (begins _ _ tokens a d).1)
inst_same names names' (Store v p x) (Load v' p' x') tokens a b d e = absurd (value_no_store names' v' tokens _ _ (begins _ _ tokens b e).1 (begins _ _ tokens a d).1)
inst_same names names' (Add s l r) (Store v p x) tokens a b d e = absurd (value_no_store names s tokens _ _ (begins _ _ tokens a d).1 (begins _ _ tokens b e).1)
inst_same names names' (Load v' p' x') (Store v p x) tokens a b d e = absurd (value_no_store names v' tokens _ _ (begins _ _ tokens a d).1 (begins _ _ tokens b e).1)
inst_same names names' (Add s l r) (Load v p x) tokens a b d e =
    let one = step _ _ _ _ tokens a b (written_rest sort.Value names names' s v) d e in
    absurd (add_no_load one.middle _ _ (begins _ _ one.middle a one.second).1 (begins _ _ one.middle b one.also_second).1)
inst_same names names' (Load v p x) (Add s l r) tokens a b d e =
    let one = step _ _ _ _ tokens a b (written_rest sort.Value names names' v s) d e in
    absurd (add_no_load one.middle _ _ (begins _ _ one.middle b one.also_second).1 (begins _ _ one.middle a one.second).1)

next_same : (names names' : List NameText) (ps qs : List KernelParam) (next : ℕ) → Pairwise (IsSameParam names names') ps qs
    → next_after names (map (λ p. p.name.number) ps) next ≡ next_after names' (map (λ p. p.name.number) qs) next
next_same names names' [] [] next same = refl
next_same names names' [] (q ∷ qs) next same = absurd same
next_same names names' (p ∷ ps) [] next same = absurd same
next_same names names' (p ∷ ps) (q ∷ qs) next same =
    let entry : slice_get names p.name.number ≡ slice_get names' q.name.number = same.0.1.named ∙ sym same.0.1.also_named in
    ap (λ (o : Option NameText). next_after names (map (λ p. p.name.number) ps) (next_behind names o next)) entry
    ∙ next_same names names' ps qs (next_behind names (slice_get names' q.name.number) next) same.1

begins_same : (names names' : List NameText) (x y : ℕ) (tokens : List Lexeme) → begins_at names x tokens → begins_at names' y tokens → x ≡ y
begins_same names names' x y [] d e = absurd d
begins_same names names' x y (l ∷ ls) d e = sym d ∙ e

block_name_same : (next next' : ℕ) (names names' : List NameText) (x y : Name) (tokens a b : List Lexeme) → next ≡ next' → block_name_here next names x tokens a → block_name_here next' names' y tokens b → IsSameName names names' x y
block_name_same next next' names names' x y tokens a b e (inl label) (inl label') = name_same sort.Label names names' x y tokens a b label label'
block_name_same next next' names names' x y tokens a b e (inl (l, is, k, _)) (inr (_, _, _, none)) = absurd (none a (l, is, k, tt))
block_name_same next next' names names' x y tokens a b e (inr (_, _, _, none)) (inl (l, is, k, _)) = absurd (none b (l, is, k, tt))
block_name_same next next' names names' x y tokens a b e (inr (numbered, at, _, _)) (inr (numbered', at', _, _)) = record {
  entry = record { kind = LocalName; spelling = Number next };
  named = numbered;
  also_named = numbered' ∙ ap (λ (n : ℕ). Some (record { kind = LocalName; spelling = Number n })) (sym e);
  placed = begins_same names names' x.byte y.byte tokens at at';
}

insts_same : (names names' : List NameText) (is js : List KernelInst) (tokens a b : List Lexeme) → insts_end names is tokens a → insts_end names' js tokens b → Pairwise (IsSameInst names names') is js
insts_same names names' is js tokens a b d e =
    let both = step _ _ _ _ tokens a b (insts_rest names names' is js) (insts_end_shape names is tokens a d) (insts_end_shape names' js tokens b e) in
    many_same inst_here AtReturn IsSameInst inst_same inst_here_rest inst_goes_on names names' is js tokens both.middle both.middle both.first.0 both.first.1 both.also_first.0 both.also_first.1

block_same : (next next' : ℕ) (names names' : List NameText) (x y : BlockText) (tokens a b : List Lexeme) → next ≡ next' → block next names x tokens a → block next' names' y tokens b
    → IsSameName names names' x.name y.name × Pairwise (IsSameInst names names') x.insts y.insts
block_same next next' names names' x y tokens a b e d d' =
    let both = step _ _ _ _ tokens a b (block_name_one next next' names names' x.name y.name) (block_shape next names x tokens a d) (block_shape next' names' y tokens b d') in (
      block_name_same next next' names names' x.name y.name tokens both.middle both.middle e both.first both.also_first,
      insts_same names names' x.insts y.insts both.middle a b both.second both.also_second,
    )

pub one-kernel : (tokens : List Lexeme) (k l : Kernel) → IsKernelText tokens k → IsKernelText tokens l → IsSameKernel k l
one-kernel tokens k l a b =
    let head = head_same k.has_targets l.has_targets _ _ tokens [] [] a.reads b.reads in
    let name = step _ _ _ _ head.1.middle [] [] (written_rest sort.Kernel k.names l.names k.name l.name) head.1.second head.1.also_second in
    let start = step _ _ _ _ name.middle [] [] (words_one phrase.ParamsStart) name.second name.also_second in
    let params = params_same k.names l.names k.params l.params _ _ start.middle [] [] start.second start.also_second in
    let body = block_same (number_behind k.names k.params) (number_behind l.names l.params) k.names l.names (record { name = k.block; insts = k.insts }) (record { name = l.block; insts = l.insts }) params.1.middle [] []
    (next_same k.names l.names k.params l.params 0 params.0) params.1.second params.1.also_second in
    record {
      targets = head.0;
      name = name_same sort.Kernel k.names l.names k.name l.name head.1.middle name.middle name.middle name.first name.also_first;
      params = params.0;
      block = body.0;
      insts = body.1;
    }
