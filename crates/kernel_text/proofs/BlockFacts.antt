-- Blocks and their names, part by part.
use Rattle.std.proofs.Common.{◌≡◌, ℕ, zero, suc, ◌+◌, ◌<◌, ◌⊎◌, Bool, false, List, [], ◌∷◌, ◌++◌, Some, slice_get, map, take, length, get_or, Result, Ok, Err, MatchResult, IsTrue, ◌↔◌, refl, sym, ap, ◌∙◌, subst, inl, inr, arith}
use Rattle.std.proofs.lemmas.List.{take_more}
use Rattle.ll_tokens.specs.declared.kinds.TokenKind.TheVariants.{Label}
use Rattle.ll_tokens.specs.Tokens.{Lexeme}
use Rattle.ll_tree.specs.declared.name.Name.{Name}
use Rattle.ll_tree.specs.declared.name.NameKind.TheVariants.{Local as LocalName}
use Rattle.ll_tree.specs.declared.name.NameText.{NameText}
use Rattle.ll_tree.specs.declared.name.Spelling.TheVariants.{Number}
use Rattle.ll_parser.specs.GrammarFunctions.{begins_at, next_after, next_behind}
use Rattle.ll_parser.specs.NameReading.{ReadsWith, any_of}
use Rattle.ll_parser.specs.Productions.{◌>>◌}
use Rattle.ll_parser.proofs.TableFacts.{entry_stays, extends_at_number}
use Rattle.ll_parser.proofs.TokenFacts.{same_first}
use Rattle.kernel_tree.specs.declared.kernel.KernelInst.{KernelInst}
use Rattle.kernel_tree.specs.declared.kernel.KernelParam.{KernelParam}
use Rattle.kernel_text.specs.declared.blocks.BlockText.{BlockText}
use Rattle.kernel_text.specs.declared.error.KernelTextError.{KernelTextError}
use Rattle.kernel_text.specs.declared.name_sorts.NameSort.TheVariants as sort
use Rattle.kernel_text.specs.declared.phrases.Phrase.TheVariants as phrase
use Rattle.kernel_text.specs.Grammar.{align, number_behind}
use Rattle.kernel_text.specs.NameSorts.{written_name}
use Rattle.kernel_text.specs.Parts.{NoLabel, insts_end, block_name_here, block}
use Rattle.kernel_text.specs.Phrases.{words_of, pieces_of}
use Rattle.kernel_text.specs.Reading.{Fails}
use Rattle.kernel_text.proofs.InstFacts.{inst_apart, insts_end_rest}
use Rattle.kernel_text.proofs.ReadFacts.{Part, part, derived, fails_by, reads_as, fails_first, reads_two}
use Rattle.kernel_text.proofs.Sequences.{kind_number, LeavesOne, Apart, seq_one, first_apart, token_one, token_apart, behind}

-- no instruction and no end of a block is a label
value_no_label : (names : List NameText) (name : Name) → Apart (written_name sort.Value names name) (any_of Label)
unfolding kind_number
value_no_label names name = token_apart _ _ _ _ refl

store_no_label : Apart (words_of phrase.StoreWords) (any_of Label)
unfolding pieces_of kind_number
store_no_label = first_apart _ _ _ (token_apart _ _ _ _ refl)

end_no_label : Apart (words_of phrase.BodyEnd) (any_of Label)
unfolding pieces_of kind_number
end_no_label = first_apart _ _ _ (token_apart _ _ _ _ refl)

insts_end_no_label : (names : List NameText) (is : List KernelInst) (tokens rest : List Lexeme) → insts_end names is tokens rest → NoLabel tokens
unfolding ◌>>◌
insts_end_no_label names [] tokens rest (m, same, words) end label = end_no_label tokens rest end (subst (λ ts. words_of phrase.BodyEnd ts rest) (sym same) words) label
insts_end_no_label names (i ∷ is) tokens rest (m, (n, first, more), words) end label =
    inst_apart align (any_of Label) value_no_label store_no_label names i tokens n end first label

-- a name of a block is read with as many tokens as belong to it
pub block_shape : (next : ℕ) (names : List NameText) (b : BlockText) (tokens rest : List Lexeme) → block next names b tokens rest → (block_name_here next names b.name >> insts_end names b.insts) tokens rest
unfolding ◌>>◌
block_shape next names b tokens rest (m, inl label, d) = (m, inl label, d)
block_shape next names b tokens rest (m, inr (numbered, place, same), d) =
    (m, inr (numbered, place, same, subst NoLabel (sym same) (insts_end_no_label names b.insts m rest d)), d)

pub block_join : (next : ℕ) (names : List NameText) (b : BlockText) (tokens rest : List Lexeme) → (block_name_here next names b.name >> insts_end names b.insts) tokens rest → block next names b tokens rest
unfolding ◌>>◌
block_join next names b tokens rest (m, inl label, d) = (m, inl label, d)
block_join next names b tokens rest (m, inr (numbered, place, same, none), d) = (m, inr (numbered, place, same), d)

pub label_any : (names : List NameText) (name : Name) (tokens rest : List Lexeme) → written_name sort.Label names name tokens rest → any_of Label tokens rest
label_any names name tokens rest (l, is, kind, tested) = (l, is, kind, tt)

pub block_name_one : (next next' : ℕ) (names names' : List NameText) (x y : Name) → LeavesOne (block_name_here next names x) (block_name_here next' names' y)
block_name_one next next' names names' x y tokens a b (inl label) (inl label') = token_one _ _ _ _ tokens a b label label'
block_name_one next next' names names' x y tokens a b (inl label) (inr (_, _, _, none)) = absurd (none a (label_any names x tokens a label))
block_name_one next next' names names' x y tokens a b (inr (_, _, _, none)) (inl label) = absurd (none b (label_any names' y tokens b label))
block_name_one next next' names names' x y tokens a b (inr (_, _, same, _)) (inr (_, _, same', _)) = sym same ∙ same'

pub block_one : (next next' : ℕ) (names names' : List NameText) (x y : BlockText) → LeavesOne (block next names x) (block next' names' y)
block_one next next' names names' x y tokens a b d e =
    seq_one _ _ _ _ (block_name_one next next' names names' x.name y.name) (insts_end_rest names names' x.insts y.insts) tokens a b (block_shape next names x tokens a d) (block_shape next' names' y tokens b e)

-- a label where one stands
pub label_answer : {X : Type 0} (of : X → Name) (left : X → List Lexeme) (number : ℕ) (old new : List NameText) (tokens rest : List Lexeme) (first : Lexeme) (answer : Result X KernelTextError) → tokens ≡ first ∷ rest → first.kind ≡ Label → MatchResult answer (λ x. ReadsWith (written_name sort.Label) old new (of x) tokens (left x)) (Fails (written_name sort.Label) tokens) → MatchResult answer (λ x. ReadsWith (block_name_here number) old new (of x) tokens (left x)) (λ error. (next : ℕ) → Fails (block_name_here next) tokens error)
label_answer of left number old new tokens rest first (Ok x) is kind y =
    reads_as (written_name sort.Label) (block_name_here number) (of x) (of x) old new tokens tokens (left x) (λ names d. inl d) y
label_answer of left number old new tokens rest first (Err e) is kind fails = λ next. fails_by (written_name sort.Label) (block_name_here next) tokens tokens e e refl (split next) fails
  where
    split : (next : ℕ) (names : List NameText) (name : Name) (end : List Lexeme) → block_name_here next names name tokens end → Part (written_name sort.Label) names tokens
    split next names name end (inl d) = part (written_name sort.Label) names name tokens end d
    split next names name end (inr (_, _, _, none)) = absurd (none rest (first, is, kind, tt))

not_nil : (x : Lexeme) (xs : List Lexeme) → [] ≡ x ∷ xs → ⊥
not_nil x xs e =
    let h : zero ≡ suc (length xs) = ap length e in
    omega arith

-- no tokens, no block
pub no_tokens : (tokens : List Lexeme) → tokens ≡ [] → (next : ℕ) (names : List NameText) (name : Name) (rest : List Lexeme) → block_name_here next names name tokens rest → ⊥
no_tokens tokens e next names name rest (inl (l, is, _, _)) = not_nil _ _ (sym e ∙ is)
no_tokens tokens e next names name rest (inr (_, place, _, _)) = subst (begins_at names name.byte) e place

-- a number where no label stands
place_of_first : (names : List NameText) (tokens rest : List Lexeme) (first : Lexeme) → tokens ≡ first ∷ rest → begins_at names first.byte tokens
place_of_first names tokens rest first is = subst (begins_at names first.byte) (sym is) refl

no_label_first : (tokens rest : List Lexeme) (first : Lexeme) → tokens ≡ first ∷ rest → (first.kind ≡ Label → ⊥) → NoLabel tokens
no_label_first tokens rest first is other end (l, is', kind, _) =
    other (ap (λ (t : Lexeme). t.kind) (same_first first l rest end (sym is ∙ is')) ∙ kind)

holds_not : (b : Bool) → b ≡ false → IsTrue b → ⊥
holds_not b e h = grind arith

pub number_read : (number found : ℕ) (old new : List NameText) (tokens rest : List Lexeme) (first : Lexeme) (test : Bool) → tokens ≡ first ∷ rest → test ≡ false → (IsTrue test ↔ (first.kind ≡ Label)) → slice_get new found ≡ Some (record { kind = LocalName; spelling = Number number }) → (new ≡ old) ⊎ (new ≡ old ++ record { kind = LocalName; spelling = Number number } ∷ []) → ReadsWith (block_name_here number) old new (record { number = found; byte = first.byte }) tokens tokens
number_read number found old new tokens rest first test is off tested entry kept = record {
  extends = extends_at_number old new _ kept;
  reads = λ longer e. inr (entry_stays new longer found _ e entry, place_of_first longer tokens rest first is, refl, no_label_first tokens rest first is (λ kind. holds_not test off (tested.1 kind)));
}

pub block_fails_at_name : (tokens : List Lexeme) (error told : KernelTextError) → told ≡ error → ((next : ℕ) → Fails (block_name_here next) tokens error) → (next : ℕ) → Fails (block next) tokens told
block_fails_at_name tokens error told same fails next =
    fails_first (block_name_here next) insts_end (block next) (λ b. b.name) (λ b. b.insts) (block_shape next) tokens error told same (fails next)

pub block_fails_in_insts : (number : ℕ) (old new : List NameText) (name : Name) (tokens middle : List Lexeme) (error told : KernelTextError) → told ≡ error → ReadsWith (block_name_here number) old new name tokens middle → Fails insts_end middle error → (next : ℕ) → Fails (block next) tokens told
block_fails_in_insts number old new name tokens middle error told same x fails next =
    fails_by insts_end (block next) tokens middle error told same
    (λ names b rest d. part insts_end names b.insts middle rest (behind (block_name_here number new name) (block_name_here next names b.name) (insts_end names b.insts) tokens middle rest (block_name_one next number names new b.name name) (derived (block_name_here number) old new name tokens middle x) (block_shape next names b tokens rest d))) fails

pub block_read : (number : ℕ) (old mid new : List NameText) (name : Name) (is : List KernelInst) (tokens middle rest : List Lexeme) → ReadsWith (block_name_here number) old mid name tokens middle → ReadsWith insts_end mid new is middle rest → ReadsWith (block number) old new (record { name = name; insts = is }) tokens rest
block_read number old mid new name is tokens middle rest x y =
    reads_two (block_name_here number) insts_end (block number) (λ b. b.name) (λ b. b.insts) (block_shape number) old mid new name is (record { name = name; insts = is }) tokens middle rest (λ names d. block_join number names _ tokens rest d) x y

-- the next number, one name further on
next_push : (names : List NameText) (ns : List ℕ) (n next : ℕ) → next_after names (ns ++ n ∷ []) next ≡ next_behind names (slice_get names n) (next_after names ns next)
next_push names [] n next = refl
next_push names (m ∷ ns) n next = next_push names ns n (next_behind names (slice_get names m) next)

number_of_param : KernelParam → ℕ
number_of_param p = p.name.number

map_push : (ps : List KernelParam) (p : KernelParam) → map (λ (q : KernelParam). q.name.number) (ps ++ p ∷ []) ≡ map (λ (q : KernelParam). q.name.number) ps ++ p.name.number ∷ []
map_push [] p = refl
map_push (q ∷ ps) p = ap (λ ns. q.name.number ∷ ns) (map_push ps p)

pub number_push : (names : List NameText) (ps : List KernelParam) (i number next : ℕ) (p d : KernelParam) → i < length ps → p ≡ get_or ps i d → number ≡ number_behind names (take i ps) → next ≡ next_behind names (slice_get names p.name.number) number → next ≡ number_behind names (take (i + 1) ps)
number_push names ps i number next p d lt is before one =
    one
    ∙ ap (next_behind names (slice_get names p.name.number)) before
    ∙ sym (next_push names (map (λ (q : KernelParam). q.name.number) (take i ps)) p.name.number 0)
    ∙ ap (λ ns. next_after names ns 0) (sym (map_push (take i ps) p))
    ∙ ap (number_behind names) (ap (λ q. take i ps ++ q ∷ []) is ∙ sym (take_more ps i d lt))
