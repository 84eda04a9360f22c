-- Kernels: what stands before the block, and the block.
use Rattle.std.proofs.Common.{◌≡◌, ◌==◌, ℕ, zero, suc, Bool, true, false, true≢false, List, [], ◌∷◌, Some, slice_get, map, length, refl, sym, ap, ◌∙◌, subst, arith}
use Rattle.std.proofs.lemmas.Bool.Decides.{nat_tests}
use Rattle.ll_tokens.specs.declared.kinds.Token.{Token}
use Rattle.ll_tokens.specs.Tokens.{Lexeme, lexemes_of}
use Rattle.ll_tree.specs.declared.name.NameText.{NameText}
use Rattle.ll_parser.specs.GrammarFunctions.{next_after, next_behind}
use Rattle.ll_parser.specs.NameReading.{ReadsWith}
use Rattle.ll_parser.specs.Productions.{◌>>◌, listed, each_behind_comma}
use Rattle.ll_parser.specs.Tables.{Extends, NoNameTwice}
use Rattle.ll_parser.proofs.TableFacts.{entry_stays}
use Rattle.kernel_tree.specs.declared.kernel.Kernel.{Kernel}
use Rattle.kernel_tree.specs.declared.kernel.KernelParam.{KernelParam}
use Rattle.kernel_text.specs.declared.blocks.BlockText.{BlockText}
use Rattle.kernel_text.specs.declared.error.KernelTextError.{KernelTextError}
use Rattle.kernel_text.specs.declared.error.KernelTextError.TheVariants.{NoMemory, Outside}
use Rattle.kernel_text.specs.declared.signatures.Signature.{Signature}
use Rattle.kernel_text.specs.Grammar.{kernel, param, number_behind, IsKernelText}
use Rattle.kernel_text.specs.Parts.{signature, block}
use Rattle.kernel_text.specs.Reading.{Fails, NoKernel}
use Rattle.kernel_text.proofs.BlockFacts.{block_one}
use Rattle.kernel_text.proofs.ReadFacts.{derived}
use Rattle.kernel_text.proofs.SignatureFacts.{signature_rest}

abbrev pub signature_of : Kernel → Signature
signature_of k = record { has_targets = k.has_targets; name = k.name; params = k.params }

abbrev pub block_of : Kernel → BlockText
block_of k = record { name = k.block; insts = k.insts }

pub kernel_join : (names : List NameText) (k : Kernel) (tokens middle rest : List Lexeme) → signature names (signature_of k) tokens middle → block (number_behind names k.params) names (block_of k) middle rest → kernel names k tokens rest
unfolding ◌>>◌
kernel_join names k tokens middle rest (m, (n, lines, words), (o, name, (p, start, (q, ps, body)))) d =
    (n, lines, (m, words, (o, name, (p, start, (q, ps, (middle, body, d))))))

-- a kernel is a signature and a block
pub record Halves (names : List NameText) (k : Kernel) (tokens rest : List Lexeme) : Type 0 where
  pub middle : List Lexeme
  pub before : signature names (signature_of k) tokens middle
  pub behind : block (number_behind names k.params) names (block_of k) middle rest

pub kernel_split : (names : List NameText) (k : Kernel) (tokens rest : List Lexeme) → kernel names k tokens rest → Halves names k tokens rest
unfolding ◌>>◌
kernel_split names k tokens rest (n, lines, (m, words, (o, name, (p, start, (q, ps, (middle, body, d)))))) = record {
  middle = middle;
  before = (m, (n, lines, words), (o, name, (p, start, (q, ps, body))));
  behind = d;
}

-- each parameter's name has an entry
HasEntries : List NameText → List KernelParam → Type 0
HasEntries names [] = Unit {0}
HasEntries names (p ∷ ps) = ((entry : NameText) × (slice_get names p.name.number ≡ Some entry)) × HasEntries names ps

param_entry : (names : List NameText) (p : KernelParam) (tokens rest : List Lexeme) → param names p tokens rest → (entry : NameText) × (slice_get names p.name.number ≡ Some entry)
unfolding ◌>>◌
param_entry names p tokens rest (m, words, (n, suffix, (l, is, kind, (allowed, byte, (reach, entry))))) = (_, entry)

more_entries : (names : List NameText) (ps : List KernelParam) (tokens rest : List Lexeme) → each_behind_comma (param names) ps tokens rest → HasEntries names ps
unfolding HasEntries ◌>>◌
more_entries names [] tokens rest same = tt
more_entries names (p ∷ ps) tokens rest (m, comma, (n, d, more)) = (param_entry names p m n d, more_entries names ps n rest more)

listed_entries : (names : List NameText) (ps : List KernelParam) (tokens rest : List Lexeme) → listed (param names) ps tokens rest → HasEntries names ps
unfolding HasEntries ◌>>◌
listed_entries names [] tokens rest same = tt
listed_entries names (p ∷ ps) tokens rest (m, d, more) = (param_entry names p tokens m d, more_entries names ps m rest more)

signature_entries : (names : List NameText) (s : Signature) (tokens rest : List Lexeme) → signature names s tokens rest → HasEntries names s.params
unfolding ◌>>◌
signature_entries names s tokens rest (m, first, (o, name, (p, start, (q, ps, body)))) = listed_entries names s.params p q ps

-- so a longer table counts the numbers among them alike
next_same : (names longer : List NameText) (ps : List KernelParam) (next : ℕ) → HasEntries names ps → Extends names longer → next_after longer (map (λ (q : KernelParam). q.name.number) ps) next ≡ next_after names (map (λ (q : KernelParam). q.name.number) ps) next
unfolding HasEntries
next_same names longer [] next entries extends = refl
next_same names longer (p ∷ ps) next ((entry, e), entries) extends =
    ap (λ o. next_after longer (map (λ (q : KernelParam). q.name.number) ps) (next_behind longer o next)) (entry_stays names longer p.name.number entry extends e ∙ sym e)
    ∙ next_same names longer ps (next_behind names (slice_get names p.name.number) next) entries extends

pub number_kept : (old new longer : List NameText) (s : Signature) (tokens rest : List Lexeme) → ReadsWith signature old new s tokens rest → Extends new longer → number_behind longer s.params ≡ number_behind new s.params
number_kept old new longer s tokens rest x extends =
    next_same new longer s.params 0 (signature_entries new s tokens rest (derived signature old new s tokens rest x)) extends

-- the kernel that is read
pub kernel_read : (old mid new : List NameText) (s : Signature) (b : BlockText) (k : Kernel) (number : ℕ) (tokens middle rest : List Lexeme) → ReadsWith signature old mid s tokens middle → number ≡ number_behind mid s.params → ReadsWith (block number) mid new b middle rest → rest ≡ [] → signature_of k ≡ s → block_of k ≡ b → k.names ≡ new → NoNameTwice new → IsKernelText tokens k
kernel_read old mid new s b k number tokens middle rest x counted y end same_s same_b same_names once = record {
  reads =
      let names_end : kernel new k tokens rest = kernel_join new k tokens middle rest
      (subst (λ t. signature new t tokens middle) (sym same_s) (x.reads new y.extends))
      (subst (λ t. block (number_behind new t.params) new (block_of k) middle rest) (sym same_s)
      (subst (λ n. block n new (block_of k) middle rest) (counted ∙ sym (number_kept old mid new s tokens middle x y.extends))
      (subst (λ t. block number new t middle rest) (sym same_b) (derived (block number) mid new b middle rest y))))
      in subst (λ ts. kernel k.names k tokens ts) end (subst (λ names. kernel names k tokens rest) (sym same_names) names_end);
  distinct = subst NoNameTwice (sym same_names) once;
}

-- and where none is
pub none_at_signature : (tokens : List Lexeme) (error told : KernelTextError) → told ≡ error → Fails signature tokens error → NoKernel tokens told
none_at_signature tokens NoMemory told same fails = subst (NoKernel tokens) (sym same) tt
none_at_signature tokens Outside told same fails =
    subst (NoKernel tokens) (sym same) (λ k text. let halves = kernel_split k.names k tokens [] text.reads in fails k.names (signature_of k) halves.middle halves.before)

pub none_at_block : (old new : List NameText) (s : Signature) (tokens middle : List Lexeme) (error told : KernelTextError) → told ≡ error → ReadsWith signature old new s tokens middle → ((next : ℕ) → Fails (block next) middle error) → NoKernel tokens told
none_at_block old new s tokens middle NoMemory told same x fails = subst (NoKernel tokens) (sym same) tt
none_at_block old new s tokens middle Outside told same x fails =
    subst (NoKernel tokens) (sym same) (λ k text.
    let halves = kernel_split k.names k tokens [] text.reads in
    let here : halves.middle ≡ middle = signature_rest k.names new (signature_of k) s tokens halves.middle middle halves.before (derived signature old new s tokens middle x) in
    fails (number_behind k.names k.params) k.names (block_of k) [] (subst (λ ts. block (number_behind k.names k.params) k.names (block_of k) ts []) here halves.behind))

pub none_at_end : (old mid new : List NameText) (s : Signature) (b : BlockText) (number : ℕ) (tokens middle rest : List Lexeme) → ReadsWith signature old mid s tokens middle → ReadsWith (block number) mid new b middle rest → (rest ≡ [] → ⊥) → NoKernel tokens Outside
none_at_end old mid new s b number tokens middle rest x y more = λ k text.
    let halves = kernel_split k.names k tokens [] text.reads in
    let here : halves.middle ≡ middle = signature_rest k.names mid (signature_of k) s tokens halves.middle middle halves.before (derived signature old mid s tokens middle x) in
    more (sym (block_one (number_behind k.names k.params) number k.names new (block_of k) b middle [] rest (subst (λ ts. block (number_behind k.names k.params) k.names (block_of k) ts []) here halves.behind) (derived (block number) mid new b middle rest y)))

some_is_not_none : (n : ℕ) → (suc n == 0) ≡ false
some_is_not_none n = grind (arith, nat_tests)

-- the tokens that are left, where a test says whether there are any
pub nothing_left : (tokens : List Token) (test : Bool) → test ≡ (length tokens == 0) → test ≡ true → lexemes_of tokens ≡ []
nothing_left [] test tested on = refl
nothing_left (t ∷ ts) test tested on = absurd (true≢false (sym on ∙ tested ∙ some_is_not_none (length ts)))

pub something_left : (tokens : List Token) (test : Bool) → test ≡ (length tokens == 0) → test ≡ false → lexemes_of tokens ≡ [] → ⊥
something_left [] test tested off none = true≢false (sym tested ∙ off)
something_left (t ∷ ts) test tested off none =
    let h : suc (length (lexemes_of ts)) ≡ zero = ap length none in
    omega arith
