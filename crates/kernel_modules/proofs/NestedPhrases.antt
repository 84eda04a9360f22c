-- The parts of a kernel's text, and the brackets that are open behind each.
use Rattle.std.proofs.Common.{◌≡◌, ℕ, Bool, true, false, List, [], ◌∷◌, None, refl, ap, inl, inr}
use Rattle.ll_tokens.specs.Tokens.{Lexeme}
use Rattle.ll_tree.specs.declared.name.Name.{Name}
use Rattle.ll_tree.specs.declared.name.NameText.{NameText}
use Rattle.ll_types.specs.Nesting.{first_too_deep, nesting_refusal, refusal_at}
use Rattle.kernel_tree.specs.declared.kernel.Kernel.{Kernel}
use Rattle.kernel_tree.specs.declared.kernel.KernelInst.{KernelInst}
use Rattle.kernel_tree.specs.declared.kernel.KernelInst.TheVariants.{Add, Load, Store}
use Rattle.kernel_tree.specs.declared.kernel.KernelParam.{KernelParam}
use Rattle.kernel_tree.specs.declared.kernel.ValueType.{ValueType}
use Rattle.kernel_tree.specs.declared.kernel.ValueType.TheVariants.{Int, Pointer}
use Rattle.kernel_text.specs.declared.name_sorts.NameSort.{NameSort}
use Rattle.kernel_text.specs.declared.name_sorts.NameSort.TheVariants as sort
use Rattle.kernel_text.specs.declared.phrases.Phrase.{Phrase}
use Rattle.kernel_text.specs.declared.phrases.Phrase.TheVariants as phrase
use Rattle.kernel_text.specs.Grammar.{IsKernelText, align, block_name, inst, kernel, number_behind, param, suffix, targets}
use Rattle.kernel_text.specs.NameSorts.{written_name}
use Rattle.kernel_text.specs.Phrases.{pieces_of, words_of}
use Rattle.kernel_modules.proofs.NestedTokens.{Leads, are_passed, each_leads, exactly_leads, listed_lead, nothing_leads, open_behind_all, plain_leads, seq_leads}

-- inside one bracket
abbrev inside : List Bool
inside = true ∷ []

words_lead : (brackets : List Bool) (p : Phrase) → are_passed brackets (pieces_of p) ≡ true → Leads brackets (open_behind_all brackets (pieces_of p)) (words_of p)
words_lead brackets p passed = exactly_leads brackets (pieces_of p) passed

name_leads : (brackets : List Bool) (of : NameSort) (names : List NameText) (name : Name) → Leads brackets brackets (written_name of names name)
name_leads brackets sort.Kernel names name = plain_leads brackets _ _ (λ text. refl) (λ text. refl)
name_leads brackets sort.Value names name = plain_leads brackets _ _ (λ text. refl) (λ text. refl)
name_leads brackets sort.Label names name = plain_leads brackets _ _ (λ text. refl) (λ text. refl)

targets_lead : (has_targets : Bool) → Leads [] [] (targets has_targets)
unfolding pieces_of
targets_lead true = words_lead [] phrase.TargetLines refl
targets_lead false = nothing_leads []

suffix_leads : (value_type : ValueType) → Leads inside inside (suffix value_type)
unfolding pieces_of
suffix_leads Int = nothing_leads inside
suffix_leads Pointer = words_lead inside phrase.PointerSuffix refl

align_leads : (is_aligned : Bool) → Leads inside inside (align is_aligned)
unfolding pieces_of
align_leads true = words_lead inside phrase.Align refl
align_leads false = nothing_leads inside

param_leads : (names : List NameText) (p : KernelParam) → Leads inside inside (param names p)
unfolding pieces_of
param_leads names p =
    seq_leads _ _ _ _ _ (words_lead inside phrase.IntType refl) (seq_leads _ _ _ _ _ (suffix_leads p.value_type) (name_leads inside sort.Value names p.name))

inst_leads : (names : List NameText) (i : KernelInst) → Leads inside inside (inst names i)
unfolding pieces_of
inst_leads names (Add sum left right) =
    seq_leads _ _ _ _ _ (name_leads inside sort.Value names sum)
    (seq_leads _ _ _ _ _ (words_lead inside phrase.AddWords refl)
    (seq_leads _ _ _ _ _ (name_leads inside sort.Value names left)
    (seq_leads _ _ _ _ _ (words_lead inside phrase.Comma refl) (name_leads inside sort.Value names right))))
inst_leads names (Load loaded pointer is_aligned) =
    seq_leads _ _ _ _ _ (name_leads inside sort.Value names loaded)
    (seq_leads _ _ _ _ _ (words_lead inside phrase.LoadWords refl)
    (seq_leads _ _ _ _ _ (name_leads inside sort.Value names pointer) (align_leads is_aligned)))
inst_leads names (Store value pointer is_aligned) =
    seq_leads _ _ _ _ _ (words_lead inside phrase.StoreWords refl)
    (seq_leads _ _ _ _ _ (name_leads inside sort.Value names value)
    (seq_leads _ _ _ _ _ (words_lead inside phrase.PointerOperand refl)
    (seq_leads _ _ _ _ _ (name_leads inside sort.Value names pointer) (align_leads is_aligned))))

block_name_leads : (next : ℕ) (names : List NameText) (name : Name) → Leads inside inside (block_name next names name)
block_name_leads next names name tokens rest (inl label) = name_leads inside sort.Label names name tokens rest label
block_name_leads next names name tokens rest (inr (numbered, begins, same)) = ap (first_too_deep false inside) same

kernel_leads : (names : List NameText) (k : Kernel) → Leads [] [] (kernel names k)
unfolding pieces_of
kernel_leads names k =
    seq_leads _ _ _ _ _ (targets_lead k.has_targets)
    (seq_leads _ _ _ _ _ (words_lead [] phrase.KernelWords refl)
    (seq_leads _ _ _ _ _ (name_leads [] sort.Kernel names k.name)
    (seq_leads _ _ _ _ _ (words_lead [] phrase.ParamsStart refl)
    (seq_leads _ _ _ _ _ (listed_lead (param names) (param_leads names) k.params)
    (seq_leads _ _ _ _ _ (words_lead inside phrase.BodyStart refl)
    (seq_leads _ _ _ _ _ (block_name_leads (number_behind names k.params) names k.block)
    (seq_leads _ _ _ _ _ (each_leads inside (inst names) (inst_leads names) k.insts) (words_lead inside phrase.BodyEnd refl))))))))

pub nests_no_deeper : (tokens : List Lexeme) (k : Kernel) → IsKernelText tokens k → nesting_refusal tokens ≡ None
unfolding nesting_refusal
nests_no_deeper tokens k is = ap refusal_at (kernel_leads k.names k tokens [] is.reads)
