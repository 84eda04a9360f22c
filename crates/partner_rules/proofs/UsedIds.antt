-- The ids that instructions use, as their forms have them, and what is known of those of a kernel's module.
use Rattle.std.proofs.Common.{◌≡◌, ◌≢◌, ℕ, ◌<◌, Bool, true, false, List, [], ◌∷◌, ◌++◌, length, All, Ok, refl, sym, ap, arith, subst, append-nil}
use Rattle.std.specs.Prelude.{IsUtf8, flat_map, if◌then◌else◌}
use Rattle.spv_codec.specs.declared.module.RawInst.{RawInst}
use Rattle.spv_codec.specs.Operands.{read_string}
use Rattle.spv_codec.proofs.ReadGroups.{string-read}
use Rattle.spv_layout.specs.declared.opcode.Opcode.TheVariants as op
use Rattle.spv_module.specs.Spelled.{entry_spelled, spelled}
use Rattle.spv_module.specs.Texts.{text_words}
use Rattle.spv_words.specs.declared.words.Order.TheVariants.{Little}
use Rattle.spv_words.specs.Strings.{BeginsString, terminated}
use Rattle.spv_words.specs.Words.{IsWords}
use Rattle.spv_words.proofs.StringLaws.{string-reads_back}
use Rattle.kernel_tree.specs.declared.kernel.Kernel.{Kernel}
use Rattle.kernel_tree.specs.declared.kernel.KernelInst.{KernelInst}
use Rattle.kernel_tree.specs.declared.names.Use.{Use}
use Rattle.kernel_tree.specs.Names.{used_by}
use Rattle.kernel_tree.specs.Numbered.{name_bytes}
use Rattle.to_spirv.specs.Limits.{HasPlainName}
use Rattle.to_spirv.specs.Partner.{entry_partner}
use Rattle.to_spirv.proofs.TextLemmas.{text-are_words}
use Rattle.to_spirv.proofs.Utf8Lemmas.{utf8-bytes}
use Rattle.spv_names.specs.Uses.{behind_reading, form_ids, is_dropped, has_wide, uses_of}
use Rattle.partner_rules.proofs.Each.{Each, each-behind, each-front}
use Rattle.partner_rules.proofs.ModuleParts.{IdsOf, Needed, Neither, ParamInt, ParamPointer, ResultInt, ids_for}

-- what an instruction uses is what its form has, or nothing
pub uses-are : (Q : List ℕ → Type 0) (insts before : List RawInst) (inst : RawInst) → Q [] → ((wide : Bool) → Q (form_ids wide inst)) → Q (uses_of insts before inst)
uses-are Q insts before inst none form = by (is_dropped insts before inst) refl
  where
    by : (b : Bool) → is_dropped insts before inst ≡ b → Q (uses_of insts before inst)
    by true is = subst Q (sym (ap (λ t. if t then [] else form_ids (has_wide before inst) inst) is)) none
    by false is = subst Q (sym (ap (λ t. if t then [] else form_ids (has_wide before inst) inst) is)) (form (has_wide before inst))

-- the name of an entry point has no words behind it
entry-read : (text words : List ℕ) → IsUtf8 text → All (λ byte. byte ≢ 0) text → IsWords (terminated text) Little words → read_string (words ++ []) ≡ Ok []
entry-read text words utf8 no_zero are =
    let back = string-reads_back text words [] utf8 no_zero are in
    let At : List ℕ → Type 0 = λ ws. BeginsString ws text (length words) in
    string-read words [] (text, subst At (append-nil words) back)

entry-uses : (function : ℕ) (words : List ℕ) (wide : Bool) → read_string words ≡ Ok [] → form_ids wide (spelled op.EntryPoint (6 ∷ function ∷ words)) ≡ function ∷ []
unfolding form_ids
entry-uses function words wide read = ap (λ r. function ∷ (behind_reading r ++ [])) read

pub entry-ids : (ids : IdsOf) (kernel : Kernel) → HasPlainName kernel → (wide : Bool) → form_ids wide (entry_spelled (entry_partner ids kernel)) ≡ ids.function ∷ []
entry-ids ids kernel plain wide =
    let text = name_bytes kernel in
    entry-uses ids.function (text_words text ++ []) wide (entry-read text (text_words text) plain.utf8 plain.no_zero (text-are_words text (utf8-bytes text plain.utf8)))

-- the ids of types and of the function
pub record AreIds (ids : IdsOf) : Type 0 where
  pub void_some : 0 < ids.void
  pub void_type : ids.void < ids.function
  pub signature_some : 0 < ids.function_type
  pub signature_type : ids.function_type < ids.function
  pub int_some : 0 < ids.int

pub are-ids : (needed : Needed) → AreIds (ids_for needed)
are-ids Neither = record { void_some = omega arith; void_type = omega arith; signature_some = omega arith; signature_type = omega arith; int_some = omega arith }
are-ids ResultInt = record { void_some = omega arith; void_type = omega arith; signature_some = omega arith; signature_type = omega arith; int_some = omega arith }
are-ids ParamInt = record { void_some = omega arith; void_type = omega arith; signature_some = omega arith; signature_type = omega arith; int_some = omega arith }
are-ids ParamPointer = record { void_some = omega arith; void_type = omega arith; signature_some = omega arith; signature_type = omega arith; int_some = omega arith }

-- the uses of each instruction
abbrev uses_in : List KernelInst → List Use
uses_in insts = flat_map used_by insts

pub each-uses : (P : Use → Type 0) (insts : List KernelInst) → Each P (uses_in insts) → Each (λ inst. Each P (used_by inst)) insts
each-uses P [] all = tt
each-uses P (inst ∷ insts) all = (each-front P (used_by inst) (uses_in insts) all, each-uses P insts (each-behind P (used_by inst) (uses_in insts) all))
