-- The module of a kernel breaks no rule of section order, of ids or of the form of functions.
use Rattle.std.proofs.Common.{◌≡◌, ℕ, true, List, [], ◌∷◌, length, Option, None, refl, ap, ◌∙◌}
use Rattle.std.specs.Option.{option_map, option_or}
use Rattle.ports.specs.declared.faults.SpvFault.{SpvFault}
use Rattle.rule_order.specs.Breaks.{first_refusal}
use Rattle.spv_codec.specs.declared.module.RawModule.{RawModule}
use Rattle.spv_codec.specs.Framing.{module_words}
use Rattle.spv_module.specs.Sections.{flattened}
use Rattle.kernel_tree.specs.declared.kernel.Kernel.{Kernel}
use Rattle.kernel_tree.specs.Covered.{is_covered}
use Rattle.kernel_tree.specs.Numbered.{IsNumbered}
use Rattle.to_spirv.specs.Limits.{HasPlainName}
use Rattle.to_spirv.specs.Partner.{partner}
use Rattle.spv_names.specs.Functions.{function_places}
use Rattle.spv_names.specs.IdRules.{bound_places, later_places, twice_places, unknown_places}
use Rattle.spv_names.specs.NameRules.{fault_of, names_fault, rule_at}
use Rattle.spv_names.specs.RoleRules.{role_places}
use Rattle.spv_sections.specs.SectionOrder.{section_places}
use Rattle.partner_rules.specs.Laws.{NamesBreakNoRule, UsesValues}
use Rattle.partner_rules.proofs.EarlierIds.{partner-earlier}
use Rattle.partner_rules.proofs.FunctionParts.{partner-listed}
use Rattle.partner_rules.proofs.IdRoles.{partner-roles}
use Rattle.partner_rules.proofs.KnownIds.{partner-known}
use Rattle.partner_rules.proofs.OnceDefined.{partner-once}
use Rattle.partner_rules.proofs.RisingRanks.{partner-ordered}
use Rattle.partner_rules.proofs.ValueNames.{covered-values}
use Rattle.partner_rules.proofs.WithinBound.{partner-bounded}

-- rules that are broken nowhere
abbrev fault_at : List ℕ → List ℕ → List ℕ → List ℕ → List ℕ → List ℕ → List ℕ → Option SpvFault
fault_at order bound twice unknown role later functions =
    option_map fault_of
    (option_or (first_refusal (rule_at 14 order ∷ []))
    (first_refusal (rule_at 20 bound ∷ rule_at 21 twice ∷ rule_at 22 unknown ∷ rule_at 23 role ∷ rule_at 24 later ∷ rule_at 25 functions ∷ [])))

none-broken : (order bound twice unknown role later functions : List ℕ) → order ≡ [] → bound ≡ [] → twice ≡ [] → unknown ≡ [] → role ≡ [] → later ≡ [] → functions ≡ []
    → fault_at order bound twice unknown role later functions ≡ None
none-broken order bound twice unknown role later functions order_none bound_none twice_none unknown_none role_none later_none functions_none =
    ap (λ o. fault_at o bound twice unknown role later functions) order_none
    ∙ ap (λ b. fault_at [] b twice unknown role later functions) bound_none
    ∙ ap (λ t. fault_at [] [] t unknown role later functions) twice_none
    ∙ ap (λ u. fault_at [] [] [] u role later functions) unknown_none
    ∙ ap (λ r. fault_at [] [] [] [] r later functions) role_none
    ∙ ap (λ l. fault_at [] [] [] [] [] l functions) later_none
    ∙ ap (λ f. fault_at [] [] [] [] [] [] f) functions_none

-- a binary with the instructions and the bound of a kernel's module
pub spelled-unbroken : (kernel : Kernel) → IsNumbered kernel → HasPlainName kernel → UsesValues kernel → (raw : RawModule)
    → raw.insts ≡ (flattened (partner kernel)).insts → raw.bound ≡ (flattened (partner kernel)).bound → names_fault raw ≡ None
spelled-unbroken kernel numbered plain values raw insts bound =
    let words = length (module_words raw) in
    let made = flattened (partner kernel) in
    none-broken (section_places raw.insts words) (bound_places raw.insts raw.bound) (twice_places raw.insts) (unknown_places raw.insts) (role_places raw.insts)
    (later_places raw.insts) (function_places raw.insts words)
    (ap (λ is. section_places is words) insts ∙ partner-ordered kernel words)
    (ap (λ is. bound_places is raw.bound) insts ∙ ap (bound_places made.insts) bound ∙ partner-bounded kernel numbered plain)
    (ap twice_places insts ∙ partner-once kernel numbered)
    (ap unknown_places insts ∙ partner-known kernel numbered plain)
    (ap role_places insts ∙ partner-roles kernel plain values)
    (ap later_places insts ∙ partner-earlier kernel)
    (ap (λ is. function_places is words) insts ∙ partner-listed kernel words)

pub partner-unbroken : NamesBreakNoRule
partner-unbroken kernel numbered plain values = spelled-unbroken kernel numbered plain values (flattened (partner kernel)) refl refl

-- the module of a kernel of the covered subset
pub covered-unbroken : (kernel : Kernel) → IsNumbered kernel → HasPlainName kernel → is_covered kernel ≡ true → names_fault (flattened (partner kernel)) ≡ None
covered-unbroken kernel numbered plain covered = partner-unbroken kernel numbered plain (covered-values kernel numbered covered)
