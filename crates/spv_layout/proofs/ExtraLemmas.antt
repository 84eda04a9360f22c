-- What follows an enumerant, found among the code's rows.
use Rattle.std.specs.Prelude.{◌≡◌, ℕ, Bool, ◌&&◌, List, [], map, find, Option, None, Some, unwrap_or, refl}
use Rattle.std.specs.Option.{option_map, option_copied}
use Rattle.std.proofs.Common.{Bor, sym, ◌∙◌, ap}
use Rattle.spv_layout.proofs.FindLemmas.{find-map}
use Rattle.spv_layout.specs.declared.enumerants.Enumerant.{Enumerant}
use Rattle.spv_layout.specs.declared.operands.EnumKind.{EnumKind}
use Rattle.spv_layout.specs.Enumerants.{EnumerantRow, enumerant_row, enumerants_of, is_mask_kind, stands_in, has_elements, extra_operands_of}

-- whether a row is in a word and is followed by anything
abbrev fits : Bool → ℕ → EnumerantRow → Bool
fits is_mask word e = stands_in is_mask word e.value && has_elements e.extra

pub extra_operands_of-found : (kind : EnumKind) (is_mask : Bool) (word : ℕ) (enumerants : List Enumerant) (found : Option (Bor Enumerant))
    → is_mask ≡ is_mask_kind kind → map enumerant_row enumerants ≡ enumerants_of kind
    → option_copied found ≡ find (λ e. stands_in is_mask word e.value && has_elements e.extra.now) enumerants
    → extra_operands_of kind word ≡ unwrap_or (option_map (λ e. e.now.extra.now) found) []
extra_operands_of-found kind is_mask word enumerants found mask rows is_found =
    ap (λ m. unwrap_or (option_map (λ e. e.extra) (find (fits m word) (enumerants_of kind))) []) (sym mask)
    ∙ (ap (λ es. unwrap_or (option_map (λ e. e.extra) (find (fits is_mask word) es)) []) (sym rows)
    ∙ (ap (λ o. unwrap_or (option_map (λ e. e.extra) o) []) (find-map (fits is_mask word) enumerant_row enumerants)
    ∙ (ap (λ o. unwrap_or (option_map (λ e. e.extra) (option_map enumerant_row o)) []) (sym is_found)
    ∙ seen found)))
  where
    seen : (o : Option (Bor Enumerant)) → unwrap_or (option_map (λ e. e.extra) (option_map enumerant_row (option_copied o))) []
        ≡ unwrap_or (option_map (λ e. e.now.extra.now) o) []
    seen None = refl
    seen (Some e) = refl
