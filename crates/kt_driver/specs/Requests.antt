-- The words that make a request.
use Rattle.std.specs.Prelude.{ℕ, List, [], ◌∷◌, map, codes, Option, Some, None, Bool, true, false, ◌&&◌, if◌then◌else◌, String, string_bytes}
use Rattle.std.specs.Option.{option_and_then, option_map}
use Rattle.std.specs.Str.{bytes_eq}
use Rattle.spv_words.specs.declared.words.Order.{Order}
use Rattle.spv_words.specs.declared.words.Order.TheVariants.{Little, Big}
use Rattle.kt_driver.specs.declared.request.Format.{Format}
use Rattle.kt_driver.specs.declared.request.Format.TheVariants.{Llvm, Spirv}
use Rattle.kt_driver.specs.declared.request.Request.{Request}
use Rattle.kt_driver.specs.declared.request.Request.TheVariants.{Translate, Show}

-- the bytes of each word
abbrev pub texts_of : {A : Type 0} → List (String A) → List (List ℕ)
texts_of words = map string_bytes words

abbrev pub format_named : List ℕ → Option Format
format_named word =
    if bytes_eq word (codes "llvm") then Some Llvm else (if bytes_eq word (codes "spirv") then Some Spirv else None)

abbrev pub order_named : List ℕ → Option Order
order_named word =
    if bytes_eq word (codes "little") then Some Little else (if bytes_eq word (codes "big") then Some Big else None)

-- the first words of a translation, and the one before the format that it is to
abbrev pub is_translation : List ℕ → List ℕ → List ℕ → Bool
is_translation command from to = bytes_eq command (codes "translate") && bytes_eq from (codes "--from") && bytes_eq to (codes "--to")

abbrev pub are_different : Format → Format → Bool
are_different Llvm Spirv = true
are_different Spirv Llvm = true
are_different _ _ = false

-- a translation from a format to another one
abbrev pub translation_to : Order → Format → Format → Option Request
translation_to order from to = if are_different from to then Some (Translate from to order) else None

abbrev pub translation_from : Order → List ℕ → Format → Option Request
translation_from order target from = option_and_then (translation_to order from) (format_named target)

-- a translation between the formats of these names
abbrev pub translation_between : List ℕ → List ℕ → Order → Option Request
translation_between source target order = option_and_then (translation_from order target) (format_named source)

-- the words so far are `translate --from llvm --to spirv` and `translate --from spirv --to llvm`, either with `--order little` or
-- `--order big` behind it, which says the order of a binary that is written, and `show --from llvm` or `show --from spirv`
abbrev pub request_of : List (List ℕ) → Option Request
request_of (command ∷ from ∷ source ∷ []) =
    if bytes_eq command (codes "show") && bytes_eq from (codes "--from") then option_map Show (format_named source) else None
request_of (command ∷ from ∷ source ∷ to ∷ target ∷ []) =
    if is_translation command from to then translation_between source target Little else None
request_of (command ∷ from ∷ source ∷ to ∷ target ∷ order ∷ value ∷ []) =
    if is_translation command from to && bytes_eq order (codes "--order")
    then option_and_then (translation_between source target) (order_named value) else None
request_of _ = None

-- the format of a request's input
abbrev pub input_format : Request → Format
input_format (Translate from to order) = from
input_format (Show from) = from
