-- What holds of canonical kernels and their text.
use Rattle.std.specs.Prelude.{◌≡◌, ℕ, ◌≤◌, true, List, Option, None, slice_get, IsUtf8}
use Rattle.ll_tokens.specs.Tokens.{Lexeme, IsTokens}
use Rattle.ll_tree.specs.declared.name.NameText.{NameText}
use Rattle.kernel_tree.specs.declared.kernel.Kernel.{Kernel}
use Rattle.kernel_tree.specs.Canonical.{canonical}
use Rattle.kernel_tree.specs.Covered.{first_undefined, is_covered}
use Rattle.kernel_tree.specs.Numbered.{bytes_of_entry, definition_count, name_bytes}
use Rattle.kernel_tree.specs.Text.{kernel_text}
use Rattle.kernel_text.specs.Grammar.{IsKernelText}
use Rattle.ll_canon.specs.Canon.{IsCanonized}
use Rattle.kernel_reading.specs.CanonicalKernels.{IsCanonicalKernel, IsOwnName, IsPrinted}

-- the canonical form of a kernel of the covered subset is a canonical kernel, where the kernel's own name is as it must be
abbrev pub CanonicalKernelsAreCanonical : Type 0
CanonicalKernelsAreCanonical =
    (source : Kernel) → first_undefined source ≡ None → is_covered source ≡ true → IsOwnName (slice_get source.names source.name.number)
    → IsCanonicalKernel (canonical source)

-- a kernel that is read from the tokens of a text has such a name
abbrev pub OwnNamesAreOwn : Type 0
OwnNamesAreOwn =
    (text : List ℕ) (tokens : List Lexeme) (kernel : Kernel) → IsTokens text tokens → IsKernelText tokens kernel
    → IsOwnName (slice_get kernel.names kernel.name.number)

-- The text of a canonical kernel is read as that kernel, where it defines 2^22 - 1 names at most: digits of a name are below 2^31
abbrev pub PrintedKernelsAreRead : Type 0
PrintedKernelsAreRead =
    (kernel : Kernel) → IsCanonicalKernel kernel → definition_count kernel ≤ 4194303 → IsUtf8 (name_bytes kernel) → IsPrinted kernel

-- such a name is UTF-8
abbrev pub OwnNamesAreUtf8 : Type 0
OwnNamesAreUtf8 = (entry : Option NameText) → IsOwnName entry → IsUtf8 (bytes_of_entry entry)

-- whatever kernel is read from the text of a canonical kernel, its canonical form is that kernel
abbrev pub PrintedTextsAreOfOneKernel : Type 0
PrintedTextsAreOfOneKernel =
    (kernel : Kernel) → IsCanonicalKernel kernel → definition_count kernel ≤ 4194303 → (tokens : List Lexeme) (other : Kernel)
    → IsTokens (kernel_text kernel) tokens → IsKernelText tokens other → IsCanonized other kernel

-- the text of the canonical form of a kernel that is read from a text can be read again
abbrev pub CanonicalTextsAreRead : Type 0
CanonicalTextsAreRead =
    (text : List ℕ) (tokens : List Lexeme) (source : Kernel) → IsTokens text tokens → IsKernelText tokens source
    → first_undefined source ≡ None → is_covered source ≡ true → definition_count source ≤ 4194303 → IsPrinted (canonical source)
