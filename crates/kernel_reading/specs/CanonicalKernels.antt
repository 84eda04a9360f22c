-- Kernels that are their own canonical form, whose text can be read again (LLVM 14, Identifiers; Functions).
use Rattle.std.specs.Prelude.{◌≡◌, ℕ, true, IsTrue, IsUtf8, List, ◌∷◌, Option, None, Some, slice_get}
use Rattle.ll_tokens.specs.declared.kinds.TokenKind.TheVariants.{Global as GlobalToken}
use Rattle.ll_tokens.specs.Tokens.{Lexeme, IsTokens, has_kind}
use Rattle.ll_tree.specs.declared.name.NameKind.TheVariants.{Global}
use Rattle.ll_tree.specs.declared.name.NameText.{NameText}
use Rattle.ll_tree.specs.declared.name.Spelling.TheVariants.{Text}
use Rattle.kernel_tree.specs.declared.kernel.Kernel.{Kernel}
use Rattle.kernel_tree.specs.Canonical.{canonical}
use Rattle.kernel_tree.specs.Covered.{first_undefined, is_covered}
use Rattle.kernel_tree.specs.Text.{kernel_text}
use Rattle.kernel_text.specs.Grammar.{IsKernelText}
use Rattle.kernel_text.specs.NameSorts.{is_kernel_name}

-- The kernel's own name as a table has it: a global name that stands without quotes, is no number, and is not as those of
-- built-in functions are; 64 is `@`
pub record IsOwnName (entry : Option NameText) : Type 0 where
  pub bytes : List ℕ
  pub entry_is : entry ≡ Some (record { kind = Global; spelling = Text bytes })
  pub is_token : IsTrue (has_kind GlobalToken (64 ∷ bytes))
  pub allowed : is_kernel_name bytes ≡ true

-- a kernel that is its own canonical form
pub record IsCanonicalKernel (kernel : Kernel) : Type 0 where
  pub defined : first_undefined kernel ≡ None
  pub covered : is_covered kernel ≡ true
  pub its_own : canonical kernel ≡ kernel
  pub own_name : IsOwnName (slice_get kernel.names 0)

-- the kernel's text has tokens, which are those of a kernel of the covered subset with this canonical form
pub record IsPrinted (kernel : Kernel) : Type 0 where
  pub utf8 : IsUtf8 (kernel_text kernel)
  pub tokens : List Lexeme
  pub are_tokens : IsTokens (kernel_text kernel) tokens
  pub source : Kernel
  pub reads : IsKernelText tokens source
  pub defined : first_undefined source ≡ None
  pub covered : is_covered source ≡ true
  pub made : kernel ≡ canonical source
