-- A small kernel and its tokens.
use Rattle.std.specs.Prelude.{ℕ, List, [], ◌∷◌, false, codes}
use Rattle.ll_tokens.specs.declared.kinds.TokenKind.{TokenKind}
use Rattle.ll_tokens.specs.declared.kinds.TokenKind.TheVariants as token
use Rattle.ll_tokens.specs.Tokens.{Lexeme}
use Rattle.ll_tree.specs.declared.name.NameKind.TheVariants.{Local, Global}
use Rattle.ll_tree.specs.declared.name.NameText.{NameText}
use Rattle.ll_tree.specs.declared.name.Spelling.TheVariants.{Number, Text}
use Rattle.kernel_tree.specs.declared.kernel.Kernel.{Kernel}
use Rattle.kernel_tree.specs.declared.kernel.KernelInst.TheVariants.{Add}
use Rattle.kernel_tree.specs.declared.kernel.ValueType.TheVariants.{Int}
use Rattle.kernel_text.specs.Grammar.{IsKernelText}

abbrev pub lexeme : TokenKind → List ℕ → ℕ → Lexeme
lexeme kind text byte = record { kind = kind; text = text; byte = byte }

-- the tokens of `define spir_kernel void @k(i32 %a) { %1 = add i32 %a, %a ret void }`
abbrev pub example_tokens : List Lexeme
example_tokens =
    lexeme token.Word (codes "define") 0 ∷ lexeme token.Word (codes "spir_kernel") 7 ∷ lexeme token.Word (codes "void") 19 ∷
    lexeme token.Global (codes "@k") 24 ∷ lexeme token.Punct (codes "(") 26 ∷ lexeme token.Word (codes "i32") 27 ∷
    lexeme token.Local (codes "%a") 31 ∷ lexeme token.Punct (codes ")") 33 ∷ lexeme token.Punct (codes "{") 35 ∷
    lexeme token.Local (codes "%1") 37 ∷ lexeme token.Punct (codes "=") 40 ∷ lexeme token.Word (codes "add") 42 ∷
    lexeme token.Word (codes "i32") 46 ∷ lexeme token.Local (codes "%a") 50 ∷ lexeme token.Punct (codes ",") 52 ∷
    lexeme token.Local (codes "%a") 54 ∷ lexeme token.Word (codes "ret") 57 ∷ lexeme token.Word (codes "void") 61 ∷
    lexeme token.Punct (codes "}") 66 ∷ []

abbrev pub example_names : List NameText
example_names =
    record { kind = Global; spelling = Text (codes "k") } ∷ record { kind = Local; spelling = Text (codes "a") } ∷
    record { kind = Local; spelling = Number 0 } ∷ record { kind = Local; spelling = Number 1 } ∷ []

-- its block has the number 0, at the place of `%1`
abbrev pub example_kernel : Kernel
example_kernel = record {
  has_targets = false;
  name = record { number = 0; byte = 24 };
  params = record { value_type = Int; name = record { number = 1; byte = 31 } } ∷ [];
  block = record { number = 2; byte = 37 };
  insts = Add (record { number = 3; byte = 37 }) (record { number = 1; byte = 50 }) (record { number = 1; byte = 54 }) ∷ [];
  names = example_names;
}

abbrev pub ExampleIsRead : Type 0
ExampleIsRead = IsKernelText example_tokens example_kernel
