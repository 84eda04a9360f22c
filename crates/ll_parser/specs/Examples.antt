-- Productions on small lists of tokens.
use Rattle.std.specs.Prelude.{ℕ, List, [], ◌∷◌, true, None, codes}
use Rattle.ll_tokens.specs.declared.kinds.TokenKind.{TokenKind}
use Rattle.ll_tokens.specs.declared.kinds.TokenKind.TheVariants.{Word, Punct, Int as IntToken, Global as GlobalToken}
use Rattle.ll_tokens.specs.Tokens.{Lexeme}
use Rattle.inst_walk.specs.declared.body.Body.{Body}
use Rattle.kern_types.specs.declared.class.PointerWidth.TheVariants.{P64}
use Rattle.ll_tree.specs.declared.inst.Inst.{Inst}
use Rattle.ll_tree.specs.declared.module.Function.{Function}
use Rattle.ll_tree.specs.declared.module.Linkage.TheVariants.{External}
use Rattle.ll_tree.specs.declared.module.LlModule.{LlModule}
use Rattle.ll_tree.specs.declared.name.NameKind.TheVariants.{Local, Global}
use Rattle.ll_tree.specs.declared.name.Spelling.TheVariants.{Number, Text}
use Rattle.ll_tree.specs.declared.op.Op.TheVariants.{ReturnVoid}
use Rattle.ll_tree.specs.declared.ty.TypeBase.{Int, Void}
use Rattle.ll_parser.specs.GrammarItems.{IsModule}
use Rattle.ll_parser.specs.GrammarTypes.{ty}

abbrev pub lexeme : TokenKind → List ℕ → ℕ → Lexeme
lexeme kind text byte = record { kind = kind; text = text; byte = byte }

-- the tokens of `i32 addrspace(1)*`
abbrev pub pointer_tokens : List Lexeme
pointer_tokens =
    lexeme Word (codes "i32") 0 ∷ lexeme Word (codes "addrspace") 4 ∷ lexeme Punct (codes "(") 13 ∷
    lexeme IntToken (codes "1") 14 ∷ lexeme Punct (codes ")") 15 ∷ lexeme Punct (codes "*") 16 ∷ []

abbrev pub PointerIsRead : Type 0
PointerIsRead = ty [] (record { base = Int 32; pointers = 1 ∷ [] }) pointer_tokens []

-- the tokens of `define spir_kernel void @k() { ret void }`
abbrev pub kernel_tokens : List Lexeme
kernel_tokens =
    lexeme Word (codes "define") 0 ∷ lexeme Word (codes "spir_kernel") 7 ∷ lexeme Word (codes "void") 19 ∷
    lexeme GlobalToken (codes "@k") 24 ∷ lexeme Punct (codes "(") 26 ∷ lexeme Punct (codes ")") 27 ∷ lexeme Punct (codes "{") 29 ∷
    lexeme Word (codes "ret") 31 ∷ lexeme Word (codes "void") 35 ∷ lexeme Punct (codes "}") 40 ∷ []

abbrev pub kernel_function : Function
kernel_function = record {
  head = record { byte = 0; name = record { number = 0; byte = 24 }; linkage = External; is_kernel = true; attributes = []; ty = record { base = Void; pointers = [] }; params = [] };
  kernel_arg_type = None;
  reqd_work_group_size = None;
  work_group_size_hint = None;
  labels = 31 ∷ [];
}

abbrev pub kernel_body : Body Inst ℕ
kernel_body = record { params = []; blocks = record { name = 1; insts = record { byte = 31; defines = None; op = ReturnVoid } ∷ [] } ∷ [] }

-- its module: the block has the first number for its name
abbrev pub kernel : LlModule
kernel = record {
  targets = [];
  structs = [];
  variables = [];
  declares = [];
  functions = kernel_function ∷ [];
  bodies = kernel_body ∷ [];
  ocl_version = [];
  nodes = [];
  pointer = P64;
  names = record { kind = Global; spelling = Text (codes "k") } ∷ record { kind = Local; spelling = Number 0 } ∷ [];
}

abbrev pub KernelIsRead : Type 0
KernelIsRead = IsModule kernel_tokens kernel
