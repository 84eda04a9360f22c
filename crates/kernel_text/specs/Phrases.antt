-- Tokens that stand as they are written.
use Rattle.std.specs.Prelude.{◌≡◌, ℕ, List, [], ◌∷◌, ◌++◌, codes}
use Rattle.std.specs.Borrow.{Bor}
use Rattle.ll_tokens.specs.declared.kinds.TokenKind.{TokenKind}
use Rattle.ll_tokens.specs.declared.kinds.TokenKind.TheVariants.{Word, Punct, Int, Str}
use Rattle.ll_parser.specs.Productions.{Production, nothing, ◌>>◌, token}
use Rattle.kernel_tree.specs.Modules.{layout_text, triple_text}
use Rattle.kernel_text.specs.declared.phrases.Phrase.{Phrase}
use Rattle.kernel_text.specs.declared.phrases.Phrase.TheVariants as phrase

-- a token as it is written: its kind and its text
abbrev pub Wanted : Type 0
Wanted = TokenKind × List ℕ

abbrev pub wanted_of : TokenKind × Bor (List ℕ) → Wanted
wanted_of piece = (piece.0, piece.1.now)

abbrev pub wanted_token : Wanted → Production
wanted_token wanted = token wanted.0 (λ lexeme. lexeme.text ≡ wanted.1)

abbrev pub exactly : List Wanted → Production
exactly [] = nothing
exactly (wanted ∷ more) = wanted_token wanted >> exactly more

-- a text between quotes, 34
abbrev pub quoted : List ℕ → List ℕ
quoted text = 34 ∷ text ++ 34 ∷ []

-- what makes a pointer to global memory of a type
abbrev pub pointer_suffix : List Wanted
pointer_suffix = (Word, codes "addrspace") ∷ (Punct, codes "(") ∷ (Int, codes "1") ∷ (Punct, codes ")") ∷ (Punct, codes "*") ∷ []

-- `, i32 addrspace(1)*`
abbrev pub pointer_operand : List Wanted
pointer_operand = (Punct, codes ",") ∷ (Word, codes "i32") ∷ pointer_suffix

-- the tokens of each phrase
unfoldable pub pieces_of : Phrase → List Wanted
pieces_of phrase.TargetLines =
    (Word, codes "target") ∷ (Word, codes "datalayout") ∷ (Punct, codes "=") ∷ (Str, quoted layout_text) ∷
    (Word, codes "target") ∷ (Word, codes "triple") ∷ (Punct, codes "=") ∷ (Str, quoted triple_text) ∷ []
pieces_of phrase.KernelWords = (Word, codes "define") ∷ (Word, codes "spir_kernel") ∷ (Word, codes "void") ∷ []
pieces_of phrase.ParamsStart = (Punct, codes "(") ∷ []
pieces_of phrase.BodyStart = (Punct, codes ")") ∷ (Punct, codes "{") ∷ []
pieces_of phrase.Return = (Word, codes "ret") ∷ []
pieces_of phrase.BodyEnd = (Word, codes "ret") ∷ (Word, codes "void") ∷ (Punct, codes "}") ∷ []
pieces_of phrase.IntType = (Word, codes "i32") ∷ []
pieces_of phrase.PointerSuffix = pointer_suffix
pieces_of phrase.Comma = (Punct, codes ",") ∷ []
pieces_of phrase.PointerOperand = pointer_operand
pieces_of phrase.Align = (Punct, codes ",") ∷ (Word, codes "align") ∷ (Int, codes "4") ∷ []
pieces_of phrase.AddWords = (Punct, codes "=") ∷ (Word, codes "add") ∷ (Word, codes "i32") ∷ []
pieces_of phrase.LoadWords = (Punct, codes "=") ∷ (Word, codes "load") ∷ (Word, codes "i32") ∷ pointer_operand
pieces_of phrase.StoreWords = (Word, codes "store") ∷ (Word, codes "i32") ∷ []

-- the tokens of a phrase
abbrev pub words_of : Phrase → Production
words_of p = exactly (pieces_of p)
