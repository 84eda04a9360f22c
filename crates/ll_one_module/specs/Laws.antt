-- What the same tokens are is one thing, but for the numbers that tables give to names.
use Rattle.std.specs.Prelude.{◌≡◌, ℕ, List, map}
use Rattle.inst_walk.specs.declared.body.Block.{Block}
use Rattle.ll_tokens.specs.Tokens.{Lexeme}
use Rattle.ll_tree.specs.declared.inst.Inst.{Inst}
use Rattle.ll_tree.specs.declared.module.LlModule.{LlModule}
use Rattle.ll_tree.specs.declared.name.NameText.{NameText}
use Rattle.ll_tree.specs.declared.ty.LlType.{LlType}
use Rattle.ll_tree.specs.declared.value.TypedValue.{TypedValue}
use Rattle.ll_tree.specs.declared.value.Value.{Value}
use Rattle.ll_tree.specs.Modules.{block_changed, module_changed}
use Rattle.ll_tree.specs.Types.{type_changed}
use Rattle.ll_tree.specs.Values.{typed_changed, value_changed}
use Rattle.ll_parser.specs.GrammarFunctions.{blocks}
use Rattle.ll_parser.specs.GrammarItems.{IsModule}
use Rattle.ll_parser.specs.GrammarValues.{typed, value}
use Rattle.ll_parser.specs.Productions.{◌>>◌, mark}
use Rattle.ll_parser.specs.Tables.{NoNameTwice}
use Rattle.ll_one_module.specs.Numbers.{to_table}

-- two values that tokens begin with, whatever their types, are the same, and leave the same tokens
abbrev pub ValuesAreOne : Type 0
ValuesAreOne =
    (a b : List NameText) → NoNameTwice b → (v w : Value) (t u : LlType) (tokens rest rest' : List Lexeme) → value a v t tokens rest → value b w u tokens rest'
    → (value_changed (to_table a b) (type_changed (to_table a b)) v ≡ w) × (rest ≡ rest')

-- and so are two values with their types
abbrev pub TypedValuesAreOne : Type 0
TypedValuesAreOne =
    (a b : List NameText) → NoNameTwice b → (v w : TypedValue) (tokens rest rest' : List Lexeme) → typed a v tokens rest → typed b w tokens rest'
    → (typed_changed (to_table a b) (type_changed (to_table a b)) v ≡ w) × (rest ≡ rest')

-- the blocks of two functions, up to a `}`, 125, where the same number is next, have the same instructions in the same places
abbrev pub BlocksAreOne : Type 0
BlocksAreOne =
    (a b : List NameText) → NoNameTwice b → (next : ℕ) (list others : List (Block Inst ℕ)) (places other_places : List ℕ) (tokens rest rest' : List Lexeme)
    → (blocks a next list places >> mark 125) tokens rest → (blocks b next others other_places >> mark 125) tokens rest'
    → (map (block_changed (to_table a b) (λ byte. byte)) list ≡ others) × (places ≡ other_places) × (rest ≡ rest')

-- two modules that some tokens are, are the same, places included, when the names of the first have their numbers in the second's table
abbrev pub ModulesAreOne : Type 0
ModulesAreOne = (tokens : List Lexeme) (a b : LlModule) → IsModule tokens a → IsModule tokens b → module_changed (to_table a.names b.names) (λ byte. byte) b.names a ≡ b
