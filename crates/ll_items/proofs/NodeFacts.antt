-- Parts of metadata nodes: what begins them, and what they leave.
use Rattle.std.proofs.Common.{◌≡◌, ℕ, ◌-◌, List, [], drop, length, codes, refl, inl, inr, arith}
use Rattle.ll_tokens.specs.declared.kinds.Token.{Token}
use Rattle.ll_tokens.specs.declared.kinds.TokenKind.{TokenKind}
use Rattle.ll_tokens.specs.declared.kinds.TokenKind.TheVariants.{Local as LocalToken, MdStr, Mdn, Punct, Word}
use Rattle.ll_tokens.specs.Tokens.{Lexeme, lexemes_of}
use Rattle.ll_tree.specs.declared.module.NodePart.{NodePart}
use Rattle.ll_tree.specs.declared.module.NodePart.TheVariants as part
use Rattle.ll_tree.specs.declared.module.NodeRef.{NodeRef}
use Rattle.ll_tree.specs.declared.name.NameText.{NameText}
use Rattle.ll_tree.specs.declared.ty.TypeBase.{TypeBase, Void, Int, Half, Float, Double, Named, Array', Vector', Struct', Packed'}
use Rattle.ll_tree.specs.declared.value.TypedValue.{TypedValue}
use Rattle.ll_parser.specs.GrammarAttributes.{node_name}
use Rattle.ll_parser.specs.GrammarItems.{node_part}
use Rattle.ll_parser.specs.GrammarTypes.{type_base}
use Rattle.ll_parser.specs.GrammarValues.{typed}
use Rattle.ll_parser.specs.NameReading.{ReadsWith, any_of}
use Rattle.ll_parser.specs.Productions.{Production, ◌>>◌, mark, word}
use Rattle.ll_parser.specs.Reading.{EndsNowhere}
use Rattle.ll_parser.proofs.EndFacts.{token_ends}
use Rattle.ll_parser.proofs.PointerFacts.{word_no_mark}
use Rattle.ll_parser.proofs.TokenFacts.{token_leaves_one}
use Rattle.ll_types.proofs.OneValue.{typed_no_mark}
use Rattle.ll_types.proofs.Tokens.{EndsBy, Shortens, kinds_apart, token_end, token_shortens}
use Rattle.ll_types.proofs.ValueRows.{typed_shortens}
use Rattle.ll_operands.specs.Parts.{Begins, either, typed_part, word_part}
use Rattle.ll_operands.proofs.PartFacts.{IsExact, exact_either, exact_typed, exact_word}
use Rattle.ll_operands.proofs.TypeBegins.{begins_no_type, typed_no_word}
use Rattle.ll_items.specs.ItemParts.{free, kind_part, metadata_part, node_name_part, sole, some_listed}
use Rattle.ll_items.proofs.ListsRead.{ListSoFar, list_read, with_no_name}

-- parts of one production
pub exact_sole : (p : Production) → ((tokens a b : List Lexeme) → p tokens a → p tokens b → a ≡ b) → EndsBy p → IsExact (sole p)
exact_sole p one ends = record { one = one; none = λ tokens rest refusal s d. s.0 rest d; ends = ends }

pub exact_free : (p : Production) → ((tokens a b : List Lexeme) → p tokens a → p tokens b → a ≡ b) → EndsBy p → IsExact (free p)
exact_free p one ends = record { one = one; none = λ tokens rest refusal s d. s; ends = ends }

pub exact_kind : (kind : TokenKind) → IsExact (kind_part kind)
exact_kind kind = exact_sole (any_of kind) (token_leaves_one _ _ _) (token_end _ _)

pub exact_node_name : IsExact node_name_part
exact_node_name = record {
  one = λ tokens a b d e. token_leaves_one _ _ _ tokens a b d.1 e.1;
  none = λ tokens rest refusal s d. s.0 d.0 rest d.1;
  ends = λ tokens rest d. token_ends _ _ tokens rest d.1;
}

-- a type begins with a word, a name or a mark
module _ (names : List NameText) (tokens a b : List Lexeme) (kind : TokenKind) (no_word : Word ≡ kind → ⊥) (no_name : LocalToken ≡ kind → ⊥) (no_mark : Punct ≡ kind → ⊥) where
  base_no_kind : (base : TypeBase) → type_base names base tokens a → any_of kind tokens b → ⊥
  unfolding ◌>>◌
  base_no_kind Void d x = kinds_apart Word kind _ _ tokens a b no_word d x
  base_no_kind (Int bits) d x = kinds_apart Word kind _ _ tokens a b no_word d x
  base_no_kind Half d x = kinds_apart Word kind _ _ tokens a b no_word d x
  base_no_kind Float d x = kinds_apart Word kind _ _ tokens a b no_word d x
  base_no_kind Double d x = kinds_apart Word kind _ _ tokens a b no_word d x
  base_no_kind (Named name) d x = kinds_apart LocalToken kind _ _ tokens a b no_name d x
  base_no_kind (Array' count shape part) (m, bracket, _) x = kinds_apart Punct kind _ _ tokens m b no_mark bracket x
  base_no_kind (Vector' lanes shape part) (m, bracket, _) x = kinds_apart Punct kind _ _ tokens m b no_mark bracket x
  base_no_kind (Struct' shape members) (m, bracket, _) x = kinds_apart Punct kind _ _ tokens m b no_mark bracket x
  base_no_kind (Packed' shape members) (m, bracket, _) x = kinds_apart Punct kind _ _ tokens m b no_mark bracket x

pub typed_no_kind : (kind : TokenKind) → (Word ≡ kind → ⊥) → (LocalToken ≡ kind → ⊥) → (Punct ≡ kind → ⊥) → (names : List NameText) (v : TypedValue) (tokens rest : List Lexeme) → typed names v tokens rest → EndsNowhere (any_of kind) tokens
unfolding ◌>>◌
typed_no_kind kind no_word no_name no_mark names v tokens rest (m, (n, base, ps), d) b x = base_no_kind names tokens n b kind no_word no_name no_mark v.ty.base base x

-- a part of a metadata node
pub metadata_is_part : (names : List NameText) (p : NodePart) (tokens rest : List Lexeme) → node_part names p tokens rest → metadata_part.begins tokens rest
metadata_is_part names (part.Node node) tokens rest d = inl (node, d)
metadata_is_part names (part.Text bytes) tokens rest (l, is, kind, text) =
    inr (λ b x. kinds_apart Mdn MdStr (λ _. Unit {0}) (λ _. Unit {0}) tokens b rest (λ e. cc) x (l, is, kind, tt), inl (l, is, kind, tt))
metadata_is_part names part.Null tokens rest d = inr (
  λ b x. kinds_apart Mdn Word (λ _. Unit {0}) _ tokens b rest (λ e. cc) x d,
  inr (λ b x. kinds_apart MdStr Word (λ _. Unit {0}) _ tokens b rest (λ e. cc) x d, inl d),
)
metadata_is_part names (part.Value v) tokens rest d = inr (
  typed_no_kind Mdn (λ e. cc) (λ e. cc) (λ e. cc) names v tokens rest d,
  inr (
    typed_no_kind MdStr (λ e. cc) (λ e. cc) (λ e. cc) names v tokens rest d,
    inr (typed_no_word (codes "null") (begins_no_type (codes "null") (λ e. omega arith) (λ e. omega arith) (λ e. omega arith) (λ e. omega arith) (λ e. omega arith)) names v tokens rest d, (names, v, d)),
  ),
)

node_opens : (tokens rest : List Lexeme) → node_name_part.begins tokens rest → Begins (any_of Mdn) tokens
node_opens tokens rest (n, (l, is, kind, _)) = (rest, (l, is, kind, tt))

pub exact_metadata : IsExact metadata_part
exact_metadata =
    exact_either (any_of Mdn) node_name_part (either (any_of MdStr) (kind_part MdStr) (either (word (codes "null")) (word_part (codes "null")) typed_part)) exact_node_name
    (exact_either (any_of MdStr) (kind_part MdStr) (either (word (codes "null")) (word_part (codes "null")) typed_part) (exact_kind MdStr)
    (exact_either (word (codes "null")) (word_part (codes "null")) typed_part (exact_word (codes "null")) exact_typed (λ tokens rest d. (rest, d)))
    (λ tokens rest d. (rest, d)))
    node_opens

-- neither a part nor a node begins with a `}`, 125
pub metadata_no_close : (names : List NameText) (p : NodePart) (tokens a b : List Lexeme) → node_part names p tokens a → mark 125 tokens b → ⊥
metadata_no_close names (part.Node node) tokens a b d close = kinds_apart Mdn Punct _ _ tokens a b (λ e. cc) d close
metadata_no_close names (part.Text bytes) tokens a b d close = kinds_apart MdStr Punct _ _ tokens a b (λ e. cc) d close
metadata_no_close names part.Null tokens a b d close = word_no_mark (codes "null") 125 tokens a b d close
metadata_no_close names (part.Value v) tokens a b d close = typed_no_mark 125 names v tokens a b (λ e. omega arith) (λ e. omega arith) (λ e. omega arith) d close

pub node_no_close : (names : List NameText) (n : NodeRef) (tokens a b : List Lexeme) → node_name n tokens a → mark 125 tokens b → ⊥
node_no_close names n tokens a b d close = kinds_apart Mdn Punct _ _ tokens a b (λ e. cc) d close

-- what is left is shorter
pub metadata_shortens : (names : List NameText) (p : NodePart) → Shortens (node_part names p)
metadata_shortens names (part.Node node) = token_shortens _ _
metadata_shortens names (part.Text bytes) = token_shortens _ _
metadata_shortens names part.Null = token_shortens _ _
metadata_shortens names (part.Value v) = typed_shortens names v

pub node_shortens : (names : List NameText) (n : NodeRef) → Shortens (node_name n)
node_shortens names n = token_shortens _ _

pub node_is_name : (names : List NameText) (n : NodeRef) (tokens rest : List Lexeme) → node_name n tokens rest → node_name_part.begins tokens rest
node_is_name names n tokens rest d = (n, d)

-- nodes are read up to where no comma stands
pub nodes_listed : (tokens here end : List Token) (xs : List NodeRef) (left : ℕ) → ListSoFar (λ _. node_name) node_name_part node_is_name [] [] tokens xs left → here ≡ drop (length tokens - left) tokens → end ≡ drop (length tokens - left) tokens → EndsNowhere (mark 44) (lexemes_of here) → some_listed node_name xs (lexemes_of tokens) (lexemes_of end) × EndsNowhere (mark 44) (lexemes_of end)
nodes_listed tokens here end xs left s is is' none =
    let r : ReadsWith (λ _. some_listed node_name) [] [] xs (lexemes_of tokens) (lexemes_of end) × EndsNowhere (mark 44) (lexemes_of end) = list_read (λ _. node_name) node_name_part node_is_name [] [] [] tokens here end xs left s is is' (refl, none) in
    (with_no_name (some_listed node_name) [] [] xs (lexemes_of tokens) (lexemes_of end) r.0, r.1)
