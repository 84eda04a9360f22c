-- Numbers behind the sign of a token, read or refused.
use Rattle.std.proofs.Common.{◌≡◌, ℕ, ◌<◌, ◌^◌, List, [], ◌∷◌, length, drop, refl, sym, ap, ◌∙◌, subst, inl, inr}
use Rattle.std.proofs.lemmas.List.{length-map}
use Rattle.ll_tokens.specs.declared.kinds.Token.{Token}
use Rattle.ll_tokens.specs.declared.kinds.TokenKind.{TokenKind}
use Rattle.ll_tokens.specs.declared.kinds.TokenKind.TheVariants.{Attr, Mdn}
use Rattle.ll_tokens.specs.Tokens.{Lexeme, lexeme_of, lexemes_of}
use Rattle.ll_tree.specs.declared.module.NodeRef.{NodeRef}
use Rattle.ll_parser.specs.declared.refusal.Refusal.{Refusal}
use Rattle.ll_parser.specs.GrammarAttributes.{attribute_group, node_name}
use Rattle.ll_parser.specs.NameReading.{any_of}
use Rattle.ll_parser.specs.Productions.{token}
use Rattle.ll_parser.specs.Reading.{EndsNowhere}
use Rattle.ll_parser.specs.Spaces.{IsUnexpected}
use Rattle.ll_parser.specs.Spellings.{decimal_value}
use Rattle.ll_parser.proofs.TokenFacts.{same_first, token_nowhere, token_nowhere_in_nil}
use Rattle.ll_attributes.specs.Attachments.{IsNoNode}
use Rattle.ll_attributes.specs.FunctionAttributes.{IsNoGroup}

-- a token of another kind, and none
pub other_kind : (kind : TokenKind) (tokens rest : List Lexeme) (first : Lexeme) → tokens ≡ first ∷ rest → (first.kind ≡ kind → ⊥) → EndsNowhere (any_of kind) tokens
other_kind kind tokens rest first is other = token_nowhere kind _ tokens first rest is (λ same t. other same)

pub no_first : (kind : TokenKind) (tokens : List Lexeme) → tokens ≡ [] → EndsNowhere (any_of kind) tokens
no_first kind tokens is = token_nowhere_in_nil kind _ tokens is

pub of_no_kind : (kind : TokenKind) (test : Lexeme → Type 0) (tokens : List Lexeme) → EndsNowhere (any_of kind) tokens → EndsNowhere (token kind test) tokens
of_no_kind kind test tokens nowhere rest (l, is, k, _) = nowhere rest (l, is, k, tt)

-- as many tokens as lexemes
pub counted : (rule : ℕ) (tokens : List Token) (refusal : Refusal) → refusal ≡ record { rule = rule; left = length tokens } → refusal ≡ record { rule = rule; left = length (lexemes_of tokens) }
counted rule tokens refusal place = subst (λ (n : ℕ). refusal ≡ record { rule = rule; left = n }) (sym (length-map tokens lexeme_of)) place

pub unexpected_kind : (kind : TokenKind) (tokens : List Token) (refusal : Refusal) → EndsNowhere (any_of kind) (lexemes_of tokens) → refusal ≡ record { rule = 3; left = length tokens } → IsUnexpected (any_of kind) (lexemes_of tokens) refusal
unexpected_kind kind tokens refusal nowhere place = (nowhere, counted 3 tokens refusal place)

-- a node
pub node_read : (tokens rest : List Lexeme) (first : Lexeme) (text : List ℕ) (number : ℕ) → tokens ≡ first ∷ rest → first.kind ≡ Mdn → text ≡ first.text → (decimal_value (drop 1 text) ≡ number) × (number < 2 ^ 31) → node_name (record { number = number; byte = first.byte }) tokens rest
node_read tokens rest first text number is kind same (value, small) =
    (first, is, kind, (ap (λ (t : List ℕ). decimal_value (drop 1 t)) (sym same) ∙ value, small, refl))

pub no_node : (tokens : List Token) (refusal : Refusal) → EndsNowhere (any_of Mdn) (lexemes_of tokens) → refusal ≡ record { rule = 3; left = length tokens } → IsNoNode (lexemes_of tokens) refusal
no_node tokens refusal nowhere place = ((λ node. of_no_kind Mdn _ (lexemes_of tokens) nowhere), inl (unexpected_kind Mdn tokens refusal nowhere place))

pub great_node : (tokens : List Token) (rest : List Lexeme) (first : Lexeme) (text : List ℕ) (refusal : Refusal) → lexemes_of tokens ≡ first ∷ rest → first.kind ≡ Mdn → text ≡ first.text → (decimal_value (drop 1 text) < 2 ^ 31 → ⊥) → refusal ≡ record { rule = 4; left = length tokens } → IsNoNode (lexemes_of tokens) refusal
great_node tokens rest first text refusal is kind same great place =
    ((λ node other d. none node other d), inr (rest, (first, is, kind, tt), counted 4 tokens refusal place))
  where
    none : (node : NodeRef) (other : List Lexeme) → node_name node (lexemes_of tokens) other → ⊥
    none node other (l, is', _, (value, small, _)) =
        let text_l : drop 1 l.text ≡ drop 1 text = ap (λ (t : Lexeme). drop 1 t.text) (same_first l first _ _ (sym is' ∙ is)) ∙ ap (drop 1) (sym same) in
        great (subst (λ (n : ℕ). n < 2 ^ 31) (sym value ∙ ap decimal_value text_l) small)

-- a group of attributes
pub group_read : (tokens rest : List Lexeme) (first : Lexeme) (text : List ℕ) (number : ℕ) → tokens ≡ first ∷ rest → first.kind ≡ Attr → text ≡ first.text → (decimal_value (drop 1 text) ≡ number) × (number < 2 ^ 31) → attribute_group tokens rest
group_read tokens rest first text number is kind same (value, small) =
    (first, is, kind, subst (λ (n : ℕ). n < 2 ^ 31) (sym value ∙ ap (λ (t : List ℕ). decimal_value (drop 1 t)) same) small)

pub no_group : (tokens : List Token) (refusal : Refusal) → EndsNowhere (any_of Attr) (lexemes_of tokens) → refusal ≡ record { rule = 3; left = length tokens } → IsNoGroup (lexemes_of tokens) refusal
no_group tokens refusal nowhere place = (of_no_kind Attr _ (lexemes_of tokens) nowhere, inl (unexpected_kind Attr tokens refusal nowhere place))

pub great_group : (tokens : List Token) (rest : List Lexeme) (first : Lexeme) (text : List ℕ) (refusal : Refusal) → lexemes_of tokens ≡ first ∷ rest → first.kind ≡ Attr → text ≡ first.text → (decimal_value (drop 1 text) < 2 ^ 31 → ⊥) → refusal ≡ record { rule = 4; left = length tokens } → IsNoGroup (lexemes_of tokens) refusal
great_group tokens rest first text refusal is kind same great place = (none, inr (rest, (first, is, kind, tt), counted 4 tokens refusal place))
  where
    none : (other : List Lexeme) → attribute_group (lexemes_of tokens) other → ⊥
    none other (l, is', _, small) =
        let text_l : drop 1 l.text ≡ drop 1 text = ap (λ (t : Lexeme). drop 1 t.text) (same_first l first _ _ (sym is' ∙ is)) ∙ ap (drop 1) (sym same) in
        great (subst (λ (n : ℕ). n < 2 ^ 31) (ap decimal_value text_l) small)
