-- Types of one word.
use Rattle.std.proofs.Common.{◌≡◌, ℕ, List, [], ◌∷◌, codes, sym, subst}
use Rattle.ll_tokens.specs.declared.kinds.TokenKind.TheVariants.{Word}
use Rattle.ll_tokens.specs.Tokens.{Lexeme}
use Rattle.ll_tree.specs.declared.ty.TypeBase.{TypeBase, Void, Int, Half, Float, Double, Named, Array', Vector', Struct', Packed'}
use Rattle.ll_parser.specs.Reading.{IsBits}
use Rattle.ll_parser.specs.WordTypes.{IsWordFor, NoWordType, word_type}
use Rattle.ll_parser.proofs.TokenFacts.{token_nowhere, token_nowhere_in_nil}

pub word_type_read : (base : TypeBase) (tokens rest : List Lexeme) (first : Lexeme) → tokens ≡ first ∷ rest → first.kind ≡ Word → IsWordFor base first.text → word_type base tokens rest
word_type_read Void tokens rest first e kind named = (tt, λ names. (first, e, kind, named))
word_type_read (Int bits) tokens rest first e kind named = (tt, λ names. (first, e, kind, named))
word_type_read Half tokens rest first e kind named = (tt, λ names. (first, e, kind, named))
word_type_read Float tokens rest first e kind named = (tt, λ names. (first, e, kind, named))
word_type_read Double tokens rest first e kind named = (tt, λ names. (first, e, kind, named))
word_type_read (Named name) tokens rest first e kind named = absurd named
word_type_read (Array' count shape part) tokens rest first e kind named = absurd named
word_type_read (Vector' lanes shape part) tokens rest first e kind named = absurd named
word_type_read (Struct' shape members) tokens rest first e kind named = absurd named
word_type_read (Packed' shape members) tokens rest first e kind named = absurd named

pub no_word_type : (tokens rest : List Lexeme) (first : Lexeme) → tokens ≡ first ∷ rest → (first.kind ≡ Word → (base : TypeBase) → IsWordFor base first.text → ⊥) → NoWordType tokens
no_word_type tokens rest first e unnamed names Void one = token_nowhere _ _ tokens first rest e (λ kind named. unnamed kind Void named)
no_word_type tokens rest first e unnamed names (Int bits) one = token_nowhere _ _ tokens first rest e (λ kind named. unnamed kind (Int bits) named)
no_word_type tokens rest first e unnamed names Half one = token_nowhere _ _ tokens first rest e (λ kind named. unnamed kind Half named)
no_word_type tokens rest first e unnamed names Float one = token_nowhere _ _ tokens first rest e (λ kind named. unnamed kind Float named)
no_word_type tokens rest first e unnamed names Double one = token_nowhere _ _ tokens first rest e (λ kind named. unnamed kind Double named)
no_word_type tokens rest first e unnamed names (Named name) one = absurd one
no_word_type tokens rest first e unnamed names (Array' count shape part) one = absurd one
no_word_type tokens rest first e unnamed names (Vector' lanes shape part) one = absurd one
no_word_type tokens rest first e unnamed names (Struct' shape members) one = absurd one
no_word_type tokens rest first e unnamed names (Packed' shape members) one = absurd one

pub no_word_type_in_nil : (tokens : List Lexeme) → tokens ≡ [] → NoWordType tokens
no_word_type_in_nil tokens e names Void one = token_nowhere_in_nil _ _ tokens e
no_word_type_in_nil tokens e names (Int bits) one = token_nowhere_in_nil _ _ tokens e
no_word_type_in_nil tokens e names Half one = token_nowhere_in_nil _ _ tokens e
no_word_type_in_nil tokens e names Float one = token_nowhere_in_nil _ _ tokens e
no_word_type_in_nil tokens e names Double one = token_nowhere_in_nil _ _ tokens e
no_word_type_in_nil tokens e names (Named name) one = absurd one
no_word_type_in_nil tokens e names (Array' count shape part) one = absurd one
no_word_type_in_nil tokens e names (Vector' lanes shape part) one = absurd one
no_word_type_in_nil tokens e names (Struct' shape members) one = absurd one
no_word_type_in_nil tokens e names (Packed' shape members) one = absurd one

-- a word that names none of these types
pub word_names_none : (word bytes : List ℕ) → bytes ≡ word → (word ≡ codes "void" → ⊥) → (word ≡ codes "half" → ⊥) → (word ≡ codes "float" → ⊥) → (word ≡ codes "double" → ⊥) → ((bits : ℕ) → IsBits bytes bits → ⊥) → (base : TypeBase) → IsWordFor base word → ⊥
word_names_none word bytes same void half float double int Void named = void named
word_names_none word bytes same void half float double int (Int bits) named = int bits (subst (λ w. IsBits w bits) (sym same) named)
word_names_none word bytes same void half float double int Half named = half named
word_names_none word bytes same void half float double int Float named = float named
word_names_none word bytes same void half float double int Double named = double named
word_names_none word bytes same void half float double int (Named name) named = named
word_names_none word bytes same void half float double int (Array' count shape part) named = named
word_names_none word bytes same void half float double int (Vector' lanes shape part) named = named
word_names_none word bytes same void half float double int (Struct' shape members) named = named
word_names_none word bytes same void half float double int (Packed' shape members) named = named
