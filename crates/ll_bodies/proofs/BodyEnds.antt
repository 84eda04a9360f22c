-- Before what may stand behind an instruction, instructions don't go on.
use Rattle.std.proofs.Common.{◌≡◌, ℕ, false, true≢false, List, codes, sym, ◌∙◌, inl, inr, arith}
use Rattle.std.specs.Str.{bytes_eq}
use Rattle.std.specs.Cmp.Lexicographic.{bytes_decides}
use Rattle.ll_tokens.specs.declared.kinds.TokenKind.{TokenKind}
use Rattle.ll_tokens.specs.declared.kinds.TokenKind.TheVariants.{Attr, Label, Local as LocalToken, Punct, Str, Word}
use Rattle.ll_tokens.specs.Tokens.{Lexeme}
use Rattle.ll_tree.specs.declared.name.NameText.{NameText}
use Rattle.ll_tree.specs.declared.op.Op.{Op}
use Rattle.ll_parser.specs.GrammarAttributes.{function_attribute}
use Rattle.ll_parser.specs.GrammarInsts.{operation}
use Rattle.ll_parser.specs.NameReading.{any_of}
use Rattle.ll_parser.specs.Pointers.{NoPointer}
use Rattle.ll_parser.specs.Productions.{◌>>◌, mark}
use Rattle.ll_parser.specs.Reading.{EndsNowhere}
use Rattle.ll_parser.proofs.PointerFacts.{word_no_mark}
use Rattle.ll_types.proofs.Tokens.{kinds_apart, mark_no_pointer, marks_apart}
use Rattle.ll_attributes.specs.FunctionAttributes.{NoFunctionAttribute}
use Rattle.ll_attributes.proofs.FunctionFacts.{no_function_attribute_at, no_function_attribute_at_word}
use Rattle.ll_operands.specs.Parts.{operand_comma}
use Rattle.ll_operands.proofs.TypeBegins.{words_apart}
use Rattle.ll_bodies.specs.BodyWords.{EndsInst}
use Rattle.ll_bodies.proofs.OperationWords.{first_word}

-- no attribute of a function begins where none is read
pub no_attribute_here : (tokens : List Lexeme) → NoFunctionAttribute tokens → EndsNowhere function_attribute tokens
unfolding ◌>>◌
no_attribute_here tokens none rest (inl (l, is, kind, _)) = none.no_group rest (l, is, kind, tt)
no_attribute_here tokens none rest (inr (inl (m, text, _))) = none.no_text m text
no_attribute_here tokens none rest (inr (inr w)) = none.no_word rest w

no_operand : (tokens : List Lexeme) → EndsNowhere (mark 44) tokens → EndsNowhere operand_comma tokens
no_operand tokens nowhere rest d = nowhere rest d.0

ends_inst : (tokens : List Lexeme) → NoPointer tokens → NoFunctionAttribute tokens → EndsNowhere (mark 44) tokens → EndsNowhere (mark 61) tokens → EndsInst tokens
ends_inst tokens no_pointer none nowhere no_value = record {
  operation = record { no_pointer = no_pointer; no_operand = no_operand tokens nowhere; no_attribute = no_attribute_here tokens none };
  no_comma = nowhere;
  no_attribute = none;
  no_value = no_value;
}

-- a token of a kind that goes on with nothing
pub token_ends_inst : (kind : TokenKind) (tokens rest : List Lexeme) → (kind ≡ Attr → ⊥) → (kind ≡ Str → ⊥) → (kind ≡ Word → ⊥) → (kind ≡ Punct → ⊥) → any_of kind tokens rest → EndsInst tokens
token_ends_inst kind tokens rest no_attr no_str no_word no_mark t =
    ends_inst tokens
    (record { no_space = λ b x. kinds_apart kind Word _ _ tokens rest b no_word t x; no_star = λ b x. kinds_apart kind Punct _ _ tokens rest b no_mark t x })
    (no_function_attribute_at kind _ tokens rest no_attr no_str no_word t)
    (λ b x. kinds_apart kind Punct _ _ tokens rest b no_mark t x)
    (λ b x. kinds_apart kind Punct _ _ tokens rest b no_mark t x)

pub local_ends_inst : (tokens rest : List Lexeme) → any_of LocalToken tokens rest → EndsInst tokens
local_ends_inst tokens rest t = token_ends_inst LocalToken tokens rest (λ e. cc) (λ e. cc) (λ e. cc) (λ e. cc) t

pub label_ends_inst : (tokens rest : List Lexeme) → any_of Label tokens rest → EndsInst tokens
label_ends_inst tokens rest t = token_ends_inst Label tokens rest (λ e. cc) (λ e. cc) (λ e. cc) (λ e. cc) t

pub close_ends_inst : (tokens rest : List Lexeme) → mark 125 tokens rest → EndsInst tokens
close_ends_inst tokens rest t =
    ends_inst tokens (mark_no_pointer 125 tokens rest (λ e. omega arith) t)
    (no_function_attribute_at Punct _ tokens rest (λ e. cc) (λ e. cc) (λ e. cc) t)
    (λ b x. marks_apart 125 44 tokens rest b (λ e. omega arith) t x)
    (λ b x. marks_apart 125 61 tokens rest b (λ e. omega arith) t x)

differ : (text other : List ℕ) → bytes_eq text other ≡ false → text ≡ other → ⊥
differ text other off same = true≢false (sym ((bytes_decides text other).1 same) ∙ off)

-- a word that begins an instruction
pub word_ends_inst : (names : List NameText) (o : Op) (tokens rest : List Lexeme) → operation names o tokens rest → EndsInst tokens
word_ends_inst names o tokens rest d =
    let w = first_word names tokens rest o d in
    ends_inst tokens
    (record {
      no_space = λ b x. words_apart w.text (codes "addrspace") tokens w.behind b (differ w.text (codes "addrspace") w.is.no_space) w.stands x;
      no_star = λ b x. word_no_mark w.text 42 tokens w.behind b w.stands x;
    })
    (no_function_attribute_at_word w.text tokens w.behind w.is.no_attribute w.stands)
    (λ b x. word_no_mark w.text 44 tokens w.behind b w.stands x)
    (λ b x. word_no_mark w.text 61 tokens w.behind b w.stands x)
