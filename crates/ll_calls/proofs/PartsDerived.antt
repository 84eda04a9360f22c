-- What the grammar derives of calls is of the parts.
use Rattle.std.proofs.Common.{List, [], ◌∷◌, length, codes, refl, sym, subst, inl, inr, arith}
use Rattle.ll_tokens.specs.declared.kinds.TokenKind.TheVariants.{Global as GlobalToken, Punct, Word}
use Rattle.ll_tokens.specs.Tokens.{Lexeme}
use Rattle.ll_tree.specs.declared.name.Name.{Name}
use Rattle.ll_tree.specs.declared.name.NameText.{NameText}
use Rattle.ll_tree.specs.declared.op.Op.{Op}
use Rattle.ll_tree.specs.declared.op.Op.TheVariants as op
use Rattle.ll_tree.specs.declared.value.TypedValue.{TypedValue}
use Rattle.ll_parser.specs.GrammarInsts.{argument}
use Rattle.ll_parser.specs.GrammarValues.{global}
use Rattle.ll_parser.specs.Pointers.{NoPointer}
use Rattle.ll_parser.specs.Productions.{Production, ◌>>◌, each_behind_comma, mark, word}
use Rattle.ll_parser.specs.Reading.{EndsNowhere}
use Rattle.ll_types.proofs.Tokens.{Shortens, kinds_apart, marks_apart, seq_shortens, token_shortens}
use Rattle.ll_types.proofs.TypeOpened.{type_no_mark}
use Rattle.ll_types.proofs.ValueForms.{value_no_mark, value_no_pointer}
use Rattle.ll_operands.specs.Parts.{times}
use Rattle.ll_attributes.specs.Heads.{call_convention}
use Rattle.ll_attributes.proofs.AttributeFacts.{attributes_whole}
use Rattle.ll_attributes.proofs.HeadFacts.{maybe_whole}
use Rattle.ll_attributes.proofs.ListEnds.{attributes_no_pointer, type_no_attribute, value_no_attribute}
use Rattle.ll_calls.specs.declared.callees.Callee.{Callee}
use Rattle.ll_calls.specs.declared.calls.Called.{Called}
use Rattle.ll_calls.specs.declared.openings.CallOpening.TheVariants as opening
use Rattle.ll_calls.specs.CallOpenings.{opening_word}
use Rattle.ll_calls.specs.CallParts.{argument_part, arguments, arguments_part, called, called_part, callee, callee_part, next_argument, next_argument_part, some_arguments, some_part}
use Rattle.ll_calls.specs.Calls.{behind_opening, call_operation, call_part}
use Rattle.ll_calls.proofs.ExactCalls.{exact_argument, exact_behind}
use Rattle.ll_calls.proofs.WordsBefore.{no_convention}

module _ (names : List NameText) where
  -- what is called
  global_no_pointer : (name : Name) (tokens rest : List Lexeme) → global names name tokens rest → NoPointer tokens
  global_no_pointer name tokens rest d = record {
    no_space = λ b w. kinds_apart GlobalToken Word _ _ tokens rest b (λ e. cc) d w;
    no_star = λ b k. kinds_apart GlobalToken Punct _ _ tokens rest b (λ e. cc) d k;
  }

  pub callee_is_part : (c : Callee) (tokens rest : List Lexeme) → callee names c tokens rest → callee_part.begins tokens rest
  unfolding ◌>>◌
  callee_is_part c tokens rest (m, convention, (n, (xs, attributes), (k, (j, base, pointers), name))) = (
    m,
    maybe_whole call_convention tokens m convention (no_convention names xs c.ty m n k attributes (j, base, pointers)),
    (
      n,
      (
        names,
        xs,
        attributes_whole names xs m n attributes (type_no_attribute names c.ty.base n j base) (λ b bracket. type_no_mark 40 names c.ty.base n j b (λ e. omega arith) (λ e. omega arith) (λ e. omega arith) base bracket),
      ),
      (k, (names, c.ty, ((j, base, pointers), global_no_pointer c.name k rest name)), (names, c.name, name)),
    ),
  )

  -- arguments
  pub argument_is_part : (a : TypedValue) (tokens rest : List Lexeme) → argument names a tokens rest → argument_part.begins tokens rest
  unfolding ◌>>◌
  argument_is_part a tokens rest (m, type, (n, (xs, attributes), d)) = (
    names,
    a.ty,
    m,
    (type, attributes_no_pointer names xs m n attributes (value_no_pointer a.ty names a.value n rest d)),
    (
      n,
      (
        names,
        xs,
        attributes_whole names xs m n attributes (value_no_attribute names a.value a.ty n rest d) (λ b bracket. value_no_mark 40 a.ty names a.value n rest b (λ e. omega arith) (λ e. omega arith) (λ e. omega arith) d bracket),
      ),
      (a.ty, refl, (names, a.value, d)),
    ),
  )

  pub next_is_part : (a : TypedValue) (tokens rest : List Lexeme) → next_argument names a tokens rest → next_argument_part.begins tokens rest
  unfolding ◌>>◌
  next_is_part a tokens rest (m, comma, d) = (m, comma, argument_is_part a m rest d)

  next_times : (xs : List TypedValue) (tokens rest : List Lexeme) → each_behind_comma (argument names) xs tokens rest → times (length xs) next_argument_part.begins tokens rest
  unfolding ◌>>◌
  next_times [] tokens rest same = same
  next_times (x ∷ xs) tokens rest (m, comma, (n, d, more)) = (n, (m, comma, argument_is_part x m n d), next_times xs n rest more)

  pub some_are_part : (xs : List TypedValue) (tokens rest : List Lexeme) → some_arguments names xs tokens rest → some_part.begins tokens rest
  unfolding ◌>>◌
  some_are_part [] tokens rest none = absurd none
  some_are_part (x ∷ xs) tokens rest ((m, d, more), nowhere) = (m, argument_is_part x tokens m d, (length xs, next_times xs m rest more, nowhere))

  no_close : (a : TypedValue) (tokens rest : List Lexeme) → argument names a tokens rest → EndsNowhere (mark 41) tokens
  unfolding ◌>>◌
  no_close a tokens rest (m, (j, base, _), _) b close = type_no_mark 41 names a.ty.base tokens j b (λ e. omega arith) (λ e. omega arith) (λ e. omega arith) base close

  close_no_comma : (tokens rest : List Lexeme) → mark 41 tokens rest → EndsNowhere (mark 44) tokens
  close_no_comma tokens rest close b comma = marks_apart 41 44 tokens rest b (λ e. omega arith) close comma

  pub arguments_are_part : (xs : List TypedValue) (tokens rest : List Lexeme) → arguments names xs tokens rest → arguments_part.begins tokens rest
  unfolding ◌>>◌
  arguments_are_part [] tokens rest (m, same, close) = inl (subst (λ ls. mark 41 ls rest) (sym same) close)
  arguments_are_part (x ∷ xs) tokens rest (m, (n, d, more), close) =
      inr (no_close x tokens n d, (m, some_are_part (x ∷ xs) tokens m ((n, d, more), close_no_comma m rest close), close))

  -- a call
  called_is_part : (c : Called) (tokens rest : List Lexeme) → called names c tokens rest → called_part.begins tokens rest
  unfolding ◌>>◌
  called_is_part c tokens rest (m, front, (n, bracket, (k, list, attributes))) =
      (m, callee_is_part c.callee tokens m front, (n, bracket, (k, arguments_are_part c.arguments n k list, attributes)))

  pub of_part : (o : Op) (tokens rest : List Lexeme) → call_operation names o tokens rest → call_part.begins tokens rest
  unfolding ◌>>◌
  of_part (op.Call t name xs) tokens rest (m, inl (inl w), (n, w', d)) = (opening.Tail, m, w, (n, w', called_is_part _ n rest d))
  of_part (op.Call t name xs) tokens rest (m, inl (inr w), (n, w', d)) = (opening.NoTail, m, w, (n, w', called_is_part _ n rest d))
  of_part (op.Call t name xs) tokens rest (m, inr same, (n, w, d)) = (opening.Call, n, subst (λ ls. word (codes "call") ls n) (sym same) w, called_is_part _ n rest d)
  of_part other tokens rest none = absurd none

-- what is left is shorter
pub next_shortens : (names : List NameText) (a : TypedValue) → Shortens (next_argument names a)
unfolding ◌>>◌
next_shortens names a tokens rest (m, comma, d) =
    seq_shortens (mark 44) argument_part.begins (token_shortens _ _) exact_argument.ends tokens rest (m, comma, argument_is_part names a m rest d)

joined : (p q : Production) (tokens middle rest : List Lexeme) → p tokens middle → q middle rest → (p >> q) tokens rest
unfolding ◌>>◌
joined p q tokens middle rest d e = (middle, d, e)

pub part_shortens : Shortens call_part.begins
part_shortens tokens rest (key, m, w, d) =
    seq_shortens (word (opening_word key)) (behind_opening key).begins (token_shortens _ _) (exact_behind key).ends tokens rest (joined _ _ tokens m rest w d)

pub operation_shortens : (names : List NameText) (o : Op) → Shortens (call_operation names o)
operation_shortens names o tokens rest d = part_shortens tokens rest (of_part names o tokens rest d)
