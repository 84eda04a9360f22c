-- An input is the text of one kernel at most, but for the numbers of its names.
use Rattle.std.proofs.Common.{◌≡◌, ℕ, true, false, List, [], length, None, Some, ap, sym, ◌∙◌, subst, arith}
use Rattle.ll_tokens.specs.Tokens.{IsTokens, IsTokenFault, Lexeme}
use Rattle.ll_tokens.proofs.Places.{one_reading, no_token_at_end}
use Rattle.kernel_text.specs.Grammar.{IsKernelText}
use Rattle.kernel_text.proofs.OneKernel.{one-kernel}
use Rattle.kernel_tree.specs.declared.kernel.Kernel.{Kernel}
use Rattle.kernel_tree.specs.Canonical.{canonical}
use Rattle.kernel_tree.specs.Covered.{first_undefined, is_covered}
use Rattle.kernel_tree.specs.Same.{IsSameKernel}
use Rattle.ll_canon.proofs.SameForms.{canonical-is, covered-is, undefined-is}
use Rattle.kernel_translation.specs.Translations.{HasNoForm, IsCanonicalOf, IsOutside, IsTextOf, IsTranslatable, IsTranslation, IsUncovered, IsUndefinedIn, IsUnread, IsUntranslated, KeepsLimits, binary_of}
use Rattle.kernel_translation.specs.declared.error.TranslateError.{TranslateError}
use Rattle.kernel_translation.specs.declared.error.TranslateError.TheVariants as told
use Rattle.spv_words.specs.declared.words.Order.{Order}

pub one-tokens : (input : List ℕ) (a b : List Lexeme) → IsTokens input a → IsTokens input b → a ≡ b
one-tokens input a b are also = (one_reading (length input) input [] [] a b are no_token_at_end also no_token_at_end).0

-- a text with all its tokens has no place where none begins
pub not-stuck : (input : List ℕ) (tokens : List Lexeme) (byte : ℕ) → IsTokens input tokens → IsTokenFault input byte → ⊥
not-stuck input tokens byte are fault =
    let stuck = fault.1 in
    let same = one_reading (length input) input [] stuck.rest tokens fault.0 are no_token_at_end stuck.reads stuck.no_token in
    omega (arith, stuck.not_at_end, ap length same.1)

-- a kernel that the tokens of an input spell is one of its tokens
pub reads-of : (input : List ℕ) (tokens : List Lexeme) (kernel : Kernel) → IsTokens input tokens → IsTextOf input kernel → IsKernelText tokens kernel
reads-of input tokens kernel are text = subst (λ (ts : List Lexeme). IsKernelText ts kernel) (one-tokens input text.tokens tokens text.are_tokens are) text.reads

module _ (input : List ℕ) (k l : Kernel) (first : IsTextOf input k) (second : IsTextOf input l) where
  same-source : IsSameKernel k l
  same-source = one-kernel second.tokens k l (reads-of input second.tokens k second.are_tokens first) second.reads

  pub one-undefined : first_undefined k ≡ first_undefined l
  one-undefined = undefined-is k l first.reads.distinct second.reads.distinct same-source

  pub one-covered : is_covered k ≡ is_covered l
  one-covered = covered-is k l first.reads.distinct second.reads.distinct same-source

  pub one-canonical : canonical k ≡ canonical l
  one-canonical = canonical-is k l first.reads.distinct second.reads.distinct same-source

none-is-some : (byte : ℕ) → None ≡ Some byte → ⊥
none-is-some byte e = absurd cc

-- an input with a kernel in which no name is undefined has no undefined name
pub none-undefined : (input : List ℕ) (k : Kernel) → IsTextOf input k → first_undefined k ≡ None → (byte : ℕ) → IsUndefinedIn input byte → ⊥
none-undefined input k text none byte undefined = none-is-some byte (sym none ∙ one-undefined input k undefined.source text undefined.text ∙ undefined.undefined)

false-is-true : false ≡ true → ⊥
false-is-true e = absurd cc

-- an input with a kernel outside the covered subset has no canonical form
pub no-form : (input : List ℕ) (k : Kernel) → IsTextOf input k → first_undefined k ≡ None → is_covered k ≡ false → HasNoForm input
no-form input k text none uncovered = record {
  defined = none-undefined input k text none;
  uncovered = λ form is. false-is-true (sym uncovered ∙ one-covered input k is.source text is.text ∙ is.covered);
}

-- an input has one canonical form
pub one-form : (input : List ℕ) (form other : Kernel) → IsCanonicalOf input form → IsCanonicalOf input other → form ≡ other
one-form input form other is also = is.canonical ∙ one-canonical input is.source also.source is.text also.text ∙ sym also.canonical

-- an input whose canonical form breaks a limit is outside
pub outside-limits : (order : Order) (input : List ℕ) (form : Kernel) → IsCanonicalOf input form → (KeepsLimits order form → ⊥) → IsOutside order input
outside-limits order input form is breaks = record {
  defined = none-undefined input is.source is.text is.defined;
  untranslatable = λ other fits. breaks (subst (λ (k : Kernel). KeepsLimits order k) (one-form input other form fits.canonical is) fits.limits);
}

-- an input without a canonical form is outside
pub outside-forms : (order : Order) (input : List ℕ) → HasNoForm input → IsOutside order input
outside-forms order input none = record { defined = none.defined; untranslatable = λ form fits. none.uncovered form fits.canonical }

-- what can be translated has no undefined name, and is not outside
pub not-undefined : (order : Order) (input : List ℕ) (form : Kernel) (byte : ℕ) → IsTranslatable order input form → IsUndefinedIn input byte → ⊥
not-undefined order input form byte fits = none-undefined input fits.canonical.source fits.canonical.text fits.canonical.defined byte

-- an input with no kernel at all has no form
pub no-kernel : (input : List ℕ) → ((kernel : Kernel) → IsTextOf input kernel → ⊥) → HasNoForm input
no-kernel input none = record {
  defined = λ byte undefined. none undefined.source undefined.text;
  uncovered = λ form is. none is.source is.text;
}

pub one-translation : (order : Order) (input first second : List ℕ) → IsTranslation order input first → IsTranslation order input second → first ≡ second
one-translation order input first second a b =
    a.spelled ∙ ap (λ (k : Kernel). binary_of order k) (one-form input a.form b.form a.translatable.canonical b.translatable.canonical) ∙ sym b.spelled

some-same : (first second : ℕ) → Some first ≡ Some second → first ≡ second
some-same first second e = cc

pub one-undefined-name : (input : List ℕ) (first second : ℕ) → IsUndefinedIn input first → IsUndefinedIn input second → first ≡ second
one-undefined-name input first second a b = some-same first second (sym a.undefined ∙ one-undefined input a.source b.source a.text b.text ∙ b.undefined)

-- a text that has no tokens is no kernel's
pub stuck-no-kernel : (input text : List ℕ) (byte : ℕ) → text ≡ input → IsTokenFault text byte → (kernel : Kernel) → IsTextOf input kernel → ⊥
stuck-no-kernel input text byte same fault kernel is = not-stuck input is.tokens byte is.are_tokens (subst (λ (t : List ℕ). IsTokenFault t byte) same fault)

-- nor is one whose tokens spell none
pub tokens-no-kernel : (input text : List ℕ) (tokens seen : List Lexeme) → text ≡ input → IsTokens text tokens → seen ≡ tokens
    → ((kernel : Kernel) → IsKernelText seen kernel → ⊥) → (kernel : Kernel) → IsTextOf input kernel → ⊥
tokens-no-kernel input text tokens seen same are read none kernel is =
    none kernel (subst (λ (ts : List Lexeme). IsKernelText ts kernel) (sym read)
    (reads-of input tokens kernel (subst (λ (t : List ℕ). IsTokens t tokens) same are) is))

-- what is told of an input that is no kernel's text is told of one without a canonical form
pub unread-uncovered : (input : List ℕ) (error other : TranslateError) → other ≡ error → IsUnread input error → IsUncovered input other
unread-uncovered input error other same unread = subst (IsUncovered input) (sym same) (by error unread)
  where
    by : (e : TranslateError) → IsUnread input e → IsUncovered input e
    by told.NoMemory unread = tt
    by (told.UndefinedName byte) unread = absurd unread
    by told.Outside unread = no-kernel input unread

-- what is told of an input without a canonical form is told of one that isn't translated
pub uncovered-untranslated : (order : Order) (input : List ℕ) (error other : TranslateError) → other ≡ error → IsUncovered input error → IsUntranslated order input other
uncovered-untranslated order input error other same uncovered = subst (IsUntranslated order input) (sym same) (by error uncovered)
  where
    by : (e : TranslateError) → IsUncovered input e → IsUntranslated order input e
    by told.NoMemory uncovered = tt
    by (told.UndefinedName byte) uncovered = uncovered
    by told.Outside uncovered = outside-forms order input uncovered
