-- Values of one token, by the kind of that token.
use Rattle.std.proofs.Common.{◌≡◌, ℕ, true, false, List, length, refl, sym, ap, ◌∙◌, subst, inl, inr}
use Rattle.std.proofs.lemmas.List.{length-map}
use Rattle.ll_tokens.specs.declared.kinds.Token.{Token}
use Rattle.ll_tokens.specs.declared.kinds.TokenKind.{TokenKind}
use Rattle.ll_tokens.specs.declared.kinds.TokenKind.TheVariants.{Word, Int as IntToken, Local as LocalToken, Global as GlobalToken, CStr, Bang}
use Rattle.ll_tokens.specs.Tokens.{Lexeme, lexeme_of, lexemes_of}
use Rattle.ll_tree.specs.declared.name.NameKind.TheVariants.{Local as LocalName, Global as GlobalName}
use Rattle.ll_tree.specs.declared.name.NameText.{NameText}
use Rattle.ll_tree.specs.declared.ty.LlType.{LlType}
use Rattle.ll_tree.specs.declared.value.Value.{Value, Local, Global, Int, Bytes, Bool as Truth, Null, Zero, Undef, Poison, Vector', Array', Struct', Packed', GetElementPtr', Cast'}
use Rattle.ll_parser.specs.declared.refusal.ReadError.{ReadError}
use Rattle.ll_parser.specs.declared.refusal.ReadError.TheVariants.{NoMemory, Refused}
use Rattle.ll_parser.specs.declared.refusal.Refusal.{Refusal}
use Rattle.ll_parser.specs.GrammarValues.{local, global, integer}
use Rattle.ll_parser.specs.NameReading.{DerivesNoneWith, IsNoName, NameFails, any_of}
use Rattle.ll_parser.specs.Productions.{token}
use Rattle.ll_parser.specs.Reading.{DerivesNone, EndsNowhere, number_rule, rule_of}
use Rattle.ll_parser.proofs.TokenFacts.{same_first}
use Rattle.ll_types.specs.SingleValues.{IsWordValue, SingleRefused, single, single_rule, value_rule}

-- the kind of the token that spells a value
unfoldable pub kind_of : Value → TokenKind
kind_of (Local name) = LocalToken
kind_of (Global name) = GlobalToken
kind_of (Int number) = IntToken
kind_of (Bytes bytes) = CStr
kind_of (Truth truth) = Word
kind_of Null = Word
kind_of Zero = Word
kind_of Undef = Word
kind_of Poison = Word
kind_of _ = Bang

pub single_token : (t : LlType) (names : List NameText) (v : Value) (tokens rest : List Lexeme) → single t names v tokens rest → any_of (kind_of v) tokens rest
unfolding kind_of
single_token t names (Local name) tokens rest (one, (l, is, kind, _)) = (l, is, kind, tt)
single_token t names (Global name) tokens rest (one, (l, is, kind, _)) = (l, is, kind, tt)
single_token t names (Int number) tokens rest (one, (l, is, kind, _)) = (l, is, kind, tt)
single_token t names (Bytes bytes) tokens rest (one, (l, is, kind, _)) = (l, is, kind, tt)
single_token t names (Truth true) tokens rest (one, (l, is, kind, _)) = (l, is, kind, tt)
single_token t names (Truth false) tokens rest (one, (l, is, kind, _)) = (l, is, kind, tt)
single_token t names Null tokens rest (one, (l, is, kind, _)) = (l, is, kind, tt)
single_token t names Zero tokens rest (one, (l, is, kind, _)) = (l, is, kind, tt)
single_token t names Undef tokens rest (one, (l, is, kind, _)) = (l, is, kind, tt)
single_token t names Poison tokens rest (one, (l, is, kind, _)) = (l, is, kind, tt)
single_token t names (Vector' shape parts) tokens rest d = absurd d.0
single_token t names (Array' shape parts) tokens rest d = absurd d.0
single_token t names (Struct' shape parts) tokens rest d = absurd d.0
single_token t names (Packed' shape parts) tokens rest d = absurd d.0
single_token t names (GetElementPtr' inbounds ty shape parts) tokens rest d = absurd d.0
single_token t names (Cast' kind shape parts to) tokens rest d = absurd d.0

same_kind : (k : TokenKind) (t : LlType) (names : List NameText) (v : Value) (tokens a b : List Lexeme) → any_of k tokens a → single t names v tokens b → kind_of v ≡ k
same_kind k t names v tokens a b (l, is, kind_l, _) d = from (single_token t names v tokens b d)
  where
    from : any_of (kind_of v) tokens b → kind_of v ≡ k
    from (m, is', kind_m, _) = sym kind_m ∙ ap (λ (x : Lexeme). x.kind) (same_first m l _ _ (sym is' ∙ is)) ∙ kind_l

none_of : (k : TokenKind) (t : LlType) (tokens a : List Lexeme) → any_of k tokens a → ((names : List NameText) (v : Value) (rest : List Lexeme) → kind_of v ≡ k → single t names v tokens rest → ⊥) → DerivesNoneWith (single t) tokens
none_of k t tokens a first none names v rest d = none names v rest (same_kind k t names v tokens a rest first d) d

no_local : (t : LlType) (tokens : List Lexeme) → DerivesNoneWith local tokens → (names : List NameText) (v : Value) (rest : List Lexeme) → kind_of v ≡ LocalToken → single t names v tokens rest → ⊥
unfolding kind_of
no_local t tokens none names (Local name) rest e d = none names name rest d.1
no_local t tokens none names v rest e d = cc

no_global : (t : LlType) (tokens : List Lexeme) → DerivesNoneWith global tokens → (names : List NameText) (v : Value) (rest : List Lexeme) → kind_of v ≡ GlobalToken → single t names v tokens rest → ⊥
unfolding kind_of
no_global t tokens none names (Global name) rest e d = none names name rest d.1
no_global t tokens none names v rest e d = cc

no_number : (t : LlType) (tokens : List Lexeme) → DerivesNone (integer t) tokens → (names : List NameText) (v : Value) (rest : List Lexeme) → kind_of v ≡ IntToken → single t names v tokens rest → ⊥
unfolding kind_of
no_number t tokens none names (Int number) rest e d = none number rest d.1
no_number t tokens none names v rest e d = cc

no_word : (t : LlType) (tokens : List Lexeme) → ((v : Value) → EndsNowhere (token Word (λ lexeme. IsWordValue v lexeme.text)) tokens) → (names : List NameText) (v : Value) (rest : List Lexeme) → kind_of v ≡ Word → single t names v tokens rest → ⊥
unfolding kind_of
no_word t tokens none names (Truth true) rest e d = none (Truth true) rest d.1
no_word t tokens none names (Truth false) rest e d = none (Truth false) rest d.1
no_word t tokens none names Null rest e d = none Null rest d.1
no_word t tokens none names Zero rest e d = none Zero rest d.1
no_word t tokens none names Undef rest e d = none Undef rest d.1
no_word t tokens none names Poison rest e d = none Poison rest d.1
no_word t tokens none names v rest e d = cc

-- the rule that the first token breaks, by its kind
rule_at : (k : TokenKind) (tokens rest : List Lexeme) → any_of k tokens rest → single_rule tokens ≡ value_rule k
rule_at k tokens rest (l, is, kind, _) = ap single_rule is ∙ ap value_rule kind

refusal_at : (rule rule' left left' : ℕ) (refusal : Refusal) → rule' ≡ rule → left' ≡ left → refusal ≡ record { rule = rule; left = left } → refusal ≡ record { rule = rule'; left = left' }
refusal_at rule rule' left left' refusal same same' place =
    subst (λ (n : ℕ). refusal ≡ record { rule = rule'; left = n }) (sym same') (subst (λ (n : ℕ). refusal ≡ record { rule = n; left = left }) (sym same) place)

-- behind the sign of a name only digits that are too great are refused
name_refused : (k : TokenKind) (tokens rest : List Lexeme) (refusal : Refusal) → any_of k tokens rest → IsNoName k tokens refusal → refusal ≡ record { rule = 4; left = length tokens }
name_refused k tokens rest refusal first (inl (nowhere, place)) = absurd (nowhere rest first)
name_refused k tokens rest refusal first (inr (behind, one, place)) = place

pub local_refused : (t : LlType) (tokens : List Lexeme) (error told : ReadError) → told ≡ error → (rest : List Lexeme) × any_of LocalToken tokens rest → NameFails LocalToken LocalName tokens error → SingleRefused t tokens told
local_refused t tokens NoMemory told same first fails = subst (SingleRefused t tokens) (sym same) tt
local_refused t tokens (Refused refusal) told same (rest, first) (none, place) =
    subst (SingleRefused t tokens) (sym same)
    (none_of LocalToken t tokens rest first (no_local t tokens none), refusal_at 4 _ _ _ refusal (rule_at LocalToken tokens rest first) refl (name_refused LocalToken tokens rest refusal first place))

pub global_refused : (t : LlType) (tokens : List Lexeme) (error told : ReadError) → told ≡ error → (rest : List Lexeme) × any_of GlobalToken tokens rest → NameFails GlobalToken GlobalName tokens error → SingleRefused t tokens told
global_refused t tokens NoMemory told same first fails = subst (SingleRefused t tokens) (sym same) tt
global_refused t tokens (Refused refusal) told same (rest, first) (none, place) =
    subst (SingleRefused t tokens) (sym same)
    (none_of GlobalToken t tokens rest first (no_global t tokens none), refusal_at 4 _ _ _ refusal (rule_at GlobalToken tokens rest first) refl (name_refused GlobalToken tokens rest refusal first place))

number_rule_at : (tokens rest : List Lexeme) → any_of IntToken tokens rest → number_rule tokens ≡ 4
number_rule_at tokens rest (l, is, kind, _) = ap number_rule is ∙ ap rule_of kind

pub number_refused : (t : LlType) (tokens : List Token) (refusal : Refusal) (told : ReadError) → told ≡ Refused refusal → (rest : List Lexeme) × any_of IntToken (lexemes_of tokens) rest → DerivesNone (integer t) (lexemes_of tokens) → refusal ≡ record { rule = number_rule (lexemes_of tokens); left = length tokens } → SingleRefused t (lexemes_of tokens) told
number_refused t tokens refusal told same (rest, first) none place =
    subst (SingleRefused t (lexemes_of tokens)) (sym same)
    (none_of IntToken t (lexemes_of tokens) rest first (no_number t (lexemes_of tokens) none), refusal_at _ _ _ _ refusal (rule_at IntToken _ rest first ∙ sym (number_rule_at _ rest first)) (length-map tokens lexeme_of) place)

pub word_refused : (t : LlType) (tokens : List Token) (refusal : Refusal) (told : ReadError) → told ≡ Refused refusal → (rest : List Lexeme) × any_of Word (lexemes_of tokens) rest → ((v : Value) → EndsNowhere (token Word (λ lexeme. IsWordValue v lexeme.text)) (lexemes_of tokens)) → refusal ≡ record { rule = 3; left = length tokens } → SingleRefused t (lexemes_of tokens) told
word_refused t tokens refusal told same (rest, first) none place =
    subst (SingleRefused t (lexemes_of tokens)) (sym same)
    (none_of Word t (lexemes_of tokens) rest first (no_word t (lexemes_of tokens) none), refusal_at 3 _ _ _ refusal (rule_at Word _ rest first) (length-map tokens lexeme_of) place)
