-- Attributes as they are read: what each exit of a reader answers.
use Rattle.std.proofs.Common.{◌≡◌, ℕ, ◌-◌, ◌<◌, ◌⊎◌, List, [], ◌∷◌, ◌++◌, Option, None, Some, codes, length, drop, refl, sym, ◌∙◌, subst}
use Rattle.std.proofs.lemmas.List.{length-map}
use Rattle.ll_tokens.specs.declared.kinds.Token.{Token}
use Rattle.ll_tokens.specs.declared.kinds.TokenKind.TheVariants.{Word}
use Rattle.ll_tokens.specs.Tokens.{Lexeme, lexeme_of, lexemes_of}
use Rattle.ll_tree.specs.declared.module.Attribute.{Attribute}
use Rattle.ll_tree.specs.declared.module.AttributeKind.{AttributeKind}
use Rattle.ll_tree.specs.declared.module.AttributeKind.TheVariants.{ZeroExt, SignExt, NoAlias, NoCapture, ReadOnly, ReadNone, WriteOnly, NoUndef, NonNull, InReg, Returned, NoFree, ImmArg, ByVal, SRet, Align, Dereferenceable, DereferenceableOrNull}
use Rattle.ll_tree.specs.declared.name.NameText.{NameText}
use Rattle.ll_tree.specs.declared.ty.LlType.{LlType}
use Rattle.ll_parser.specs.declared.refusal.ReadError.{ReadError}
use Rattle.ll_parser.specs.declared.refusal.ReadError.TheVariants.{NoMemory, Refused}
use Rattle.ll_parser.specs.declared.refusal.Refusal.{Refusal}
use Rattle.ll_parser.specs.GrammarAttributes.{attribute_word}
use Rattle.ll_parser.specs.GrammarTypes.{number}
use Rattle.ll_parser.specs.NameReading.{ReadsWith}
use Rattle.ll_parser.specs.Productions.{Production, ◌>>◌, mark, each}
use Rattle.ll_parser.specs.Reading.{EndsNowhere, DerivesNone, number_rule}
use Rattle.ll_parser.specs.Spaces.{IsNoBracketed, bracketed_number}
use Rattle.ll_parser.proofs.TableFacts.{extends_same, extends_then}
use Rattle.ll_parser.proofs.TokenFacts.{token_nowhere, token_nowhere_in_nil}
use Rattle.ll_types.specs.TypeParts.{ty_here}
use Rattle.ll_types.specs.TypeRefusals.{TypeRefused}
use Rattle.ll_types.specs.ValueRefusals.{NoneAnd, Unless}
use Rattle.ll_types.proofs.MembersRead.{derived}
use Rattle.ll_types.proofs.Tokens.{Shortens}
use Rattle.ll_types.proofs.TypesRead.{reads_as, unexpected_at}
use Rattle.ll_attributes.specs.AttributeParts.{IsBare, NoAttribute, attribute_here, attributes_here, behind_word_here, brackets_here, in_brackets}
use Rattle.ll_attributes.specs.AttributeRefusals.{AttributeFails, AttributesFail, BracketsFail, KindFails, in_align, in_bytes, in_type, no_close, no_type}
use Rattle.ll_attributes.proofs.AttributeFacts.{attribute_shortens, attributes_none}
use Rattle.ll_attributes.proofs.ListFacts.{each_push}
use Rattle.ll_attributes.proofs.LoopFacts.{SoFar, at_start, fewer_left, one_more, so_far}

-- a type in brackets
pub type_stops : (tokens inside : List Lexeme) (error told : ReadError) → told ≡ error → mark 40 tokens inside → TypeRefused inside error → Unless (BracketsFail tokens) told
type_stops tokens inside NoMemory told same bracket refused = subst (Unless (BracketsFail tokens)) (sym same) tt
type_stops tokens inside (Refused refusal) told same bracket refused =
    subst (Unless (BracketsFail tokens)) (sym same) (no_type inside bracket refused.place)

pub close_stops : (old new : List NameText) (t : LlType) (tokens inside : List Lexeme) (end : List Token) (refusal : Refusal) (told : ReadError) → told ≡ Refused refusal → mark 40 tokens inside → ReadsWith ty_here old new t inside (lexemes_of end) → EndsNowhere (mark 41) (lexemes_of end) → refusal ≡ record { rule = 3; left = length end } → Unless (BracketsFail tokens) told
close_stops old new t tokens inside end refusal told same bracket r nowhere place =
    subst (Unless (BracketsFail tokens)) (sym same)
    (no_close new t inside (lexemes_of end) bracket (derived ty_here old new t _ _ r) (unexpected_at (mark 41) end refusal nowhere place))

enclosed : (names : List NameText) (t : LlType) (tokens inside end rest : List Lexeme) → mark 40 tokens inside → ty_here names t inside end → mark 41 end rest → in_brackets names t tokens rest
unfolding ◌>>◌
enclosed names t tokens inside end rest bracket d close = (inside, bracket, (end, d, close))

pub brackets_read : (old new : List NameText) (t : LlType) (tokens inside end rest : List Lexeme) → mark 40 tokens inside → ReadsWith ty_here old new t inside end → mark 41 end rest → ReadsWith brackets_here old new (Some t) tokens rest
brackets_read old new t tokens inside end rest bracket r close =
    reads_as ty_here brackets_here t (Some t) old new tokens inside end rest (λ names d. enclosed names t tokens inside end rest bracket d close) r

pub no_brackets : (names : List NameText) (tokens : List Lexeme) → EndsNowhere (mark 40) tokens → ReadsWith brackets_here names names None tokens tokens
no_brackets names tokens nowhere = record { extends = extends_same names; reads = λ longer e. (refl, nowhere) }

-- what stands behind a word
pub typed_stops : (text : List ℕ) (tokens : List Lexeme) (error told : ReadError) → told ≡ error → (text ≡ codes "byval") ⊎ (text ≡ codes "sret") → Unless (BracketsFail tokens) error → Unless (KindFails text tokens) told
typed_stops text tokens NoMemory told same is stops = subst (Unless (KindFails text tokens)) (sym same) tt
typed_stops text tokens (Refused refusal) told same is stops = subst (Unless (KindFails text tokens)) (sym same) (in_type is stops)

pub align_stops : (text : List ℕ) (tokens : List Token) (refusal : Refusal) (told : ReadError) → told ≡ Refused refusal → text ≡ codes "align" → DerivesNone number (lexemes_of tokens) → refusal ≡ record { rule = number_rule (lexemes_of tokens); left = length tokens } → Unless (KindFails text (lexemes_of tokens)) told
align_stops text tokens refusal told same is none place =
    subst (Unless (KindFails text (lexemes_of tokens))) (sym same)
    (in_align is (none, subst (λ (n : ℕ). refusal ≡ record { rule = number_rule (lexemes_of tokens); left = n }) (sym (length-map tokens lexeme_of)) place))

pub bytes_stop : (text : List ℕ) (tokens : List Lexeme) (refusal : Refusal) (told : ReadError) → told ≡ Refused refusal → (text ≡ codes "dereferenceable") ⊎ (text ≡ codes "dereferenceable_or_null") → IsNoBracketed tokens refusal → Unless (KindFails text tokens) told
bytes_stop text tokens refusal told same is fails = subst (Unless (KindFails text tokens)) (sym same) (in_bytes is fails)

-- an attribute with a type, with a number, and a word alone
abbrev pub Reads : (old new : List NameText) (text : List ℕ) (kind : AttributeKind) (tokens rest : List Lexeme) → Type 0
Reads old new text kind tokens rest = (attribute_word kind ≡ text) × ReadsWith behind_word_here old new kind tokens rest

pub by_val_read : (old new : List NameText) (text : List ℕ) (t : Option LlType) (tokens rest : List Lexeme) → text ≡ codes "byval" → ReadsWith brackets_here old new t tokens rest → Reads old new text (ByVal t) tokens rest
by_val_read old new text t tokens rest is r = (sym is, record { extends = r.extends; reads = λ longer e. r.reads longer e })

pub s_ret_read : (old new : List NameText) (text : List ℕ) (t : Option LlType) (tokens rest : List Lexeme) → text ≡ codes "sret" → ReadsWith brackets_here old new t tokens rest → Reads old new text (SRet t) tokens rest
s_ret_read old new text t tokens rest is r = (sym is, record { extends = r.extends; reads = λ longer e. r.reads longer e })

pub align_read : (names : List NameText) (text : List ℕ) (n : ℕ) (tokens rest : List Lexeme) → text ≡ codes "align" → number n tokens rest → Reads names names text (Align n) tokens rest
align_read names text n tokens rest is d = (sym is, record { extends = extends_same names; reads = λ longer e. d })

pub bytes_read : (names : List NameText) (text : List ℕ) (n : ℕ) (tokens rest : List Lexeme) → text ≡ codes "dereferenceable" → bracketed_number n tokens rest → Reads names names text (Dereferenceable n) tokens rest
bytes_read names text n tokens rest is d = (sym is, record { extends = extends_same names; reads = λ longer e. d })

pub or_null_read : (names : List NameText) (text : List ℕ) (n : ℕ) (tokens rest : List Lexeme) → text ≡ codes "dereferenceable_or_null" → bracketed_number n tokens rest → Reads names names text (DereferenceableOrNull n) tokens rest
or_null_read names text n tokens rest is d = (sym is, record { extends = extends_same names; reads = λ longer e. d })

bare_behind : (names : List NameText) (kind : AttributeKind) (tokens : List Lexeme) → IsBare kind → behind_word_here names kind tokens tokens
bare_behind names ZeroExt tokens bare = refl
bare_behind names SignExt tokens bare = refl
bare_behind names NoAlias tokens bare = refl
bare_behind names NoCapture tokens bare = refl
bare_behind names ReadOnly tokens bare = refl
bare_behind names ReadNone tokens bare = refl
bare_behind names WriteOnly tokens bare = refl
bare_behind names NoUndef tokens bare = refl
bare_behind names NonNull tokens bare = refl
bare_behind names InReg tokens bare = refl
bare_behind names Returned tokens bare = refl
bare_behind names NoFree tokens bare = refl
bare_behind names ImmArg tokens bare = refl
bare_behind names (ByVal t) tokens bare = absurd bare
bare_behind names (SRet t) tokens bare = absurd bare
bare_behind names (Align n) tokens bare = absurd bare
bare_behind names (Dereferenceable n) tokens bare = absurd bare
bare_behind names (DereferenceableOrNull n) tokens bare = absurd bare

pub bare_read : (names : List NameText) (text : List ℕ) (kind : AttributeKind) (tokens : List Lexeme) → IsBare kind → attribute_word kind ≡ text → Reads names names text kind tokens tokens
bare_read names text kind tokens bare is = (is, record { extends = extends_same names; reads = λ longer e. bare_behind longer kind tokens bare })

-- an attribute
pub attribute_stops : (tokens behind : List Lexeme) (first : Lexeme) (error told : ReadError) → told ≡ error → tokens ≡ first ∷ behind → first.kind ≡ Word → Unless (KindFails first.text behind) error → Unless (AttributeFails tokens) told
attribute_stops tokens behind first NoMemory told same is kind stops = subst (Unless (AttributeFails tokens)) (sym same) tt
attribute_stops tokens behind first (Refused refusal) told same is kind stops =
    subst (Unless (AttributeFails tokens)) (sym same) (record { text = first.text; behind = behind; begins = (first, is, kind, refl); fails = stops })

with_word : (names : List NameText) (kind : AttributeKind) (tokens behind rest : List Lexeme) (first : Lexeme) → tokens ≡ first ∷ behind → first.kind ≡ Word → attribute_word kind ≡ first.text → behind_word_here names kind behind rest → attribute_here names (record { kind = kind; byte = first.byte }) tokens rest
unfolding ◌>>◌
with_word names kind tokens behind rest first is word_kind text d = (behind, (first, is, word_kind, (sym text, refl)), d)

pub attribute_read : (old new : List NameText) (kind : AttributeKind) (tokens behind rest : List Lexeme) (first : Lexeme) → tokens ≡ first ∷ behind → first.kind ≡ Word → (attribute_word kind ≡ first.text) × ReadsWith behind_word_here old new kind behind rest → ReadsWith attribute_here old new (record { kind = kind; byte = first.byte }) tokens rest
attribute_read old new kind tokens behind rest first is word_kind (text, r) =
    reads_as behind_word_here attribute_here kind _ old new tokens behind rest rest (λ names d. with_word names kind tokens behind rest first is word_kind text d) r

pub no_attribute : (tokens behind : List Lexeme) (first : Lexeme) → tokens ≡ first ∷ behind → ((kind : AttributeKind) → attribute_word kind ≡ first.text → ⊥) → NoAttribute tokens
no_attribute tokens behind first is none kind = token_nowhere Word _ tokens first behind is (λ word_kind text. none kind (sym text))

pub no_word : (tokens behind : List Lexeme) (first : Lexeme) → tokens ≡ first ∷ behind → (first.kind ≡ Word → ⊥) → NoAttribute tokens
no_word tokens behind first is other kind = token_nowhere Word _ tokens first behind is (λ word_kind text. other word_kind)

pub no_token : (tokens : List Lexeme) → tokens ≡ [] → NoAttribute tokens
no_token tokens is kind = token_nowhere_in_nil Word _ tokens is

-- attributes one by one
abbrev pub each_attribute : List NameText → List Attribute → Production
each_attribute names xs = each (attribute_here names) xs

abbrev pub AttributesSoFar : (old now : List NameText) (tokens : List Token) (xs : List Attribute) (left : ℕ) → Type 0
AttributesSoFar old now tokens xs left = SoFar (ReadsWith each_attribute old now xs) tokens left

with_shortens : (old new : List NameText) (x : Attribute) → Shortens (ReadsWith attribute_here old new x)
with_shortens old new x tokens rest r = attribute_shortens new x tokens rest (derived attribute_here old new x tokens rest r)

one_attribute_more : (old now next : List NameText) (xs : List Attribute) (x : Attribute) (a b c : List Lexeme) → ReadsWith each_attribute old now xs a b → ReadsWith attribute_here now next x b c → ReadsWith each_attribute old next (xs ++ x ∷ []) a c
one_attribute_more old now next xs x a b c before r = record {
  extends = extends_then old now next before.extends r.extends;
  reads = λ longer e. each_push (attribute_here longer) xs x a b c (before.reads longer (extends_then now next longer r.extends e)) (r.reads longer e);
}

pub none_yet : (names : List NameText) (tokens : List Token) (xs : List Attribute) (left : ℕ) → xs ≡ [] → left ≡ length tokens → AttributesSoFar names names tokens xs left
none_yet names tokens xs left empty whole =
    at_start (ReadsWith each_attribute names names xs) tokens left
    (record { extends = extends_same names; reads = λ longer e. subst (λ ys. each_attribute longer ys (lexemes_of tokens) (lexemes_of tokens)) (sym empty) refl }) whole

pub fewer_attributes : (old now next : List NameText) (tokens here behind : List Token) (xs : List Attribute) (x : Attribute) (left : ℕ) → AttributesSoFar old now tokens xs left → here ≡ drop (length tokens - left) tokens → ReadsWith attribute_here now next x (lexemes_of here) (lexemes_of behind) → length behind < left
fewer_attributes old now next tokens here behind xs x left = fewer_left (ReadsWith each_attribute old now xs) (ReadsWith attribute_here now next x) (with_shortens now next x) tokens here behind left

pub more_attributes : (old now next : List NameText) (tokens here behind : List Token) (xs ys : List Attribute) (x : Attribute) (left after : ℕ) → AttributesSoFar old now tokens xs left → here ≡ drop (length tokens - left) tokens → ReadsWith attribute_here now next x (lexemes_of here) (lexemes_of behind) → ys ≡ xs ++ x ∷ [] → after ≡ length behind → AttributesSoFar old next tokens ys after
more_attributes old now next tokens here behind xs ys x left after s is r grown count =
    subst (λ zs. AttributesSoFar old next tokens zs after) (sym grown)
    (one_more (ReadsWith each_attribute old now xs) (ReadsWith attribute_here now next x) (with_shortens now next x) (ReadsWith each_attribute old next (xs ++ x ∷ [])) tokens here behind left after (one_attribute_more old now next xs x) s is r count)

pub attributes_read : (old now new : List NameText) (tokens here end : List Token) (xs : List Attribute) (left : ℕ) → AttributesSoFar old now tokens xs left → here ≡ drop (length tokens - left) tokens → end ≡ drop (length tokens - left) tokens → (new ≡ now) × NoAttribute (lexemes_of here) → ReadsWith attributes_here old new xs (lexemes_of tokens) (lexemes_of end)
attributes_read old now new tokens here end xs left s is is' (same, none) =
    subst (λ ns. ReadsWith attributes_here old ns xs (lexemes_of tokens) (lexemes_of end)) (sym same) (record {
      extends = r.extends;
      reads = λ longer e. record { items = r.reads longer e; all = subst (λ ls. NoAttribute (lexemes_of ls)) (is ∙ sym is') none };
    })
  where
    r : ReadsWith each_attribute old now xs (lexemes_of tokens) (lexemes_of end)
    r = so_far (ReadsWith each_attribute old now xs) tokens end left s is'

pub attributes_stop : (old now : List NameText) (tokens here : List Token) (xs : List Attribute) (left : ℕ) (error told : ReadError) → told ≡ error → AttributesSoFar old now tokens xs left → here ≡ drop (length tokens - left) tokens → Unless (AttributeFails (lexemes_of here)) error → NoneAnd attributes_here AttributesFail (lexemes_of tokens) told
attributes_stop old now tokens here xs left NoMemory told same s is stops = subst (NoneAnd attributes_here AttributesFail (lexemes_of tokens)) (sym same) tt
attributes_stop old now tokens here xs left (Refused refusal) told same s is stops =
    subst (NoneAnd attributes_here AttributesFail (lexemes_of tokens)) (sym same) (attributes_none (lexemes_of tokens) refusal place, place)
  where
    r : ReadsWith each_attribute old now xs (lexemes_of tokens) (lexemes_of here)
    r = so_far (ReadsWith each_attribute old now xs) tokens here left s is

    place : AttributesFail (lexemes_of tokens) refusal
    place = record {
      middle = lexemes_of here;
      before = (now, (xs, derived each_attribute old now xs _ _ r));
      fails = stops;
    }
