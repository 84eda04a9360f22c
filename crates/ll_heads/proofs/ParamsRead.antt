-- Parameters as they are read: what each exit of a reader answers.
use Rattle.std.proofs.Common.{◌≡◌, ℕ, ◌+◌, ◌-◌, ◌<◌, ◌⊎◌, List, [], ◌∷◌, ◌++◌, Option, None, Some, slice_get, length, drop, refl, sym, ap, ◌∙◌, subst, inl, inr, arith}
use Rattle.ll_tokens.specs.declared.kinds.Token.{Token}
use Rattle.ll_tokens.specs.Tokens.{Lexeme, lexemes_of}
use Rattle.ll_tree.specs.declared.module.Attribute.{Attribute}
use Rattle.ll_tree.specs.declared.module.Param.{Param}
use Rattle.ll_tree.specs.declared.name.Name.{Name}
use Rattle.ll_tree.specs.declared.name.NameKind.TheVariants.{Local as LocalName}
use Rattle.ll_tree.specs.declared.name.NameText.{NameText}
use Rattle.ll_tree.specs.declared.name.Spelling.TheVariants.{Number}
use Rattle.ll_tree.specs.declared.ty.LlType.{LlType}
use Rattle.ll_parser.specs.declared.refusal.ReadError.{ReadError}
use Rattle.ll_parser.specs.declared.refusal.ReadError.TheVariants.{NoMemory, Refused}
use Rattle.ll_parser.specs.declared.refusal.Refusal.{Refusal}
use Rattle.ll_parser.specs.GrammarFunctions.{next_behind}
use Rattle.ll_parser.specs.GrammarValues.{local}
use Rattle.ll_parser.specs.NameReading.{ReadsWith}
use Rattle.ll_parser.specs.Productions.{◌>>◌, mark}
use Rattle.ll_parser.specs.Reading.{EndsNowhere}
use Rattle.ll_parser.specs.Tables.{Extends}
use Rattle.ll_parser.proofs.TableFacts.{entry_stays, extends_at_number, extends_then}
use Rattle.ll_types.specs.TypeParts.{ty_here}
use Rattle.ll_types.specs.ValueRefusals.{NoneAnd, Unless}
use Rattle.ll_types.proofs.MembersRead.{derived, fewer, left_of}
use Rattle.ll_types.proofs.Tokens.{Shorter, Shortens}
use Rattle.ll_operands.specs.Parts.{Refuses, mark_part, ◌then◌}
use Rattle.ll_operands.proofs.Readings.{mark_then_read}
use Rattle.ll_attributes.specs.AttributeParts.{attributes_here}
use Rattle.ll_attributes.specs.AttributeRefusals.{AttributesFail}
use Rattle.ll_attributes.proofs.LoopFacts.{SoFar, fewer_left, one_more, so_far}
use Rattle.ll_heads.specs.HeadParts.{attributes_part, params_part, some_part}
use Rattle.ll_heads.specs.Params.{IsLeftOut, NamesLeftOut, NextFails, all_params, first_place, name_here, next_param, numbered_name, numbered_param, numbering_behind, params_behind, params_here, some_params}
use Rattle.ll_heads.proofs.HeadExact.{all_is_part, next_shortens, param_is_part, param_shortens, params_is_part, times_next}

-- names
pub left_out_read : (start : Option ℕ) (next after byte number : ℕ) (old new : List NameText) → start ≡ Some next → after ≡ next + 1 → slice_get new number ≡ Some (record { kind = LocalName; spelling = Number next }) → (new ≡ old) ⊎ (new ≡ old ++ record { kind = LocalName; spelling = Number next } ∷ []) → NamesLeftOut start (Some after) byte old new (Some (record { number = number; byte = byte }))
left_out_read start next after byte number old new is grown entry kept = record {
  extends = extends_at_number old new _ kept;
  named = λ longer e. subst (λ (s : Option ℕ). IsLeftOut longer s byte (Some name)) (sym is) (entry_stays new longer number _ e entry, refl);
  numbered = λ longer e.
      subst (λ (s : Option ℕ). Some after ≡ numbering_behind longer (Some name) s) (sym is)
      (ap (λ (n : ℕ). Some n) (grown ∙ sym (ap (λ x. next_behind longer x next) (entry_stays new longer number _ e entry))));
}
  where
    name : Name
    name = record { number = number; byte = byte }

numbering_stays : (new longer : List NameText) (name : Name) (start : Option ℕ) (tokens rest : List Lexeme) → local new name tokens rest → Extends new longer → numbering_behind new (Some name) start ≡ numbering_behind longer (Some name) start
numbering_stays new longer name None tokens rest d e = refl
numbering_stays new longer name (Some next) tokens rest (l, is, kind, (_, (reach, entry))) e =
    ap (λ x. Some (next_behind new x next)) entry ∙ sym (ap (λ x. Some (next_behind longer x next)) (entry_stays new longer name.number _ e entry))

pub name_read : (start end : Option ℕ) (byte : ℕ) (old new : List NameText) (name : Name) (tokens rest : List Lexeme) → ReadsWith local old new name tokens rest → end ≡ numbering_behind new (Some name) start → ReadsWith (numbered_name start end byte) old new (Some name) tokens rest
name_read start end byte old new name tokens rest r is = record {
  extends = r.extends;
  reads = λ longer e. (inl (r.reads longer e), is ∙ numbering_stays new longer name start tokens rest (derived local old new name tokens rest r) e);
}

-- a parameter
pub attributes_refused : (tokens : List Lexeme) (told : ReadError) → NoneAnd attributes_here AttributesFail tokens told → Refuses attributes_part tokens told
attributes_refused tokens NoMemory x = x
attributes_refused tokens (Refused refusal) x = x.1

pub param_read : (start end : Option ℕ) (byte : ℕ) (old between later new : List NameText) (t : LlType) (xs : List Attribute) (name : Option Name) (tokens inside behind rest : List Lexeme) → byte ≡ first_place tokens → ReadsWith ty_here old between t tokens inside → ReadsWith attributes_here between later xs inside behind → ReadsWith (numbered_name start end byte) later new name behind rest → ReadsWith (numbered_param start end) old new (record { ty = t; attributes = xs; name = name }) tokens rest
unfolding ◌>>◌
param_read start end byte old between later new t xs name tokens inside behind rest is x y z = record {
  extends = extends_then old between new x.extends (extends_then between later new y.extends z.extends);
  reads = λ longer e.
      let named = z.reads longer e in
      let behind_type = extends_then later new longer z.extends e in (
        (inside, x.reads longer (extends_then between later longer y.extends behind_type), (behind, y.reads longer behind_type, subst (λ (b : ℕ). name_here start b longer name behind rest) is named.0)),
        named.1,
      );
}

pub next_read : (start end : Option ℕ) (old new : List NameText) (p : Param) (tokens behind rest : List Lexeme) → mark 44 tokens behind → ReadsWith (numbered_param start end) old new p behind rest → ReadsWith (next_param start end) old new p tokens rest
unfolding ◌>>◌
next_read start end old new p tokens behind rest comma r =
    mark_then_read 44 (numbered_param start end) (next_param start end) p p old new tokens behind rest (λ names m d. (behind, m, d)) comma r

-- parameters one by one
behind_push : (start now end : Option ℕ) (names : List NameText) (ps : List Param) (p : Param) (tokens middle rest : List Lexeme) → params_behind start now names ps tokens middle → next_param now end names p middle rest → params_behind start end names (ps ++ p ∷ []) tokens rest
unfolding ◌>>◌
behind_push start now end names [] p tokens middle rest (stays, same) one =
    let here = subst (λ (s : Option ℕ). next_param s end names p middle rest) stays one in
    (here.0, subst (λ ls. mark 44 ls here.0) (sym same) here.1, (rest, here.2.0, (here.2.1, refl)))
behind_push start now end names (q ∷ qs) p tokens middle rest (m, comma, (n, param, more)) one =
    (m, comma, (n, param, behind_push (numbering_behind names q.name start) now end names qs p n middle rest more one))

some_push : (start now end : Option ℕ) (names : List NameText) (ps : List Param) (p : Param) (tokens middle rest : List Lexeme) → some_params start now names ps tokens middle → next_param now end names p middle rest → some_params start end names (ps ++ p ∷ []) tokens rest
unfolding ◌>>◌
some_push start now end names [] p tokens middle rest none one = absurd none
some_push start now end names (q ∷ qs) p tokens middle rest (m, param, more) one =
    (m, param, behind_push (numbering_behind names q.name start) now end names qs p m middle rest more one)

abbrev pub ParamsSoFar : (start now : Option ℕ) (old new : List NameText) (tokens : List Token) (ps : List Param) (left : ℕ) → Type 0
ParamsSoFar start now old new tokens ps left = SoFar (ReadsWith (some_params start now) old new ps) tokens left

one_param : (start now : Option ℕ) (names : List NameText) (p : Param) (tokens rest : List Lexeme) → numbered_param start now names p tokens rest → some_params start now names (p ∷ []) tokens rest
unfolding ◌>>◌
one_param start now names p tokens rest (d, is) = (rest, d, (is, refl))

pub first_param : (start now : Option ℕ) (old new : List NameText) (tokens behind : List Token) (none ps : List Param) (p : Param) (left : ℕ) → ReadsWith (numbered_param start now) old new p (lexemes_of tokens) (lexemes_of behind) → none ≡ [] → ps ≡ none ++ p ∷ [] → left ≡ length behind → ParamsSoFar start now old new tokens ps left
first_param start now old new tokens behind none ps p left r empty grown count =
    let short : Shorter (lexemes_of tokens) (lexemes_of behind) = param_shortens start new p _ _ (derived (numbered_param start now) old new p _ _ r).0 in
    let less : length behind < length tokens = fewer tokens behind short.less in
    let same : lexemes_of behind ≡ lexemes_of (drop (length tokens - left) tokens) = left_of tokens behind left short.ends count in
    let all : ps ≡ p ∷ [] = grown ∙ ap (λ (xs : List Param). xs ++ p ∷ []) empty in
    let read : ReadsWith (some_params start now) old new (p ∷ []) (lexemes_of tokens) (lexemes_of behind) = record { extends = r.extends; reads = λ longer e. one_param start now longer p _ _ (r.reads longer e) } in
    record {
      in_range = omega arith;
      read = subst (λ (xs : List Param). ReadsWith (some_params start now) old new xs (lexemes_of tokens) (lexemes_of (drop (length tokens - left) tokens))) (sym all) (subst (ReadsWith (some_params start now) old new (p ∷ []) (lexemes_of tokens)) same read);
    }

with_shortens : (now end : Option ℕ) (new next : List NameText) (p : Param) → Shortens (ReadsWith (next_param now end) new next p)
with_shortens now end new next p tokens rest r = next_shortens now end next p tokens rest (derived (next_param now end) new next p tokens rest r)

one_param_more : (start now end : Option ℕ) (old new next : List NameText) (ps : List Param) (p : Param) (a b c : List Lexeme) → ReadsWith (some_params start now) old new ps a b → ReadsWith (next_param now end) new next p b c → ReadsWith (some_params start end) old next (ps ++ p ∷ []) a c
one_param_more start now end old new next ps p a b c before r = record {
  extends = extends_then old new next before.extends r.extends;
  reads = λ longer e. some_push start now end longer ps p a b c (before.reads longer (extends_then new next longer r.extends e)) (r.reads longer e);
}

pub fewer_params : (start now end : Option ℕ) (old new next : List NameText) (tokens here behind : List Token) (ps : List Param) (p : Param) (left : ℕ) → ParamsSoFar start now old new tokens ps left → here ≡ drop (length tokens - left) tokens → ReadsWith (next_param now end) new next p (lexemes_of here) (lexemes_of behind) → length behind < left
fewer_params start now end old new next tokens here behind ps p left =
    fewer_left (ReadsWith (some_params start now) old new ps) (ReadsWith (next_param now end) new next p) (with_shortens now end new next p) tokens here behind left

pub more_params : (start now end : Option ℕ) (old new next : List NameText) (tokens here behind : List Token) (ps qs : List Param) (p : Param) (left after : ℕ) → ParamsSoFar start now old new tokens ps left → here ≡ drop (length tokens - left) tokens → ReadsWith (next_param now end) new next p (lexemes_of here) (lexemes_of behind) → qs ≡ ps ++ p ∷ [] → after ≡ length behind → ParamsSoFar start end old next tokens qs after
more_params start now end old new next tokens here behind ps qs p left after s is r grown count =
    subst (λ (xs : List Param). ParamsSoFar start end old next tokens xs after) (sym grown)
    (one_more (ReadsWith (some_params start now) old new ps) (ReadsWith (next_param now end) new next p) (with_shortens now end new next p) (ReadsWith (some_params start end) old next (ps ++ p ∷ [])) tokens here behind left after (one_param_more start now end old new next ps p) s is r count)

some_stops : (start now : Option ℕ) (names : List NameText) (ps : List Param) (tokens middle : List Lexeme) (refusal : Refusal) → some_params start now names ps tokens middle → NextFails middle refusal → some_part.stops tokens refusal
unfolding ◌>>◌
some_stops start now names [] tokens middle refusal none fails = absurd none
some_stops start now names (p ∷ ps) tokens middle refusal (m, param, more) fails =
    let others = times_next (numbering_behind names p.name start) now names ps m middle more in
    inr (m, param_is_part start names p tokens m param, (others.0, middle, others.1, fails.0, fails.1))

pub params_stop : (start now : Option ℕ) (old new : List NameText) (tokens here : List Token) (ps : List Param) (left : ℕ) (error told : ReadError) → told ≡ error → ParamsSoFar start now old new tokens ps left → here ≡ drop (length tokens - left) tokens → Unless (NextFails (lexemes_of here)) error → Refuses some_part (lexemes_of tokens) told
params_stop start now old new tokens here ps left NoMemory told same s is stops = subst (Refuses some_part (lexemes_of tokens)) (sym same) tt
params_stop start now old new tokens here ps left (Refused refusal) told same s is stops =
    let r : ReadsWith (some_params start now) old new ps (lexemes_of tokens) (lexemes_of here) = so_far (ReadsWith (some_params start now) old new ps) tokens here left s is in
    subst (Refuses some_part (lexemes_of tokens)) (sym same) (some_stops start now new ps _ _ refusal (derived (some_params start now) old new ps _ _ r) stops)

pub params_end : (start now end : Option ℕ) (old new last : List NameText) (tokens here rest : List Token) (ps : List Param) (left : ℕ) → ParamsSoFar start now old new tokens ps left → here ≡ drop (length tokens - left) tokens → rest ≡ drop (length tokens - left) tokens → (last ≡ new) × (end ≡ now) × EndsNowhere (mark 44) (lexemes_of here) → ReadsWith (all_params start end) old last ps (lexemes_of tokens) (lexemes_of rest)
params_end start now end old new last tokens here rest ps left s is is' (same, stays, none) =
    subst (λ (names : List NameText). ReadsWith (all_params start end) old names ps (lexemes_of tokens) (lexemes_of rest)) (sym same)
    (subst (λ (e : Option ℕ). ReadsWith (all_params start e) old new ps (lexemes_of tokens) (lexemes_of rest)) (sym stays)
    (record {
      extends = r.extends;
      reads = λ longer e. (r.reads longer e, subst (λ ts. EndsNowhere (mark 44) (lexemes_of ts)) (is ∙ sym is') none);
    }))
  where
    r : ReadsWith (some_params start now) old new ps (lexemes_of tokens) (lexemes_of rest)
    r = so_far (ReadsWith (some_params start now) old new ps) tokens rest left s is'

-- parameters up to their bracket
pub others_refused : (tokens : List Lexeme) (told : ReadError) → EndsNowhere (mark 41) tokens → Refuses (some_part then mark_part 41) tokens told → Refuses params_part tokens told
others_refused tokens NoMemory nowhere x = x
others_refused tokens (Refused refusal) nowhere x = inr (nowhere, x)

bracketed : (start end : Option ℕ) (names : List NameText) (ps : List Param) (tokens close rest : List Lexeme) → EndsNowhere (mark 41) tokens → all_params start end names ps tokens close → mark 41 close rest → params_here start end names ps tokens rest
unfolding ◌>>◌
bracketed start end names [] tokens close rest nowhere (none, _) m = absurd none
bracketed start end names (p ∷ ps) tokens close rest nowhere all m = (nowhere, (close, all, m))

pub params_read : (start end : Option ℕ) (old new : List NameText) (ps : List Param) (tokens close rest : List Lexeme) → EndsNowhere (mark 41) tokens → ReadsWith (all_params start end) old new ps tokens close → mark 41 close rest → ReadsWith (params_here start end) old new ps tokens rest
params_read start end old new ps tokens close rest nowhere r m = record { extends = r.extends; reads = λ longer e. bracketed start end longer ps tokens close rest nowhere (r.reads longer e) m }

pub all_begins : (start end : Option ℕ) (old new : List NameText) (ps : List Param) (tokens rest : List Lexeme) → ReadsWith (all_params start end) old new ps tokens rest → some_part.begins tokens rest
all_begins start end old new ps tokens rest r = all_is_part start end new ps tokens rest (derived (all_params start end) old new ps tokens rest r)

pub params_begin : (start end : Option ℕ) (old new : List NameText) (ps : List Param) (tokens rest : List Lexeme) → ReadsWith (params_here start end) old new ps tokens rest → params_part.begins tokens rest
params_begin start end old new ps tokens rest r = params_is_part start end new ps tokens rest (derived (params_here start end) old new ps tokens rest r)
