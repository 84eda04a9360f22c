-- Instructions as they are read: what each exit of a reader answers.
use Rattle.std.proofs.Common.{◌≡◌, ℕ, ◌<◌, ◌-◌, Bool, true, false, IsTrue, List, [], ◌∷◌, ◌++◌, length, drop, Option, Some, slice_get, refl, sym, ap, ◌∙◌, subst, inl, inr, arith}
use Rattle.ll_tokens.specs.declared.kinds.Token.{Token}
use Rattle.ll_tokens.specs.declared.kinds.TokenKind.TheVariants.{Local as LocalToken}
use Rattle.ll_tokens.specs.Tokens.{Lexeme, lexemes_of}
use Rattle.ll_tree.specs.declared.inst.Inst.{Inst}
use Rattle.ll_tree.specs.declared.name.Name.{Name}
use Rattle.ll_tree.specs.declared.name.NameText.{NameText}
use Rattle.ll_tree.specs.declared.op.Op.{Op}
use Rattle.ll_parser.specs.declared.refusal.ReadError.{ReadError}
use Rattle.ll_parser.specs.declared.refusal.ReadError.TheVariants.{NoMemory, Refused}
use Rattle.ll_parser.specs.declared.refusal.Refusal.{Refusal}
use Rattle.ll_parser.specs.GrammarFunctions.{given, may_have_name, naming, next_after, next_behind}
use Rattle.ll_parser.specs.NameReading.{ReadsWith, any_of}
use Rattle.ll_parser.specs.Productions.{◌>>◌}
use Rattle.ll_parser.specs.Reading.{EndsNowhere}
use Rattle.ll_parser.proofs.TableFacts.{entry_stays, extends_then}
use Rattle.ll_types.proofs.MembersRead.{derived}
use Rattle.ll_types.proofs.Tokens.{Shortens}
use Rattle.ll_attributes.specs.Attachments.{SkippedFail, skipped_attachments}
use Rattle.ll_attributes.proofs.LoopFacts.{SoFar, at_start, fewer_left, one_more, so_far}
use Rattle.ll_operands.specs.Parts.{Begins, Refuses, optional, ◌then◌}
use Rattle.ll_operands.proofs.Readings.{first_refused, second_refused}
use Rattle.ll_heads.specs.Params.{first_place}
use Rattle.ll_bodies.specs.BodyJoins.{unless_begins}
use Rattle.ll_bodies.specs.BodyWords.{terminator_word, unnamed_word}
use Rattle.ll_bodies.specs.Namings.{NamesUnnamed, given_name, given_part}
use Rattle.ll_bodies.proofs.OperationWords.{never_named}
use Rattle.ll_bodies.proofs.ThreadedRead.{ThreadedReads, none_read, one_read, reads_times}
use Rattle.ll_insts.specs.InstParts.{attachments_part, inst_part, insts_part, named_operation_part, named_part, unnamed_part}
use Rattle.ll_insts.specs.Insts.{inst_here, insts_here, named_operation, plain_inst}
use Rattle.ll_insts.specs.Operations.{operation_part, whole_operation}
use Rattle.ll_insts.proofs.ExactInsts.{inst_part_shortens}
use Rattle.ll_insts.proofs.OperationFacts.{operation_is_part, operation_right}
use Rattle.ll_insts.proofs.PartsDerived.{whole_is_part}

is_true : (b : Bool) → b ≡ true → IsTrue b
is_true b e = grind arith

-- what is given a name may be given one
named_may : (names : List NameText) (o : Op) (tokens rest : List Lexeme) → named_operation names o tokens rest → (b : Bool) → may_have_name o ≡ b → IsTrue b
named_may names o tokens rest (nowhere, d) true e = is_true true refl
named_may names o tokens rest (nowhere, d) false e = let w = never_named names o tokens rest (operation_right names o tokens rest d) e in absurd (nowhere w.0 w.1)

given_entry : (names : List NameText) (name : Name) (tokens rest : List Lexeme) → given_name names name tokens rest → (entry : NameText) × (slice_get names name.number ≡ Some entry)
unfolding ◌>>◌
given_entry names name tokens rest (m, (l, is, kind, (_, (reach, entry))), sign) = (_, entry)

given_begins : (names : List NameText) (name : Name) (tokens rest : List Lexeme) → given_name names name tokens rest → Begins (any_of LocalToken) tokens
unfolding ◌>>◌
given_begins names name tokens rest (m, (l, is, kind, _), sign) = (m, (l, is, kind, tt))

given_is_part : (names : List NameText) (name : Name) (tokens rest : List Lexeme) → given_name names name tokens rest → given_part.begins tokens rest
unfolding ◌>>◌
given_is_part names name tokens rest (m, l, sign) = (m, (names, name, l), sign)

-- an instruction with a name
named_made : (next end byte : ℕ) (names : List NameText) (name : Name) (o : Op) (tokens behind inside rest : List Lexeme) → byte ≡ first_place tokens → end ≡ next_behind names (slice_get names name.number) next → given_name names name tokens behind → named_operation names o behind inside → skipped_attachments inside rest → inst_here next end names (record { byte = byte; defines = Some name; op = o }) tokens rest
unfolding ◌>>◌ inst_here
named_made next end byte names name o tokens behind inside rest place is given does attached =
    (place, is, (behind, inl (named_may names o behind inside does (may_have_name o) refl, given), (inside, does.1, attached)))

pub named_read : (next end byte : ℕ) (old between new : List NameText) (name : Name) (o : Op) (made : Inst) (tokens behind inside rest : List Lexeme) → made ≡ record { byte = byte; defines = Some name; op = o } → byte ≡ first_place tokens → ReadsWith given_name old between name tokens behind → ReadsWith named_operation between new o behind inside → skipped_attachments inside rest → end ≡ next_behind new (slice_get new name.number) next → ReadsWith (inst_here next end) old new made tokens rest
named_read next end byte old between new name o made tokens behind inside rest is place given does attached number =
    let entry : (entry : NameText) × (slice_get new name.number ≡ Some entry) = given_entry new name tokens behind (given.reads new does.extends) in
    record {
      extends = extends_then old between new given.extends does.extends;
      reads = λ longer e.
          subst (λ x. inst_here next end longer x tokens rest) (sym is)
          (named_made next end byte longer name o tokens behind inside rest place
          (number ∙ ap (λ x. next_behind new x next) entry.1 ∙ sym (ap (λ x. next_behind longer x next) (entry_stays new longer name.number _ e entry.1)))
          (given.reads longer (extends_then between new longer does.extends e)) (does.reads longer e) attached);
    }

-- an instruction without one
unnamed_made : (next end byte : ℕ) (names : List NameText) (name : Option Name) (o : Op) (tokens inside rest : List Lexeme) → byte ≡ first_place tokens → naming names next byte o name tokens tokens → end ≡ next_after names (given names name) next → whole_operation names o tokens inside → skipped_attachments inside rest → inst_here next end names (record { byte = byte; defines = name; op = o }) tokens rest
unfolding ◌>>◌ inst_here
unnamed_made next end byte names name o tokens inside rest place named is does attached = (place, is, (tokens, named, (inside, does, attached)))

unnamed_reads : (next end byte : ℕ) (old between new : List NameText) (name : Option Name) (o : Op) (tokens inside rest : List Lexeme) → byte ≡ first_place tokens → ReadsWith whole_operation old between o tokens inside → skipped_attachments inside rest → NamesUnnamed next end byte o between new name → ReadsWith (inst_here next end) old new (record { byte = byte; defines = name; op = o }) tokens rest
unnamed_reads next end byte old between new name o tokens inside rest place does attached named = record {
  extends = extends_then old between new does.extends named.extends;
  reads = λ longer e.
      unnamed_made next end byte longer name o tokens inside rest place (named.named longer tokens e) (named.numbered longer e) (does.reads longer (extends_then between new longer named.extends e)) attached;
}

pub unnamed_read : (next end byte : ℕ) (old kept between new : List NameText) (name : Option Name) (o : Op) (tokens inside rest : List Lexeme) → kept ≡ old → byte ≡ first_place tokens → ReadsWith whole_operation kept between o tokens inside → skipped_attachments inside rest → NamesUnnamed next end byte o between new name → ReadsWith (inst_here next end) old new (record { byte = byte; defines = name; op = o }) tokens rest
unnamed_read next end byte old kept between new name o tokens inside rest same place does attached named =
    unnamed_reads next end byte old between new name o tokens inside rest place (subst (λ ns. ReadsWith whole_operation ns between o tokens inside) same does) attached named

pub named_operation_read : (old new : List NameText) (o : Op) (tokens rest : List Lexeme) → EndsNowhere unnamed_word tokens → ReadsWith whole_operation old new o tokens rest → ReadsWith named_operation old new o tokens rest
named_operation_read old new o tokens rest nowhere r = record { extends = r.extends; reads = λ longer e. (nowhere, r.reads longer e) }

-- refusals
unfolded_named : (tokens : List Lexeme) (told : ReadError) → Begins (any_of LocalToken) tokens → Refuses named_part tokens told → Refuses inst_part tokens told
unfolding inst_part
unfolded_named tokens NoMemory there x = x
unfolded_named tokens (Refused refusal) there x = inl (there, x)

unfolded_unnamed : (tokens : List Lexeme) (told : ReadError) → EndsNowhere (any_of LocalToken) tokens → Refuses unnamed_part tokens told → Refuses inst_part tokens told
unfolding inst_part
unfolded_unnamed tokens NoMemory nowhere x = x
unfolded_unnamed tokens (Refused refusal) nowhere x = inr (nowhere, x)

given_told : (tokens : List Lexeme) (told : ReadError) → Refuses (optional (any_of LocalToken) given_part) tokens told → Refuses inst_part tokens told
unfolding inst_part
given_told tokens NoMemory x = x
given_told tokens (Refused refusal) x = inl (x.0, inl x.1)

pub given_refused : (tokens : List Lexeme) (error told : ReadError) → told ≡ error → Refuses (optional (any_of LocalToken) given_part) tokens error → Refuses inst_part tokens told
given_refused tokens error told same x = subst (Refuses inst_part tokens) (sym same) (given_told tokens error x)

module _ (old new : List NameText) (name : Name) (tokens behind : List Lexeme) (r : ReadsWith given_name old new name tokens behind) where
  pub behind_name_refused : (error told : ReadError) → told ≡ error → Refuses (named_operation_part then attachments_part) behind error → Refuses inst_part tokens told
  behind_name_refused error told same x =
      subst (Refuses inst_part tokens) (sym same)
      (unfolded_named tokens error (given_begins new name tokens behind (derived given_name old new name tokens behind r))
      (second_refused given_part (named_operation_part then attachments_part) tokens behind error (given_is_part new name tokens behind (derived given_name old new name tokens behind r)) x))

  pub named_refused : (error told : ReadError) → told ≡ error → Refuses named_operation_part behind error → Refuses inst_part tokens told
  named_refused error told same x = behind_name_refused error told same (first_refused named_operation_part attachments_part behind error x)

named_is_part : (names : List NameText) (o : Op) (tokens rest : List Lexeme) → named_operation names o tokens rest → named_operation_part.begins tokens rest
named_is_part names o tokens rest (nowhere, d) = inr (nowhere, operation_is_part names o tokens rest d)

pub named_attachments_refused : (old between new : List NameText) (name : Name) (o : Op) (tokens behind inside : List Lexeme) (refusal : Refusal) (told : ReadError) → told ≡ Refused refusal → ReadsWith given_name old between name tokens behind → ReadsWith named_operation between new o behind inside → SkippedFail inside refusal → Refuses inst_part tokens told
named_attachments_refused old between new name o tokens behind inside refusal told same given does fails =
    behind_name_refused old between name tokens behind given (Refused refusal) told same
    (second_refused named_operation_part attachments_part behind inside (Refused refusal) (named_is_part new o behind inside (derived named_operation between new o behind inside does)) fails)

pub unnamed_refused : (tokens : List Lexeme) (error told : ReadError) → told ≡ error → EndsNowhere (any_of LocalToken) tokens → Refuses operation_part tokens error → Refuses inst_part tokens told
unnamed_refused tokens error told same nowhere x =
    subst (Refuses inst_part tokens) (sym same) (unfolded_unnamed tokens error nowhere (first_refused operation_part attachments_part tokens error x))

pub unnamed_attachments_refused : (old new : List NameText) (o : Op) (tokens inside : List Lexeme) (refusal : Refusal) (told : ReadError) → told ≡ Refused refusal → EndsNowhere (any_of LocalToken) tokens → ReadsWith whole_operation old new o tokens inside → SkippedFail inside refusal → Refuses inst_part tokens told
unnamed_attachments_refused old new o tokens inside refusal told same nowhere does fails =
    subst (Refuses inst_part tokens) (sym same)
    (unfolded_unnamed tokens (Refused refusal) nowhere
    (second_refused operation_part attachments_part tokens inside (Refused refusal) (operation_is_part new o tokens inside (derived whole_operation old new o tokens inside does)) fails))

pub never_named_refused : (tokens : List Lexeme) (refusal : Refusal) → Begins unnamed_word tokens → refusal ≡ record { rule = 3; left = length tokens } → named_operation_part.stops tokens refusal
never_named_refused tokens refusal there place = inl (there, place)

pub named_told : (tokens : List Lexeme) (error told : ReadError) → told ≡ error → EndsNowhere unnamed_word tokens → Refuses operation_part tokens error → Refuses named_operation_part tokens told
named_told tokens NoMemory told same nowhere x = subst (Refuses named_operation_part tokens) (sym same) x
named_told tokens (Refused refusal) told same nowhere x = subst (Refuses named_operation_part tokens) (sym same) (inr (nowhere, x))

-- an instruction is of the part, and shorter
pub here_is_part : (next end : ℕ) (names : List NameText) (i : Inst) (tokens rest : List Lexeme) → inst_here next end names i tokens rest → inst_part.begins tokens rest
unfolding ◌>>◌ inst_here
here_is_part next end names i tokens rest (place, is, (middle, named, (inside, does, attached))) =
    whole_is_part names next i.byte i.op i.defines tokens middle inside rest named does attached

pub plain_is_part : (next end : ℕ) (names : List NameText) (i : Inst) (tokens rest : List Lexeme) → plain_inst next end names i tokens rest → unless_begins terminator_word inst_part.begins tokens rest
plain_is_part next end names i tokens rest (nowhere, d) = (nowhere, here_is_part next end names i tokens rest d)

-- the loop
abbrev pub Plain : ℕ → ℕ → List NameText → List NameText → List Inst → List Lexeme → List Lexeme → Type 0
Plain = ThreadedReads plain_inst

one_plain : (now next : ℕ) (mid new : List NameText) (i : Inst) → Shortens (ReadsWith (plain_inst now next) mid new i)
one_plain now next mid new i tokens rest r = inst_part_shortens tokens rest (here_is_part now next new i tokens rest (derived (plain_inst now next) mid new i tokens rest r).1)

plain_read : (now next : ℕ) (mid new : List NameText) (i : Inst) (tokens rest : List Lexeme) → EndsNowhere terminator_word tokens → ReadsWith (inst_here now next) mid new i tokens rest → ReadsWith (plain_inst now next) mid new i tokens rest
plain_read now next mid new i tokens rest nowhere r = record { extends = r.extends; reads = λ longer e. (nowhere, r.reads longer e) }

pub none_yet : (start : ℕ) (names : List NameText) (insts : List Inst) (tokens : List Token) (left : ℕ) → insts ≡ [] → left ≡ length tokens → SoFar (Plain start start names names insts) tokens left
none_yet start names insts tokens left none whole = at_start (Plain start start names names insts) tokens left (none_read plain_inst start names insts (lexemes_of tokens) none) whole

pub fewer_insts : (start now next : ℕ) (old mid new : List NameText) (insts : List Inst) (i : Inst) (tokens here again behind : List Token) (left : ℕ) → SoFar (Plain start now old mid insts) tokens left → here ≡ drop (length tokens - left) tokens → again ≡ drop (length tokens - left) tokens → EndsNowhere terminator_word (lexemes_of here) → ReadsWith (inst_here now next) mid new i (lexemes_of again) (lexemes_of behind) → length behind < left
fewer_insts start now next old mid new insts i tokens here again behind left s is is' nowhere r =
    fewer_left (Plain start now old mid insts) (ReadsWith (plain_inst now next) mid new i) (one_plain now next mid new i) tokens again behind left s is'
    (plain_read now next mid new i _ _ (subst (λ ts. EndsNowhere terminator_word (lexemes_of ts)) (is ∙ sym is') nowhere) r)

pub more_insts : (start now next : ℕ) (old mid new : List NameText) (insts all : List Inst) (i : Inst) (tokens here again behind : List Token) (left count : ℕ) → SoFar (Plain start now old mid insts) tokens left → here ≡ drop (length tokens - left) tokens → again ≡ drop (length tokens - left) tokens → EndsNowhere terminator_word (lexemes_of here) → ReadsWith (inst_here now next) mid new i (lexemes_of again) (lexemes_of behind) → all ≡ insts ++ i ∷ [] → count ≡ length behind → SoFar (Plain start next old new all) tokens count
more_insts start now next old mid new insts all i tokens here again behind left count s is is' nowhere r grown counted =
    one_more (Plain start now old mid insts) (ReadsWith (plain_inst now next) mid new i) (one_plain now next mid new i) (Plain start next old new all) tokens again behind left count
    (λ a b c d e. one_read plain_inst start now next old mid new insts all i a b c grown d e) s is'
    (plain_read now next mid new i _ _ (subst (λ ts. EndsNowhere terminator_word (lexemes_of ts)) (is ∙ sym is') nowhere) r) counted

insts_told : (start now : ℕ) (old mid : List NameText) (insts : List Inst) (tokens middle : List Lexeme) (told : ReadError) → Plain start now old mid insts tokens middle → EndsNowhere terminator_word middle → Refuses inst_part middle told → Refuses insts_part tokens told
insts_told start now old mid insts tokens middle NoMemory r nowhere x = x
insts_told start now old mid insts tokens middle (Refused refusal) r nowhere x =
    let t = reads_times plain_inst (unless_begins terminator_word inst_part.begins) plain_is_part start now old mid insts tokens middle r in
    (t.0, middle, t.1, inl (nowhere, x))

pub insts_refused : (start now : ℕ) (old mid : List NameText) (insts : List Inst) (tokens here again : List Token) (left : ℕ) (error told : ReadError) → told ≡ error → SoFar (Plain start now old mid insts) tokens left → here ≡ drop (length tokens - left) tokens → again ≡ drop (length tokens - left) tokens → EndsNowhere terminator_word (lexemes_of here) → Refuses inst_part (lexemes_of again) error → Refuses insts_part (lexemes_of tokens) told
insts_refused start now old mid insts tokens here again left error told same s is is' nowhere x =
    subst (Refuses insts_part (lexemes_of tokens)) (sym same)
    (insts_told start now old mid insts (lexemes_of tokens) (lexemes_of again) error (so_far (Plain start now old mid insts) tokens again left s is')
    (subst (λ ts. EndsNowhere terminator_word (lexemes_of ts)) (is ∙ sym is') nowhere) x)

last_told : (start now : ℕ) (old mid : List NameText) (insts : List Inst) (tokens middle : List Lexeme) (told : ReadError) → Plain start now old mid insts tokens middle → Begins terminator_word middle → Refuses inst_part middle told → Refuses insts_part tokens told
last_told start now old mid insts tokens middle NoMemory r there x = x
last_told start now old mid insts tokens middle (Refused refusal) r there x =
    let t = reads_times plain_inst (unless_begins terminator_word inst_part.begins) plain_is_part start now old mid insts tokens middle r in
    (t.0, middle, t.1, inr (there, x))

pub last_refused : (start now : ℕ) (old mid : List NameText) (insts : List Inst) (tokens here again : List Token) (left : ℕ) (error told : ReadError) → told ≡ error → SoFar (Plain start now old mid insts) tokens left → here ≡ drop (length tokens - left) tokens → again ≡ drop (length tokens - left) tokens → Begins terminator_word (lexemes_of here) → Refuses inst_part (lexemes_of again) error → Refuses insts_part (lexemes_of tokens) told
last_refused start now old mid insts tokens here again left error told same s is is' there x =
    subst (Refuses insts_part (lexemes_of tokens)) (sym same)
    (last_told start now old mid insts (lexemes_of tokens) (lexemes_of again) error (so_far (Plain start now old mid insts) tokens again left s is')
    (subst (λ ts. Begins terminator_word (lexemes_of ts)) (is ∙ sym is') there) x)

pub insts_read : (start now end : ℕ) (old mid new : List NameText) (insts all : List Inst) (i : Inst) (tokens here again : List Token) (rest : List Lexeme) (left : ℕ) → SoFar (Plain start now old mid insts) tokens left → here ≡ drop (length tokens - left) tokens → again ≡ drop (length tokens - left) tokens → Begins terminator_word (lexemes_of here) → ReadsWith (inst_here now end) mid new i (lexemes_of again) rest → all ≡ insts ++ i ∷ [] → ReadsWith (insts_here start end) old new all (lexemes_of tokens) rest
insts_read start now end old mid new insts all i tokens here again rest left s is is' there r grown =
    let before : Plain start now old mid insts (lexemes_of tokens) (lexemes_of again) = so_far (Plain start now old mid insts) tokens again left s is' in
    record {
      extends = extends_then old mid new before.extends r.extends;
      reads = λ longer e. record {
        before = insts;
        last = i;
        between = now;
        middle = lexemes_of again;
        all = grown;
        plain = before.reads longer (extends_then mid new longer r.extends e);
        ends = subst (λ ts. Begins terminator_word (lexemes_of ts)) (is ∙ sym is') there;
        terminator = r.reads longer e;
      };
    }
