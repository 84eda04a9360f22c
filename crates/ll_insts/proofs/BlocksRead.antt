-- Blocks as they are read: what each exit of a reader answers.
use Rattle.std.proofs.Common.{◌≡◌, ℕ, ◌<◌, ◌-◌, Bool, true, false, IsTrue, List, [], ◌∷◌, ◌++◌, length, drop, map, refl, sym, ap, ◌∙◌, subst, subst₂, zero, suc, ◌≤◌, append-nil, inl, inr, arith}
use Rattle.ll_tokens.specs.declared.kinds.Token.{Token}
use Rattle.ll_tokens.specs.Tokens.{Lexeme, lexemes_of}
use Rattle.ll_tree.specs.declared.inst.Inst.{Inst}
use Rattle.ll_tree.specs.declared.name.Name.{Name}
use Rattle.ll_tree.specs.declared.name.NameText.{NameText}
use Rattle.ll_parser.specs.declared.refusal.ReadError.{ReadError}
use Rattle.ll_parser.specs.declared.refusal.ReadError.TheVariants.{NoMemory, Refused}
use Rattle.ll_parser.specs.declared.refusal.Refusal.{Refusal}
use Rattle.ll_parser.specs.GrammarFunctions.{all_given, begins_at, block_names, blocks, given, inst, insts, is_terminator, label, next_after}
use Rattle.ll_parser.specs.NameReading.{ReadsWith}
use Rattle.ll_parser.specs.Productions.{◌>>◌, mark}
use Rattle.ll_parser.specs.Reading.{EndsNowhere}
use Rattle.ll_parser.proofs.EndFacts.{ends_length}
use Rattle.ll_parser.proofs.TableFacts.{extends_then}
use Rattle.ll_types.proofs.MembersRead.{derived}
use Rattle.ll_types.proofs.Tokens.{Shortens}
use Rattle.ll_attributes.proofs.LoopFacts.{SoFar, at_start, fewer_left, one_more, so_far}
use Rattle.ll_operands.specs.Parts.{Begins, Refuses, ◌then◌, times}
use Rattle.ll_operands.proofs.Readings.{first_refused, second_refused, told_as}
use Rattle.ll_heads.specs.Params.{first_place}
use Rattle.ll_bodies.specs.BodyJoins.{threaded, unless_begins}
use Rattle.ll_bodies.specs.BodyWords.{terminator_word}
use Rattle.ll_bodies.specs.Labels.{block_label_part, numbered_label}
use Rattle.ll_bodies.proofs.LabelsRead.{exact_label, label_is_part}
use Rattle.ll_bodies.proofs.ThreadedRead.{ThreadedReads, none_read, one_read, reads_times, threaded_times}
use Rattle.ll_insts.specs.Blocks.{block_here, blocks_here, blocks_of, labels_of, more_blocks, next_block}
use Rattle.ll_insts.specs.declared.blocks.Blocks.{Blocks}
use Rattle.ll_insts.specs.declared.blocks.PlacedBlock.{PlacedBlock}
use Rattle.ll_insts.specs.InstParts.{block_part, blocks_part, inst_part, insts_part, more_blocks_part}
use Rattle.ll_insts.specs.Insts.{inst_here, insts_here, plain_inst}
use Rattle.ll_insts.proofs.ExactInsts.{exact_block, exact_blocks, inst_part_shortens}
use Rattle.ll_insts.proofs.InstsRead.{here_is_part, plain_is_part}
use Rattle.ll_insts.proofs.OperationFacts.{operation_right}
use Rattle.ll_insts.proofs.PartsDerived.{blocks_are_part, inst_goes_on, inst_word, whole_is_part}

-- instructions up to the terminator are of the part, and shorter
insts_is_part : (next end : ℕ) (names : List NameText) (is : List Inst) (tokens rest : List Lexeme) → insts_here next end names is tokens rest → insts_part.begins tokens rest
insts_is_part next end names is tokens rest d =
    let t = threaded_times plain_inst (unless_begins terminator_word inst_part.begins) plain_is_part next d.between names d.before tokens d.middle d.plain in
    (t.0, d.middle, t.1, d.ends, here_is_part d.between end names d.last d.middle rest d.terminator)

pub block_is_part : (start end : ℕ) (names : List NameText) (b : PlacedBlock) (tokens rest : List Lexeme) → block_here start end names b tokens rest → block_part.begins tokens rest
unfolding ◌>>◌ block_here block_part
block_is_part start end names b tokens rest (next, middle, l, d) = (middle, label_is_part start names _ tokens middle l.0, insts_is_part next end names b.block.insts middle rest d)

items_less : (count : ℕ) (tokens middle : List Lexeme) → times count (unless_begins terminator_word inst_part.begins) tokens middle → length middle ≤ length tokens
unfolding ◌>>◌
items_less zero tokens middle same = let e : length tokens ≡ length middle = ap length same in omega arith
items_less (suc count) tokens middle (m, (nowhere, d), more) =
    let one : length m < length tokens = (inst_part_shortens tokens m d).less in
    let others : length middle ≤ length m = items_less count m middle more in
    omega arith

insts_less : (tokens rest : List Lexeme) → insts_part.begins tokens rest → length rest < length tokens
insts_less tokens rest (count, middle, items, there, d) =
    let last : length rest < length middle = (inst_part_shortens middle rest d).less in
    let before : length middle ≤ length tokens = items_less count tokens middle items in
    omega arith

pub block_part_shortens : Shortens block_part.begins
unfolding ◌>>◌ block_part
block_part_shortens tokens rest (middle, l, d) =
    let less : length rest < length middle = insts_less middle rest d in
    let no_longer : length middle ≤ length tokens = ends_length tokens middle (exact_label.ends tokens middle l) in
    record { ends = exact_block.ends tokens rest (block_begins tokens middle rest l d); less = omega arith }
  where
    block_begins : (tokens middle rest : List Lexeme) → block_label_part.begins tokens middle → insts_part.begins middle rest → block_part.begins tokens rest
    block_begins tokens middle rest l d = (middle, l, d)

is_true : (b : Bool) → b ≡ true → IsTrue b
is_true b e = grind arith

not_empty : {A : Type 0} {x : A} {xs : List A} → [] ≡ x ∷ xs → ⊥
not_empty {A} {x} {xs} e =
    let h : zero ≡ suc (length xs) = ap length e in
    omega arith

-- the first token's place
placed : (names : List NameText) (byte : ℕ) (tokens rest : List Lexeme) → length rest < length tokens → first_place tokens ≡ byte → begins_at names byte tokens
placed names byte [] rest less is = absurd (omega arith)
placed names byte (l ∷ ls) rest less is = is

-- what is read is of the grammar
module _ (names : List NameText) where
  after_both : (xs ys : List ℕ) (n : ℕ) → next_after names (xs ++ ys) n ≡ next_after names ys (next_after names xs n)
  after_both [] ys n = refl
  after_both (x ∷ xs) ys n = after_both xs ys _

  inst_right : (next end : ℕ) (i : Inst) (tokens rest : List Lexeme) → inst_here next end names i tokens rest → inst names next i tokens rest
  unfolding ◌>>◌ inst_here
  inst_right next end i tokens rest (place, is, (m, named, (n, does, attached))) = (
    placed names i.byte tokens rest (inst_part_shortens tokens rest (whole_is_part names next i.byte i.op i.defines tokens m n rest named does attached)).less (sym place),
    (m, named, (n, operation_right names i.op m n does, attached.skipped)),
  )

  inst_number : (next end : ℕ) (i : Inst) (tokens rest : List Lexeme) → inst_here next end names i tokens rest → end ≡ next_after names (given names i.defines) next
  unfolding inst_here
  inst_number next end i tokens rest (place, is, _) = is

  ends_by_word : (next : ℕ) (i : Inst) (tokens rest : List Lexeme) → inst names next i tokens rest → Begins terminator_word tokens → (b : Bool) → is_terminator i.op ≡ b → is_terminator i.op ≡ true
  ends_by_word next i tokens rest d there true e = e
  ends_by_word next i tokens rest d there false e = absurd (inst_goes_on names next i tokens rest d e there.0 there.1)

  goes_on_by_word : (next : ℕ) (i : Inst) (tokens rest : List Lexeme) → inst names next i tokens rest → EndsNowhere terminator_word tokens → (b : Bool) → is_terminator i.op ≡ b → is_terminator i.op ≡ false
  goes_on_by_word next i tokens rest d nowhere false e = e
  goes_on_by_word next i tokens rest d nowhere true e = let w = inst_word names next i tokens rest d e in absurd (nowhere w.0 w.1)

  one_before : (next : ℕ) (i : Inst) (is : List Inst) (tokens middle rest : List Lexeme) → is_terminator i.op ≡ false → inst names next i tokens middle → insts names (next_after names (given names i.defines) next) is middle rest → insts names next (i ∷ is) tokens rest
  unfolding ◌>>◌
  one_before next i [] tokens middle rest on d more = absurd more
  one_before next i (j ∷ is) tokens middle rest on d more = (on, (middle, d, more))

  insts_from : (before : List Inst) (last : Inst) (next between end : ℕ) (tokens middle rest : List Lexeme) → threaded plain_inst next between names before tokens middle → Begins terminator_word middle → inst_here between end names last middle rest → insts names next (before ++ last ∷ []) tokens rest
  insts_from [] last next between end tokens middle rest (same, here) there d =
      let one : inst names next last tokens rest = subst (λ ls. inst names next last ls rest) (sym here) (subst (λ n. inst names n last middle rest) same (inst_right between end last middle rest d)) in
      (is_true (is_terminator last.op) (ends_by_word next last tokens rest one (subst (Begins terminator_word) (sym here) there) (is_terminator last.op) refl), one)
  insts_from (i ∷ before) last next between end tokens middle rest (n, m, (nowhere, first), more) there d =
      let one : inst names next i tokens m = inst_right next n i tokens m first in
      one_before next i (before ++ last ∷ []) tokens m rest (goes_on_by_word next i tokens m one nowhere (is_terminator i.op) refl) one
      (subst (λ k. insts names k (before ++ last ∷ []) m rest) (inst_number next n i tokens m first) (insts_from before last n between end m middle rest more there d))

  insts_number : (before : List Inst) (last : Inst) (next between end : ℕ) (tokens middle rest : List Lexeme) → threaded plain_inst next between names before tokens middle → inst_here between end names last middle rest → end ≡ next_after names (all_given names (before ++ last ∷ [])) next
  insts_number [] last next between end tokens middle rest (same, here) d =
      inst_number between end last middle rest d ∙ ap (next_after names (given names last.defines)) same ∙ ap (λ ns. next_after names ns next) (sym (append-nil (given names last.defines)))
  insts_number (i ∷ before) last next between end tokens middle rest (n, m, (nowhere, first), more) d =
      insts_number before last n between end m middle rest more d
      ∙ ap (next_after names (all_given names (before ++ last ∷ []))) (inst_number next n i tokens m first)
      ∙ sym (after_both (given names i.defines) (all_given names (before ++ last ∷ [])) next)

  insts_right : (next end : ℕ) (is : List Inst) (tokens rest : List Lexeme) → insts_here next end names is tokens rest → insts names next is tokens rest × (end ≡ next_after names (all_given names is) next)
  insts_right next end is tokens rest d = (
    subst (λ xs. insts names next xs tokens rest) (sym d.all) (insts_from d.before d.last next d.between end tokens d.middle rest d.plain d.ends d.terminator),
    insts_number d.before d.last next d.between end tokens d.middle rest d.plain d.terminator ∙ ap (λ xs. next_after names (all_given names xs) next) (sym d.all),
  )

  label_right : (start next : ℕ) (name : Name) (tokens middle rest : List Lexeme) → length rest < length tokens → numbered_label start next names name tokens middle → label names start name.number name.byte tokens middle
  label_right start next name tokens middle rest less ((place, inl written), is) = (placed names name.byte tokens rest less place, inl written)
  label_right start next name tokens middle rest less ((place, inr (numbered, same, none)), is) = (placed names name.byte tokens rest less place, inr (numbered, same))

  -- a block of the grammar, with the next number behind it
  pub record IsBlock (start end : ℕ) (b : PlacedBlock) (tokens rest : List Lexeme) : Type 0 where
    pub middle : List Lexeme
    pub labelled : label names start b.block.name b.byte tokens middle
    pub body : insts names (next_after names (b.block.name ∷ []) start) b.block.insts middle rest
    pub number : end ≡ next_after names (block_names names b.block) start

  pub block_right : (start end : ℕ) (b : PlacedBlock) (tokens rest : List Lexeme) → block_here start end names b tokens rest → IsBlock start end b tokens rest
  unfolding block_here
  block_right start end b tokens rest d = by_parts d (block_part_shortens tokens rest (block_is_part start end names b tokens rest d)).less
    where
      by_parts : block_here start end names b tokens rest → length rest < length tokens → IsBlock start end b tokens rest
      by_parts (next, middle, l, d) less =
          let r = insts_right next end b.block.insts middle rest d in
          record {
            middle = middle;
            labelled = label_right start next _ tokens middle rest less l;
            body = subst (λ n. insts names n b.block.insts middle rest) l.1 r.0;
            number = r.1 ∙ ap (next_after names (all_given names b.block.insts)) l.1;
          }

  blocks_right : (start end : ℕ) (bs : List PlacedBlock) (tokens rest : List Lexeme) → threaded next_block start end names bs tokens rest → blocks names start (map (λ (x : PlacedBlock). x.block) bs) (map (λ (x : PlacedBlock). x.byte) bs) tokens rest
  unfolding ◌>>◌
  blocks_right start end [] tokens rest (same, here) = here
  blocks_right start end (b ∷ bs) tokens rest (n, m, (nowhere, first), more) =
      let one : IsBlock start n b tokens m = block_right start n b tokens m first in
      (one.middle, one.labelled, (m, one.body, subst (λ k. blocks names k (map (λ (x : PlacedBlock). x.block) bs) (map (λ (x : PlacedBlock). x.byte) bs) m rest) one.number (blocks_right n end bs m rest more)))

  all_right : (start next : ℕ) (b : PlacedBlock) (bs : List PlacedBlock) (made : Blocks) (tokens middle rest : List Lexeme) → made.blocks ≡ blocks_of b bs → made.labels ≡ labels_of b bs → block_here start next names b tokens middle → more_blocks next names bs middle rest → blocks_here start names made tokens rest
  unfolding ◌>>◌
  all_right start next b bs made tokens middle rest is is' d (end, m, more, close) =
      let one : IsBlock start next b tokens middle = block_right start next b tokens middle d in
      let others : blocks names (next_after names (block_names names b.block) start) (map (λ (x : PlacedBlock). x.block) bs) (map (λ (x : PlacedBlock). x.byte) bs) middle m =
      subst (λ k. blocks names k (map (λ (x : PlacedBlock). x.block) bs) (map (λ (x : PlacedBlock). x.byte) bs) middle m) one.number (blocks_right next end bs middle m more) in (
        λ none. not_empty (sym none ∙ is'),
        (m, subst₂ (λ xs ys. blocks names start xs ys tokens m) (sym is) (sym is') (one.middle, one.labelled, (middle, one.body, others)), close),
      )

-- a block
pub block_read : (start next end : ℕ) (old between new : List NameText) (label : Name) (is : List Inst) (made : PlacedBlock) (tokens middle rest : List Lexeme) → made ≡ record { block = record { name = label.number; insts = is }; byte = label.byte } → ReadsWith (numbered_label start next) old between label tokens middle → ReadsWith (insts_here next end) between new is middle rest → ReadsWith (block_here start end) old new made tokens rest
unfolding block_here
block_read start next end old between new label is made tokens middle rest same r s = record {
  extends = extends_then old between new r.extends s.extends;
  reads = λ longer e.
      subst (λ b. block_here start end longer b tokens rest) (sym same)
      (block_made start next end longer label is tokens middle rest (r.reads longer (extends_then between new longer s.extends e)) (s.reads longer e));
}
  where
    block_made : (start next end : ℕ) (names : List NameText) (label : Name) (is : List Inst) (tokens middle rest : List Lexeme) → numbered_label start next names label tokens middle → insts_here next end names is middle rest → block_here start end names (record { block = record { name = label.number; insts = is }; byte = label.byte }) tokens rest
    block_made start next end names label is tokens middle rest l d = (next, middle, l, d)

unfolded_block : (tokens : List Lexeme) (told : ReadError) → Refuses (block_label_part then insts_part) tokens told → Refuses block_part tokens told
unfolding block_part
unfolded_block tokens NoMemory x = x
unfolded_block tokens (Refused refusal) x = x

pub label_refused : (tokens : List Lexeme) (error told : ReadError) → told ≡ error → Refuses block_label_part tokens error → Refuses block_part tokens told
label_refused tokens error told same x = subst (Refuses block_part tokens) (sym same) (unfolded_block tokens error (first_refused block_label_part insts_part tokens error x))

pub insts_refused : (start next : ℕ) (old between : List NameText) (label : Name) (tokens middle : List Lexeme) (error told : ReadError) → told ≡ error → ReadsWith (numbered_label start next) old between label tokens middle → Refuses insts_part middle error → Refuses block_part tokens told
insts_refused start next old between label tokens middle error told same r x =
    subst (Refuses block_part tokens) (sym same)
    (unfolded_block tokens error (second_refused block_label_part insts_part tokens middle error (label_is_part start between label tokens middle (derived (numbered_label start next) old between label tokens middle r).0) x))

-- the loop
abbrev pub Next : ℕ → ℕ → List NameText → List NameText → List PlacedBlock → List Lexeme → List Lexeme → Type 0
Next = ThreadedReads next_block

next_is_part : (start end : ℕ) (names : List NameText) (b : PlacedBlock) (tokens rest : List Lexeme) → next_block start end names b tokens rest → unless_begins (mark 125) block_part.begins tokens rest
next_is_part start end names b tokens rest (nowhere, d) = (nowhere, block_is_part start end names b tokens rest d)

one_block : (now next : ℕ) (mid new : List NameText) (b : PlacedBlock) → Shortens (ReadsWith (next_block now next) mid new b)
one_block now next mid new b tokens rest r = block_part_shortens tokens rest (block_is_part now next new b tokens rest (derived (next_block now next) mid new b tokens rest r).1)

next_read : (now next : ℕ) (mid new : List NameText) (b : PlacedBlock) (tokens rest : List Lexeme) → EndsNowhere (mark 125) tokens → ReadsWith (block_here now next) mid new b tokens rest → ReadsWith (next_block now next) mid new b tokens rest
next_read now next mid new b tokens rest nowhere r = record { extends = r.extends; reads = λ longer e. (nowhere, r.reads longer e) }

pub none_yet : (start : ℕ) (names : List NameText) (bs : List PlacedBlock) (tokens : List Token) (left : ℕ) → bs ≡ [] → left ≡ length tokens → SoFar (Next start start names names bs) tokens left
none_yet start names bs tokens left none whole = at_start (Next start start names names bs) tokens left (none_read next_block start names bs (lexemes_of tokens) none) whole

pub fewer_blocks : (start now next : ℕ) (old mid new : List NameText) (bs : List PlacedBlock) (b : PlacedBlock) (tokens here again behind : List Token) (left : ℕ) → SoFar (Next start now old mid bs) tokens left → here ≡ drop (length tokens - left) tokens → again ≡ drop (length tokens - left) tokens → EndsNowhere (mark 125) (lexemes_of here) → ReadsWith (block_here now next) mid new b (lexemes_of again) (lexemes_of behind) → length behind < left
fewer_blocks start now next old mid new bs b tokens here again behind left s is is' nowhere r =
    fewer_left (Next start now old mid bs) (ReadsWith (next_block now next) mid new b) (one_block now next mid new b) tokens again behind left s is'
    (next_read now next mid new b _ _ (subst (λ ts. EndsNowhere (mark 125) (lexemes_of ts)) (is ∙ sym is') nowhere) r)

pub more_of_blocks : (start now next : ℕ) (old mid new : List NameText) (bs all : List PlacedBlock) (b : PlacedBlock) (tokens here again behind : List Token) (left count : ℕ) → SoFar (Next start now old mid bs) tokens left → here ≡ drop (length tokens - left) tokens → again ≡ drop (length tokens - left) tokens → EndsNowhere (mark 125) (lexemes_of here) → ReadsWith (block_here now next) mid new b (lexemes_of again) (lexemes_of behind) → all ≡ bs ++ b ∷ [] → count ≡ length behind → SoFar (Next start next old new all) tokens count
more_of_blocks start now next old mid new bs all b tokens here again behind left count s is is' nowhere r grown counted =
    one_more (Next start now old mid bs) (ReadsWith (next_block now next) mid new b) (one_block now next mid new b) (Next start next old new all) tokens again behind left count
    (λ x y z d e. one_read next_block start now next old mid new bs all b x y z grown d e) s is'
    (next_read now next mid new b _ _ (subst (λ ts. EndsNowhere (mark 125) (lexemes_of ts)) (is ∙ sym is') nowhere) r) counted

blocks_told : (start now : ℕ) (old mid : List NameText) (bs : List PlacedBlock) (tokens middle : List Lexeme) (told : ReadError) → Next start now old mid bs tokens middle → EndsNowhere (mark 125) middle → Refuses block_part middle told → Refuses more_blocks_part tokens told
blocks_told start now old mid bs tokens middle NoMemory r nowhere x = x
blocks_told start now old mid bs tokens middle (Refused refusal) r nowhere x =
    let t = reads_times next_block (unless_begins (mark 125) block_part.begins) next_is_part start now old mid bs tokens middle r in
    (t.0, middle, t.1, inl (nowhere, x))

pub blocks_refused : (start now : ℕ) (old mid : List NameText) (bs : List PlacedBlock) (tokens here again : List Token) (left : ℕ) (error told : ReadError) → told ≡ error → SoFar (Next start now old mid bs) tokens left → here ≡ drop (length tokens - left) tokens → again ≡ drop (length tokens - left) tokens → EndsNowhere (mark 125) (lexemes_of here) → Refuses block_part (lexemes_of again) error → Refuses more_blocks_part (lexemes_of tokens) told
blocks_refused start now old mid bs tokens here again left error told same s is is' nowhere x =
    subst (Refuses more_blocks_part (lexemes_of tokens)) (sym same)
    (blocks_told start now old mid bs (lexemes_of tokens) (lexemes_of again) error (so_far (Next start now old mid bs) tokens again left s is')
    (subst (λ ts. EndsNowhere (mark 125) (lexemes_of ts)) (is ∙ sym is') nowhere) x)

pub blocks_read : (start now : ℕ) (old mid : List NameText) (bs : List PlacedBlock) (tokens again : List Token) (rest : List Lexeme) (left : ℕ) → SoFar (Next start now old mid bs) tokens left → again ≡ drop (length tokens - left) tokens → mark 125 (lexemes_of again) rest → ReadsWith (more_blocks start) old mid bs (lexemes_of tokens) rest
blocks_read start now old mid bs tokens again rest left s is close =
    let before : Next start now old mid bs (lexemes_of tokens) (lexemes_of again) = so_far (Next start now old mid bs) tokens again left s is in
    record { extends = before.extends; reads = λ longer e. (now, lexemes_of again, before.reads longer e, close) }

-- all blocks
pub all_read : (start next : ℕ) (old between new : List NameText) (b : PlacedBlock) (bs : List PlacedBlock) (made : Blocks) (tokens middle rest : List Lexeme) → (made.blocks ≡ blocks_of b bs) × (made.labels ≡ labels_of b bs) → ReadsWith (block_here start next) old between b tokens middle → ReadsWith (more_blocks next) between new bs middle rest → ReadsWith (blocks_here start) old new made tokens rest
all_read start next old between new b bs made tokens middle rest is r s = record {
  extends = extends_then old between new r.extends s.extends;
  reads = λ longer e. all_right longer start next b bs made tokens middle rest is.0 is.1 (r.reads longer (extends_then between new longer s.extends e)) (s.reads longer e);
}

pub more_refused : (start next : ℕ) (old between : List NameText) (b : PlacedBlock) (tokens middle : List Lexeme) (error told : ReadError) → told ≡ error → ReadsWith (block_here start next) old between b tokens middle → Refuses more_blocks_part middle error → Refuses blocks_part tokens told
more_refused start next old between b tokens middle error told same r x =
    told_as blocks_part tokens error told same (second_refused block_part more_blocks_part tokens middle error (block_is_part start next between b tokens middle (derived (block_here start next) old between b tokens middle r)) x)

pub first_block_refused : (tokens : List Lexeme) (error told : ReadError) → told ≡ error → Refuses block_part tokens error → Refuses blocks_part tokens told
first_block_refused tokens error told same x = told_as blocks_part tokens error told same (first_refused block_part more_blocks_part tokens error x)

-- the laws
pub blocks_one : (next other : ℕ) (names table : List NameText) (b c : Blocks) (tokens x y : List Lexeme) → blocks_here next names b tokens x → blocks_here other table c tokens y → x ≡ y
blocks_one next other names table b c tokens x y d e = exact_blocks.one tokens x y (blocks_are_part names next b tokens x d) (blocks_are_part table other c tokens y e)

pub blocks_none : (tokens rest : List Lexeme) (refusal : Refusal) (next : ℕ) (names : List NameText) (b : Blocks) → blocks_part.stops tokens refusal → blocks_here next names b tokens rest → ⊥
blocks_none tokens rest refusal next names b s d = exact_blocks.none tokens rest refusal s (blocks_are_part names next b tokens rest d)

pub blocks_is_part : (next : ℕ) (names : List NameText) (b : Blocks) (tokens rest : List Lexeme) → blocks_here next names b tokens rest → blocks_part.begins tokens rest
blocks_is_part next names b tokens rest d = blocks_are_part names next b tokens rest d

-- the `}` that the loop found stands there
pub close_stands : {X : Type 0} (tokens here again : List Token) (left : ℕ) → here ≡ drop (length tokens - left) tokens → again ≡ drop (length tokens - left) tokens → Begins (mark 125) (lexemes_of here) → EndsNowhere (mark 125) (lexemes_of again) → X
close_stands {X} tokens here again left is is' there nowhere =
    absurd (subst (λ ts. EndsNowhere (mark 125) (lexemes_of ts)) (is' ∙ sym is) nowhere there.0 there.1)
