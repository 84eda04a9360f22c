-- Blocks as readers find them.
use Rattle.std.proofs.Common.{◌≡◌, ℕ, ◌+◌, ◌-◌, Bool, true, false, true≢false, not, if◌then◌else◌, List, [], ◌∷◌, ◌++◌, map, take, length, Option, None, Some, refl, sym, ap, ap₂, ◌∙◌, subst, inl, inr}
use Rattle.inst_walk.specs.declared.body.Block.{Block}
use Rattle.ll_tokens.specs.declared.kinds.TokenKind.TheVariants.{Word, Local as LocalToken, Label}
use Rattle.ll_tokens.specs.Tokens.{Lexeme}
use Rattle.ll_tree.specs.declared.inst.Inst.{Inst}
use Rattle.ll_tree.specs.declared.name.Name.{Name}
use Rattle.ll_tree.specs.declared.name.NameKind.TheVariants.{Local as LocalName}
use Rattle.ll_tree.specs.declared.name.NameText.{NameText}
use Rattle.ll_tree.specs.declared.op.Op.{Op}
use Rattle.ll_tree.specs.Modules.{block_changed}
use Rattle.ll_parser.specs.GrammarFunctions.{all_given, block_names, blocks, given, inst, insts, is_terminator, label, naming, next_after, next_behind}
use Rattle.ll_parser.specs.GrammarInsts.{operation}
use Rattle.ll_parser.specs.GrammarAttributes.{any_attachments}
use Rattle.ll_parser.specs.GrammarValues.{local}
use Rattle.ll_parser.specs.Productions.{Production, nothing, ◌>>◌, mark, token}
use Rattle.ll_parser.specs.Spellings.{Spells, spelling_of}
use Rattle.ll_one_module.proofs.Readers.{Ahead, Reader, Test, never, begins, done, bind, to, first, choose, Found, Reads, Leads, bind-found, to-found, at, none, first-reads}
use Rattle.ll_one_module.proofs.Fronts.{is_mark, lead-first, lead-kind, opens-token}
use Rattle.ll_one_module.proofs.Lists.{reads-as, or-reads, only-reads}
use Rattle.ll_one_module.proofs.NamesFound.{Numbering, renamed}
use Rattle.ll_one_module.proofs.TypesFound.{is-true}
use Rattle.ll_one_module.proofs.InstsFound.{behind_spelling, inst_end, inst-reads, made_inst, none_of, numbered, op_words, op-fails, placed-reads, read_byte, read_inst, terminator-kept}
use Rattle.ll_one_module.proofs.Threads.{Threads, threaded, threads-found, threads-last, threads-more, threads-none}

-- what doesn't begin an instruction
abbrev pub always : Ahead
always tokens = true

abbrev pub ends_block : Inst → Bool
ends_block i = is_terminator i.op

abbrev named_front : Numbering → Name → Production
named_front t name = local t.names name >> mark 61

naming-fails : (t : Numbering) (test : Test) → ((text : List ℕ) → test LocalToken text ≡ false) → none_of (test Word) op_words ≡ true → (next byte : ℕ) (o : Op) (defines : Option Name) (tokens middle rest : List Lexeme) →
    naming t.names next byte o defines tokens middle → (operation t.names o >> any_attachments) middle rest → begins test tokens ≡ false
naming-fails t test locals words next byte o None tokens middle rest (no', same) d =
    let front : Leads never (operation t.names o >> any_attachments) (begins test) = lead-first _ (op-fails test words t.names o) in
    ap (begins test) same ∙ front.leads middle rest d refl
naming-fails t test locals words next byte o (Some name) tokens middle rest (inl (may, d)) more =
    let front : Leads never (named_front t name) (begins test) = lead-first _ (lead-kind LocalToken _ test locals) in
    front.leads tokens middle d refl
naming-fails t test locals words next byte o (Some name) tokens middle rest (inr (d, same)) more =
    let front : Leads never (operation t.names o >> any_attachments) (begins test) = lead-first _ (op-fails test words t.names o) in
    ap (begins test) same ∙ front.leads middle rest more refl

inst-fails : (t : Numbering) (test : Test) → ((text : List ℕ) → test LocalToken text ≡ false) → none_of (test Word) op_words ≡ true → (next : ℕ) (i : Inst) (tokens rest : List Lexeme) → inst t.names next i tokens rest → begins test tokens ≡ false
unfolding ◌>>◌
inst-fails t test locals words next i tokens rest (place, (middle, d, more)) = naming-fails t test locals words next i.byte i.op i.defines tokens middle rest d more

insts-fail : (t : Numbering) (test : Test) → ((text : List ℕ) → test LocalToken text ≡ false) → none_of (test Word) op_words ≡ true → (next : ℕ) (list : List Inst) (tokens rest : List Lexeme) → insts t.names next list tokens rest → begins test tokens ≡ false
unfolding ◌>>◌
insts-fail t test locals words next [] tokens rest d = absurd d
insts-fail t test locals words next (i ∷ []) tokens rest d = inst-fails t test locals words next i tokens rest d.1
insts-fail t test locals words next (i ∷ j ∷ is) tokens rest (e, (middle, d, more)) = inst-fails t test locals words next i tokens middle d

given-then : (names : List NameText) (o : Option Name) (numbers : List ℕ) (next : ℕ) → next_after names (given names o ++ numbers) next ≡ next_after names numbers (next_after names (given names o) next)
given-then names None numbers next = refl
given-then names (Some name) numbers next = refl

insts-threads : (t : Numbering) (next : ℕ) (list : List Inst) (tokens rest : List Lexeme) → insts t.names next list tokens rest → begins inst_end rest ≡ false →
    Threads always ends_block (read_inst t.look) next tokens (map (made_inst t) list) (next_after t.names (all_given t.names list) next) rest
unfolding ◌>>◌
insts-threads t next [] tokens rest d stop = absurd d
insts-threads t next (i ∷ []) tokens rest (ends, d) stop =
    subst (λ after. Threads always ends_block (read_inst t.look) next tokens (made_inst t i ∷ []) after rest) (sym (given-then t.names i.defines [] next))
    (threads-last always ends_block (read_inst t.look) next tokens (made_inst t i) _ rest refl (terminator-kept t i.op ∙ is-true _ ends) ((inst-reads t next i).reads tokens rest d stop))
insts-threads t next (i ∷ j ∷ is) tokens rest (goes, (middle, d, more)) stop =
    subst (λ after. Threads always ends_block (read_inst t.look) next tokens (made_inst t i ∷ map (made_inst t) (j ∷ is)) after rest) (sym (given-then t.names i.defines (all_given t.names (j ∷ is)) next))
    (threads-more always ends_block (read_inst t.look) next tokens (made_inst t i) (next_after t.names (given t.names i.defines) next) middle (map (made_inst t) (j ∷ is)) _ rest refl (terminator-kept t i.op ∙ goes)
    ((inst-reads t next i).reads tokens middle d (insts-fail t inst_end (λ text. refl) refl _ (j ∷ is) middle rest more))
    (insts-threads t (next_after t.names (given t.names i.defines) next) (j ∷ is) middle rest more stop))

-- labels
abbrev label_start : Test
label_start Label text = true
label_start _ text = false

abbrev Labelled : Type 0
Labelled = (ℕ × ℕ) × ℕ

module _ (look : NameText → ℕ) where
  abbrev spelled_label : ℕ → ℕ → Lexeme → Labelled
  spelled_label next byte l = ((look (record { kind = LocalName; spelling = spelling_of (take (length l.text - 1) l.text) }), byte), behind_spelling (spelling_of (take (length l.text - 1) l.text)) next)

  read_label : ℕ → Reader Labelled
  read_label next = bind read_byte (λ byte. choose (begins label_start) (first (spelled_label next byte)) (done (let r : Labelled = ((numbered look next, byte), next + 1) in r)))

  pub read_block : ℕ → Reader ((Block Inst ℕ × ℕ) × ℕ)
  read_block next =
      bind (read_label next) (λ a. to (λ is. let r : (Block Inst ℕ × ℕ) × ℕ = ((record { name = a.0.0; insts = is.0 }, a.0.1), is.1) in r) (threaded always ends_block (read_inst look) a.1))

module _ (t : Numbering) where
  label-reads : (next number byte : ℕ) → Reads (begins label_start) (label t.names next number byte) (read_label t.look next) (let r : Labelled = ((t.renumber number, byte), next_after t.names (number ∷ []) next) in r)
  unfolding read_label
  label-reads next number byte =
      reads-as (λ tokens rest d. d) (placed-reads t.names _ byte
      (or-reads _ _ (begins label_start) (opens-token Label _ label_start (λ l d. refl))
      (first-reads (spelled_label t.look next byte) _ _ (λ l k d.
      ap₂ (λ (n m : ℕ). let r : Labelled = ((n, byte), m) in r) (sym (t.found number _ d.1)) (ap (λ e. next_behind [] e next) (sym d.1))))
      (record { leads = λ tokens rest d stop. ap (begins label_start) d.1 ∙ stop })
      (only-reads _ nothing (λ n. at (ap₂ (λ (n m : ℕ). let r : Labelled = ((n, byte), m) in r) (sym (t.found number _ n)) (ap (λ e. next_behind [] e next) (sym n))) none))))

block-fails : (t : Numbering) (test : Test) → ((text : List ℕ) → test Label text ≡ false) → ((text : List ℕ) → test LocalToken text ≡ false) → none_of (test Word) op_words ≡ true → (next number byte next' : ℕ) (list : List Inst) (tokens middle rest : List Lexeme) →
    label t.names next number byte tokens middle → insts t.names next' list middle rest → begins test tokens ≡ false
block-fails t test labels locals words next number byte next' list tokens middle rest (place, inl d) more =
    let front : Leads never (token Label (λ lexeme. Spells t.names LocalName (take (length lexeme.text - 1) lexeme.text) number)) (begins test) = lead-kind Label _ test labels in
    front.leads tokens middle d refl
block-fails t test labels locals words next number byte next' list tokens middle rest (place, inr d) more = ap (begins test) d.1 ∙ insts-fail t test locals words next' list middle rest more

blocks-fail : (t : Numbering) (test : Test) → ((text : List ℕ) → test Label text ≡ false) → ((text : List ℕ) → test LocalToken text ≡ false) → none_of (test Word) op_words ≡ true → (next : ℕ) (list : List (Block Inst ℕ)) (places : List ℕ) (tokens rest : List Lexeme) →
    blocks t.names next list places tokens rest → begins test rest ≡ false → begins test tokens ≡ false
unfolding ◌>>◌
blocks-fail t test labels locals words next [] [] tokens rest same stop = ap (begins test) same ∙ stop
blocks-fail t test labels locals words next [] (byte ∷ bytes) tokens rest d stop = absurd d
blocks-fail t test labels locals words next (b ∷ bs) [] tokens rest d stop = absurd d
blocks-fail t test labels locals words next (b ∷ bs) (byte ∷ bytes) tokens rest (m, l, (m', is, more)) stop = block-fails t test labels locals words next b.name byte _ b.insts tokens m m' l is

-- blocks go on up to a `}`, 125
abbrev pub goes : Ahead
goes tokens = not (begins (is_mark 125) tokens)

abbrev pub no_last : Block Inst ℕ × ℕ → Bool
no_last b = false

abbrev pub made_block : Numbering → Block Inst ℕ → Block Inst ℕ
made_block t = block_changed (renamed t) (λ byte. byte)

-- the blocks with the places of their labels
abbrev pub pairs_of : Numbering → List (Block Inst ℕ) → List ℕ → List (Block Inst ℕ × ℕ)
pairs_of t (b ∷ bs) (byte ∷ bytes) = (made_block t b, byte) ∷ pairs_of t bs bytes
pairs_of t _ _ = []

block-found : (t : Numbering) (next : ℕ) (b : Block Inst ℕ) (byte : ℕ) (tokens m rest : List Lexeme) → label t.names next b.name byte tokens m → insts t.names (next_after t.names (b.name ∷ []) next) b.insts m rest → begins inst_end rest ≡ false →
    Found (read_block t.look next) tokens (let r : (Block Inst ℕ × ℕ) × ℕ = ((made_block t b, byte), next_after t.names (block_names t.names b) next) in r) rest
unfolding read_block
block-found t next b byte tokens m rest l is stop =
    bind-found (read_label t.look next) _ (let r : Labelled = ((t.renumber b.name, byte), next_after t.names (b.name ∷ []) next) in r) _ tokens m rest
    ((label-reads t next b.name byte).reads tokens m l (insts-fail t label_start (λ text. refl) refl _ b.insts m rest is))
    (to-found _ _ (let r : List Inst × ℕ = (map (made_inst t) b.insts, next_after t.names (block_names t.names b) next) in r) m rest
    (threads-found always ends_block (read_inst t.look) _ m _ _ rest (insts-threads t (next_after t.names (b.name ∷ []) next) b.insts m rest is stop)))

pub blocks-threads : (t : Numbering) (next : ℕ) (list : List (Block Inst ℕ)) (places : List ℕ) (tokens rest : List Lexeme) → blocks t.names next list places tokens rest → begins (is_mark 125) rest ≡ true → begins inst_end rest ≡ false →
    (end : ℕ) × Threads goes no_last (read_block t.look) next tokens (pairs_of t list places) end rest
unfolding ◌>>◌
blocks-threads t next [] [] tokens rest same close stop = (next, subst (λ ts. Threads goes no_last (read_block t.look) next ts [] next rest) (sym same) (threads-none goes no_last (read_block t.look) next rest (ap not close)))
blocks-threads t next [] (byte ∷ bytes) tokens rest d close stop = absurd d
blocks-threads t next (b ∷ bs) [] tokens rest d close stop = absurd d
blocks-threads t next (b ∷ bs) (byte ∷ bytes) tokens rest (m, l, (m', is, more)) close stop =
    let later = blocks-threads t (next_after t.names (block_names t.names b) next) bs bytes m' rest more close stop in (
      later.0,
      threads-more goes no_last (read_block t.look) next tokens (made_block t b, byte) (next_after t.names (block_names t.names b) next) m' (pairs_of t bs bytes) later.0 rest
          (ap not (block-fails t (is_mark 125) (λ text. refl) (λ text. refl) refl next b.name byte _ b.insts tokens m m' l is)) refl
          (block-found t next b byte tokens m m' l is (blocks-fail t inst_end (λ text. refl) (λ text. refl) refl _ bs bytes m' rest more stop)) later.1,
    )

unfoldable pub read_blocks : (NameText → ℕ) → ℕ → Reader (List (Block Inst ℕ) × List ℕ)
read_blocks look next =
    to (λ (r : List (Block Inst ℕ × ℕ) × ℕ). let q : List (Block Inst ℕ) × List ℕ = (map (λ (p : Block Inst ℕ × ℕ). p.0) r.0, map (λ (p : Block Inst ℕ × ℕ). p.1) r.0) in q) (threaded goes no_last (read_block look) next)

pairs-are : (t : Numbering) (next : ℕ) (list : List (Block Inst ℕ)) (places : List ℕ) (tokens rest : List Lexeme) → blocks t.names next list places tokens rest →
    (map (λ (p : Block Inst ℕ × ℕ). p.0) (pairs_of t list places) ≡ map (made_block t) list) × (map (λ (p : Block Inst ℕ × ℕ). p.1) (pairs_of t list places) ≡ places)
unfolding ◌>>◌
pairs-are t next [] [] tokens rest d = (refl, refl)
pairs-are t next [] (byte ∷ bytes) tokens rest d = absurd d
pairs-are t next (b ∷ bs) [] tokens rest d = absurd d
pairs-are t next (b ∷ bs) (byte ∷ bytes) tokens rest (m, l, (m', is, more)) =
    let later = pairs-are t (next_after t.names (block_names t.names b) next) bs bytes m' rest more in (ap (λ xs. made_block t b ∷ xs) later.0, ap (λ xs. byte ∷ xs) later.1)

abbrev pub block_end : Ahead
block_end tokens = if begins (is_mark 125) tokens then begins inst_end tokens else true

end-both : (a b : Bool) → (if a then b else true) ≡ false → (a ≡ true) × (b ≡ false)
end-both true b e = (refl, e)
end-both false b e = absurd (true≢false e)

pub blocks-read : (t : Numbering) (next : ℕ) (list : List (Block Inst ℕ)) (places : List ℕ) → Reads block_end (blocks t.names next list places) (read_blocks t.look next) (let q : List (Block Inst ℕ) × List ℕ = (map (made_block t) list, places) in q)
unfolding read_blocks
blocks-read t next list places = record {
  reads = λ tokens rest d stop.
      let ends = end-both (begins (is_mark 125) rest) (begins inst_end rest) stop in
      let threads = blocks-threads t next list places tokens rest d ends.0 ends.1 in
      let are = pairs-are t next list places tokens rest d in
      subst (λ (q : List (Block Inst ℕ) × List ℕ). Found (read_blocks t.look next) tokens q rest)
      (ap₂ (λ (bs : List (Block Inst ℕ)) (ps : List ℕ). let q : List (Block Inst ℕ) × List ℕ = (bs, ps) in q) are.0 are.1)
      (to-found _ (threaded goes no_last (read_block t.look) next) _ tokens rest (threads-found goes no_last (read_block t.look) next tokens (pairs_of t list places) threads.0 rest threads.1));
}
