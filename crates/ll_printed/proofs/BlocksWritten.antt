-- Blocks are read as they are written.
use Rattle.std.proofs.Common.{◌≡◌, ℕ, ◌-◌, Bool, true, false, List, [], ◌∷◌, length, map, take, slice_get, refl, sym, ◌∙◌, ap, subst, ◌⊎◌, inl, inr}
use Rattle.std.specs.Prelude.{if◌then◌else◌}
use Rattle.std.proofs.lemmas.Bool.{false≢true}
use Rattle.inst_walk.specs.declared.body.Block.{Block}
use Rattle.ll_tokens.specs.declared.kinds.TokenKind.TheVariants.{Label}
use Rattle.ll_tokens.specs.Tokens.{Lexeme}
use Rattle.ll_tree.specs.declared.inst.Inst.{Inst}
use Rattle.ll_tree.specs.declared.name.NameKind.TheVariants.{Local as LocalName}
use Rattle.ll_tree.specs.declared.name.NameText.{NameText}
use Rattle.ll_tree.specs.Modules.{block_changed}
use Rattle.ll_tree.specs.Names.{name_unplaced}
use Rattle.ll_parser.specs.GrammarFunctions.{IsNumbered, block_names, blocks, insts, label, next_after}
use Rattle.ll_parser.specs.GrammarValues.{only}
use Rattle.ll_parser.specs.Productions.{Production, ◌>>◌, nothing, token}
use Rattle.ll_parser.specs.Spellings.{Spells}
use Rattle.ll_printed.specs.FunctionPhrases.{block_phrase, can_be_written, inst_phrase}
use Rattle.ll_phrases.specs.Phrases.{Empty, ◌&◌, each_phrase, line_end}
use Rattle.ll_phrases.specs.Texts.{label_phrase, number_text}
use Rattle.ll_phrases.proofs.NameTexts.{IsNamed, is-named, named-text, spells-again}
use Rattle.ll_phrases.proofs.QuotedTexts.{without-last}
use Rattle.ll_phrases.proofs.Written.{Fixed, Written, any-written, bare_pair, empty-then, fixed-before-line, fixed-then, made-at, made-same, nothing-written, pair, solid-laid, tight-written}
use Rattle.ll_printed.proofs.Begun.{begins-there, byte_of, token-begun}
use Rattle.ll_printed.proofs.InstsWritten.{all-given-kept, bare_inst, insts-begun, insts-written}
use Rattle.ll_printed.proofs.NamesLeftOut.{numbered-named, spelled-can}
use Rattle.ll_printed.proofs.OpParts.{no_place}

abbrev pub bare_block : Block Inst ℕ → Block Inst ℕ
bare_block = block_changed name_unplaced no_place

module _ (names : List NameText) where
  -- the token of a label
  abbrev label_token : ℕ → Production
  label_token number = token Label (λ lexeme. Spells names LocalName (take (length lexeme.text - 1) lexeme.text) number)

  label-fixed : (number : ℕ) → IsNamed names LocalName number → Fixed false false (label_token number) (label_phrase names number)
  label-fixed number named =
      let text = named-text names LocalName number named in
      record {
        laid = solid-laid Label _ text.label;
        reads = λ ts rs (k, at, of, same). (
          k,
          at,
          of,
          subst (λ (t : List ℕ). Spells names LocalName t number) (sym (ap (λ (t : List ℕ). take (length t - 1) t) same ∙ without-last (number_text names number) 58))
              (spells-again names LocalName number (number_text names number) named text),
        );
      }

  -- a label and the instructions behind it
  abbrev labelled : ℕ → ℕ → ℕ × List Inst → Production
  labelled next number z = label names next number z.0 >> insts names (next_after names (number ∷ []) next) z.1

  with-label : (next number byte : ℕ) (is : List Inst) (tokens rest : List Lexeme) → IsNamed names LocalName number → insts names (next_after names (number ∷ []) next) is tokens rest
      → Written false true (bare_pair no_place (map bare_inst)) (labelled next number) ((label_phrase names number & line_end) & each_phrase (inst_phrase names) is) (byte, is)
  unfolding ◌>>◌
  with-label next number byte is tokens rest named has =
      made-at (byte, is) (λ ts x. (byte_of ts, x)) (λ x. (0, x)) (λ ts x. refl) refl
      (λ x same ts rs (m, l, d). (m, (begins-there names ts (token-begun _ _ ts m l), inl l), d))
      (fixed-then (fixed-before-line (label-fixed number named)) (insts-written names (next_after names (number ∷ []) next) is tokens rest has) refl)

  without-label : (next number byte : ℕ) (is : List Inst) (tokens rest : List Lexeme) → IsNumbered names number next → insts names (next_after names (number ∷ []) next) is tokens rest
      → Written false true (bare_pair no_place (map bare_inst)) (labelled next number) (Empty & each_phrase (inst_phrase names) is) (byte, is)
  unfolding ◌>>◌
  without-label next number byte is tokens rest numbered has =
      made-at (byte, is) (λ ts x. (byte_of ts, x)) (λ x. (0, x)) (λ ts x. refl) refl
      (λ x same ts rs d. (ts, (begins-there names ts (insts-begun names _ x ts rs d), inr (numbered, refl)), d))
      (tight-written (empty-then (insts-written names (next_after names (number ∷ []) next) is tokens rest has)))

  by-label : (next number byte : ℕ) (is : List Inst) (test : Bool) (tokens a rest : List Lexeme) → can_be_written (slice_get names number) ≡ test
      → label_token number tokens a ⊎ only (IsNumbered names number next) nothing tokens a → insts names (next_after names (number ∷ []) next) is a rest
      → Written false true (bare_pair no_place (map bare_inst)) (labelled next number) ((if test then label_phrase names number & line_end else Empty) & each_phrase (inst_phrase names) is) (byte, is)
  by-label next number byte is true tokens a rest can (inl (l, at, of, spells)) has = with-label next number byte is a rest (is-named names LocalName (take (length l.text - 1) l.text) number spells) has
  by-label next number byte is true tokens a rest can (inr (numbered, same)) has = with-label next number byte is a rest (numbered-named names number next can numbered) has
  by-label next number byte is false tokens a rest can (inl (l, at, of, spells)) has = absurd (false≢true (sym can ∙ spelled-can names LocalName (take (length l.text - 1) l.text) number spells))
  by-label next number byte is false tokens a rest can (inr (numbered, same)) has = without-label next number byte is a rest numbered has

  block-written : (next byte : ℕ) (block : Block Inst ℕ) (tokens a rest : List Lexeme) → label names next block.name byte tokens a → insts names (next_after names (block.name ∷ []) next) block.insts a rest
      → Written false true (bare_pair no_place (map bare_inst)) (labelled next block.name) (block_phrase names block) (byte, block.insts)
  block-written next byte block tokens a rest (begins, l) has = by-label next block.name byte block.insts (can_be_written (slice_get names block.name)) tokens a rest refl l has

  pub blocks-written : (next : ℕ) (bs : List (Block Inst ℕ)) (bytes : List ℕ) (tokens rest : List Lexeme) → blocks names next bs bytes tokens rest
      → Written false false (bare_pair (map bare_block) (map no_place)) (λ (z : List (Block Inst ℕ) × List ℕ). blocks names next z.0 z.1) (each_phrase (block_phrase names) bs) (bs, bytes)
  unfolding ◌>>◌
  blocks-written next [] [] tokens rest d = any-written (nothing-written _ _ ([], []) (λ ts rs is. is))
  blocks-written next [] (byte ∷ bytes) tokens rest d = absurd d
  blocks-written next (block ∷ bs) [] tokens rest d = absurd d
  blocks-written next (block ∷ bs) (byte ∷ bytes) tokens rest (a, l, (b, is, more)) =
      made-same {value = ((byte, block.insts), (bs, bytes))}
      (λ z. (record { name = block.name; insts = z.0.1 } ∷ z.1.0, z.0.0 ∷ z.1.1)) (λ z. (record { name = block.name; insts = z.0.1 } ∷ z.1.0, z.0.0 ∷ z.1.1)) (λ z. refl)
      (λ z same ts rs (m, (k, at, has), others).
      (k, at, (m, has, subst (λ (given : List ℕ). blocks names (next_after names (block.name ∷ given) next) z.1.0 z.1.1 m rs) (sym (all-given-kept names z.0.1 block.insts (ap (λ y. y.0.1) same))) others)))
      (pair (block-written next byte block tokens a b l is) (blocks-written (next_after names (block_names names block) next) bs bytes b rest more) refl)
