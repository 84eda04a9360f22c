-- Instructions with their names are read as they are written.
use Rattle.std.proofs.Common.{◌≡◌, ℕ, Bool, true, false, IsTrue, List, [], ◌∷◌, ◌++◌, map, drop, Option, None, Some, slice_get, refl, sym, ◌∙◌, ap, ap₂, subst, inl, inr}
use Rattle.std.specs.Prelude.{if◌then◌else◌, option_map}
use Rattle.std.proofs.lemmas.Bool.{false≢true}
use Rattle.ll_tokens.specs.Tokens.{Lexeme}
use Rattle.ll_tree.specs.declared.inst.Inst.{Inst}
use Rattle.ll_tree.specs.declared.name.Name.{Name}
use Rattle.ll_tree.specs.declared.name.NameKind.TheVariants.{Local as LocalName}
use Rattle.ll_tree.specs.declared.name.NameText.{NameText}
use Rattle.ll_tree.specs.declared.op.Op.{Op}
use Rattle.ll_tree.specs.Insts.{inst_changed}
use Rattle.ll_tree.specs.Names.{name_unplaced}
use Rattle.ll_parser.specs.GrammarFunctions.{IsNumbered, all_given, begins_at, given, has_value, inst, insts, is_terminator, may_have_name, naming, next_after}
use Rattle.ll_parser.specs.GrammarInsts.{operation}
use Rattle.ll_parser.specs.Productions.{◌>>◌}
use Rattle.ll_printed.specs.FunctionPhrases.{can_be_written, inst_phrase}
use Rattle.ll_printed.specs.OpPhrases.{op_phrase}
use Rattle.ll_phrases.specs.Phrases.{Empty, Mark, ◌&◌, blank, each_phrase, line_end}
use Rattle.ll_phrases.specs.Texts.{local_phrase}
use Rattle.ll_phrases.proofs.NameTexts.{IsNamed, is-named}
use Rattle.ll_phrases.proofs.NamesWritten.{local-named}
use Rattle.ll_phrases.proofs.Written.{Written, before-line, behind-blank, empty-then, fixed-before-blank, fixed-behind-blank, made-at, made-same, mark-fixed, pair, then-empty, then-fixed}
use Rattle.ll_printed.proofs.Begun.{Begun, begins-there, byte_of, op-begun, token-begun}
use Rattle.ll_printed.proofs.NamesLeftOut.{numbered-named, spelled-can}
use Rattle.ll_printed.proofs.OpParts.{no_place}
use Rattle.ll_printed.proofs.OpsKept.{name-kept, named-for-value, terminator-kept, value-kept}
use Rattle.ll_printed.proofs.OpsWritten.{op-written}

abbrev pub bare_inst : Inst → Inst
bare_inst = inst_changed name_unplaced no_place

module _ (names : List NameText) where
  given-bare : (d : Option Name) → given names (option_map name_unplaced d) ≡ given names d
  given-bare None = refl
  given-bare (Some name) = refl

  given-kept : (found i : Inst) → bare_inst found ≡ bare_inst i → given names found.defines ≡ given names i.defines
  given-kept found i same = sym (given-bare found.defines) ∙ (ap (λ (x : Inst). given names x.defines) same ∙ given-bare i.defines)

  all-given-bare : (is : List Inst) → all_given names (map bare_inst is) ≡ all_given names is
  all-given-bare [] = refl
  all-given-bare (i ∷ is) = ap₂ (λ a b. a ++ b) (given-bare i.defines) (all-given-bare is)

  pub all-given-kept : (found is : List Inst) → map bare_inst found ≡ map bare_inst is → all_given names found ≡ all_given names is
  all-given-kept found is same = sym (all-given-bare found) ∙ (ap (all_given names) same ∙ all-given-bare is)

module _ (names : List NameText) where
  -- an instruction whose name is written
  with-name : (next byte : ℕ) (o : Op) (name : Name) (tokens rest : List Lexeme) → operation names o tokens rest → IsNamed names LocalName name.number → IsTrue (may_have_name o)
      → Written true true bare_inst (inst names next) (blank & blank & (local_phrase names name & blank & Mark 61 & blank) & op_phrase names o & line_end) (record { byte = byte; defines = Some name; op = o })
  unfolding ◌>>◌
  with-name next byte o name tokens rest is named may =
      made-at (record { byte = byte; defines = Some name; op = o }) (λ ts z. record { byte = byte_of ts; defines = Some z.0; op = z.1 }) (λ z. record { byte = 0; defines = Some z.0; op = z.1 })
      (λ ts z. refl) refl
      (λ z same ts rs (m, (k, l, equals), has).
      (begins-there names ts (token-begun _ _ ts k l), (m, inl (name-kept z.1 o (ap (λ y. y.1) same) ∙ may, (k, l, equals)), (rs, has, ([], refl)))))
      (behind-blank (behind-blank (pair (then-fixed (local-named names name named) (fixed-behind-blank (fixed-before-blank (mark-fixed 61 refl))) refl) (before-line (op-written names o tokens rest is)) refl)))

  -- one whose name is left out
  without-name : (next byte : ℕ) (o : Op) (name : Name) (tokens rest : List Lexeme) → operation names o tokens rest → IsTrue (has_value o) → IsNumbered names name.number next
      → Written true true bare_inst (inst names next) (blank & blank & Empty & op_phrase names o & line_end) (record { byte = byte; defines = Some name; op = o })
  unfolding ◌>>◌
  without-name next byte o name tokens rest is has numbered =
      made-at (record { byte = byte; defines = Some name; op = o }) (λ ts x. record { byte = byte_of ts; defines = Some (record { number = name.number; byte = byte_of ts }); op = x })
      (λ x. record { byte = 0; defines = Some (name_unplaced name); op = x }) (λ ts x. refl) refl
      (λ x same ts rs d. (begins-there names ts (op-begun names x ts rs d), (ts, inr ((value-kept x o same ∙ has, numbered, refl), refl), (rs, d, ([], refl)))))
      (behind-blank (behind-blank (empty-then (before-line (op-written names o tokens rest is)))))

  -- one that has none
  nameless : (next byte : ℕ) (o : Op) (tokens rest : List Lexeme) → operation names o tokens rest → has_value o ≡ false
      → Written true true bare_inst (inst names next) (blank & blank & Empty & op_phrase names o & line_end) (record { byte = byte; defines = None; op = o })
  unfolding ◌>>◌
  nameless next byte o tokens rest is none =
      made-at (record { byte = byte; defines = None; op = o }) (λ ts x. record { byte = byte_of ts; defines = None; op = x }) (λ x. record { byte = 0; defines = None; op = x }) (λ ts x. refl) refl
      (λ x same ts rs d. (begins-there names ts (op-begun names x ts rs d), (ts, (value-kept x o same ∙ none, refl), (rs, d, ([], refl)))))
      (behind-blank (behind-blank (empty-then (before-line (op-written names o tokens rest is)))))

  by-test : (next byte : ℕ) (o : Op) (name : Name) (test : Bool) (tokens a b : List Lexeme) → can_be_written (slice_get names name.number) ≡ test → naming names next byte o (Some name) tokens a → operation names o a b
      → Written true true bare_inst (inst names next) (blank & blank & (if test then local_phrase names name & blank & Mark 61 & blank else Empty) & op_phrase names o & line_end) (record { byte = byte; defines = Some name; op = o })
  unfolding ◌>>◌
  by-test next byte o name true tokens a b can (inl (may, (k, (l, at, of, (place, spells)), equals))) is = with-name next byte o name a b is (is-named names LocalName (drop 1 l.text) name.number spells) may
  by-test next byte o name true tokens a b can (inr ((has, numbered, place), same)) is = with-name next byte o name a b is (numbered-named names name.number next can numbered) (named-for-value o has)
  by-test next byte o name false tokens a b can (inl (may, (k, (l, at, of, (place, spells)), equals))) is = absurd (false≢true (sym can ∙ spelled-can names LocalName (drop 1 l.text) name.number spells))
  by-test next byte o name false tokens a b can (inr ((has, numbered, place), same)) is = without-name next byte o name a b is has numbered

  inst-of : (next byte : ℕ) (o : Op) (defines : Option Name) (tokens a b : List Lexeme) → naming names next byte o defines tokens a → operation names o a b
      → Written true true bare_inst (inst names next) (inst_phrase names (record { byte = byte; defines = defines; op = o })) (record { byte = byte; defines = defines; op = o })
  inst-of next byte o None tokens a b (none, same) is = nameless next byte o a b is none
  inst-of next byte o (Some name) tokens a b named is = by-test next byte o name (can_be_written (slice_get names name.number)) tokens a b refl named is

  pub inst-written : (next : ℕ) (i : Inst) (tokens rest : List Lexeme) → inst names next i tokens rest → Written true true bare_inst (inst names next) (inst_phrase names i) i
  unfolding ◌>>◌
  inst-written next i tokens rest (begins, (a, named, (b, is, dropped))) = inst-of next i.byte i.op i.defines tokens a b named is

  -- an instruction before others, of which there is one at least
  joined : (next : ℕ) (i j : Inst) (is : List Inst) (found : Inst) (others : List Inst) (tokens rest : List Lexeme) → map bare_inst others ≡ map bare_inst (j ∷ is) → is_terminator found.op ≡ false → given names found.defines ≡ given names i.defines
      → (inst names next found >> insts names (next_after names (given names i.defines) next) others) tokens rest → insts names next (found ∷ others) tokens rest
  unfolding ◌>>◌
  joined next i j is found [] tokens rest same no_end names_same d = absurd cc
  joined next i j is found (x ∷ xs) tokens rest same no_end names_same (k, one, more) =
      (no_end, (k, one, subst (λ g. insts names (next_after names g next) (x ∷ xs) k rest) (sym names_same) more))

  pub insts-written : (next : ℕ) (is : List Inst) (tokens rest : List Lexeme) → insts names next is tokens rest → Written true true (map bare_inst) (insts names next) (each_phrase (inst_phrase names) is) is
  unfolding ◌>>◌
  insts-written next [] tokens rest d = absurd d
  insts-written next (i ∷ []) tokens rest (ends, one) =
      made-same (λ x. x ∷ []) (λ x. x ∷ []) (λ x. refl) (λ x same ts rs has. (terminator-kept x.op i.op (ap (λ (y : Inst). y.op) same) ∙ ends, has)) (then-empty (inst-written next i tokens rest one))
  insts-written next (i ∷ j ∷ is) tokens rest (no_end, (m, one, more)) =
      made-same (λ z. z.0 ∷ z.1) (λ z. z.0 ∷ z.1) (λ z. refl)
      (λ z same ts rs has. joined next i j is z.0 z.1 ts rs (ap (λ y. y.1) same) (terminator-kept z.0.op i.op (ap (λ y. y.0.op) same) ∙ no_end) (given-kept names z.0 i (ap (λ y. y.0) same)) has)
      (pair (inst-written next i tokens m one) (insts-written (next_after names (given names i.defines) next) (j ∷ is) m rest more) refl)

  from-place : (byte : ℕ) (tokens : List Lexeme) → begins_at names byte tokens → Begun tokens
  from-place byte [] none = none
  from-place byte (first ∷ rest) is = refl

  pub insts-begun : (next : ℕ) (is : List Inst) (tokens rest : List Lexeme) → insts names next is tokens rest → Begun tokens
  unfolding ◌>>◌
  insts-begun next [] tokens rest d = absurd d
  insts-begun next (i ∷ []) tokens rest (ends, (begins, d)) = from-place i.byte tokens begins
  insts-begun next (i ∷ j ∷ is) tokens rest (no_end, (m, (begins, d), more)) = from-place i.byte tokens begins
