-- Instructions in a text and the tokens that they are read as.
use Rattle.std.proofs.Common.{◌≡◌, ℕ, ◌≤◌, Bool, true, false, List, [], ◌∷◌, ◌++◌, map, length, refl, sym, ◌∙◌, ap, ap₂, subst, arith, append_assoc}
use Rattle.std.specs.Prelude.{codes, flat_map}
use Rattle.ll_tokens.specs.declared.kinds.TokenKind.TheVariants.{Int as IntToken, Word}
use Rattle.ll_tokens.specs.Breaks.{begins_with_break}
use Rattle.ll_tokens.specs.Forms.{has_form}
use Rattle.ll_tree.specs.declared.name.Name.{Name}
use Rattle.ll_tree.specs.declared.name.NameText.{NameText}
use Rattle.ll_parser.specs.Productions.{Production, each}
use Rattle.kernel_tree.specs.declared.kernel.KernelInst.{KernelInst}
use Rattle.kernel_tree.specs.declared.kernel.KernelInst.TheVariants.{Add, Load, Store}
use Rattle.kernel_tree.specs.Text.{access_text, align_text, inst_text, name_text}
use Rattle.kernel_text.specs.declared.name_sorts.NameSort.TheVariants as sort
use Rattle.kernel_text.specs.declared.phrases.Phrase.TheVariants as phrase
use Rattle.kernel_text.specs.Grammar.{align, inst}
use Rattle.kernel_text.specs.NameSorts.{written_name}
use Rattle.kernel_text.specs.Phrases.{words_of, pieces_of}
use Rattle.kernel_reading.proofs.BareForms.{bare_inst}
use Rattle.kernel_reading.proofs.NameReads.{IsNumberName, local-begins, placed}
use Rattle.kernel_reading.proofs.PhraseReads.{Part, Gap, Mark, Solid, Begins, before, behind-parts, behind-text, before-line, blank-begins, no-text, phrase-begins, place, same-text, then}

abbrev comma : List Part
comma = Mark 44 ∷ Gap 32 ∷ []

abbrev add_words : List Part
add_words = Gap 32 ∷ Mark 61 ∷ Gap 32 ∷ Solid Word (codes "add") ∷ Gap 32 ∷ Solid Word (codes "i32") ∷ Gap 32 ∷ []

-- `, i32 addrspace(1)* `
abbrev pointer_operand : List Part
pointer_operand =
    Mark 44 ∷ Gap 32 ∷ Solid Word (codes "i32") ∷ Gap 32 ∷ Solid Word (codes "addrspace") ∷ Mark 40 ∷ Solid IntToken (codes "1") ∷ Mark 41 ∷ Mark 42 ∷ Gap 32 ∷ []

abbrev load_words : List Part
load_words = Gap 32 ∷ Mark 61 ∷ Gap 32 ∷ Solid Word (codes "load") ∷ Gap 32 ∷ Solid Word (codes "i32") ∷ pointer_operand

abbrev store_words : List Part
store_words = Gap 32 ∷ Gap 32 ∷ Solid Word (codes "store") ∷ Gap 32 ∷ Solid Word (codes "i32") ∷ Gap 32 ∷ []

abbrev align_words : List Part
align_words = Mark 44 ∷ Gap 32 ∷ Solid Word (codes "align") ∷ Gap 32 ∷ Solid IntToken (codes "4") ∷ Gap 10 ∷ []

-- a text behind two blanks
abbrev indented : List ℕ → List ℕ
indented text = 32 ∷ 32 ∷ text

-- the text of a name and what stands behind it; 37 is `%`
abbrev local_before : Name → List ℕ → List ℕ
local_before name rest = 37 ∷ (name_text name ++ rest)

abbrev align_before : Bool → List ℕ → List ℕ
align_before true rest = before align_words rest
align_before false rest = 10 ∷ rest

-- the text of an instruction before another text, without brackets
abbrev inst_before : KernelInst → List ℕ → List ℕ
inst_before (Add sum left right) rest = indented (local_before sum (before add_words (local_before left (before comma (local_before right (10 ∷ rest))))))
inst_before (Load loaded pointer is_aligned) rest = indented (local_before loaded (before load_words (local_before pointer (align_before is_aligned rest))))
inst_before (Store value pointer is_aligned) rest = before store_words (local_before value (before pointer_operand (local_before pointer (align_before is_aligned rest))))

aligned-grouped : (is_aligned : Bool) (rest : List ℕ) → (align_text is_aligned ++ 10 ∷ []) ++ rest ≡ align_before is_aligned rest
aligned-grouped true rest = refl
aligned-grouped false rest = refl

-- the text of a pointer operand
access-grouped : (pointer : Name) (is_aligned : Bool) (rest : List ℕ)
    → (access_text pointer is_aligned ++ 10 ∷ []) ++ rest ≡ codes "i32 addrspace(1)* " ++ local_before pointer (align_before is_aligned rest)
access-grouped pointer is_aligned rest =
    ap (λ (t : List ℕ). codes "i32 addrspace(1)* %" ++ t)
    (append_assoc (name_text pointer ++ align_text is_aligned) (10 ∷ []) rest
    ∙ (append_assoc (name_text pointer) (align_text is_aligned) (10 ∷ rest)
    ∙ ap (λ (t : List ℕ). name_text pointer ++ t) (sym (append_assoc (align_text is_aligned) (10 ∷ []) rest) ∙ aligned-grouped is_aligned rest)))

inst-grouped : (i : KernelInst) (rest : List ℕ) → inst_text i ++ rest ≡ inst_before i rest
inst-grouped (Add sum left right) rest =
    ap (λ (t : List ℕ). codes "  %" ++ t)
    (append_assoc (name_text sum) _ rest
    ∙ ap (λ (t : List ℕ). name_text sum ++ (codes " = add i32 %" ++ t))
    (append_assoc (name_text left) _ rest
    ∙ ap (λ (t : List ℕ). name_text left ++ (codes ", %" ++ t)) (append_assoc (name_text right) (10 ∷ []) rest)))
inst-grouped (Load loaded pointer is_aligned) rest =
    ap (λ (t : List ℕ). codes "  %" ++ t)
    (append_assoc (name_text loaded) _ rest
    ∙ ap (λ (t : List ℕ). name_text loaded ++ (codes " = load i32, " ++ t)) (access-grouped pointer is_aligned rest))
inst-grouped (Store value pointer is_aligned) rest =
    ap (λ (t : List ℕ). codes "  store i32 %" ++ t)
    (append_assoc (name_text value) _ rest
    ∙ ap (λ (t : List ℕ). name_text value ++ (codes ", " ++ t)) (access-grouped pointer is_aligned rest))

-- the names of an instruction are numbers
abbrev pub IsNumberedInst : List NameText → KernelInst → Type 0
IsNumberedInst names (Add sum left right) = IsNumberName names sum × IsNumberName names left × IsNumberName names right
IsNumberedInst names (Load loaded pointer is_aligned) = IsNumberName names loaded × IsNumberName names pointer
IsNumberedInst names (Store value pointer is_aligned) = IsNumberName names value × IsNumberName names pointer

abbrev pub AreNumberedInsts : List NameText → List KernelInst → Type 0
AreNumberedInsts names [] = Unit {0}
AreNumberedInsts names (i ∷ is) = IsNumberedInst names i × AreNumberedInsts names is

-- a text begins with an instruction that is this one with names at some places
pub record BeginsInst (total : ℕ) (names : List NameText) (i : KernelInst) (text rest : List ℕ) : Type 0 where
  pub found : KernelInst
  pub same : bare_inst found ≡ bare_inst i
  pub begins : Begins total (inst names found) text rest

module _ (total : ℕ) (rest : List ℕ) where
  comma-begins : length (before comma rest) ≤ total → Begins total (words_of phrase.Comma) (before comma rest) rest
  unfolding has_form pieces_of
  comma-begins le = phrase-begins total comma rest refl le

  add-begins : length (before add_words rest) ≤ total → Begins total (words_of phrase.AddWords) (before add_words rest) rest
  unfolding has_form pieces_of
  add-begins le = phrase-begins total add_words rest refl le

  load-begins : length (before load_words rest) ≤ total → Begins total (words_of phrase.LoadWords) (before load_words rest) rest
  unfolding has_form pieces_of
  load-begins le = phrase-begins total load_words rest refl le

  store-begins : length (before store_words rest) ≤ total → Begins total (words_of phrase.StoreWords) (before store_words rest) rest
  unfolding has_form pieces_of
  store-begins le = phrase-begins total store_words rest refl le

  operand-begins : length (before pointer_operand rest) ≤ total → Begins total (words_of phrase.PointerOperand) (before pointer_operand rest) rest
  unfolding has_form pieces_of
  operand-begins le = phrase-begins total pointer_operand rest refl le

  align-begins : (is_aligned : Bool) → length (align_before is_aligned rest) ≤ total → Begins total (align is_aligned) (align_before is_aligned rest) rest
  unfolding has_form pieces_of
  align-begins true le = phrase-begins total align_words rest refl le
  align-begins false le = phrase-begins total (Gap 10 ∷ []) rest refl le

indented-begins : (total : ℕ) (production : Production) (text rest : List ℕ) → Begins total production text rest → Begins total production (indented text) rest
indented-begins total production text rest begins =
    blank-begins total production 32 (32 ∷ text) rest refl (blank-begins total production 32 text rest refl begins)

align-breaks : (is_aligned : Bool) (rest : List ℕ) → begins_with_break (align_before is_aligned rest) ≡ true
align-breaks true rest = refl
align-breaks false rest = refl

-- what stands behind a name is no longer than both
behind-local : (total : ℕ) (name : Name) (rest : List ℕ) → length (local_before name rest) ≤ total → length rest ≤ total
behind-local total name rest le = behind-text total (37 ∷ name_text name) rest le

-- a name before a line's end
last-begins : (total : ℕ) (names : List NameText) (name : Name) (rest : List ℕ) → IsNumberName names name → length (local_before name (10 ∷ rest)) ≤ total
    → Begins total (written_name sort.Value names (placed (place total (local_before name (10 ∷ rest))) name)) (local_before name (10 ∷ rest)) rest
last-begins total names name rest is le =
    before-line total _ _ rest (local-begins total names name (10 ∷ rest) is refl le)

module _ (total : ℕ) (names : List NameText) where
  plain-begins : (i : KernelInst) (rest : List ℕ) → IsNumberedInst names i → length (inst_before i rest) ≤ total → BeginsInst total names i (inst_before i rest) rest
  plain-begins (Add sum left right) rest is le =
      let third = local_before right (10 ∷ rest) in
      let second = local_before left (before comma third) in
      let first = local_before sum (before add_words second) in
      let first_le : length first ≤ total = omega (arith, le) in
      let words_le = behind-local total sum (before add_words second) first_le in
      let second_le = behind-parts total add_words second words_le in
      let comma_le = behind-local total left (before comma third) second_le in
      record {
        found = Add (placed (place total first) sum) (placed (place total second) left) (placed (place total third) right);
        same = refl;
        begins = indented-begins total _ first rest
            (then total _ _ _ _ rest (local-begins total names sum (before add_words second) is.0 refl first_le)
            (then total _ _ _ _ rest (add-begins total second words_le)
            (then total _ _ _ _ rest (local-begins total names left (before comma third) is.1 refl second_le)
            (then total _ _ _ _ rest (comma-begins total third comma_le) (last-begins total names right rest is.2 (behind-parts total comma third comma_le))))));
      }
  plain-begins (Load loaded pointer is_aligned) rest is le =
      let last = align_before is_aligned rest in
      let second = local_before pointer last in
      let first = local_before loaded (before load_words second) in
      let first_le : length first ≤ total = omega (arith, le) in
      let words_le = behind-local total loaded (before load_words second) first_le in
      let second_le = behind-parts total load_words second words_le in
      record {
        found = Load (placed (place total first) loaded) (placed (place total second) pointer) is_aligned;
        same = refl;
        begins = indented-begins total _ first rest
            (then total _ _ _ _ rest (local-begins total names loaded (before load_words second) is.0 refl first_le)
            (then total _ _ _ _ rest (load-begins total second words_le)
            (then total _ _ _ _ rest (local-begins total names pointer last is.1 (align-breaks is_aligned rest) second_le)
            (align-begins total rest is_aligned (behind-local total pointer last second_le)))));
      }
  plain-begins (Store value pointer is_aligned) rest is le =
      let last = align_before is_aligned rest in
      let second = local_before pointer last in
      let first = local_before value (before pointer_operand second) in
      let first_le = behind-parts total store_words first le in
      let words_le = behind-local total value (before pointer_operand second) first_le in
      let second_le = behind-parts total pointer_operand second words_le in
      record {
        found = Store (placed (place total first) value) (placed (place total second) pointer) is_aligned;
        same = refl;
        begins =
            then total _ _ _ _ rest (store-begins total first le)
            (then total _ _ _ _ rest (local-begins total names value (before pointer_operand second) is.0 refl first_le)
            (then total _ _ _ _ rest (operand-begins total second words_le)
            (then total _ _ _ _ rest (local-begins total names pointer last is.1 (align-breaks is_aligned rest) second_le)
            (align-begins total rest is_aligned (behind-local total pointer last second_le)))));
      }

  inst-begins : (i : KernelInst) (rest : List ℕ) → IsNumberedInst names i → length (inst_text i ++ rest) ≤ total → BeginsInst total names i (inst_text i ++ rest) rest
  inst-begins i rest is le =
      subst (λ (text : List ℕ). BeginsInst total names i text rest) (sym (inst-grouped i rest))
      (plain-begins i rest is (subst (λ (text : List ℕ). length text ≤ total) (inst-grouped i rest) le))

-- a text begins with instructions that are these with names at some places
pub record BeginsInsts (total : ℕ) (names : List NameText) (insts : List KernelInst) (text rest : List ℕ) : Type 0 where
  pub found : List KernelInst
  pub same : map bare_inst found ≡ map bare_inst insts
  pub begins : Begins total (each (inst names) found) text rest

one-more : (first other : KernelInst) (more others : List KernelInst) → bare_inst first ≡ bare_inst other → map bare_inst more ≡ map bare_inst others
    → map bare_inst (first ∷ more) ≡ map bare_inst (other ∷ others)
one-more first other more others one all = ap₂ (λ (x : KernelInst) (xs : List KernelInst). x ∷ xs) one all

pub insts-begin : (total : ℕ) (names : List NameText) (insts : List KernelInst) (rest : List ℕ) → AreNumberedInsts names insts
    → length (flat_map inst_text insts ++ rest) ≤ total → BeginsInsts total names insts (flat_map inst_text insts ++ rest) rest
insts-begin total names [] rest are le = record { found = []; same = refl; begins = no-text total rest }
insts-begin total names (i ∷ insts) rest are le =
    let last = flat_map inst_text insts ++ rest in
    let grouped : flat_map inst_text (i ∷ insts) ++ rest ≡ inst_text i ++ last = append_assoc (inst_text i) (flat_map inst_text insts) rest in
    let whole : length (inst_text i ++ last) ≤ total = subst (λ (t : List ℕ). length t ≤ total) grouped le in
    let first = inst-begins total names i last are.0 whole in
    let more = insts-begin total names insts rest are.1 (behind-text total (inst_text i) last whole) in
    record {
      found = first.found ∷ more.found;
      same = one-more first.found i more.found insts first.same more.same;
      begins = same-text total _ _ _ rest (sym grouped) (then total _ _ _ _ rest first.begins more.begins);
    }
