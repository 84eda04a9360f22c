-- The text of a kernel and the tokens that it is read as.
use Rattle.std.proofs.Common.{◌≡◌, ℕ, ◌≤◌, Bool, true, false, List, [], ◌∷◌, ◌++◌, length, Some, slice_get, refl, sym, ◌∙◌, ap, ap₂, subst, arith, append_assoc, inl}
use Rattle.std.specs.Prelude.{codes, flat_map}
use Rattle.ll_tokens.specs.declared.kinds.TokenKind.TheVariants.{Global as GlobalToken, Str, Word}
use Rattle.ll_tokens.specs.Forms.{has_form}
use Rattle.ll_tokens.specs.Tokens.{Lexeme, IsTokens, has_kind}
use Rattle.ll_tokens.proofs.Blanks.{behind_nil}
use Rattle.ll_tree.specs.declared.name.Name.{Name}
use Rattle.ll_tree.specs.declared.name.NameKind.TheVariants.{Global}
use Rattle.ll_tree.specs.declared.name.NameText.{NameText}
use Rattle.ll_tree.specs.declared.name.Spelling.TheVariants.{Text}
use Rattle.kernel_tree.specs.declared.kernel.Kernel.{Kernel}
use Rattle.kernel_tree.specs.declared.kernel.KernelInst.{KernelInst}
use Rattle.kernel_tree.specs.declared.kernel.KernelParam.{KernelParam}
use Rattle.kernel_tree.specs.Modules.{layout_text, triple_text}
use Rattle.kernel_tree.specs.Numbered.{bytes_of_entry, name_bytes}
use Rattle.kernel_tree.specs.Text.{end_lines, inst_text, kernel_text, label_line, name_text, params_text, targets_text}
use Rattle.kernel_text.specs.declared.phrases.Phrase.TheVariants as phrase
use Rattle.kernel_text.specs.Grammar.{kernel as kernel_production, targets, block_name, number_behind}
use Rattle.kernel_text.specs.NameSorts.{is_kernel_name}
use Rattle.kernel_text.specs.Phrases.{words_of, pieces_of, quoted}
use Rattle.kernel_reading.proofs.BareForms.{bare}
use Rattle.kernel_reading.proofs.InstReads.{AreNumberedInsts, insts-begin}
use Rattle.kernel_reading.proofs.NameReads.{IsNumberName, label-begins, own-begins, placed}
use Rattle.kernel_reading.proofs.ParamReads.{AreNumbered, params-begin}
use Rattle.kernel_reading.proofs.PhraseReads.{Part, Gap, Mark, Solid, Begins, before, behind-parts, behind-text, before-line, no-text, phrase-begins, place, then}

abbrev target_words : List Part
target_words =
    Solid Word (codes "target") ∷ Gap 32 ∷ Solid Word (codes "datalayout") ∷ Gap 32 ∷ Mark 61 ∷ Gap 32 ∷ Solid Str (quoted layout_text) ∷ Gap 10 ∷
    Solid Word (codes "target") ∷ Gap 32 ∷ Solid Word (codes "triple") ∷ Gap 32 ∷ Mark 61 ∷ Gap 32 ∷ Solid Str (quoted triple_text) ∷ Gap 10 ∷ []

abbrev kernel_words : List Part
kernel_words = Solid Word (codes "define") ∷ Gap 32 ∷ Solid Word (codes "spir_kernel") ∷ Gap 32 ∷ Solid Word (codes "void") ∷ Gap 32 ∷ []

abbrev start_words : List Part
start_words = Mark 41 ∷ Gap 32 ∷ Mark 123 ∷ Gap 10 ∷ []

abbrev end_words : List Part
end_words = Gap 32 ∷ Gap 32 ∷ Solid Word (codes "ret") ∷ Gap 32 ∷ Solid Word (codes "void") ∷ Gap 10 ∷ Mark 125 ∷ Gap 10 ∷ []

module _ (total : ℕ) (rest : List ℕ) where
  targets-begin : (has_targets : Bool) → length (targets_text has_targets ++ rest) ≤ total → Begins total (targets has_targets) (targets_text has_targets ++ rest) rest
  unfolding has_form pieces_of
  targets-begin true le = phrase-begins total target_words rest refl le
  targets-begin false le = no-text total rest

  words-begin : length (before kernel_words rest) ≤ total → Begins total (words_of phrase.KernelWords) (before kernel_words rest) rest
  unfolding has_form pieces_of
  words-begin le = phrase-begins total kernel_words rest refl le

  open-begins : length (40 ∷ rest) ≤ total → Begins total (words_of phrase.ParamsStart) (40 ∷ rest) rest
  unfolding has_form pieces_of
  open-begins le = phrase-begins total (Mark 40 ∷ []) rest refl le

  start-begins : length (before start_words rest) ≤ total → Begins total (words_of phrase.BodyStart) (before start_words rest) rest
  unfolding has_form pieces_of
  start-begins le = phrase-begins total start_words rest refl le

  end-begins : length (before end_words rest) ≤ total → Begins total (words_of phrase.BodyEnd) (before end_words rest) rest
  unfolding has_form pieces_of
  end-begins le = phrase-begins total end_words rest refl le

-- a written label is a name of the block
label-is-name : (total next : ℕ) (names : List NameText) (name : Name) (rest : List ℕ) → IsNumberName names name → length ((name_text name ++ 58 ∷ []) ++ (10 ∷ rest)) ≤ total
    → Begins total (block_name next names (placed (place total ((name_text name ++ 58 ∷ []) ++ (10 ∷ rest))) name)) ((name_text name ++ 58 ∷ []) ++ (10 ∷ rest)) rest
label-is-name total next names name rest is le =
    let begins = label-begins total names name (10 ∷ rest) is refl le in
    let lined = before-line total _ _ rest begins in
    record { reads = λ behind are. let at = lined.reads behind are in (at.0, inl at.1, at.2) }

-- the names of a kernel are numbers, but for its own
pub record HasNumberNames (kernel : Kernel) : Type 0 where
  pub params : AreNumbered kernel.names kernel.params
  pub block : IsNumberName kernel.names kernel.block
  pub insts : AreNumberedInsts kernel.names kernel.insts

-- the text of a kernel without brackets
abbrev body_text : Kernel → List ℕ
body_text kernel = flat_map inst_text kernel.insts ++ end_lines

abbrev block_text : Kernel → List ℕ
block_text kernel = (name_text kernel.block ++ 58 ∷ []) ++ (10 ∷ body_text kernel)

abbrev inner_text : Kernel → List ℕ
inner_text kernel = params_text kernel.params ++ before start_words (block_text kernel)

abbrev head_text : Kernel → List ℕ → List ℕ
head_text kernel bytes = before kernel_words (64 ∷ (bytes ++ (40 ∷ inner_text kernel)))

label-grouped : (kernel : Kernel) → label_line kernel.block ++ body_text kernel ≡ before start_words (block_text kernel)
label-grouped kernel =
    ap (λ (t : List ℕ). before start_words t)
    (append_assoc (name_text kernel.block) (58 ∷ 10 ∷ []) (body_text kernel) ∙ sym (append_assoc (name_text kernel.block) (58 ∷ []) (10 ∷ body_text kernel)))

text-grouped : (kernel : Kernel) (bytes : List ℕ) → name_bytes kernel ≡ bytes → kernel_text kernel ≡ targets_text kernel.has_targets ++ head_text kernel bytes
text-grouped kernel bytes named =
    ap (λ (t : List ℕ). targets_text kernel.has_targets ++ before kernel_words (64 ∷ t))
    (append_assoc (name_bytes kernel) (40 ∷ []) (params_text kernel.params ++ (label_line kernel.block ++ body_text kernel))
    ∙ ap₂ (λ (own t : List ℕ). own ++ (40 ∷ (params_text kernel.params ++ t))) named (label-grouped kernel))

-- a kernel with other places of names
abbrev kernel_at : Kernel → Name → List KernelParam → Name → List KernelInst → Kernel
kernel_at kernel name params block insts =
    record { has_targets = kernel.has_targets; name = name; params = params; block = block; insts = insts; names = kernel.names }

-- a text is read as a kernel that is this one with names at some places
pub record ReadsKernel (kernel : Kernel) (text : List ℕ) : Type 0 where
  pub found : Kernel
  pub same : bare found ≡ bare kernel
  pub tokens : List Lexeme
  pub reads : kernel_production found.names found tokens []
  pub are_tokens : IsTokens text tokens

module _ (kernel : Kernel) (bytes : List ℕ) (entry : slice_get kernel.names kernel.name.number ≡ Some (record { kind = Global; spelling = Text bytes }))
    (has : has_kind GlobalToken (64 ∷ bytes) ≡ true) (allowed : is_kernel_name bytes ≡ true) (numbers : HasNumberNames kernel) where
  all-read : ReadsKernel kernel (targets_text kernel.has_targets ++ head_text kernel bytes)
  all-read =
      let text = targets_text kernel.has_targets ++ head_text kernel bytes in
      let total = length text in
      let own_text = 64 ∷ (bytes ++ (40 ∷ inner_text kernel)) in
      let whole : length text ≤ total = omega arith in
      let head_le = behind-text total (targets_text kernel.has_targets) (head_text kernel bytes) whole in
      let own_le = behind-parts total kernel_words own_text head_le in
      let open_le = behind-text total (64 ∷ bytes) (40 ∷ inner_text kernel) own_le in
      let params_le : length (inner_text kernel) ≤ total = omega (arith, open_le) in
      let start_le = behind-text total (params_text kernel.params) (before start_words (block_text kernel)) params_le in
      let block_le = behind-parts total start_words (block_text kernel) start_le in
      let line_le = behind-text total (name_text kernel.block ++ 58 ∷ []) (10 ∷ body_text kernel) block_le in
      let body_le : length (body_text kernel) ≤ total = omega (arith, line_le) in
      let end_le = behind-text total (flat_map inst_text kernel.insts) end_lines body_le in
      let params = params-begin total kernel.names kernel.params (before start_words (block_text kernel)) numbers.params refl params_le in
      let insts = insts-begin total kernel.names kernel.insts end_lines numbers.insts body_le in
      let begins =
      then total _ _ _ _ [] (targets-begin total (head_text kernel bytes) kernel.has_targets whole)
      (then total _ _ _ _ [] (words-begin total own_text head_le)
      (then total _ _ _ _ [] (own-begins total kernel.names kernel.name bytes (40 ∷ inner_text kernel) entry has allowed refl own_le)
      (then total _ _ _ _ [] (open-begins total (inner_text kernel) open_le)
      (then total _ _ _ _ [] params.begins
      (then total _ _ _ _ [] (start-begins total (block_text kernel) start_le)
      (then total _ _ _ _ [] (label-is-name total (number_behind kernel.names params.found) kernel.names kernel.block (body_text kernel) numbers.block block_le)
      (then total _ _ _ _ [] insts.begins (end-begins total [] end_le)))))))) in
      let read = begins.reads [] (behind_nil false) in
      record {
        found = kernel_at kernel (placed (place total own_text) kernel.name) params.found (placed (place total (block_text kernel)) kernel.block) insts.found;
        same = ap₂ (λ (ps : List KernelParam) (is : List KernelInst). record { has_targets = kernel.has_targets; name = record { number = kernel.name.number; byte = 0 }; params = ps; block = record { number = kernel.block.number; byte = 0 }; insts = is; names = kernel.names }) params.same insts.same;
        tokens = read.0;
        reads = read.1;
        are_tokens = read.2;
      }

  pub kernel-read : ReadsKernel kernel (kernel_text kernel)
  kernel-read = subst (ReadsKernel kernel) (sym (text-grouped kernel bytes (ap bytes_of_entry entry))) all-read
