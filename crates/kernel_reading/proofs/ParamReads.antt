-- Parameters in a text and the tokens that they are read as.
use Rattle.std.proofs.Common.{◌≡◌, ℕ, ◌≤◌, true, List, [], ◌∷◌, ◌++◌, map, length, refl, sym, ap, ap₂, subst, arith, append_assoc}
use Rattle.std.specs.Prelude.{codes}
use Rattle.ll_tokens.specs.declared.kinds.TokenKind.TheVariants.{Int as IntToken, Word}
use Rattle.ll_tokens.specs.Breaks.{begins_with_break}
use Rattle.ll_tokens.specs.Forms.{has_form}
use Rattle.ll_tree.specs.declared.name.Name.{Name}
use Rattle.ll_tree.specs.declared.name.NameText.{NameText}
use Rattle.ll_parser.specs.Productions.{Production, each_behind_comma, listed}
use Rattle.kernel_tree.specs.declared.kernel.KernelParam.{KernelParam}
use Rattle.kernel_tree.specs.declared.kernel.ValueType.{ValueType}
use Rattle.kernel_tree.specs.declared.kernel.ValueType.TheVariants.{Int, Pointer}
use Rattle.kernel_tree.specs.Text.{name_text, param_text, params_behind, params_text}
use Rattle.kernel_text.specs.declared.phrases.Phrase.TheVariants as phrase
use Rattle.kernel_text.specs.Grammar.{param}
use Rattle.kernel_text.specs.Phrases.{words_of, pieces_of}
use Rattle.kernel_reading.proofs.BareForms.{bare_param}
use Rattle.kernel_reading.proofs.NameReads.{IsNumberName, local-begins, placed}
use Rattle.kernel_reading.proofs.PhraseReads.{Part, Gap, Mark, Solid, Begins, before, behind-parts, behind-text, blank-begins, mark-begins, no-text, phrase-begins, place, same-text, then}

-- a text begins with a parameter that is this one at some place
pub record BeginsParam (total : ℕ) (names : List NameText) (p : KernelParam) (text rest : List ℕ) : Type 0 where
  pub found : KernelParam
  pub same : bare_param found ≡ bare_param p
  pub begins : Begins total (param names found) text rest

abbrev int_words : List Part
int_words = Solid Word (codes "i32") ∷ Gap 32 ∷ []

abbrev suffix_words : List Part
suffix_words = Solid Word (codes "addrspace") ∷ Mark 40 ∷ Solid IntToken (codes "1") ∷ Mark 41 ∷ Mark 42 ∷ Gap 32 ∷ []

int-begins : (total : ℕ) (rest : List ℕ) → length (before int_words rest) ≤ total → Begins total (words_of phrase.IntType) (before int_words rest) rest
unfolding has_form pieces_of
int-begins total rest le = phrase-begins total int_words rest refl le

suffix-begins : (total : ℕ) (rest : List ℕ) → length (before suffix_words rest) ≤ total → Begins total (words_of phrase.PointerSuffix) (before suffix_words rest) rest
unfolding has_form pieces_of
suffix-begins total rest le = phrase-begins total suffix_words rest refl le

module _ (total : ℕ) (names : List NameText) where
  typed-begins : (value_type : ValueType) (name : Name) (rest : List ℕ) → IsNumberName names name → begins_with_break rest ≡ true
      → length (param_text (record { value_type = value_type; name = name }) ++ rest) ≤ total
      → BeginsParam total names (record { value_type = value_type; name = name }) (param_text (record { value_type = value_type; name = name }) ++ rest) rest
  typed-begins Int name rest is breaks le =
      let text = 37 ∷ (name_text name ++ rest) in
      let inner = behind-parts total int_words text le in
      record {
        found = record { value_type = Int; name = placed (place total text) name };
        same = refl;
        begins = then total _ _ _ _ rest (int-begins total text le) (then total _ _ _ _ rest (no-text total text) (local-begins total names name rest is breaks inner));
      }
  typed-begins Pointer name rest is breaks le =
      let text = 37 ∷ (name_text name ++ rest) in
      let inner = behind-parts total int_words (before suffix_words text) le in
      record {
        found = record { value_type = Pointer; name = placed (place total text) name };
        same = refl;
        begins = then total _ _ _ _ rest (int-begins total (before suffix_words text) le)
            (then total _ _ _ _ rest (suffix-begins total text inner) (local-begins total names name rest is breaks (behind-parts total suffix_words text inner)));
      }

  pub param-begins : (p : KernelParam) (rest : List ℕ) → IsNumberName names p.name → begins_with_break rest ≡ true
      → length (param_text p ++ rest) ≤ total → BeginsParam total names p (param_text p ++ rest) rest
  param-begins p rest is breaks le = typed-begins p.value_type p.name rest is breaks le

-- each parameter's name is a number
abbrev pub AreNumbered : List NameText → List KernelParam → Type 0
AreNumbered names [] = Unit {0}
AreNumbered names (p ∷ ps) = IsNumberName names p.name × AreNumbered names ps

-- a text begins with parameters that are these at some places, as a production joins them
pub record BeginsParams (total : ℕ) (joined : List KernelParam → Production) (ps : List KernelParam) (text rest : List ℕ) : Type 0 where
  pub found : List KernelParam
  pub same : map bare_param found ≡ map bare_param ps
  pub begins : Begins total (joined found) text rest

breaks-behind : (ps : List KernelParam) (rest : List ℕ) → begins_with_break rest ≡ true → begins_with_break (params_behind ps ++ rest) ≡ true
breaks-behind [] rest breaks = breaks
breaks-behind (p ∷ ps) rest breaks = refl

-- a text without its brackets
grouped : (p : KernelParam) (ps : List KernelParam) (rest : List ℕ) → params_text (p ∷ ps) ++ rest ≡ param_text p ++ (params_behind ps ++ rest)
grouped p ps rest = append_assoc (param_text p) (params_behind ps) rest

grouped-behind : (p : KernelParam) (ps : List KernelParam) (rest : List ℕ) → params_behind (p ∷ ps) ++ rest ≡ 44 ∷ 32 ∷ (param_text p ++ (params_behind ps ++ rest))
grouped-behind p ps rest = ap (λ (t : List ℕ). 44 ∷ 32 ∷ t) (append_assoc (param_text p) (params_behind ps) rest)

one-more : (first other : KernelParam) (more others : List KernelParam) → bare_param first ≡ bare_param other → map bare_param more ≡ map bare_param others
    → map bare_param (first ∷ more) ≡ map bare_param (other ∷ others)
one-more first other more others one all = ap₂ (λ (x : KernelParam) (xs : List KernelParam). x ∷ xs) one all

module _ (total : ℕ) (names : List NameText) where
  behind-begins : (ps : List KernelParam) (rest : List ℕ) → AreNumbered names ps → begins_with_break rest ≡ true
      → length (params_behind ps ++ rest) ≤ total → BeginsParams total (each_behind_comma (param names)) ps (params_behind ps ++ rest) rest
  behind-begins [] rest are breaks le = record { found = []; same = refl; begins = no-text total rest }
  behind-begins (p ∷ ps) rest are breaks le =
      let last = params_behind ps ++ rest in
      let text = param_text p ++ last in
      let whole : length (44 ∷ 32 ∷ text) ≤ total = subst (λ (t : List ℕ). length t ≤ total) (grouped-behind p ps rest) le in
      let inner : length text ≤ total = omega (arith, whole) in
      let first = param-begins total names p last are.0 (breaks-behind ps rest breaks) inner in
      let more = behind-begins ps rest are.1 breaks (behind-text total (param_text p) last inner) in
      record {
        found = first.found ∷ more.found;
        same = one-more first.found p more.found ps first.same more.same;
        begins = same-text total _ _ _ rest (sym (grouped-behind p ps rest))
            (then total _ _ _ _ rest (mark-begins total 44 (32 ∷ text) refl whole)
            (then total _ _ _ _ rest (blank-begins total _ 32 text last refl first.begins) more.begins));
      }

  pub params-begin : (ps : List KernelParam) (rest : List ℕ) → AreNumbered names ps → begins_with_break rest ≡ true
      → length (params_text ps ++ rest) ≤ total → BeginsParams total (listed (param names)) ps (params_text ps ++ rest) rest
  params-begin [] rest are breaks le = record { found = []; same = refl; begins = no-text total rest }
  params-begin (p ∷ ps) rest are breaks le =
      let last = params_behind ps ++ rest in
      let whole : length (param_text p ++ last) ≤ total = subst (λ (t : List ℕ). length t ≤ total) (grouped p ps rest) le in
      let first = param-begins total names p last are.0 (breaks-behind ps rest breaks) whole in
      let more = behind-begins ps rest are.1 breaks (behind-text total (param_text p) last whole) in
      record {
        found = first.found ∷ more.found;
        same = one-more first.found p more.found ps first.same more.same;
        begins = same-text total _ _ _ rest (sym (grouped p ps rest)) (then total _ _ _ _ rest first.begins more.begins);
      }
