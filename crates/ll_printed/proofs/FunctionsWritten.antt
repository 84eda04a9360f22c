-- Functions with their bodies are read as they are written.
use Rattle.std.proofs.Common.{◌≡◌, ℕ, Bool, true, false, List, [], ◌∷◌, ◌++◌, map, Option, None, Some, codes, refl, sym, ◌∙◌, ap, subst}
use Rattle.std.specs.Prelude.{flat_map, if◌then◌else◌, option_map}
use Rattle.std.specs.Str.{bytes_eq}
use Rattle.inst_walk.specs.declared.body.Block.{Block}
use Rattle.inst_walk.specs.declared.body.Body.{Body}
use Rattle.ll_tokens.specs.Forms.{has_form}
use Rattle.ll_tokens.specs.Tokens.{Lexeme}
use Rattle.ll_tree.specs.declared.inst.Inst.{Inst}
use Rattle.ll_tree.specs.declared.module.Function.{Function}
use Rattle.ll_tree.specs.declared.module.NodeRef.{NodeRef}
use Rattle.ll_tree.specs.declared.name.NameText.{NameText}
use Rattle.ll_tree.specs.Modules.{body_changed, function_changed}
use Rattle.ll_tree.specs.Names.{name_unplaced}
use Rattle.ll_parser.specs.GrammarAttributes.{attachment, node_name}
use Rattle.ll_parser.specs.GrammarFunctions.{blocks, next_after}
use Rattle.ll_parser.specs.GrammarItems.{defined_params, definition, first_named, head, number_of}
use Rattle.ll_parser.specs.Productions.{Production, ◌>>◌, each, mark, word}
use Rattle.ll_printed.specs.ModulePhrases.{function_phrase}
use Rattle.ll_phrases.proofs.Written.{Written, bare_pair, behind-blank, behind-line, fixed-before-line, fixed-then, made-at, mark-fixed, pair, then-fixed, word-fixed}
use Rattle.ll_printed.proofs.AttributesWritten.{attached, attachment-written, bare_node}
use Rattle.ll_printed.proofs.Begun.{byte_of}
use Rattle.ll_printed.proofs.BlocksWritten.{bare_block, blocks-written}
use Rattle.ll_printed.proofs.HeadsWritten.{HeadParts, bare_parts, defined-params-written, head-written, head_of, numbers-kept}
use Rattle.ll_printed.proofs.OpParts.{no_place}

-- some tokens are the node's name
abbrev IsNode : NodeRef → Type 0
IsNode n = (tokens : List Lexeme) × (rest : List Lexeme) × node_name n tokens rest

-- the three attachments that are kept
abbrev three_attached : Option NodeRef → Option NodeRef → Option NodeRef → List (List ℕ × NodeRef)
three_attached a b c = attached (codes "kernel_arg_type") a ++ (attached (codes "reqd_work_group_size") b ++ attached (codes "work_group_size_hint") c)

module _ (names : List NameText) where
  either-node : (test : Bool) (here n : NodeRef) (others : Option NodeRef) → (if test then Some here else others) ≡ Some n → IsNode here → (others ≡ Some n → IsNode n) → IsNode n
  either-node true here n others same is more = subst IsNode (ap (λ (o : Option NodeRef). elim o [ None ↦ here | Some x ↦ x ]) same) is
  either-node false here n others same is more = more same

  -- the first attachment of a name is a node that the tokens name
  named-node : (name : List ℕ) (all : List (List ℕ × NodeRef)) (tokens rest : List Lexeme) (n : NodeRef) → each attachment all tokens rest → first_named names name all ≡ Some n → IsNode n
  unfolding ◌>>◌
  named-node name [] tokens rest n d is = absurd cc
  named-node name (a ∷ all) tokens rest n (m, (k, word, node), more) is =
      either-node (bytes_eq a.0 name) a.1 n (first_named names name all) is (k, m, node) (λ same. named-node name all m rest n more same)

  kept-node : (name : List ℕ) (all : List (List ℕ × NodeRef)) (tokens rest : List Lexeme) (kept : Option NodeRef) → each attachment all tokens rest → kept ≡ first_named names name all → (n : NodeRef) → kept ≡ Some n → IsNode n
  kept-node name all tokens rest kept d is n same = named-node name all tokens rest n d (sym is ∙ same)

  abbrev AreFound : Option NodeRef → Option NodeRef → Option NodeRef → List (List ℕ × NodeRef) → Type 0
  AreFound a b c all = (a ≡ first_named names (codes "kernel_arg_type") all) × (b ≡ first_named names (codes "reqd_work_group_size") all) × (c ≡ first_named names (codes "work_group_size_hint") all)

  are-found : (a b c : Option NodeRef) → AreFound a b c (three_attached a b c)
  are-found None None None = (refl, refl, refl)
  are-found None None (Some c) = (refl, refl, refl)
  are-found None (Some b) None = (refl, refl, refl)
  are-found None (Some b) (Some c) = (refl, refl, refl)
  are-found (Some a) None None = (refl, refl, refl)
  are-found (Some a) None (Some c) = (refl, refl, refl)
  are-found (Some a) (Some b) None = (refl, refl, refl)
  are-found (Some a) (Some b) (Some c) = (refl, refl, refl)

pub each-joined : {A : Type 0} (item : A → Production) (xs ys : List A) (tokens m rest : List Lexeme) → each item xs tokens m → each item ys m rest → each item (xs ++ ys) tokens rest
unfolding ◌>>◌
each-joined item [] ys tokens m rest same more = subst (λ (ts : List Lexeme). each item ys ts rest) (sym same) more
each-joined item (x ∷ xs) ys tokens m rest (k, one, others) more = (k, one, each-joined item xs ys k m rest others more)

some-labels : (found labels : List ℕ) → map no_place found ≡ map no_place labels → (labels ≡ [] → ⊥) → found ≡ [] → ⊥
some-labels found [] same some none = some refl
some-labels found (l ∷ labels) same some none = absurd-by (sym (ap (map no_place) none) ∙ same)
  where
    absurd-by : [] ≡ map no_place (l ∷ labels) → ⊥
    absurd-by is = absurd cc

-- what a function has that places are in
abbrev Parts : Type 0
Parts = HeadParts × (Option NodeRef × (Option NodeRef × (Option NodeRef × (List (Block Inst ℕ) × List ℕ))))

abbrev bare_function_parts : Parts → Parts
bare_function_parts = bare_pair bare_parts (bare_pair (option_map bare_node) (bare_pair (option_map bare_node) (bare_pair (option_map bare_node) (bare_pair (map bare_block) (map no_place)))))

abbrev made_function : Function → List ℕ → ℕ → Parts → Function × Body Inst ℕ
made_function f params byte z =
    (record { head = head_of f.head byte z.0; kernel_arg_type = z.1.0; reqd_work_group_size = z.1.1.0; work_group_size_hint = z.1.1.1.0; labels = z.1.1.1.1.1 }, record { params = params; blocks = z.1.1.1.1.0 })

abbrev pub bare_function : Function × Body Inst ℕ → Function × Body Inst ℕ
bare_function = bare_pair (function_changed name_unplaced no_place) (body_changed name_unplaced no_place)

module _ (names : List NameText) where
  -- the production of a function's parts
  abbrev function_parts : Function → List ℕ → Parts → Production
  function_parts f params z =
      word (codes "define") >> head names (defined_params names) (head_of f.head 0 z.0) >> each attachment (attached (codes "kernel_arg_type") z.1.0) >> each attachment (attached (codes "reqd_work_group_size") z.1.1.0) >>
      each attachment (attached (codes "work_group_size_hint") z.1.1.1.0) >> mark 123 >> blocks names (next_after names params 0) z.1.1.1.1.0 z.1.1.1.1.1 >> mark 125

  assembled : (f : Function) (params : List ℕ) (z : Parts) (tokens rest : List Lexeme) → function_parts f params z tokens rest → params ≡ flat_map (number_of names) z.0.1.1.1 → (z.1.1.1.1.1 ≡ [] → ⊥)
      → definition names (made_function f params (byte_of tokens) z).0 (made_function f params (byte_of tokens) z).1 tokens rest
  unfolding ◌>>◌
  assembled f params z tokens rest (a, (l, is, of, text), (b, h, (c, one, (d, two, (e, three, (g, opens, (i, bs, closes))))))) numbered labels =
      let found = are-found names z.1.0 z.1.1.0 z.1.1.1.0 in (
        three_attached z.1.0 z.1.1.0 z.1.1.1.0,
        record { arg_type = found.0; required = found.1; hint = found.2 },
        numbered,
        labels,
        (a, (l, is, of, (text, sym (ap byte_of is))), (b, h, (e, each-joined attachment _ _ b c e one (each-joined attachment _ _ c d e two three), (g, opens, (i, bs, closes))))),
      )

  pub function-written : (f : Function) (b : Body Inst ℕ) (tokens rest : List Lexeme) → definition names f b tokens rest
      → Written false true bare_function (λ (z : Function × Body Inst ℕ). definition names z.0 z.1) (function_phrase names (f, b)) (f, b)
  unfolding ◌>>◌ has_form
  function-written f b tokens rest (kept, keeps, numbered, labels, (a, w, (c, h, (d, all, (e, opens, (g, bs, closes)))))) =
      made-at (f, b) (λ ts z. made_function f b.params (byte_of ts) z) (λ z. made_function f (map (λ n. n) b.params) 0 z) (λ ts z. refl) refl
      (λ z same ts rs has. assembled f b.params z ts rs has (numbered ∙ sym (numbers-kept names z.0.1.1.1 f.head.params (ap (λ y. y.0.1.1.1) same))) (some-labels z.1.1.1.1.1 f.labels (ap (λ y. y.1.1.1.1.1) same) labels))
      (fixed-then (word-fixed (codes "define") refl)
      (pair (head-written names (defined_params names) f.head (λ ts rs is. defined-params-written names f.head.params ts rs is) a c h)
      (pair (attachment-written (codes "kernel_arg_type") refl f.kernel_arg_type (kept-node names (codes "kernel_arg_type") kept c d f.kernel_arg_type all keeps.arg_type))
      (pair (attachment-written (codes "reqd_work_group_size") refl f.reqd_work_group_size (kept-node names (codes "reqd_work_group_size") kept c d f.reqd_work_group_size all keeps.required))
      (pair (attachment-written (codes "work_group_size_hint") refl f.work_group_size_hint (kept-node names (codes "work_group_size_hint") kept c d f.work_group_size_hint all keeps.hint))
      (behind-blank (fixed-then (mark-fixed 123 refl) (behind-line (then-fixed (blocks-written names (next_after names b.params 0) b.blocks f.labels e g bs) (fixed-before-line (mark-fixed 125 refl)) refl)) refl)) refl) refl) refl) refl) refl)
