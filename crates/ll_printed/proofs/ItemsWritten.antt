-- Target lines, struct types, variables and metadata are read as they are written.
use Rattle.ll_parser.specs.GrammarAttributes.{node_name}
use Rattle.ll_tree.specs.declared.module.NodeRef.{NodeRef}
use Rattle.std.proofs.Common.{◌≡◌, ℕ, ◌<◌, ◌^◌, Bool, true, false, List, [], ◌∷◌, map, ◌==◌, drop, codes, refl, sym, ◌∙◌, ap, inl, inr, arith}
use Rattle.std.specs.Prelude.{if◌then◌else◌}
use Rattle.std.proofs.lemmas.Bool.Decides.{nat_tests}
use Rattle.ll_tokens.specs.declared.kinds.TokenKind.TheVariants.{Bang, MdStr, MdName}
use Rattle.ll_tokens.specs.Forms.{has_form}
use Rattle.ll_tokens.specs.Tokens.{Lexeme}
use Rattle.ll_tree.specs.declared.module.Node.{Node}
use Rattle.ll_tree.specs.declared.module.NodePart.{NodePart}
use Rattle.ll_tree.specs.declared.module.NodePart.TheVariants as part
use Rattle.ll_tree.specs.declared.module.Struct.{Struct}
use Rattle.ll_tree.specs.declared.module.Target.{Target}
use Rattle.ll_tree.specs.declared.module.TargetKind.{TargetKind}
use Rattle.ll_tree.specs.declared.module.TargetKind.TheVariants.{DataLayout, Triple}
use Rattle.ll_tree.specs.declared.module.Variable.{Variable}
use Rattle.ll_tree.specs.declared.name.NameText.{NameText}
use Rattle.ll_tree.specs.Modules.{node_changed, part_changed, struct_changed, target_changed, variable_changed}
use Rattle.ll_tree.specs.Names.{name_unplaced}
use Rattle.ll_parser.specs.GrammarInsts.{align}
use Rattle.ll_parser.specs.GrammarItems.{linkage, node_part, struct_type, target, target_word, text, variable, node, named_nodes}
use Rattle.ll_parser.specs.GrammarTypes.{space, ty}
use Rattle.ll_parser.specs.GrammarValues.{global, value}
use Rattle.ll_parser.specs.Productions.{◌>>◌, ◌or◌, mark, token, word}
use Rattle.ll_parser.specs.Spellings.{between_quotes}
use Rattle.ll_printed.specs.ModulePhrases.{equals, part_phrase, struct_line, target_line, variable_line, node_line, version_line, node_ref_phrase}
use Rattle.ll_phrases.specs.Phrases.{Empty, Solid, ◌&◌, a_word, blank}
use Rattle.ll_phrases.specs.Texts.{quoted}
use Rattle.ll_phrases.specs.TypePhrases.{space_phrase}
use Rattle.ll_phrases.proofs.NameTexts.{node-text-kind}
use Rattle.ll_phrases.proofs.NamesWritten.{global-written, type-name-written}
use Rattle.ll_phrases.proofs.QuotedTexts.{quotes-read}
use Rattle.ll_phrases.proofs.TypesWritten.{space-fixed, space-small, type-written}
use Rattle.ll_phrases.proofs.ValuesWritten.{retyped, typed-written, value-written, width-kept}
use Rattle.ll_phrases.proofs.Written.{AllWritten, Fixed, Written, before-line, behind-blank, constant, fixed-as, fixed-before-blank, fixed-before-line, fixed-behind-blank, fixed-both, fixed-then, loose-fixed, made, made-at, made-same, mark-fixed, nothing-fixed, pair, solid-laid, then-fixed, word-fixed, list-written, list-again}
use Rattle.ll_printed.proofs.AttributesWritten.{node-written, bare_node}
use Rattle.ll_printed.proofs.Begun.{byte_of}
use Rattle.ll_printed.proofs.HeadsWritten.{linkage-written}
use Rattle.ll_printed.proofs.OpParts.{align-again, no_place, text-fixed}

abbrev pub bare_target : Target → Target
bare_target = target_changed name_unplaced no_place

abbrev pub bare_struct : Struct → Struct
bare_struct = struct_changed name_unplaced no_place

abbrev pub bare_variable : Variable → Variable
bare_variable = variable_changed name_unplaced no_place

abbrev pub bare_part : NodePart → NodePart
bare_part = part_changed name_unplaced no_place

abbrev pub bare_metadata : Node → Node
bare_metadata = node_changed name_unplaced no_place

-- `=` between blanks
equals-fixed : Fixed true true (mark 61) equals
equals-fixed = fixed-behind-blank (fixed-before-blank (mark-fixed 61 refl))

target-kind : (kind : TargetKind) → Fixed false false (word (target_word kind)) (a_word (target_word kind))
unfolding has_form
target-kind DataLayout = word-fixed (codes "datalayout") refl
target-kind Triple = word-fixed (codes "triple") refl

-- what stands for itself, behind a word whose place it has
pub target-written : (t : Target) → Written false true bare_target target (target_line t) t
unfolding ◌>>◌ has_form
target-written t =
    made-at t (λ ts x. record { kind = t.kind; text = t.text; byte = byte_of ts }) (λ x. record { kind = t.kind; text = t.text; byte = 0 }) (λ ts x. refl) refl
    (λ x same ts rs (k, (l, is, of, same_text), has). (k, (l, is, of, (same_text, sym (ap byte_of is))), has))
    (constant (λ (u : Unit {0}). u) (λ u. word (codes "target") >> (word (target_word t.kind) >> (mark 61 >> text t.text))) tt
    (fixed-both (word-fixed (codes "target") refl) (fixed-behind-blank (fixed-both (target-kind t.kind) (fixed-both equals-fixed (fixed-before-line (text-fixed t.text)) refl) refl)) refl))

module _ (names : List NameText) where
  pub struct-written : (s : Struct) (tokens rest : List Lexeme) → struct_type names s tokens rest → Written false true bare_struct (struct_type names) (struct_line names s) s
  unfolding ◌>>◌ has_form
  struct-written s tokens rest (a, n, (b, equal, (c, w, t))) =
      made (λ z. record { name = z.0; ty = z.1 }) (λ z. record { name = z.0; ty = z.1 }) (λ z. refl) (λ z ts rs d. d)
      (pair (type-name-written names s.name tokens a n) (fixed-then equals-fixed (fixed-then (word-fixed (codes "type") refl) (behind-blank (before-line (type-written names s.ty c rest t))) refl) refl) refl)

  -- the space of a variable, which is left out where it is 0
  space-by : (n : ℕ) (test : Bool) → (n == 0) ≡ test → n < 2 ^ 63 → Fixed true false (space n) (if test then Empty else blank & space_phrase n)
  space-by n true is lt = fixed-as (λ ts rs same. inr (zero-is n is, same)) nothing-fixed
    where
      zero-is : (k : ℕ) → (k == 0) ≡ true → k ≡ 0
      zero-is k e = grind (arith, nat_tests)
  space-by n false is lt = loose-fixed (fixed-as (λ ts rs d. inl d) (fixed-behind-blank (space-fixed n lt)))

  word-by : (test : Bool) → Fixed false false (word (codes "global") or word (codes "constant")) (a_word (if test then codes "constant" else codes "global"))
  unfolding has_form
  word-by true = fixed-as (λ ts rs d. inr d) (word-fixed (codes "constant") refl)
  word-by false = fixed-as (λ ts rs d. inl d) (word-fixed (codes "global") refl)

  -- what a variable's production leaves out
  variable-again : (v : Variable) (tokens rest : List Lexeme) → (global names v.name >> (mark 61 >> (linkage v.linkage >> (space v.space >> ((word (codes "global") or word (codes "constant")) >> (ty names v.ty >> (value names v.init v.ty >> align v.align))))))) tokens rest → variable names v tokens rest
  unfolding ◌>>◌
  variable-again v tokens rest (a, n, (b, e, (c, l, (d, s, (f, w, (g, t, (h, i, k))))))) = (a, n, (b, e, (c, l, (c, inr refl, (c, inr refl, (d, s, (f, w, (g, t, (h, i, (rest, k, ([], refl)))))))))))

  pub variable-written : (v : Variable) (tokens rest : List Lexeme) → variable names v tokens rest → Written false true bare_variable (variable names) (variable_line names v) v
  unfolding ◌>>◌
  variable-written v tokens rest (a, n, (b, e, (c, l, (d, o, (f, u, (g, s, (h, w, (i, t, (j, init, (k, al, dropped)))))))))) =
      made-same (λ z. record { name = z.0; linkage = v.linkage; space = v.space; ty = z.1.0; init = z.1.1; align = v.align }) (λ z. record { name = z.0; linkage = v.linkage; space = v.space; ty = z.1.0; init = z.1.1; align = v.align }) (λ z. refl)
      (λ z same ts rs (a', n', (b', e', (c', l', (d', s', (f', w', (g', t', (h', i', k'))))))).
      variable-again (record { name = z.0; linkage = v.linkage; space = v.space; ty = z.1.0; init = z.1.1; align = v.align }) ts rs
      (a', n', (b', e', (c', l', (d', s', (f', w', (g', t', (h', retyped names z.1.1 v.ty z.1.0 g' h' (width-kept z.1.0 v.ty (ap (λ y. y.1.0) same)) i', k'))))))))
      (pair (global-written names v.name tokens a n)
      (behind-blank (fixed-then (mark-fixed 61 refl) (fixed-then (linkage-written v.linkage) (fixed-then (space-by v.space (v.space == 0) refl (space-small v.space f g s))
      (behind-blank (fixed-then (word-by (v.space == 2)) (behind-blank (pair (type-written names v.ty h i t)
      (behind-blank (then-fixed (value-written names v.init v.ty i j init) (fixed-before-line (align-again v.align j k al)) refl)) refl)) refl)) refl) refl) refl)) refl)

  string-fixed : (bytes : List ℕ) → Fixed false false (token MdStr (λ lexeme. between_quotes (drop 1 lexeme.text) ≡ bytes)) (Solid MdStr (33 ∷ quoted bytes))
  string-fixed bytes = record {
    laid = solid-laid MdStr (33 ∷ quoted bytes) (node-text-kind bytes);
    reads = λ ts rs (k, at, of, same). (k, at, of, ap (λ t. between_quotes (drop 1 t)) same ∙ quotes-read bytes);
  }

  part-written : (p : NodePart) (tokens rest : List Lexeme) → node_part names p tokens rest → Written false false bare_part (node_part names) (part_phrase names p) p
  unfolding has_form
  part-written (part.Node n) tokens rest d = made (λ x. part.Node x) (λ x. part.Node x) (λ x. refl) (λ x ts rs is. is) (node-written n tokens rest d)
  part-written (part.Text bytes) tokens rest d = constant bare_part (node_part names) (part.Text bytes) (string-fixed bytes)
  part-written part.Null tokens rest d = constant bare_part (node_part names) part.Null (word-fixed (codes "null") refl)
  part-written (part.Value v) tokens rest d = made (λ x. part.Value x) (λ x. part.Value x) (λ x. refl) (λ x ts rs is. is) (typed-written names v tokens rest d)

bang-fixed : Fixed false false (token Bang (λ _. Unit {0})) (Solid Bang (33 ∷ []))
unfolding has_form
bang-fixed = record { laid = solid-laid Bang (33 ∷ []) refl; reads = λ ts rs (k, at, of, same). (k, at, of, tt) }

module _ (names : List NameText) where
  pub metadata-written : (n : Node) (tokens rest : List Lexeme) → node names n tokens rest → Written false true bare_metadata (node names) (node_line names n) n
  unfolding ◌>>◌
  metadata-written n tokens rest (a, named, (b, equal, (c, distinct, (d, bang, (e, opens, (f, parts, closes)))))) =
      made (λ z. record { number = z.0.number; parts = z.1; byte = z.0.byte }) (λ z. record { number = z.0.number; parts = z.1; byte = z.0.byte }) (λ z. refl)
      (λ z ts rs (a', n', (b', e', more)). (a', n', (b', e', (b', inr refl, more))))
      (pair (node-written (record { number = n.number; byte = n.byte }) tokens a named) (fixed-then equals-fixed
      (before-line (fixed-then bang-fixed (fixed-then (mark-fixed 123 refl) (then-fixed (list-again (part-written names) n.parts e f parts) (mark-fixed 125 refl) refl) refl) refl)) refl) refl)

-- the named node of the version
version-name : Fixed false false (token MdName (λ lexeme. drop 1 lexeme.text ≡ codes "opencl.ocl.version")) (Solid MdName (33 ∷ codes "opencl.ocl.version"))
unfolding has_form
version-name = record { laid = solid-laid MdName (33 ∷ codes "opencl.ocl.version") refl; reads = λ ts rs (k, at, of, same). (k, at, of, ap (drop 1) same) }

pub versions-written : (n : NodeRef) (ns : List NodeRef) → AllWritten false false bare_node node_name node_ref_phrase (n ∷ ns) → Written false true (map bare_node) (named_nodes (codes "opencl.ocl.version")) (version_line (n ∷ ns)) (n ∷ ns)
versions-written n ns all =
    fixed-then version-name (fixed-then equals-fixed
    (before-line (fixed-then bang-fixed (fixed-then (mark-fixed 123 refl) (then-fixed (list-written false bare_node node_name node_ref_phrase (n ∷ ns) all) (mark-fixed 125 refl) refl) refl) refl)) refl) refl
