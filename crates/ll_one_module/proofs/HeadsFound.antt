-- Heads of functions, declarations and definitions as readers find them.
use Rattle.std.proofs.Common.{◌≡◌, ℕ, zero, Bool, true, false, if◌then◌else◌, List, [], ◌∷◌, ◌++◌, map, flat_map, drop, codes, bytes_eq, option_to_list, Option, None, Some, option_map, refl, sym, ap, ap₂, ◌∙◌, subst}
use Rattle.inst_walk.specs.declared.body.Block.{Block}
use Rattle.inst_walk.specs.declared.body.Body.{Body}
use Rattle.ll_tokens.specs.declared.kinds.TokenKind.TheVariants.{Word, Attr, Str, MdName, Global as GlobalToken}
use Rattle.ll_tokens.specs.Tokens.{Lexeme}
use Rattle.ll_tree.specs.declared.inst.Inst.{Inst}
use Rattle.ll_tree.specs.declared.module.Attribute.{Attribute}
use Rattle.ll_tree.specs.declared.module.Function.{Function}
use Rattle.ll_tree.specs.declared.module.Head.{Head}
use Rattle.ll_tree.specs.declared.module.Linkage.{Linkage}
use Rattle.ll_tree.specs.declared.module.Linkage.TheVariants.{External, Internal, Private}
use Rattle.ll_tree.specs.declared.module.NodeRef.{NodeRef}
use Rattle.ll_tree.specs.declared.module.Param.{Param}
use Rattle.ll_tree.specs.declared.name.Name.{Name}
use Rattle.ll_tree.specs.declared.name.NameKind.TheVariants.{Global as GlobalName}
use Rattle.ll_tree.specs.declared.name.NameText.{NameText}
use Rattle.ll_tree.specs.declared.ty.LlType.{LlType}
use Rattle.ll_tree.specs.Modules.{body_changed, function_changed, head_changed, node_ref_changed, number_changed}
use Rattle.ll_parser.specs.GrammarAttributes.{any_function_attributes, attachment, attribute, function_attribute, function_words, node_name, placed_word}
use Rattle.ll_parser.specs.GrammarFunctions.{blocks, next_after}
use Rattle.ll_parser.specs.GrammarItems.{Keeps, convention, declaration, defined_params, definition, first_named, head, linkage, number_of, unnamed, written_param}
use Rattle.ll_parser.specs.GrammarTypes.{ty}
use Rattle.ll_parser.specs.Productions.{Production, ◌>>◌, maybe, mark, each, listed, word}
use Rattle.ll_parser.specs.Spellings.{decimal_value}
use Rattle.ll_one_module.proofs.Readers.{Ahead, Reader, Test, never, begins, done, bind, to, skip, first, choose, many, Reads, Leads, seq, then', skipped, last, none, made, at, stopped, first-reads}
use Rattle.ll_one_module.proofs.Fronts.{either, either-left, either-right, is_mark, outside, lead-each, lead-either, lead-first, lead-kind, lead-mark, lead-nothing, lead-or, lead-outside, lead-then, lead-token, lead-word, opens-first, opens-left, opens-mark, opens-or, opens-token, opens-word}
use Rattle.ll_one_module.proofs.Lists.{each-reads, reads-first, reads-second, separated}
use Rattle.ll_one_module.proofs.Ends.{both-read, passed, passed-leads, passed-reads, some-leads}
use Rattle.ll_one_module.proofs.NamesFound.{Numbering, read_name, renamed, name-reads}
use Rattle.ll_one_module.proofs.Same.{map-kept, option-kept}
use Rattle.ll_one_module.proofs.Tests.{operand_start, is_word_of}
use Rattle.ll_one_module.proofs.TypesFound.{comma_ahead, type-opens, type-reads}
use Rattle.ll_one_module.proofs.ValuesFound.{read_type}
use Rattle.ll_one_module.proofs.AttributesFound.{attribute_start, attribute-outside, attributes-read, function_end, function-attributes-read, head_known, one-of, open_start, read_function_attributes}
use Rattle.ll_one_module.proofs.InstsFound.{inst_end, none_of, none-passes}
use Rattle.ll_one_module.proofs.BlocksFound.{block_end, blocks-read, made_block, read_blocks}
use Rattle.ll_one_module.proofs.ParamsFound.{made_param, params_end, params-read, read_attributes, read_params, read_written, written-params-read}

-- words of a head, which begin no type and are no attributes
abbrev pub head_word : List (List ℕ) → Test
head_word words = outside head_known (is_word_of words)

abbrev internal_start : Test
internal_start = head_word (codes "internal" ∷ [])

abbrev private_start : Test
private_start = head_word (codes "private" ∷ [])

abbrev pub linkage_start : Test
linkage_start = either internal_start private_start

abbrev pub local_word_start : Test
local_word_start = head_word (codes "dso_local" ∷ [])

abbrev kernel_start : Test
kernel_start = head_word (codes "spir_kernel" ∷ [])

abbrev function_word_start : Test
function_word_start = head_word (codes "spir_func" ∷ [])

abbrev convention_start : Test
convention_start = either kernel_start function_word_start

abbrev pub unnamed_start : Test
unnamed_start = head_word (codes "unnamed_addr" ∷ codes "local_unnamed_addr" ∷ [])

pub read_linkage : Reader Linkage
read_linkage = choose (begins internal_start) (skip (done Internal)) (choose (begins private_start) (skip (done Private)) (done External))

pub linkage-reads : (l : Linkage) → Reads (begins linkage_start) (linkage l) read_linkage l
unfolding read_linkage
linkage-reads Internal = reads-first _ _ (opens-word (codes "internal") internal_start refl) (last _ _)
linkage-reads Private = reads-second _ _ (lead-word (codes "private") internal_start refl) (reads-first _ _ (opens-word (codes "private") private_start refl) (last _ _))
linkage-reads External = reads-second _ _ (lead-nothing (either-left internal_start private_start)) (reads-second _ _ (lead-nothing (either-right internal_start private_start)) none)

read_convention : Reader Bool
read_convention = choose (begins kernel_start) (skip (done true)) (to (λ _. false) (passed (begins function_word_start)))

convention-reads : (names : List NameText) (is_kernel : Bool) → Reads (begins convention_start) (convention names is_kernel) read_convention is_kernel
unfolding read_convention
convention-reads names true = reads-first _ _ (opens-word (codes "spir_kernel") kernel_start refl) (last _ _)
convention-reads names false =
    reads-second _ _ (passed-leads _ (lead-word (codes "spir_func") kernel_start refl) (either-left kernel_start function_word_start))
    (made _ (passed-reads _ (begins function_word_start) (opens-word (codes "spir_func") function_word_start refl) (last _ _) (either-right kernel_start function_word_start)))

pub unnamed-reads : Reads (begins unnamed_start) (maybe unnamed) (passed (begins unnamed_start)) zero
unnamed-reads =
    passed-reads _ (begins unnamed_start) (opens-or _ _ (opens-word (codes "unnamed_addr") unnamed_start refl) (opens-word (codes "local_unnamed_addr") unnamed_start refl)) (both-read _ _ (last _ _) (last _ _)) (λ ts e. e)

pub local-word-reads : Reads (begins local_word_start) (maybe (word (codes "dso_local"))) (passed (begins local_word_start)) zero
local-word-reads = passed-reads _ (begins local_word_start) (opens-word (codes "dso_local") local_word_start refl) (last _ _) (λ ts e. e)

function-fails : (t : Test) → ((text : List ℕ) → t Attr text ≡ false) → ((text : List ℕ) → t Str text ≡ false) → none_of (t Word) function_words ≡ true → Leads never function_attribute (begins t)
function-fails t attrs strs words =
    lead-or (lead-kind Attr _ t attrs) (lead-or (lead-first _ (lead-kind Str _ t strs)) (lead-token Word _ t (λ l d. none-passes (t Word) function_words l.text (one-of function_words l.text d) words)))

-- what doesn't follow a head
abbrev pub head_end : Test
head_end = either unnamed_start function_end

functions-no-unnamed : Leads (begins head_end) any_function_attributes (begins unnamed_start)
functions-no-unnamed = some-leads _ (λ count. lead-each (either-left unnamed_start function_end) (λ x. function-fails unnamed_start (λ text. refl) (λ text. refl) refl) count)

unfoldable head_made : ℕ → Linkage → Bool → List Attribute → LlType → Name → List Param → Head
head_made byte l k list x n ps = record { byte = byte; name = n; linkage = l; is_kernel = k; attributes = list; ty = x; params = ps }

-- what stands behind a head's first word
read_head : (NameText → ℕ) → Reader (List Param × ℕ) → ℕ → Reader (Head × ℕ)
read_head look params byte =
    bind read_linkage (λ l. bind (passed (begins local_word_start)) (λ _. bind read_convention (λ k. bind (read_attributes look) (λ list. bind (read_type look) (λ x. bind (read_name look GlobalName) (λ n.
    skip (bind params (λ ps. skip (bind (passed (begins unnamed_start)) (λ _. to (λ _. let r : Head × ℕ = (head_made byte l k list x n ps.0, ps.1) in r) read_function_attributes))))))))))

module _ (t : Numbering) where
  abbrev pub made_head : Head → Head
  made_head = head_changed (renamed t) (λ byte. byte)

  type-front : {u : Ahead} (words : List (List ℕ)) (x : LlType) (q : Production) → Leads u (ty t.names x >> q) (begins (head_word words))
  type-front words x q = lead-first q (lead-outside head_known (is_word_of words) (opens-left operand_start attribute_start (type-opens t.names x)))

  attributes-front : {u : Ahead} (words : List (List ℕ)) (list : List Attribute) (x : LlType) (q : Production) → Leads u (each (attribute t.names) list >> ty t.names x >> q) (begins (head_word words))
  attributes-front words list x q = lead-then (lead-each (λ ts e. e) (λ a. attribute-outside t (is_word_of words) a) list) (type-front words x q)

  convention-front : {u : Ahead} (words : List (List ℕ)) → head_word words Word (codes "spir_kernel") ≡ false → head_word words Word (codes "spir_func") ≡ false → (k : Bool) (list : List Attribute) (x : LlType) (q : Production) →
      Leads u (convention t.names k >> each (attribute t.names) list >> ty t.names x >> q) (begins (head_word words))
  convention-front words kernel-fails func-fails true list x q = lead-first _ (lead-word (codes "spir_kernel") (head_word words) kernel-fails)
  convention-front words kernel-fails func-fails false list x q =
      lead-then (passed-leads _ (lead-word (codes "spir_func") (head_word words) func-fails) (λ ts e. e)) (attributes-front words list x q)

  linkage-front : {u : Ahead} (words : List (List ℕ)) → head_word words Word (codes "dso_local") ≡ false → head_word words Word (codes "spir_kernel") ≡ false → head_word words Word (codes "spir_func") ≡ false → (k : Bool) (list : List Attribute) (x : LlType) (q : Production) →
      Leads u (maybe (word (codes "dso_local")) >> convention t.names k >> each (attribute t.names) list >> ty t.names x >> q) (begins (head_word words))
  linkage-front words dso-fails kernel-fails func-fails k list x q =
      lead-then (passed-leads _ (lead-word (codes "dso_local") (head_word words) dso-fails) (λ ts e. e)) (convention-front words kernel-fails func-fails k list x q)

  type-no-attribute : {u : Ahead} (x : LlType) (q : Production) → Leads u (ty t.names x >> q) (begins (either attribute_start open_start))
  type-no-attribute x q = lead-first q (lead-either _ _ (lead-outside operand_start _ (type-opens t.names x)) (lead-outside operand_start _ (type-opens t.names x)))

  head-reads : (production : List Param → Production) (params : Reader (List Param × ℕ)) (ps : List Param) (next : ℕ) (h : Head) →
      Reads (begins params_end) (production h.params) params (let r : List Param × ℕ = (map (made_param t) h.params, next) in r) →
      Reads (begins head_end) (head t.names production h) (read_head t.look params h.byte) (let r : Head × ℕ = (made_head h, next) in r)
  unfolding read_head head_made
  head-reads production params ps next h one =
      seq _ (linkage-reads h.linkage) (lead-either _ _ (linkage-front (codes "internal" ∷ []) refl refl refl h.is_kernel h.attributes h.ty _) (linkage-front (codes "private" ∷ []) refl refl refl h.is_kernel h.attributes h.ty _))
      (seq _ local-word-reads (convention-front (codes "dso_local" ∷ []) refl refl h.is_kernel h.attributes h.ty _)
      (seq _ (convention-reads t.names h.is_kernel) (lead-either _ _ (attributes-front (codes "spir_kernel" ∷ []) h.attributes h.ty _) (attributes-front (codes "spir_func" ∷ []) h.attributes h.ty _))
      (seq _ (attributes-read t h.attributes) (type-no-attribute h.ty _)
      (seq _ (type-reads t h.ty) (lead-first _ (lead-kind GlobalToken _ _ (λ text. refl)))
      (then' _ (name-reads t GlobalToken GlobalName h.name)
      (skipped _ _ (seq _ one (lead-first _ (lead-mark 41 params_end refl))
      (skipped _ _ (seq _ unnamed-reads functions-no-unnamed
      (made _ (stopped (either-right unnamed_start function_end) function-attributes-read)))))))))))

-- nodes and attachments
pub read_node : Reader NodeRef
read_node = first (λ l. record { number = decimal_value (drop 1 l.text); byte = l.byte })

pub node-reads : {u : Ahead} (n : NodeRef) → Reads u (node_name n) read_node n
unfolding read_node
node-reads n = first-reads _ _ _ (λ l k d. ap₂ (λ (a b : ℕ). let r : NodeRef = record { number = a; byte = b } in r) d.0 d.2)

read_attachment : Reader (List ℕ × NodeRef)
read_attachment = bind (first (λ l. drop 1 l.text)) (λ name. to (λ n. let r : List ℕ × NodeRef = (name, n) in r) read_node)

attachment-reads : {u : Ahead} (a : List ℕ × NodeRef) → Reads u (attachment a) read_attachment a
unfolding read_attachment
attachment-reads a = then' _ (first-reads _ _ _ (λ l k d. d)) (made _ (node-reads a.1))

abbrev attachment_start : Test
attachment_start MdName text = true
attachment_start _ text = false

attachments-reads : (list : List (List ℕ × NodeRef)) → Reads (begins attachment_start) (each attachment list) (many (begins attachment_start) read_attachment) list
attachments-reads list =
    at (map-kept (λ a. a) (λ a. refl) list)
    (each-reads (λ a. a) (λ ts e. e) (λ ts e. refl) (λ (a : List ℕ × NodeRef). opens-first _ (opens-token MdName _ attachment_start (λ l d. refl))) (λ a. record { leads = λ tokens rest d stop. refl }) attachment-reads list)

abbrev written_params : (NameText → ℕ) → Reader (List Param × ℕ)
written_params look = to (λ (ps : List Param). let r : List Param × ℕ = (ps, 0) in r) (separated (begins operand_start) comma_ahead (read_written look))

pub read_declaration : (NameText → ℕ) → Reader Head
read_declaration look = bind (first (λ l. l.byte)) (λ byte. to (λ (h : Head × ℕ). h.0) (read_head look (written_params look) byte))

abbrev pub Defined : Type 0
Defined = Function × Body Inst ℕ

unfoldable defined_as : Head → List (List ℕ × NodeRef) → List (Block Inst ℕ) → List ℕ → Defined
defined_as h list bs places = (
  record {
    head = h;
    kernel_arg_type = first_named [] (codes "kernel_arg_type") list;
    reqd_work_group_size = first_named [] (codes "reqd_work_group_size") list;
    work_group_size_hint = first_named [] (codes "work_group_size_hint") list;
    labels = places;
  },
  record { params = flat_map (number_of []) h.params; blocks = bs },
)

pub read_definition : (NameText → ℕ) → Reader Defined
read_definition look =
    bind (first (λ l. l.byte)) (λ byte. bind (read_head look (read_params look) byte) (λ h. bind (many (begins attachment_start) read_attachment) (λ list.
    skip (bind (read_blocks look h.1) (λ bs. skip (done (defined_as h.0 list bs.0 bs.1)))))))

first-same : (a b : List NameText) (name : List ℕ) (list : List (List ℕ × NodeRef)) → first_named a name list ≡ first_named b name list
first-same a b name [] = refl
first-same a b name (x ∷ xs) = ap (λ z. if bytes_eq x.0 name then Some x.1 else z) (first-same a b name xs)

pub block-closes : {u : Ahead} → Leads u (mark 125) block_end
block-closes {u} = record { leads = λ tokens rest d stop. closes tokens rest d }
  where
    closes : (tokens rest : List Lexeme) → mark 125 tokens rest → block_end tokens ≡ false
    closes tokens rest d =
        let front : Leads never (mark 125) (begins inst_end) = lead-mark 125 inst_end refl in
        ap (λ b. if b then begins inst_end tokens else true) ((opens-mark 125 (is_mark 125) refl).opens tokens rest d) ∙ front.leads tokens rest d refl

module _ (t : Numbering) where
  pub declaration-reads : (h : Head) → Reads (begins head_end) (declaration t.names h) (read_declaration t.look) (made_head t h)
  unfolding read_declaration
  declaration-reads h = then' _ (first-reads _ _ _ (λ l k d. d.1)) (made _ (head-reads t (listed (written_param t.names)) (written_params t.look) [] 0 h (written-params-read t h.params)))

  abbrev pub made_defined : Function → Body Inst ℕ → Defined
  made_defined f b = (function_changed (renamed t) (λ byte. byte) f, body_changed (renamed t) (λ byte. byte) b)

  abbrev renumbered : ℕ → ℕ
  renumbered = number_changed (renamed t) (λ byte. byte)

  name-kept : (o : Option Name) (xs ys : List ℕ) → xs ≡ map renumbered ys →
      map (λ (n : Name). n.number) (option_to_list (option_map (renamed t) o)) ++ xs ≡ map renumbered (map (λ (n : Name). n.number) (option_to_list o) ++ ys)
  name-kept None xs ys e = e
  name-kept (Some name) xs ys e = ap (λ zs. t.renumber name.number ∷ zs) e

  numbers-kept : (ps : List Param) → flat_map (number_of []) (map (made_param t) ps) ≡ map renumbered (flat_map (number_of t.names) ps)
  numbers-kept [] = refl
  numbers-kept (p ∷ ps) = name-kept p.name _ _ (numbers-kept ps)

  kept-node : (o : Option NodeRef) → option_map (node_ref_changed (renamed t) (λ byte. byte)) o ≡ o
  kept-node o = option-kept _ (λ n. refl) o

  defined-same : (f : Function) (b : Body Inst ℕ) (list : List (List ℕ × NodeRef)) → Keeps t.names list f → b.params ≡ flat_map (number_of t.names) f.head.params →
      defined_as (made_head t f.head) list (map (made_block t) b.blocks) f.labels ≡ made_defined f b
  unfolding defined_as
  defined-same f b list keeps params =
      let arg : first_named [] (codes "kernel_arg_type") list ≡ option_map (node_ref_changed (renamed t) (λ byte. byte)) f.kernel_arg_type = first-same [] t.names (codes "kernel_arg_type") list ∙ sym keeps.arg_type ∙ sym (kept-node f.kernel_arg_type) in
      let required : first_named [] (codes "reqd_work_group_size") list ≡ option_map (node_ref_changed (renamed t) (λ byte. byte)) f.reqd_work_group_size = first-same [] t.names (codes "reqd_work_group_size") list ∙ sym keeps.required ∙ sym (kept-node f.reqd_work_group_size) in
      let hint : first_named [] (codes "work_group_size_hint") list ≡ option_map (node_ref_changed (renamed t) (λ byte. byte)) f.work_group_size_hint = first-same [] t.names (codes "work_group_size_hint") list ∙ sym keeps.hint ∙ sym (kept-node f.work_group_size_hint) in
      let places : f.labels ≡ map (λ byte. byte) f.labels = sym (map-kept (λ byte. byte) (λ byte. refl) f.labels) in
      let numbers : flat_map (number_of []) (map (made_param t) f.head.params) ≡ map renumbered b.params = numbers-kept f.head.params ∙ ap (map renumbered) (sym params) in
      λ i. (record { head = made_head t f.head; kernel_arg_type = arg i; reqd_work_group_size = required i; work_group_size_hint = hint i; labels = places i }, record { params = numbers i; blocks = map (made_block t) b.blocks })

  attachments-lead : {u : Ahead} (list : List (List ℕ × NodeRef)) (q : Production) → Leads u (each attachment list >> mark 123 >> q) (begins head_end)
  attachments-lead list q = lead-then (lead-each (λ ts e. e) (λ (a : List ℕ × NodeRef). lead-first _ (lead-kind MdName _ head_end (λ text. refl))) list) (lead-first _ (lead-mark 123 head_end refl))

  definition-body : (f : Function) (b : Body Inst ℕ) (list : List (List ℕ × NodeRef)) → Reads never
      (placed_word (codes "define") f.head.byte >> head t.names (defined_params t.names) f.head >> each attachment list >> mark 123 >> blocks t.names (next_after t.names (flat_map (number_of t.names) f.head.params) 0) b.blocks f.labels >> mark 125)
      (read_definition t.look) (defined_as (made_head t f.head) list (map (made_block t) b.blocks) f.labels)
  unfolding read_definition
  definition-body f b list =
      then' _ (first-reads _ _ _ (λ l k d. d.1))
      (seq _ (head-reads t (defined_params t.names) (read_params t.look) [] (next_after t.names (flat_map (number_of t.names) f.head.params) 0) f.head (params-read t f.head.params)) (attachments-lead list _)
      (seq _ (attachments-reads list) (lead-first _ (lead-mark 123 attachment_start refl))
      (skipped _ _ (seq _ (blocks-read t _ b.blocks f.labels) block-closes (last _ _)))))

  pub definition-reads : (f : Function) (b : Body Inst ℕ) → Reads never (definition t.names f b) (read_definition t.look) (made_defined f b)
  definition-reads f b = record {
    reads = λ tokens rest d stop.
        let here : (placed_word (codes "define") f.head.byte >> head t.names (defined_params t.names) f.head >> each attachment d.0 >> mark 123 >> blocks t.names (next_after t.names (flat_map (number_of t.names) f.head.params) 0) b.blocks f.labels >> mark 125) tokens rest =
        subst (λ (ns : List ℕ). (placed_word (codes "define") f.head.byte >> head t.names (defined_params t.names) f.head >> each attachment d.0 >> mark 123 >> blocks t.names (next_after t.names ns 0) b.blocks f.labels >> mark 125) tokens rest) d.2 d.4 in
        (at (defined-same f b d.0 d.1 d.2) (definition-body f b d.0)).reads tokens rest here refl;
  }
