-- Items as readers find them.
use Rattle.std.proofs.Common.{◌≡◌, ℕ, zero, suc, Bool, true, false, true≢false, not, if◌then◌else◌, List, [], ◌∷◌, ◌++◌, map, drop, All, codes, bytes_eq, refl, sym, ap, ◌∙◌, subst, arith}
use Rattle.std.specs.Cmp.Lexicographic.{bytes_decides}
use Rattle.inst_walk.specs.declared.body.Body.{Body}
use Rattle.ll_tokens.specs.declared.kinds.TokenKind.{TokenKind}
use Rattle.ll_tokens.specs.declared.kinds.TokenKind.TheVariants.{Word, Punct, Str, Bang, MdName, MdStr, Mdn, Local as LocalToken, Global as GlobalToken}
use Rattle.ll_tokens.specs.Tokens.{Lexeme}
use Rattle.ll_tree.specs.declared.inst.Inst.{Inst}
use Rattle.ll_tree.specs.declared.module.Function.{Function}
use Rattle.ll_tree.specs.declared.module.Node.{Node}
use Rattle.ll_tree.specs.declared.module.NodePart.{NodePart}
use Rattle.ll_tree.specs.declared.module.NodePart.TheVariants as part
use Rattle.ll_tree.specs.declared.module.NodeRef.{NodeRef}
use Rattle.ll_tree.specs.declared.module.Struct.{Struct}
use Rattle.ll_tree.specs.declared.module.Target.{Target}
use Rattle.ll_tree.specs.declared.module.TargetKind.{TargetKind}
use Rattle.ll_tree.specs.declared.module.TargetKind.TheVariants.{DataLayout, Triple}
use Rattle.ll_tree.specs.declared.module.Variable.{Variable}
use Rattle.ll_tree.specs.declared.name.NameKind.TheVariants.{Global as GlobalName, Struct as StructName}
use Rattle.ll_tree.specs.declared.name.NameText.{NameText}
use Rattle.ll_tree.specs.declared.ty.TypeBase as base
use Rattle.ll_tree.specs.declared.ty.TypeBase.{TypeBase}
use Rattle.ll_tree.specs.Modules.{body_changed, function_changed, node_changed, node_ref_changed, part_changed, struct_changed, target_changed, variable_changed}
use Rattle.ll_parser.specs.GrammarAttributes.{any_attachments, attribute_group, node_name, placed_word}
use Rattle.ll_parser.specs.GrammarItems.{ADeclaration, ADefinition, ANode, AStruct, ATarget, AVariable, Dropped, Item, Versions, definition, dropped_item, is_no_brace, item, named_nodes, node, node_part, struct_type, target, target_word, unnamed, variable}
use Rattle.ll_parser.specs.GrammarTypes.{space, type_base}
use Rattle.ll_parser.specs.Productions.{Production, ◌>>◌, ◌or◌, maybe, mark, each, listed, token, word}
use Rattle.ll_parser.specs.Spellings.{between_quotes}
use Rattle.ll_one_module.proofs.Readers.{Ahead, Reader, Test, never, begins, done, bind, to, skip, first, choose, many, Found, Reads, Leads, Opens, Weaker, seq, then', skip-found, done-found, skipped, last, made, at, stopped, first-reads}
use Rattle.ll_one_module.proofs.Fronts.{either, either-left, either-right, is_mark, is_one_of, lead-each, lead-first, lead-kind, lead-mark, lead-or, lead-outside, lead-then, lead-token, lead-word, opens-first, opens-left, opens-mark, opens-or, opens-right, opens-token, opens-word}
use Rattle.ll_one_module.proofs.Lists.{ReadsMany, all-read, each-reads, listed-reads, no-more, one-more, optional, reads-first, reads-second, separated}
use Rattle.ll_one_module.proofs.Ends.{both-read, lead-behind-comma, look_up, no-comma, passed, passed-leads, passed-reads, some-leads}
use Rattle.ll_one_module.proofs.NamesFound.{Numbering, read_name, renamed, name-reads}
use Rattle.ll_one_module.proofs.Same.{map-kept}
use Rattle.ll_one_module.proofs.Sorts.{Shows, by_sort, of-sort, shows-first, shows-token, shows-word, sort_at}
use Rattle.ll_one_module.proofs.Tests.{operand_start, pointer_start, space_start}
use Rattle.ll_one_module.proofs.TypesFound.{comma_ahead, read_space, space-reads, type-reads}
use Rattle.ll_one_module.proofs.ValuesFound.{read_type, read_value, typed-opens, typed-reads, typed_with, value-opens, value-reads}
use Rattle.ll_one_module.proofs.OpWords.{align-read, further, not_attached, read_align}
use Rattle.ll_one_module.proofs.InstsFound.{attachments-read, read_attachments}
use Rattle.ll_one_module.proofs.HeadsFound.{Defined, declaration-reads, definition-reads, head_end, linkage-reads, linkage_start, local_word_start, local-word-reads, made_head, node-reads, read_declaration, read_definition, read_linkage, read_node, unnamed_start, unnamed-reads}

data Sort : Type 0 where
  targets : Sort
  structs : Sort
  variables : Sort
  declares : Sort
  defines : Sort
  named : Sort
  nodes : Sort
  groups : Sort
  sources : Sort

abbrev sort_of : TokenKind → List ℕ → Sort
sort_of Word bytes = look_up ((codes "target", targets) ∷ (codes "declare", declares) ∷ (codes "define", defines) ∷ (codes "attributes", groups) ∷ []) sources bytes
sort_of LocalToken bytes = structs
sort_of GlobalToken bytes = variables
sort_of MdName bytes = named
sort_of Mdn bytes = nodes
sort_of _ bytes = sources

abbrev here : List Lexeme → Sort
here = sort_at sources sort_of

abbrev kind_words : List (List ℕ × TargetKind)
kind_words = (codes "datalayout", DataLayout) ∷ (codes "triple", Triple) ∷ []

target-known : (k : TargetKind) → look_up kind_words DataLayout (target_word k) ≡ k
target-known DataLayout = refl
target-known Triple = refl

abbrev node_start : Test
node_start Mdn bytes = true
node_start _ bytes = false

abbrev string_start : Test
string_start MdStr bytes = true
string_start _ bytes = false

abbrev null_start : Test
null_start Word bytes = is_one_of (codes "null" ∷ []) bytes
null_start _ bytes = false

abbrev part_start : Test
part_start = either operand_start (either node_start string_start)

abbrev distinct_start : Test
distinct_start Word bytes = is_one_of (codes "distinct" ∷ []) bytes
distinct_start _ bytes = false

-- no `}`, 125
abbrev no_close : Test
no_close kind bytes = not (bytes_eq bytes (125 ∷ []))

abbrev any : Test
any kind bytes = true

abbrev pub nonempty : Ahead
nonempty = begins any

module _ (look : NameText → ℕ) where
  read_part : Reader NodePart
  read_part =
      choose (begins node_start) (to part.Node read_node)
      (choose (begins string_start) (first (λ l. part.Text (between_quotes (drop 1 l.text)))) (choose (begins null_start) (skip (done part.Null)) (to part.Value (typed_with look (read_value look)))))

  item_with : Sort → Reader Item
  item_with targets = bind (first (λ l. l.byte)) (λ b. bind (first (λ l. look_up kind_words DataLayout l.text)) (λ k. skip (to (λ x. ATarget (record { kind = k; text = x; byte = b })) (first (λ l. between_quotes l.text)))))
  item_with structs = bind (read_name look StructName) (λ n. skip (skip (to (λ x. AStruct (record { name = n; ty = x })) (read_type look))))
  item_with variables =
      bind (read_name look GlobalName) (λ n. skip (bind read_linkage (λ l. bind (passed (begins local_word_start)) (λ _. bind (passed (begins unnamed_start)) (λ _. bind read_space (λ s. bind (skip (done zero)) (λ (_ : ℕ).
      bind (read_type look) (λ x. bind (read_value look) (λ v. bind (optional further read_align) (λ a. to (λ _. AVariable (record { name = n; linkage = l; space = s; ty = x; init = v; align = a })) read_attachments))))))))))
  item_with declares = to ADeclaration (read_declaration look)
  item_with defines = to (λ (d : Defined). ADefinition d.0 d.1) (read_definition look)
  item_with named =
      bind (first (λ l. drop 1 l.text)) (λ name. skip (skip (skip (bind (separated (begins node_start) comma_ahead read_node) (λ ns. skip (done (if bytes_eq name (codes "opencl.ocl.version") then Versions ns else Dropped)))))))
  item_with nodes =
      bind read_node (λ n. skip (bind (passed (begins distinct_start)) (λ _. skip (skip (bind (separated (begins part_start) comma_ahead read_part) (λ ps. skip (done (ANode (record { number = n.number; parts = ps; byte = n.byte })))))))))
  item_with groups = skip (skip (skip (skip (bind (many (begins no_close) (skip (done zero))) (λ (_ : List ℕ). skip (done Dropped))))))
  item_with sources = skip (skip (skip (done Dropped)))

  pub read_item : Reader Item
  read_item = by_sort here item_with

  pub read_items : Reader (List Item)
  read_items = many nonempty read_item

-- what doesn't follow an item
abbrev item_end : Test
item_end = either pointer_start (either (is_mark 44) head_end)

end-pointer : Weaker (begins item_end) (begins pointer_start)
end-pointer = either-left _ _

end-comma : Weaker (begins item_end) (begins (is_mark 44))
end-comma tokens e = either-left (is_mark 44) head_end tokens (either-right pointer_start _ tokens e)

end-head : Weaker (begins item_end) (begins head_end)
end-head tokens e = either-right (is_mark 44) head_end tokens (either-right pointer_start _ tokens e)

no-null : {u : Ahead} (names : List NameText) (b : TypeBase) → Leads u (type_base names b) (begins null_start)
no-null names base.Void = lead-word (codes "void") _ refl
no-null names (base.Int bits) = lead-token Word _ null_start (λ l d. ap (is_one_of (codes "null" ∷ [])) d.1)
no-null names base.Half = lead-word (codes "half") _ refl
no-null names base.Float = lead-word (codes "float") _ refl
no-null names base.Double = lead-word (codes "double") _ refl
no-null names (base.Named name) = lead-kind LocalToken _ _ (λ bytes. refl)
no-null names (base.Array' count' shape inner) = lead-first _ (lead-mark 91 _ refl)
no-null names (base.Vector' lanes shape inner) = lead-first _ (lead-mark 60 _ refl)
no-null names (base.Struct' shape members') = lead-first _ (lead-mark 123 _ refl)
no-null names (base.Packed' shape members') = lead-first _ (lead-mark 60 _ refl)

no-part : {u : Ahead} (names : List NameText) (t : Test) → ((bytes : List ℕ) → t Word bytes ≡ false) → ((bytes : List ℕ) → t LocalToken bytes ≡ false) → ((bytes : List ℕ) → t Punct bytes ≡ false) → (b : TypeBase) → Leads u (type_base names b) (begins t)
no-part names t words locals marks base.Void = lead-kind Word _ t words
no-part names t words locals marks (base.Int bits) = lead-kind Word _ t words
no-part names t words locals marks base.Half = lead-kind Word _ t words
no-part names t words locals marks base.Float = lead-kind Word _ t words
no-part names t words locals marks base.Double = lead-kind Word _ t words
no-part names t words locals marks (base.Named name) = lead-kind LocalToken _ t locals
no-part names t words locals marks (base.Array' count' shape inner) = lead-first _ (lead-kind Punct _ t marks)
no-part names t words locals marks (base.Vector' lanes shape inner) = lead-first _ (lead-kind Punct _ t marks)
no-part names t words locals marks (base.Struct' shape members') = lead-first _ (lead-kind Punct _ t marks)
no-part names t words locals marks (base.Packed' shape members') = lead-first _ (lead-kind Punct _ t marks)

part-opens : (names : List NameText) (p : NodePart) → Opens (node_part names p) (begins part_start)
part-opens names (part.Node n) = opens-right operand_start _ (opens-left node_start string_start (opens-token Mdn _ node_start (λ l d. refl)))
part-opens names (part.Text bytes) = opens-right operand_start _ (opens-right node_start string_start (opens-token MdStr _ string_start (λ l d. refl)))
part-opens names part.Null = opens-word (codes "null") part_start refl
part-opens names (part.Value v) = opens-left operand_start _ (typed-opens names v)

space-leads : (t : Test) → t Word (codes "addrspace") ≡ false → (n : ℕ) → Leads (begins t) (space n) (begins t)
space-leads t fails n = lead-or (lead-first _ (lead-word (codes "addrspace") t fails)) (record { leads = λ tokens rest d stop. ap (begins t) d.1 ∙ stop })

-- a group of attributes
not-text : (bytes other : List ℕ) → (bytes ≡ other → ⊥) → bytes_eq bytes other ≡ false
not-text bytes other differ = cases (bytes_eq bytes other) refl
  where
    cases : (b : Bool) → bytes_eq bytes other ≡ b → bytes_eq bytes other ≡ false
    cases true e = absurd (differ ((bytes_decides bytes other).0 e))
    cases false e = e

abbrev Group : List Lexeme → Production
Group group tokens rest = All is_no_brace group × (tokens ≡ group ++ rest)

zeros : List Lexeme → List ℕ
zeros [] = []
zeros (l ∷ ls) = zero ∷ zeros ls

one-token : (l : Lexeme) → Production
one-token l tokens rest = (l.text ≡ 125 ∷ [] → ⊥) × (tokens ≡ l ∷ rest)

one-token-opens : (l : Lexeme) → Opens (one-token l) (begins no_close)
unfolding one-token begins
one-token-opens l = record { opens = λ tokens rest d. ap (begins no_close) d.1 ∙ ap not (not-text l.text (125 ∷ []) d.0) }

one-token-reads : (l : Lexeme) → Reads never (one-token l) (skip (done zero)) zero
unfolding one-token
one-token-reads l = record { reads = λ tokens rest d stop. subst (λ ts. Found (skip (done zero)) ts zero rest) (sym d.1) (skip-found (done zero) zero l rest rest (done-found zero rest)) }

group-many : (group : List Lexeme) → ReadsMany (begins no_close) (Group group) (begins no_close) (skip (done zero)) (zeros group)
unfolding zeros ◌>>◌ one-token
group-many [] = record { reads = λ tokens rest d stop. (no-more {u = begins no_close} {test = begins no_close} {r = skip (done zero)} (λ ts e. e)).reads tokens rest d.1 stop }
group-many (l ∷ ls) = record {
  reads = λ tokens rest d stop.
      let no' : is_no_brace l = d.0 0 l (omega arith) in
      let one : ReadsMany (begins no_close) (one-token l >> Group ls) (begins no_close) (skip (done zero)) (zero ∷ zeros ls) =
      one-more {s = never} (one-token-opens l) (one-token-reads l) (record { leads = λ ts rs d' stop'. refl }) (group-many ls) in
      one.reads tokens rest (ls ++ rest, (no'.1, d.1), (λ k x lt. d.0 (suc k) x (omega arith), refl)) stop;
}

module _ (t : Numbering) where
  abbrev place : ℕ → ℕ
  place byte = byte

  abbrev pub made_item : Item → Item
  made_item (ATarget x) = ATarget (target_changed (renamed t) place x)
  made_item (AStruct s) = AStruct (struct_changed (renamed t) place s)
  made_item (AVariable v) = AVariable (variable_changed (renamed t) place v)
  made_item (ADeclaration h) = ADeclaration (made_head t h)
  made_item (ADefinition f b) = ADefinition (function_changed (renamed t) place f) (body_changed (renamed t) place b)
  made_item (Versions ns) = Versions (map (node_ref_changed (renamed t) place) ns)
  made_item (ANode n) = ANode (node_changed (renamed t) place n)
  made_item Dropped = Dropped

  target-reads : {u : Ahead} (x : Target) → Reads u (target x) (item_with t.look targets) (made_item (ATarget x))
  unfolding item_with
  target-reads x = then' _ (first-reads _ _ _ (λ l k d. d.1)) (then' _ (first-reads _ _ _ (λ l k d. ap (look_up kind_words DataLayout) d ∙ target-known x.kind)) (skipped _ _ (made _ (first-reads _ _ _ (λ l k d. d)))))

  struct-reads : (s : Struct) → Reads (begins pointer_start) (struct_type t.names s) (item_with t.look structs) (made_item (AStruct s))
  unfolding item_with
  struct-reads s = then' _ (name-reads t LocalToken StructName s.name) (skipped _ _ (skipped _ _ (made _ (type-reads t s.ty))))

  kind-word-reads : {u : Ahead} → Reads u (word (codes "global") or word (codes "constant")) (skip (done zero)) zero
  kind-word-reads = both-read _ _ (last _ _) (last _ _)

  kind-word-leads : {u : Ahead} (test : Test) → test Word (codes "global") ≡ false → test Word (codes "constant") ≡ false → (q : Production) → Leads u ((word (codes "global") or word (codes "constant")) >> q) (begins test)
  kind-word-leads test e f q = lead-first q (lead-or (lead-word (codes "global") test e) (lead-word (codes "constant") test f))

  space-front : {u : Ahead} (test : Test) → test Word (codes "global") ≡ false → test Word (codes "constant") ≡ false → test Word (codes "addrspace") ≡ false → (n : ℕ) (q : Production) → Leads u (space n >> (word (codes "global") or word (codes "constant")) >> q) (begins test)
  space-front test e f g n q = lead-then (space-leads test g n) (kind-word-leads test e f q)

  unnamed-front : {u : Ahead} (test : Test) → test Word (codes "global") ≡ false → test Word (codes "constant") ≡ false → test Word (codes "addrspace") ≡ false → test Word (codes "unnamed_addr") ≡ false → test Word (codes "local_unnamed_addr") ≡ false → (n : ℕ) (q : Production) →
      Leads u (maybe unnamed >> space n >> (word (codes "global") or word (codes "constant")) >> q) (begins test)
  unnamed-front test e f g h i n q =
      lead-then (passed-leads _ (lead-or (lead-word (codes "unnamed_addr") test h) (lead-word (codes "local_unnamed_addr") test i)) (λ ts x. x)) (space-front test e f g n q)

  linkage-ahead : {u : Ahead} (test : Test) → test Word (codes "global") ≡ false → test Word (codes "constant") ≡ false → test Word (codes "addrspace") ≡ false → test Word (codes "unnamed_addr") ≡ false → test Word (codes "local_unnamed_addr") ≡ false → test Word (codes "dso_local") ≡ false → (n : ℕ) (q : Production) →
      Leads u (maybe (word (codes "dso_local")) >> maybe unnamed >> space n >> (word (codes "global") or word (codes "constant")) >> q) (begins test)
  linkage-ahead test e f g h i j n q = lead-then (passed-leads _ (lead-word (codes "dso_local") test j) (λ ts x. x)) (unnamed-front test e f g h i n q)

  attached-leads : Leads (begins (is_mark 44)) any_attachments further
  attached-leads = some-leads _ (λ list. lead-each (no-comma not_attached) (λ (a : List ℕ × NodeRef). lead-behind-comma not_attached (lead-first _ (lead-kind MdName _ _ (λ bytes. refl)))) list)

  variable-reads : (v : Variable) → Reads (begins (is_mark 44)) (variable t.names v) (item_with t.look variables) (made_item (AVariable v))
  unfolding item_with
  variable-reads v =
      then' _ (name-reads t GlobalToken GlobalName v.name) (skipped _ _
      (seq _ (linkage-reads v.linkage) (linkage-ahead linkage_start refl refl refl refl refl refl v.space _)
      (seq _ local-word-reads (unnamed-front local_word_start refl refl refl refl refl v.space _)
      (seq _ unnamed-reads (space-front unnamed_start refl refl refl v.space _)
      (seq _ (space-reads v.space) (kind-word-leads space_start refl refl _)
      (then' _ kind-word-reads
      (seq _ (type-reads t v.ty) (lead-first _ (lead-outside operand_start _ (value-opens t.names v.init v.ty)))
      (then' _ (value-reads t v.init v.ty)
      (seq _ (align-read (λ ts e. e) v.align) attached-leads
      (made _ attachments-read))))))))))

  -- nodes
  refs-read : (ns : List NodeRef) → Reads (begins (either node_start (is_mark 44))) (listed node_name ns) (separated (begins node_start) comma_ahead read_node) ns
  refs-read ns =
      at (map-kept (λ n. n) (λ n. refl) ns)
      (listed-reads (λ n. n) (either-left node_start (is_mark 44)) (either-right node_start (is_mark 44)) (λ ts e. refl) (record { leads = λ tokens rest d stop. refl })
      (λ n. opens-token Mdn _ node_start (λ l d. refl)) (λ n. opens-first _ (opens-mark 44 (is_mark 44) refl)) node-reads ns)

  named-reads : {u : Ahead} (name : List ℕ) (ns : List NodeRef) → Reads u (named_nodes name ns) (item_with t.look named) (if bytes_eq name (codes "opencl.ocl.version") then Versions ns else Dropped)
  unfolding item_with
  named-reads name ns =
      then' _ (first-reads _ _ _ (λ l k d. d)) (skipped _ _ (skipped _ _ (skipped _ _ (seq _ (refs-read ns) (lead-mark 125 (either node_start (is_mark 44)) refl) (last _ _)))))

  part-reads : {u : Ahead} (p : NodePart) → Reads u (node_part t.names p) (read_part t.look) (part_changed (renamed t) place p)
  unfolding read_part
  part-reads (part.Node n) = reads-first _ _ (opens-token Mdn _ node_start (λ l d. refl)) (made part.Node (node-reads n))
  part-reads (part.Text bytes) =
      reads-second _ _ (lead-kind MdStr _ node_start (λ bytes. refl)) (reads-first _ _ (opens-token MdStr _ string_start (λ l d. refl)) (first-reads _ _ _ (λ l k d. ap part.Text d)))
  part-reads part.Null =
      reads-second _ _ (lead-word (codes "null") node_start refl) (reads-second _ _ (lead-word (codes "null") string_start refl) (reads-first _ _ (opens-word (codes "null") null_start refl) (last _ _)))
  part-reads (part.Value v) =
      reads-second _ _ (lead-first _ (lead-first _ (no-part t.names node_start (λ b. refl) (λ b. refl) (λ b. refl) v.ty.base)))
      (reads-second _ _ (lead-first _ (lead-first _ (no-part t.names string_start (λ b. refl) (λ b. refl) (λ b. refl) v.ty.base)))
      (reads-second _ _ (lead-first _ (lead-first _ (no-null t.names v.ty.base))) (made part.Value (typed-reads t v))))

  parts-read : (ps : List NodePart) → Reads (begins (either part_start (is_mark 44))) (listed (node_part t.names) ps) (separated (begins part_start) comma_ahead (read_part t.look)) (map (part_changed (renamed t) place) ps)
  parts-read ps =
      listed-reads (part_changed (renamed t) place) (either-left part_start (is_mark 44)) (either-right part_start (is_mark 44)) (λ ts e. refl) (record { leads = λ tokens rest d stop. refl })
      (part-opens t.names) (λ p. opens-first _ (opens-mark 44 (is_mark 44) refl)) part-reads ps

  node-item-reads : {u : Ahead} (n : Node) → Reads u (node t.names n) (item_with t.look nodes) (made_item (ANode n))
  unfolding item_with
  node-item-reads n =
      then' _ (node-reads (record { number = n.number; byte = n.byte })) (skipped _ _
      (seq _ (passed-reads _ (begins distinct_start) (opens-word (codes "distinct") distinct_start refl) (last _ _) (λ ts e. e)) (lead-first _ (lead-kind Bang _ distinct_start (λ bytes. refl)))
      (skipped _ _ (skipped _ _ (seq _ (parts-read n.parts) (lead-mark 125 (either part_start (is_mark 44)) refl) (last _ _))))))

  group-and-close : {u : Ahead} → Reads u ((λ tokens rest. (group : List Lexeme) × All is_no_brace group × (tokens ≡ group ++ rest)) >> mark 125) (bind (many (begins no_close) (skip (done zero))) (λ (_ : List ℕ). skip (done Dropped))) Dropped
  unfolding ◌>>◌
  group-and-close {u} = record {
    reads = λ tokens rest d stop.
        let one : Reads u (Group d.1.0 >> mark 125) (bind (many (begins no_close) (skip (done zero))) (λ (_ : List ℕ). skip (done Dropped))) Dropped =
        seq {s = begins no_close} {p = Group d.1.0} {q = mark 125} (λ (_ : List ℕ). skip (done Dropped)) (all-read (group-many d.1.0)) (lead-mark 125 no_close refl) (last _ _) in
        one.reads tokens rest (d.0, (d.1.1, d.1.2), d.2) stop;
  }

  group-reads : {u : Ahead} → Reads u (word (codes "attributes") >> attribute_group >> mark 61 >> mark 123 >> (λ tokens rest. (group : List Lexeme) × All is_no_brace group × (tokens ≡ group ++ rest)) >> mark 125) (item_with t.look groups) Dropped
  unfolding item_with
  group-reads = skipped _ _ (skipped _ _ (skipped _ _ (skipped _ _ group-and-close)))

  source-reads : {u : Ahead} → Reads u (word (codes "source_filename") >> mark 61 >> token Str (λ _. Unit {0})) (item_with t.look sources) Dropped
  unfolding item_with
  source-reads = skipped _ _ (skipped _ _ (last _ _))

  other-name : (name : List ℕ) (ns : List NodeRef) → (name ≡ codes "opencl.ocl.version" → ⊥) → (let i : Item = (if bytes_eq name (codes "opencl.ocl.version") then Versions ns else Dropped) in i) ≡ Dropped
  other-name name ns differ = ap (λ b. if b then Versions ns else Dropped) (not-text name (codes "opencl.ocl.version") differ)

  dropped-reads : Reads never dropped_item (read_item t.look) Dropped
  unfolding read_item
  dropped-reads =
      both-read _ _ (of-sort here (item_with t.look) sources (shows-first _ (shows-word sources sort_of (codes "source_filename") sources refl)) source-reads)
      (both-read _ _ (of-sort here (item_with t.look) groups (shows-first _ (shows-word sources sort_of (codes "attributes") groups refl)) group-reads)
      (record {
        reads = λ tokens rest d stop.
            let one : Reads never (named_nodes d.0 d.1) (item_with t.look named) Dropped = at (other-name d.0 d.1 d.2) (named-reads d.0 d.1) in
            let two : Reads never (named_nodes d.0 d.1) (by_sort here (item_with t.look)) Dropped = of-sort here (item_with t.look) named (shows-first _ (shows-token sources sort_of MdName _ named (λ l e. refl))) one in
            two.reads tokens rest d.3 stop;
      }))

  definition-item : (f : Function) (b : Body Inst ℕ) → Reads (begins item_end) (definition t.names f b) (by_sort here (item_with t.look)) (ADefinition (function_changed (renamed t) place f) (body_changed (renamed t) place b))
  unfolding item_with
  definition-item f b = of-sort here (item_with t.look) defines definition-shows (made (λ (d : Defined). ADefinition d.0 d.1) (stopped (λ ts e. refl) (definition-reads t f b)))
    where
      definition-shows : Shows here (definition t.names f b) defines
      definition-shows = record { shows = λ tokens rest d. (shows-first _ (shows-token sources sort_of Word _ defines (λ l w. ap (sort_of Word) w.0))).shows tokens rest d.4 }

  pub item-reads : (i : Item) → Reads (begins item_end) (item t.names i) (read_item t.look) (made_item i)
  unfolding read_item item_with
  item-reads (ATarget x) = of-sort here (item_with t.look) targets (shows-first _ (shows-token sources sort_of Word _ targets (λ l d. ap (sort_of Word) d.0))) (target-reads x)
  item-reads (AStruct s) = of-sort here (item_with t.look) structs (shows-first _ (shows-token sources sort_of LocalToken _ structs (λ l d. refl))) (stopped end-pointer (struct-reads s))
  item-reads (AVariable v) = of-sort here (item_with t.look) variables (shows-first _ (shows-token sources sort_of GlobalToken _ variables (λ l d. refl))) (stopped end-comma (variable-reads v))
  item-reads (ADeclaration h) =
      of-sort here (item_with t.look) declares (shows-first _ (shows-token sources sort_of Word _ declares (λ l d. ap (sort_of Word) d.0))) (made ADeclaration (stopped end-head (declaration-reads t h)))
  item-reads (ADefinition f b) = definition-item f b
  item-reads (Versions ns) = of-sort here (item_with t.look) named (shows-first _ (shows-token sources sort_of MdName _ named (λ l d. refl))) (at (ap Versions (sym (map-kept (λ n. n) (λ n. refl) ns))) (named-reads (codes "opencl.ocl.version") ns))
  item-reads (ANode n) = of-sort here (item_with t.look) nodes (shows-first _ (shows-token sources sort_of Mdn _ nodes (λ l d. refl))) (node-item-reads n)
  item-reads Dropped = stopped (λ ts e. refl) dropped-reads

  definition-leads : (f : Function) (b : Body Inst ℕ) → Leads never (definition t.names f b) (begins item_end)
  definition-leads f b = record { leads = λ tokens rest d stop. fails tokens rest _ d.4 }
    where
      fails : (tokens rest : List Lexeme) (q : Production) → (placed_word (codes "define") f.head.byte >> q) tokens rest → begins item_end tokens ≡ false
      fails tokens rest q d =
          let front : Leads never (placed_word (codes "define") f.head.byte >> q) (begins item_end) = lead-first q (lead-token Word _ item_end (λ l w. ap (item_end Word) w.0)) in
          front.leads tokens rest d refl

  item-leads : (i : Item) → Leads never (item t.names i) (begins item_end)
  item-leads (ATarget x) = lead-first _ (lead-token Word _ item_end (λ l d. ap (item_end Word) d.0))
  item-leads (AStruct s) = lead-first _ (lead-kind LocalToken _ item_end (λ bytes. refl))
  item-leads (AVariable v) = lead-first _ (lead-kind GlobalToken _ item_end (λ bytes. refl))
  item-leads (ADeclaration h) = lead-first _ (lead-token Word _ item_end (λ l d. ap (item_end Word) d.0))
  item-leads (ADefinition f b) = definition-leads f b
  item-leads (Versions ns) = lead-first _ (lead-kind MdName _ item_end (λ bytes. refl))
  item-leads (ANode n) = lead-first _ (lead-kind Mdn _ item_end (λ bytes. refl))
  item-leads Dropped =
      lead-or (lead-first _ (lead-word (codes "source_filename") item_end refl)) (lead-or (lead-first _ (lead-word (codes "attributes") item_end refl))
      (record {
        leads = λ tokens rest d stop.
            let front : Leads never (named_nodes d.0 d.1) (begins item_end) = lead-first _ (lead-kind MdName _ item_end (λ bytes. refl)) in
            front.leads tokens rest d.3 refl;
      }))

  item-opens : (i : Item) → Opens (item t.names i) nonempty
  item-opens (ATarget x) = opens-first _ (opens-token Word _ any (λ l d. refl))
  item-opens (AStruct s) = opens-first _ (opens-token LocalToken _ any (λ l d. refl))
  item-opens (AVariable v) = opens-first _ (opens-token GlobalToken _ any (λ l d. refl))
  item-opens (ADeclaration h) = opens-first _ (opens-token Word _ any (λ l d. refl))
  item-opens (ADefinition f b) = record { opens = λ tokens rest d. (opens-first _ (opens-token Word _ any (λ l w. refl))).opens tokens rest d.4 }
  item-opens (Versions ns) = opens-first _ (opens-token MdName _ any (λ l d. refl))
  item-opens (ANode n) = opens-first _ (opens-token Mdn _ any (λ l d. refl))
  item-opens Dropped =
      opens-or _ _ (opens-first _ (opens-token Word _ any (λ l d. refl))) (opens-or _ _ (opens-first _ (opens-token Word _ any (λ l d. refl)))
      (record { opens = λ tokens rest d. (opens-first _ (opens-token MdName _ any (λ l w. refl))).opens tokens rest d.3 }))

  nonempty-end : Weaker nonempty (begins item_end)
  unfolding begins
  nonempty-end [] e = refl
  nonempty-end (l ∷ ls) e = absurd (true≢false e)

  pub items-read : (list : List Item) → Reads nonempty (each (item t.names) list) (read_items t.look) (map made_item list)
  unfolding read_items
  items-read list = each-reads made_item (λ ts e. e) nonempty-end item-opens item-leads item-reads list
