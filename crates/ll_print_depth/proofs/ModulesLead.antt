-- The walk over brackets goes through what a module is written as.
use Rattle.std.proofs.Common.{◌≡◌, ℕ, Bool, true, false, not, List, [], ◌∷◌, ◌++◌, All, length, codes, arith, ◌==◌, ◌&&◌, Option, None, Some, refl, sym, ap, ap₂, ◌∙◌, subst, inl, inr}
use Rattle.std.specs.Prelude.{flat_map, if◌then◌else◌}
use Rattle.std.proofs.lemmas.Bool.{false≢true}
use Rattle.std.proofs.lemmas.Bool.Decides.{nat_tests}
use Rattle.std.proofs.lemmas.List.Elements.{All-head, All-tail}
use Rattle.ll_tokens.specs.declared.kinds.TokenKind.{TokenKind}
use Rattle.ll_tokens.specs.declared.kinds.TokenKind.TheVariants.{Attr, Bang, CStr, Global, Int, Label, Local, MdName, MdStr, Mdn, Punct, Str, Word}
use Rattle.ll_tokens.specs.Forms.{has_form}
use Rattle.ll_tokens.specs.Tokens.{IsTokens, Lexeme, Reads, has_kind}
use Rattle.ll_tree.specs.declared.module.LlModule.{LlModule}
use Rattle.ll_tree.specs.declared.module.Node.{Node}
use Rattle.ll_tree.specs.declared.module.NodePart.{NodePart}
use Rattle.ll_tree.specs.declared.module.NodePart.TheVariants as part
use Rattle.ll_tree.specs.declared.module.NodeRef.{NodeRef}
use Rattle.ll_tree.specs.declared.module.Struct.{Struct}
use Rattle.ll_tree.specs.declared.module.Target.{Target}
use Rattle.ll_tree.specs.declared.module.TargetKind.{TargetKind}
use Rattle.ll_tree.specs.declared.module.TargetKind.TheVariants.{DataLayout, Triple}
use Rattle.ll_tree.specs.declared.module.Variable.{Variable}
use Rattle.ll_tree.specs.declared.name.NameText.{NameText}
use Rattle.ll_parser.specs.GrammarAttributes.{attachment, node_name}
use Rattle.ll_parser.specs.GrammarItems.{ADeclaration, ADefinition, ANode, AStruct, ATarget, AVariable, Dropped, IsModule, Item, Versions, declarations_of, dropped_item, is_no_brace, item, named_nodes, node, node_part, nodes_of, struct_type, structs_of, target, target_word, targets_of, variable, variables_of, versions_of}
use Rattle.ll_parser.specs.GrammarTypes.{space}
use Rattle.ll_parser.specs.Productions.{Production, ◌>>◌, ◌or◌, each, listed, mark, token, word}
use Rattle.ll_types.specs.Nesting.{first_byte, first_too_deep, mark_code, nesting_refusal, refusal_at}
use Rattle.ll_printed.specs.ModulePhrases.{braced, declaration_line, equals, function_phrase, module_phrase, node_line, node_ref_phrase, part_phrase, struct_line, target_line, variable_line, variable_space, variable_word, version_line}
use Rattle.ll_phrases.specs.Phrases.{Empty, Phrase, ◌&◌, a_word, blank, each_phrase, list_phrase, spelled, each_behind}
use Rattle.ll_phrases.specs.TypePhrases.{space_phrase}
use Rattle.ll_printed.proofs.ModulesAgain.{own-phrase}
use Rattle.ll_printed.proofs.ModulesWritten.{pairs_of, kept_of, kept_phrase}
use Rattle.ll_print_depth.proofs.AttributesLead.{attachment-left-out, comma-left-out, each-left-out, node-leads, placed-leads}
use Rattle.ll_print_depth.proofs.FunctionsLead.{declaration-leads, function-leads, linkage-leads, maybe-word-left-out, nothing-left, words-left-out}
use Rattle.ll_print_depth.proofs.OpsLead.{align-leads, listed-leads}
use Rattle.ll_print_depth.proofs.Passing.{IsAdded, IsShallow, Leads, OfKind, added, both-added, closing-leads, counted-leads, deep, empty-added, gap-added, gap-leads, leads-gap, left-of, mark-passes, skipped, skipped-behind, solid-added, then-leads, token-leads, token-left-out, word-leads, word-left-out, word-plain, braced-passes, mark-added}
use Rattle.ll_print_depth.proofs.TypesLead.{quiet-bang, quiet-local, quiet-node, quiet-node-name, quiet-node-text, quiet-string, space-leads, type-leads}
use Rattle.ll_print_depth.proofs.ValuesLead.{global-leads, typed-leads, value-leads}

equals-leads : {a : List Bool} (tokens rest : List Lexeme) → mark 61 tokens rest → Leads a a tokens rest equals
equals-leads tokens rest is = gap-leads (leads-gap (mark-passes 61 tokens rest (λ next. refl) is))

target-leads : (a : List Bool) (t : Target) (tokens rest : List Lexeme) → target t tokens rest → Leads a a tokens rest (target_line t)
unfolding ◌>>◌
target-leads a t tokens rest (p, w, (q, kind, (r, equal, s))) =
    then-leads (placed-leads (codes "target") t.byte tokens p refl w) (gap-leads (then-leads (kind-leads t.kind kind) (then-leads (equals-leads q r equal) (leads-gap (token-leads Str _ _ r rest quiet-string s)))))
  where
    kind-leads : (k : TargetKind) → word (target_word k) p q → Leads a a p q (a_word (target_word k))
    kind-leads DataLayout is = word-leads (codes "datalayout") p q refl is
    kind-leads Triple is = word-leads (codes "triple") p q refl is

-- a list between `!{` and `}`
braced-leads : {A : Type 0} (item : A → Production) (phrase : A → Phrase) (a : List Bool) → ((x : A) (ts rs : List Lexeme) → item x ts rs → Leads (a ++ true ∷ []) (a ++ true ∷ []) ts rs (phrase x)) → (xs : List A) (tokens p q r rest : List Lexeme)
    → token Bang (λ _. Unit {0}) tokens p → mark 123 p q → listed item xs q r → mark 125 r rest → Leads a a tokens rest (braced (list_phrase phrase xs))
braced-leads item phrase a one xs tokens p q r rest bang opens are closes =
    then-leads (token-leads Bang _ _ tokens p quiet-bang bang) (counted-leads 123 p q rest (λ next. refl) opens (then-leads (listed-leads item phrase (a ++ true ∷ []) one xs q r are) (closing-leads true 125 r rest (λ next. refl) closes)))

versions-lead : (a : List Bool) (name : List ℕ) (ns : List NodeRef) (tokens rest : List Lexeme) → named_nodes name ns tokens rest → Leads a a tokens rest (version_line ns)
unfolding ◌>>◌
versions-lead a name [] tokens rest (p, w, (q, equal, (r, bang, (s, opens, (u, are, closes))))) = record { leads = λ shallow. (left-of all shallow, λ ts after same. ap (deep a) same) }
  where
    all : Leads a a tokens rest (equals & braced Empty)
    all = skipped (token-left-out a MdName _ tokens p quiet-node-name w) (then-leads (equals-leads p q equal) (braced-leads node_name node_ref_phrase a (λ n ts rs is. node-leads n ts rs is) [] q r s u rest bang opens are closes))
versions-lead a name (n ∷ ns) tokens rest (p, w, (q, equal, (r, bang, (s, opens, (u, are, closes))))) =
    then-leads (token-leads MdName _ _ tokens p quiet-node-name w) (then-leads (equals-leads p q equal) (leads-gap (braced-leads node_name node_ref_phrase a (λ m ts rs is. node-leads m ts rs is) (n ∷ ns) q r s u rest bang opens are closes)))

space-added : (n : ℕ) (a b : List Bool) (tokens m rest : List Lexeme) (q : Phrase) → space n tokens m → Leads a b m rest q → Leads a b tokens rest (variable_space n & q)
space-added n a b tokens m rest q is passing = by-test (n == 0) refl is
  where
    by-test : (test : Bool) → (n == 0) ≡ test → space n tokens m → Leads a b tokens rest ((if test then Empty else blank & space_phrase n) & q)
    by-test true eq (inl s) = added empty-added (skipped (left-of (space-leads n tokens m s)) passing)
    by-test true eq (inr (none, same)) = added empty-added (skipped (nothing-left a tokens m same) passing)
    by-test false eq (inl s) = then-leads (gap-leads (space-leads n tokens m s)) passing
    by-test false eq (inr (none, same)) = absurd (false≢true (sym eq ∙ ap (λ k. k == 0) none))

variable-word-added : (n : ℕ) → IsAdded (a_word (variable_word n))
variable-word-added n = by-test (n == 2)
  where
    by-test : (test : Bool) → IsAdded (a_word (if test then codes "constant" else codes "global"))
    by-test true = solid-added Word (codes "constant") (word-plain (codes "constant") refl)
    by-test false = solid-added Word (codes "global") (word-plain (codes "global") refl)

variable-word-left-out : (a : List Bool) (tokens rest : List Lexeme) → (word (codes "global") or word (codes "constant")) tokens rest → IsShallow a tokens → IsShallow a rest
variable-word-left-out a tokens rest (inl is) shallow = word-left-out a (codes "global") tokens rest refl is shallow
variable-word-left-out a tokens rest (inr is) shallow = word-left-out a (codes "constant") tokens rest refl is shallow

module _ (names : List NameText) where
  struct-leads : (a : List Bool) (s : Struct) (tokens rest : List Lexeme) → struct_type names s tokens rest → Leads a a tokens rest (struct_line names s)
  unfolding ◌>>◌
  struct-leads a s tokens rest (p, n, (q, equal, (r, w, t))) =
      then-leads (token-leads Local _ _ tokens p quiet-local n) (then-leads (equals-leads p q equal) (then-leads (word-leads (codes "type") q r refl w) (gap-leads (leads-gap (type-leads names s.ty r rest t)))))

  variable-leads : (a : List Bool) (v : Variable) (tokens rest : List Lexeme) → variable names v tokens rest → Leads a a tokens rest (variable_line names v)
  unfolding ◌>>◌
  variable-leads a v tokens rest (p, n, (q, equal, (r, l, (s, o, (u, un, (x, sp, (y, w, (z, t, (i, init, (j, al, (dropped, are))))))))))) =
      then-leads (global-leads names v.name tokens p n) (gap-leads (then-leads (mark-passes 61 p q (λ next. refl) equal)
      (linkage-leads v.linkage q r rest l (skipped (maybe-word-left-out a (codes "dso_local") r s refl o) (skipped (words-left-out a (codes "unnamed_addr") (codes "local_unnamed_addr") s u refl refl un)
      (space-added v.space a a u x rest _ sp (gap-leads (added (variable-word-added v.space) (skipped (variable-word-left-out a x y w)
      (gap-leads (then-leads (type-leads names v.ty y z t) (gap-leads (then-leads (value-leads names v.init v.ty z i init)
      (leads-gap (skipped-behind (align-leads v.align i j al) (each-left-out (λ x'. mark 44 >> attachment x') a (λ x' ts rs (m, comma_is, is) sh. attachment-left-out a x' m rs is (comma-left-out a ts m comma_is sh)) dropped j rest are))))))))))))))))

  part-leads : (a : List Bool) (x : NodePart) (tokens rest : List Lexeme) → node_part names x tokens rest → Leads a a tokens rest (part_phrase names x)
  part-leads a (part.Node n) tokens rest d = node-leads n tokens rest d
  part-leads a (part.Text bytes) tokens rest d = token-leads MdStr _ _ tokens rest quiet-node-text d
  part-leads a part.Null tokens rest d = word-leads (codes "null") tokens rest refl d
  part-leads a (part.Value v) tokens rest d = typed-leads names v tokens rest d

  metadata-leads : (a : List Bool) (n : Node) (tokens rest : List Lexeme) → node names n tokens rest → Leads a a tokens rest (node_line names n)
  unfolding ◌>>◌
  metadata-leads a n tokens rest (p, named, (q, equal, (r, distinct, (s, bang, (u, opens, (x, are, closes)))))) =
      then-leads (token-leads Mdn _ _ tokens p quiet-node named) (then-leads (equals-leads p q equal)
      (leads-gap (skipped (maybe-word-left-out a (codes "distinct") q r refl distinct) (braced-leads (node_part names) (part_phrase names) a (part-leads (a ++ true ∷ [])) n.parts r s u x rest bang opens are closes))))

-- inside an attribute group a token that is no closing brace, 125
group-turn : (l : Lexeme) (rest : List Lexeme) → (mark_code l.kind l.text == 125) ≡ false → first_too_deep true [] (l ∷ rest) ≡ first_too_deep true [] rest
group-turn l rest isnt = ap (λ t. first_too_deep (not t) [] rest) isnt

one-byte : (text : List ℕ) → has_kind Punct text ≡ true → (text ≡ 125 ∷ [] → ⊥) → (first_byte text == 125) ≡ false
unfolding has_form
one-byte [] kind isnt = refl
one-byte (b ∷ []) kind isnt = by-test (b == 125) refl
  where
    by-test : (test : Bool) → (b == 125) ≡ test → (b == 125) ≡ false
    by-test true is = absurd (isnt (ap (λ c. c ∷ []) (same-byte b is)))
      where
        same-byte : (c : ℕ) → (c == 125) ≡ true → c ≡ 125
        same-byte c e = grind (arith, nat_tests)
    by-test false is = is
one-byte (b ∷ c ∷ bytes) kind isnt = absurd (false≢true (sym (and-false _) ∙ kind))
  where
    and-false : (x : Bool) → (x && false) ≡ false
    and-false true = refl
    and-false false = refl

no-brace : (kind : TokenKind) (text : List ℕ) → has_kind kind text ≡ true → (text ≡ 125 ∷ [] → ⊥) → (mark_code kind text == 125) ≡ false
no-brace Punct text is isnt = one-byte text is isnt
no-brace Label text is isnt = refl
no-brace Local text is isnt = refl
no-brace Global text is isnt = refl
no-brace Mdn text is isnt = refl
no-brace MdName text is isnt = refl
no-brace MdStr text is isnt = refl
no-brace Bang text is isnt = refl
no-brace Attr text is isnt = refl
no-brace Str text is isnt = refl
no-brace CStr text is isnt = refl
no-brace Int text is isnt = refl
no-brace Word text is isnt = refl

-- the tokens of a group, up to its brace
group-passes : (group : List Lexeme) (rest : List Lexeme) → All is_no_brace group → OfKind (group ++ rest) → (first_too_deep true [] (group ++ rest) ≡ first_too_deep true [] rest) × OfKind rest
group-passes [] rest all kinds = (refl, kinds)
group-passes (l ∷ group) rest all kinds =
    let (same, left) = group-passes group rest (All-tail is_no_brace l group all) kinds.1 in
    (group-turn l (group ++ rest) (no-brace l.kind l.text kinds.0 (All-head is_no_brace l group all).1) ∙ same, left)

token-in-group : (kind : TokenKind) (l : Lexeme) (rest : List Lexeme) → l.kind ≡ kind → ((text : List ℕ) → (mark_code kind text == 125) ≡ false) → first_too_deep true [] (l ∷ rest) ≡ first_too_deep true [] rest
token-in-group kind l rest of none = group-turn l rest (ap (λ k. mark_code k l.text == 125) of ∙ none l.text)

mark-in-group : (code : ℕ) (l : Lexeme) (rest : List Lexeme) → l.kind ≡ Punct → l.text ≡ code ∷ [] → (code == 125) ≡ false → first_too_deep true [] (l ∷ rest) ≡ first_too_deep true [] rest
mark-in-group code l rest of same isnt = group-turn l rest (ap₂ (λ k t. mark_code k t == 125) of same ∙ isnt)

brace-ends : (l : Lexeme) (rest : List Lexeme) → l.kind ≡ Punct → l.text ≡ 125 ∷ [] → first_too_deep true [] (l ∷ rest) ≡ deep [] rest
brace-ends l rest of same = ap₂ (λ k t. first_too_deep (not (mark_code k t == 125)) [] rest) of same

group-begins : (l : Lexeme) (rest : List Lexeme) → l.kind ≡ Word → l.text ≡ codes "attributes" → deep [] (l ∷ rest) ≡ first_too_deep true [] rest
group-begins l rest of same = ap₂ (λ k t. deep [] (record { kind = k; text = t; byte = l.byte } ∷ rest)) of same

group-left-out : (tokens a b c d e rest : List Lexeme) (group : List Lexeme) → word (codes "attributes") tokens a → token Attr (λ lexeme. Unit {0}) a b → mark 61 b c → mark 123 c d → All is_no_brace group → d ≡ group ++ e → mark 125 e rest
    → IsShallow [] tokens → IsShallow [] rest
group-left-out tokens a b c d e rest group (l, is, of, text) (l1, is1, of1, any) (l2, is2, of2, text2) (l3, is3, of3, text3) all same (l4, is4, of4, text4) shallow =
    let kinds1 = (subst OfKind is shallow.1).1 in
    let kinds2 = (subst OfKind is1 kinds1).1 in
    let kinds3 = (subst OfKind is2 kinds2).1 in
    let kinds4 = (subst OfKind is3 kinds3).1 in
    let (through, kinds5) = group-passes group e all (subst OfKind same kinds4) in (
      sym (ap (deep []) is ∙ (group-begins l a of text
          ∙ (ap (first_too_deep true []) is1 ∙ (token-in-group Attr l1 b of1 (λ t. refl)
          ∙ (ap (first_too_deep true []) is2 ∙ (mark-in-group 61 l2 c of2 text2 refl
          ∙ (ap (first_too_deep true []) is3 ∙ (mark-in-group 123 l3 d of3 text3 refl
          ∙ (ap (first_too_deep true []) same ∙ (through
          ∙ (ap (first_too_deep true []) is4 ∙ brace-ends l4 rest of4 text4))))))))))) ∙ shallow.0,
      (subst OfKind is4 kinds5).1,
    )

dropped-left-out : (tokens rest : List Lexeme) → dropped_item tokens rest → IsShallow [] tokens → IsShallow [] rest
unfolding ◌>>◌
dropped-left-out tokens rest (inl (a, w, (b, equal, s))) shallow =
    token-left-out [] Str _ b rest quiet-string s (left-of (mark-passes 61 a b (λ next. refl) equal) (word-left-out [] (codes "source_filename") tokens a refl w shallow))
dropped-left-out tokens rest (inr (inl (a, w, (b, (l, is, of, small), (c, equal, (d, opens, (e, (group, all, same), closes))))))) shallow =
    group-left-out tokens a b c d e rest group w (l, is, of, tt) equal opens all same closes shallow
dropped-left-out tokens rest (inr (inr (name, nodes, isnt, d))) shallow = left-of (versions-lead [] name nodes tokens rest d) shallow

-- tokens of a phrase that the walk goes through outside all brackets
record Passed (phrase : Phrase) : Type 0 where
  pub passed : (ts after : List Lexeme) → spelled phrase ts after → deep [] ts ≡ deep [] after

abbrev AllPassed : {A : Type 0} → (A → Phrase) → List A → Type 0
AllPassed phrase [] = Unit {0}
AllPassed phrase (x ∷ xs) = Passed (phrase x) × AllPassed phrase xs

both-passed : {p q : Phrase} → Passed p → Passed q → Passed (p & q)
unfolding ◌>>◌
both-passed one two = record { passed = λ ts after (m, here, there). one.passed ts m here ∙ two.passed m after there }

lines-passed : {A : Type 0} (phrase : A → Phrase) (xs : List A) → AllPassed phrase xs → Passed (each_phrase phrase xs)
lines-passed phrase [] all = record { passed = λ ts after same. ap (deep []) same }
lines-passed phrase (x ∷ xs) (one, all) = both-passed one (lines-passed phrase xs all)

all-joined : {A : Type 0} (phrase : A → Phrase) (xs ys : List A) → AllPassed phrase xs → AllPassed phrase ys → AllPassed phrase (xs ++ ys)
all-joined phrase [] ys all more = more
all-joined phrase (x ∷ xs) ys (one, all) more = (one, all-joined phrase xs ys all more)

of-leads : {tokens rest : List Lexeme} {p : Phrase} → Leads [] [] tokens rest p → IsShallow [] tokens → Passed p
of-leads passing shallow = record { passed = (passing.leads shallow).1 }

nodes-added : (ns : List NodeRef) → IsAdded (each_behind node_ref_phrase ns)
nodes-added [] = empty-added
nodes-added (n ∷ ns) = both-added (both-added (mark-added 44 (λ next. refl)) (gap-added 32)) (both-added (solid-added Mdn _ (quiet-node _)) (nodes-added ns))

version-passed : (ns : List NodeRef) → Passed (version_line ns)
unfolding ◌>>◌
version-passed [] = record { passed = λ ts after same. ap (deep []) same }
version-passed (n ∷ ns) = record {
  passed = λ ts after (m, name, (k, equal, (j, (p, bang, brackets), line))).
      (solid-added MdName _ (quiet-node-name _)).passed [] ts m name
      ∙ ((both-added (gap-added 32) (both-added (mark-added 61 (λ next. refl)) (gap-added 32))).passed [] m k equal
      ∙ ((solid-added Bang _ (quiet-bang _)).passed [] k p bang
      ∙ (braced-passes (both-added (solid-added Mdn _ (quiet-node _)) (nodes-added ns)) p j brackets ∙ ap (deep []) line)));
}

module _ (names : List NameText) where
  item-left-out : (i : Item) (tokens rest : List Lexeme) → item names i tokens rest → IsShallow [] tokens → IsShallow [] rest
  item-left-out (ATarget t) tokens rest d shallow = left-of (target-leads [] t tokens rest d) shallow
  item-left-out (AStruct s) tokens rest d shallow = left-of (struct-leads names [] s tokens rest d) shallow
  item-left-out (AVariable v) tokens rest d shallow = left-of (variable-leads names [] v tokens rest d) shallow
  item-left-out (ADeclaration h) tokens rest d shallow = left-of (declaration-leads names [] h tokens rest d) shallow
  item-left-out (ADefinition f b) tokens rest d shallow = left-of (function-leads names [] f b tokens rest d) shallow
  item-left-out (Versions nodes) tokens rest d shallow = left-of (versions-lead [] (codes "opencl.ocl.version") nodes tokens rest d) shallow
  item-left-out (ANode n) tokens rest d shallow = left-of (metadata-leads names [] n tokens rest d) shallow
  item-left-out Dropped tokens rest d shallow = dropped-left-out tokens rest d shallow

  -- what is kept of items is written in lines that pass
  kept-passed : {A : Type 0} (f : Item → List A) (phrase : A → Phrase) → ((i : Item) (tokens rest : List Lexeme) → item names i tokens rest → IsShallow [] tokens → AllPassed phrase (f i)) → (is : List Item) (tokens rest : List Lexeme) → each (item names) is tokens rest
      → IsShallow [] tokens → AllPassed phrase (flat_map f is)
  unfolding ◌>>◌
  kept-passed f phrase one [] tokens rest same shallow = tt
  kept-passed f phrase one (i ∷ is) tokens rest (m, first, others) shallow =
      all-joined phrase (f i) (flat_map f is) (one i tokens m first shallow) (kept-passed f phrase one is m rest others (item-left-out i tokens m first shallow))

  target-passed : (i : Item) (tokens rest : List Lexeme) → item names i tokens rest → IsShallow [] tokens → AllPassed target_line (targets_of i)
  target-passed (ATarget t) tokens rest d shallow = (of-leads (target-leads [] t tokens rest d) shallow, tt)
  target-passed _ tokens rest d shallow = tt

  struct-passed : (i : Item) (tokens rest : List Lexeme) → item names i tokens rest → IsShallow [] tokens → AllPassed (struct_line names) (structs_of i)
  struct-passed (AStruct s) tokens rest d shallow = (of-leads (struct-leads names [] s tokens rest d) shallow, tt)
  struct-passed _ tokens rest d shallow = tt

  variable-passed : (i : Item) (tokens rest : List Lexeme) → item names i tokens rest → IsShallow [] tokens → AllPassed (variable_line names) (variables_of i)
  variable-passed (AVariable v) tokens rest d shallow = (of-leads (variable-leads names [] v tokens rest d) shallow, tt)
  variable-passed _ tokens rest d shallow = tt

  function-passed : (i : Item) (tokens rest : List Lexeme) → item names i tokens rest → IsShallow [] tokens → AllPassed (function_phrase names) (pairs_of i)
  function-passed (ADefinition f b) tokens rest d shallow = (of-leads (function-leads names [] f b tokens rest d) shallow, tt)
  function-passed _ tokens rest d shallow = tt

  declaration-passed : (i : Item) (tokens rest : List Lexeme) → item names i tokens rest → IsShallow [] tokens → AllPassed (declaration_line names) (declarations_of i)
  declaration-passed (ADeclaration h) tokens rest d shallow = (of-leads (declaration-leads names [] h tokens rest d) shallow, tt)
  declaration-passed _ tokens rest d shallow = tt

  metadata-passed : (i : Item) (tokens rest : List Lexeme) → item names i tokens rest → IsShallow [] tokens → AllPassed (node_line names) (nodes_of i)
  metadata-passed (ANode n) tokens rest d shallow = (of-leads (metadata-leads names [] n tokens rest d) shallow, tt)
  metadata-passed _ tokens rest d shallow = tt

  kept-phrase-passed : (is : List Item) (tokens : List Lexeme) → each (item names) is tokens [] → IsShallow [] tokens → Passed (kept_phrase names (kept_of is))
  kept-phrase-passed is tokens d shallow =
      both-passed (lines-passed target_line (flat_map targets_of is) (kept-passed targets_of target_line target-passed is tokens [] d shallow))
      (both-passed (lines-passed (struct_line names) (flat_map structs_of is) (kept-passed structs_of (struct_line names) struct-passed is tokens [] d shallow))
      (both-passed (lines-passed (variable_line names) (flat_map variables_of is) (kept-passed variables_of (variable_line names) variable-passed is tokens [] d shallow))
      (both-passed (lines-passed (function_phrase names) (flat_map pairs_of is) (kept-passed pairs_of (function_phrase names) function-passed is tokens [] d shallow))
      (both-passed (lines-passed (declaration_line names) (flat_map declarations_of is) (kept-passed declarations_of (declaration_line names) declaration-passed is tokens [] d shallow))
      (both-passed (version-passed (flat_map versions_of is)) (lines-passed (node_line names) (flat_map nodes_of is) (kept-passed nodes_of (node_line names) metadata-passed is tokens [] d shallow)))))))

-- the tokens of a text have the forms of their kinds
tokens-of-kind : (total : ℕ) (tokens : List Lexeme) (text after : List ℕ) → Reads total tokens text after → OfKind tokens
tokens-of-kind total [] text after reads = tt
tokens-of-kind total (t ∷ ts) text after reads = (ap (has_kind t.kind) reads.0.text ∙ reads.0.front.of_kind, tokens-of-kind total ts _ after reads.1)

none-refused : (left : Option ℕ) → refusal_at left ≡ None → left ≡ None
none-refused None is = refl
none-refused (Some left) is = absurd cc

pub nests-no-deeper : (text : List ℕ) (tokens : List Lexeme) (m : LlModule) → IsTokens text tokens → IsModule tokens m → nesting_refusal tokens ≡ None → (ts : List Lexeme) → spelled (module_phrase m) ts [] → nesting_refusal ts ≡ None
unfolding nesting_refusal
nests-no-deeper text tokens m are is shallow ts spelt =
    let passed = kept-phrase-passed m.names is.items tokens is.reads (none-refused _ shallow, tokens-of-kind (length text) tokens text [] are) in
    ap refusal_at (passed.passed ts [] (subst (λ (p : Phrase). spelled p ts []) (sym (own-phrase tokens m is)) spelt))
