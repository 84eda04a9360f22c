-- The walk over brackets goes through functions and what they are made of.
use Rattle.std.proofs.Common.{◌≡◌, ℕ, Bool, true, false, List, [], ◌∷◌, ◌++◌, codes, Option, None, Some, slice_get, refl, subst, inl, inr}
use Rattle.std.specs.Prelude.{bytes_eq, if◌then◌else◌}
use Rattle.inst_walk.specs.declared.body.Block.{Block}
use Rattle.inst_walk.specs.declared.body.Body.{Body}
use Rattle.ll_tokens.specs.declared.kinds.TokenKind.TheVariants.{Label, Local as LocalToken, MdName, Mdn, Word}
use Rattle.ll_tokens.specs.Tokens.{Lexeme}
use Rattle.ll_tree.specs.declared.inst.Inst.{Inst}
use Rattle.ll_tree.specs.declared.module.Function.{Function}
use Rattle.ll_tree.specs.declared.module.Head.{Head}
use Rattle.ll_tree.specs.declared.module.Linkage.{Linkage}
use Rattle.ll_tree.specs.declared.module.Linkage.TheVariants.{External, Internal, Private}
use Rattle.ll_tree.specs.declared.module.NodeRef.{NodeRef}
use Rattle.ll_tree.specs.declared.module.Param.{Param}
use Rattle.ll_tree.specs.declared.name.Name.{Name}
use Rattle.ll_tree.specs.declared.name.NameText.{NameText}
use Rattle.ll_tree.specs.declared.op.Op.{Op}
use Rattle.ll_parser.specs.GrammarAttributes.{attachment, attribute}
use Rattle.ll_parser.specs.GrammarFunctions.{block_names, blocks, given, inst, insts, label, naming, next_after}
use Rattle.ll_parser.specs.GrammarItems.{convention, declaration, defined_param, defined_params, defined_params_behind, definition, head, linkage, number_of, param_name, written_param}
use Rattle.ll_parser.specs.GrammarTypes.{ty}
use Rattle.ll_parser.specs.GrammarValues.{local}
use Rattle.ll_parser.specs.Productions.{Production, ◌>>◌, ◌or◌, each, if_there, listed, maybe, word}
use Rattle.ll_printed.specs.FunctionPhrases.{attribute_phrase, block_name_phrase, block_phrase, can_be_written, convention_phrase, head_phrase, inst_phrase, linkage_phrase, param_name_phrase, param_phrase, value_name_phrase}
use Rattle.ll_printed.specs.ModulePhrases.{attachment_phrase, declaration_line, function_phrase}
use Rattle.ll_phrases.specs.Phrases.{Empty, Phrase, ◌&◌, each_behind, each_phrase, if_some, list_phrase}
use Rattle.ll_print_depth.proofs.AttributesLead.{attachment-left-out, attachments-left-out, attribute-leads, each-leads, each-left-out, function-attributes-left-out, placed-leads}
use Rattle.ll_print_depth.proofs.OpsLead.{listed-leads, op-leads}
use Rattle.ll_print_depth.proofs.Passing.{IsAdded, IsShallow, Leads, added, both-added, closing-leads, counted-leads, empty-added, empty-leads, gap-added, gap-leads, leads-gap, left-of, mark-added, mark-passes, same-tokens, skipped, skipped-behind, solid-added, then-leads, token-left-out, word-leads, word-left-out, word-plain}
use Rattle.ll_print_depth.proofs.TypesLead.{quiet-label, quiet-local, quiet-node, quiet-node-name, type-leads}
use Rattle.ll_print_depth.proofs.ValuesLead.{comma-leads, global-leads}

-- nothing
pub nothing-left : (a : List Bool) (tokens rest : List Lexeme) → tokens ≡ rest → IsShallow a tokens → IsShallow a rest
nothing-left a tokens rest same shallow = subst (λ (ts : List Lexeme). IsShallow a ts) same shallow

-- one of two words, or none
pub words-left-out : (a : List Bool) (one two : List ℕ) (tokens rest : List Lexeme) → bytes_eq one (codes "attributes") ≡ false → bytes_eq two (codes "attributes") ≡ false
    → maybe (word one or word two) tokens rest → IsShallow a tokens → IsShallow a rest
words-left-out a one two tokens rest no_one no_two (inl (inl is)) shallow = word-left-out a one tokens rest no_one is shallow
words-left-out a one two tokens rest no_one no_two (inl (inr is)) shallow = word-left-out a two tokens rest no_two is shallow
words-left-out a one two tokens rest no_one no_two (inr same) shallow = nothing-left a tokens rest same shallow

pub maybe-word-left-out : (a : List Bool) (text : List ℕ) (tokens rest : List Lexeme) → bytes_eq text (codes "attributes") ≡ false → maybe (word text) tokens rest → IsShallow a tokens → IsShallow a rest
maybe-word-left-out a text tokens rest isnt (inl is) shallow = word-left-out a text tokens rest isnt is shallow
maybe-word-left-out a text tokens rest isnt (inr same) shallow = nothing-left a tokens rest same shallow

-- whether a phrase stands or not
either-added : (test : Bool) (p : Phrase) → IsAdded p → IsAdded (if test then p else Empty)
either-added true p is = is
either-added false p is = empty-added

pub linkage-leads : {a b : List Bool} (l : Linkage) (tokens m rest : List Lexeme) {q : Phrase} → linkage l tokens m → Leads a b m rest q → Leads a b tokens rest (linkage_phrase l & q)
linkage-leads External tokens m rest same passing = added empty-added (same-tokens same passing)
linkage-leads Internal tokens m rest w passing = then-leads (gap-leads (word-leads (codes "internal") tokens m refl w)) passing
linkage-leads Private tokens m rest w passing = then-leads (gap-leads (word-leads (codes "private") tokens m refl w)) passing

module _ (names : List NameText) where
  value-name-added : (name : Name) → IsAdded (value_name_phrase names name)
  value-name-added name =
      either-added (can_be_written (slice_get names name.number)) _ (both-added (solid-added LocalToken _ (quiet-local _)) (both-added (gap-added 32) (both-added (mark-added 61 (λ next. refl)) (gap-added 32))))

  defines-added : (defines : Option Name) → IsAdded (if_some (value_name_phrase names) defines)
  defines-added None = empty-added
  defines-added (Some name) = value-name-added name

  naming-left-out : (a : List Bool) (next byte : ℕ) (o : Op) (defines : Option Name) (tokens rest : List Lexeme) → naming names next byte o defines tokens rest → IsShallow a tokens → IsShallow a rest
  unfolding ◌>>◌
  naming-left-out a next byte o None tokens rest (none, same) shallow = nothing-left a tokens rest same shallow
  naming-left-out a next byte o (Some name) tokens rest (inl (may, (m, is, equal))) shallow = left-of (mark-passes 61 m rest (λ next. refl) equal) (token-left-out a LocalToken _ tokens m quiet-local is shallow)
  naming-left-out a next byte o (Some name) tokens rest (inr (numbered, same)) shallow = nothing-left a tokens rest same shallow

  inst-leads : (a : List Bool) (next : ℕ) (i : Inst) (tokens rest : List Lexeme) → inst names next i tokens rest → Leads a a tokens rest (inst_phrase names i)
  unfolding ◌>>◌
  inst-leads a next i tokens rest (begins, (p, named, (q, is, dropped))) =
      gap-leads (gap-leads (added (defines-added i.defines) (skipped (naming-left-out a next i.byte i.op i.defines tokens p named) (leads-gap (skipped-behind (op-leads names a i.op p q is) (attachments-left-out a q rest dropped))))))

  insts-lead : (a : List Bool) (next : ℕ) (is : List Inst) (tokens rest : List Lexeme) → insts names next is tokens rest → Leads a a tokens rest (each_phrase (inst_phrase names) is)
  unfolding ◌>>◌
  insts-lead a next [] tokens rest none = absurd none
  insts-lead a next (i ∷ []) tokens rest (ends, one) = then-leads (inst-leads a next i tokens rest one) (empty-leads refl)
  insts-lead a next (i ∷ j ∷ is) tokens rest (no_end, (m, one, more)) = then-leads (inst-leads a next i tokens m one) (insts-lead a (next_after names (given names i.defines) next) (j ∷ is) m rest more)

  block-name-added : (number : ℕ) → IsAdded (block_name_phrase names number)
  block-name-added number = either-added (can_be_written (slice_get names number)) _ (both-added (solid-added Label _ (quiet-label _)) (gap-added 10))

  label-left-out : (a : List Bool) (next number byte : ℕ) (tokens rest : List Lexeme) → label names next number byte tokens rest → IsShallow a tokens → IsShallow a rest
  label-left-out a next number byte tokens rest (begins, inl is) shallow = token-left-out a Label _ tokens rest quiet-label is shallow
  label-left-out a next number byte tokens rest (begins, inr (numbered, same)) shallow = nothing-left a tokens rest same shallow

  blocks-lead : (a : List Bool) (next : ℕ) (bs : List (Block Inst ℕ)) (bytes : List ℕ) (tokens rest : List Lexeme) → blocks names next bs bytes tokens rest → Leads a a tokens rest (each_phrase (block_phrase names) bs)
  unfolding ◌>>◌
  blocks-lead a next [] [] tokens rest same = empty-leads same
  blocks-lead a next [] (byte ∷ bytes) tokens rest none = absurd none
  blocks-lead a next (b ∷ bs) [] tokens rest none = absurd none
  blocks-lead a next (b ∷ bs) (byte ∷ bytes) tokens rest (p, l, (q, is, more)) =
      then-leads (added (block-name-added b.name) (skipped (label-left-out a next b.name byte tokens p l) (insts-lead a _ b.insts p q is))) (blocks-lead a (next_after names (block_names names b) next) bs bytes q rest more)

  param-name-added : (name : Option Name) → IsAdded (if_some (param_name_phrase names) name)
  param-name-added None = empty-added
  param-name-added (Some name) = either-added (can_be_written (slice_get names name.number)) _ (both-added (gap-added 32) (solid-added LocalToken _ (quiet-local _)))

  param-leads : (a : List Bool) (p : Param) (tokens m k rest : List Lexeme) → ty names p.ty tokens m → each (attribute names) p.attributes m k → (IsShallow a k → IsShallow a rest) → Leads a a tokens rest (param_phrase names p)
  param-leads a p tokens m k rest is attributes named =
      then-leads (type-leads names p.ty tokens m is) (then-leads (each-leads (attribute names) (attribute_phrase names) a (attribute-leads names) p.attributes m k attributes)
      (skipped named (no-tokens (param-name-added p.name))))
    where
      no-tokens : {q : Phrase} → IsAdded q → Leads a a rest rest q
      no-tokens is-added = record { leads = λ shallow. (shallow, λ ts after spelt. is-added.passed a ts after spelt) }

  defined-name-left-out : (a : List Bool) (next byte : ℕ) (name : Option Name) (tokens rest : List Lexeme) → param_name names next byte name tokens rest → IsShallow a tokens → IsShallow a rest
  defined-name-left-out a next byte None tokens rest none shallow = absurd none
  defined-name-left-out a next byte (Some name) tokens rest (inl is) shallow = token-left-out a LocalToken _ tokens rest quiet-local is shallow
  defined-name-left-out a next byte (Some name) tokens rest (inr (numbered, place, same)) shallow = nothing-left a tokens rest same shallow

  defined-leads : (a : List Bool) (next : ℕ) (p : Param) (tokens rest : List Lexeme) → defined_param names next p tokens rest → Leads a a tokens rest (param_phrase names p)
  unfolding ◌>>◌
  defined-leads a next p [] rest none = absurd none
  defined-leads a next p (first ∷ tokens) rest (m, is, (k, attributes, named)) = param-leads a p (first ∷ tokens) m k rest is attributes (defined-name-left-out a next first.byte p.name k rest named)

  behind-params-lead : (a : List Bool) (next : ℕ) (ps : List Param) (tokens rest : List Lexeme) → defined_params_behind names next ps tokens rest → Leads a a tokens rest (each_behind (param_phrase names) ps)
  unfolding ◌>>◌
  behind-params-lead a next [] tokens rest same = empty-leads same
  behind-params-lead a next (p ∷ ps) tokens rest (k, comma_is, (m, one, more)) = then-leads (comma-leads tokens k comma_is) (then-leads (defined-leads a next p k m one) (behind-params-lead a (next_after names (number_of names p) next) ps m rest more))

  defined-params-lead : (a : List Bool) (ps : List Param) (tokens rest : List Lexeme) → defined_params names ps tokens rest → Leads a a tokens rest (list_phrase (param_phrase names) ps)
  unfolding ◌>>◌
  defined-params-lead a [] tokens rest same = empty-leads same
  defined-params-lead a (p ∷ ps) tokens rest (m, one, more) = then-leads (defined-leads a 0 p tokens m one) (behind-params-lead a _ ps m rest more)

  declared-name-left-out : (a : List Bool) (name : Option Name) (tokens rest : List Lexeme) → if_there (local names) name tokens rest → IsShallow a tokens → IsShallow a rest
  declared-name-left-out a None tokens rest same shallow = nothing-left a tokens rest same shallow
  declared-name-left-out a (Some name) tokens rest is shallow = token-left-out a LocalToken _ tokens rest quiet-local is shallow

  declared-leads : (a : List Bool) (p : Param) (tokens rest : List Lexeme) → written_param names p tokens rest → Leads a a tokens rest (param_phrase names p)
  unfolding ◌>>◌
  declared-leads a p tokens rest (m, is, (k, attributes, named)) = param-leads a p tokens m k rest is attributes (declared-name-left-out a p.name k rest named)

  convention-added : (is_kernel : Bool) → IsAdded (convention_phrase is_kernel)
  convention-added true = both-added (gap-added 32) (solid-added Word (codes "spir_kernel") (word-plain (codes "spir_kernel") refl))
  convention-added false = both-added (gap-added 32) (solid-added Word (codes "spir_func") (word-plain (codes "spir_func") refl))

  convention-left-out : (a : List Bool) (is_kernel : Bool) (tokens rest : List Lexeme) → convention names is_kernel tokens rest → IsShallow a tokens → IsShallow a rest
  convention-left-out a true tokens rest is shallow = word-left-out a (codes "spir_kernel") tokens rest refl is shallow
  convention-left-out a false tokens rest is shallow = maybe-word-left-out a (codes "spir_func") tokens rest refl is shallow

  head-leads : (a : List Bool) (params : List Param → Production) (h : Head) → ((tokens rest : List Lexeme) → params h.params tokens rest → Leads (a ++ true ∷ []) (a ++ true ∷ []) tokens rest (list_phrase (param_phrase names) h.params)) → (tokens rest : List Lexeme) → head names params h tokens rest
      → Leads a a tokens rest (head_phrase names h)
  unfolding ◌>>◌
  head-leads a params h one tokens rest (p, l, (q, local_is, (r, conv, (s, attributes, (u, is, (v, name, (w, opens, (x, inside, (y, closes, (z, un, behind)))))))))) =
      linkage-leads h.linkage tokens p rest l (skipped (maybe-word-left-out a (codes "dso_local") p q refl local_is)
      (added (convention-added h.is_kernel) (skipped (convention-left-out a h.is_kernel q r conv)
      (then-leads (each-leads (attribute names) (attribute_phrase names) a (attribute-leads names) h.attributes r s attributes) (gap-leads (then-leads (type-leads names h.ty s u is) (gap-leads (then-leads (global-leads names h.name u v name)
      (counted-leads 40 v w rest (λ next. refl) opens (then-leads (one w x inside)
      (skipped-behind (skipped-behind (closing-leads true 41 x y (λ next. refl) closes) (words-left-out a (codes "unnamed_addr") (codes "local_unnamed_addr") y z refl refl un)) (function-attributes-left-out a z rest behind))))))))))))

  pub declaration-leads : (a : List Bool) (h : Head) (tokens rest : List Lexeme) → declaration names h tokens rest → Leads a a tokens rest (declaration_line names h)
  unfolding ◌>>◌
  declaration-leads a h tokens rest (m, w, d) =
      then-leads (placed-leads (codes "declare") h.byte tokens m refl w)
      (leads-gap (head-leads a (listed (written_param names)) h (λ ts rs is. listed-leads (written_param names) (param_phrase names) (a ++ true ∷ []) (declared-leads (a ++ true ∷ [])) h.params ts rs is) m rest d))

  attached-added : (name : List ℕ) (node : Option NodeRef) → IsAdded (if_some (attachment_phrase name) node)
  attached-added name None = empty-added
  attached-added name (Some node) = both-added (gap-added 32) (both-added (solid-added MdName _ (quiet-node-name _)) (both-added (gap-added 32) (solid-added Mdn _ (quiet-node _))))

  pub function-leads : (a : List Bool) (f : Function) (b : Body Inst ℕ) (tokens rest : List Lexeme) → definition names f b tokens rest → Leads a a tokens rest (function_phrase names (f, b))
  unfolding ◌>>◌
  function-leads a f b tokens rest (kept, keeps, numbered, labels, (p, w, (q, h, (r, all, (s, opens, (u, bs, closes)))))) =
      then-leads (placed-leads (codes "define") f.head.byte tokens p refl w)
      (then-leads (skipped-behind (head-leads a (defined_params names) f.head (defined-params-lead (a ++ true ∷ []) f.head.params) p q h) (each-left-out attachment a (attachment-left-out a) kept q r all))
      (added (attached-added (codes "kernel_arg_type") f.kernel_arg_type) (added (attached-added (codes "reqd_work_group_size") f.reqd_work_group_size) (added (attached-added (codes "work_group_size_hint") f.work_group_size_hint)
      (gap-leads (counted-leads 123 r s rest (λ next. refl) opens (gap-leads (then-leads (blocks-lead (a ++ true ∷ []) _ b.blocks f.labels s u bs) (leads-gap (closing-leads true 125 u rest (λ next. refl) closes))))))))))
