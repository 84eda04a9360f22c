-- A kernel's tokens are those of a module.
use Rattle.std.proofs.Common.{◌≡◌, ℕ, Bool, true, false, List, [], ◌∷◌, None, map, refl, sym, ap, subst, inl, inr}
use Rattle.std.specs.Prelude.{codes, flat_map}
use Rattle.inst_walk.specs.declared.body.Body.{Body}
use Rattle.kern_types.specs.declared.class.PointerWidth.TheVariants.{P64}
use Rattle.ll_tokens.specs.declared.kinds.TokenKind.TheVariants.{Punct, Word}
use Rattle.ll_tokens.specs.Tokens.{Lexeme}
use Rattle.ll_tree.specs.declared.inst.Inst.{Inst}
use Rattle.ll_tree.specs.declared.module.Function.{Function}
use Rattle.ll_tree.specs.declared.module.Linkage.TheVariants.{External}
use Rattle.ll_tree.specs.declared.module.LlModule.{LlModule}
use Rattle.ll_tree.specs.declared.module.TargetKind.TheVariants.{DataLayout, Triple}
use Rattle.ll_tree.specs.declared.name.Name.{Name}
use Rattle.ll_tree.specs.declared.name.NameText.{NameText}
use Rattle.ll_tree.specs.declared.ty.TypeBase.{Void}
use Rattle.ll_parser.specs.Productions.{◌>>◌, each, listed, mark}
use Rattle.ll_parser.specs.Tables.{NoNameTwice}
use Rattle.ll_parser.specs.GrammarFunctions.{begins_at, blocks, label as text_label, next_after}
use Rattle.ll_parser.specs.GrammarItems.{ADefinition, ATarget, Item, IsModule, bodies_of, declarations_of, defined_params, definition, functions_of, head as text_head, item, nodes_of, number_of, structs_of, targets_of, variables_of, versions_of}
use Rattle.ll_parser.specs.Spellings.{between_quotes}
use Rattle.kernel_tree.specs.declared.kernel.Kernel.{Kernel}
use Rattle.kernel_tree.specs.declared.kernel.KernelInst.{KernelInst}
use Rattle.kernel_tree.specs.Modules.{parameter}
use Rattle.kernel_text.specs.declared.name_sorts.NameSort.TheVariants as sort
use Rattle.kernel_text.specs.declared.phrases.Phrase.TheVariants as phrase
use Rattle.kernel_text.specs.Grammar.{IsKernelText, block_name, inst, kernel, number_behind, param, targets}
use Rattle.kernel_text.specs.NameSorts.{written_name}
use Rattle.kernel_text.specs.Phrases.{exactly, pieces_of, wanted_token, words_of}
use Rattle.kernel_modules.proofs.InstsOfModules.{insts_read}
use Rattle.kernel_modules.proofs.ParamsOfModules.{numbers_same, params_read}
use Rattle.kernel_modules.proofs.TypesOfModules.{global_name, not_nil, single}

-- the items of tokens
record AreItems (names : List NameText) (tokens rest : List Lexeme) : Type 0 where
  found : List Item
  reads : each (item names) found tokens rest

-- the two target lines, or nothing, before other items
items_read : (names : List NameText) (has_targets : Bool) (behind : List Item) (tokens middle rest : List Lexeme) → targets has_targets tokens middle → each (item names) behind middle rest → AreItems names tokens rest
unfolding ◌>>◌ pieces_of
items_read names true behind tokens middle rest (a, (l, is, kind, text), (b, layout, (c, equals, (d, (s, is_s, kind_s, text_s), (e, (m, is_m, kind_m, text_m), (f, triple, (g, equals', (h, (t, is_t, kind_t, text_t), same)))))))) items = record {
  found =
      ATarget (record { kind = DataLayout; text = between_quotes s.text; byte = l.byte }) ∷ ATarget (record { kind = Triple; text = between_quotes t.text; byte = m.byte }) ∷ behind;
  reads = (
    d,
    (a, (l, is, kind, (text, refl)), (b, layout, (c, equals, (s, is_s, kind_s, refl)))),
    (h, (e, (m, is_m, kind_m, (text_m, refl)), (f, triple, (g, equals', (t, is_t, kind_t, refl)))), subst (λ ts. each (item names) behind ts rest) (sym same) items),
  );
}
items_read names false behind tokens middle rest same items = record { found = behind; reads = subst (λ ts. each (item names) behind ts rest) (sym same) items }

-- a label stands at its place, and so does a number where none is written
label_read : (next : ℕ) (names : List NameText) (name : Name) (tokens rest : List Lexeme) → block_name next names name tokens rest → text_label names next name.number name.byte tokens rest
label_read next names name tokens rest (inl (l, is, kind, (allowed, byte, spells))) =
    (subst (begins_at names name.byte) (sym is) (sym byte), inl (l, is, kind, spells))
label_read next names name tokens rest (inr (numbered, begins, same)) = (begins, inr (numbered, same))

-- the block, and the brace behind it
record IsBlock (names : List NameText) (next : ℕ) (name : Name) (tokens rest : List Lexeme) : Type 0 where
  first : Inst
  more : List Inst
  reads : (blocks names next (record { name = name.number; insts = first ∷ more } ∷ []) (name.byte ∷ []) >> mark 125) tokens rest

block_read : (names : List NameText) (next : ℕ) (name : Name) (is : List KernelInst) (tokens a b rest : List Lexeme) → block_name next names name tokens a → each (inst names) is a b → words_of phrase.BodyEnd b rest → IsBlock names next name tokens rest
unfolding ◌>>◌ pieces_of
block_read names next name is tokens a b rest label all (c, return, (d, void, closes)) =
    let found = insts_read names (next_after names (name.number ∷ []) next) is a b d all (c, return, (d, void, refl)) in
    record {
      first = found.first;
      more = found.more;
      reads = (d, (a, label_read next names name tokens a label, (d, found.reads, refl)), single _ d rest closes);
    }

-- the function of a kernel whose first word stands at the place
abbrev function_at : ℕ → Kernel → Function
function_at byte k = record {
  head = record {
    byte = byte;
    name = k.name;
    linkage = External;
    is_kernel = true;
    attributes = [];
    ty = record { base = Void; pointers = [] };
    params = map parameter k.params;
  };
  kernel_arg_type = None;
  reqd_work_group_size = None;
  work_group_size_hint = None;
  labels = k.block.byte ∷ [];
}

abbrev body_with : List NameText → Kernel → Inst → List Inst → Body Inst ℕ
body_with names k first more = record {
  params = flat_map (number_of names) (map parameter k.params);
  blocks = record { name = k.block.number; insts = first ∷ more } ∷ [];
}

-- behind the first word, up to the parenthesis behind the parameters
head_read : (names : List NameText) (byte : ℕ) (k : Kernel) (tokens a b c d e rest : List Lexeme) → wanted_token (Word, codes "spir_kernel") tokens a → exactly ((Word, codes "void") ∷ []) a b → written_name sort.Kernel names k.name b c → words_of phrase.ParamsStart c d → listed (param names) k.params d e → wanted_token (Punct, codes ")") e rest → text_head names (defined_params names) (function_at byte k).head tokens rest
unfolding ◌>>◌ pieces_of
head_read names byte k tokens a b c d e rest convention void name opens params closes =
    (tokens, refl, (tokens, inr refl, (a, convention, (a, refl, (b, void, (c, global_name names k.name b c name, (d, single _ c d opens, (e, params_read names k.params d e params, (rest, closes, (rest, inr refl, ([], refl)))))))))))

record IsFunction (names : List NameText) (tokens rest : List Lexeme) : Type 0 where
  function : Function
  body : Body Inst ℕ
  reads : definition names function body tokens rest

function_read : (names : List NameText) (k : Kernel) (tokens a b c d e rest : List Lexeme) → words_of phrase.KernelWords tokens a → written_name sort.Kernel names k.name a b → words_of phrase.ParamsStart b c → listed (param names) k.params c d → words_of phrase.BodyStart d e → IsBlock names (number_behind names k.params) k.block e rest → IsFunction names tokens rest
unfolding ◌>>◌ pieces_of
function_read names k tokens a b c d e rest (p, (l, is, kind, text), (q, convention, void)) name opens params (r, closes, brace) block =
    let numbers : number_behind names k.params ≡ next_after names (flat_map (number_of names) (map parameter k.params)) 0 = sym (ap (λ ns. next_after names ns 0) (numbers_same names k.params)) in
    let found : IsBlock names (next_after names (flat_map (number_of names) (map parameter k.params)) 0) k.block e rest = subst (λ next. IsBlock names next k.block e rest) numbers block in
    let (end, blocks_read, last) = found.reads in
    record {
      function = function_at l.byte k;
      body = body_with names k found.first found.more;
      reads = (
        [],
        record { arg_type = refl; required = refl; hint = refl },
        refl,
        not_nil _ _,
        (p, (l, is, kind, (text, refl)), (r, head_read names l.byte k p q a b c d r convention void name opens params closes, (r, refl, (e, single _ r e brace, (end, blocks_read, last))))),
      );
    }

-- the module with some items
abbrev module_with : List NameText → List Item → LlModule
module_with names items = record {
  targets = flat_map targets_of items;
  structs = flat_map structs_of items;
  variables = flat_map variables_of items;
  declares = flat_map declarations_of items;
  functions = flat_map functions_of items;
  bodies = flat_map bodies_of items;
  ocl_version = flat_map versions_of items;
  nodes = flat_map nodes_of items;
  pointer = P64;
  names = names;
}

module_found : (tokens : List Lexeme) (names : List NameText) → NoNameTwice names → AreItems names tokens [] → (m : LlModule) × IsModule tokens m
module_found tokens names once items = (
  module_with names items.found,
  record {
    items = items.found;
    reads = items.reads;
    targets = refl;
    structs = refl;
    variables = refl;
    declares = refl;
    functions = refl;
    bodies = refl;
    ocl_version = refl;
    nodes = refl;
    pointer = refl;
    distinct = once;
  },
)

kernel_items : (names : List NameText) (k : Kernel) (tokens : List Lexeme) → kernel names k tokens [] → AreItems names tokens []
unfolding ◌>>◌
kernel_items names k tokens (a, lines, (b, words, (c, name, (d, opens, (e, params, (f, starts, (g, label, (h, all, ends)))))))) =
    let found = function_read names k a b c d e f [] words name opens params starts (block_read names (number_behind names k.params) k.block k.insts f g h [] label all ends) in
    items_read names k.has_targets (ADefinition found.function found.body ∷ []) tokens a [] lines ([], found.reads, refl)

pub module_of_kernel : (tokens : List Lexeme) (k : Kernel) → IsKernelText tokens k → (m : LlModule) × IsModule tokens m
module_of_kernel tokens k is = module_found tokens k.names is.distinct (kernel_items k.names k tokens is.reads)
