-- Items and modules as they are written, one list behind another (LLVM 14, Module Structure).
use Rattle.std.specs.Prelude.{ℕ, ◌==◌, if◌then◌else◌, List, [], ◌∷◌, codes}
use Rattle.std.specs.Fmt.{decimal}
use Rattle.std.specs.List.{zip}
use Rattle.inst_walk.specs.declared.body.Body.{Body}
use Rattle.ll_tokens.specs.declared.kinds.TokenKind.TheVariants.{Bang, MdName, MdStr, Mdn}
use Rattle.ll_tree.specs.declared.inst.Inst.{Inst}
use Rattle.ll_tree.specs.declared.module.Function.{Function}
use Rattle.ll_tree.specs.declared.module.Head.{Head}
use Rattle.ll_tree.specs.declared.module.LlModule.{LlModule}
use Rattle.ll_tree.specs.declared.module.Node.{Node}
use Rattle.ll_tree.specs.declared.module.NodePart.{NodePart}
use Rattle.ll_tree.specs.declared.module.NodePart.TheVariants as part
use Rattle.ll_tree.specs.declared.module.NodeRef.{NodeRef}
use Rattle.ll_tree.specs.declared.module.Struct.{Struct}
use Rattle.ll_tree.specs.declared.module.Target.{Target}
use Rattle.ll_tree.specs.declared.module.Variable.{Variable}
use Rattle.ll_tree.specs.declared.name.NameText.{NameText}
use Rattle.ll_parser.specs.GrammarItems.{target_word}
use Rattle.ll_phrases.specs.Phrases.{Phrase, Empty, Mark, Solid, ◌&◌, blank, line_end, a_word, each_phrase, if_some, list_phrase}
use Rattle.ll_phrases.specs.Texts.{global_phrase, local_phrase, quoted, string_phrase}
use Rattle.ll_phrases.specs.TypePhrases.{space_phrase, type_phrase}
use Rattle.ll_phrases.specs.ValuePhrases.{typed_phrase, value_phrase}
use Rattle.ll_printed.specs.OpPhrases.{align_phrase}
use Rattle.ll_printed.specs.FunctionPhrases.{block_phrase, head_phrase, linkage_phrase}

-- `=`, 61, between blanks
abbrev pub equals : Phrase
equals = blank & Mark 61 & blank

abbrev pub target_line : Target → Phrase
target_line t = a_word (codes "target") & blank & a_word (target_word t.kind) & equals & string_phrase t.text & line_end

-- a node by its number, behind `!`, 33
abbrev pub node_ref_phrase : NodeRef → Phrase
node_ref_phrase node = Solid Mdn (33 ∷ decimal node.number)

-- an attachment behind a blank
abbrev pub attachment_phrase : List ℕ → NodeRef → Phrase
attachment_phrase name node = blank & Solid MdName (33 ∷ name) & blank & node_ref_phrase node

-- `!{`, the nodes or parts between commas, and `}`
abbrev pub braced : Phrase → Phrase
braced inside = Solid Bang (33 ∷ []) & Mark 123 & inside & Mark 125

abbrev pub version_line : List NodeRef → Phrase
version_line [] = Empty
version_line (node ∷ nodes) =
    Solid MdName (33 ∷ codes "opencl.ocl.version") & equals & braced (list_phrase node_ref_phrase (node ∷ nodes)) & line_end

-- an address space behind a blank, where it isn't 0
abbrev pub variable_space : ℕ → Phrase
variable_space space = if space == 0 then Empty else blank & space_phrase space

-- a variable of the constant space, 2, is a constant, every other one isn't
abbrev pub variable_word : ℕ → List ℕ
variable_word space = if space == 2 then codes "constant" else codes "global"

module _ (names : List NameText) where
  abbrev pub struct_line : Struct → Phrase
  struct_line s = local_phrase names s.name & equals & a_word (codes "type") & blank & type_phrase names s.ty & line_end

  abbrev pub variable_line : Variable → Phrase
  variable_line v =
      global_phrase names v.name & blank & Mark 61 & linkage_phrase v.linkage & variable_space v.space & blank & a_word (variable_word v.space) & blank &
      type_phrase names v.ty & blank & value_phrase names v.init & if_some align_phrase v.align & line_end

  abbrev pub declaration_line : Head → Phrase
  declaration_line h = a_word (codes "declare") & head_phrase names h & line_end

  -- what a function's head, its three attachments and its blocks are written as; 123 and 125 are `{` and `}`
  abbrev pub function_phrase : Function × Body Inst ℕ → Phrase
  function_phrase defined =
      a_word (codes "define") & head_phrase names defined.0.head & if_some (attachment_phrase (codes "kernel_arg_type")) defined.0.kernel_arg_type &
      if_some (attachment_phrase (codes "reqd_work_group_size")) defined.0.reqd_work_group_size &
      if_some (attachment_phrase (codes "work_group_size_hint")) defined.0.work_group_size_hint & blank & Mark 123 & line_end &
      each_phrase (block_phrase names) defined.1.blocks & Mark 125 & line_end

  abbrev pub part_phrase : NodePart → Phrase
  part_phrase (part.Node node) = node_ref_phrase node
  part_phrase (part.Text bytes) = Solid MdStr (33 ∷ quoted bytes)
  part_phrase part.Null = a_word (codes "null")
  part_phrase (part.Value v) = typed_phrase names v

  abbrev pub node_line : Node → Phrase
  node_line n = Solid Mdn (33 ∷ decimal n.number) & equals & braced (list_phrase part_phrase n.parts) & line_end

-- a module, each kind of item in one list
abbrev pub module_phrase : LlModule → Phrase
module_phrase m =
    each_phrase target_line m.targets & each_phrase (struct_line m.names) m.structs & each_phrase (variable_line m.names) m.variables &
    each_phrase (function_phrase m.names) (zip m.functions m.bodies) & each_phrase (declaration_line m.names) m.declares &
    version_line m.ocl_version & each_phrase (node_line m.names) m.nodes
