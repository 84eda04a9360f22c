-- Instructions with their names, blocks, and the heads of functions, as they are written (LLVM 14, Functions). A name that is left out has a
-- number, which is written too where it is below 2^31, as every number of a name has to be.
use Rattle.std.specs.Prelude.{ℕ, ◌^◌, Bool, true, false, nat_lt, if◌then◌else◌, List, codes, Option, None, Some, slice_get}
use Rattle.inst_walk.specs.declared.body.Block.{Block}
use Rattle.ll_tree.specs.declared.inst.Inst.{Inst}
use Rattle.ll_tree.specs.declared.module.Attribute.{Attribute}
use Rattle.ll_tree.specs.declared.module.AttributeKind.{AttributeKind}
use Rattle.ll_tree.specs.declared.module.AttributeKind.TheVariants.{ByVal, SRet, Align, Dereferenceable, DereferenceableOrNull}
use Rattle.ll_tree.specs.declared.module.Head.{Head}
use Rattle.ll_tree.specs.declared.module.Linkage.{Linkage}
use Rattle.ll_tree.specs.declared.module.Linkage.TheVariants.{External, Internal, Private}
use Rattle.ll_tree.specs.declared.module.Param.{Param}
use Rattle.ll_tree.specs.declared.name.Name.{Name}
use Rattle.ll_tree.specs.declared.name.NameText.{NameText}
use Rattle.ll_tree.specs.declared.name.Spelling.TheVariants.{Number, Text}
use Rattle.ll_tree.specs.declared.ty.LlType.{LlType}
use Rattle.ll_parser.specs.GrammarAttributes.{attribute_word}
use Rattle.ll_phrases.specs.Phrases.{Phrase, Empty, Mark, ◌&◌, blank, line_end, a_word, a_number, each_phrase, if_some, list_phrase}
use Rattle.ll_phrases.specs.Texts.{global_phrase, label_phrase, local_phrase}
use Rattle.ll_phrases.specs.TypePhrases.{type_phrase}
use Rattle.ll_printed.specs.OpPhrases.{op_phrase}

-- whether a name's number, if it has one, may be written
abbrev pub can_be_written : Option NameText → Bool
can_be_written None = false
can_be_written (Some entry) = elim entry.spelling [ Number number ↦ nat_lt number (2 ^ 31) | Text bytes ↦ true ]

abbrev pub linkage_phrase : Linkage → Phrase
linkage_phrase External = Empty
linkage_phrase Internal = blank & a_word (codes "internal")
linkage_phrase Private = blank & a_word (codes "private")

abbrev pub convention_phrase : Bool → Phrase
convention_phrase true = blank & a_word (codes "spir_kernel")
convention_phrase false = blank & a_word (codes "spir_func")

module _ (names : List NameText) where
  -- the name of an instruction's value, before `=`, 61
  abbrev pub value_name_phrase : Name → Phrase
  value_name_phrase name =
      if can_be_written (slice_get names name.number) then local_phrase names name & blank & Mark 61 & blank else Empty

  -- the line of an instruction
  abbrev pub inst_phrase : Inst → Phrase
  inst_phrase i = blank & blank & if_some value_name_phrase i.defines & op_phrase names i.op & line_end

  abbrev pub block_name_phrase : ℕ → Phrase
  block_name_phrase number = if can_be_written (slice_get names number) then label_phrase names number & line_end else Empty

  abbrev pub block_phrase : Block Inst ℕ → Phrase
  block_phrase block = block_name_phrase block.name & each_phrase inst_phrase block.insts

  -- a type between `(`, 40, and `)`, 41
  abbrev pub enclosed_phrase : LlType → Phrase
  enclosed_phrase t = Mark 40 & type_phrase names t & Mark 41

  abbrev pub behind_word_phrase : AttributeKind → Phrase
  behind_word_phrase (ByVal t) = if_some enclosed_phrase t
  behind_word_phrase (SRet t) = if_some enclosed_phrase t
  behind_word_phrase (Align bytes) = blank & a_number bytes
  behind_word_phrase (Dereferenceable bytes) = Mark 40 & a_number bytes & Mark 41
  behind_word_phrase (DereferenceableOrNull bytes) = Mark 40 & a_number bytes & Mark 41
  behind_word_phrase _ = Empty

  -- an attribute behind a blank
  abbrev pub attribute_phrase : Attribute → Phrase
  attribute_phrase a = blank & a_word (attribute_word a.kind) & behind_word_phrase a.kind

  -- the name of a parameter behind a blank
  abbrev pub param_name_phrase : Name → Phrase
  param_name_phrase name = if can_be_written (slice_get names name.number) then blank & local_phrase names name else Empty

  abbrev pub param_phrase : Param → Phrase
  param_phrase p = type_phrase names p.ty & each_phrase attribute_phrase p.attributes & if_some param_name_phrase p.name

  -- a function's head behind its first word
  abbrev pub head_phrase : Head → Phrase
  head_phrase h =
      linkage_phrase h.linkage & convention_phrase h.is_kernel & each_phrase attribute_phrase h.attributes & blank & type_phrase names h.ty &
      blank & global_phrase names h.name & Mark 40 & list_phrase param_phrase h.params & Mark 41
