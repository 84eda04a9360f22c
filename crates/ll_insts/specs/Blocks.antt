-- Blocks as they are read (LLVM 14, Functions).
use Rattle.std.specs.Prelude.{◌≡◌, ℕ, List, [], ◌∷◌, map}
use Rattle.inst_walk.specs.declared.body.Block.{Block}
use Rattle.ll_tokens.specs.Tokens.{Lexeme}
use Rattle.ll_tree.specs.declared.inst.Inst.{Inst}
use Rattle.ll_tree.specs.declared.name.NameText.{NameText}
use Rattle.ll_parser.specs.GrammarFunctions.{blocks}
use Rattle.ll_parser.specs.Productions.{Production, ◌>>◌, mark}
use Rattle.ll_bodies.specs.BodyJoins.{threaded, unless_begins}
use Rattle.ll_bodies.specs.Labels.{numbered_label}
use Rattle.ll_insts.specs.declared.blocks.Blocks.{Blocks}
use Rattle.ll_insts.specs.declared.blocks.PlacedBlock.{PlacedBlock}
use Rattle.ll_insts.specs.Insts.{insts_here}

-- a block with the place of its label
unfoldable pub block_here : ℕ → ℕ → List NameText → PlacedBlock → Production
block_here start end names b tokens rest =
    (next : ℕ) × (middle : List Lexeme) × numbered_label start next names (record { number = b.block.name; byte = b.byte }) tokens middle × insts_here next end names b.block.insts middle rest

-- one behind another, 125 being `}`
abbrev pub next_block : ℕ → ℕ → List NameText → PlacedBlock → Production
next_block start end names b = unless_begins (mark 125) (block_here start end names b)

-- blocks up to the `}` of their function, and that
abbrev pub more_blocks : ℕ → List NameText → List PlacedBlock → Production
more_blocks start names bs tokens rest = (end : ℕ) × (middle : List Lexeme) × threaded next_block start end names bs tokens middle × mark 125 middle rest

abbrev pub blocks_of : PlacedBlock → List PlacedBlock → List (Block Inst ℕ)
blocks_of b bs = b.block ∷ map (λ (x : PlacedBlock). x.block) bs

abbrev pub labels_of : PlacedBlock → List PlacedBlock → List ℕ
labels_of b bs = b.byte ∷ map (λ (x : PlacedBlock). x.byte) bs

-- the blocks of a function, one at least, and its `}`, as the grammar has them
abbrev pub blocks_here : ℕ → List NameText → Blocks → Production
blocks_here start names b tokens rest = (b.labels ≡ [] → ⊥) × (blocks names start b.blocks b.labels >> mark 125) tokens rest
