-- Definitions of functions, with their bodies, as they are read.
use Rattle.std.proofs.Common.{◌≡◌, ℕ, List, codes, refl, sym, subst}
use Rattle.ll_tokens.specs.Tokens.{Lexeme}
use Rattle.ll_tree.specs.declared.name.NameText.{NameText}
use Rattle.ll_parser.specs.declared.refusal.ReadError.{ReadError}
use Rattle.ll_parser.specs.GrammarFunctions.{blocks, next_after}
use Rattle.ll_parser.specs.NameReading.{ReadsWith}
use Rattle.ll_parser.specs.Productions.{◌>>◌, mark, word}
use Rattle.ll_types.proofs.MembersRead.{derived}
use Rattle.ll_types.proofs.Tokens.{Shortens, seq_shortens}
use Rattle.ll_operands.specs.Parts.{Begins, Refuses}
use Rattle.ll_operands.proofs.PartFacts.{IsExact, exact_then}
use Rattle.ll_operands.proofs.Readings.{reads_then, second_refused, told_as}
use Rattle.ll_heads.specs.declared.definitions.DefinitionStart.{DefinitionStart}
use Rattle.ll_heads.specs.Definitions.{definition_start, definition_start_here, start_of}
use Rattle.ll_heads.specs.HeadParts.{definition_part}
use Rattle.ll_heads.proofs.HeadExact.{definition_is_part, definition_shortens, exact_definition}
use Rattle.ll_heads.proofs.HeadsWhole.{definition_of_front, definition_right, definition_whole, front_of_definition}
use Rattle.ll_insts.specs.declared.blocks.Blocks.{Blocks}
use Rattle.ll_insts.specs.Blocks.{blocks_here}
use Rattle.ll_insts.specs.InstParts.{blocks_part}
use Rattle.ll_insts.proofs.ExactInsts.{exact_blocks}
use Rattle.ll_insts.proofs.PartsDerived.{blocks_are_part}
use Rattle.ll_modules.specs.declared.definitions.Definition.{Definition}
use Rattle.ll_modules.specs.Definitions.{definition_of, numbers_of, whole_definition, whole_definition_part}

-- a definition is its front and its blocks
pub exact_whole_definition : IsExact whole_definition_part
exact_whole_definition = exact_then definition_part blocks_part exact_definition exact_blocks

pub define_opens : (tokens rest : List Lexeme) → whole_definition_part.begins tokens rest → Begins (word (codes "define")) tokens
unfolding ◌>>◌
define_opens tokens rest (m, (k, w, _), _) = (k, w)

-- the front of a definition and its blocks, with the number between them
record Fronted (names : List NameText) (d : Definition) (tokens rest : List Lexeme) : Type 0 where
  next : ℕ
  middle : List Lexeme
  front : definition_start_here names (start_of d.function next) tokens middle
  body : blocks_here next names (record { blocks = d.body.blocks; labels = d.function.labels }) middle rest

fronted : (names : List NameText) (d : Definition) (tokens rest : List Lexeme) → whole_definition names d tokens rest → Fronted names d tokens rest
unfolding ◌>>◌
fronted names d tokens rest (xs, kept, numbers, some, more) =
    let apart = front_of_definition names d.function d.body tokens rest (xs, kept, numbers, some, more) in
    record {
      next = next_after names d.body.params 0;
      middle = apart.0;
      front = definition_whole names (start_of d.function (next_after names d.body.params 0)) tokens apart.0 apart.1;
      body = (some, apart.2);
    }

pub whole_is_part : (names : List NameText) (d : Definition) (tokens rest : List Lexeme) → whole_definition names d tokens rest → whole_definition_part.begins tokens rest
unfolding ◌>>◌
whole_is_part names d tokens rest x =
    let f : Fronted names d tokens rest = fronted names d tokens rest x in
    (f.middle, definition_is_part names (start_of d.function f.next) tokens f.middle f.front, blocks_are_part names f.next (record { blocks = d.body.blocks; labels = d.function.labels }) f.middle rest f.body)

pub whole_shortens : (names : List NameText) (d : Definition) → Shortens (whole_definition names d)
unfolding ◌>>◌
whole_shortens names d tokens rest x =
    let f : Fronted names d tokens rest = fronted names d tokens rest x in
    seq_shortens (definition_start_here names (start_of d.function f.next)) blocks_part.begins (definition_shortens names (start_of d.function f.next)) exact_blocks.ends
    tokens rest (f.middle, f.front, blocks_are_part names f.next (record { blocks = d.body.blocks; labels = d.function.labels }) f.middle rest f.body)

-- a definition as it is read
joined : (names : List NameText) (start : DefinitionStart) (bs : Blocks) (tokens middle rest : List Lexeme) → definition_start names start tokens middle → blocks_here start.next names bs middle rest → whole_definition names (definition_of start bs) tokens rest
joined names start bs tokens middle rest front body =
    let next : start.next ≡ next_after names (numbers_of start.head.params) 0 = front.2 in
    definition_of_front names (definition_of start bs).function (definition_of start bs).body tokens middle rest refl body.0
    (subst (λ (n : ℕ). definition_start names (start_of (definition_of start bs).function n) tokens middle) next front)
    (subst (λ (n : ℕ). (blocks names n bs.blocks bs.labels >> mark 125) middle rest) next body.1)

definition_made : (names : List NameText) (start : DefinitionStart) (bs : Blocks) (tokens middle rest : List Lexeme) → definition_start_here names start tokens middle → blocks_here start.next names bs middle rest → whole_definition names (definition_of start bs) tokens rest
definition_made names start bs tokens middle rest front body = joined names start bs tokens middle rest (definition_right names start tokens middle front) body

pub definition_read : (old between new : List NameText) (start : DefinitionStart) (bs : Blocks) (d : Definition) (tokens middle rest : List Lexeme) → ReadsWith definition_start_here old between start tokens middle → ReadsWith (blocks_here start.next) between new bs middle rest → d ≡ definition_of start bs → ReadsWith whole_definition old new d tokens rest
definition_read old between new start bs d tokens middle rest x y is =
    subst (λ (z : Definition). ReadsWith whole_definition old new z tokens rest) (sym is)
    (reads_then definition_start_here (blocks_here start.next) whole_definition start bs (definition_of start bs) old between new tokens middle middle rest rest
    (λ names front body. definition_made names start bs tokens middle rest front body) x y)

pub blocks_told : (old new : List NameText) (start : DefinitionStart) (tokens middle : List Lexeme) (error told : ReadError) → told ≡ error → ReadsWith definition_start_here old new start tokens middle → Refuses blocks_part middle error → Refuses whole_definition_part tokens told
blocks_told old new start tokens middle error told same x refused =
    told_as whole_definition_part tokens error told same
    (second_refused definition_part blocks_part tokens middle error (definition_is_part new start tokens middle (derived definition_start_here old new start tokens middle x)) refused)
