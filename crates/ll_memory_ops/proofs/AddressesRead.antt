-- Addresses as they are read: what exits of readers answer.
use Rattle.std.proofs.Common.{◌≡◌, ℕ, ◌-◌, Bool, List, [], ◌∷◌, ◌++◌, codes, length, drop, sym, ap, ◌∙◌, subst}
use Rattle.ll_tokens.specs.declared.kinds.Token.{Token}
use Rattle.ll_tokens.specs.Tokens.{Lexeme, lexemes_of}
use Rattle.ll_tree.specs.declared.name.NameText.{NameText}
use Rattle.ll_tree.specs.declared.op.Op.{Op}
use Rattle.ll_tree.specs.declared.op.Op.TheVariants as op
use Rattle.ll_tree.specs.declared.value.TypedValue.{TypedValue}
use Rattle.ll_parser.specs.GrammarValues.{if_word, typed}
use Rattle.ll_parser.specs.NameReading.{ReadsWith}
use Rattle.ll_parser.specs.Productions.{◌>>◌, each, each_behind_comma, mark}
use Rattle.ll_parser.specs.Reading.{EndsNowhere}
use Rattle.ll_parser.proofs.TableFacts.{extends_then}
use Rattle.ll_types.proofs.Tokens.{Shortens, seq_shortens, shortens_ends, token_shortens}
use Rattle.ll_types.proofs.TypesRead.{reads_as}
use Rattle.ll_types.proofs.ValueRows.{typed_shortens}
use Rattle.ll_operands.specs.Parts.{operand_comma, times}
use Rattle.ll_operands.proofs.ItemsRead.{ItemsSoFar, gathered, read_here}
use Rattle.ll_operands.proofs.Readings.{reads_then}
use Rattle.ll_memory_ops.specs.declared.accesses.Pointee.{Pointee}
use Rattle.ll_memory_ops.specs.declared.opcodes.MemoryOpcode.TheVariants as opcode
use Rattle.ll_memory_ops.specs.AccessParts.{pointee}
use Rattle.ll_memory_ops.specs.AddressParts.{index, index_part, indexes, indexes_part, more_indexes}
use Rattle.ll_memory_ops.specs.MemoryOperations.{behind}

-- an index
index_made : (names : List NameText) (v : TypedValue) (tokens middle rest : List Lexeme) → mark 44 tokens middle → typed names v middle rest → index names v tokens rest
unfolding ◌>>◌
index_made names v tokens middle rest comma d = (middle, comma, d)

pub index_read : (v : TypedValue) (old new : List NameText) (tokens middle rest : List Lexeme) → mark 44 tokens middle → ReadsWith typed old new v middle rest → ReadsWith index old new v tokens rest
index_read v old new tokens middle rest comma r = reads_as typed index v v old new tokens middle rest rest (λ names d. index_made names v tokens middle rest comma d) r

pub index_is_part : (names : List NameText) (v : TypedValue) (tokens rest : List Lexeme) → index names v tokens rest → index_part.begins tokens rest
unfolding ◌>>◌
index_is_part names v tokens rest (m, comma, d) = (m, comma, (names, v, d))

pub index_shortens : (names : List NameText) (v : TypedValue) → Shortens (index names v)
index_shortens names v = seq_shortens _ _ (token_shortens _ _) (shortens_ends _ (typed_shortens names v))

-- indexes behind commas
behind_commas : (names : List NameText) (vs : List TypedValue) (tokens rest : List Lexeme) → each (index names) vs tokens rest → each_behind_comma (typed names) vs tokens rest
unfolding ◌>>◌
behind_commas names [] tokens rest same = same
behind_commas names (v ∷ vs) tokens rest (a, (b, comma, d), more) = (b, comma, (a, d, behind_commas names vs a rest more))

more_made : (names : List NameText) (before all : List TypedValue) (tokens rest : List Lexeme) → EndsNowhere operand_comma rest → gathered index before names all tokens rest → more_indexes before names all tokens rest
unfolding gathered
more_made names before all tokens rest none (vs, made, d) = (vs, made, behind_commas names vs tokens rest d, none)

pub more_read : (old now next : List NameText) (before all : List TypedValue) (tokens here last : List Token) (left : ℕ) → next ≡ now → ItemsSoFar index old now before tokens all left → here ≡ drop (length tokens - left) tokens → last ≡ drop (length tokens - left) tokens → EndsNowhere operand_comma (lexemes_of here) → ReadsWith (more_indexes before) old next all (lexemes_of tokens) (lexemes_of last)
more_read old now next before all tokens here last left kept so_far is is' none =
    reads_as (gathered index before) (more_indexes before) all all old next (lexemes_of tokens) (lexemes_of tokens) (lexemes_of last) (lexemes_of last)
    (λ names d. more_made names before all _ _ (subst (λ ts. EndsNowhere operand_comma (lexemes_of ts)) (is ∙ sym is') none) d)
    (read_here index index_shortens old now next before all tokens last left kept so_far is')

-- all indexes
indexes_made : (names : List NameText) (first : TypedValue) (none before all : List TypedValue) (tokens middle rest : List Lexeme) → none ≡ [] → before ≡ none ++ first ∷ [] → index names first tokens middle → more_indexes before names all middle rest → indexes names all tokens rest
unfolding ◌>>◌
indexes_made names first none before all tokens middle rest empty grown (a, comma, d) (vs, made, more, end) =
    let whole : all ≡ first ∷ vs = made ∙ ap (λ xs. xs ++ vs) (grown ∙ ap (λ xs. xs ++ first ∷ []) empty) in
    subst (λ xs. indexes names xs tokens rest) (sym whole) ((a, comma, (middle, d, more)), end)

pub indexes_read : (first : TypedValue) (none before all : List TypedValue) (old between new : List NameText) (tokens middle rest : List Lexeme) → ReadsWith index old between first tokens middle → none ≡ [] → before ≡ none ++ first ∷ [] → ReadsWith (more_indexes before) between new all middle rest → ReadsWith indexes old new all tokens rest
indexes_read first none before all old between new tokens middle rest r empty grown s =
    reads_then index (more_indexes before) indexes first all all old between new tokens middle middle rest rest (λ names d e. indexes_made names first none before all tokens middle rest empty grown d e) r s

-- an address
address_made : (names : List NameText) (inbounds : Bool) (p : Pointee) (vs : List TypedValue) (tokens a b rest : List Lexeme) → if_word (codes "inbounds") inbounds tokens a → pointee names p a b → indexes names vs b rest → behind opcode.GetElementPtr names (op.GetElementPtr inbounds p.ty p.pointer vs) tokens rest
unfolding ◌>>◌
address_made names inbounds p [] tokens a b rest v d is = absurd is.0
address_made names inbounds p (i ∷ vs) tokens a b rest v (x, d, (y, comma, e)) is = λ before w. (tt, ((tokens, w, (a, v, (x, d.0, (y, comma, (b, e, is.0))))), is.1))

pub address_read : (inbounds : Bool) (p : Pointee) (vs : List TypedValue) (made : Op) (old between new : List NameText) (tokens a b rest : List Lexeme) → made ≡ op.GetElementPtr inbounds p.ty p.pointer vs → if_word (codes "inbounds") inbounds tokens a → ReadsWith pointee old between p a b → ReadsWith indexes between new vs b rest → ReadsWith (behind opcode.GetElementPtr) old new made tokens rest
address_read inbounds p vs made old between new tokens a b rest is v r s =
    subst (λ o. ReadsWith (behind opcode.GetElementPtr) old new o tokens rest) (sym is)
    (record {
      extends = extends_then old between new r.extends s.extends;
      reads = λ longer e. address_made longer inbounds p vs tokens a b rest v (r.reads longer (extends_then between new longer s.extends e)) (s.reads longer e);
    })

-- what the grammar derives is of the part
module _ (names : List NameText) where
  index_times : (vs : List TypedValue) (tokens rest : List Lexeme) → each_behind_comma (typed names) vs tokens rest → times (length vs) index_part.begins tokens rest
  unfolding ◌>>◌
  index_times [] tokens rest same = same
  index_times (v ∷ vs) tokens rest (a, comma, (b, d, more)) = (b, (a, comma, (names, v, d)), index_times vs b rest more)

  pub indexes_begin : (v : TypedValue) (vs : List TypedValue) (tokens rest : List Lexeme) → each_behind_comma (typed names) (v ∷ vs) tokens rest → EndsNowhere operand_comma rest → indexes_part.begins tokens rest
  unfolding ◌>>◌
  indexes_begin v vs tokens rest (a, comma, (b, d, more)) end = (b, (a, comma, (names, v, d)), (length vs, index_times vs b rest more, end))
