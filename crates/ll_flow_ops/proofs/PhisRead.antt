-- Phis as they are read: what each exit of a reader answers.
use Rattle.std.proofs.Common.{◌≡◌, ℕ, ◌-◌, List, [], ◌∷◌, ◌++◌, length, drop, refl, sym, ap, ◌∙◌, subst, inr}
use Rattle.ll_tokens.specs.declared.kinds.Token.{Token}
use Rattle.ll_tokens.specs.Tokens.{Lexeme, lexemes_of}
use Rattle.ll_tokens.specs.declared.kinds.TokenKind.TheVariants.{Local as LocalToken}
use Rattle.ll_tree.specs.declared.name.Name.{Name}
use Rattle.ll_tree.specs.declared.name.NameKind.TheVariants.{Local as LocalName}
use Rattle.ll_tree.specs.declared.name.NameText.{NameText}
use Rattle.ll_tree.specs.declared.op.Op.TheVariants as op
use Rattle.ll_tree.specs.declared.op.PhiEntry.{PhiEntry}
use Rattle.ll_tree.specs.declared.ty.LlType.{LlType}
use Rattle.ll_tree.specs.declared.value.Value.{Value}
use Rattle.ll_tree.specs.Types.{int_width}
use Rattle.ll_parser.specs.declared.refusal.ReadError.{ReadError}
use Rattle.ll_parser.specs.declared.refusal.ReadError.TheVariants.{NoMemory, Refused}
use Rattle.ll_parser.specs.GrammarInsts.{entry}
use Rattle.ll_parser.specs.GrammarValues.{local}
use Rattle.ll_parser.specs.NameReading.{NameFails, ReadsWith}
use Rattle.ll_parser.specs.Productions.{◌>>◌, each, each_behind_comma, mark}
use Rattle.ll_parser.specs.Reading.{EndsNowhere}
use Rattle.ll_parser.proofs.SpaceFacts.{mark_leaves_one}
use Rattle.ll_parser.proofs.TableFacts.{extends_then}
use Rattle.ll_parser.proofs.TokenFacts.{first_nowhere, second_nowhere}
use Rattle.ll_types.specs.TypeParts.{ty_here}
use Rattle.ll_types.specs.ValueParts.{value_of}
use Rattle.ll_types.specs.ValueRefusals.{NoneAnd, ValueFails}
use Rattle.ll_types.proofs.MembersRead.{derived}
use Rattle.ll_types.proofs.Tokens.{Shortens, seq_ends, seq_shortens, shortens_ends, token_end, token_shortens}
use Rattle.ll_types.proofs.TypesRead.{reads_as}
use Rattle.ll_types.proofs.ValueRows.{value_shortens}
use Rattle.ll_operands.specs.Parts.{Begins, Refuses, local_part, mark_part, optional, repeated, ◌then◌, value_part}
use Rattle.ll_operands.specs.Whole.{entry_comma}
use Rattle.ll_operands.proofs.Readings.{any_value_read, first_refused, local_refused, reads_then, refused_behind_type, second_refused, told_as, value_refused}
use Rattle.ll_flow_ops.specs.declared.opcodes.FlowOpcode.TheVariants as opcode
use Rattle.ll_flow_ops.specs.FlowOperations.{behind}
use Rattle.ll_flow_ops.specs.FlowParts.{entries_of, entries_part, entry_of, entry_part, more_entries_of, next_entry, next_entry_part, phi_part}
use Rattle.ll_operands.proofs.ItemsRead.{ItemsSoFar, gathered, read_here}

module _ (t : LlType) where
  -- one entry
  entry_made : (names : List NameText) (v : Value) (block : Name) (tokens a b c d rest : List Lexeme) → mark 91 tokens a → mark 44 b c → mark 93 d rest → value_of t names v a b → local names block c d → entry_of t names (record { value = v; block = block }) tokens rest
  unfolding ◌>>◌
  entry_made names v block tokens a b c d rest bracket comma close x l = (a, bracket, (b, x, (c, comma, (d, l, close))))

  pub entry_read : (v : Value) (block : Name) (old between new : List NameText) (tokens a b c d rest : List Lexeme) → mark 91 tokens a → ReadsWith (value_of t) old between v a b → mark 44 b c → ReadsWith local between new block c d → mark 93 d rest → ReadsWith (entry_of t) old new (record { value = v; block = block }) tokens rest
  entry_read v block old between new tokens a b c d rest bracket r comma s close =
      record {
        extends = extends_then old between new r.extends s.extends;
        reads = λ longer e. entry_made longer v block tokens a b c d rest bracket comma close (r.reads longer (extends_then between new longer s.extends e)) (s.reads longer e);
      }

  pub entry_is_part : (names : List NameText) (e : PhiEntry) (tokens rest : List Lexeme) → entry_of t names e tokens rest → (entry_part (int_width t)).begins tokens rest
  unfolding ◌>>◌
  entry_is_part names e tokens rest (a, bracket, (b, x, (c, comma, (d, l, close)))) = (a, bracket, (b, (t, refl, (names, e.value, x)), (c, comma, (d, (names, e.block, l), close))))

  pub next_is_part : (names : List NameText) (e : PhiEntry) (tokens rest : List Lexeme) → next_entry t names e tokens rest → (next_entry_part (int_width t)).begins tokens rest
  unfolding ◌>>◌
  next_is_part names e tokens rest (m, comma, d) = (m, comma, entry_is_part names e m rest d)

  pub next_shortens : (names : List NameText) (e : PhiEntry) → Shortens (next_entry t names e)
  next_shortens names e =
      seq_shortens _ _ (token_shortens _ _) (seq_ends _ _ (token_end _ _) (seq_ends _ _ (shortens_ends _ (value_shortens names e.value t)) (seq_ends _ _ (token_end _ _) (seq_ends _ _ (token_end _ _) (token_end _ _)))))

  -- an entry behind a comma
  next_made : (names : List NameText) (e : PhiEntry) (tokens middle rest : List Lexeme) → mark 44 tokens middle → entry_of t names e middle rest → next_entry t names e tokens rest
  unfolding ◌>>◌
  next_made names e tokens middle rest comma d = (middle, comma, d)

  pub next_read : (e : PhiEntry) (old new : List NameText) (tokens middle rest : List Lexeme) → mark 44 tokens middle → ReadsWith (entry_of t) old new e middle rest → ReadsWith (next_entry t) old new e tokens rest
  next_read e old new tokens middle rest comma r = reads_as (entry_of t) (next_entry t) e e old new tokens middle rest rest (λ names d. next_made names e tokens middle rest comma d) r

  next_opens : (tokens middle : List Lexeme) → mark 44 tokens middle → Begins (mark 91) middle → Begins entry_comma tokens
  unfolding ◌>>◌
  next_opens tokens middle comma bracket = (bracket.0, (middle, comma, bracket.1))

  pub next_refused : (tokens middle : List Lexeme) (error told : ReadError) → told ≡ error → mark 44 tokens middle → Begins (mark 91) middle → Refuses (entry_part (int_width t)) middle error → Refuses (optional entry_comma (next_entry_part (int_width t))) tokens told
  next_refused tokens middle NoMemory told same comma bracket x = subst (Refuses (optional entry_comma (next_entry_part (int_width t))) tokens) (sym same) x
  next_refused tokens middle (Refused refusal) told same comma bracket x =
      subst (Refuses (optional entry_comma (next_entry_part (int_width t))) tokens) (sym same)
      (next_opens tokens middle comma bracket, inr (middle, comma, x))

  -- entries behind commas
  behind_commas : (names : List NameText) (es : List PhiEntry) (tokens rest : List Lexeme) → each (next_entry t names) es tokens rest → each_behind_comma (entry names t) es tokens rest
  unfolding ◌>>◌
  behind_commas names [] tokens rest same = same
  behind_commas names (e ∷ es) tokens rest (a, (b, comma, d), more) = (b, comma, (a, d, behind_commas names es a rest more))

  more_made : (names : List NameText) (before all : List PhiEntry) (tokens rest : List Lexeme) → EndsNowhere entry_comma rest → gathered (next_entry t) before names all tokens rest → more_entries_of t before names all tokens rest
  unfolding gathered
  more_made names before all tokens rest none (es, made, d) = (es, made, behind_commas names es tokens rest d, none)

  pub more_read : (old now next : List NameText) (before all : List PhiEntry) (tokens here last : List Token) (left : ℕ) → next ≡ now → ItemsSoFar (next_entry t) old now before tokens all left → here ≡ drop (length tokens - left) tokens → last ≡ drop (length tokens - left) tokens → EndsNowhere entry_comma (lexemes_of here) → ReadsWith (more_entries_of t before) old next all (lexemes_of tokens) (lexemes_of last)
  more_read old now next before all tokens here last left kept so_far is is' none =
      reads_as (gathered (next_entry t) before) (more_entries_of t before) all all old next (lexemes_of tokens) (lexemes_of tokens) (lexemes_of last) (lexemes_of last)
      (λ names d. more_made names before all _ _ (subst (λ ts. EndsNowhere entry_comma (lexemes_of ts)) (is ∙ sym is') none) d)
      (read_here (next_entry t) next_shortens old now next before all tokens last left kept so_far is')

  -- all entries
  entries_made : (names : List NameText) (first : PhiEntry) (none before all : List PhiEntry) (tokens middle rest : List Lexeme) → none ≡ [] → before ≡ none ++ first ∷ [] → entry_of t names first tokens middle → more_entries_of t before names all middle rest → entries_of t names all tokens rest
  unfolding ◌>>◌
  entries_made names first none before all tokens middle rest empty grown d (es, made, more, end) =
      let whole : all ≡ first ∷ es = made ∙ ap (λ xs. xs ++ es) (grown ∙ ap (λ xs. xs ++ first ∷ []) empty) in
      subst (λ xs. entries_of t names xs tokens rest) (sym whole) ((middle, d, more), end)

  pub entries_read : (first : PhiEntry) (none before all : List PhiEntry) (old between new : List NameText) (tokens middle rest : List Lexeme) → ReadsWith (entry_of t) old between first tokens middle → none ≡ [] → before ≡ none ++ first ∷ [] → ReadsWith (more_entries_of t before) between new all middle rest → ReadsWith (entries_of t) old new all tokens rest
  entries_read first none before all old between new tokens middle rest r empty grown s =
      reads_then (entry_of t) (more_entries_of t before) (entries_of t) first all all old between new tokens middle middle rest rest (λ names d e. entries_made names first none before all tokens middle rest empty grown d e) r s

  -- a phi
  phi_made : (names : List NameText) (es : List PhiEntry) (tokens middle rest : List Lexeme) → ty_here names t tokens middle → entries_of t names es middle rest → behind opcode.Phi names (op.Phi t es) tokens rest
  unfolding ◌>>◌
  phi_made names es tokens middle rest d e = λ before w. (tt, ((tokens, w, (middle, d.0, e.0)), e.1))

  pub phi_read : (es : List PhiEntry) (old between new : List NameText) (tokens middle rest : List Lexeme) → ReadsWith ty_here old between t tokens middle → ReadsWith (entries_of t) between new es middle rest → ReadsWith (behind opcode.Phi) old new (op.Phi t es) tokens rest
  phi_read es old between new tokens middle rest r s =
      reads_then ty_here (entries_of t) (behind opcode.Phi) t es (op.Phi t es) old between new tokens middle middle rest rest (λ names d e. phi_made names es tokens middle rest d e) r s

  -- what the exits of an entry's reader tell
  pub value_told : (tokens inside : List Lexeme) (error told : ReadError) → told ≡ error → mark 91 tokens inside → NoneAnd (value_of t) (ValueFails t) inside error → Refuses (entry_part (int_width t)) tokens told
  value_told tokens inside error told same bracket x =
      told_as (entry_part (int_width t)) tokens error told same
      (second_refused (mark_part 91) (value_part (int_width t) then mark_part 44 then local_part then mark_part 93) tokens inside error bracket
      (first_refused (value_part (int_width t)) (mark_part 44 then local_part then mark_part 93) inside error (value_refused t inside error x)))

  pub block_refused : (old new : List NameText) (v : Value) (tokens a b c : List Lexeme) (error told : ReadError) → told ≡ error → mark 91 tokens a → ReadsWith (value_of t) old new v a b → mark 44 b c → NameFails LocalToken LocalName c error → Refuses (entry_part (int_width t)) tokens told
  block_refused old new v tokens a b c error told same bracket r comma x =
      told_as (entry_part (int_width t)) tokens error told same
      (second_refused (mark_part 91) (value_part (int_width t) then mark_part 44 then local_part then mark_part 93) tokens a error bracket
      (second_refused (value_part (int_width t)) (mark_part 44 then local_part then mark_part 93) a b error (any_value_read t old new v a b r)
      (second_refused (mark_part 44) (local_part then mark_part 93) b c error comma
      (first_refused local_part (mark_part 93) c error (local_refused c error x)))))

  -- entries, and the whole phi
  pub entry_told : (tokens : List Lexeme) (error told : ReadError) → told ≡ error → Refuses (entry_part (int_width t)) tokens error → Refuses (entries_part (int_width t)) tokens told
  entry_told tokens error told same x =
      told_as (entries_part (int_width t)) tokens error told same (first_refused (entry_part (int_width t)) (repeated entry_comma (next_entry_part (int_width t))) tokens error x)

  pub more_told : (old new : List NameText) (e : PhiEntry) (tokens middle : List Lexeme) (error told : ReadError) → told ≡ error → ReadsWith (entry_of t) old new e tokens middle → Refuses (repeated entry_comma (next_entry_part (int_width t))) middle error → Refuses (entries_part (int_width t)) tokens told
  more_told old new e tokens middle error told same r x =
      told_as (entries_part (int_width t)) tokens error told same
      (second_refused (entry_part (int_width t)) (repeated entry_comma (next_entry_part (int_width t))) tokens middle error (entry_is_part new e tokens middle (derived (entry_of t) old new e tokens middle r)) x)

  pub entries_told : (old new : List NameText) (tokens middle : List Lexeme) (error told : ReadError) → told ≡ error → ReadsWith ty_here old new t tokens middle → Refuses (entries_part (int_width t)) middle error → Refuses phi_part tokens told
  entries_told old new tokens middle error told same r x =
      told_as phi_part tokens error told same (refused_behind_type entries_part new t tokens middle error (derived ty_here old new t tokens middle r) x)

-- no entry follows where no comma stands, nor where no `[` stands behind it
pub no_bracket_behind : (tokens behind : List Lexeme) → mark 44 tokens behind → EndsNowhere (mark 91) behind → EndsNowhere entry_comma tokens
no_bracket_behind tokens behind comma nowhere = second_nowhere (mark 44) (mark 91) tokens behind comma (mark_leaves_one 44 tokens) nowhere

pub no_comma_here : (tokens : List Lexeme) → EndsNowhere (mark 44) tokens → EndsNowhere entry_comma tokens
no_comma_here tokens nowhere = first_nowhere (mark 44) (mark 91) tokens nowhere
