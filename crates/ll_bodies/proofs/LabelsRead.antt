-- Labels of blocks as they are read.
use Rattle.std.proofs.Common.{◌≡◌, ℕ, ◌-◌, ◌⊎◌, List, [], ◌∷◌, ◌++◌, Some, slice_get, take, length, refl, sym, ap, ◌∙◌, subst, inl, inr}
use Rattle.ll_tokens.specs.declared.kinds.TokenKind.TheVariants.{Label}
use Rattle.ll_tokens.specs.Tokens.{Lexeme}
use Rattle.ll_tree.specs.declared.name.Name.{Name}
use Rattle.ll_tree.specs.declared.name.NameKind.TheVariants.{Local as LocalName}
use Rattle.ll_tree.specs.declared.name.NameText.{NameText}
use Rattle.ll_tree.specs.declared.name.Spelling.TheVariants.{Number}
use Rattle.ll_parser.specs.GrammarFunctions.{next_behind}
use Rattle.ll_parser.specs.NameReading.{DerivesNoneWith, ReadsWith, SpellsWith, any_of}
use Rattle.ll_parser.specs.Reading.{EndsNowhere}
use Rattle.ll_parser.specs.Spellings.{IsInReach, Spells, spelling_of}
use Rattle.ll_parser.proofs.EndFacts.{token_ends}
use Rattle.ll_parser.proofs.TableFacts.{entry_stays, extends_at_number}
use Rattle.ll_parser.proofs.TokenFacts.{same_first, token_leaves_one}
use Rattle.ll_types.proofs.MembersRead.{derived}
use Rattle.ll_operands.proofs.PartFacts.{IsExact, exact_optional}
use Rattle.ll_heads.specs.Params.{first_place}
use Rattle.ll_bodies.specs.Labels.{block_label_part, label_here, numbered_label, written_label, written_label_part}

-- a label that stands
pub written_read : (next byte number : ℕ) (old new : List NameText) (tokens rest : List Lexeme) (first : Lexeme) (text : List ℕ) → byte ≡ first_place tokens → tokens ≡ first ∷ rest → first.kind ≡ Label → text ≡ take (length first.text - 1) first.text → SpellsWith old new LocalName text number → ReadsWith (label_here next) old new (record { number = number; byte = byte }) tokens rest
written_read next byte number old new tokens rest first text place is kind same s = record {
  extends = s.extends;
  reads = λ longer e. (sym place, inl (first, is, kind, subst (λ t. Spells longer LocalName t number) same (s.spells longer e)));
}

-- the next number, where none stands
pub numbered_read : (next byte number : ℕ) (old new : List NameText) (tokens : List Lexeme) → byte ≡ first_place tokens → EndsNowhere (any_of Label) tokens → slice_get new number ≡ Some (record { kind = LocalName; spelling = Number next }) → (new ≡ old) ⊎ (new ≡ old ++ record { kind = LocalName; spelling = Number next } ∷ []) → ReadsWith (label_here next) old new (record { number = number; byte = byte }) tokens tokens
numbered_read next byte number old new tokens place none entry kept = record {
  extends = extends_at_number old new _ kept;
  reads = λ longer e. (sym place, inr (entry_stays new longer number _ e entry, refl, none));
}

-- the number behind a label stays as the table grows
entry_of : (next : ℕ) (names : List NameText) (name : Name) (tokens rest : List Lexeme) → label_here next names name tokens rest → (entry : NameText) × (slice_get names name.number ≡ Some entry)
entry_of next names name tokens rest (place, inl (l, is, kind, (reach, entry))) = (_, entry)
entry_of next names name tokens rest (place, inr (entry, _, _)) = (_, entry)

pub label_numbered : (next end : ℕ) (old new : List NameText) (name : Name) (tokens rest : List Lexeme) → ReadsWith (label_here next) old new name tokens rest → end ≡ next_behind new (slice_get new name.number) next → ReadsWith (numbered_label next end) old new name tokens rest
label_numbered next end old new name tokens rest r is =
    let entry : (entry : NameText) × (slice_get new name.number ≡ Some entry) = entry_of next new name tokens rest (derived (label_here next) old new name tokens rest r) in
    record {
      extends = r.extends;
      reads = λ longer e.
          (r.reads longer e, is ∙ ap (λ x. next_behind new x next) entry.1 ∙ sym (ap (λ x. next_behind longer x next) (entry_stays new longer name.number _ e entry.1)));
    }

-- digits that are out of range
pub label_refused : (tokens rest : List Lexeme) (first : Lexeme) (text : List ℕ) → tokens ≡ first ∷ rest → text ≡ take (length first.text - 1) first.text → (IsInReach (spelling_of text) → ⊥) → DerivesNoneWith written_label tokens
label_refused tokens rest first text is same none names number end (l, is', kind, (reach, entry)) =
    none (subst (λ t. IsInReach (spelling_of t)) (ap (λ (x : Lexeme). take (length x.text - 1) x.text) (same_first l first _ _ (sym is' ∙ is)) ∙ sym same) reach)

-- labels are exact
written_begins : (tokens rest : List Lexeme) → written_label_part.begins tokens rest → (end : List Lexeme) × any_of Label tokens end
written_begins tokens rest (names, number, (l, is, kind, _)) = (rest, (l, is, kind, tt))

exact_written : IsExact written_label_part
exact_written = record {
  one = λ tokens a b d e. token_leaves_one _ _ _ tokens a b d.2 e.2;
  none = λ tokens rest refusal s d. s.0 d.0 d.1 rest d.2;
  ends = λ tokens rest d. token_ends _ _ tokens rest d.2;
}

pub exact_label : IsExact block_label_part
exact_label = exact_optional (any_of Label) written_label_part exact_written written_begins

pub label_is_part : (next : ℕ) (names : List NameText) (name : Name) (tokens rest : List Lexeme) → label_here next names name tokens rest → block_label_part.begins tokens rest
label_is_part next names name tokens rest (place, inl w) = inl (names, name.number, w)
label_is_part next names name tokens rest (place, inr (numbered, same, none)) = inr (same, none)

pub label_one : (next other : ℕ) (names table : List NameText) (name label : Name) (tokens a b : List Lexeme) → label_here next names name tokens a → label_here other table label tokens b → a ≡ b
label_one next other names table name label tokens a b d e =
    exact_label.one tokens a b (label_is_part next names name tokens a d) (label_is_part other table label tokens b e)
