-- Definitions up to their `{` as they are read: what each exit of a reader answers.
use Rattle.std.proofs.Common.{◌≡◌, ℕ, Bool, true, false, if◌then◌else◌, List, [], ◌∷◌, codes, Option, None, Some, find, option_map, unwrap_or, refl, sym, ap, ◌∙◌, subst}
use Rattle.std.specs.Str.{bytes_eq}
use Rattle.ll_tokens.specs.Tokens.{Lexeme}
use Rattle.ll_tree.specs.declared.module.Head.{Head}
use Rattle.ll_tree.specs.declared.module.NodeRef.{NodeRef}
use Rattle.ll_tree.specs.declared.module.Param.{Param}
use Rattle.ll_tree.specs.declared.name.Name.{Name}
use Rattle.ll_tree.specs.declared.name.NameText.{NameText}
use Rattle.ll_parser.specs.declared.refusal.ReadError.{ReadError}
use Rattle.ll_parser.specs.declared.refusal.ReadError.TheVariants.{NoMemory, Refused}
use Rattle.ll_parser.specs.GrammarItems.{first_named}
use Rattle.ll_parser.specs.NameReading.{ReadsWith}
use Rattle.ll_parser.specs.Productions.{◌>>◌, mark, word}
use Rattle.ll_parser.specs.Reading.{DerivesNone}
use Rattle.ll_types.specs.ValueRefusals.{Unless}
use Rattle.ll_types.proofs.MembersRead.{derived}
use Rattle.ll_operands.specs.Parts.{Refuses}
use Rattle.ll_attributes.specs.Attachments.{AttachmentsFail, attachments_here}
use Rattle.ll_heads.specs.declared.definitions.DefinitionStart.{DefinitionStart}
use Rattle.ll_heads.specs.Definitions.{KeepsFirst, definition_start_here}
use Rattle.ll_heads.specs.HeadParts.{attachments_part, head_part}
use Rattle.ll_heads.specs.Heads.{head_here, placed_head}
use Rattle.ll_heads.specs.Params.{first_place, numbering_behind, params_behind, params_here}
use Rattle.ll_heads.proofs.HeadExact.{head_is_part}
use Rattle.ll_heads.proofs.HeadsRead.{with_place}

pub attachments_refused : (tokens : List Lexeme) (told : ReadError) → Unless (λ refusal. DerivesNone attachments_here tokens × AttachmentsFail tokens refusal) told → Refuses attachments_part tokens told
attachments_refused tokens NoMemory x = x
attachments_refused tokens (Refused refusal) x = x.1

pub head_begins : (byte : ℕ) (start end : Option ℕ) (old new : List NameText) (h : Head) (tokens rest : List Lexeme) → ReadsWith (placed_head byte start end) old new h tokens rest → head_part.begins tokens rest
head_begins byte start end old new h tokens rest r = head_is_part start end new h tokens rest (derived (placed_head byte start end) old new h tokens rest r).1

-- the first attachment of a name
found_or_not : (test : Bool) (x : List ℕ × NodeRef) (found : Option (List ℕ × NodeRef)) (kept : Option NodeRef) → option_map (λ (a : List ℕ × NodeRef). a.1) found ≡ kept → option_map (λ (a : List ℕ × NodeRef). a.1) (if test then Some x else found) ≡ (if test then Some x.1 else kept)
found_or_not true x found kept same = refl
found_or_not false x found kept same = same

first_found : (names : List NameText) (name : List ℕ) (attachments : List (List ℕ × NodeRef)) → option_map (λ (a : List ℕ × NodeRef). a.1) (find (λ (a : List ℕ × NodeRef). bytes_eq a.0 name) attachments) ≡ first_named names name attachments
first_found names name [] = refl
first_found names name (a ∷ attachments) = found_or_not (bytes_eq a.0 name) a _ _ (first_found names name attachments)

-- a numbering goes on
number_goes_on : (names : List NameText) (name : Option Name) (next : ℕ) → (after : ℕ) × (numbering_behind names name (Some next) ≡ Some after)
number_goes_on names None next = (next, refl)
number_goes_on names (Some name) next = (_, refl)

behind_numbered : (next : ℕ) (end : Option ℕ) (names : List NameText) (ps : List Param) (tokens rest : List Lexeme) → params_behind (Some next) end names ps tokens rest → (after : ℕ) × (end ≡ Some after)
unfolding ◌>>◌
behind_numbered next end names [] tokens rest (is, _) = (next, is)
behind_numbered next end names (p ∷ ps) tokens rest (m, comma, (n, param, more)) =
    let after = number_goes_on names p.name next in
    behind_numbered after.0 end names ps n rest (subst (λ (s : Option ℕ). params_behind s end names ps n rest) after.1 more)

numbered : (next : ℕ) (end : Option ℕ) (names : List NameText) (ps : List Param) (tokens rest : List Lexeme) → params_here (Some next) end names ps tokens rest → (after : ℕ) × (end ≡ Some after)
unfolding ◌>>◌
numbered next end names [] tokens rest (is, _) = (next, is)
numbered next end names (p ∷ ps) tokens rest (nowhere, (m, ((n, param, more), _), close)) =
    let after = number_goes_on names p.name next in
    behind_numbered after.0 end names ps n m (subst (λ (s : Option ℕ). params_behind s end names ps n m) after.1 more)

head_numbered : (after : ℕ) (end : Option ℕ) (names : List NameText) (h : Head) (tokens rest : List Lexeme) → after ≡ unwrap_or end 0 → head_here (Some 0) end names h tokens rest → head_here (Some 0) (Some after) names h tokens rest
unfolding ◌>>◌
head_numbered after end names h tokens rest taken (m, front, (n, bracket, (p, params, back))) =
    let known = numbered 0 end names h.params n p params in
    let same : end ≡ Some after = known.1 ∙ ap (λ (x : ℕ). Some x) (sym (taken ∙ ap (λ (e : Option ℕ). unwrap_or e 0) known.1)) in
    (m, front, (n, bracket, (p, subst (λ (e : Option ℕ). params_here (Some 0) e names h.params n p) same params, back)))

defined : (byte next : ℕ) (end : Option ℕ) (names : List NameText) (d : DefinitionStart) (attachments : List (List ℕ × NodeRef)) (tokens a b c rest : List Lexeme) → d.next ≡ unwrap_or end 0 → KeepsFirst names attachments d → byte ≡ first_place tokens → word (codes "define") tokens a → placed_head byte (Some 0) end names d.head a b → attachments_here attachments b c → mark 123 c rest → definition_start_here names d tokens rest
unfolding ◌>>◌
defined byte next end names d attachments tokens a b c rest taken kept place w h all brace =
    (attachments, kept, (a, with_place (codes "define") d.head.byte tokens a (h.0 ∙ place) w, (b, head_numbered d.next end names d.head a b taken h.1, (c, all, brace))))

pub definition_read : (byte next : ℕ) (end : Option ℕ) (old new : List NameText) (h : Head) (attachments given : List (List ℕ × NodeRef)) (types required hint : Option NodeRef) (tokens a b c rest : List Lexeme) → byte ≡ first_place tokens → word (codes "define") tokens a → ReadsWith (placed_head byte (Some 0) end) old new h a b → attachments_here attachments b c → mark 123 c rest
    → next ≡ unwrap_or end 0 → given ≡ attachments
    → types ≡ option_map (λ (a : List ℕ × NodeRef). a.1) (find (λ (a : List ℕ × NodeRef). bytes_eq a.0 (codes "kernel_arg_type")) given)
    → required ≡ option_map (λ (a : List ℕ × NodeRef). a.1) (find (λ (a : List ℕ × NodeRef). bytes_eq a.0 (codes "reqd_work_group_size")) given)
    → hint ≡ option_map (λ (a : List ℕ × NodeRef). a.1) (find (λ (a : List ℕ × NodeRef). bytes_eq a.0 (codes "work_group_size_hint")) given)
    → ReadsWith definition_start_here old new (record { head = h; kernel_arg_type = types; reqd_work_group_size = required; work_group_size_hint = hint; next = next }) tokens rest
definition_read byte next end old new h attachments given types required hint tokens a b c rest place w r all brace taken same is_types is_required is_hint = record {
  extends = r.extends;
  reads = λ longer e. defined byte next end longer _ attachments tokens a b c rest taken
      (record {
        arg_type = is_types ∙ first_in longer (codes "kernel_arg_type");
        required = is_required ∙ first_in longer (codes "reqd_work_group_size");
        hint = is_hint ∙ first_in longer (codes "work_group_size_hint");
      })
      place w (r.reads longer e) all brace;
}
  where
    first_in : (names : List NameText) (name : List ℕ) → option_map (λ (a : List ℕ × NodeRef). a.1) (find (λ (a : List ℕ × NodeRef). bytes_eq a.0 name) given) ≡ first_named names name attachments
    first_in names name = first_found names name given ∙ ap (first_named names name) same
