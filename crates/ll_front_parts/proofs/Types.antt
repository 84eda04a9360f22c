-- Numbers, names, address spaces, pointers and types are refused up to the place alone, and are eaten whatever stands behind them.
use Rattle.std.proofs.Common.{◌≡◌, ℕ, ◌⊎◌, List, [], ◌∷◌, codes, refl, inl, inr, Option}
use mathlib.Core.Former.{Count}
use Rattle.ll_tokens.specs.declared.kinds.TokenKind.{TokenKind}
use Rattle.ll_tokens.specs.declared.kinds.TokenKind.TheVariants.{Local as LocalToken}
use Rattle.ll_tokens.specs.Tokens.{Lexeme}
use Rattle.ll_tree.specs.declared.name.NameKind.{NameKind}
use Rattle.ll_tree.specs.declared.name.NameText.{NameText}
use Rattle.ll_tree.specs.declared.ty.LlType.{LlType}
use Rattle.ll_tree.specs.declared.ty.TypeBase.{TypeBase, Void, Int, Half, Float, Double, Named as NamedBase, Array', Vector', Struct', Packed', Row_of-LlType, end_of-LlType, more_of-LlType}
use Rattle.ll_tree.specs.Types.{int_width}
use Rattle.ll_parser.specs.declared.refusal.ReadError.TheVariants.{Refused}
use Rattle.ll_parser.specs.declared.refusal.Refusal.{Refusal}
use Rattle.ll_parser.specs.GrammarTypes.{number, pointer, space, ty, type_base, types, types_behind, written_space}
use Rattle.ll_parser.specs.GrammarValues.{global, local}
use Rattle.ll_parser.specs.NameReading.{IsNoName, NameFails, any_of, signed_name}
use Rattle.ll_parser.specs.Pointers.{NoPointer, PointerFails, PointersRefused}
use Rattle.ll_parser.specs.Productions.{each_behind_comma, mark, word}
use Rattle.ll_parser.specs.Reading.{DerivesNone, EndsNowhere, number_rule}
use Rattle.ll_parser.specs.Spaces.{IsNoBracketed, IsNoNumber, IsNoSpace, IsUnexpected, NoSpace, space_here}
use Rattle.ll_parser.specs.WordTypes.{IsOneWord, NoWordType}
use Rattle.ll_parser.proofs.PointerFacts.{pointer_none_at_space, pointer_none_at_star, refused_behind}
use Rattle.ll_parser.proofs.SpaceFacts.{space_none}
use Rattle.ll_types.specs.declared.openings.TypeOpening.TheVariants as opening
use Rattle.ll_types.specs.TypeOpenings.{OpensPlain, opens}
use Rattle.ll_types.specs.TypeParts.{all_types, members, some_types, ty_here}
use Rattle.ll_types.specs.TypeRefusals.{CountedFails, MembersFail, TypeFails, behind_packed, in_array, in_packed, in_pointers, in_struct, in_vector, no_close, no_count, no_end, no_first, no_name, no_next, no_part, no_times, no_type}
use Rattle.ll_attributes.proofs.AttributeFacts.{bracketed_none}
use Rattle.ll_operands.specs.Parts.{Begins, Part, global_part, local_part, number_part, type_part, type_then}
use Rattle.ll_front_parts.proofs.Fronts.{IsLocal, Keeps, Sees, Settles, Sight, behind_token, beside_no_mark, first_back, keeps_token, one, sees_no_mark, sees_none, sees_nowhere, sees_token, settled_as, settled_behind, settled_beside, settled_first, unexpected_settles}
use Rattle.ll_front_parts.proofs.Joins.{Then, keeps_any, keeps_as, keeps_at, keeps_commas, keeps_each, keeps_if, keeps_named, keeps_none, keeps_nothing, keeps_or, keeps_seq, keeps_then, keeps_up_to}

pub mark_settles : (code : ℕ) → Settles (IsUnexpected (mark code))
mark_settles code = unexpected_settles (mark code) (sees_token _ _)

pub word_settles : (text : List ℕ) → Settles (IsUnexpected (word text))
word_settles text = unexpected_settles (word text) (sees_token _ _)

pub kind_settles : (kind : TokenKind) → Settles (IsUnexpected (any_of kind))
kind_settles kind = unexpected_settles (any_of kind) (sees_token _ _)

-- numbers and names
pub number_settles : Settles IsNoNumber
number_settles = settled_first (DerivesNone number) number_rule (sees_none number (λ v. sees_token _ _)) (λ l a b. refl)

pub name_settles : (kind : TokenKind) → Settles (IsNoName kind)
name_settles kind tokens refusal (inl d) less = settled_as (λ ts r s. inl s) (kind_settles kind tokens refusal d less)
name_settles kind tokens refusal (inr (rest, d, is)) less =
    settled_as (λ ts r s. inr (s.0.0, s.0.1, s.1)) (settled_first (Begins (any_of kind)) (λ ts. 4) (sees_token _ _) (λ l a b. refl) tokens refusal
    ((rest, d), is) less)

pub named_settles : (kind : TokenKind) (name_kind : NameKind) → Settles (λ tokens refusal. NameFails kind name_kind tokens (Refused refusal))
named_settles kind name_kind tokens refusal d less =
    settled_beside (λ ts. (names : List NameText) → DerivesNone (signed_name kind name_kind names) ts)
    (λ a b same none names. sees_none (signed_name kind name_kind names) (λ x. sees_token _ _) a b same (none names)) d.0 (name_settles kind tokens refusal d.1 less)

-- address spaces and pointers
pub bracketed_settles : Settles IsNoBracketed
bracketed_settles tokens refusal (inl d) less = settled_as (λ ts r s. inl s) (mark_settles 40 tokens refusal d less)
bracketed_settles tokens refusal (inr (m, bracket, inl d)) less =
    settled_as (λ ts r s. inr (s.0, s.1, inl s.2)) (behind_token bracket (number_settles m refusal d less))
bracketed_settles tokens refusal (inr (m, bracket, inr (v, b, n, d))) less =
    settled_as (λ ts r s. inr (s.0, s.1, inr (v, s.2.0, s.2.1, s.2.2)))
    (behind_token bracket (behind_token n (mark_settles 41 b refusal d less)))

pub space_settles : Settles IsNoSpace
space_settles tokens refusal (b, w, d) less = behind_token w (bracketed_settles b refusal d less)

keeps_written : (v : ℕ) → Keeps one (written_space v)
keeps_written v = keeps_seq one _ _ (keeps_token _ _) (keeps_seq one _ _ (keeps_token _ _) (keeps_seq one _ _ (keeps_token _ _) (keeps_token _ _)))

keeps_space : (v : ℕ) → Keeps one (space v)
keeps_space v =
    keeps_or one (written_space v) (λ tokens rest. (v ≡ 0) × (tokens ≡ rest)) (keeps_written v)
    (keeps_if one (v ≡ 0) (λ tokens rest. tokens ≡ rest) (keeps_nothing one))

pub keeps_pointer : (v : ℕ) → Keeps one (pointer v)
keeps_pointer v = keeps_seq one (space v) (mark 42) (keeps_space v) (keeps_token _ _)

sees_no_space : Sees one NoSpace
sees_no_space = sees_nowhere one (word (codes "addrspace")) (sees_token _ _)

pub keeps_space_here : (v : ℕ) → Keeps one (space_here v)
keeps_space_here v =
    keeps_or one (written_space v) (λ tokens rest. (v ≡ 0) × (tokens ≡ rest) × NoSpace tokens) (keeps_written v)
    (keeps_as one (λ ts rest d. (d.0, d.1.0, d.1.1)) (λ ts rest d. (d.0, (d.1, d.2)))
    (keeps_if one (v ≡ 0) (λ tokens rest. (tokens ≡ rest) × NoSpace tokens) (keeps_none one NoSpace sees_no_space)))

pub sees_no_pointer : Sees one NoPointer
sees_no_pointer a b same n = record { no_space = sees_no_space a b same n.no_space; no_star = sees_no_mark 42 a b same n.no_star }

-- where a pointer is refused that begins
abbrev PlaceFails : List Lexeme → Refusal → Type 0
PlaceFails tokens refusal =
    IsNoSpace tokens refusal ⊎ ((value : ℕ) × (behind : List Lexeme) × space_here value tokens behind × IsUnexpected (mark 42) behind refusal)

place_settles : Settles PlaceFails
place_settles tokens refusal (inl d) less = settled_as (λ ts r s. inl s) (space_settles tokens refusal d less)
place_settles tokens refusal (inr (v, b, space, d)) less =
    settled_as (λ ts r s. inr (v, s.0, s.1, s.2)) (settled_behind (keeps_space_here v) space (mark_settles 42 b refusal d less))

no_pointer : (tokens : List Lexeme) (refusal : Refusal) → PlaceFails tokens refusal → DerivesNone pointer tokens
no_pointer tokens refusal (inl (b, w, none)) = pointer_none_at_space tokens refusal (space_none tokens b w (bracketed_none b refusal none)) (b, w, none)
no_pointer tokens refusal (inr (v, b, space, d)) = pointer_none_at_star v tokens b space d.0

pointer_settles : Settles PointerFails
pointer_settles tokens refusal d less =
    settled_as (λ ts r s. record { begins = s.0; none = no_pointer ts r s.1; place = s.1 })
    (settled_beside (λ ts. NoPointer ts → ⊥) (λ a b same begins n. begins (sees_no_pointer b a (first_back a b same) n)) d.begins
    (place_settles tokens refusal d.place less))

pub pointers_settle : Settles PointersRefused
pointers_settle tokens refusal d less =
    settled_as (λ ts r s. refused_behind d.spaces ts s.0 r s.1 s.2)
    (settled_behind (keeps_each pointer keeps_pointer d.spaces) d.before (pointer_settles d.middle refusal d.fails less))

-- types
module _ (names : List NameText) where
  mutual
    pub keeps_base : (base : TypeBase) → Keeps one (type_base names base)
    keeps_base Void = keeps_token _ _
    keeps_base (Int bits) = keeps_token _ _
    keeps_base Half = keeps_token _ _
    keeps_base Float = keeps_token _ _
    keeps_base Double = keeps_token _ _
    keeps_base (NamedBase name) = keeps_token _ _
    keeps_base (Array' count shape part) =
        keeps_seq one _ _ (keeps_token _ _) (keeps_seq one _ _ (keeps_token _ _)
        (keeps_seq one _ _ (keeps_token _ _) (keeps_seq one _ _ (keeps_types part) (keeps_token _ _))))
    keeps_base (Vector' lanes shape part) =
        keeps_seq one _ _ (keeps_token _ _) (keeps_seq one _ _ (keeps_token _ _)
        (keeps_seq one _ _ (keeps_token _ _) (keeps_seq one _ _ (keeps_types part) (keeps_token _ _))))
    keeps_base (Struct' shape row) = keeps_seq one _ _ (keeps_token _ _) (keeps_seq one _ _ (keeps_types row) (keeps_token _ _))
    keeps_base (Packed' shape row) =
        keeps_seq one _ _ (keeps_token _ _) (keeps_seq one _ _ (keeps_token _ _)
        (keeps_seq one _ _ (keeps_types row) (keeps_seq one _ _ (keeps_token _ _) (keeps_token _ _))))

    keeps_types : {k : Count} (row : Row_of-LlType k) → Keeps one (types names row)
    keeps_types end_of-LlType = keeps_nothing one
    keeps_types (more_of-LlType base pointers row) =
        keeps_seq one _ _ (keeps_base base) (keeps_seq one _ _ (keeps_each pointer keeps_pointer pointers) (keeps_types_behind row))

    keeps_types_behind : {k : Count} (row : Row_of-LlType k) → Keeps one (types_behind names row)
    keeps_types_behind end_of-LlType = keeps_nothing one
    keeps_types_behind (more_of-LlType base pointers row) =
        keeps_seq one _ _ (keeps_token _ _) (keeps_seq one _ _ (keeps_base base)
        (keeps_seq one _ _ (keeps_each pointer keeps_pointer pointers) (keeps_types_behind row)))

  pub keeps_ty : (t : LlType) → Keeps one (ty names t)
  keeps_ty t = keeps_seq one _ _ (keeps_base t.base) (keeps_each pointer keeps_pointer t.pointers)

  pub keeps_type : (t : LlType) → Keeps one (ty_here names t)
  keeps_type t = keeps_up_to one (ty names t) NoPointer (keeps_ty t) sees_no_pointer

  pub keeps_some : (ts : List LlType) → Keeps one (some_types names ts)
  keeps_some [] = record { keeps = λ tokens rest d. absurd d }
  keeps_some (t ∷ ts) = keeps_seq one (ty_here names t) (each_behind_comma (ty_here names) ts) (keeps_type t) (keeps_commas (ty_here names) keeps_type ts)

  keeps_all : (ts : List LlType) → Keeps one (all_types names ts)
  keeps_all [] = keeps_nothing one
  keeps_all (t ∷ ts) = keeps_some (t ∷ ts)

  keeps_members : (ts : List LlType) → Keeps one (members names ts)
  keeps_members ts = keeps_seq one (all_types names ts) (mark 125) (keeps_all ts) (keeps_token _ _)

  sees_base : (base : TypeBase) → IsOneWord base → Sees one (Begins (type_base names base))
  sees_base Void is = sees_token _ _
  sees_base (Int bits) is = sees_token _ _
  sees_base Half is = sees_token _ _
  sees_base Float is = sees_token _ _
  sees_base Double is = sees_token _ _
  sees_base (NamedBase name) is = absurd is
  sees_base (Array' count shape part) is = absurd is
  sees_base (Vector' lanes shape part) is = absurd is
  sees_base (Struct' shape row) is = absurd is
  sees_base (Packed' shape row) is = absurd is

sees_no_word : Sees one NoWordType
sees_no_word a b same none names base is = sees_nowhere one (type_base names base) (sees_base names base is) a b same (none names base is)

sees_plain : Sees one OpensPlain
sees_plain a b same o = record {
  no_array = sees_no_mark 91 a b same o.no_array;
  no_angle = sees_no_mark 60 a b same o.no_angle;
  no_brace = sees_no_mark 123 a b same o.no_brace;
  no_name = sees_nowhere one (any_of LocalToken) (sees_token _ _) a b same o.no_name;
}

keeps_vector : Keeps one (opens opening.Vector)
keeps_vector = keeps_up_to one (mark 60) (EndsNowhere (mark 123)) (keeps_token _ _) (sees_no_mark 123)

keeps_packed : Keeps one (opens opening.Packed)
keeps_packed = keeps_seq one (mark 60) (mark 123) (keeps_token _ _) (keeps_token _ _)

mutual
  pub type_settles : Settles TypeFails
  type_settles tokens refusal (no_type o nowhere is) less =
      settled_as (λ ts r s. no_type (refl, s.0.0) s.0.1 s.1)
      (settled_first (λ ts. OpensPlain ts × NoWordType ts) (λ ts. 3) (λ a b same d. (sees_plain a b same d.0, sees_no_word a b same d.1))
      (λ l a b. refl) tokens refusal ((o.1, nowhere), is) less)
  type_settles tokens refusal (no_name o fails) less =
      settled_as (λ ts r s. no_name (refl, s.0) s.1) (settled_beside (Begins (any_of LocalToken)) (sees_token _ _) o.1 (named_settles _ _ tokens refusal fails less))
  type_settles tokens refusal (in_array inside o fails) less =
      settled_as (λ ts r s. in_array s.0 s.1 s.2) (behind_token o (counted_settles 93 inside refusal fails less))
  type_settles tokens refusal (in_vector inside o fails) less =
      settled_as (λ ts r s. in_vector s.0 s.1 s.2) (settled_behind keeps_vector o (counted_settles 62 inside refusal fails less))
  type_settles tokens refusal (in_struct inside o fails) less =
      settled_as (λ ts r s. in_struct s.0 s.1 s.2) (behind_token o (members_settle inside refusal fails less))
  type_settles tokens refusal (in_packed inside o fails) less =
      settled_as (λ ts r s. in_packed s.0 s.1 s.2) (settled_behind keeps_packed o (members_settle inside refusal fails less))
  type_settles tokens refusal (behind_packed inside b names ms o d unexpected) less =
      settled_as (λ ts r s. behind_packed s.0 s.2.0 names ms s.1 s.2.1 s.2.2)
      (settled_behind keeps_packed o (settled_behind (keeps_members names ms) d (mark_settles 62 b refusal unexpected less)))
  type_settles tokens refusal (in_pointers b names base d refused) less =
      settled_as (λ ts r s. in_pointers s.0 names base s.1 s.2) (settled_behind (keeps_base names base) d (pointers_settle b refusal refused less))

  counted_settles : (close : ℕ) → Settles (CountedFails close)
  counted_settles close tokens refusal (no_count none) less = settled_as (λ ts r s. no_count s) (number_settles tokens refusal none less)
  counted_settles close tokens refusal (no_times b count d unexpected) less =
      settled_as (λ ts r s. no_times s.0 count s.1 s.2) (behind_token d (word_settles (codes "x") b refusal unexpected less))
  counted_settles close tokens refusal (no_part b inside count d w fails) less =
      settled_as (λ ts r s. no_part s.0 s.2.0 count s.1 s.2.1 s.2.2)
      (behind_token d (behind_token w (type_settles inside refusal fails less)))
  counted_settles close tokens refusal (no_close b inside end count names part d w t unexpected) less =
      settled_as (λ ts r s. no_close s.0 s.2.0 s.2.2.0 count names part s.1 s.2.1 s.2.2.1 s.2.2.2)
      (behind_token d (behind_token w (settled_behind (keeps_type names part) t (mark_settles close end refusal unexpected less))))

  members_settle : Settles MembersFail
  members_settle tokens refusal (no_first nowhere fails) less =
      settled_as (λ ts r s. no_first s.0 s.1) (beside_no_mark 125 nowhere (type_settles tokens refusal fails less))
  members_settle tokens refusal (no_next end b names ms some comma fails) less =
      settled_as (λ ts r s. no_next s.0 s.2.0 names ms s.1 s.2.1 s.2.2)
      (settled_behind (keeps_some names ms) some (behind_token comma (type_settles b refusal fails less)))
  members_settle tokens refusal (no_end end names ms some no_comma unexpected) less =
      settled_as (λ ts r s. no_end s.0 names ms s.1 s.2.0 s.2.1)
      (settled_behind (keeps_some names ms) some
      (beside_no_mark 44 no_comma (mark_settles 125 end refusal unexpected less)))

-- the parts
pub local_number : IsLocal one number_part
local_number = record { keeps = keeps_any one number (λ v. keeps_token _ _); settles = number_settles }

pub local_local : IsLocal one local_part
local_local = record { keeps = keeps_named local (λ names name. keeps_token _ _); settles = named_settles _ _ }

pub local_global : IsLocal one global_part
local_global = record { keeps = keeps_named global (λ names name. keeps_token _ _); settles = named_settles _ _ }

pub local_type : IsLocal one type_part
local_type = record { keeps = keeps_named ty_here keeps_type; settles = type_settles }

-- a type, then what its width decides on
module _ (sight : Sight) (next : Option ℕ → Part) (l : (width : Option ℕ) → IsLocal sight (next width)) where
  type_then_settles : Settles (type_then next).stops
  type_then_settles tokens refusal (inl d) less = settled_as (λ ts r s. inl s) (type_settles tokens refusal d less)
  type_then_settles tokens refusal (inr (names, t, m, d, f)) less =
      settled_as (λ ts r s. inr (names, t, s.0, s.1, s.2)) (settled_behind (keeps_type names t) d ((l (int_width t)).settles m refusal f less))

  pub local_type_then : IsLocal sight (type_then next)
  local_type_then = record {
    keeps = keeps_as sight (λ ts rest d. (d.0, d.1.0, d.1.1.0, d.1.1.1, d.1.1.2)) (λ ts rest d. (d.0, (d.1, (d.2, d.3, d.4))))
        (keeps_any sight (λ names tokens rest. (t : LlType) × Then (ty_here names t) (next (int_width t)).begins tokens rest)
        (λ names. keeps_any sight (λ t. Then (ty_here names t) (next (int_width t)).begins)
        (λ t. keeps_then sight (ty_here names t) (next (int_width t)).begins (keeps_at sight (ty_here names t) (keeps_type names t)) (l (int_width t)).keeps)));
    settles = type_then_settles;
  }
