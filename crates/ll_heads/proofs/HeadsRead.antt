-- Heads as they are read: what each exit of a reader answers.
use Rattle.std.proofs.Common.{◌≡◌, ℕ, Bool, List, [], ◌∷◌, codes, Option, None, refl, sym, ap, ◌∙◌, subst, inr}
use Rattle.ll_tokens.specs.Tokens.{Lexeme}
use Rattle.ll_tree.specs.declared.module.Attribute.{Attribute}
use Rattle.ll_tree.specs.declared.module.Head.{Head}
use Rattle.ll_tree.specs.declared.module.Linkage.{Linkage}
use Rattle.ll_tree.specs.declared.module.Param.{Param}
use Rattle.ll_tree.specs.declared.name.Name.{Name}
use Rattle.ll_tree.specs.declared.name.NameText.{NameText}
use Rattle.ll_tree.specs.declared.ty.LlType.{LlType}
use Rattle.ll_parser.specs.declared.refusal.ReadError.{ReadError}
use Rattle.ll_parser.specs.declared.refusal.ReadError.TheVariants.{NoMemory, Refused}
use Rattle.ll_parser.specs.GrammarAttributes.{placed_word}
use Rattle.ll_parser.specs.GrammarItems.{unnamed}
use Rattle.ll_parser.specs.GrammarValues.{global}
use Rattle.ll_parser.specs.NameReading.{ReadsWith}
use Rattle.ll_parser.specs.Productions.{◌>>◌, mark, word}
use Rattle.ll_parser.proofs.TableFacts.{extends_then}
use Rattle.ll_types.specs.TypeParts.{ty_here}
use Rattle.ll_types.proofs.MembersRead.{derived}
use Rattle.ll_operands.specs.Parts.{Refuses, global_part, ◌then◌, type_part}
use Rattle.ll_operands.proofs.Readings.{reads_then}
use Rattle.ll_attributes.specs.AttributeParts.{attributes_here}
use Rattle.ll_attributes.specs.FunctionAttributes.{function_attributes_here}
use Rattle.ll_attributes.specs.Heads.{convention_here, linkage_here}
use Rattle.ll_attributes.specs.Lists.{maybe_here}
use Rattle.ll_heads.specs.declared.heads.Front.{Front}
use Rattle.ll_heads.specs.HeadParts.{attributes_part, front_part}
use Rattle.ll_heads.specs.Heads.{back_here, declaration_here, front_here, placed_head}
use Rattle.ll_heads.specs.Params.{first_place, params_behind, params_here}
use Rattle.ll_heads.proofs.HeadExact.{front_is_part}

pub back_read : (tokens behind rest : List Lexeme) → maybe_here unnamed tokens behind → function_attributes_here behind rest → back_here tokens rest
unfolding ◌>>◌
back_read tokens behind rest u d = (behind, u, d)

pub front_read : (old between later new : List NameText) (l : Linkage) (k : Bool) (xs : List Attribute) (t : LlType) (name : Name) (tokens a b c d e rest : List Lexeme) → linkage_here l tokens a → maybe_here (word (codes "dso_local")) a b → convention_here k b c → ReadsWith attributes_here old between xs c d → ReadsWith ty_here between later t d e → ReadsWith global later new name e rest → ReadsWith front_here old new (record { linkage = l; is_kernel = k; attributes = xs; ty = t; name = name }) tokens rest
unfolding ◌>>◌
front_read old between later new l k xs t name tokens a b c d e rest linkage dso convention x y z = record {
  extends = extends_then old between new x.extends (extends_then between later new y.extends z.extends);
  reads = λ longer ext.
      let behind_type = extends_then later new longer z.extends ext in
      (a, linkage, (b, dso, (c, convention, (d, x.reads longer (extends_then between later longer y.extends behind_type), (e, y.reads longer behind_type, z.reads longer ext)))));
}

-- what is refused behind the words of which none needs to stand
pub refused_behind_words : (l : Linkage) (k : Bool) (tokens a b c : List Lexeme) (told : ReadError) → linkage_here l tokens a → maybe_here (word (codes "dso_local")) a b → convention_here k b c → Refuses (attributes_part then type_part then global_part) c told → Refuses front_part tokens told
refused_behind_words l k tokens a b c NoMemory linkage dso convention x = x
refused_behind_words l k tokens a b c (Refused refusal) linkage dso convention x = inr (a, (l, linkage), inr (b, dso, inr (c, (k, convention), x)))

pub front_begins : (old new : List NameText) (f : Front) (tokens rest : List Lexeme) → ReadsWith front_here old new f tokens rest → front_part.begins tokens rest
front_begins old new f tokens rest r = front_is_part new f tokens rest (derived front_here old new f tokens rest r)

pub head_read : (byte : ℕ) (start end : Option ℕ) (old between new : List NameText) (f : Front) (ps : List Param) (tokens behind inside close rest : List Lexeme) → ReadsWith front_here old between f tokens behind → mark 40 behind inside → ReadsWith (params_here start end) between new ps inside close → back_here close rest → ReadsWith (placed_head byte start end) old new (record { byte = byte; name = f.name; linkage = f.linkage; is_kernel = f.is_kernel; attributes = f.attributes; ty = f.ty; params = ps }) tokens rest
unfolding ◌>>◌
head_read byte start end old between new f ps tokens behind inside close rest x bracket y back =
    reads_then front_here (params_here start end) (placed_head byte start end) f ps _ old between new tokens behind inside close rest
    (λ names d e. (refl, (behind, d, (inside, bracket, (close, e, back))))) x y

-- a declaration has no numbering
behind_unnumbered : (end : Option ℕ) (names : List NameText) (ps : List Param) (tokens rest : List Lexeme) → params_behind None end names ps tokens rest → end ≡ None
unfolding ◌>>◌
behind_unnumbered end names [] tokens rest (is, _) = is
behind_unnumbered end names (p ∷ ps) tokens rest (m, comma, (n, param, more)) = behind_unnumbered end names ps n rest more

pub unnumbered : (end : Option ℕ) (names : List NameText) (ps : List Param) (tokens rest : List Lexeme) → params_here None end names ps tokens rest → end ≡ None
unfolding ◌>>◌
unnumbered end names [] tokens rest (is, _) = is
unnumbered end names (p ∷ ps) tokens rest (nowhere, (m, ((n, param, more), _), close)) = behind_unnumbered end names ps n m more

pub with_place : (text : List ℕ) (byte : ℕ) (tokens rest : List Lexeme) → byte ≡ first_place tokens → word text tokens rest → placed_word text byte tokens rest
with_place text byte tokens rest place (l, is, kind, same) = (l, is, kind, (same, sym (place ∙ ap first_place is)))

head_unnumbered : (byte : ℕ) (end : Option ℕ) (names : List NameText) (h : Head) (tokens rest : List Lexeme) → placed_head byte None end names h tokens rest → placed_head byte None None names h tokens rest
unfolding ◌>>◌
head_unnumbered byte end names h tokens rest (place, (m, front, (n, bracket, (p, params, back)))) =
    (place, (m, front, (n, bracket, (p, subst (λ (e : Option ℕ). params_here None e names h.params n p) (unnumbered end names h.params n p params) params, back))))

declared : (byte : ℕ) (end : Option ℕ) (names : List NameText) (h : Head) (tokens behind rest : List Lexeme) → byte ≡ first_place tokens → word (codes "declare") tokens behind → placed_head byte None end names h behind rest → declaration_here names h tokens rest
unfolding ◌>>◌
declared byte end names h tokens behind rest place w d =
    let here = head_unnumbered byte end names h behind rest d in
    (behind, with_place (codes "declare") h.byte tokens behind (here.0 ∙ place) w, here.1)

pub declaration_read : (byte : ℕ) (end : Option ℕ) (old new : List NameText) (h : Head) (tokens behind rest : List Lexeme) → byte ≡ first_place tokens → word (codes "declare") tokens behind → ReadsWith (placed_head byte None end) old new h behind rest → ReadsWith declaration_here old new h tokens rest
declaration_read byte end old new h tokens behind rest place w r = record { extends = r.extends; reads = λ longer e. declared byte end longer h tokens behind rest place w (r.reads longer e) }
