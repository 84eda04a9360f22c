-- The parts of heads are exact: what they leave of tokens is one list, an end of them, and refused tokens begin with none.
use Rattle.std.proofs.Common.{ℕ, zero, suc, Bool, true, false, List, [], ◌∷◌, codes, Option, None, Some, inl, inr}
use Rattle.ll_tokens.specs.declared.kinds.TokenKind.TheVariants.{Local as LocalToken}
use Rattle.ll_tokens.specs.Tokens.{Lexeme}
use Rattle.ll_tree.specs.declared.module.Head.{Head}
use Rattle.ll_tree.specs.declared.module.Linkage.{Linkage}
use Rattle.ll_tree.specs.declared.module.Linkage.TheVariants.{External, Internal, Private}
use Rattle.ll_tree.specs.declared.module.Param.{Param}
use Rattle.ll_tree.specs.declared.name.Name.{Name}
use Rattle.ll_tree.specs.declared.name.NameText.{NameText}
use Rattle.ll_parser.specs.GrammarAttributes.{placed_word}
use Rattle.ll_parser.specs.GrammarItems.{unnamed}
use Rattle.ll_parser.specs.NameReading.{any_of}
use Rattle.ll_parser.specs.Productions.{Production, ◌>>◌, word, mark}
use Rattle.ll_parser.proofs.EndFacts.{ends_same, token_ends}
use Rattle.ll_types.proofs.OneType.{type_shortens}
use Rattle.ll_types.proofs.Tokens.{EndsBy, Shortens, seq_ends, seq_shortens, token_end, token_shortens}
use Rattle.ll_operands.specs.Parts.{Begins, Part, local_part, mark_part, ◌then◌, times}
use Rattle.ll_operands.proofs.PartFacts.{IsExact, exact_either, exact_global, exact_local, exact_mark, exact_optional, exact_repeated, exact_then, exact_type, exact_word}
use Rattle.ll_attributes.specs.Heads.{convention_here, linkage_here}
use Rattle.ll_attributes.specs.Lists.{maybe_here}
use Rattle.ll_attributes.proofs.AttachmentFacts.{attachments_end, attachments_none, attachments_one}
use Rattle.ll_attributes.proofs.AttributeFacts.{attributes_end, attributes_none, attributes_one}
use Rattle.ll_attributes.proofs.FunctionFacts.{function_attributes_end, function_attributes_none, function_attributes_one}
use Rattle.ll_attributes.proofs.HeadFacts.{convention_same, linkage_same}
use Rattle.ll_attributes.proofs.ListFacts.{LeaveOne, maybe_one, token_one}
use Rattle.ll_heads.specs.declared.definitions.DefinitionStart.{DefinitionStart}
use Rattle.ll_heads.specs.declared.heads.Front.{Front}
use Rattle.ll_heads.specs.Definitions.{definition_start_here}
use Rattle.ll_heads.specs.HeadParts.{attachments_part, attributes_part, back_part, convention_part, declaration_part, definition_part, front_part, head_part, linkage_part, name_part, never_refused, next_part, param_part, params_part, some_part}
use Rattle.ll_heads.specs.Heads.{declaration_here, front_here, front_of, head_here}
use Rattle.ll_heads.specs.Params.{all_params, name_here, next_param, numbering_behind, param_here, params_behind, params_here}

-- parameters
pub exact_attributes : IsExact attributes_part
exact_attributes = record {
  one = λ tokens a b d e. attributes_one d.0 e.0 d.1 e.1 tokens a b d.2 e.2;
  none = λ tokens rest refusal s d. attributes_none tokens refusal s d.0 d.1 rest d.2;
  ends = λ tokens rest d. attributes_end d.0 d.1 tokens rest d.2;
}

name_opens : (tokens rest : List Lexeme) → local_part.begins tokens rest → Begins (any_of LocalToken) tokens
name_opens tokens rest (names, name, (l, is, kind, _)) = (rest, (l, is, kind, tt))

pub exact_name : IsExact name_part
exact_name = exact_optional (any_of LocalToken) local_part exact_local name_opens

pub exact_param : IsExact param_part
exact_param = exact_then _ _ exact_type (exact_then _ _ exact_attributes exact_name)

pub exact_next : IsExact next_part
exact_next = exact_then _ _ (exact_mark 44) exact_param

next_opens : (tokens rest : List Lexeme) → next_part.begins tokens rest → Begins (mark 44) tokens
unfolding ◌>>◌
next_opens tokens rest (m, comma, _) = (m, comma)

pub exact_some : IsExact some_part
exact_some = exact_then _ _ exact_param (exact_repeated (mark 44) next_part exact_next next_opens)

pub exact_params : IsExact params_part
exact_params =
    exact_either (mark 41) (mark_part 41) (some_part then mark_part 41) (exact_mark 41) (exact_then _ _ exact_some (exact_mark 41)) (λ tokens rest d. (rest, d))

-- words that may be missing
exact_never : (p : Production) → LeaveOne p p → EndsBy p → IsExact (never_refused p)
exact_never p one ends = record { one = one; none = λ tokens rest refusal s d. s; ends = ends }

maybe_end : (p : Production) → EndsBy p → EndsBy (maybe_here p)
maybe_end p ends tokens rest (inl d) = ends tokens rest d
maybe_end p ends tokens rest (inr (same, _)) = ends_same tokens rest same

pub unnamed_one : LeaveOne unnamed unnamed
unnamed_one tokens a b (inl d) (inl e) = token_one _ _ _ _ tokens a b d e
unnamed_one tokens a b (inl d) (inr e) = token_one _ _ _ _ tokens a b d e
unnamed_one tokens a b (inr d) (inl e) = token_one _ _ _ _ tokens a b d e
unnamed_one tokens a b (inr d) (inr e) = token_one _ _ _ _ tokens a b d e

unnamed_end : EndsBy unnamed
unnamed_end tokens rest (inl d) = token_ends _ _ tokens rest d
unnamed_end tokens rest (inr d) = token_ends _ _ tokens rest d

linkage_end : (l : Linkage) → EndsBy (linkage_here l)
linkage_end External tokens rest (same, _, _) = ends_same tokens rest same
linkage_end Internal tokens rest d = token_ends _ _ tokens rest d
linkage_end Private tokens rest d = token_ends _ _ tokens rest d

convention_end : (is_kernel : Bool) → EndsBy (convention_here is_kernel)
convention_end true tokens rest d = token_ends _ _ tokens rest d
convention_end false tokens rest (_, d) = maybe_end (word (codes "spir_func")) (token_end _ _) tokens rest d

exact_linkage : IsExact linkage_part
exact_linkage = record {
  one = λ tokens a b d e. (linkage_same d.0 e.0 tokens a b d.1 e.1).1;
  none = λ tokens rest refusal s d. s;
  ends = λ tokens rest d. linkage_end d.0 tokens rest d.1;
}

exact_convention : IsExact convention_part
exact_convention = record {
  one = λ tokens a b d e. (convention_same d.0 e.0 tokens a b d.1 e.1).1;
  none = λ tokens rest refusal s d. s;
  ends = λ tokens rest d. convention_end d.0 tokens rest d.1;
}

exact_maybe_word : (text : List ℕ) → IsExact (never_refused (maybe_here (word text)))
exact_maybe_word text = exact_never (maybe_here (word text)) (maybe_one (word text) (token_one _ _ _ _)) (maybe_end (word text) (token_end _ _))

exact_unnamed : IsExact (never_refused (maybe_here unnamed))
exact_unnamed = exact_never (maybe_here unnamed) (maybe_one unnamed unnamed_one) (maybe_end unnamed unnamed_end)

-- heads
pub exact_front : IsExact front_part
exact_front =
    exact_then _ _ exact_linkage
    (exact_then _ _ (exact_maybe_word (codes "dso_local")) (exact_then _ _ exact_convention (exact_then _ _ exact_attributes (exact_then _ _ exact_type exact_global))))

pub exact_back : IsExact back_part
exact_back =
    exact_then _ _ exact_unnamed
    (record {
      one = function_attributes_one;
      none = λ tokens rest refusal s d. function_attributes_none tokens refusal s rest d;
      ends = function_attributes_end;
    })

pub exact_head : IsExact head_part
exact_head = exact_then _ _ exact_front (exact_then _ _ (exact_mark 40) (exact_then _ _ exact_params exact_back))

pub exact_declaration : IsExact declaration_part
exact_declaration = exact_then _ _ (exact_word (codes "declare")) exact_head

exact_attachments : IsExact attachments_part
exact_attachments = record {
  one = λ tokens a b d e. attachments_one d.0 e.0 tokens a b d.1 e.1;
  none = λ tokens rest refusal s d. attachments_none tokens refusal s d.0 rest d.1;
  ends = λ tokens rest d. attachments_end d.0 tokens rest d.1;
}

behind_define : Part
behind_define = head_part then attachments_part then mark_part 123

exact_behind_define : IsExact behind_define
unfolding behind_define
exact_behind_define = exact_then _ _ exact_head (exact_then _ _ exact_attachments (exact_mark 123))

pub exact_definition : IsExact definition_part
unfolding behind_define
exact_definition = exact_then _ _ (exact_word (codes "define")) exact_behind_define

-- what is read is such a part
name_is_part : (start : Option ℕ) (byte : ℕ) (names : List NameText) (name : Option Name) (tokens rest : List Lexeme) → name_here start byte names name tokens rest → name_part.begins tokens rest
name_is_part start byte names None tokens rest (inl d) = absurd d
name_is_part start byte names (Some name) tokens rest (inl d) = inl (names, name, d)
name_is_part start byte names name tokens rest (inr (_, same, none)) = inr (same, none)

pub param_is_part : (start : Option ℕ) (names : List NameText) (p : Param) (tokens rest : List Lexeme) → param_here start names p tokens rest → param_part.begins tokens rest
unfolding ◌>>◌
param_is_part start names p tokens rest (m, type, (n, attributes, name)) =
    (m, (names, p.ty, type), (n, (names, p.attributes, attributes), name_is_part start _ names p.name n rest name))

pub times_next : (start end : Option ℕ) (names : List NameText) (ps : List Param) (tokens rest : List Lexeme) → params_behind start end names ps tokens rest → (count : ℕ) × times count next_part.begins tokens rest
unfolding ◌>>◌
times_next start end names [] tokens rest (_, same) = (zero, same)
times_next start end names (p ∷ ps) tokens rest (m, comma, (n, param, more)) =
    let others = times_next (numbering_behind names p.name start) end names ps n rest more in
    (suc others.0, (n, (m, comma, param_is_part start names p m n param), others.1))

pub all_is_part : (start end : Option ℕ) (names : List NameText) (ps : List Param) (tokens rest : List Lexeme) → all_params start end names ps tokens rest → some_part.begins tokens rest
unfolding ◌>>◌
all_is_part start end names [] tokens rest (none, _) = absurd none
all_is_part start end names (p ∷ ps) tokens rest ((m, param, more), nowhere) =
    let others = times_next (numbering_behind names p.name start) end names ps m rest more in
    (m, param_is_part start names p tokens m param, (others.0, others.1, nowhere))

pub params_is_part : (start end : Option ℕ) (names : List NameText) (ps : List Param) (tokens rest : List Lexeme) → params_here start end names ps tokens rest → params_part.begins tokens rest
unfolding ◌>>◌
params_is_part start end names [] tokens rest (_, close) = inl close
params_is_part start end names (p ∷ ps) tokens rest (nowhere, (m, all, close)) = inr (nowhere, (m, all_is_part start end names (p ∷ ps) tokens m all, close))

pub front_is_part : (names : List NameText) (f : Front) (tokens rest : List Lexeme) → front_here names f tokens rest → front_part.begins tokens rest
unfolding ◌>>◌
front_is_part names f tokens rest (m, linkage, (n, dso, (p, convention, (q, attributes, (r, type, name))))) =
    (m, (f.linkage, linkage), (n, dso, (p, (f.is_kernel, convention), (q, (names, f.attributes, attributes), (r, (names, f.ty, type), (names, f.name, name))))))

pub head_is_part : (start end : Option ℕ) (names : List NameText) (h : Head) (tokens rest : List Lexeme) → head_here start end names h tokens rest → head_part.begins tokens rest
unfolding ◌>>◌
head_is_part start end names h tokens rest (m, front, (n, bracket, (p, params, back))) =
    (m, front_is_part names (front_of h) tokens m front, (n, bracket, (p, params_is_part start end names h.params n p params, back)))

plain_word : (text : List ℕ) (byte : ℕ) (tokens rest : List Lexeme) → placed_word text byte tokens rest → word text tokens rest
plain_word text byte tokens rest (l, is, kind, (same, _)) = (l, is, kind, same)

pub declaration_is_part : (names : List NameText) (h : Head) (tokens rest : List Lexeme) → declaration_here names h tokens rest → declaration_part.begins tokens rest
unfolding ◌>>◌
declaration_is_part names h tokens rest (m, first, head) = (m, plain_word _ _ tokens m first, head_is_part None None names h m rest head)

pub definition_is_part : (names : List NameText) (d : DefinitionStart) (tokens rest : List Lexeme) → definition_start_here names d tokens rest → definition_part.begins tokens rest
unfolding ◌>>◌
definition_is_part names d tokens rest (attachments, kept, (m, first, (n, head, (p, all, brace)))) =
    (m, plain_word _ _ tokens m first, (n, head_is_part (Some 0) (Some d.next) names d.head m n head, (p, (attachments, all), brace)))

-- what is left is shorter
pub param_shortens : (start : Option ℕ) (names : List NameText) (p : Param) → Shortens (param_here start names p)
unfolding ◌>>◌
param_shortens start names p tokens rest (m, type, (n, attributes, name)) =
    seq_shortens _ (attributes_part.begins >> name_part.begins) (type_shortens names p.ty) (seq_ends attributes_part.begins name_part.begins exact_attributes.ends exact_name.ends)
    tokens rest (m, type, (n, (names, p.attributes, attributes), name_is_part start _ names p.name n rest name))

pub next_shortens : (start end : Option ℕ) (names : List NameText) (p : Param) → Shortens (next_param start end names p)
unfolding ◌>>◌
next_shortens start end names p tokens rest (m, comma, (param, _)) =
    seq_shortens (mark 44) (param_here start names p) (token_shortens _ _) (λ ts r d. (param_shortens start names p ts r d).ends) tokens rest (m, comma, param)

pub declaration_one : (names other : List NameText) (h g : Head) → LeaveOne (declaration_here names h) (declaration_here other g)
declaration_one names other h g tokens a b d e = exact_declaration.one tokens a b (declaration_is_part names h tokens a d) (declaration_is_part other g tokens b e)

pub definition_one : (names other : List NameText) (d e : DefinitionStart) → LeaveOne (definition_start_here names d) (definition_start_here other e)
definition_one names other d e tokens a b x y = exact_definition.one tokens a b (definition_is_part names d tokens a x) (definition_is_part other e tokens b y)

pub declaration_shortens : (names : List NameText) (h : Head) → Shortens (declaration_here names h)
declaration_shortens names h tokens rest d =
    seq_shortens _ head_part.begins (token_shortens _ _) exact_head.ends tokens rest (declaration_is_part names h tokens rest d)

pub definition_shortens : (names : List NameText) (d : DefinitionStart) → Shortens (definition_start_here names d)
unfolding behind_define
definition_shortens names d tokens rest x =
    seq_shortens _ behind_define.begins (token_shortens _ _) exact_behind_define.ends tokens rest (definition_is_part names d tokens rest x)
