-- Parameters of the grammar are those that are read, and what is read is of the grammar.
use Rattle.std.proofs.Common.{◌≡◌, ℕ, ◌<◌, List, [], ◌∷◌, ◌++◌, map, flat_map, length, Option, None, Some, option_to_list, refl, sym, ap, ◌∙◌, subst, inl, inr, arith}
use Rattle.ll_tokens.specs.declared.kinds.TokenKind.TheVariants.{Local as LocalToken, Punct, Word}
use Rattle.ll_tokens.specs.Tokens.{Lexeme}
use Rattle.ll_tree.specs.declared.module.Param.{Param}
use Rattle.ll_tree.specs.declared.name.Name.{Name}
use Rattle.ll_tree.specs.declared.name.NameText.{NameText}
use Rattle.ll_parser.specs.GrammarAttributes.{attribute}
use Rattle.ll_parser.specs.GrammarFunctions.{next_after}
use Rattle.ll_parser.specs.GrammarItems.{defined_param, defined_params, defined_params_behind, number_of, param_name, written_param}
use Rattle.ll_parser.specs.GrammarTypes.{ty}
use Rattle.ll_parser.specs.GrammarValues.{local}
use Rattle.ll_parser.specs.NameReading.{any_of}
use Rattle.ll_parser.specs.Pointers.{NoPointer}
use Rattle.ll_parser.specs.Productions.{◌>>◌, each, each_behind_comma, if_there, listed, mark}
use Rattle.ll_parser.specs.Reading.{EndsNowhere}
use Rattle.ll_types.proofs.Tokens.{kinds_apart, mark_no_pointer, marks_apart}
use Rattle.ll_attributes.specs.AttributeParts.{NoAttribute}
use Rattle.ll_attributes.proofs.AttributeFacts.{attributes_right, attributes_whole, no_attribute_at_token}
use Rattle.ll_attributes.proofs.ListEnds.{attributes_no_pointer, no_attribute_at_mark}
use Rattle.ll_heads.specs.Params.{first_place, name_here, numbering_behind, param_at, param_here, params_behind, params_here}
use Rattle.ll_heads.proofs.HeadExact.{param_shortens}
use Rattle.ll_heads.proofs.WordsBefore.{type_no_mark}

-- neither a type nor attributes go on with the tokens
record EndsType (tokens : List Lexeme) : Type 0 where
  no_pointer : NoPointer tokens
  no_attribute : NoAttribute tokens
  no_bracket : EndsNowhere (mark 40) tokens

-- nor does a parameter
record EndsParam (tokens : List Lexeme) : Type 0 where
  ends_type : EndsType tokens
  no_name : EndsNowhere (any_of LocalToken) tokens

ends_param : (code : ℕ) (tokens rest : List Lexeme) → (code ≡ 42 → ⊥) → (code ≡ 40 → ⊥) → mark code tokens rest → EndsParam tokens
ends_param code tokens rest no_star no_open m = record {
  ends_type = record {
    no_pointer = mark_no_pointer code tokens rest no_star m;
    no_attribute = no_attribute_at_mark code tokens rest m;
    no_bracket = λ b k. marks_apart code 40 tokens rest b no_open m k;
  };
  no_name = λ b n. kinds_apart Punct LocalToken _ _ tokens rest b (λ e. cc) m n;
}

name_ends_type : (names : List NameText) (n : Name) (tokens rest : List Lexeme) → local names n tokens rest → EndsType tokens
name_ends_type names n tokens rest d = record {
  no_pointer = record {
    no_space = λ b w. kinds_apart LocalToken Word _ _ tokens rest b (λ e. cc) d w;
    no_star = λ b k. kinds_apart LocalToken Punct _ _ tokens rest b (λ e. cc) d k;
  };
  no_attribute = no_attribute_at_token LocalToken _ tokens rest (λ e. cc) d;
  no_bracket = λ b k. kinds_apart LocalToken Punct _ _ tokens rest b (λ e. cc) d k;
}

-- names
record NameIsRead (start : Option ℕ) (byte : ℕ) (names : List NameText) (name : Option Name) (tokens rest : List Lexeme) : Type 0 where
  ends_type : EndsType tokens
  here : name_here start byte names name tokens rest

written_name_whole : (byte : ℕ) (names : List NameText) (name : Option Name) (tokens rest : List Lexeme) → if_there (local names) name tokens rest → EndsParam rest → NameIsRead None byte names name tokens rest
written_name_whole byte names None tokens rest same ends = record {
  ends_type = subst EndsType (sym same) ends.ends_type;
  here = inr (tt, same, subst (EndsNowhere (any_of LocalToken)) (sym same) ends.no_name);
}
written_name_whole byte names (Some n) tokens rest d ends = record { ends_type = name_ends_type names n tokens rest d; here = inl d }

defined_name_whole : (next byte : ℕ) (names : List NameText) (name : Option Name) (tokens rest : List Lexeme) → param_name names next byte name tokens rest → EndsParam rest → NameIsRead (Some next) byte names name tokens rest
defined_name_whole next byte names None tokens rest none ends = absurd none
defined_name_whole next byte names (Some n) tokens rest (inl d) ends = record { ends_type = name_ends_type names n tokens rest d; here = inl d }
defined_name_whole next byte names (Some n) tokens rest (inr (number, place, same)) ends = record {
  ends_type = subst EndsType (sym same) ends.ends_type;
  here = inr ((number, place), same, subst (EndsNowhere (any_of LocalToken)) (sym same) ends.no_name);
}

-- parameters
param_whole : (start : Option ℕ) (byte : ℕ) (names : List NameText) (p : Param) (tokens a b rest : List Lexeme) → ty names p.ty tokens a → each (attribute names) p.attributes a b → NameIsRead start byte names p.name b rest → param_at start byte names p tokens rest
unfolding ◌>>◌
param_whole start byte names p tokens a b rest type attributes read =
    let ends = read.ends_type in
    (a, (type, attributes_no_pointer names p.attributes a b attributes ends.no_pointer), (b, attributes_whole names p.attributes a b attributes ends.no_attribute ends.no_bracket, read.here))

written_whole : (names : List NameText) (p : Param) (tokens rest : List Lexeme) → written_param names p tokens rest → EndsParam rest → param_here None names p tokens rest
unfolding ◌>>◌
written_whole names p tokens rest (a, type, (b, attributes, name)) ends =
    param_whole None (first_place tokens) names p tokens a b rest type attributes (written_name_whole (first_place tokens) names p.name b rest name ends)

defined_whole : (next : ℕ) (names : List NameText) (p : Param) (tokens rest : List Lexeme) → defined_param names next p tokens rest → EndsParam rest → param_here (Some next) names p tokens rest
unfolding ◌>>◌
defined_whole next names p [] rest none ends = absurd none
defined_whole next names p (first ∷ tokens) rest (a, type, (b, attributes, name)) ends =
    param_whole (Some next) first.byte names p (first ∷ tokens) a b rest type attributes (defined_name_whole next first.byte names p.name b rest name ends)

at_close : (tokens rest : List Lexeme) → mark 41 tokens rest → EndsParam tokens
at_close tokens rest m = ends_param 41 tokens rest (λ e. omega arith) (λ e. omega arith) m

at_comma : (tokens rest : List Lexeme) → mark 44 tokens rest → EndsParam tokens
at_comma tokens rest m = ends_param 44 tokens rest (λ e. omega arith) (λ e. omega arith) m

close_no_comma : (tokens rest : List Lexeme) → mark 41 tokens rest → EndsNowhere (mark 44) tokens
close_no_comma tokens rest m b k = marks_apart 41 44 tokens rest b (λ e. omega arith) m k

-- of a declaration
written_behind_ends : (names : List NameText) (ps : List Param) (tokens close rest : List Lexeme) → each_behind_comma (written_param names) ps tokens close → mark 41 close rest → EndsParam tokens
unfolding ◌>>◌
written_behind_ends names [] tokens close rest same m = subst EndsParam (sym same) (at_close close rest m)
written_behind_ends names (p ∷ ps) tokens close rest (k, comma, _) m = at_comma tokens k comma

written_behind : (names : List NameText) (ps : List Param) (tokens close rest : List Lexeme) → each_behind_comma (written_param names) ps tokens close → mark 41 close rest → params_behind None None names ps tokens close
unfolding ◌>>◌
written_behind names [] tokens close rest same m = (refl, same)
written_behind names (p ∷ ps) tokens close rest (k, comma, (l, param, more)) m =
    (k, comma, (l, written_whole names p k l param (written_behind_ends names ps l close rest more m), written_behind names ps l close rest more m))

written_no_close : (names : List NameText) (p : Param) (tokens rest : List Lexeme) → written_param names p tokens rest → EndsNowhere (mark 41) tokens
unfolding ◌>>◌
written_no_close names p tokens rest (a, type, _) = type_no_mark 41 (λ e. omega arith) (λ e. omega arith) (λ e. omega arith) names p.ty tokens a type

pub written_params_whole : (names : List NameText) (ps : List Param) (tokens close rest : List Lexeme) → listed (written_param names) ps tokens close → mark 41 close rest → params_here None None names ps tokens rest
unfolding ◌>>◌
written_params_whole names [] tokens close rest same m = (refl, subst (λ ls. mark 41 ls rest) (sym same) m)
written_params_whole names (p ∷ ps) tokens close rest (l, param, more) m = (
  written_no_close names p tokens l param,
  (
    close,
    (
      (l, written_whole names p tokens l param (written_behind_ends names ps l close rest more m), written_behind names ps l close rest more m),
      close_no_comma close rest m,
    ),
    m,
  ),
)

-- of a definition
numbering_is : (names : List NameText) (name : Option Name) (next : ℕ) → numbering_behind names name (Some next) ≡ Some (next_after names (map (λ (n : Name). n.number) (option_to_list name)) next)
numbering_is names None next = refl
numbering_is names (Some name) next = refl

numbers_join : (names : List NameText) (name : Option Name) (others : List ℕ) (next : ℕ) → next_after names (map (λ (n : Name). n.number) (option_to_list name) ++ others) next ≡ next_after names others (next_after names (map (λ (n : Name). n.number) (option_to_list name)) next)
numbers_join names None others next = refl
numbers_join names (Some name) others next = refl

defined_behind_ends : (next : ℕ) (names : List NameText) (ps : List Param) (tokens close rest : List Lexeme) → defined_params_behind names next ps tokens close → mark 41 close rest → EndsParam tokens
unfolding ◌>>◌
defined_behind_ends next names [] tokens close rest same m = subst EndsParam (sym same) (at_close close rest m)
defined_behind_ends next names (p ∷ ps) tokens close rest (k, comma, _) m = at_comma tokens k comma

goes_on : (next : ℕ) (names : List NameText) (p : Param) (ps : List Param) (tokens rest : List Lexeme) → params_behind (Some (next_after names (number_of names p) next)) (Some (next_after names (flat_map (number_of names) ps) (next_after names (number_of names p) next))) names ps tokens rest → params_behind (numbering_behind names p.name (Some next)) (Some (next_after names (flat_map (number_of names) (p ∷ ps)) next)) names ps tokens rest
goes_on next names p ps tokens rest d =
    subst (λ (s : Option ℕ). params_behind s (Some (next_after names (flat_map (number_of names) (p ∷ ps)) next)) names ps tokens rest) (sym (numbering_is names p.name next))
    (subst (λ (n : ℕ). params_behind (Some (next_after names (number_of names p) next)) (Some n) names ps tokens rest) (sym (numbers_join names p.name (flat_map (number_of names) ps) next)) d)

defined_behind : (next : ℕ) (names : List NameText) (ps : List Param) (tokens close rest : List Lexeme) → defined_params_behind names next ps tokens close → mark 41 close rest → params_behind (Some next) (Some (next_after names (flat_map (number_of names) ps) next)) names ps tokens close
unfolding ◌>>◌
defined_behind next names [] tokens close rest same m = (refl, same)
defined_behind next names (p ∷ ps) tokens close rest (k, comma, (l, param, more)) m = (
  k,
  comma,
  (
    l,
    defined_whole next names p k l param (defined_behind_ends (next_after names (number_of names p) next) names ps l close rest more m),
    goes_on next names p ps l close (defined_behind (next_after names (number_of names p) next) names ps l close rest more m),
  ),
)

defined_no_close : (next : ℕ) (names : List NameText) (p : Param) (tokens rest : List Lexeme) → defined_param names next p tokens rest → EndsNowhere (mark 41) tokens
unfolding ◌>>◌
defined_no_close next names p [] rest none = absurd none
defined_no_close next names p (first ∷ tokens) rest (a, type, _) = type_no_mark 41 (λ e. omega arith) (λ e. omega arith) (λ e. omega arith) names p.ty (first ∷ tokens) a type

pub defined_params_whole : (names : List NameText) (ps : List Param) (tokens close rest : List Lexeme) → defined_params names ps tokens close → mark 41 close rest → params_here (Some 0) (Some (next_after names (flat_map (number_of names) ps) 0)) names ps tokens rest
unfolding ◌>>◌
defined_params_whole names [] tokens close rest same m = (refl, subst (λ ls. mark 41 ls rest) (sym same) m)
defined_params_whole names (p ∷ ps) tokens close rest (l, param, more) m = (
  defined_no_close 0 names p tokens l param,
  (
    close,
    (
      (
        l,
        defined_whole 0 names p tokens l param (defined_behind_ends (next_after names (number_of names p) 0) names ps l close rest more m),
        goes_on 0 names p ps l close (defined_behind (next_after names (number_of names p) 0) names ps l close rest more m),
      ),
      close_no_comma close rest m,
    ),
    m,
  ),
)

-- what is read is of the grammar
written_name_right : (byte : ℕ) (names : List NameText) (name : Option Name) (tokens rest : List Lexeme) → name_here None byte names name tokens rest → if_there (local names) name tokens rest
written_name_right byte names None tokens rest (inl none) = absurd none
written_name_right byte names None tokens rest (inr (_, same, _)) = same
written_name_right byte names (Some n) tokens rest (inl d) = d
written_name_right byte names (Some n) tokens rest (inr (none, _, _)) = absurd none

defined_name_right : (next byte : ℕ) (names : List NameText) (name : Option Name) (tokens rest : List Lexeme) → name_here (Some next) byte names name tokens rest → param_name names next byte name tokens rest
defined_name_right next byte names None tokens rest (inl none) = none
defined_name_right next byte names None tokens rest (inr (none, _, _)) = none
defined_name_right next byte names (Some n) tokens rest (inl d) = inl d
defined_name_right next byte names (Some n) tokens rest (inr (out, same, _)) = inr (out.0, out.1, same)

written_right : (names : List NameText) (p : Param) (tokens rest : List Lexeme) → param_here None names p tokens rest → written_param names p tokens rest
unfolding ◌>>◌
written_right names p tokens rest (a, (type, _), (b, attributes, name)) =
    (a, type, (b, attributes_right names p.attributes a b attributes, written_name_right (first_place tokens) names p.name b rest name))

no_param : (start : Option ℕ) (names : List NameText) (p : Param) (rest : List Lexeme) → param_here start names p [] rest → ⊥
no_param start names p rest d =
    let less : length rest < 0 = (param_shortens start names p [] rest d).less in
    absurd (omega arith)

defined_right : (next : ℕ) (names : List NameText) (p : Param) (tokens rest : List Lexeme) → param_here (Some next) names p tokens rest → defined_param names next p tokens rest
unfolding ◌>>◌
defined_right next names p [] rest d = no_param (Some next) names p rest d
defined_right next names p (first ∷ tokens) rest (a, (type, _), (b, attributes, name)) =
    (a, type, (b, attributes_right names p.attributes a b attributes, defined_name_right next first.byte names p.name b rest name))

written_behind_right : (end : Option ℕ) (names : List NameText) (ps : List Param) (tokens rest : List Lexeme) → params_behind None end names ps tokens rest → each_behind_comma (written_param names) ps tokens rest
unfolding ◌>>◌
written_behind_right end names [] tokens rest (_, same) = same
written_behind_right end names (p ∷ ps) tokens rest (k, comma, (l, param, more)) =
    (k, comma, (l, written_right names p k l param, written_behind_right end names ps l rest more))

pub written_params_right : (end : Option ℕ) (names : List NameText) (ps : List Param) (tokens rest : List Lexeme) → params_here None end names ps tokens rest → (close : List Lexeme) × listed (written_param names) ps tokens close × mark 41 close rest
unfolding ◌>>◌
written_params_right end names [] tokens rest (_, m) = (tokens, refl, m)
written_params_right end names (p ∷ ps) tokens rest (_, (close, ((l, param, more), _), m)) =
    (close, (l, written_right names p tokens l param, written_behind_right end names ps l close more), m)

numbered_on : (next : ℕ) (end : Option ℕ) (names : List NameText) (p : Param) (ps : List Param) (tokens rest : List Lexeme) → params_behind (numbering_behind names p.name (Some next)) end names ps tokens rest → params_behind (Some (next_after names (number_of names p) next)) end names ps tokens rest
numbered_on next end names p ps tokens rest d = subst (λ (s : Option ℕ). params_behind s end names ps tokens rest) (numbering_is names p.name next) d

defined_behind_right : (next : ℕ) (end : Option ℕ) (names : List NameText) (ps : List Param) (tokens rest : List Lexeme) → params_behind (Some next) end names ps tokens rest → defined_params_behind names next ps tokens rest × (end ≡ Some (next_after names (flat_map (number_of names) ps) next))
unfolding ◌>>◌
defined_behind_right next end names [] tokens rest (is, same) = (same, is)
defined_behind_right next end names (p ∷ ps) tokens rest (k, comma, (l, param, more)) =
    let others = defined_behind_right (next_after names (number_of names p) next) end names ps l rest (numbered_on next end names p ps l rest more) in
    ((k, comma, (l, defined_right next names p k l param, others.0)), others.1 ∙ ap (λ (n : ℕ). Some n) (sym (numbers_join names p.name (flat_map (number_of names) ps) next)))

pub defined_params_right : (end : Option ℕ) (names : List NameText) (ps : List Param) (tokens rest : List Lexeme) → params_here (Some 0) end names ps tokens rest → (close : List Lexeme) × defined_params names ps tokens close × mark 41 close rest × (end ≡ Some (next_after names (flat_map (number_of names) ps) 0))
unfolding ◌>>◌
defined_params_right end names [] tokens rest (is, m) = (tokens, refl, m, is)
defined_params_right end names (p ∷ ps) tokens rest (_, (close, ((l, param, more), _), m)) =
    let others = defined_behind_right (next_after names (number_of names p) 0) end names ps l close (numbered_on 0 end names p ps l close more) in
    (close, (l, defined_right 0 names p tokens l param, others.0), m, others.1 ∙ ap (λ (n : ℕ). Some n) (sym (numbers_join names p.name (flat_map (number_of names) ps) 0)))
