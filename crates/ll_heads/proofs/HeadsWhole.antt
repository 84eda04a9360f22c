-- Heads of the grammar are those that are read, and what is read is of the grammar.
use Rattle.std.proofs.Common.{◌≡◌, ℕ, List, [], ◌∷◌, codes, flat_map, Option, None, Some, refl, sym, ap, subst, inl, inr, unwrap_or, arith}
use Rattle.ll_tokens.specs.declared.kinds.TokenKind.TheVariants.{Attr, Global as GlobalToken, MdName, Punct, Str, Word}
use Rattle.ll_tokens.specs.Tokens.{Lexeme}
use Rattle.inst_walk.specs.declared.body.Body.{Body}
use Rattle.ll_tree.specs.declared.inst.Inst.{Inst}
use Rattle.ll_tree.specs.declared.module.Function.{Function}
use Rattle.ll_tree.specs.declared.module.Head.{Head}
use Rattle.ll_tree.specs.declared.module.NodeRef.{NodeRef}
use Rattle.ll_tree.specs.declared.module.Param.{Param}
use Rattle.ll_tree.specs.declared.name.NameText.{NameText}
use Rattle.ll_parser.specs.GrammarAttributes.{any_function_attributes, attachment, attribute, function_attribute}
use Rattle.ll_parser.specs.GrammarFunctions.{next_after}
use Rattle.ll_parser.specs.GrammarItems.{convention, declaration, defined_params, definition, head, linkage, number_of, unnamed, written_param}
use Rattle.ll_parser.specs.GrammarTypes.{ty}
use Rattle.ll_parser.specs.GrammarValues.{global}
use Rattle.ll_parser.specs.NameReading.{any_of}
use Rattle.ll_parser.specs.Pointers.{NoPointer}
use Rattle.ll_parser.specs.Productions.{Production, ◌>>◌, each, listed, mark, maybe, word}
use Rattle.ll_parser.specs.Reading.{EndsNowhere}
use Rattle.ll_types.proofs.Tokens.{kinds_apart, marks_apart}
use Rattle.ll_attributes.proofs.AttributeFacts.{attributes_right, attributes_whole}
use Rattle.ll_attributes.proofs.FunctionFacts.{function_attributes_right, function_attributes_whole, no_function_attribute_at, no_function_attribute_at_word}
use Rattle.ll_attributes.proofs.HeadFacts.{convention_right, convention_whole, linkage_right, linkage_whole, maybe_right, maybe_whole}
use Rattle.ll_attributes.proofs.ListEnds.{type_no_attribute}
use Rattle.ll_heads.specs.declared.definitions.DefinitionStart.{DefinitionStart}
use Rattle.ll_heads.specs.declared.heads.Front.{Front}
use Rattle.ll_heads.specs.Definitions.{body_behind, definition_start, definition_start_here, start_of}
use Rattle.ll_heads.specs.Heads.{EndsHead, back_here, declaration_here, front_here, front_of, head_here}
use Rattle.ll_heads.specs.Params.{params_here}
use Rattle.ll_heads.proofs.ParamsWhole.{defined_params_right, defined_params_whole, written_params_right, written_params_whole}
use Rattle.ll_heads.proofs.WordsBefore.{at_attributes, at_convention, at_maybe, dso_local_begins_nothing, internal_begins_nothing, private_begins_nothing, spir_func_begins_nothing, spir_kernel_begins_nothing, type_no_mark}

-- what stands before the parameters
global_no_pointer : (names : List NameText) (f : Front) (tokens rest : List Lexeme) → global names f.name tokens rest → NoPointer tokens
global_no_pointer names f tokens rest d = record {
  no_space = λ b w. kinds_apart GlobalToken Word _ _ tokens rest b (λ e. cc) d w;
  no_star = λ b k. kinds_apart GlobalToken Punct _ _ tokens rest b (λ e. cc) d k;
}

front_whole : (names : List NameText) (f : Front) (tokens m n p q r rest : List Lexeme) → linkage f.linkage tokens m → maybe (word (codes "dso_local")) m n → convention names f.is_kernel n p → each (attribute names) f.attributes p q → ty names f.ty q r → global names f.name r rest → front_here names f tokens rest
unfolding ◌>>◌
front_whole names f tokens m n p q r rest link dso conv attributes (k, base, pointers) name =
    let type : ty names f.ty q r = (k, base, pointers) in
    let at_type : EndsNowhere (mark 40) q = type_no_mark 40 (λ e. omega arith) (λ e. omega arith) (λ e. omega arith) names f.ty q r type in
    let no_kernel = at_attributes (codes "spir_kernel") spir_kernel_begins_nothing names f.attributes f.ty p q r attributes type in
    let no_function = at_attributes (codes "spir_func") spir_func_begins_nothing names f.attributes f.ty p q r attributes type in
    let no_dso = at_convention (codes "dso_local") dso_local_begins_nothing names f.is_kernel f.attributes f.ty n p q r refl refl conv attributes type in
    let no_internal = at_maybe (codes "internal") (codes "dso_local") m n refl dso (at_convention (codes "internal") internal_begins_nothing names f.is_kernel f.attributes f.ty n p q r refl refl conv attributes type) in
    let no_private = at_maybe (codes "private") (codes "dso_local") m n refl dso (at_convention (codes "private") private_begins_nothing names f.is_kernel f.attributes f.ty n p q r refl refl conv attributes type) in (
      m,
      linkage_whole f.linkage tokens m link no_internal no_private,
      (
        n,
        maybe_whole (word (codes "dso_local")) m n dso no_dso,
        (
          p,
          convention_whole names f.is_kernel n p conv no_kernel no_function,
          (
            q,
            attributes_whole names f.attributes p q attributes (type_no_attribute names f.ty.base q k base) at_type,
            (r, (type, global_no_pointer names f r rest name), name),
          ),
        ),
      ),
    )

-- what stands behind them
unnamed_differs : (tokens a b : List Lexeme) → function_attribute tokens a → unnamed tokens b → ⊥
unfolding ◌>>◌
unnamed_differs tokens a b (inl group) (inl w) = kinds_apart Attr Word _ _ tokens a b (λ e. cc) group w
unnamed_differs tokens a b (inl group) (inr w) = kinds_apart Attr Word _ _ tokens a b (λ e. cc) group w
unnamed_differs tokens a b (inr (inl (k, text, _))) (inl w) = kinds_apart Str Word _ _ tokens k b (λ e. cc) text w
unnamed_differs tokens a b (inr (inl (k, text, _))) (inr w) = kinds_apart Str Word _ _ tokens k b (λ e. cc) text w
unnamed_differs tokens a b (inr (inr attribute)) (inl w) = (no_function_attribute_at_word (codes "unnamed_addr") tokens b refl w).no_word a attribute
unnamed_differs tokens a b (inr (inr attribute)) (inr w) = (no_function_attribute_at_word (codes "local_unnamed_addr") tokens b refl w).no_word a attribute

no_unnamed : (count : List (Unit {0})) (tokens rest : List Lexeme) → each (λ _. function_attribute) count tokens rest → EndsNowhere unnamed rest → EndsNowhere unnamed tokens
unfolding ◌>>◌
no_unnamed [] tokens rest same nowhere b w = subst (EndsNowhere unnamed) (sym same) nowhere b w
no_unnamed (x ∷ xs) tokens rest (k, first, _) nowhere b w = unnamed_differs tokens k b first w

back_whole : (tokens middle rest : List Lexeme) → maybe unnamed tokens middle → any_function_attributes middle rest → EndsHead rest → back_here tokens rest
unfolding ◌>>◌
back_whole tokens middle rest u attributes ends =
    (middle, maybe_whole unnamed tokens middle u (no_unnamed attributes.0 middle rest attributes.1 ends.no_unnamed), function_attributes_whole middle rest attributes ends.no_attribute ends.no_value)

back_right : (tokens rest : List Lexeme) → back_here tokens rest → (middle : List Lexeme) × maybe unnamed tokens middle × any_function_attributes middle rest
unfolding ◌>>◌
back_right tokens rest (middle, u, attributes) = (middle, maybe_right unnamed tokens middle u, function_attributes_right middle rest attributes)

-- heads
module _ (params : List Param → Production) (start end : Option ℕ) (names : List NameText) (h : Head) where
  head_whole : ((tokens close rest : List Lexeme) → params h.params tokens close → mark 41 close rest → params_here start end names h.params tokens rest) → (tokens rest : List Lexeme) → head names params h tokens rest → EndsHead rest → head_here start end names h tokens rest
  unfolding ◌>>◌
  head_whole list tokens rest (m, link, (n, dso, (p, conv, (q, attributes, (r, type, (s, name, (t, bracket, (u, ps, (v, close, (w, x, y)))))))))) ends =
      (s, front_whole names (front_of h) tokens m n p q r s link dso conv attributes type name, (t, bracket, (v, list t u v ps close, back_whole v w rest x y ends)))

  head_right : ((tokens rest : List Lexeme) → params_here start end names h.params tokens rest → (close : List Lexeme) × params h.params tokens close × mark 41 close rest) → (tokens rest : List Lexeme) → head_here start end names h tokens rest → head names params h tokens rest
  unfolding ◌>>◌
  head_right list tokens rest (s, (m, link, (n, dso, (p, conv, (q, attributes, (r, (type, _), name))))), (t, bracket, (v, ps, back))) =
      let listing = list t v ps in
      let behind = back_right v rest back in (
        m,
        linkage_right h.linkage tokens m link,
        (
          n,
          maybe_right (word (codes "dso_local")) m n dso,
          (
            p,
            convention_right names h.is_kernel n p conv,
            (
              q,
              attributes_right names h.attributes p q attributes,
              (r, type, (s, name, (t, bracket, (listing.0, listing.1, (v, listing.2, (behind.0, behind.1, behind.2)))))),
            ),
          ),
        ),
      )

pub declaration_whole : (names : List NameText) (h : Head) (tokens rest : List Lexeme) → declaration names h tokens rest → EndsHead rest → declaration_here names h tokens rest
unfolding ◌>>◌
declaration_whole names h tokens rest (m, first, d) ends =
    (m, first, head_whole (listed (written_param names)) None None names h (written_params_whole names h.params) m rest d ends)

pub declaration_right : (names : List NameText) (h : Head) (tokens rest : List Lexeme) → declaration_here names h tokens rest → declaration names h tokens rest
unfolding ◌>>◌
declaration_right names h tokens rest (m, first, d) =
    (m, first, head_right (listed (written_param names)) None None names h (written_params_right None names h.params) m rest d)

-- definitions
brace_ends_head : (tokens rest : List Lexeme) → mark 123 tokens rest → EndsHead tokens
brace_ends_head tokens rest m = record {
  no_unnamed = brace_no_unnamed;
  no_attribute = no_function_attribute_at Punct _ tokens rest (λ e. cc) (λ e. cc) (λ e. cc) m;
  no_value = λ b k. marks_apart 123 61 tokens rest b (λ e. omega arith) m k;
}
  where
    brace_no_unnamed : (b : List Lexeme) → unnamed tokens b → ⊥
    brace_no_unnamed b (inl w) = kinds_apart Punct Word _ _ tokens rest b (λ e. cc) m w
    brace_no_unnamed b (inr w) = kinds_apart Punct Word _ _ tokens rest b (λ e. cc) m w

name_ends_head : (tokens rest : List Lexeme) → any_of MdName tokens rest → EndsHead tokens
name_ends_head tokens rest name = record {
  no_unnamed = name_no_unnamed;
  no_attribute = no_function_attribute_at MdName _ tokens rest (λ e. cc) (λ e. cc) (λ e. cc) name;
  no_value = λ b k. kinds_apart MdName Punct _ _ tokens rest b (λ e. cc) name k;
}
  where
    name_no_unnamed : (b : List Lexeme) → unnamed tokens b → ⊥
    name_no_unnamed b (inl w) = kinds_apart MdName Word _ _ tokens rest b (λ e. cc) name w
    name_no_unnamed b (inr w) = kinds_apart MdName Word _ _ tokens rest b (λ e. cc) name w

attachments_end_head : (xs : List (List ℕ × NodeRef)) (tokens close rest : List Lexeme) → each attachment xs tokens close → mark 123 close rest → EndsHead tokens
unfolding ◌>>◌
attachments_end_head [] tokens close rest same brace = subst EndsHead (sym same) (brace_ends_head close rest brace)
attachments_end_head (x ∷ xs) tokens close rest (k, (j, (l, is, kind, _), _), _) brace = name_ends_head tokens j (l, is, kind, tt)

brace_no_name : (tokens rest : List Lexeme) → mark 123 tokens rest → EndsNowhere (any_of MdName) tokens
brace_no_name tokens rest m b name = kinds_apart Punct MdName _ _ tokens rest b (λ e. cc) m name

pub definition_whole : (names : List NameText) (d : DefinitionStart) (tokens rest : List Lexeme) → definition_start names d tokens rest → definition_start_here names d tokens rest
unfolding ◌>>◌
definition_whole names d tokens rest (xs, kept, number, (m, first, (n, h, (p, all, brace)))) =
    let there = head_whole (defined_params names) (Some 0) (Some (next_after names (flat_map (number_of names) d.head.params) 0)) names d.head (defined_params_whole names d.head.params) m n h (attachments_end_head xs n p rest all brace) in (
      xs,
      kept,
      (
        m,
        first,
        (
          n,
          subst (λ (x : ℕ). head_here (Some 0) (Some x) names d.head m n) (sym number) there,
          (p, record { items = all; all = brace_no_name p rest brace }, brace),
        ),
      ),
    )

head_counts : (next : ℕ) (names : List NameText) (h : Head) (tokens rest : List Lexeme) → head_here (Some 0) (Some next) names h tokens rest → next ≡ next_after names (flat_map (number_of names) h.params) 0
unfolding ◌>>◌
head_counts next names h tokens rest (s, front, (t, bracket, (v, ps, back))) =
    let read = defined_params_right (Some next) names h.params t v ps in
    ap (λ (o : Option ℕ). unwrap_or o 0) read.3

defined_list : (end : Option ℕ) (names : List NameText) (ps : List Param) (tokens rest : List Lexeme) → params_here (Some 0) end names ps tokens rest → (close : List Lexeme) × defined_params names ps tokens close × mark 41 close rest
defined_list end names ps tokens rest d = let read = defined_params_right end names ps tokens rest d in (read.0, read.1, read.2)

pub definition_right : (names : List NameText) (d : DefinitionStart) (tokens rest : List Lexeme) → definition_start_here names d tokens rest → definition_start names d tokens rest
unfolding ◌>>◌
definition_right names d tokens rest (xs, kept, (m, first, (n, h, (p, all, brace)))) = (
  xs,
  kept,
  head_counts d.next names d.head m n h,
  (m, first, (n, head_right (defined_params names) (Some 0) (Some d.next) names d.head (defined_list (Some d.next) names d.head.params) m n h, (p, all.items, brace))),
)

-- a definition of the grammar is its front and its body
pub front_of_definition : (names : List NameText) (f : Function) (b : Body Inst ℕ) (tokens rest : List Lexeme) → definition names f b tokens rest → (middle : List Lexeme) × definition_start names (start_of f (next_after names b.params 0)) tokens middle × body_behind names f b middle rest
unfolding ◌>>◌
front_of_definition names f b tokens rest (xs, kept, numbers, some, (m, first, (n, h, (p, all, (q, brace, body))))) = (
  q,
  (
    xs,
    record { arg_type = kept.arg_type; required = kept.required; hint = kept.hint },
    ap (λ (ns : List ℕ). next_after names ns 0) numbers,
    (m, first, (n, h, (p, all, brace))),
  ),
  body,
)

pub definition_of_front : (names : List NameText) (f : Function) (b : Body Inst ℕ) (tokens middle rest : List Lexeme) → b.params ≡ flat_map (number_of names) f.head.params → (f.labels ≡ [] → ⊥) → definition_start names (start_of f (next_after names b.params 0)) tokens middle → body_behind names f b middle rest → definition names f b tokens rest
unfolding ◌>>◌
definition_of_front names f b tokens middle rest numbers some (xs, kept, _, (m, first, (n, h, (p, all, brace)))) body = (
  xs,
  record { arg_type = kept.arg_type; required = kept.required; hint = kept.hint },
  numbers,
  some,
  (m, first, (n, h, (p, all, (middle, brace, body)))),
)
