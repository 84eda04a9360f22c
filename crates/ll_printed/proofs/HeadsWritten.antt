-- Parameters and the heads of functions are read as they are written.
use Rattle.std.proofs.Common.{◌≡◌, ℕ, Bool, true, false, List, [], ◌∷◌, ◌++◌, map, drop, Option, None, Some, codes, slice_get, refl, sym, ◌∙◌, ap, ap₂, subst, inl, inr}
use Rattle.std.specs.Prelude.{flat_map, if◌then◌else◌, option_map}
use Rattle.std.specs.Option.{option_to_list}
use Rattle.std.proofs.lemmas.Bool.{false≢true}
use Rattle.ll_tokens.specs.Forms.{has_form}
use Rattle.ll_tokens.specs.Tokens.{Lexeme}
use Rattle.ll_tree.specs.declared.module.Attribute.{Attribute}
use Rattle.ll_tree.specs.declared.module.Head.{Head}
use Rattle.ll_tree.specs.declared.module.Linkage.{Linkage}
use Rattle.ll_tree.specs.declared.module.Linkage.TheVariants.{External, Internal, Private}
use Rattle.ll_tree.specs.declared.module.Param.{Param}
use Rattle.ll_tree.specs.declared.name.Name.{Name}
use Rattle.ll_tree.specs.declared.name.NameKind.TheVariants.{Local as LocalName}
use Rattle.ll_tree.specs.declared.name.NameText.{NameText}
use Rattle.ll_tree.specs.declared.ty.LlType.{LlType}
use Rattle.ll_tree.specs.Modules.{head_changed, param_changed}
use Rattle.ll_tree.specs.Names.{name_unplaced}
use Rattle.ll_parser.specs.GrammarAttributes.{any_function_attributes, attribute}
use Rattle.ll_parser.specs.GrammarFunctions.{IsNumbered, next_after}
use Rattle.ll_parser.specs.GrammarItems.{convention, declaration, defined_param, defined_params, defined_params_behind, head, linkage, number_of, param_name, unnamed, written_param}
use Rattle.ll_parser.specs.GrammarTypes.{ty}
use Rattle.ll_parser.specs.GrammarValues.{global, local}
use Rattle.ll_parser.specs.Productions.{Production, ◌>>◌, each, if_there, listed, mark, maybe}
use Rattle.ll_printed.specs.FunctionPhrases.{attribute_phrase, can_be_written, convention_phrase, head_phrase, linkage_phrase, param_phrase}
use Rattle.ll_printed.specs.ModulePhrases.{declaration_line}
use Rattle.ll_phrases.specs.Phrases.{Empty, ◌&◌, blank, each_behind, each_phrase, list_phrase}
use Rattle.ll_phrases.specs.Texts.{local_phrase}
use Rattle.ll_phrases.specs.TypePhrases.{type_phrase}
use Rattle.ll_phrases.proofs.NameTexts.{IsNamed, is-named}
use Rattle.ll_phrases.proofs.NamesWritten.{global-written, local-named}
use Rattle.ll_phrases.proofs.TypesWritten.{type-written}
use Rattle.ll_phrases.proofs.ValuesWritten.{bare_type}
use Rattle.ll_phrases.proofs.Written.{Fixed, Written, any-written, bare_pair, before-line, behind-blank, comma-then, each-again, fixed-as, fixed-behind-blank, fixed-then, list-again, made, made-at, made-same, mark-fixed, nothing-fixed, nothing-written, pair, then-fixed, word-fixed}
use Rattle.ll_printed.proofs.AttributesWritten.{attribute-written, bare_attribute}
use Rattle.ll_printed.proofs.Begun.{Begun, base-begun, byte_of}
use Rattle.ll_printed.proofs.NamesLeftOut.{numbered-named, spelled-can}
use Rattle.ll_printed.proofs.OpParts.{no_place}

abbrev pub bare_param : Param → Param
bare_param = param_changed name_unplaced no_place

abbrev pub bare_head : Head → Head
bare_head = head_changed name_unplaced no_place

module _ (names : List NameText) where
  -- a parameter's type and attributes
  abbrev typed_attributes : LlType × List Attribute → Production
  typed_attributes z = ty names z.0 >> each (attribute names) z.1

  typed-written : (t : LlType) (xs : List Attribute) (tokens a rest : List Lexeme) → ty names t tokens a → each (attribute names) xs a rest
      → Written false false (bare_pair bare_type (map bare_attribute)) typed_attributes (type_phrase names t & each_phrase (attribute_phrase names) xs) (t, xs)
  typed-written t xs tokens a rest is attributes = pair (type-written names t tokens a is) (each-again (attribute-written names) xs a rest attributes) refl

  -- the same before a name that is written
  name-behind : (t : LlType) (xs : List Attribute) (name : Name) (tokens a b : List Lexeme) → ty names t tokens a → each (attribute names) xs a b → IsNamed names LocalName name.number
      → Written false false (bare_pair bare_type (bare_pair (map bare_attribute) name_unplaced)) (λ (z : LlType × (List Attribute × Name)). ty names z.0 >> each (attribute names) z.1.0 >> local names z.1.1)
      (type_phrase names t & each_phrase (attribute_phrase names) xs & blank & local_phrase names name) (t, (xs, name))
  name-behind t xs name tokens a b is attributes named =
      pair (type-written names t tokens a is) (pair (each-again (attribute-written names) xs a b attributes) (behind-blank (local-named names name named)) refl) refl

  ty-begun : (t : LlType) (tokens rest : List Lexeme) → ty names t tokens rest → Begun tokens
  unfolding ◌>>◌
  ty-begun t tokens rest (m, base, ps) = base-begun names t.base tokens m base

  -- a parameter of tokens that are there
  param-there : (next : ℕ) (p : Param) (tokens rest : List Lexeme) → Begun tokens → (ty names p.ty >> each (attribute names) p.attributes >> param_name names next (byte_of tokens) p.name) tokens rest → defined_param names next p tokens rest
  param-there next p [] rest none d = none
  param-there next p (first ∷ tokens) rest begun d = d

  defined-with : (next : ℕ) (t : LlType) (xs : List Attribute) (name : Name) (tokens a b : List Lexeme) → ty names t tokens a → each (attribute names) xs a b → IsNamed names LocalName name.number
      → Written false false bare_param (defined_param names next) (type_phrase names t & each_phrase (attribute_phrase names) xs & blank & local_phrase names name) (record { ty = t; attributes = xs; name = Some name })
  unfolding ◌>>◌
  defined-with next t xs name tokens a b is attributes named =
      made (λ z. record { ty = z.0; attributes = z.1.0; name = Some z.1.1 }) (λ z. record { ty = z.0; attributes = z.1.0; name = Some z.1.1 }) (λ z. refl)
      (λ z ts rs (m, u, (k, has, l)). param-there next (record { ty = z.0; attributes = z.1.0; name = Some z.1.1 }) ts rs (ty-begun z.0 ts m u) (m, u, (k, has, inl l)))
      (name-behind t xs name tokens a b is attributes named)

  defined-without : (next : ℕ) (t : LlType) (xs : List Attribute) (name : Name) (tokens a b : List Lexeme) → ty names t tokens a → each (attribute names) xs a b → IsNumbered names name.number next
      → Written false false bare_param (defined_param names next) (type_phrase names t & each_phrase (attribute_phrase names) xs & Empty) (record { ty = t; attributes = xs; name = Some name })
  unfolding ◌>>◌
  defined-without next t xs name tokens a b is attributes numbered =
      made-at (record { ty = t; attributes = xs; name = Some name }) (λ ts z. record { ty = z.0; attributes = z.1; name = Some (record { number = name.number; byte = byte_of ts }) })
      (λ z. record { ty = z.0; attributes = z.1; name = Some (name_unplaced name) }) (λ ts z. refl) refl
      (λ z same ts rs (m, u, (k, has, end)).
      param-there next (record { ty = z.0; attributes = z.1; name = Some (record { number = name.number; byte = byte_of ts }) }) ts rs (ty-begun z.0 ts m u) (m, u, (k, has, inr (numbered, refl, end))))
      (pair (type-written names t tokens a is) (then-fixed (each-again (attribute-written names) xs a b attributes) nothing-fixed refl) refl)

  defined-by : (next : ℕ) (t : LlType) (xs : List Attribute) (name : Name) (test : Bool) (tokens a b rest : List Lexeme) (byte : ℕ) → can_be_written (slice_get names name.number) ≡ test → ty names t tokens a → each (attribute names) xs a b
      → param_name names next byte (Some name) b rest
      → Written false false bare_param (defined_param names next) (type_phrase names t & each_phrase (attribute_phrase names) xs & (if test then blank & local_phrase names name else Empty)) (record { ty = t; attributes = xs; name = Some name })
  defined-by next t xs name true tokens a b rest byte can is attributes (inl (l, at, of, (place, spells))) = defined-with next t xs name tokens a b is attributes (is-named names LocalName (drop 1 l.text) name.number spells)
  defined-by next t xs name true tokens a b rest byte can is attributes (inr (numbered, place, same)) = defined-with next t xs name tokens a b is attributes (numbered-named names name.number next can numbered)
  defined-by next t xs name false tokens a b rest byte can is attributes (inl (l, at, of, (place, spells))) = absurd (false≢true (sym can ∙ spelled-can names LocalName (drop 1 l.text) name.number spells))
  defined-by next t xs name false tokens a b rest byte can is attributes (inr (numbered, place, same)) = defined-without next t xs name tokens a b is attributes numbered

  defined-of : (next : ℕ) (t : LlType) (xs : List Attribute) (name : Option Name) (tokens a b rest : List Lexeme) (byte : ℕ) → ty names t tokens a → each (attribute names) xs a b → param_name names next byte name b rest
      → Written false false bare_param (defined_param names next) (param_phrase names (record { ty = t; attributes = xs; name = name })) (record { ty = t; attributes = xs; name = name })
  defined-of next t xs None tokens a b rest byte is attributes none = absurd none
  defined-of next t xs (Some name) tokens a b rest byte is attributes named = defined-by next t xs name (can_be_written (slice_get names name.number)) tokens a b rest byte refl is attributes named

  defined-written : (next : ℕ) (p : Param) (tokens rest : List Lexeme) → defined_param names next p tokens rest → Written false false bare_param (defined_param names next) (param_phrase names p) p
  unfolding ◌>>◌
  defined-written next p [] rest d = absurd d
  defined-written next p (first ∷ tokens) rest (a, is, (b, attributes, named)) = defined-of next p.ty p.attributes p.name (first ∷ tokens) a b rest first.byte is attributes named

  number-bare : (p : Param) → number_of names (bare_param p) ≡ number_of names p
  number-bare p = by p.name
    where
      by : (name : Option Name) → map (λ (n : Name). n.number) (option_to_list (option_map name_unplaced name)) ≡ map (λ (n : Name). n.number) (option_to_list name)
      by None = refl
      by (Some name) = refl

  number-kept : (found p : Param) → bare_param found ≡ bare_param p → number_of names found ≡ number_of names p
  number-kept found p same = sym (number-bare found) ∙ (ap (number_of names) same ∙ number-bare p)

  numbers-bare : (ps : List Param) → flat_map (number_of names) (map bare_param ps) ≡ flat_map (number_of names) ps
  numbers-bare [] = refl
  numbers-bare (p ∷ ps) = ap₂ (λ a b. a ++ b) (number-bare p) (numbers-bare ps)

  pub numbers-kept : (found ps : List Param) → map bare_param found ≡ map bare_param ps → flat_map (number_of names) found ≡ flat_map (number_of names) ps
  numbers-kept found ps same = sym (numbers-bare found) ∙ (ap (flat_map (number_of names)) same ∙ numbers-bare ps)

  behind-params : (next : ℕ) (ps : List Param) (tokens rest : List Lexeme) → defined_params_behind names next ps tokens rest → Written true false (map bare_param) (defined_params_behind names next) (each_behind (param_phrase names) ps) ps
  unfolding ◌>>◌
  behind-params next [] tokens rest d = nothing-written (map bare_param) (defined_params_behind names next) [] (λ ts rs is. is)
  behind-params next (p ∷ ps) tokens rest (k, comma_is, (m, one, more)) =
      made-same (λ z. z.0 ∷ z.1) (λ z. z.0 ∷ z.1) (λ z. refl)
      (λ z same ts rs (a, comma_at, (b, first, others)).
      (a, comma_at, (b, first, subst (λ g. defined_params_behind names (next_after names g next) z.1 b rs) (sym (number-kept z.0 p (ap (λ y. y.0) same))) others)))
      (comma-then (pair (defined-written next p k m one) (behind-params (next_after names (number_of names p) next) ps m rest more) refl))

  pub defined-params-written : (ps : List Param) (tokens rest : List Lexeme) → defined_params names ps tokens rest → Written false false (map bare_param) (defined_params names) (list_phrase (param_phrase names) ps) ps
  unfolding ◌>>◌
  defined-params-written [] tokens rest d = any-written (nothing-written (map bare_param) (defined_params names) [] (λ ts rs is. is))
  defined-params-written (p ∷ ps) tokens rest (m, one, more) =
      made-same (λ z. z.0 ∷ z.1) (λ z. z.0 ∷ z.1) (λ z. refl)
      (λ z same ts rs (b, first, others). (b, first, subst (λ g. defined_params_behind names (next_after names g 0) z.1 b rs) (sym (number-kept z.0 p (ap (λ y. y.0) same))) others))
      (pair (defined-written 0 p tokens m one) (behind-params (next_after names (number_of names p) 0) ps m rest more) refl)

  declared-by : (t : LlType) (xs : List Attribute) (name : Name) (test : Bool) (tokens a b rest : List Lexeme) → can_be_written (slice_get names name.number) ≡ test → ty names t tokens a → each (attribute names) xs a b → local names name b rest
      → Written false false bare_param (written_param names) (type_phrase names t & each_phrase (attribute_phrase names) xs & (if test then blank & local_phrase names name else Empty)) (record { ty = t; attributes = xs; name = Some name })
  unfolding ◌>>◌
  declared-by t xs name true tokens a b rest can is attributes (l, at, of, (place, spells)) =
      made (λ z. record { ty = z.0; attributes = z.1.0; name = Some z.1.1 }) (λ z. record { ty = z.0; attributes = z.1.0; name = Some z.1.1 }) (λ z. refl) (λ z ts rs d. d)
      (name-behind t xs name tokens a b is attributes (is-named names LocalName (drop 1 l.text) name.number spells))
  declared-by t xs name false tokens a b rest can is attributes (l, at, of, (place, spells)) = absurd (false≢true (sym can ∙ spelled-can names LocalName (drop 1 l.text) name.number spells))

  declared-of : (t : LlType) (xs : List Attribute) (name : Option Name) (tokens a b rest : List Lexeme) → ty names t tokens a → each (attribute names) xs a b → if_there (local names) name b rest
      → Written false false bare_param (written_param names) (param_phrase names (record { ty = t; attributes = xs; name = name })) (record { ty = t; attributes = xs; name = name })
  unfolding ◌>>◌
  declared-of t xs None tokens a b rest is attributes none =
      made (λ z. record { ty = z.0; attributes = z.1; name = None }) (λ z. record { ty = z.0; attributes = z.1; name = None }) (λ z. refl) (λ z ts rs d. d)
      (pair (type-written names t tokens a is) (then-fixed (each-again (attribute-written names) xs a b attributes) nothing-fixed refl) refl)
  declared-of t xs (Some name) tokens a b rest is attributes named = declared-by t xs name (can_be_written (slice_get names name.number)) tokens a b rest refl is attributes named

  pub declared-written : (p : Param) (tokens rest : List Lexeme) → written_param names p tokens rest → Written false false bare_param (written_param names) (param_phrase names p) p
  unfolding ◌>>◌
  declared-written p tokens rest (a, is, (b, attributes, named)) = declared-of p.ty p.attributes p.name tokens a b rest is attributes named

linkage-fixed : (l : Linkage) → Fixed true false (linkage l) (linkage_phrase l)
unfolding has_form
linkage-fixed External = nothing-fixed
linkage-fixed Internal = fixed-behind-blank (word-fixed (codes "internal") refl)
linkage-fixed Private = fixed-behind-blank (word-fixed (codes "private") refl)

pub linkage-written : (l : Linkage) → Fixed true false (linkage l) (linkage_phrase l)
linkage-written l = linkage-fixed l

-- what a head has that places are in
abbrev pub HeadParts : Type 0
HeadParts = List Attribute × (LlType × (Name × List Param))

abbrev pub head_of : Head → ℕ → HeadParts → Head
head_of h byte z = record { byte = byte; name = z.1.1.0; linkage = h.linkage; is_kernel = h.is_kernel; attributes = z.0; ty = z.1.0; params = z.1.1.1 }

abbrev pub parts_of : Head → HeadParts
parts_of h = (h.attributes, (h.ty, (h.name, h.params)))

abbrev pub bare_parts : HeadParts → HeadParts
bare_parts = bare_pair (map bare_attribute) (bare_pair bare_type (bare_pair name_unplaced (map bare_param)))

module _ (names : List NameText) where
  convention-fixed : (is_kernel : Bool) → Fixed true false (convention names is_kernel) (convention_phrase is_kernel)
  unfolding has_form
  convention-fixed true = fixed-behind-blank (word-fixed (codes "spir_kernel") refl)
  convention-fixed false = fixed-as (λ ts rs is. inl is) (fixed-behind-blank (word-fixed (codes "spir_func") refl))

  pub head-written : (params : List Param → Production) (h : Head) → ((tokens rest : List Lexeme) → params h.params tokens rest → Written false false (map bare_param) params (list_phrase (param_phrase names) h.params) h.params)
      → (tokens rest : List Lexeme) → head names params h tokens rest → Written true true bare_parts (λ z. head names params (head_of h 0 z)) (head_phrase names h) (parts_of h)
  unfolding ◌>>◌
  head-written params h written tokens rest (a, l, (b, local_is, (c, conv, (d, attributes, (e, is, (f, name, (g, opens, (i, inside, (j, closes, behind))))))))) =
      made (λ z. z) (λ z. z) (λ z. refl)
      (λ z ts rs (m, link, (n, con, more)). (m, link, (m, inr refl, (n, con, tail z n rs more))))
      (fixed-then (linkage-fixed h.linkage) (fixed-then (convention-fixed h.is_kernel)
      (pair (each-again (attribute-written names) h.attributes c d attributes)
      (behind-blank (pair (type-written names h.ty d e is)
      (behind-blank (pair (global-written names h.name e f name)
      (fixed-then (mark-fixed 40 refl) (then-fixed (written g i inside) (mark-fixed 41 refl) refl) refl) refl)) refl)) refl) refl) refl)
    where
      tail : (z : HeadParts) (ts rs : List Lexeme) → (each (attribute names) z.0 >> (ty names z.1.0 >> (global names z.1.1.0 >> (mark 40 >> (params z.1.1.1 >> mark 41))))) ts rs
          → (each (attribute names) z.0 >> (ty names z.1.0 >> (global names z.1.1.0 >> (mark 40 >> (params z.1.1.1 >> (mark 41 >> (maybe unnamed >> any_function_attributes))))))) ts rs
      tail z ts rs (p, xs, (q, t, (r, n, (s, opening, (v, ps, closing))))) = (p, xs, (q, t, (r, n, (s, opening, (v, ps, (rs, closing, (rs, inr refl, ([], refl))))))))

  pub declaration-written : (h : Head) (tokens rest : List Lexeme) → declaration names h tokens rest → Written false true bare_head (declaration names) (declaration_line names h) h
  unfolding ◌>>◌ has_form
  declaration-written h tokens rest (m, w, d) =
      made-at h (λ ts z. head_of h (byte_of ts) z) (λ z. head_of h 0 z) (λ ts z. refl) refl
      (λ z same ts rs (k, (l, is, of, text), has). (k, (l, is, of, (text, sym (ap byte_of is))), has))
      (fixed-then (word-fixed (codes "declare") refl) (before-line (head-written (listed (written_param names)) h (λ ts rs is. list-again (declared-written names) h.params ts rs is) m rest d)) refl)
