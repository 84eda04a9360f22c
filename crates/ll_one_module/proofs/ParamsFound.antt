-- Parameters as readers find them.
use Rattle.std.proofs.Common.{◌≡◌, ℕ, ◌+◌, Bool, true, false, List, [], ◌∷◌, ◌++◌, map, flat_map, Option, None, Some, option_to_list, refl, sym, ap, ap₂, ◌∙◌, subst, inl, inr}
use Rattle.ll_tokens.specs.declared.kinds.TokenKind.TheVariants.{Local as LocalToken}
use Rattle.ll_tokens.specs.Tokens.{Lexeme}
use Rattle.ll_tree.specs.declared.module.Attribute.{Attribute}
use Rattle.ll_tree.specs.declared.module.Param.{Param}
use Rattle.ll_tree.specs.declared.name.Name.{Name}
use Rattle.ll_tree.specs.declared.name.NameKind.TheVariants.{Local as LocalName}
use Rattle.ll_tree.specs.declared.name.NameText.{NameText}
use Rattle.ll_tree.specs.declared.ty.LlType.{LlType}
use Rattle.ll_tree.specs.Modules.{param_changed}
use Rattle.ll_parser.specs.GrammarAttributes.{attribute}
use Rattle.ll_parser.specs.GrammarFunctions.{IsNumbered, next_after, next_behind}
use Rattle.ll_parser.specs.GrammarItems.{defined_param, defined_params, defined_params_behind, number_of, param_name, written_param}
use Rattle.ll_parser.specs.GrammarTypes.{ty}
use Rattle.ll_parser.specs.GrammarValues.{local}
use Rattle.ll_parser.specs.Productions.{Production, nothing, ◌>>◌, each, listed}
use Rattle.ll_one_module.proofs.Readers.{Ahead, Reader, Test, never, begins, done, bind, to, skip, first, choose, many, Found, Reads, Leads, Opens, Weaker, skip-found, done-found, choose-false, seq, none, made, at, stopped, first-reads}
use Rattle.ll_one_module.proofs.Fronts.{either, either-left, either-right, is_mark, lead-each, lead-first, lead-if-there, lead-kind, lead-mark, lead-nothing, lead-then, opens-first, opens-mark, opens-token}
use Rattle.ll_one_module.proofs.Lists.{reads-first, listed-reads, optional, optional-reads, or-reads, reads-absurd, reads-as, separated}
use Rattle.ll_one_module.proofs.NamesFound.{Numbering, read_name, renamed, name-reads}
use Rattle.ll_one_module.proofs.Tests.{operand_start, pointer_start}
use Rattle.ll_one_module.proofs.TypesFound.{comma_ahead, type-opens, type-reads}
use Rattle.ll_one_module.proofs.ValuesFound.{read_type}
use Rattle.ll_one_module.proofs.AttributesFound.{attribute_start, attribute-no-pointer, attributes-read, open_start, read_attribute}
use Rattle.ll_one_module.proofs.InstsFound.{name_and_next, numbered, placed-reads, read_byte, spelled-next}
use Rattle.ll_one_module.proofs.Threads.{Threads, threaded, threads-found, threads-more, threads-none}

abbrev local_start : Test
local_start LocalToken text = true
local_start _ text = false

abbrev attributes_end : Test
attributes_end = either attribute_start open_start

-- what doesn't follow a parameter
abbrev pub param_end : Test
param_end = either local_start (either attributes_end pointer_start)

end-local : Weaker (begins param_end) (begins local_start)
end-local = either-left _ _

end-attributes : Weaker (begins param_end) (begins attributes_end)
end-attributes tokens e = either-left attributes_end pointer_start tokens (either-right local_start _ tokens e)

end-pointer : Weaker (begins param_end) (begins pointer_start)
end-pointer tokens e = either-right attributes_end pointer_start tokens (either-right local_start _ tokens e)

-- what doesn't follow parameters
abbrev pub params_end : Test
params_end = either operand_start (either (is_mark 44) param_end)

params-comma : Weaker (begins params_end) comma_ahead
params-comma tokens e = either-left (is_mark 44) param_end tokens (either-right operand_start _ tokens e)

params-param : Weaker (begins params_end) (begins param_end)
params-param tokens e = either-right (is_mark 44) param_end tokens (either-right operand_start _ tokens e)

module _ (look : NameText → ℕ) where
  abbrev pub read_attributes : Reader (List Attribute)
  read_attributes = many (begins attribute_start) (read_attribute look)

  pub read_written : Reader Param
  read_written = bind (read_type look) (λ x. bind read_attributes (λ list. to (λ n. record { ty = x; attributes = list; name = n }) (optional (begins local_start) (read_name look LocalName))))

  abbrev unnamed : ℕ → ℕ → Name × ℕ
  unnamed next byte = (record { number = numbered look next; byte = byte }, next + 1)

  read_param_name : ℕ → ℕ → Reader (Name × ℕ)
  read_param_name next byte = choose (begins local_start) (first (name_and_next look next)) (done (unnamed next byte))

  pub read_param : ℕ → Reader (Param × ℕ)
  read_param next =
      bind read_byte (λ byte. bind (read_type look) (λ x. bind read_attributes (λ list. to (λ (a : Name × ℕ). let r : Param × ℕ = (record { ty = x; attributes = list; name = Some a.0 }, a.1) in r) (read_param_name next byte))))

  abbrev no_last : Param → Bool
  no_last p = false

  pub read_params_behind : ℕ → Reader (List Param × ℕ)
  read_params_behind next = threaded comma_ahead no_last (λ n. skip (read_param n)) next

  pub read_params : Reader (List Param × ℕ)
  read_params = choose (begins operand_start) (bind (read_param 0) (λ a. to (λ (more : List Param × ℕ). let r : List Param × ℕ = (a.0 ∷ more.0, more.1) in r) (read_params_behind a.1))) (done (let r : List Param × ℕ = ([], 0) in r))

module _ (t : Numbering) where
  abbrev pub made_param : Param → Param
  made_param = param_changed (renamed t) (λ byte. byte)

  written-reads : (p : Param) → Reads (begins param_end) (written_param t.names p) (read_written t.look) (made_param p)
  unfolding read_written
  written-reads p =
      seq _ (type-reads t p.ty) (lead-then (lead-each (λ ts e. e) (attribute-no-pointer t) p.attributes) (lead-if-there end-pointer (λ name. lead-kind LocalToken _ _ (λ text. refl)) p.name))
      (seq _ (attributes-read t p.attributes) (lead-if-there end-attributes (λ name. lead-kind LocalToken _ _ (λ text. refl)) p.name)
      (made _ (optional-reads (renamed t) end-local (λ name. opens-token LocalToken _ local_start (λ l d. refl)) (λ name. name-reads t LocalToken LocalName name) p.name)))

  pub written-params-read : (list : List Param) → Reads (begins params_end) (listed (written_param t.names) list) (to (λ (ps : List Param). let r : List Param × ℕ = (ps, 0) in r) (separated (begins operand_start) comma_ahead (read_written t.look))) (let r : List Param × ℕ = (map made_param list, 0) in r)
  written-params-read list =
      made _ (listed-reads made_param (either-left _ _) params-comma params-param (lead-mark 44 param_end refl) (λ p. opens-first _ (type-opens t.names p.ty)) (λ p. opens-first _ (opens-mark 44 (is_mark 44) refl)) written-reads list)

  unnamed-found : (next byte : ℕ) (name : Name) → IsNumbered t.names name.number next → name.byte ≡ byte → unnamed t.look next byte ≡ (renamed t name, next_after t.names (name.number ∷ []) next)
  unnamed-found next byte name numbered' place =
      ap₂ (λ (a : Name) (b : ℕ). let r : Name × ℕ = (a, b) in r)
      (ap₂ (λ (n : ℕ) (b : ℕ). let named : Name = record { number = n; byte = b } in named) (sym (t.found name.number _ numbered')) (sym place))
      (ap (λ e. next_behind [] e next) (sym numbered'))

  abbrev Unnamed : ℕ → ℕ → Name → Production
  Unnamed next byte name tokens rest = IsNumbered t.names name.number next × (name.byte ≡ byte) × (tokens ≡ rest)

  name-left-out : (next byte : ℕ) (name : Name) → Reads (begins local_start) (Unnamed next byte name) (done (unnamed t.look next byte)) (let r : Name × ℕ = (renamed t name, next_after t.names (name.number ∷ []) next) in r)
  name-left-out next byte name = record {
    reads = λ tokens rest d stop.
        let one : Reads (begins local_start) nothing (done (unnamed t.look next byte)) (let r : Name × ℕ = (renamed t name, next_after t.names (name.number ∷ []) next) in r) = at (unnamed-found next byte name d.0 d.1) none in
        one.reads tokens rest d.2 stop;
  }

  name-read : (next byte : ℕ) (name : Name) → Reads (begins local_start) (param_name t.names next byte (Some name)) (read_param_name t.look next byte) (let r : Name × ℕ = (renamed t name, next_after t.names (name.number ∷ []) next) in r)
  unfolding read_param_name
  name-read next byte name =
      reads-as (λ tokens rest d. d)
      (or-reads (local t.names name) (Unnamed next byte name) (begins local_start) (opens-token LocalToken _ local_start (λ l d. refl))
      (first-reads (name_and_next t.look next) _ _ (λ l k d.
      ap₂ (λ (a : Name) (b : ℕ). let r : Name × ℕ = (a, b) in r)
      (ap₂ (λ (n : ℕ) (b : ℕ). let named : Name = record { number = n; byte = b } in named) (sym (t.found name.number _ d.1.1)) (sym d.0))
      (spelled-next t name next l d.1)))
      (record { leads = λ tokens rest d stop. ap (begins local_start) d.2 ∙ stop })
      (name-left-out next byte name))

  name-leads : {u : Ahead} (test : Test) → ((text : List ℕ) → test LocalToken text ≡ false) → Weaker u (begins test) → (next byte : ℕ) (o : Option Name) → Leads u (param_name t.names next byte o) (begins test)
  name-leads test locals weaker next byte None = record { leads = λ tokens rest d stop. absurd d }
  name-leads {u} test locals weaker next byte (Some name) = record { leads = λ tokens rest d stop. cases tokens rest d stop }
    where
      cases : (tokens rest : List Lexeme) → param_name t.names next byte (Some name) tokens rest → u rest ≡ false → begins test tokens ≡ false
      cases tokens rest (inl d) stop = let front : Leads never (local t.names name) (begins test) = lead-kind LocalToken _ test locals in front.leads tokens rest d refl
      cases tokens rest (inr d) stop = ap (begins test) d.2 ∙ weaker rest stop

  param-named-reads : (next byte : ℕ) (x : LlType) (list : List Attribute) (name : Name) →
      Reads (begins param_end) (ty t.names x >> each (attribute t.names) list >> param_name t.names next byte (Some name))
      (bind (read_type t.look) (λ x. bind (read_attributes t.look) (λ list. to (λ (a : Name × ℕ). let r : Param × ℕ = (record { ty = x; attributes = list; name = Some a.0 }, a.1) in r) (read_param_name t.look next byte))))
      (let r : Param × ℕ = (made_param (record { ty = x; attributes = list; name = Some name }), next_after t.names (name.number ∷ []) next) in r)
  param-named-reads next byte x list name =
      seq _ (type-reads t x) (lead-then (lead-each (λ ts e. e) (attribute-no-pointer t) list) (name-leads pointer_start (λ text. refl) end-pointer next byte (Some name)))
      (seq _ (attributes-read t list) (name-leads attributes_end (λ text. refl) end-attributes next byte (Some name)) (made _ (stopped end-local (name-read next byte name))))

  param-body-reads : (next byte : ℕ) (x : LlType) (list : List Attribute) (o : Option Name) →
      Reads (begins param_end) (ty t.names x >> each (attribute t.names) list >> param_name t.names next byte o)
      (bind (read_type t.look) (λ x. bind (read_attributes t.look) (λ list. to (λ (a : Name × ℕ). let r : Param × ℕ = (record { ty = x; attributes = list; name = Some a.0 }, a.1) in r) (read_param_name t.look next byte))))
      (let r : Param × ℕ = (made_param (record { ty = x; attributes = list; name = o }), next_after t.names (number_of t.names (record { ty = x; attributes = list; name = o })) next) in r)
  unfolding ◌>>◌
  param-body-reads next byte x list None = reads-absurd (λ tokens rest d. d.2.2)
  param-body-reads next byte x list (Some name) = param-named-reads next byte x list name

  pub param-reads : (next : ℕ) (p : Param) → Reads (begins param_end) (defined_param t.names next p) (read_param t.look next) (let r : Param × ℕ = (made_param p, next_after t.names (number_of t.names p) next) in r)
  unfolding read_param
  param-reads next p = record { reads = λ tokens rest d stop. cases tokens rest d stop }
    where
      cases : (tokens rest : List Lexeme) → defined_param t.names next p tokens rest → begins param_end rest ≡ false → Found (read_param t.look next) tokens (let r : Param × ℕ = (made_param p, next_after t.names (number_of t.names p) next) in r) rest
      cases [] rest d stop = absurd d
      cases (l ∷ ls) rest d stop = (placed-reads t.names _ l.byte (param-body-reads next l.byte p.ty p.attributes p.name)).reads (l ∷ ls) rest (refl, d) stop

  numbers-then : (p : Param) (numbers : List ℕ) (next : ℕ) → next_after t.names (number_of t.names p ++ numbers) next ≡ next_after t.names numbers (next_after t.names (number_of t.names p) next)
  numbers-then p numbers next = cases p.name
    where
      cases : (o : Option Name) → next_after t.names (map (λ (n : Name). n.number) (option_to_list o) ++ numbers) next ≡ next_after t.names numbers (next_after t.names (map (λ (n : Name). n.number) (option_to_list o)) next)
      cases None = refl
      cases (Some name) = refl

  behind-lead : (next : ℕ) (ps : List Param) → Leads (begins params_end) (defined_params_behind t.names next ps) (begins param_end)
  behind-lead next [] = lead-nothing params-param
  behind-lead next (p ∷ ps) = lead-first _ (lead-mark 44 param_end refl)

  behind-threads : (next : ℕ) (ps : List Param) (tokens rest : List Lexeme) → defined_params_behind t.names next ps tokens rest → begins params_end rest ≡ false →
      Threads comma_ahead (no_last t.look) (λ n. skip (read_param t.look n)) next tokens (map made_param ps) (next_after t.names (flat_map (number_of t.names) ps) next) rest
  unfolding ◌>>◌
  behind-threads next [] tokens rest same stop =
      subst (λ ts. Threads comma_ahead (no_last t.look) (λ n. skip (read_param t.look n)) next ts [] next rest) (sym same) (threads-none comma_ahead (no_last t.look) (λ n. skip (read_param t.look n)) next rest (params-comma rest stop))
  behind-threads next (p ∷ ps) tokens rest (m, comma, (m', d, more)) stop =
      subst (λ after. Threads comma_ahead (no_last t.look) (λ n. skip (read_param t.look n)) next tokens (made_param p ∷ map made_param ps) after rest) (sym (numbers-then p (flat_map (number_of t.names) ps) next))
      (threads-more comma_ahead (no_last t.look) (λ n. skip (read_param t.look n)) next tokens (made_param p) (next_after t.names (number_of t.names p) next) m' (map made_param ps) _ rest
      ((opens-mark 44 (is_mark 44) refl).opens tokens m comma) refl
      (subst (λ ts. Found (skip (read_param t.look next)) ts (let r : Param × ℕ = (made_param p, next_after t.names (number_of t.names p) next) in r) m') (sym comma.1)
      (skip-found (read_param t.look next) _ comma.0 m m' ((param-reads next p).reads m m' d ((behind-lead (next_after t.names (number_of t.names p) next) ps).leads m' rest more stop))))
      (behind-threads (next_after t.names (number_of t.names p) next) ps m' rest more stop))

  param-opens : (next : ℕ) (p : Param) → Opens (defined_param t.names next p) (begins operand_start)
  param-opens next p = record { opens = λ tokens rest d. cases tokens rest d }
    where
      cases : (tokens rest : List Lexeme) → defined_param t.names next p tokens rest → begins operand_start tokens ≡ true
      cases [] rest d = absurd d
      cases (l ∷ ls) rest d = (opens-first (each (attribute t.names) p.attributes >> param_name t.names next l.byte p.name) (type-opens t.names p.ty)).opens (l ∷ ls) rest d

  params-tail : (p : Param) (ps : List Param) (next : ℕ) → Reads (begins params_end) (defined_params_behind t.names next ps) (to (λ (more : List Param × ℕ). let r : List Param × ℕ = (made_param p ∷ more.0, more.1) in r) (read_params_behind t.look next))
      (let r : List Param × ℕ = (made_param p ∷ map made_param ps, next_after t.names (flat_map (number_of t.names) ps) next) in r)
  unfolding read_params_behind
  params-tail p ps next = made _ (record { reads = λ tokens rest d stop. threads-found comma_ahead (no_last t.look) (λ n. skip (read_param t.look n)) next tokens (map made_param ps) _ rest (behind-threads next ps tokens rest d stop) })

  more-params : (p : Param) (ps : List Param) → Reads (begins params_end) (defined_params t.names (p ∷ ps)) (read_params t.look) (let r : List Param × ℕ = (map made_param (p ∷ ps), next_after t.names (flat_map (number_of t.names) (p ∷ ps)) 0) in r)
  unfolding read_params
  more-params p ps =
      at (ap (λ (n : ℕ). let r : List Param × ℕ = (map made_param (p ∷ ps), n) in r) (sym (numbers-then p (flat_map (number_of t.names) ps) 0)))
      (reads-first _ _ (opens-first _ (param-opens 0 p)) (seq _ (param-reads 0 p) (behind-lead _ ps) (params-tail p ps (next_after t.names (number_of t.names p) 0))))

  pub params-read : (ps : List Param) → Reads (begins params_end) (defined_params t.names ps) (read_params t.look) (let r : List Param × ℕ = (map made_param ps, next_after t.names (flat_map (number_of t.names) ps) 0) in r)
  unfolding read_params
  params-read [] = record {
    reads = λ tokens rest same stop.
        let nil : List Param × ℕ = ([], 0) in
        choose-false (begins operand_start) _ (done nil) nil tokens rest (ap (begins operand_start) same ∙ either-left operand_start _ rest stop) (subst (λ ts. Found (done nil) ts nil rest) (sym same) (done-found nil rest));
  }
  params-read (p ∷ ps) = more-params p ps
