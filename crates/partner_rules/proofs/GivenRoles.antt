-- The roles that the ids of a kernel's module have.
use Rattle.std.proofs.Common.{◌≡◌, ◌≢◌, ℕ, ◌+◌, ◌<◌, Bool, true, false, cond, List, [], ◌∷◌, Some, refl, sym, ap, ◌∙◌, arith}
use Rattle.std.specs.Prelude.{◌==◌, not}
use Rattle.std.proofs.lemmas.Bool.Decides.{nat_tests}
use Rattle.spv_codec.specs.declared.module.RawInst.{RawInst}
use Rattle.spv_module.specs.Sections.{placed}
use Rattle.spv_module.specs.Spelled.{param_spelled}
use Rattle.spv_module.specs.Woven.{inst_spelled}
use Rattle.kernel_tree.specs.declared.kernel.Kernel.{Kernel}
use Rattle.kernel_tree.specs.declared.kernel.KernelInst.{KernelInst}
use Rattle.kernel_tree.specs.declared.kernel.KernelInst.TheVariants.{Add, Load, Store}
use Rattle.kernel_tree.specs.declared.kernel.KernelParam.{KernelParam}
use Rattle.to_spirv.specs.Partner.{id_of, inst_partner, param_partner}
use Rattle.spv_names.specs.declared.asks.Ask.{Ask}
use Rattle.spv_names.specs.declared.asks.Ask.TheVariants as ask
use Rattle.spv_names.specs.Definitions.{defines, definition_of, entry_of, result_of}
use Rattle.spv_names.specs.RoleRules.{differs, has_other_role, is_asked, is_entry, is_outside, role_of}
use Rattle.partner_rules.proofs.Each.{Each, each-placed, never}
use Rattle.partner_rules.proofs.ModuleParts.{Needed, Neither, ParamInt, ParamPointer, ResultInt, ids_for, types_for, each-part, insts_by}

apart-ids : (r id : ℕ) → (r ≡ id → ⊥) → (r == id) ≡ false
apart-ids r id apart = grind (arith, nat_tests)

-- an id has a role where each instruction that defines it gives it the role
abbrev Gives : Ask → ℕ → RawInst → Type 0
Gives wanted id inst = (entry outside : Bool) → defines id inst ≡ true → is_asked entry outside wanted (role_of inst) ≡ true

given : (wanted : Ask) (id : ℕ) (entry outside : Bool) (insts : List RawInst) → Each (Gives wanted id) insts → differs entry outside wanted (definition_of insts id) ≡ false
given wanted id entry outside [] all = refl
given wanted id entry outside (inst ∷ insts) all = by (defines id inst) refl (given wanted id entry outside insts all.1)
  where
    by : (b : Bool) → defines id inst ≡ b → differs entry outside wanted (definition_of insts id) ≡ false → differs entry outside wanted (definition_of (inst ∷ insts) id) ≡ false
    by true is behind = ap (λ b. differs entry outside wanted (cond b (Some inst) (definition_of insts id))) is ∙ ap not (all.0 entry outside is)
    by false is behind = ap (λ b. differs entry outside wanted (cond b (Some inst) (definition_of insts id))) is ∙ behind

gives-placed : (wanted : Ask) (id : ℕ) (inst : RawInst) (place : ℕ) → Gives wanted id inst → Gives wanted id (record inst { place = place })
unfolding result_of role_of
gives-placed wanted id inst place gives = gives

-- an id with a role in the module
abbrev pub HasRole : List RawInst → Ask → ℕ → Type 0
HasRole all wanted id = has_other_role all wanted id ≡ false

role-of-each : (wanted : Ask) (id : ℕ) (insts : List RawInst) → Each (Gives wanted id) insts → HasRole (placed 5 insts) wanted id
role-of-each wanted id insts all =
    given wanted id (is_entry (placed 5 insts) id) (is_outside (entry_of (placed 5 insts) id)) (placed 5 insts)
    (each-placed (Gives wanted id) (gives-placed wanted id) 5 insts all)

not-it : {P : Type 0} (r id : ℕ) → (r ≡ id → ⊥) → (r == id) ≡ true → P
not-it r id apart e = never (sym (apart-ids r id apart) ∙ e)

-- names have higher ids than types
types-apart : (needed : Needed) (types : List ℕ) (number : ℕ) → Each (Gives ask.Value ((ids_for needed).function + number)) (types_for needed types)
unfolding result_of
types-apart Neither types number = (λ entry outside. not-it 1 (3 + number) (λ e. absurd (omega arith)), (λ entry outside. not-it 2 (3 + number) (λ e. absurd (omega arith)), tt))
types-apart ResultInt types number = (
  λ entry outside. not-it 1 (4 + number) (λ e. absurd (omega arith)),
  (
    λ entry outside. not-it 2 (4 + number) (λ e. absurd (omega arith)),
    (λ entry outside. not-it 3 (4 + number) (λ e. absurd (omega arith)), tt),
  ),
)
types-apart ParamInt types number = (
  λ entry outside. not-it 1 (4 + number) (λ e. absurd (omega arith)),
  (
    λ entry outside. not-it 2 (4 + number) (λ e. absurd (omega arith)),
    (λ entry outside. not-it 3 (4 + number) (λ e. absurd (omega arith)), tt),
  ),
)
types-apart ParamPointer types number = (
  λ entry outside. not-it 1 (5 + number) (λ e. absurd (omega arith)),
  (
    λ entry outside. not-it 2 (5 + number) (λ e. absurd (omega arith)),
    (λ entry outside. not-it 3 (5 + number) (λ e. absurd (omega arith)), (λ entry outside. not-it 4 (5 + number) (λ e. absurd (omega arith)), tt)),
  ),
)

module _ (needed : Needed) (types : List ℕ) (kernel : Kernel) where
  -- the types
  type-role : (id : ℕ) → id < (ids_for needed).function → Each (Gives ask.TypeRole id) (insts_by needed types kernel)
  unfolding result_of role_of
  type-role id below = each-part (Gives ask.TypeRole id) needed types kernel (record {
    front = (λ entry outside. never, (λ entry outside. never, (λ entry outside. never, (λ entry outside. never, tt))));
    declared = declared needed;
    head = λ entry outside. not-it (ids_for needed).function id (λ e. absurd (omega arith));
    params = params kernel.params;
    label = λ entry outside. not-it (id_of (ids_for needed) kernel.block) id (λ e. absurd (omega arith));
    insts = insts kernel.insts;
    end = λ entry outside. never;
    last = λ entry outside. never;
  })
    where
      declared : (n : Needed) → Each (Gives ask.TypeRole id) (types_for n types)
      declared Neither = (λ entry outside e. refl, (λ entry outside e. refl, tt))
      declared ResultInt = (λ entry outside e. refl, (λ entry outside e. refl, (λ entry outside e. refl, tt)))
      declared ParamInt = (λ entry outside e. refl, (λ entry outside e. refl, (λ entry outside e. refl, tt)))
      declared ParamPointer = (λ entry outside e. refl, (λ entry outside e. refl, (λ entry outside e. refl, (λ entry outside e. refl, tt))))

      params : (ps : List KernelParam) → Each (λ param. Gives ask.TypeRole id (param_spelled (param_partner (ids_for needed) param))) ps
      params [] = tt
      params (param ∷ ps) = (λ entry outside. not-it (id_of (ids_for needed) param.name) id (λ e. absurd (omega arith)), params ps)

      insts : (is : List KernelInst) → Each (λ inst. Gives ask.TypeRole id (inst_spelled (inst_partner (ids_for needed) inst))) is
      insts [] = tt
      insts (Add sum left right ∷ is) = (λ entry outside. not-it (id_of (ids_for needed) sum) id (λ e. absurd (omega arith)), insts is)
      insts (Load loaded pointer is_aligned ∷ is) = (λ entry outside. not-it (id_of (ids_for needed) loaded) id (λ e. absurd (omega arith)), insts is)
      insts (Store value pointer is_aligned ∷ is) = (λ entry outside. never, insts is)

  -- the values
  value-role : (number : ℕ) → number ≢ 0 → number ≢ kernel.block.number → Each (Gives ask.Value ((ids_for needed).function + number)) (insts_by needed types kernel)
  unfolding result_of role_of
  value-role number some other = each-part (Gives ask.Value ((ids_for needed).function + number)) needed types kernel (record {
    front = (λ entry outside. never, (λ entry outside. never, (λ entry outside. never, (λ entry outside. never, tt))));
    declared = types-apart needed types number;
    head = λ entry outside. not-it (ids_for needed).function ((ids_for needed).function + number) (λ e. some (omega arith));
    params = params kernel.params;
    label = λ entry outside. not-it (id_of (ids_for needed) kernel.block) ((ids_for needed).function + number) (λ e. other (omega arith));
    insts = insts kernel.insts;
    end = λ entry outside. never;
    last = λ entry outside. never;
  })
    where
      params : (ps : List KernelParam) → Each (λ param. Gives ask.Value ((ids_for needed).function + number) (param_spelled (param_partner (ids_for needed) param))) ps
      params [] = tt
      params (param ∷ ps) = (λ entry outside e. refl, params ps)

      insts : (is : List KernelInst) → Each (λ inst. Gives ask.Value ((ids_for needed).function + number) (inst_spelled (inst_partner (ids_for needed) inst))) is
      insts [] = tt
      insts (Add sum left right ∷ is) = (λ entry outside e. refl, insts is)
      insts (Load loaded pointer is_aligned ∷ is) = (λ entry outside e. refl, insts is)
      insts (Store value pointer is_aligned ∷ is) = (λ entry outside e. refl, insts is)

-- the function, whose instruction is the first that defines its id
function-role : (needed : Needed) (types : List ℕ) (kernel : Kernel) (entry outside : Bool)
    → differs entry outside ask.Function (definition_of (placed 5 (insts_by needed types kernel)) (ids_for needed).function) ≡ false
unfolding result_of role_of
function-role Neither types kernel entry outside = refl
function-role ResultInt types kernel entry outside = refl
function-role ParamInt types kernel entry outside = refl
function-role ParamPointer types kernel entry outside = refl

-- what is known of the roles of a module's ids
pub record KnowsRoles (all : List RawInst) (needed : Needed) (kernel : Kernel) : Type 0 where
  pub types : (id : ℕ) → id < (ids_for needed).function → HasRole all ask.TypeRole id
  pub head : HasRole all ask.Function (ids_for needed).function
  pub values : (number : ℕ) → number ≢ 0 → number ≢ kernel.block.number → HasRole all ask.Value ((ids_for needed).function + number)

pub knows-roles : (needed : Needed) (types : List ℕ) (kernel : Kernel) → KnowsRoles (placed 5 (insts_by needed types kernel)) needed kernel
knows-roles needed types kernel =
    let insts = insts_by needed types kernel in
    record {
      types = λ id below. role-of-each ask.TypeRole id insts (type-role needed types kernel id below);
      head = function-role needed types kernel (is_entry (placed 5 insts) (ids_for needed).function) (is_outside (entry_of (placed 5 insts) (ids_for needed).function));
      values = λ number some other. role-of-each ask.Value ((ids_for needed).function + number) insts (value-role needed types kernel number some other);
    }
