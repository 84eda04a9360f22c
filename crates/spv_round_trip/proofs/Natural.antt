-- A reader of items says the same of an instruction wherever it stands, but for the place.
use Rattle.std.proofs.Common.{◌≡◌, ℕ, List, [], ◌∷◌, slice_get, Option, Some, None, refl}
use Rattle.std.specs.Option.{option_map}
use Rattle.kern_types.specs.declared.class.Class.{Class}
use Rattle.spv_codec.specs.declared.module.RawInst.{RawInst}
use Rattle.spv_layout.specs.declared.opcode.Opcode.{Opcode}
use Rattle.spv_layout.specs.declared.opcode.Opcode.TheVariants as op
use Rattle.spv_layout.specs.Forms.{opcode_of}
use Rattle.spv_module.specs.declared.module.ConstantValue.{ConstantValue}
use Rattle.spv_module.specs.Modules.{capability_moved, extension_moved, import_moved, memory_model_moved, entry_moved, string_moved, source_moved, decoration_moved, decoration_group_moved, group_moved, constant_moved, variable_moved, param_moved}
use Rattle.spv_build.specs.Entries.{entry_by, entry_of, mode_by, mode_of}
use Rattle.spv_build.specs.Items.{capability_by, capability_of, extension_by, extension_of, import_by, import_of, memory_model_by, memory_model_of, string_by, string_of, source_by, source_of, decoration_by, decoration_of, decoration_group_by, decoration_group_of, group_by, group_of, constant_with, constant_of, variable_with, variable_by, variable_of, param_by, param_of, value_by}
use Rattle.spv_types.specs.Readings.{class_of}
use Rattle.spv_build.specs.Laws.{at}
use Rattle.spv_round_trip.specs.Laws.{unplace, mode_unplaced}
use Rattle.spv_round_trip.proofs.Lists.{said-natural}

abbrev pub Natural : {A : Type 0} → (A → A) → (RawInst → Option A) → Type 0
Natural moved f = (inst : RawInst) → option_map moved (f inst) ≡ f (at 0 inst)

pub capabilities : Natural (capability_moved unplace) capability_of
capabilities inst = said-natural (capability_moved unplace) op.Capability capability_by by_words inst
  where
    by_words : (place : ℕ) (words : List ℕ) → option_map (capability_moved unplace) (capability_by place words) ≡ capability_by 0 words
    by_words place [] = refl
    by_words place (number ∷ words) = refl

pub extensions : Natural (extension_moved unplace) extension_of
extensions inst = said-natural (extension_moved unplace) op.Extension extension_by (λ place words. refl) inst

pub imports : Natural (import_moved unplace) import_of
imports inst = said-natural (import_moved unplace) op.ExtInstImport import_by by_words inst
  where
    by_words : (place : ℕ) (words : List ℕ) → option_map (import_moved unplace) (import_by place words) ≡ import_by 0 words
    by_words place [] = refl
    by_words place (id ∷ words) = refl

pub memory_models : Natural (memory_model_moved unplace) memory_model_of
memory_models inst = said-natural (memory_model_moved unplace) op.MemoryModel memory_model_by by_words inst
  where
    by_words : (place : ℕ) (words : List ℕ) → option_map (memory_model_moved unplace) (memory_model_by place words) ≡ memory_model_by 0 words
    by_words place [] = refl
    by_words place (addressing ∷ []) = refl
    by_words place (addressing ∷ memory ∷ words) = refl

pub entries : Natural (entry_moved unplace) entry_of
entries inst = said-natural (entry_moved unplace) op.EntryPoint entry_by by_words inst
  where
    by_words : (place : ℕ) (words : List ℕ) → option_map (entry_moved unplace) (entry_by place words) ≡ entry_by 0 words
    by_words place [] = refl
    by_words place (model ∷ []) = refl
    by_words place (model ∷ function ∷ words) = refl

pub modes : Natural mode_unplaced mode_of
modes inst = said-natural mode_unplaced op.ExecutionMode mode_by by_words inst
  where
    by_words : (place : ℕ) (words : List ℕ) → option_map mode_unplaced (mode_by place words) ≡ mode_by 0 words
    by_words place [] = refl
    by_words place (function ∷ []) = refl
    by_words place (function ∷ kind ∷ words) = refl

pub strings : Natural (string_moved unplace) string_of
strings inst = said-natural (string_moved unplace) op.String string_by by_words inst
  where
    by_words : (place : ℕ) (words : List ℕ) → option_map (string_moved unplace) (string_by place words) ≡ string_by 0 words
    by_words place [] = refl
    by_words place (id ∷ words) = refl

pub sources : Natural (source_moved unplace) source_of
sources inst = said-natural (source_moved unplace) op.Source source_by by_words inst
  where
    by_words : (place : ℕ) (words : List ℕ) → option_map (source_moved unplace) (source_by place words) ≡ source_by 0 words
    by_words place [] = refl
    by_words place (language ∷ []) = refl
    by_words place (language ∷ version ∷ words) = refl

pub decorations : Natural (decoration_moved unplace) decoration_of
decorations inst = by_opcode (opcode_of inst.op) inst.operands
  where
    by_opcode : (opcode : Option Opcode) (words : List ℕ) → option_map (decoration_moved unplace) (decoration_by opcode inst.place words) ≡ decoration_by opcode 0 words
    by_opcode None words = refl
    by_opcode (Some op.Decorate) [] = refl
    by_opcode (Some op.Decorate) (target ∷ []) = refl
    by_opcode (Some op.Decorate) (target ∷ kind ∷ words) = refl
    by_opcode (Some op.MemberDecorate) [] = refl
    by_opcode (Some op.MemberDecorate) (target ∷ []) = refl
    by_opcode (Some op.MemberDecorate) (target ∷ member ∷ []) = refl
    by_opcode (Some op.MemberDecorate) (target ∷ member ∷ kind ∷ words) = refl
    by_opcode (Some opcode) words = refl

pub decoration_groups : Natural (decoration_group_moved unplace) decoration_group_of
decoration_groups inst = said-natural (decoration_group_moved unplace) op.DecorationGroup decoration_group_by by_words inst
  where
    by_words : (place : ℕ) (words : List ℕ) → option_map (decoration_group_moved unplace) (decoration_group_by place words) ≡ decoration_group_by 0 words
    by_words place [] = refl
    by_words place (id ∷ words) = refl

pub groups : Natural (group_moved unplace) group_of
groups inst = said-natural (group_moved unplace) op.GroupDecorate group_by by_words inst
  where
    by_words : (place : ℕ) (words : List ℕ) → option_map (group_moved unplace) (group_by place words) ≡ group_by 0 words
    by_words place [] = refl
    by_words place (id ∷ words) = refl

pub constants : Natural (constant_moved unplace) constant_of
constants inst = by_words inst.operands
  where
    by_value : (type id : ℕ) (value : Option ConstantValue) → option_map (constant_moved unplace) (constant_with type id inst.place value) ≡ constant_with type id 0 value
    by_value type id None = refl
    by_value type id (Some value) = refl

    by_words : (words : List ℕ) → option_map (constant_moved unplace) (constant_of (record inst { operands = words })) ≡ constant_of (at 0 (record inst { operands = words }))
    by_words [] = refl
    by_words (type ∷ []) = refl
    by_words (type ∷ id ∷ words) = by_value type id (value_by (opcode_of inst.op) words)

pub variables : Natural (variable_moved unplace) variable_of
variables inst = said-natural (variable_moved unplace) op.Variable variable_by by_words inst
  where
    by_class : (place type id : ℕ) (initializer : Option ℕ) (class : Option Class)
        → option_map (variable_moved unplace) (variable_with type id initializer place class) ≡ variable_with type id initializer 0 class
    by_class place type id initializer None = refl
    by_class place type id initializer (Some class) = refl

    by_words : (place : ℕ) (words : List ℕ) → option_map (variable_moved unplace) (variable_by place words) ≡ variable_by 0 words
    by_words place [] = refl
    by_words place (type ∷ []) = refl
    by_words place (type ∷ id ∷ []) = refl
    by_words place (type ∷ id ∷ class ∷ words) = by_class place type id (slice_get words 0) (class_of class)

pub params : Natural (param_moved unplace) param_of
params inst = said-natural (param_moved unplace) op.FunctionParameter param_by by_words inst
  where
    by_words : (place : ℕ) (words : List ℕ) → option_map (param_moved unplace) (param_by place words) ≡ param_by 0 words
    by_words place [] = refl
    by_words place (type ∷ []) = refl
    by_words place (type ∷ id ∷ words) = refl
