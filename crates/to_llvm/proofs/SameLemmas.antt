-- What comparisons of modules tell.
use Rattle.std.proofs.Common.{◌≡◌, refl, ap}
use Rattle.std.specs.Prelude.{◌==◌, ◌&&◌}
use Rattle.std.specs.Bool.{Decides}
use Rattle.std.specs.Str.{bytes_eq}
use Rattle.std.proofs.lemmas.Bool.Decides.{Decides-and, Decides-eqb, Decides-like}
use Rattle.std.proofs.lemmas.Slice.Eq.{bytes_eq-Decides, slice_eq-Decides}
use Rattle.spv_codec.specs.declared.module.RawInst.{RawInst}
use Rattle.spv_codec.specs.declared.module.RawModule.{RawModule}
use Rattle.to_llvm.specs.SameModules.{same_inst, same_module}

inst-decides : (inst other : RawInst) → Decides (same_inst inst other) (inst ≡ other)
inst-decides inst other =
    Decides-like (same_inst inst other)
    (λ same. λ i. record { op = same.0 i; place = same.1.0 i; operands = same.1.1 i })
    (λ same. (ap (λ (x : RawInst). x.op) same, (ap (λ (x : RawInst). x.place) same, ap (λ (x : RawInst). x.operands) same)))
    (Decides-and (inst.op == other.op) (inst.place == other.place && bytes_eq inst.operands other.operands) (Decides-eqb inst.op other.op)
    (Decides-and (inst.place == other.place) (bytes_eq inst.operands other.operands) (Decides-eqb inst.place other.place) (bytes_eq-Decides inst.operands other.operands)))

pub module-decides : (raw made : RawModule) → Decides (same_module raw made) (raw ≡ record made { order = raw.order })
module-decides raw made =
    Decides-like (same_module raw made)
    (λ same. λ i. record { order = raw.order; version = same.0 i; generator = same.1.0 i; bound = same.1.1.0 i; insts = same.1.1.1 i })
    (λ same. (ap (λ (x : RawModule). x.version) same, (ap (λ (x : RawModule). x.generator) same, (ap (λ (x : RawModule). x.bound) same, ap (λ (x : RawModule). x.insts) same))))
    (Decides-and (raw.version == made.version) _ (Decides-eqb raw.version made.version)
    (Decides-and (raw.generator == made.generator) _ (Decides-eqb raw.generator made.generator)
    (Decides-and (raw.bound == made.bound) _ (Decides-eqb raw.bound made.bound)
    (slice_eq-Decides inst-decides raw.insts made.insts _ refl))))
