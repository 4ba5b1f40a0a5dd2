-- Written by `python3 tools/instructions.py` from tables/instructions.txt.
use mathlib.Core.Path.{refl}
use Rattle.a64_inst.specs.declared.inst.Inst.TheVariants.{FpuLoad32}
use Rattle.a64_inst.specs.contracts.inst.Inst.{the_type}
use Rattle.a64_inst.proofs.inst.Inst.TheLaws.{the_loose}
use Rattle.a64_inst.specs.contracts.inst.Inst.fpu_load32.Key.{name}
use Rattle.a64_inst.proofs.Late.{made_ccc}
use Rattle.a64_inst.proofs.LateFields.{writable, mode, flags}
use Rattle.a64_inst.proofs.inst.Inst.fpu_load32.Code as code
use Rattle.a64_inst.proofs.inst.Inst.fpu_load32.Statement.{statement}

pub fpu_load32_spec : {M : Type 1} → statement M
fpu_load32_spec 𝓤 𝓛 𝓜 𝓡 wired = made_ccc the_type the_loose tt writable mode flags (λ v. FpuLoad32 v.0 v.1.0 v.1.1.0) 𝓤 𝓛 𝓜 𝓡 name _ (code.unfolded 𝓤 𝓛.H 𝓜 𝓡 wired) tt (λ v us. refl) (λ v. refl)
