use Rattle.std.proofs.Common.{sym, ap, ℕ, ◌-◌, ◌%◌, replicate}
use Rattle.a64_elf.specs.Fields.{filling}
use Rattle.a64_elf.proofs.fields.gap.Goals as goal

pub returns-clause-value : goal.returns-clause-value
unfolding filling
returns-clause-value c =
    ap (λ (m : ℕ). replicate ((m - c.args.at % m) % m) 0) (sym c.bytes-bytes.ensures.value)
