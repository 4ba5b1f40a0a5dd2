-- A shift by an amount, as clauses see it.
use Rattle.std.specs.Prelude.{ℕ}
use Rattle.a64_base.specs.declared.shift.ShiftOp.{ShiftOp}

pub record Shift : Type 0 where
  pub op : ShiftOp
  pub amount : ℕ
