-- Written by `python3 tools/instructions.py` from tables/instructions.txt.
-- The loads and stores of one register: the fields of their words (Arm Architecture Reference
-- Manual, C4.1: loads and stores).
use Rattle.std.specs.Prelude.{ℕ, Bool, true, false, Option, Some, None}
use Rattle.a64_ops.specs.declared.access.AccessOp.{AccessOp}
use Rattle.a64_ops.specs.declared.access.AccessOp.TheVariants as ops

-- the fields size, V and opc
pub record AccessFields : Type 0 where
  pub size : ℕ
  pub vector : ℕ
  pub opc : ℕ

abbrev pub fields_of : AccessOp → AccessFields
fields_of ops.ULoad8 = record { size = 0; vector = 0; opc = 1 }
fields_of ops.SLoad8 = record { size = 0; vector = 0; opc = 2 }
fields_of ops.ULoad16 = record { size = 1; vector = 0; opc = 1 }
fields_of ops.SLoad16 = record { size = 1; vector = 0; opc = 2 }
fields_of ops.ULoad32 = record { size = 2; vector = 0; opc = 1 }
fields_of ops.SLoad32 = record { size = 2; vector = 0; opc = 2 }
fields_of ops.ULoad64 = record { size = 3; vector = 0; opc = 1 }
fields_of ops.FpuLoad16 = record { size = 1; vector = 1; opc = 1 }
fields_of ops.FpuLoad32 = record { size = 2; vector = 1; opc = 1 }
fields_of ops.FpuLoad64 = record { size = 3; vector = 1; opc = 1 }
fields_of ops.FpuLoad128 = record { size = 0; vector = 1; opc = 3 }
fields_of ops.Store8 = record { size = 0; vector = 0; opc = 0 }
fields_of ops.Store16 = record { size = 1; vector = 0; opc = 0 }
fields_of ops.Store32 = record { size = 2; vector = 0; opc = 0 }
fields_of ops.Store64 = record { size = 3; vector = 0; opc = 0 }
fields_of ops.FpuStore16 = record { size = 1; vector = 1; opc = 0 }
fields_of ops.FpuStore32 = record { size = 2; vector = 1; opc = 0 }
fields_of ops.FpuStore64 = record { size = 3; vector = 1; opc = 0 }
fields_of ops.FpuStore128 = record { size = 0; vector = 1; opc = 2 }

-- whether its register is a vector register
abbrev pub moves_vector : AccessOp → Bool
moves_vector ops.FpuLoad16 = true
moves_vector ops.FpuLoad32 = true
moves_vector ops.FpuLoad64 = true
moves_vector ops.FpuLoad128 = true
moves_vector ops.FpuStore16 = true
moves_vector ops.FpuStore32 = true
moves_vector ops.FpuStore64 = true
moves_vector ops.FpuStore128 = true
moves_vector _ = false

-- whether it loads
abbrev pub loads : AccessOp → Bool
loads ops.Store8 = false
loads ops.Store16 = false
loads ops.Store32 = false
loads ops.Store64 = false
loads ops.FpuStore16 = false
loads ops.FpuStore32 = false
loads ops.FpuStore64 = false
loads ops.FpuStore128 = false
loads _ = true

-- the field opc of the load of a literal, where there is one
abbrev pub literal_of : AccessOp → Option ℕ
literal_of ops.ULoad32 = Some 0
literal_of ops.SLoad32 = Some 2
literal_of ops.ULoad64 = Some 1
literal_of ops.FpuLoad32 = Some 0
literal_of ops.FpuLoad64 = Some 1
literal_of ops.FpuLoad128 = Some 2
literal_of _ = None
