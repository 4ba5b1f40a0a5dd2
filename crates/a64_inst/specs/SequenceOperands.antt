-- Which operands sequences around tables, symbols and the stack may have, and what has no word.
use Rattle.std.specs.Prelude.{Bool, ◌&&◌, List}
use Rattle.std.specs.List.{list_all}
use Rattle.a64_base.specs.declared.reg.Reg.{Reg}
use Rattle.a64_imms.specs.declared.imm12.Imm12.{Imm12}
use Rattle.a64_inst.specs.declared.emission.EmitFlags.{EmitFlags}
use Rattle.a64_inst.specs.declared.pair.ArgPair.{ArgPair}
use Rattle.a64_inst.specs.declared.pair.RetPair.{RetPair}
use Rattle.a64_operand.specs.declared.virtuals.VirtualRegisters.{VirtualRegisters}
use Rattle.a64_operand.specs.Operands.{is_any_register, is_imm12, is_other_register, is_register}
use Rattle.a64_operand.specs.Operands.{is_register_or_zero}

-- the registers of arguments are of either class
abbrev pub are_args : VirtualRegisters → List ArgPair → Bool
are_args virtuals args =
    list_all (λ pair. is_any_register virtuals pair.vreg && is_any_register virtuals pair.preg) args

-- and those of results
abbrev pub are_rets : VirtualRegisters → List RetPair → Bool
are_rets virtuals rets =
    list_all (λ pair. is_any_register virtuals pair.vreg && is_any_register virtuals pair.preg) rets

-- the index of a table, and the two registers that the jump changes: the second is neither of the
-- others
unfoldable pub are_table_operands : VirtualRegisters → Reg → Reg → Reg → Bool
are_table_operands virtuals ridx rtmp1 rtmp2 =
    is_register_or_zero virtuals ridx && is_register virtuals rtmp1 && is_register virtuals rtmp2
    && is_other_register rtmp2 ridx && is_other_register rtmp2 rtmp1

-- the stack is probed only where the settings say so
unfoldable pub are_probe_operands : EmitFlags → VirtualRegisters → Reg → Reg → Imm12 → Bool
are_probe_operands flags virtuals start end step =
    flags.enable_probestack && is_register virtuals start && is_register_or_zero virtuals end
    && is_imm12 step
