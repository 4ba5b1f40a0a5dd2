-- The forms of atomic accesses (Arm Architecture Reference Manual, DDI 0487, C4.1, "Loads and
-- Stores": atomic memory operations, compare and swap, compare and swap pair, load-store ordered).
use Rattle.a64_base.specs.declared.ir_type.IrType.{IrType}
use Rattle.a64_base.specs.declared.reg.Reg.{Reg}
use Rattle.a64_operand.specs.declared.atomic.AtomicCAS128Args.{AtomicCAS128Args}
use Rattle.a64_ops.specs.declared.operator.AtomicRMWOp.{AtomicRMWOp}
use Rattle.a64_rows.specs.Forms.{Form}
use Rattle.a64_rows.specs.Memory.{atomic_op, cas, casp, load_acq, store_rel}
use Rattle.a64_enc_int.specs.Operators.{access_size, atomic_opc, is_swap}
use Rattle.a64_enc_int.specs.Registers.{register_field}

-- an operation: LDADDAL and its like, and SWPAL
unfoldable pub rmw_form : IrType → AtomicRMWOp → Reg → Reg → Reg → Form
rmw_form ty op rs rt rn =
    atomic_op (record {
      sz = access_size ty;
      rs = register_field rs;
      swp = is_swap op;
      op = atomic_opc op;
      rn = register_field rn;
      rt = register_field rt;
    })

-- a compare and swap: CASAL, which leaves what was there in the register of the value that was
-- awaited
unfoldable pub cas_form : IrType → Reg → Reg → Reg → Form
cas_form ty rs rt rn =
    cas (record {
      sz = access_size ty;
      rs = register_field rs;
      rn = register_field rn;
      rt = register_field rt;
    })

-- a compare and swap of a pair: CASPAL, which names the registers of the low halves
unfoldable pub cas128_form : AtomicCAS128Args → Form
cas128_form args =
    casp (record {
      rs = register_field args.rs_lo;
      rn = register_field args.rn;
      rt = register_field args.rt_lo;
    })

-- a load with acquire: LDAR
unfoldable pub load_acquire_form : IrType → Reg → Reg → Form
load_acquire_form ty rt rn =
    load_acq (record { sz = access_size ty; rn = register_field rn; rt = register_field rt })

-- a store with release: STLR
unfoldable pub store_release_form : IrType → Reg → Reg → Form
store_release_form ty rt rn =
    store_rel (record { sz = access_size ty; rn = register_field rn; rt = register_field rt })
