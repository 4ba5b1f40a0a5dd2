-- Behind which items execution may go on.
use Rattle.std.specs.Prelude.{ℕ, Bool, true, false, ◌||◌, not, List, slice_get, None, Some, is_none}
use Rattle.a64_base.specs.Target.{label_of}
use Rattle.a64_base.specs.declared.target.BranchTarget.{BranchTarget}
use Rattle.a64_inst.specs.declared.inst.Inst.{Inst}
use Rattle.a64_inst.specs.declared.inst.Inst.TheVariants as insts
use Rattle.a64_inst.specs.declared.item.Item.{Item}
use Rattle.a64_inst.specs.declared.item.Item.TheVariants.{Bind, Emit}
use Rattle.a64_emit.specs.Stops.{stops}

-- a branch goes to no label but a distance, which may lead right behind it
abbrev pub is_distance : BranchTarget → Bool
is_distance dest = is_none (label_of dest)

-- execution may go on behind an instruction, but behind one that always goes to a label, to an
-- address in a register or to another function, or that is none and traps; a debugger may go on
-- behind `Brk`
abbrev pub inst_falls : Inst → Bool
inst_falls (insts.Jump dest) = is_distance dest
inst_falls (insts.CondBr taken not_taken kind) = is_distance taken || is_distance not_taken
inst_falls (insts.TestBitAndBranch kind taken not_taken rn bit) =
    is_distance taken || is_distance not_taken
inst_falls inst = not (stops inst)

-- the same of an item: what has no words falls, and so does a place for an island
abbrev pub falls : Item → Bool
falls (Bind label) = true
falls (Emit inst map) = inst_falls inst

-- the same of item i
abbrev pub falls_at : List Item → ℕ → Bool
falls_at items i = elim (slice_get items i) [ None ↦ false | Some item ↦ falls item ]
