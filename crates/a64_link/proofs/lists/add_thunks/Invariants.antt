use Rattle.std.proofs.Common.{◌≡◌, ◌++◌}
use Rattle.a64_link.specs.Layout.{thunk_of}
use Rattle.a64_link.proofs.Thunks.{first_thunks}
use Rattle.a64_link.proofs.lists.add_thunks.Given as goal

abbrev pub invariant-loop-reloc : goal.invariant-loop-reloc
invariant-loop-reloc l = record {
  so_far : l.thunks.items ≡ l.fn.thunks.items ++ first_thunks l.units l.starts l.i l.unit l.reloc-index;
  next : l.next ≡ thunk_of l.units l.starts l.i l.unit l.reloc-index;
}
