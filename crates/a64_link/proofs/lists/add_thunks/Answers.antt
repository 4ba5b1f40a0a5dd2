use Rattle.std.proofs.Common.{◌++◌, List, ℕ, true, false, sym, ap, ◌∙◌, arith, append-nil}
use Rattle.a64_link.proofs.Thunks.{whole_list}
use Rattle.a64_link.proofs.ThunkList.{thunk_small, one_more}
use Rattle.a64_link.proofs.lists.add_thunks.Goals as goal
use Rattle.a64_link.proofs.lists.add_thunks.Goals.{then-is_far+in_ok-push, else-is_far}

pub overflow_cast-next : goal.overflow_cast-next
overflow_cast-next c = omega (arith, thunk_small c.args.units.now c.args.starts.now c.args.i c.args.unit.now c.args.sums.now c.requires.sums c.requires.starts c.requires.unit 0, c.len.ensures, c.args.unit.now.words.ok.0)

pub overflow_mul-next : goal.overflow_mul-next
overflow_mul-next c = omega (arith, thunk_small c.args.units.now c.args.starts.now c.args.i c.args.unit.now c.args.sums.now c.requires.sums c.requires.starts c.requires.unit 0, c.len.ensures, c.args.unit.now.words.ok.0)

pub overflow_add-next : goal.overflow_add-next
overflow_add-next c = omega (arith, thunk_small c.args.units.now c.args.starts.now c.args.i c.args.unit.now c.args.sums.now c.requires.sums c.requires.starts c.requires.unit 0, c.len.ensures, c.args.unit.now.words.ok.0)

pub overflow_add-next-then-is_far : goal.overflow_add-next-then-is_far
overflow_add-next-then-is_far c = omega (arith, thunk_small c.args.units.now c.args.starts.now c.args.i c.args.unit.now c.args.sums.now c.requires.sums c.requires.starts c.requires.unit c.loop-reloc.reloc-index, c.loop-reloc.invariant.next)

pub loop-reloc-preserved : goal.loop-reloc-preserved
loop-reloc-preserved c = elim c.if-is_far.branch [
  | then-is_far+in_ok-push w ↦
      let h = one_more c.args.units.now c.args.starts.now c.args.i c.args.unit.now c.loop-reloc.reloc-index c.as_slice-reloc-items.result.now _ true c.args.thunks.now.items c.loop-reloc.thunks.items c.if-is_far.thunks.items c.loop-reloc.next c.if-is_far.next
      c.as_slice-reloc-items.ensures.value c.loop-reloc-test.true (sym c.is_far.ensures ∙ w.if-is_far.true) c.loop-reloc.invariant.so_far c.loop-reloc.invariant.next (rw w.thunks-is w.in_ok-push.ensures.items) w.next-is in
      record { so_far = h.0; next = h.1 }
  | else-is_far w ↦
      let h = one_more c.args.units.now c.args.starts.now c.args.i c.args.unit.now c.loop-reloc.reloc-index c.as_slice-reloc-items.result.now _ false c.args.thunks.now.items c.loop-reloc.thunks.items c.if-is_far.thunks.items c.loop-reloc.next c.if-is_far.next
      c.as_slice-reloc-items.ensures.value c.loop-reloc-test.true (sym c.is_far.ensures ∙ w.if-is_far.false) c.loop-reloc.invariant.so_far c.loop-reloc.invariant.next (rw w.thunks-is (sym (append-nil c.loop-reloc.thunks.items))) (omega (arith, w.next-is)) in
      record { so_far = h.0; next = h.1 }
]

pub returns : goal.returns
returns c = c.loop-reloc.invariant.so_far ∙ ap (λ (xs : List ℕ). c.args.thunks.now.items ++ xs) (whole_list c.args.units.now c.args.starts.now c.args.i c.args.unit.now c.loop-reloc.reloc-index (omega arith))
