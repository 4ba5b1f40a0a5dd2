use Rattle.std.proofs.Common.{◌+◌, List, drop, sym, subst, arith}
use Rattle.a64_base.specs.RegisterNumbers.{RealRegister}
use Rattle.a64_read.proofs.RegisterSets.{Walk, all_taken, begins, none_left, registers_at, takes, too_early}
use Rattle.a64_read.proofs.clobbers.set_of.Goals as goal

pub loop-register-init : goal.loop-register-init
loop-register-init c = (begins c.args.registers.now c.empty-set.result c.empty-set.ensures, omega arith)

pub returns-then-place-next : goal.returns-then-place-next
returns-then-place-next c =
    let registers = c.args.registers.now in
    let i = c.loop-register.register-index in
    let register = c.register-item.result in
    too_early registers (drop (i + 1) registers) c.loop-register.set register c.loop-register.next c.place_of-place.result c.place_of-place.ensures.there
    (subst (λ (l : List RealRegister). Walk registers l c.loop-register.set c.loop-register.next) (registers_at registers i register c.loop-register-test.true (sym c.register-item.is)) c.loop-register.invariant.0)
    (omega (arith, c.if-place-next.true))

pub loop-register-preserved : goal.loop-register-preserved
loop-register-preserved c =
    let registers = c.args.registers.now in
    let i = c.loop-register.register-index in
    let register = c.register-item.result in (
      takes registers (drop (i + 1) registers) c.loop-register.set c.add.new.self register c.loop-register.next c.place_of-place.result c.place_of-place.ensures.there
          (subst (λ (l : List RealRegister). Walk registers l c.loop-register.set c.loop-register.next) (registers_at registers i register c.loop-register-test.true (sym c.register-item.is)) c.loop-register.invariant.0)
          (omega (arith, c.if-place-next.false)) c.place_of-place.ensures.below c.add.ensures.added c.add.ensures.others,
      omega (arith, c.place_of-place.ensures.below),
    )

pub returns : goal.returns
returns c =
    let registers = c.args.registers.now in
    let set = c.loop-register.set in
    rw c.whole_set.ensures.same (all_taken registers set c.loop-register.next
    (subst (λ (l : List RealRegister). Walk registers l set c.loop-register.next) (none_left registers c.loop-register.register-index (omega (arith, c.loop-register-test.false))) c.loop-register.invariant.0)
    c.loop-register.invariant.1 (rw c.whole_set.ensures.same at c.whole_set.ensures.fits))
