use Rattle.std.proofs.Common.{◌-◌, ◌≤◌, ◌++◌, length, drop, refl, arith, ◌∙◌, length-drop, length-append}
use Rattle.a64_report.proofs.Overlaps.{overlapped}
use Rattle.a64_report.proofs.piece.copy_text.Goals as goal

pub returns-in-Some-Some : goal.returns-in-Some-Some
returns-in-Some-Some c =
    let to = c.args.to.now in
    let text = c.args.text.now in
    let enough : 16 ≤ length text = c.in-Some-Some.ensures.cases.enough in
    let rest = length-drop 16 to in
    let l = length-append c.copy_from_slice.new.self (drop 16 to) in
    rw (c.copy_from_slice-in-Some-Some.ensures.after, c.in-Some-Some.ensures'.cases.1.same)
    (overlapped (length text) (length (c.copy_from_slice.new.self ++ drop 16 to) - (length text - 16)) text c.copy_from_slice.new.self (drop 16 to)
    (c.copy_from_slice.ensures.after ∙ c.in-Some-Some.ensures.cases.same) refl enough c.if-len-le32.true (omega arith) (omega (arith, c.copy_from_slice.ensures.len)))
