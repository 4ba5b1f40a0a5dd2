use Rattle.std.proofs.Common.{length, sym, ap, ◌∙◌}
use Rattle.a64_inst.specs.declared.inst.Inst.{Inst}
use Rattle.a64_cells.specs.declared.callee.Callee.TheVariants.{Symbol, Address}
use Rattle.a64_cells.specs.Cells.{inst_cells}
use Rattle.a64_cells.proofs.Adjustments.{symbol_length}
use Rattle.a64_emit.proofs.call_extent.call_count.Goals as goal

pub returns-else-call : goal.returns-else-call
returns-else-call c =
    let frame = c.args.frame.now in
    let flags = c.args.info.now in
    let info = c.in-Call.call in
    c.calling_count.ensures (Symbol info.dest) ∙ symbol_length frame flags info c.if-call.false
    ∙ ap (λ (inst : Inst). length (inst_cells frame flags inst)) (sym c.in-Call.is)

pub returns-in-CallInd : goal.returns-in-CallInd
returns-in-CallInd c =
    c.calling_count-in-CallInd.ensures (Address c.in-CallInd.call.dest)
    ∙ ap (λ (inst : Inst). length (inst_cells c.args.frame.now c.args.info.now inst)) (sym c.in-CallInd.is)

pub returns-in-ReturnCall : goal.returns-in-ReturnCall
returns-in-ReturnCall c =
    c.return_count.ensures (Symbol c.in-ReturnCall.call.dest)
    ∙ ap (λ (inst : Inst). length (inst_cells c.args.frame.now c.args.info.now inst)) (sym c.in-ReturnCall.is)

pub returns-in-ReturnCallInd : goal.returns-in-ReturnCallInd
returns-in-ReturnCallInd c =
    c.return_count-in-ReturnCallInd.ensures (Address c.in-ReturnCallInd.call.dest)
    ∙ ap (λ (inst : Inst). length (inst_cells c.args.frame.now c.args.info.now inst)) (sym c.in-ReturnCallInd.is)
