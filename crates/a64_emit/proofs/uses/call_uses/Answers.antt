use Rattle.std.proofs.Common.{◌∙◌, sym, ap}
use Rattle.a64_cells.specs.Cells.{inst_cells, listed_uses}
use Rattle.a64_cells.specs.declared.site.Uses.{Uses}
use Rattle.a64_emit.proofs.CallSites.{call_inst_sites}
use Rattle.a64_cells.proofs.Several.{no_uses}
use Rattle.a64_emit.proofs.uses.call_uses.Goals as goal

pub returns : goal.returns
returns c =
    let frame = c.args._frame.now in
    let flags = c.args._info.now in
    let inst = c.args._inst.now in
    no_uses 0 (inst_cells frame flags inst) (call_inst_sites frame flags inst c.requires) ∙ ap (λ (u : Uses). listed_uses u) (sym c.only_use.ensures)
