use Rattle.std.proofs.Common.{◌∙◌, None, sym, ap}
use Rattle.std.proofs.lemmas.List.{append-nil}
use Rattle.a64_cells.specs.Cells.{use_of, listed_uses}
use Rattle.a64_cells.specs.declared.site.Uses.{Uses}
use Rattle.a64_cells.proofs.Several.{memory_uses}
use Rattle.a64_emit.proofs.UseLists.{listed_two}
use Rattle.a64_emit.proofs.uses.memory_uses.Goals as goal

pub returns : goal.returns
returns c =
    memory_uses c.args._frame.now c.args._info.now c.args.inst.now c.requires ∙ ap (use_of 0) (sym c.memory_site.ensures)
    ∙ sym (append-nil (use_of 0 c.memory_site.result)) ∙ sym (listed_two c.memory_site.result None) ∙ ap (λ (u : Uses). listed_uses u) (sym c.only_use.ensures)
