use Rattle.std.proofs.Common.{[], ◌∷◌, Option, None, sym, subst}
use Rattle.std.specs.Prelude.{IfSome}
use Rattle.a64_cells.specs.declared.site.Site.{Site}
use Rattle.a64_emit.specs.Emission.{CanPut, PutsCells}
use Rattle.a64_cells.specs.Words.{MayBePut, put_cell}
use Rattle.a64_emit.proofs.AsPut.{branch_puttable}
use Rattle.a64_emit.proofs.emit.emit_branch.Goals as goal

pub emit_last-requires : goal.emit_last-requires
emit_last-requires c = record {
  lawful = subst (λ (o : Option Site). IfSome o (MayBePut c.args.sink.now.constants)) (sym c.branch_site.ensures) (branch_puttable c.args.sink.now.constants c.args.kind c.args.dest);
  can = subst (λ (o : Option Site). CanPut c.args.sink.now (put_cell c.args.word o None ∷ [])) (sym c.branch_site.ensures) c.requires;
}

pub returns : goal.returns
returns c = subst (λ (o : Option Site). PutsCells c.emit_last.result c.args.sink.now c.emit_last.new.sink (put_cell c.args.word o None ∷ [])) c.branch_site.ensures c.emit_last.ensures
