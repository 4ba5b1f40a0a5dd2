use Rattle.std.proofs.Common.{◌≡◌, All, false, sym, subst}
use Rattle.a64_buffer.specs.Buffer.{Buffer, IsBound, IsReached}
use Rattle.a64_buffer.proofs.buffer.MachBuffer.finish.Goals as goal

pub finish-requires-clause-bound : goal.finish-requires-clause-bound
finish-requires-clause-bound g c = subst (λ (b : Buffer g.row.K.Denot). All (IsBound b.labels) b.uses) (sym c.self.view_is) c.requires.bound

pub finish-requires-clause-direct : goal.finish-requires-clause-direct
finish-requires-clause-direct g c = subst (λ (b : Buffer g.row.K.Denot). All (λ u. g.K.MachInstLabelUse.kinds.veneers u.kind ≡ false → IsReached g.K.MachInstLabelUse.kinds b.labels u) b.uses) (sym c.self.view_is) c.requires.direct
