use Rattle.std.proofs.Common.{None}
use Rattle.a64_buffer.specs.declared.site.Target.TheVariants.{IslandEnd}
use Rattle.a64_buffer.specs.declared.site.Use.{Use}
use Rattle.a64_buffer.specs.Sound.{seen}
use Rattle.a64_buffer.specs.Steps.{everywhere}
use Rattle.a64_buffer.proofs.Reaching.{placed_low}
use Rattle.a64_buffer.proofs.Writing.{writing_none, ready_next, writing_next, space_after, less_owed, same_room_none, same_room_trans}
use Rattle.a64_buffer.proofs.parts.Parts.write_until.Goals as goal

pub loop-index-init : goal.loop-index-init
loop-index-init g c = record {
  writing = writing_none g.K.MachInstLabelUse.kinds c.args.limit (seen c.args.self.now) c.requires.may;
  space = c.requires.space;
  keeps = record { kept = c.requires.kept; room = same_room_none c.args.self.now };
}

pub next_open-requires-clause-low : goal.next_open-requires-clause-low
next_open-requires-clause-low g c = placed_low g.K.MachInstLabelUse.kinds (seen c.loop-index.self) everywhere c.loop-index.invariant.writing.sound

pub serve-requires-clause-ready : goal.serve-requires-clause-ready
serve-requires-clause-ready g c = ready_next g.K.MachInstLabelUse.kinds c.args.limit c.requires.limit c.args.self.now c.loop-index.self c.requires.may c.loop-index.invariant.writing c.in-Some.index c.in-Some.ensures c.loop-index.invariant.space c.loop-index.invariant.keeps.kept.tracked

pub loop-index-smaller : goal.loop-index-smaller
loop-index-smaller g c =
    let d : Use g.row.K.Denot = record { offset = 0; target = IslandEnd; kind = g.K.MachInstLabelUse.kinds.jump; stop = None } in
    less_owed g.K.MachInstLabelUse.kinds c.loop-index.self c.serve.new.self _ (c.serve.ensures.gives d)

pub loop-index-preserved : goal.loop-index-preserved
loop-index-preserved g c =
    let d : Use g.row.K.Denot = record { offset = 0; target = IslandEnd; kind = g.K.MachInstLabelUse.kinds.jump; stop = None } in
    record {
      writing = writing_next g.K.MachInstLabelUse.kinds c.args.limit c.requires.limit c.args.self.now c.loop-index.self c.requires.may c.loop-index.invariant.writing c.in-Some.index c.in-Some.ensures d c.serve.new.self (c.serve.ensures.gives d);
      space = space_after g.K.MachInstLabelUse.kinds c.loop-index.self c.serve.new.self _ c.loop-index.invariant.space c.serve.ensures.keeps.room (c.serve.ensures.gives d);
      keeps = record { kept = c.serve.ensures.keeps.kept; room = same_room_trans c.args.self.now c.loop-index.self c.serve.new.self c.loop-index.invariant.keeps.room c.serve.ensures.keeps.room };
    }
