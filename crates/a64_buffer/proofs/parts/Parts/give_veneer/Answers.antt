use Rattle.std.proofs.Common.{arith}
use Rattle.std.proofs.lemmas.List.{length-map}
use Rattle.a64_buffer.specs.declared.site.Use.{Use}
use Rattle.a64_buffer.specs.Buffer.{label_of}
use Rattle.a64_buffer.specs.Sound.{seen}
use Rattle.a64_buffer.proofs.Writing.{jump_kept, far_kept, jump_ready, far_ready, label_waits}
use Rattle.a64_buffer.proofs.parts.Parts.give_veneer.Goals as goal

pub give_jump-requires-clause-short : goal.give_jump-requires-clause-short
give_jump-requires-clause-short g c = omega (arith, c.requires.ready.may.short, (jump_kept g.K.MachInstLabelUse.kinds g.met.K.MachInstLabelUse.lawful c.args.self.now c.args.index c.requires.ready c.args.class c.requires.class c.in-Near.is).0)

pub give_jump-requires-clause-words : goal.give_jump-requires-clause-words
give_jump-requires-clause-words g c = omega (arith, c.requires.ready.space.words, (jump_kept g.K.MachInstLabelUse.kinds g.met.K.MachInstLabelUse.lawful c.args.self.now c.args.index c.requires.ready c.args.class c.requires.class c.in-Near.is).0)

pub give_jump-requires-clause-uses : goal.give_jump-requires-clause-uses
give_jump-requires-clause-uses g c = omega (arith, c.requires.ready.space.uses, c.args.self.now.uses.ok.0, (jump_kept g.K.MachInstLabelUse.kinds g.met.K.MachInstLabelUse.lawful c.args.self.now c.args.index c.requires.ready c.args.class c.requires.class c.in-Near.is).1)

pub give_jump-requires-clause-earlier : goal.give_jump-requires-clause-earlier
give_jump-requires-clause-earlier g c = omega (arith, c.requires.ready.space.earlier, c.args.self.now.earlier.ok.0, c.requires.ready.tracked.chained.labels.same_length, length-map c.args.self.now.uses.items (λ (u : Use g.row.K.Denot). label_of u.target), (jump_kept g.K.MachInstLabelUse.kinds g.met.K.MachInstLabelUse.lawful c.args.self.now c.args.index c.requires.ready c.args.class c.requires.class c.in-Near.is).1)

pub give_far-requires-clause-short : goal.give_far-requires-clause-short
give_far-requires-clause-short g c = omega (arith, c.requires.ready.may.short, (far_kept g.K.MachInstLabelUse.kinds g.met.K.MachInstLabelUse.lawful c.args.self.now c.args.index c.requires.ready c.args.class c.requires.class c.in-Far.is).0)

pub give_far-requires-clause-words : goal.give_far-requires-clause-words
give_far-requires-clause-words g c = omega (arith, c.requires.ready.space.words, g.met.K.MachInstLabelUse.lawful.far_length, (far_kept g.K.MachInstLabelUse.kinds g.met.K.MachInstLabelUse.lawful c.args.self.now c.args.index c.requires.ready c.args.class c.requires.class c.in-Far.is).0)

pub give_far-requires-clause-uses : goal.give_far-requires-clause-uses
give_far-requires-clause-uses g c = omega (arith, c.requires.ready.space.uses, c.args.self.now.uses.ok.0, (far_kept g.K.MachInstLabelUse.kinds g.met.K.MachInstLabelUse.lawful c.args.self.now c.args.index c.requires.ready c.args.class c.requires.class c.in-Far.is).1)

pub give_far-requires-clause-earlier : goal.give_far-requires-clause-earlier
give_far-requires-clause-earlier g c = omega (arith, c.requires.ready.space.earlier, c.args.self.now.earlier.ok.0, c.requires.ready.tracked.chained.labels.same_length, length-map c.args.self.now.uses.items (λ (u : Use g.row.K.Denot). label_of u.target), (far_kept g.K.MachInstLabelUse.kinds g.met.K.MachInstLabelUse.lawful c.args.self.now c.args.index c.requires.ready c.args.class c.requires.class c.in-Far.is).1)

pub returns-in-Near-clause-gives : goal.returns-in-Near-clause-gives
returns-in-Near-clause-gives g c = jump_ready g.K.MachInstLabelUse.kinds g.met.K.MachInstLabelUse.lawful c.args.self.now c.args.index c.requires.ready c.args.class c.requires.class (seen c.give_jump.new.self) c.in-Near.is c.give_jump.ensures.gives

pub returns-in-Far-clause-gives : goal.returns-in-Far-clause-gives
returns-in-Far-clause-gives g c = far_ready g.K.MachInstLabelUse.kinds g.met.K.MachInstLabelUse.lawful c.args.self.now c.args.index c.requires.ready c.args.class c.requires.class (seen c.give_far.new.self) c.in-Far.is c.give_far.ensures.gives

pub unreachable-requires : goal.unreachable-requires
unreachable-requires g c = label_waits g.K.MachInstLabelUse.kinds g.met.K.MachInstLabelUse.lawful c.args.self.now c.args.index c.requires.ready c.args.class c.requires.class c.args.label c.requires.label c.in-Load.is
