use Rattle.std.proofs.Common.{arith}
use Rattle.a64_buffer.specs.declared.site.Target.TheVariants.{Label}
use Rattle.a64_buffer.proofs.Clients.{on_ok, made_room, use_fits}
use Rattle.a64_tests.proofs.load.add_use.Goals as goal

pub use_label_at_offset-requires-clause-fits : goal.use_label_at_offset-requires-clause-fits
use_label_at_offset-requires-clause-fits g c = rw (c.in_ok-put4.ensures.ok, c.cur_offset-offset.ensures.value)
    (use_fits g.K.MachInstLabelUse.kinds g.met.K.MachInstLabelUse.lawful c.make_room.new.buffer 0 c.args.word (Label c.args.label) c.args.kind c.cur_offset-offset.ensures.whole (omega (arith, c.requires.ranges)) (made_room g.K.MachInstLabelUse.kinds 32 c.args.buffer.now c.make_room.new.buffer c.in_ok-make_room.ensures))

pub returns : goal.returns
returns g c = on_ok c.use_label_at_offset.result _ _
    (λ h. record { before = c.make_room.new.buffer; room = c.in_ok-make_room.ensures; is = rw (c.in_ok-put4.ensures.ok, c.cur_offset-offset.ensures.value) at h })
    c.use_label_at_offset.ensures.ok
