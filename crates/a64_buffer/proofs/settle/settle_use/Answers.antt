use Rattle.std.proofs.Common.{◌≡◌, ◌+◌, ◌-◌, arith}
use Rattle.a64_buffer.proofs.Settling.{code_patched}
use Rattle.a64_buffer.proofs.settle.settle_use.Goals as goal

pub returns : goal.returns
returns g c =
    let size : c.args.use_offset + 4 - c.args.use_offset ≡ 4 = omega arith in
    code_patched g.K.MachInstLabelUse.kinds c.args.kind c.args.use_offset c.args.place (c.args.use_offset + 4 - c.args.use_offset) c.args.bytes.now c.patch.new.buffer size c.requires.inside c.patch.auto.buffer c.patch.ensures.rest c.patch.ensures.leads
