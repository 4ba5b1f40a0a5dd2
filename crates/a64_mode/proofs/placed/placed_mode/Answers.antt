use Rattle.std.proofs.Common.{rules}
use Rattle.a64_inst.specs.Modes.{BaseOffset, StandsFor}
use Rattle.a64_mode.proofs.Addresses.{reaches}
use Rattle.a64_mode.proofs.placed.placed_mode.Goals as goal

pub returns-in-None-clause-address : goal.returns-in-None-clause-address
returns-in-None-clause-address c =
    let place : BaseOffset = record { base = c.args.base; offset = c.args.offset } in
    let stands : StandsFor c.args.ty place c.far_mode.result = search rules in
    reaches c.args.ty place c.far_mode.result stands
