use Rattle.std.proofs.Common.{◌/◌, nat_eq, ap, ◌∙◌}
use Rattle.a64_imms.specs.Scales.{type_bytes}
use Rattle.a64_imms.specs.ScaledOffsets.{uimm12_value, uimm12_scale}
use Rattle.a64_inst.proofs.Units.{in_units}
use Rattle.a64_inst.proofs.fault.memory.mode.is_in_units.Goals as goal

pub returns-else-value-eq0 : goal.returns-else-value-eq0
returns-else-value-eq0 c =
    let same = c.value-value.ensures.value in
    ap (λ n. nat_eq (n / c.bits.result) c.args.bytes) same
    ∙ in_units c.bits.result (type_bytes (uimm12_scale c.args.uimm12)) (uimm12_value c.args.uimm12) c.args.bytes
    c.bits.ensures.exact (λ none. c.if-value-eq0.false (same ∙ none))
