-- A mask of `width` ones takes the remainder by `2 ^ width`.
use Rattle.std.proofs.Common.{◌-◌, ◌/◌, ◌^◌, ◌<◌, ap, sym, ◌∙◌, bit_and}
use Rattle.std.proofs.lemmas.Nat.{one_shl, and_mask}
use Rattle.a64_rows.specs.Forms.{value_in}
use Rattle.a64_rows.proofs.slots.Slot.value_in.Goals as goal

pub returns-in-Bits : goal.returns-in-Bits
returns-in-Bits c =
    let narrow : c.in-Bits.width < 32 = rw c.in-Bits.is at c.requires.width_in in
    ap (λ x. bit_and (c.args.word / 2 ^ c.in-Bits.lowest) (x - 1)) (one_shl c.in-Bits.width 32 narrow)
    ∙ and_mask (c.args.word / 2 ^ c.in-Bits.lowest) c.in-Bits.width
    ∙ ap (value_in c.args.word) (sym c.in-Bits.is)
