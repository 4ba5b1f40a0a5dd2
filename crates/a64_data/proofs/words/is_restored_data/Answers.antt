use Rattle.std.proofs.Common.{◌∙◌, sym}
use Rattle.a64_data.proofs.Forms.{no_word, restored_data}
use Rattle.a64_data.proofs.words.is_restored_data.Goals as goal

pub returns-in_default : goal.returns-in_default
returns-in_default c =
    sym (no_word c.args.inst.now c.in_default.not-Word4 c.in_default.not-Word8)
    ∙ sym (restored_data c.args._frame.now c.args._info.now c.args.inst.now)
