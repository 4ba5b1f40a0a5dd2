use Rattle.a64_emit.proofs.Restored.{restored_word}
use Rattle.a64_emit.proofs.one_word.is_one_word.Goals as goal

pub returns : goal.returns
returns c = restored_word c.args._frame.now c.args._info.now c.args._inst.now c.requires
