use Rattle.std.proofs.Common.{◌∙◌, ap}
use Rattle.a64_buffer.specs.Constants.{contents_bytes}
use Rattle.a64_buffer.proofs.Contents.{bytes_none}
use Rattle.a64_buffer.proofs.constants.Constants.new.Goals as goal

pub returns : goal.returns
returns c = ap contents_bytes c.new.ensures ∙ bytes_none
