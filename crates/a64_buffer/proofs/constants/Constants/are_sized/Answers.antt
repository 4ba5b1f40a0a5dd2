use Rattle.std.proofs.Common.{subst}
use Rattle.a64_buffer.specs.Constants.{AreConstants}
use Rattle.a64_buffer.proofs.Contents.{contents_sized}
use Rattle.a64_buffer.proofs.constants.Constants.are_sized.Goals as goal

pub returns : goal.returns
returns c = subst AreConstants c.self.view_is (contents_sized c.self.inside.contents)
