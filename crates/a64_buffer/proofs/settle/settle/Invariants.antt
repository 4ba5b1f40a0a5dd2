use Rattle.std.proofs.Common.{◌≡◌, length, take}
use Rattle.a64_words.specs.Word.{words_of}
use Rattle.a64_buffer.specs.Settled.{IsSettledCode}
use Rattle.a64_buffer.proofs.settle.settle.Given as goal

abbrev pub invariant-loop-site : goal.invariant-loop-site
invariant-loop-site g l = record {
  settled : IsSettledCode g.K.MachInstLabelUse.kinds (words_of l.fn.bytes) (take l.site-index l.uses) l.bytes;
  long : length l.bytes ≡ length l.fn.bytes;
}
