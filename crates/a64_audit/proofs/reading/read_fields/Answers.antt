use Rattle.std.proofs.Common.{◌≡◌, ◌∙◌}
use Rattle.std.specs.Prelude.{codes}
use Rattle.std.specs.Cmp.Lexicographic.{same_text}
use Rattle.a64_audit.proofs.EntryReads.{word_read}
use Rattle.a64_audit.proofs.reading.read_fields.Goals as goal

pub returns-then-eq : goal.returns-then-eq
returns-then-eq c =
    let named : c.args.name.now ≡ codes "word" = same_text c.args.name.now c.as_slice.result.now c.if-eq.ensures ∙ c.as_slice.ensures in
    word_read c.args.name.now c.args.first.now c.args.second.now named c.in_ok-place.place c.in_ok-word.word c.in_ok-place.ensures c.in_ok-word.ensures
