use Rattle.std.proofs.Common.{◌≡◌, ◌≤◌, take, drop, length}
use Rattle.a64_tokens.specs.Splitting.{of_text, behind_text}
use Rattle.a64_read.proofs.Rest.{Rest}
use Rattle.a64_read.proofs.fields.read_fields.Given as goal

abbrev pub invariant-loop-place : goal.invariant-loop-place
invariant-loop-place g l = record {
  within : l.place ≤ length l.kinds;
  count : l.place ≤ length l.values.items;
  rest : Rest g.L.FieldRow.fits l.kinds (of_text g.L.FieldRow.tokens l.text) (take l.place l.values.items) (drop l.place l.kinds) (of_text g.L.FieldRow.tokens l.more);
  behind : behind_text g.L.FieldRow.behind l.more l.left ≡ behind_text g.L.FieldRow.behind l.text l.lines;
}
