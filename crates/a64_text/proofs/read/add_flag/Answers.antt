use Rattle.std.proofs.Common.{Bool, Some}
use Rattle.a64_text.specs.declared.name.Name.TheVariants as names
use Rattle.a64_text.specs.AddsLine.{AddsEntry, AddsMade}
use Rattle.a64_text.proofs.Adds.{all_ok}
use Rattle.a64_text.proofs.read.add_flag.Goals as goal

pub returns : goal.returns
returns c =
    all_ok (λ (made : Bool). AddsEntry (Some c.make_flag.result) c.args.state.now c.add_once.new.state made) (AddsMade names.Flag c.args.values.now c.args.state.now c.add_once.new.state)
    (λ made h. (Some c.make_flag.result, c.make_flag.ensures.made, h))
    c.add_once.result c.add_once.ensures
