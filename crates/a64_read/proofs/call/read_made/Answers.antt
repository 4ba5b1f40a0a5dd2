use Rattle.std.proofs.Common.{List, ◌∷◌, None, subst}
use Rattle.a64_tokens.specs.declared.value.Value.{Value}
use Rattle.a64_read.specs.PartLaws.{part_field}
use Rattle.a64_read.specs.Parts.{IsPart}
use Rattle.a64_tokens.specs.Splitting.{comma_tokens}
use Rattle.a64_read.proofs.CallReads.{no_call, made_read}
use Rattle.a64_read.proofs.Schemas.{Names, none_made, made_of}
use Rattle.a64_read.proofs.call.read_made.Goals as goal

pub returns-in_err-name : goal.returns-in_err-name
returns-in_err-name g c =
    let s = g.N.Call in
    let m = g.met.N.Call in
    let n : Names _ _ = record {
      text = g.N.Named.text;
      kinds_of = g.N.Named.kinds_of;
      name_of = s.name_of;
      fields_of = s.fields_of;
      own = s.own;
      makes = s.makes;
      made_some = m.made_some;
      made_only = m.made_only;
      fields_kinds = m.fields_kinds;
    } in
    rw c.from_residual.ensures (no_call n m.apart m.some_field c.args.token.now c.in_err-name.ensures)

pub returns-in_err-name-2 : goal.returns-in_err-name-2
returns-in_err-name-2 g c =
    let s = g.N.Call in
    let m = g.met.N.Call in
    let n : Names _ _ = record {
      text = g.N.Named.text;
      kinds_of = g.N.Named.kinds_of;
      name_of = s.name_of;
      fields_of = s.fields_of;
      own = s.own;
      makes = s.makes;
      made_some = m.made_some;
      made_only = m.made_only;
      fields_kinds = m.fields_kinds;
    } in
    let inside = c.in_ok-name.inside.now in
    let name = c.in_ok-name.name.now in
    rw c.from_residual-in_err-name-2.ensures (made_read n m.apart m.some_field c.args.token.now name inside c.in_ok-name.ensures None (none_made n IsPart part_field (name ∷ comma_tokens inside) c.in_err-name-2.ensures.read))

pub returns : goal.returns
returns g c =
    let s = g.N.Call in
    let m = g.met.N.Call in
    let n : Names _ _ = record {
      text = g.N.Named.text;
      kinds_of = g.N.Named.kinds_of;
      name_of = s.name_of;
      fields_of = s.fields_of;
      own = s.own;
      makes = s.makes;
      made_some = m.made_some;
      made_only = m.made_only;
      fields_kinds = m.fields_kinds;
    } in
    let inside = c.in_ok-name.inside.now in
    let name = c.in_ok-name.name.now in
    let values = c.read_schema.new.values.items in
    let makes = subst (λ (vs : List Value). s.makes c.in_ok-name-2.name vs c.make.result) c.as_slice.ensures.value c.make.ensures in
    made_read n m.apart m.some_field c.args.token.now name inside c.in_ok-name.ensures c.make.result (made_of n IsPart part_field (name ∷ comma_tokens inside) c.in_ok-name-2.name values c.in_ok-name-2.ensures.read c.make.result makes)
