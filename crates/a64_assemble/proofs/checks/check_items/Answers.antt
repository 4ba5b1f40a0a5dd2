use Rattle.std.proofs.Common.{◌∙◌, ap, arith, sym, take}
use Rattle.std.proofs.lemmas.Option.{IfSome_then}
use Rattle.a64_emit.specs.Bounds.{saturated, whole}
use Rattle.a64_cells.specs.Cells.{cells_of}
use Rattle.a64_emit.specs.Faults.{bindings}
use Rattle.std.specs.Option.{option_or}
use Rattle.std.proofs.Common.{◌+◌, drop}
use Rattle.a64_cells.specs.FormCells.{HoldsHalfword}
use Rattle.a64_assemble.specs.declared.checks.Totals.{Totals}
use Rattle.a64_assemble.specs.Looks.{bare}
use Rattle.a64_assemble.proofs.Bindings.{missing_more, missing_of, missing_same}
use Rattle.a64_assemble.proofs.Looked.{burden_more, found_is, from_three, lesser_none, light_more}
use Rattle.a64_assemble.proofs.Sizes.{saturated_none}
use Rattle.a64_assemble.proofs.Owns.{fault_behind, one_more_holds}
use Rattle.a64_assemble.proofs.checks.check_items.Goals.{in-Bare, in-Binding, in-Light, in-Right}
use Rattle.a64_assemble.proofs.checks.check_items.Goals as goal

pub loop-i-preserved : goal.loop-i-preserved
loop-i-preserved c =
    let frame = c.args.frame.now in
    let flags = c.args.info.now in
    let items = c.args.items.now in
    let i = c.loop-i.i in
    let x = c.index-items-i.result in
    let before = c.loop-i.invariant in
    let within = c.loop-i-test.true in
    let halfwords = one_more_holds HoldsHalfword items i x within c.index-items-i.is c.holds_halfword.ensures before.halfwords in
    elim c.match-look_at.branch [
      | in-Binding w ↦
          let right = rw w.in-Binding.is at c.look_at.ensures in
          let same = ap (λ (t : Totals). t.missing) w.totals-is in
          let sum = whole frame flags (take i items) in
          record {
            own_is = sym (fault_behind frame flags c.args.constants.now items i x within c.index-items-i.is right.right) ∙ before.own_is;
            halfwords = halfwords;
            missing_is = IfSome_then c.args.bound before.missing_is (λ map e.
                ap (λ o. option_or o (missing_of frame flags (bindings items) (drop (i + 1) items))) same
                ∙ missing_same frame flags (bindings items) items i x x c.loop-i.totals.missing within (sym c.index-items-i.is) right.adds.uses
                ∙ e);
            totals_are =
                light_more frame flags items i x within (sym c.index-items-i.is) c.loop-i.size c.match-look_at.size c.loop-i.totals c.match-look_at.totals before.totals_are (bare 0) right.adds right.place
                (w.size-is ∙ saturated_none c.loop-i.size sum before.totals_are.size_is)
                (ap (λ (t : Totals). t.near) w.totals-is)
                (ap (λ (t : Totals). t.shortest) w.totals-is ∙ sym (lesser_none c.loop-i.totals.shortest))
                (omega (arith, ap (λ (t : Totals). t.widest) w.totals-is));
          }
      | in-Bare w ↦
          let right = rw w.in-Bare.is at c.look_at.ensures in
          let same = ap (λ (t : Totals). t.missing) w.totals-is in
          record {
            own_is = sym (fault_behind frame flags c.args.constants.now items i x within c.index-items-i.is right.right) ∙ before.own_is;
            halfwords = halfwords;
            missing_is = IfSome_then c.args.bound before.missing_is (λ map e.
                ap (λ o. option_or o (missing_of frame flags (bindings items) (drop (i + 1) items))) same
                ∙ missing_same frame flags (bindings items) items i x x c.loop-i.totals.missing within (sym c.index-items-i.is) right.adds.uses
                ∙ e);
            totals_are =
                light_more frame flags items i x within (sym c.index-items-i.is) c.loop-i.size c.match-look_at.size c.loop-i.totals c.match-look_at.totals before.totals_are (bare w.in-Bare.growth) right.adds right.place
                (w.size-is ∙ w.saturating_add-size.ensures)
                (ap (λ (t : Totals). t.near) w.totals-is)
                (ap (λ (t : Totals). t.shortest) w.totals-is ∙ sym (lesser_none c.loop-i.totals.shortest))
                (ap (λ (t : Totals). t.widest) w.totals-is ∙ w.wider.ensures);
          }
      | in-Light w ↦
          let right = rw w.in-Light.is at c.look_at.ensures in
          record {
            own_is = sym (fault_behind frame flags c.args.constants.now items i x within c.index-items-i.is right.right) ∙ before.own_is;
            halfwords = halfwords;
            missing_is = from_three c.args.bound c.requires before.missing_is w.add_light.ensures.missing (λ map has e step.
                missing_more frame flags (bindings items) items i x x c.loop-i.totals.missing c.match-look_at.totals.missing within (sym c.index-items-i.is)
                (ap (λ (t : Totals). t.missing) w.totals-is ∙ step (bindings items) has (cells_of frame flags x) right.adds.uses)
                ∙ e);
            totals_are =
                light_more frame flags items i x within (sym c.index-items-i.is) c.loop-i.size c.match-look_at.size c.loop-i.totals c.match-look_at.totals before.totals_are w.in-Light.light right.adds right.place
                (w.size-is ∙ w.saturating_add-size-in-Light.ensures)
                (ap (λ (t : Totals). t.near) w.totals-is ∙ w.add_light.ensures.near)
                (ap (λ (t : Totals). t.shortest) w.totals-is ∙ w.add_light.ensures.shortest)
                (ap (λ (t : Totals). t.widest) w.totals-is ∙ w.add_light.ensures.widest);
          }
      | in-Right w ↦
          let own = rw w.in-Right.is at c.look_at.ensures in
          let extent = w.burden_apart-burden.result.extent in
          let uses = w.burden_apart-burden.ensures.uses in
          let wide = w.add_burden.ensures.widest in
          record {
            own_is = sym (fault_behind frame flags c.args.constants.now items i x within c.index-items-i.is own) ∙ before.own_is;
            halfwords = halfwords;
            missing_is = from_three c.args.bound c.requires before.missing_is w.add_burden.ensures.missing (λ map has e step.
                missing_more frame flags (bindings items) items i x x c.loop-i.totals.missing c.match-look_at.totals.missing within (sym c.index-items-i.is)
                (ap (λ (t : Totals). t.missing) w.totals-is ∙ step (bindings items) has (cells_of frame flags x) uses)
                ∙ e);
            totals_are =
                burden_more frame flags items i x within (sym c.index-items-i.is) c.loop-i.size c.match-look_at.size c.loop-i.totals c.match-look_at.totals before.totals_are extent wide.0 w.burden_apart-burden.ensures.extent wide.1
                (w.size-is ∙ w.saturating_add-size-in-Right.ensures ∙ ap (λ n. saturated (n + extent.charge)) w.saturating_add.ensures)
                (ap (λ (t : Totals). t.near) w.totals-is ∙ w.add_burden.ensures.near (cells_of frame flags x) uses)
                (ap (λ (t : Totals). t.shortest) w.totals-is ∙ w.add_burden.ensures.shortest)
                (ap (λ (t : Totals). t.widest) w.totals-is ∙ wide.2);
          }
    ]

pub returns-clause-found : goal.returns-clause-found
returns-clause-found c =
    IfSome_then c.args.bound c.loop-i.invariant.missing_is (λ map e.
    found_is c.args.frame.now c.args.info.now c.args.items.now c.loop-i.i c.loop-i.size c.loop-i.totals c.found_of.result c.loop-i-test.false c.loop-i.invariant.totals_are e c.found_of.ensures.ok c.found_of.ensures.err)
