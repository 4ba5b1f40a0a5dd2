use Rattle.std.proofs.Common.{ℕ, ◌≡◌, ◌^◌, ◌<◌, None, List, get_or, sym, ap, subst, ◌∙◌, nat_cmp}
use Rattle.std.specs.FinMap.{FinMap}
use Rattle.a64_inst.specs.declared.frame.FrameLayout.{FrameLayout}
use Rattle.a64_buffer.specs.Buffer.{Buffer}
use Rattle.a64_buffer.specs.Constants.{AreConstants}
use Rattle.a64_label_use.specs.declared.label_use.LabelUse.{LabelUse}
use Rattle.a64_emit.specs.Bounds.{whole}
use Rattle.a64_emit.specs.Faults.{own_fault}
use Rattle.a64_assemble.specs.Elements.{BoundsRooms, elements_of}
use Rattle.a64_assemble.specs.Made.{HasPutAll}
use Rattle.a64_assemble.specs.Progress.{AreQuiet}
use Rattle.a64_assemble.proofs.Made.{quiet_elements, short_enough, bound_uses, direct_uses}
use Rattle.a64_assemble.proofs.assembly.placed.Goals as goal

pub put_items-requires-clause-good : goal.put_items-requires-clause-good
put_items-requires-clause-good c =
    let frame_is : c.new-state.result.frame ≡ c.args.frame.now = ap (λ s. s.frame) c.new-state.ensures ∙ c.in_ok-try_clone.ensures in
    let constants_are : c.in_ok-buffer.buffer.constants ≡ c.args.constants.now = ap (λ (b : Buffer LabelUse). b.constants) c.in_ok-buffer.ensures in
    subst (λ frame. own_fault frame c.args.info.now c.in_ok-buffer.buffer.constants c.args.items.now ≡ None) (sym frame_is)
    (subst (λ (cs : FinMap nat_cmp (List ℕ)). own_fault c.args.frame.now c.args.info.now cs c.args.items.now ≡ None) (sym constants_are) c.requires.good)

pub put_items-requires-clause-short : goal.put_items-requires-clause-short
put_items-requires-clause-short c =
    let frame_is : c.new-state.result.frame ≡ c.args.frame.now = ap (λ s. s.frame) c.new-state.ensures ∙ c.in_ok-try_clone.ensures in
    subst (λ frame. whole frame c.args.info.now c.args.items.now < 2 ^ 31) (sym frame_is) c.requires.found.short

pub put_items-requires-clause-wide : goal.put_items-requires-clause-wide
put_items-requires-clause-wide c =
    let frame_is : c.new-state.result.frame ≡ c.args.frame.now = ap (λ s. s.frame) c.new-state.ensures ∙ c.in_ok-try_clone.ensures in
    subst (λ (frame : FrameLayout). BoundsRooms c.args.found.widest (elements_of frame c.args.info.now c.args.items.now)) (sym frame_is) c.requires.found.wide

pub put_items-requires-clause-quiet : goal.put_items-requires-clause-quiet
put_items-requires-clause-quiet c = λ quiet.
    let frame_is : c.new-state.result.frame ≡ c.args.frame.now = ap (λ s. s.frame) c.new-state.ensures ∙ c.in_ok-try_clone.ensures in
    subst (λ (frame : FrameLayout). AreQuiet c.args.force (elements_of frame c.args.info.now c.args.items.now)) (sym frame_is)
    (quiet_elements c.args.frame.now c.args.info.now c.args.force c.args.items.now (sym (c.is_quiet.ensures c.args.frame.now c.args.info.now c.args.items.now c.requires.found) ∙ quiet))

pub finish-requires : goal.finish-requires
finish-requires c =
    let frame_is : c.new-state.result.frame ≡ c.args.frame.now = ap (λ s. s.frame) c.new-state.ensures ∙ c.in_ok-try_clone.ensures in
    let put = subst (λ (frame : FrameLayout). HasPutAll c.args.force (elements_of frame c.args.info.now c.args.items.now) c.in_ok-places.places.items c.put_items.new.buffer) frame_is c.in_ok-places.ensures.put in
    record {
      short = short_enough c.args.frame.now c.args.info.now c.args.force c.args.items.now c.requires.once c.requires.found.all_bound c.requires.found.short c.requires.near c.in_ok-places.places.items c.put_items.new.buffer put;
      bound = bound_uses c.args.frame.now c.args.info.now c.args.force c.args.items.now c.requires.once c.requires.found.all_bound c.requires.found.short c.requires.near c.in_ok-places.places.items c.put_items.new.buffer put;
      direct = direct_uses c.args.frame.now c.args.info.now c.args.force c.args.items.now c.requires.once c.requires.found.all_bound c.requires.found.short c.requires.near c.in_ok-places.places.items c.put_items.new.buffer put;
    }

pub returns : goal.returns
returns c =
    let frame_is : c.new-state.result.frame ≡ c.args.frame.now = ap (λ s. s.frame) c.new-state.ensures ∙ c.in_ok-try_clone.ensures in
    let out = c.code_of-code.ensures in
    let put = subst (λ (frame : FrameLayout). HasPutAll c.args.force (elements_of frame c.args.info.now c.args.items.now) c.in_ok-places.places.items c.put_items.new.buffer) frame_is c.in_ok-places.ensures.put in
    let constants_are = c.in_ok-places.ensures.constants ∙ ap (λ (b : Buffer LabelUse). b.constants) c.in_ok-buffer.ensures in
    record {
      buffer = c.put_items.new.buffer;
      finished = c.in_ok-finished.finished;
      constants_are = constants_are;
      sized = subst AreConstants (sym c.in_ok-places.ensures.constants) c.in_ok-places.ensures.sized;
      put = subst (λ places. HasPutAll c.args.force (elements_of c.args.frame.now c.args.info.now c.args.items.now) places c.put_items.new.buffer) (sym (ap (λ o. o.places.items) out)) put;
      bound = bound_uses c.args.frame.now c.args.info.now c.args.force c.args.items.now c.requires.once c.requires.found.all_bound c.requires.found.short c.requires.near c.in_ok-places.places.items c.put_items.new.buffer put;
      is_finished = c.in_ok-finished.ensures;
      handed_out = record {
        bytes = ap (λ o. o.bytes.items) out;
        labels = ap (λ o. o.labels.items) out;
        islands = ap (λ o. o.islands.items) out;
        pool = ap (λ o. o.pool) out;
        relocs = ap (λ o. o.relocs.items) out;
        traps = ap (λ o. o.traps.items) out;
        calls = ap (λ o. o.calls.items) out;
        patchable = ap (λ o. o.patchable.items) out;
        maps = ap (λ o. o.maps.items) out;
      };
      small = subst (λ (bytes : List ℕ). (k : ℕ) → get_or bytes k 0 < 256) c.deref.ensures.value c.are_bytes.ensures;
    }
