-- What code that is made of items is: each fact told from its finished bytes.
use Rattle.std.proofs.Common.{ℕ, ◌≡◌, ◌+◌, ◌<◌, ◌^◌, true, false, List, get_or, map, None, ◌∙◌, subst, nat_cmp}
use Rattle.std.specs.Prelude.{All}
use Rattle.std.specs.FinMap.{FinMap}
use Rattle.a64_inst.specs.declared.emission.EmitFlags.{EmitFlags}
use Rattle.a64_inst.specs.declared.frame.FrameLayout.{FrameLayout}
use Rattle.a64_inst.specs.declared.item.Item.{Item}
use Rattle.a64_buffer.specs.declared.force.ForceVeneers.{ForceVeneers}
use Rattle.a64_buffer.specs.Buffer.{Buffer, end_of, IsBound, IsReached}
use Rattle.a64_buffer.specs.Classes.{owed}
use Rattle.a64_buffer.specs.Sound.{IsKinded}
use Rattle.a64_emit.specs.declared.code.Code.{Code}
use Rattle.a64_emit.specs.declared.error.EmitError.TheVariants.{OutOfReach}
use Rattle.a64_label_use.specs.declared.label_use.LabelUse.{LabelUse}
use Rattle.a64_label_use.specs.LabelUses.{label_kinds}
use Rattle.a64_emit.specs.Bounds.{whole}
use Rattle.a64_cells.specs.Cells.{cells_of, sites_of, all_cells}
use Rattle.a64_cells.specs.FormCells.{RestoresHalfwords, HoldsHalfword}
use Rattle.a64_emit.specs.Faults.{own_fault, second_binding, unbound_use, too_large, or_else, fault_of}
use Rattle.a64_emit.specs.Reach.{out_of_reach, first_far_from, is_quiet}
use Rattle.a64_emit.specs.Layout.{standing}
use Rattle.a64_emit.specs.Leads.{Leads}
use Rattle.a64_emit.proofs.Burdens.{all_targets, target_kinded}
use Rattle.a64_assemble.specs.Assembled.{IsAssembled}
use Rattle.a64_assemble.specs.Elements.{elements_of}
use Rattle.a64_assemble.specs.Fillings.{IsFilledIsland, IsFilledPool}
use Rattle.a64_assemble.specs.Made.{HasPutAll, IsMadeOf}
use Rattle.a64_assemble.specs.Progress.{AreGood, AreQuiet}
use Rattle.a64_assemble.proofs.Arrivals.{IsOutput}
use Rattle.a64_assemble.proofs.Caused.{islands_by_need, islands_forced, bytes_short}
use Rattle.a64_assemble.proofs.Checked.{mapped_none}
use Rattle.a64_assemble.proofs.CodeRecords.{code_records}
use Rattle.a64_assemble.proofs.Directs.{all_bound, all_direct}
use Rattle.a64_assemble.proofs.Filling.{pool_filled, islands_filled}
use Rattle.a64_assemble.proofs.Finishing.{code_quiet}
use Rattle.a64_assemble.proofs.Islanded.{is_laid}
use Rattle.a64_assemble.proofs.ItemsRead.{all_free, items_read_back}
use Rattle.a64_assemble.proofs.Itemized.{near_same, bound_all, quiet_same}
use Rattle.a64_assemble.proofs.Leading.{code_leads, code_own_traps}
use Rattle.a64_assemble.proofs.Owns.{earlier_none}
use Rattle.a64_assemble.proofs.OwnVeneers.{code_ahead, own_veneers}
use Rattle.a64_assemble.proofs.Progress.{short_all}
use Rattle.a64_assemble.proofs.FirstPut.{are_good}

module _ (frame : FrameLayout) (flags : EmitFlags) (force : ForceVeneers) (items : List Item) where
  kinded : All (λ s. IsKinded label_kinds s.target s.kind) (sites_of (all_cells frame flags items))
  kinded k d w = target_kinded (get_or (sites_of (all_cells frame flags items)) k d).target (get_or (sites_of (all_cells frame flags items)) k d).kind (all_targets frame flags items k d w)

  pub quiet_elements : is_quiet frame flags force items ≡ true → AreQuiet force (elements_of frame flags items)
  quiet_elements = quiet_same frame flags force items kinded

  module _ (once : second_binding items ≡ None) (bound : unbound_use frame flags items ≡ None) (short : whole frame flags items < 2 ^ 31) (near : out_of_reach frame flags force items ≡ None) where
    good : AreGood (elements_of frame flags items)
    good = are_good frame flags items once short

    -- ---- what the buffer asks for, before it is finished

    module _ (places : List ℕ) (b : Buffer LabelUse) (h : HasPutAll force (elements_of frame flags items) places b) where
      pub short_enough : end_of b + owed label_kinds b < 2 ^ 31
      short_enough = short_all force (elements_of frame flags items) good places b h.put

      pub bound_uses : All (IsBound b.labels) b.uses
      bound_uses = all_bound force (elements_of frame flags items) places b h.put h.distances (bound_all frame flags items bound)

      pub direct_uses : All (λ u. label_kinds.veneers u.kind ≡ false → IsReached label_kinds b.labels u) b.uses
      direct_uses =
          all_direct force (elements_of frame flags items) places b h.put h.distances (is_quiet frame flags force items) (λ quiet. (h.put.quiet (quiet_elements quiet)).0)
          (near_same frame flags force items once (mapped_none OutOfReach (first_far_from frame flags force items 0 items) near)) (bound_all frame flags items bound) h.whole

    -- ---- what the finished code is

    module _ (constants : FinMap nat_cmp (List ℕ)) (code : Code) (m : IsMadeOf frame flags constants force items code) where
      output : IsOutput m.finished code
      output = record { bytes = m.handed_out.bytes; labels = m.handed_out.labels; islands = m.handed_out.islands; pool = m.handed_out.pool; traps = m.handed_out.traps }

      pub assembled : RestoresHalfwords frame → All HoldsHalfword items → fault_of frame flags constants force items ≡ None → IsAssembled frame flags constants force items code
      assembled restored fit none = record {
        no_fault = none;
        laid = is_laid frame flags items force m.buffer m.finished m.is_finished code output m.put.put;
        leads = subst (λ (cs : FinMap nat_cmp (List ℕ)). Leads code cs (standing (map (cells_of frame flags) items) code.places.items)) m.constants_are (code_leads frame flags items force m.buffer m.finished m.is_finished code output m.put.put);
        own_traps = code_own_traps frame flags items force m.buffer m.finished m.is_finished code output m.put.put;
        records = code_records frame flags items force m.buffer m.finished m.is_finished code output m.put.put m.put.owned m.put.recorded m.handed_out.relocs m.handed_out.calls m.handed_out.patchable m.handed_out.maps;
        read_back =
            items_read_back frame flags items constants code restored fit
            (earlier_none (own_fault frame flags constants items) (or_else (second_binding items) (or_else (unbound_use frame flags items) (or_else (too_large frame flags items) (out_of_reach frame flags force items)))) none)
            m.small (is_laid frame flags items force m.buffer m.finished m.is_finished code output m.put.put) (all_free frame flags items force m.buffer m.finished m.is_finished code output m.put.put);
        islands = islands_by_need frame flags items force m.buffer m.finished m.is_finished code output good m.put.put m.put.owned;
        forced = islands_forced frame flags items force m.buffer m.finished m.is_finished code output good m.put.put m.put.owned;
        quiet = λ quiet. m.handed_out.islands ∙ code_quiet force (elements_of frame flags items) good code.places.items m.buffer m.put.put m.finished m.is_finished (quiet_elements quiet);
        filled = subst (λ (cs : FinMap nat_cmp (List ℕ)). All (IsFilledIsland frame flags items cs code) code.islands.items) m.constants_are (islands_filled frame flags items force m.buffer m.finished m.is_finished code output m.put.put m.put.owned m.sized m.bound);
        pool = subst (λ (cs : FinMap nat_cmp (List ℕ)). IsFilledPool frame flags items cs code) m.constants_are (pool_filled frame flags items force m.buffer m.finished m.is_finished code output m.put.put m.put.owned m.sized m.bound);
        ahead = code_ahead frame flags items force m.buffer m.finished m.is_finished code output m.put.put m.put.owned;
        own_veneers = own_veneers frame flags items force m.buffer m.finished m.is_finished code output m.put.put m.put.owned;
        short = bytes_short frame flags items force m.buffer m.finished m.is_finished code output good m.put.put m.put.owned;
      }
