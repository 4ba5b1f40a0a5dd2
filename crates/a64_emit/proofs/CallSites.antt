-- No word of a call is a use, nor one of a return that calls another function.
use Rattle.std.proofs.Common.{ℕ, ◌≡◌, Bool, true, false, List, [], ◌∷◌, ◌++◌, map, Option, None, refl, ap, ◌∙◌}
use Rattle.std.specs.Prelude.{if◌then◌else◌}
use Rattle.std.specs.List.{cons_option, flat_map}
use Rattle.std.proofs.lemmas.List.{append_assoc}
use Rattle.std.proofs.lemmas.List.Elements.{filter_map-append}
use Rattle.a64_base.specs.declared.key.APIKey.{APIKey}
use Rattle.a64_base.specs.declared.reg.Reg.{Reg}
use Rattle.a64_inst.specs.declared.call.CallRetPair.{CallRetPair}
use Rattle.a64_inst.specs.declared.call.RetLocation.{RetLocation}
use Rattle.a64_inst.specs.declared.call.RetLocation.TheVariants as locations
use Rattle.a64_inst.specs.declared.emission.EmitFlags.{EmitFlags}
use Rattle.a64_inst.specs.declared.frame.FrameLayout.{FrameLayout}
use Rattle.a64_inst.specs.declared.group.Group.TheVariants.{Call}
use Rattle.a64_inst.specs.declared.inst.Inst.{Inst}
use Rattle.a64_inst.specs.declared.inst.Inst.TheVariants as insts
use Rattle.a64_inst.specs.Accesses.{type_has_load_form}
use Rattle.a64_inst.specs.Groups.{group_of}
use Rattle.a64_rows.specs.Forms.{Form}
use Rattle.a64_cells.specs.declared.callee.Callee.{Callee}
use Rattle.a64_cells.specs.declared.callee.Callee.TheVariants.{Symbol, Address}
use Rattle.a64_cells.specs.declared.site.Site.{Site}
use Rattle.a64_cells.specs.Shapes.{Cell, FormOf, plain}
use Rattle.a64_cells.specs.Cells.{call_cells, inst_cells, leave_forms, lone_cell, other_shape, patchable_cells, pop_forms, restored_cell, result_cells, return_cell, return_cells, shape_cells, sites_of}
use Rattle.a64_cells.specs.MemoryForms.{access_form, access_steps}
use Rattle.a64_emit.proofs.CallLoads.{loading, loaded_cells, no_load, no_load_at}
use Rattle.a64_cells.proofs.Several.{plain_sites, several_sites}
use Rattle.a64_emit.proofs.TableUses.{behind_none}

-- ---- results

module _ (frame : FrameLayout) where
  location_sites : (vreg : Reg) (location : RetLocation) → sites_of (result_cells frame (record { vreg = vreg; location = location })) ≡ []
  location_sites vreg (locations.Reg preg ty) = refl
  location_sites vreg (locations.Stack offset ty) = go (type_has_load_form ty) refl
    where
      pair : CallRetPair
      pair = record { vreg = vreg; location = locations.Stack offset ty }

      go : (b : Bool) → type_has_load_form ty ≡ b → sites_of (result_cells frame pair) ≡ []
      go false e = ap sites_of (no_load frame pair (no_load_at vreg offset ty e))
      go true e =
          let load = loading vreg offset ty in
          ap sites_of (loaded_cells frame vreg offset ty e) ∙ several_sites (access_steps frame load) (FormOf (access_form frame load)) None None

  result_sites : (pair : CallRetPair) → sites_of (result_cells frame pair) ≡ []
  result_sites pair = location_sites pair.vreg pair.location

  results_sites : (defs : List CallRetPair) → sites_of (flat_map (result_cells frame) defs) ≡ []
  results_sites [] = refl
  results_sites (pair ∷ defs) =
      filter_map-append (λ cell. cell.site) (result_cells frame pair) (flat_map (result_cells frame) defs)
      ∙ ap (λ ss. ss ++ sites_of (flat_map (result_cells frame) defs)) (result_sites pair)
      ∙ results_sites defs

-- ---- what a frame restores

lone_site : (cells : List Cell) → (lone_cell cells).site ≡ None
lone_site [] = refl
lone_site (c ∷ cs) = refl

module _ (frame : FrameLayout) (flags : EmitFlags) where
  behind_restored : (restored : List Inst) (cells : List Cell) → sites_of (map (restored_cell frame flags) restored ++ cells) ≡ sites_of cells
  behind_restored [] cells = refl
  behind_restored (inst ∷ restored) cells =
      ap (λ (o : Option Site). cons_option o (sites_of (map (restored_cell frame flags) restored ++ cells))) (lone_site _)
      ∙ behind_restored restored cells

  -- ---- all words

  call_sites : (callee : Callee) (defs : List CallRetPair) (pop : ℕ) → sites_of (call_cells frame callee defs pop) ≡ []
  call_sites callee defs pop = behind_none (pop_forms pop) (flat_map (result_cells frame) defs) ∙ results_sites frame defs

  symbol_sites : (callee : Callee) (patchable : Bool) (defs : List CallRetPair) (pop : ℕ) → sites_of (if patchable then patchable_cells callee pop else call_cells frame callee defs pop) ≡ []
  symbol_sites callee true defs pop = plain_sites (pop_forms pop)
  symbol_sites callee false defs pop = call_sites callee defs pop

  return_sites : (callee : Callee) (size : ℕ) (key : Option APIKey) (all : Bool) → sites_of (return_cells frame flags callee size key all) ≡ []
  return_sites callee size key all =
      ap sites_of (append_assoc (map (restored_cell frame flags) frame.restore) (map plain (leave_forms frame size key all)) (return_cell callee ∷ []))
      ∙ behind_restored frame.restore (map plain (leave_forms frame size key all) ++ return_cell callee ∷ [])
      ∙ behind_none (leave_forms frame size key all) (return_cell callee ∷ [])

  -- of each call
  pub calls_sites : (inst : Inst) → group_of inst ≡ Call → sites_of (shape_cells (other_shape frame flags inst)) ≡ []
  calls_sites (insts.Call info) e = symbol_sites (Symbol info.dest) info.patchable info.defs info.callee_pop_size
  calls_sites (insts.CallInd info) e = call_sites (Address info.dest) info.defs info.callee_pop_size
  calls_sites (insts.ReturnCall info) e = return_sites (Symbol info.dest) info.new_stack_arg_size info.key info.sign_return_address_all
  calls_sites (insts.ReturnCallInd info) e = return_sites (Address info.dest) info.new_stack_arg_size info.key info.sign_return_address_all
  calls_sites _ e = absurd cc

  -- and of an instruction that is one
  pub call_inst_sites : (inst : Inst) → group_of inst ≡ Call → sites_of (inst_cells frame flags inst) ≡ []
  call_inst_sites (insts.Call info) e = calls_sites (insts.Call info) e
  call_inst_sites (insts.CallInd info) e = calls_sites (insts.CallInd info) e
  call_inst_sites (insts.ReturnCall info) e = calls_sites (insts.ReturnCall info) e
  call_inst_sites (insts.ReturnCallInd info) e = calls_sites (insts.ReturnCallInd info) e
  call_inst_sites _ e = absurd cc
