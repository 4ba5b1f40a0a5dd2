-- What `assemble` answers.
use Rattle.std.specs.Prelude.{◌≡◌, ◌⊎◌, ℕ, true, List, [], All, map, None, Some}
use Rattle.std.specs.Ordering.{nat_cmp}
use Rattle.std.specs.FinMap.{FinMap}
use Rattle.a64_inst.specs.declared.emission.EmitFlags.{EmitFlags}
use Rattle.a64_inst.specs.declared.frame.FrameLayout.{FrameLayout}
use Rattle.a64_inst.specs.declared.item.Item.{Item}
use Rattle.a64_buffer.specs.declared.force.ForceVeneers.{ForceVeneers}
use Rattle.a64_buffer.specs.declared.force.ForceVeneers.TheVariants.{Yes}
use Rattle.a64_emit.specs.declared.code.Code.{Code}
use Rattle.a64_emit.specs.declared.error.EmitError.{EmitError}
use Rattle.a64_emit.specs.declared.error.EmitError.TheVariants.{OutOfMemory}
use Rattle.a64_cells.specs.Cells.{cells_of}
use Rattle.a64_emit.specs.Leads.{Leads, HaveOwnTraps}
use Rattle.a64_emit.specs.Layout.{standing, Laid}
use Rattle.a64_emit.specs.Reach.{is_quiet}
use Rattle.a64_emit.specs.Records.{HasRecords}
use Rattle.a64_emit.specs.Faults.{own_fault, fault_of}
use Rattle.a64_assemble.specs.Placement.{IsIslandByNeed, AreForced, IsShort}
use Rattle.a64_assemble.specs.Fillings.{IsFilledIsland, IsFilledPool}
use Rattle.a64_assemble.specs.OwnStops.{StopAhead, HaveOwnVeneers}
use Rattle.a64_assemble.specs.ReadBack.{IsReadBack}

module _ (frame : FrameLayout) (flags : EmitFlags) (constants : FinMap nat_cmp (List ℕ))
    (force : ForceVeneers) (items : List Item) where
  -- code of items that have no fault: they stand at their places, and each use leads to its target
  pub record IsAssembled (code : Code) : Type 0 where
    pub no_fault : fault_of frame flags constants force items ≡ None
    pub laid : Laid frame flags items code
    pub leads : Leads code constants (standing (map (cells_of frame flags) items) code.places.items)
    pub own_traps : HaveOwnTraps code
        (standing (map (cells_of frame flags) items) code.places.items)
    pub records : HasRecords frame flags items code
    -- each finished word is decoded to the form that was put, with only the field of its use
    -- changed, or is the data that was put and is no use
    pub read_back : All (IsReadBack code.bytes.items)
        (standing (map (cells_of frame flags) items) code.places.items)
    -- an island stands only where one is needed, or where one is forced and something is open
    pub islands : All (IsIslandByNeed frame flags items code force) code.islands.items
    -- where one is forced and something is open, one does stand
    pub forced : force ≡ Yes → AreForced frame flags items code
    -- where nothing can want one there is none
    pub quiet : is_quiet frame flags force items ≡ true → code.islands.items ≡ []
    -- islands hold what uses wait for there, and nothing else
    pub filled : All (IsFilledIsland frame flags items constants code) code.islands.items
    -- so does the pool
    pub pool : IsFilledPool frame flags items constants code
    -- each use leads ahead, or to its label
    pub ahead : StopAhead frame flags items code
    -- each branch that passes veneers has a first one of its own
    pub own_veneers : HaveOwnVeneers frame flags items code
    pub short : IsShort frame flags items code

  -- a refusal: the first fault, or want of memory, which comes only where each item is right by
  -- itself
  abbrev pub IsRefusal : EmitError → Type 0
  IsRefusal error =
      (fault_of frame flags constants force items ≡ Some error)
      ⊎ ((error ≡ OutOfMemory) × (own_fault frame flags constants items ≡ None))
