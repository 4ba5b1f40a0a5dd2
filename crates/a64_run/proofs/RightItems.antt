-- Want of memory is the answer only where each item of a file is right by itself.
use Rattle.std.proofs.Common.{◌≡◌, ◌≢◌, ℕ, ◌+◌, List, [], ◌∷◌, refl, ⊎_elim, Option, None, Some, option_map}
use Rattle.std.specs.Ordering.{nat_cmp}
use Rattle.std.specs.FinMap.{FinMap}
use Rattle.a64_inst.specs.declared.emission.EmitFlags.{EmitFlags}
use Rattle.a64_inst.specs.declared.frame.FrameLayout.{FrameLayout}
use Rattle.a64_inst.specs.declared.fault.OwnFault.{OwnFault}
use Rattle.a64_inst.specs.declared.fault.OwnFault.TheVariants as own
use Rattle.a64_inst.specs.declared.item.Item.{Item}
use Rattle.a64_buffer.specs.declared.force.ForceVeneers.{ForceVeneers}
use Rattle.a64_emit.specs.declared.error.EmitError.{EmitError}
use Rattle.a64_emit.specs.declared.error.EmitError.TheVariants.{OutOfMemory}
use Rattle.a64_emit.specs.Faults.{or_else, own_error, item_fault, own_fault_from, own_fault, second_binding, unbound_use, too_large}
use Rattle.a64_emit.specs.Reach.{out_of_reach}
use Rattle.a64_assemble.specs.Assembled.{IsRefusal}
use Rattle.a64_text.specs.declared.file.File.{File}
use Rattle.a64_run.specs.declared.command.Command.{Command}
use Rattle.a64_run.specs.declared.command.Command.TheVariants.{Asm, Gen}
use Rattle.a64_run.specs.declared.command.Command.TheVariants as commands
use Rattle.a64_run.specs.declared.input.Input.{Input}
use Rattle.a64_run.specs.declared.input.Input.TheVariants as inputs
use Rattle.a64_run.specs.Commands.{force_of, HasNoItemFault, IsFaultless}

-- a fault of an item by itself is no want of memory
own_no_memory : (n : ℕ) (fault : OwnFault) → own_error n fault ≢ OutOfMemory
own_no_memory n own.BadOperand h = cc
own_no_memory n own.BadMode h = cc
own_no_memory n own.ScratchConflict h = cc
own_no_memory n own.UnknownConstant h = cc

or_no_memory : (n : ℕ) (fault : Option OwnFault) (later : Option EmitError) → later ≢ Some OutOfMemory → or_else (option_map (own_error n) fault) later ≢ Some OutOfMemory
or_no_memory n None later k h = k h
or_no_memory n (Some fault) later k h = own_no_memory n fault cc

own_faults_no_memory : (frame : FrameLayout) (flags : EmitFlags) (constants : FinMap nat_cmp (List ℕ)) (n : ℕ) (items : List Item) → own_fault_from frame flags constants n items ≢ Some OutOfMemory
own_faults_no_memory frame flags constants n [] h = cc
own_faults_no_memory frame flags constants n (item ∷ items) h =
    or_no_memory n (item_fault frame flags constants item) (own_fault_from frame flags constants (n + 1) items)
    (own_faults_no_memory frame flags constants (n + 1) items) h

-- where the first of two faults is want of memory, and the one in front never is, that one is none
none_in_front : (front later : Option EmitError) → front ≢ Some OutOfMemory → or_else front later ≡ Some OutOfMemory → front ≡ None
none_in_front None later k h = refl
none_in_front (Some fault) later k h = absurd (k h)

pub right_without_memory : (frame : FrameLayout) (flags : EmitFlags) (constants : FinMap nat_cmp (List ℕ)) (force : ForceVeneers) (items : List Item)
    → IsRefusal frame flags constants force items OutOfMemory → own_fault frame flags constants items ≡ None
right_without_memory frame flags constants force items h =
    ⊎_elim (λ k. none_in_front (own_fault frame flags constants items)
    (or_else (second_binding items) (or_else (unbound_use frame flags items) (or_else (too_large frame flags items) (out_of_reach frame flags force items))))
    (own_faults_no_memory frame flags constants 0 items) k) (λ k. k.1) h

-- where there is no fault, there is none in front
first_is_none : (front later : Option EmitError) → or_else front later ≡ None → front ≡ None
first_is_none None later h = refl
first_is_none (Some fault) later h = absurd cc

abbrev later_faults : Command → File → Option EmitError
later_faults command file =
    let items = file.items.items in
    or_else (second_binding items) (or_else (unbound_use file.frame file.info items) (or_else (too_large file.frame file.info items) (out_of_reach file.frame file.info (force_of command) items)))

-- where a command finds no fault, it finds none in one item alone
pub right_faultless : (command : Command) (input : Input) → IsFaultless command input → HasNoItemFault command input
right_faultless (Asm force) (inputs.Items file) h = first_is_none (own_fault file.frame file.info file.constants file.items.items) (later_faults (Asm force) file) h
right_faultless (Gen count force) (inputs.Items file) h = first_is_none (own_fault file.frame file.info file.constants file.items.items) (later_faults (Gen count force) file) h
right_faultless (Asm force) (inputs.Words file) h = h
right_faultless (Asm force) (inputs.Listing file) h = h
right_faultless (Asm force) (inputs.Units file) h = h
right_faultless (Asm force) (inputs.Addresses file) h = h
right_faultless (Gen count force) (inputs.Words file) h = h
right_faultless (Gen count force) (inputs.Listing file) h = h
right_faultless (Gen count force) (inputs.Units file) h = h
right_faultless (Gen count force) (inputs.Addresses file) h = h
right_faultless commands.List input h = h
right_faultless commands.Roles input h = h
right_faultless commands.Audit input h = h
right_faultless commands.Dis input h = h
right_faultless commands.Undis input h = h
right_faultless commands.Link (inputs.Items file) h = h
right_faultless commands.Link (inputs.Words file) h = h
right_faultless commands.Link (inputs.Listing file) h = h
right_faultless commands.Link (inputs.Units file) h = tt
right_faultless commands.Link (inputs.Addresses file) h = h
right_faultless commands.Stubs input h = h
