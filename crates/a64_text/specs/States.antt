-- What the entries of a file say, one after another.
use Rattle.std.specs.Prelude.{◌≡◌, ℕ, false, List, [], ◌∷◌, ◌++◌, Option, Some, None, IfSome}
use Rattle.std.specs.List.{Contains, cons_option}
use Rattle.std.specs.FinMap.{FinMap, empty}
use Rattle.std.specs.Ordering.{nat_cmp}
use Rattle.a64_buffer.specs.Constants.{IsConstant, inserted}
use Rattle.a64_inst.specs.declared.emission.EmitFlags.{EmitFlags}
use Rattle.a64_inst.specs.declared.frame.FrameLayout.{FrameLayout}
use Rattle.a64_inst.specs.declared.item.Item.{Item}
use Rattle.a64_text.specs.declared.entry.Entry.{Entry}
use Rattle.a64_text.specs.declared.entry.Entry.TheVariants as entries
use Rattle.a64_text.specs.declared.entry.OnceName.{OnceName}
use Rattle.a64_text.specs.declared.entry.OnceName.TheVariants as once_names
use Rattle.a64_text.specs.declared.file.File.{File}
use Rattle.a64_text.specs.Frames.{frame_with}
use Rattle.a64_text.specs.Settings.{flags_with}

-- what a file says
pub record Contents : Type 0 where
  pub items : List Item
  pub constants : FinMap nat_cmp (List ℕ)
  pub frame : FrameLayout
  pub flags : EmitFlags

abbrev pub contents_of : File → Contents
contents_of file = record {
  items = file.items.items;
  constants = file.constants;
  frame = file.frame;
  flags = file.info;
}

-- the frame and the settings of a file that names none
abbrev pub default_frame : FrameLayout
default_frame = record {
  setup_area_size = 0;
  tail_args_size = 0;
  clobber_size = 0;
  fixed_frame_storage_size = 0;
  outgoing_args_size = 0;
  restore = [];
}

abbrev pub default_flags : EmitFlags
default_flags = record {
  enable_probestack = false;
  enable_table_access_spectre_mitigation = false;
  use_csdb = false;
}

abbrev pub default_contents : Contents
default_contents = record {
  items = [];
  constants = empty;
  frame = default_frame;
  flags = default_flags;
}

-- what was said so far: what the file says, and the names that were given, of those that a file
-- gives at most once
pub record State : Type 0 where
  pub file : Contents
  pub given : List OnceName

-- before the first entry
abbrev pub start : State
start = record { file = default_contents; given = [] }

-- the name that an entry gives, where a file gives it at most once. Items and what is restored
-- may come as often as they like.
abbrev pub once_name : Entry → Option OnceName
once_name (entries.Item item) = None
once_name (entries.Constant addr bytes) = Some (once_names.Constant addr.0)
once_name (entries.Frame field bytes) = Some (once_names.Frame field)
once_name (entries.Flag flag) = Some (once_names.Flag flag)
once_name (entries.Restore inst) = None

-- what the file says with the entry too
abbrev pub said : Entry → Contents → Contents
said (entries.Item item) file = record file { items = file.items ++ item ∷ [] }
said (entries.Constant addr bytes) file = record file {
  constants = inserted file.constants addr.0 bytes;
}
said (entries.Frame field bytes) file = record file { frame = frame_with field bytes file.frame }
said (entries.Flag flag) file = record file { flags = flags_with flag file.flags }
said (entries.Restore inst) file = record file {
  frame = record file.frame { restore = file.frame.restore ++ inst ∷ [] };
}

-- a constant has as many bytes as constants have
abbrev pub IsSized : Entry → Type 0
IsSized (entries.Constant addr bytes) = IsConstant bytes
IsSized _ = Unit {0}

-- an entry may stand where its name was not given yet
abbrev pub MayStand : State → Entry → Type 0
MayStand state entry = IfSome (once_name entry) (λ name. ¬ Contains state.given name)

-- the state behind an entry
abbrev pub state_after : State → Entry → State
state_after state entry = record {
  file = said entry state.file;
  given = cons_option (once_name entry) state.given;
}

-- the entries may stand there one after another, and lead from the one state to the other
abbrev pub Chain : State → List Entry → State → Type 0
Chain old [] new = new ≡ old
Chain old (e ∷ es) new = MayStand old e × Chain (state_after old e) es new
