-- The records of code, as numbers.
use Rattle.std.specs.Prelude.{ℕ, ℤ, List, ◌++◌, take, drop, length}
use Rattle.a64_base.specs.declared.entity.ExternalName.{ExternalName}
use Rattle.a64_base.specs.declared.entity.MachLabel.{MachLabel}
use Rattle.a64_base.specs.declared.entity.Reloc.{Reloc}
use Rattle.a64_base.specs.declared.entity.Reloc.TheVariants.{Arm64Call, Abs8, Aarch64AdrGotPage21}
use Rattle.a64_base.specs.declared.entity.Reloc.TheVariants.{Aarch64Ld64GotLo12Nc}
use Rattle.a64_base.specs.declared.entity.Reloc.TheVariants.{Aarch64AdrPrelPgHi21}
use Rattle.a64_base.specs.declared.entity.Reloc.TheVariants.{Aarch64AddAbsLo12Nc}
use Rattle.a64_base.specs.declared.entity.TrapCode.{TrapCode}
use Rattle.a64_base.specs.declared.entity.UserStackMap.{UserStackMap}
use Rattle.a64_c.specs.declared.record.LabelPlace.{LabelPlace}
use Rattle.a64_c.specs.declared.record.Island.{Island}
use Rattle.a64_c.specs.declared.record.Relocation.{Relocation}
use Rattle.a64_c.specs.declared.record.Trap.{Trap}
use Rattle.a64_c.specs.declared.record.PatchableCall.{PatchableCall}
use Rattle.a64_c.specs.declared.record.StackMap.{StackMap}

-- a buffer with values at its front, the first of them where it has no room for all
abbrev pub over : {A : Type 0} → List A → List A → List A
over values room = take (length room) values ++ drop (length values) room

-- the number of a kind of relocation
abbrev pub kind_of : Reloc → ℕ
kind_of Arm64Call = 0
kind_of Abs8 = 1
kind_of Aarch64AdrGotPage21 = 2
kind_of Aarch64Ld64GotLo12Nc = 3
kind_of Aarch64AdrPrelPgHi21 = 4
kind_of Aarch64AddAbsLo12Nc = 5

-- the record of each kind
abbrev pub label_place_of : MachLabel × ℕ → LabelPlace
label_place_of (label, place) = record { label = label.0; place = place }

abbrev pub island_of : ℕ × ℕ → Island
island_of (begin, end) = record { begin = begin; end = end }

abbrev pub relocation_of : ℕ × Reloc × ExternalName × ℤ → Relocation
relocation_of (place, kind, name, addend) =
    record { place = place; kind = kind_of kind; symbol = name.0; addend = addend }

abbrev pub trap_of : ℕ × TrapCode → Trap
trap_of (place, code) = record { place = place; code = code.0 }

abbrev pub patchable_call_of : ℕ × ℕ → PatchableCall
patchable_call_of (place, len) = record { place = place; length = len }

abbrev pub stack_map_of : ℕ × UserStackMap → StackMap
stack_map_of (place, map) = record { place = place; map = map.0 }
