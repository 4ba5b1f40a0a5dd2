-- The names of each class of the table. There are 8 numbers of classes.
use Rattle.std.specs.Prelude.{ℕ, List, map, ◌==◌, ◌%◌, if◌then◌else◌}
use Rattle.a64_text.specs.declared.name.Name.{Name}
use Rattle.a64_text.specs.declared.name_table.TheConstants.{INTEGER_NAMES, FLOAT_NAMES}
use Rattle.a64_text.specs.declared.name_table.TheConstants.{VECTOR_NAMES, VECTOR_MOVE_NAMES}
use Rattle.a64_text.specs.declared.name_table.TheConstants.{CONTROL_NAMES, SEQUENCE_NAMES}
use Rattle.a64_text.specs.declared.name_table.TheConstants.{ACCESS_NAMES, OTHER_NAMES}

abbrev pub name_rows : ℕ → List Name
name_rows class =
    if class % 8 == 0 then map (λ row. row.2) INTEGER_NAMES else
    if class % 8 == 1 then map (λ row. row.2) FLOAT_NAMES else
    if class % 8 == 2 then map (λ row. row.2) VECTOR_NAMES else
    if class % 8 == 3 then map (λ row. row.2) VECTOR_MOVE_NAMES else
    if class % 8 == 4 then map (λ row. row.2) CONTROL_NAMES else
    if class % 8 == 5 then map (λ row. row.2) SEQUENCE_NAMES else
    if class % 8 == 6 then map (λ row. row.2) ACCESS_NAMES else
    map (λ row. row.2) OTHER_NAMES
