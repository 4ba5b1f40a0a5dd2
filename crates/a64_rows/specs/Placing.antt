-- That a row stands in the list of all rows.
use Rattle.std.specs.Prelude.{ℕ, ◌≡◌, true, ltb, length, get_or, refl}
use Rattle.a64_rows.specs.declared.row_table.Row.{Row}
use Rattle.a64_rows.specs.declared.row_table.Row.TheVariants.{AddSubReg}
use Rattle.a64_rows.specs.Entries.{all_rows}

-- a row stands in the list of all rows
pub record Placed (row : Row) : Type 0 where
  pub place : ℕ
  pub within : ltb place (length all_rows) ≡ true
  pub is : get_or all_rows place AddSubReg ≡ row

abbrev pub at : (i : ℕ) → ltb i (length all_rows) ≡ true → Placed (get_or all_rows i AddSubReg)
at i h = record { place = i; within = h; is = refl }
