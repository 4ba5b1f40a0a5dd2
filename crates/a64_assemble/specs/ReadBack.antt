-- What is read back from finished words.
use Rattle.std.specs.Prelude.{ℕ, ◌≡◌, ◌≢◌, ◌<◌, List, length, slice_index, slice_index_or, Option}
use Rattle.std.specs.Prelude.{None, Some, bit_and}
use Rattle.a64_rows.specs.declared.slots.Slot.{Slot}
use Rattle.a64_rows.specs.Rows.{slots_of}
use Rattle.a64_rows.specs.Forms.{Form, IsWordOf, IsOnlyFormOf, mask_of}
use Rattle.a64_words.specs.Word.{word_at}
use Rattle.a64_cells.specs.declared.site.Site.{Site}
use Rattle.a64_cells.specs.Shapes.{Body, FormOf, Data, Cell}
use Rattle.a64_emit.specs.Layout.{site_mask}

-- a word is that of a form of the same row, and of no other form. Its fields have the values of the
-- first form, but for those that lie wholly under the mask
pub record IsReadForm (form : Form) (mask finished : ℕ) : Type 0 where
  pub fields : List ℕ
  pub word : IsWordOf form.row fields finished
  pub only : IsOnlyFormOf form.row fields finished
  pub kept : (i : ℕ) (d : Slot) → i < length (slots_of form.row)
      → bit_and (mask_of (slice_index_or (slots_of form.row) i d)) mask
      ≢ mask_of (slice_index_or (slots_of form.row) i d)
      → slice_index fields i ≡ slice_index form.fields i

-- a word is read as what was put: a form as itself, with only the field of its use changed, and
-- data that is no use as that data. What data becomes that is a use, as the entries of tables are,
-- is the whole word, and where it leads says it (`Leads`)
abbrev pub IsReadBody : Body → Option Site → ℕ → Type 0
IsReadBody (FormOf form) site word = IsReadForm form (site_mask site) word
IsReadBody (Data content) None word = word ≡ content
IsReadBody (Data content) (Some site) word = Unit {0}

-- so is the finished word of a cell at its place
abbrev pub IsReadBack : List ℕ → ℕ × Cell → Type 0
IsReadBack bytes s = IsReadBody s.1.body s.1.site (word_at bytes s.0)
