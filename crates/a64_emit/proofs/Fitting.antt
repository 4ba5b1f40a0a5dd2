-- Room for one word, where there is room for it with its use; and what is put where a call failed.
use Rattle.std.proofs.Common.{List, [], ◌∷◌, Result, Ok, Err, arith}
use Rattle.std.specs.Prelude.{IsErrAnd}
use Rattle.a64_buffer.specs.Buffer.{Buffer, end_of}
use Rattle.a64_buffer.specs.Classes as classes
use Rattle.a64_buffer.proofs.Rooms.{part_room}
use Rattle.a64_label_use.specs.declared.label_use.LabelUse.{LabelUse}
use Rattle.a64_label_use.specs.LabelUses.{label_kinds}
use Rattle.a64_label_use.specs.LabelLaws.{label_kinds_lawful}
use Rattle.a64_cells.specs.Shapes.{Cell}
use Rattle.a64_emit.specs.Emission.{uses_from, IsAppendedInPart, CellsFit, PutsCells}

-- there is room for the word alone
pub before_word : (b : Buffer LabelUse) (cell : Cell) → CellsFit b (cell ∷ []) → classes.HasRoom label_kinds (end_of b) b.uses 4
before_word b cell h = part_room label_kinds label_kinds_lawful (end_of b) b.uses (uses_from b.labels (end_of b) (cell ∷ [])) 4 (end_of b) 4 (omega arith) h

-- at an error a first part is what is put
pub failed : {T E : Type 0} (r : Result T E) (Q : E → Type 0) (b b' : Buffer LabelUse) (cells : List Cell) → IsErrAnd r Q → IsAppendedInPart b b' cells → PutsCells r b b' cells
failed (Ok x) Q b b' cells is part = elim is [ ]
failed (Err e) Q b b' cells is part = record { ok = tt; err = part }
