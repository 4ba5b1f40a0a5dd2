use Rattle.std.proofs.Common.{List, [], ◌∷◌, ◌≡◌, ◌∙◌, ◌+◌, length, refl, sym, ap, subst, arith}
use Rattle.std.proofs.lemmas.List.{length-append}
use Rattle.a64_base.specs.declared.entity.MachLabel.{MachLabel}
use Rattle.a64_inst.specs.declared.inst.Inst.{Inst}
use Rattle.a64_inst.specs.declared.inst.Inst.TheVariants as insts
use Rattle.a64_cells.specs.declared.callee.Callee.TheVariants.{Symbol, Address}
use Rattle.a64_cells.specs.Cells.{inst_cells}
use Rattle.a64_cells.specs.Shapes.{table_forms, table_labels}
use Rattle.a64_data.specs.Cells.{InData}
use Rattle.a64_data.specs.Marks.{Marks}
use Rattle.a64_data.proofs.Forms.{no_data, none_may}
use Rattle.a64_data.proofs.Placing.{AreData, behind_forms, data_bytes, no_bytes, one_behind, return_bytes, two_words}
use Rattle.a64_data.proofs.words.mark_inst.Goals as goal

pub returns-in-Word8 : goal.returns-in-Word8
returns-in-Word8 c =
    let frame = c.args.frame.now in
    let flags = c.args.info.now in
    let old = c.args.marks.now in
    let new = c.mark_words-in-Word8.new.marks in
    let inst : Inst = insts.Word8 c.in-Word8.value in
    subst (λ (i : Inst). Marks (InData (inst_cells frame flags i) c.args.place) old new) (sym c.in-Word8.is)
    (data_bytes (inst_cells frame flags inst) c.args.place 0 2 (two_words _ _ refl refl) old new c.mark_words-in-Word8.ensures)

pub returns-in-LoadExtNameFar : goal.returns-in-LoadExtNameFar
returns-in-LoadExtNameFar c =
    let frame = c.args.frame.now in
    let flags = c.args.info.now in
    let old = c.args.marks.now in
    let new = c.mark_words-in-LoadExtNameFar.new.marks in
    let far = c.in-LoadExtNameFar in
    let inst : Inst = insts.LoadExtNameFar far.rd far.name far.offset in
    subst (λ (i : Inst). Marks (InData (inst_cells frame flags i) c.args.place) old new) (sym far.is)
    (data_bytes (inst_cells frame flags inst) c.args.place 2 2 (one_behind _ _ 1 2 refl (one_behind _ _ 0 2 refl (two_words _ _ refl refl))) old new c.mark_words-in-LoadExtNameFar.ensures)

pub returns-in-JTSequence : goal.returns-in-JTSequence
returns-in-JTSequence c =
    let frame = c.args.frame.now in
    let flags = c.args.info.now in
    let old = c.args.marks.now in
    let new = c.mark_words-in-JTSequence.new.marks in
    let jump = c.in-JTSequence in
    let inst : Inst = insts.JTSequence jump.default jump.targets jump.ridx jump.rtmp1 jump.rtmp2 in
    let cells = inst_cells frame flags inst in
    let forms = table_forms flags (length jump.targets) jump.ridx jump.rtmp1 jump.rtmp2 in
    let labels = table_labels jump.default jump.targets in
    let few : length jump.targets ≡ length c.as_slice-targets.result.now = ap (λ (ls : List MachLabel). length ls) (sym c.as_slice-targets.ensures) in
    let start : length forms ≡ c.table_start.result = ap (λ n. length (table_forms flags n jump.ridx jump.rtmp1 jump.rtmp2)) few ∙ sym (c.table_start.ensures.start jump.ridx jump.rtmp1 jump.rtmp2) in
    let count : length labels ≡ length c.as_slice-targets.result.now + 1 = omega (arith, length-append jump.targets (jump.default ∷ []), few) in
    let are = subst (λ n. AreData cells n (length c.as_slice-targets.result.now + 1)) start (subst (λ m. AreData cells (length forms) m) count (behind_forms forms labels)) in
    subst (λ (i : Inst). Marks (InData (inst_cells frame flags i) c.args.place) old new) (sym jump.is)
    (data_bytes cells c.args.place c.table_start.result (length c.as_slice-targets.result.now + 1) are old new c.mark_words-in-JTSequence.ensures)

pub returns-in-ReturnCall : goal.returns-in-ReturnCall
returns-in-ReturnCall c =
    let frame = c.args.frame.now in
    let flags = c.args.info.now in
    let info = c.in-ReturnCall.info in
    subst (λ (i : Inst). Marks (InData (inst_cells frame flags i) c.args.place) c.args.marks.now c.mark_restored.new.marks) (sym c.in-ReturnCall.is)
    (return_bytes frame flags (Symbol info.dest) info.new_stack_arg_size info.key info.sign_return_address_all c.args.place c.args.marks.now c.mark_restored.new.marks c.mark_restored.ensures)

pub returns-in-ReturnCallInd : goal.returns-in-ReturnCallInd
returns-in-ReturnCallInd c =
    let frame = c.args.frame.now in
    let flags = c.args.info.now in
    let info = c.in-ReturnCallInd.info in
    subst (λ (i : Inst). Marks (InData (inst_cells frame flags i) c.args.place) c.args.marks.now c.mark_restored-in-ReturnCallInd.new.marks) (sym c.in-ReturnCallInd.is)
    (return_bytes frame flags (Address info.dest) info.new_stack_arg_size info.key info.sign_return_address_all c.args.place c.args.marks.now c.mark_restored-in-ReturnCallInd.new.marks c.mark_restored-in-ReturnCallInd.ensures)

pub returns-in_default : goal.returns-in_default
returns-in_default c =
    let frame = c.args.frame.now in
    let flags = c.args.info.now in
    let inst = c.args.inst.now in
    let not = c.in_default in
    no_bytes (inst_cells frame flags inst) c.args.place c.args.marks.now (no_data frame flags inst (none_may inst not.not-Word4 not.not-Word8 not.not-JTSequence not.not-LoadExtNameFar not.not-ReturnCall not.not-ReturnCallInd))
