use Rattle.std.proofs.Common.{inl, inr, ◌≡◌, Err, arith, rules, ap, sym, length, List, ℕ, ◌+◌, ◌<◌, ◌++◌, ◌∙◌}
use Rattle.std.proofs.lemmas.List.{length-replicate}
use Rattle.a64_elf.specs.declared.section.Alignment.TheVariants as alignments
use Rattle.a64_elf.specs.Fields.{elf_header, filling}
use Rattle.a64_elf.specs.Sections.{contents}
use Rattle.a64_elf.proofs.Whole.{whole, whole_end, end_all, fault_of}
use Rattle.a64_elf.proofs.Stands.{all_apart, all_stand, object_size}
use Rattle.a64_elf.proofs.layout.write_sections.Goals as goal

pub returns-in_err-laid_out-clause-err : goal.returns-in_err-laid_out-clause-err
returns-in_err-laid_out-clause-err c =
    let is : c.from_residual-in_err-laid_out.result ≡ Err c.in_err-laid_out.field-0.0 = search rules in
    rw is
    (elim c.in_err-laid_out.ensures.err [
      | inl none ↦ fault_of c.args.sections.now c.in_err-laid_out.field-0.0 (inl none)
      | inr large ↦
          fault_of c.args.sections.now c.in_err-laid_out.field-0.0
          (inr (large.0, omega (arith, large.1, end_all c.args.sections.now)))
    ])

pub returns-in_err-laid-clause-err : goal.returns-in_err-laid-clause-err
returns-in_err-laid-clause-err c =
    let is : c.from_residual-in_err-laid.result ≡ Err c.in_err-laid.field-0.0 = search rules in
    let lay = c.in_ok-laid_out.ensures.ok in
    rw is
    (elim c.in_err-laid.ensures.err [
      | inl none ↦ fault_of c.args.sections.now c.in_err-laid.field-0.0 (inl none)
      | inr large ↦
          fault_of c.args.sections.now c.in_err-laid.field-0.0
          (inr (large.0, omega (arith, large.1, lay.ends, ap (λ (xs : List ℕ). length xs) lay.names_are, end_all c.args.sections.now)))
    ])

pub returns-clause-ok : goal.returns-clause-ok
returns-clause-ok c =
    let sections = c.args.sections.now in
    let lay = c.in_ok-laid_out.ensures.ok in
    let laid = c.in_ok-laid.ensures.ok in
    let end = c.in_ok-laid.laid.end in
    let place = end + c.gap.result in
    let one = c.put_elf_header.new.bytes.items in
    let two = c.put_contents.new.bytes.items in
    let three = c.extend_from_slice.new.self.items in
    let four = c.put_filling.new.bytes.items in
    let five = c.extend_from_slice-2.new.self.items in
    let gap_is : c.gap.result ≡ length (filling alignments.Eight end) =
    sym (length-replicate c.gap.result 0)
    ∙ ap (λ (xs : List ℕ). length xs) (sym c.gap.ensures.value)
    in
    let count : length sections + 2 < 65280 = c.in_ok-check_sections.ensures.few in
    let is_one : one ≡ elf_header place (length sections + 2) = search rules in
    let is_two : two ≡ one ++ contents (length one) sections = search rules in
    let is_three : three ≡ two ++ c.in_ok-laid.laid.names = search rules in
    let is_four : four ≡ three ++ filling alignments.Eight (length three) = search rules in
    let is_five : five ≡ four ++ c.in_ok-laid.laid.table.items = search rules in
    let laid_is =
    whole sections _ _ _ _ _ _ place one two three four five lay laid
    (ap (λ (n : ℕ). end + n) gap_is) is_one is_two is_three is_four is_five
    in
    record {
      names = c.in_ok-check_sections.ensures.names;
      few = count;
      small = whole_end sections _ _ _ _ _ _ lay laid;
      laid = laid_is;
      size = object_size sections five laid_is;
      stand = all_stand sections five laid_is;
      apart = all_apart sections;
    }
