use Rattle.std.proofs.Common.{◌≡◌, rules, subst}
use Rattle.std.proofs.lemmas.Result.{IfOk-weaker, IfErr-weaker}
use Rattle.a64_elf.specs.Objects.{IsObjectFault, IsObjectOf, sections_of}
use Rattle.a64_elf.specs.Sections.{IsObject, IsSectionFault}
use Rattle.a64_elf.proofs.Faults.{section_fault}
use Rattle.a64_elf.proofs.writing.write_object.Goals as goal

pub returns-clause-ok : goal.returns-clause-ok
returns-clause-ok c =
    let same : c.deref.result.now ≡ sections_of c.args.object = search rules in
    IfOk-weaker c.write_sections.result (λ bytes. IsObject c.deref.result.now bytes.items)
    (λ bytes. IsObjectOf c.args.object bytes.items)
    (λ bytes is. record {
      names = c.in_ok-check_object.ensures.names;
      relocated = c.in_ok-check_object.ensures.relocated;
      few = c.in_ok-check_object.ensures.few;
      laid = subst (λ sections. IsObject sections bytes.items) same is;
    })
    c.write_sections.ensures.ok

pub returns-clause-err : goal.returns-clause-err
returns-clause-err c =
    let same : c.deref.result.now ≡ sections_of c.args.object = search rules in
    IfErr-weaker c.write_sections.result (IsSectionFault c.deref.result.now)
    (IsObjectFault c.args.object)
    (λ error is. section_fault c.args.object error (subst (λ sections. IsSectionFault sections error) same is))
    c.write_sections.ensures.err
