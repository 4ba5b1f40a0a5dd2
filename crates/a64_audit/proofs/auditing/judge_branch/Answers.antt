use Rattle.std.proofs.Common.{◌≡◌, ℤ, pos, nat_abs, to_z, of_z, w64, refl, sym, subst, ◌<◌, ◌*◌, length, arith}
use Rattle.std.proofs.lemmas.Int.{ints}
use Rattle.a64_audit.specs.Entries.{contents_of}
use Rattle.a64_audit.specs.Verdicts.{InData}
use Rattle.a64_audit.proofs.Targets.{known, out_of_code, in_code, into_data, fine_without, fine_outside}
use Rattle.std.proofs.lemmas.Bool.{false≢true}
use Rattle.a64_audit.proofs.auditing.judge_branch.Goals.{then-target-lt0-via-then-target-lt0, then-target-lt0-via-else-target-lt0+then-target-len}
use Rattle.a64_audit.proofs.auditing.judge_branch.Goals as goal

pub returns-then-target-lt0 : goal.returns-then-target-lt0
returns-then-target-lt0 c = λ first.
    let file = contents_of c.args.file.now in
    let leads = c.in-Some.ensures.is in
    let row = c.args.row in (
      first,
      known file c.args.place c.args.word row c.requires.word c.requires.matches,
      out_of_code file c.args.place c.args.word row c.requires.word c.requires.matches c.requires.one_row c.in-Some.target leads (λ t is less. elim c.then-target-lt0.branch [ then-target-lt0-via-then-target-lt0 w ↦ absurd (omega (arith, ints)) | then-target-lt0-via-else-target-lt0+then-target-len w ↦ absurd (omega (arith, ints)) ]),
    )

pub returns-then-is_data : goal.returns-then-is_data
returns-then-is_data c = λ first.
    let file = contents_of c.args.file.now in
    let row = c.args.row in
    let t = nat_abs c.in-Some.target in
    let is_t : c.in-Some.target ≡ pos t = omega (arith, ints) in
    let back : to_z w64 (of_z w64 c.in-Some.target) ≡ c.in-Some.target = omega (arith, ints) in
    let less : t < 4 * length c.args.file.now.words.items = omega (arith, ints) in (
      first,
      known file c.args.place c.args.word row c.requires.word c.requires.matches,
      in_code file c.args.place c.args.word row c.requires.word c.requires.matches c.requires.one_row c.in-Some.target c.in-Some.ensures.is t is_t less,
      into_data file c.args.place c.args.word row c.requires.word c.requires.matches c.requires.one_row c.in-Some.target c.in-Some.ensures.is t is_t
          (subst (λ (z : ℤ). InData file (nat_abs z)) back (c.if-is_data.ensures.0 refl)),
    )

pub returns-in_default : goal.returns-in_default
returns-in_default c = fine_without (contents_of c.args.file.now) c.args.place c.args.word c.args.row c.requires.word c.requires.matches c.requires.one_row c.in_default.ensures.is

pub returns : goal.returns
returns c =
    let file = contents_of c.args.file.now in
    let t = nat_abs c.in-Some.target in
    let is_t : c.in-Some.target ≡ pos t = omega (arith, ints) in
    let back : to_z w64 (of_z w64 c.in-Some.target) ≡ c.in-Some.target = omega (arith, ints) in
    let less : t < 4 * length c.args.file.now.words.items = omega (arith, ints) in
    fine_outside file c.args.place c.args.word c.args.row c.requires.word c.requires.matches c.requires.one_row c.in-Some.target c.in-Some.ensures.is t is_t less
    (λ lies. false≢true (c.if-is_data.ensures.1 (subst (λ (z : ℤ). InData file (nat_abs z)) (sym back) lies)))
