use Rattle.std.proofs.Common.{◌≡◌, false, ◌∙◌, arith}
use Rattle.a64_imms.specs.Logic.{logic_value}
use Rattle.a64_imms.specs.LogicLaws.{r_fits, s_fits}
use Rattle.a64_imms.proofs.LogicRuns.{narrow}
use Rattle.a64_imms.proofs.imm_logic.ImmLogic.enc_bits.Goals as goal

pub returns-clause-narrow : goal.returns-clause-narrow
returns-clause-narrow c = λ small.
    let imm = c.args.self.now in
    let flag : imm.n ≡ false =
    c.requires.triple.n_is ∙ narrow imm.size (logic_value imm) c.requires.run small c.requires.is_run c.requires.number_is
    in
    let r = r_fits imm.size imm c.requires in
    let s = s_fits imm.size imm c.requires in
    grind arith
