use Rattle.std.proofs.Common.{◌∙◌, append_assoc}
use Rattle.std.specs.Prelude.{◌++◌, codes}
use Rattle.std.specs.Fmt.{decimal}
use Rattle.a64_run.proofs.fault_lines.text_of_link_error.Goals as goal

pub returns-in-BadDefine-clause-text : goal.returns-in-BadDefine-clause-text
returns-in-BadDefine-clause-text c =
    rw c.in-BadDefine.is
    (c.paired.ensures.text ∙ append_assoc (codes "unit " ++ decimal c.in-BadDefine.unit) (codes ": bad symbol ") (decimal c.in-BadDefine.name.0))

pub returns-in-BadSite-clause-text : goal.returns-in-BadSite-clause-text
returns-in-BadSite-clause-text c =
    rw c.in-BadSite.is
    (c.paired-in-BadSite.ensures.text ∙ append_assoc (codes "unit " ++ decimal c.in-BadSite.unit) (codes ": bad site ") (decimal c.in-BadSite.place))

pub returns-in-DefinedTwice-clause-text : goal.returns-in-DefinedTwice-clause-text
returns-in-DefinedTwice-clause-text c = rw (c.in-DefinedTwice.is, ← c.from.ensures) c.numbered.ensures.text

pub returns-in-UnitTooLarge-clause-text : goal.returns-in-UnitTooLarge-clause-text
returns-in-UnitTooLarge-clause-text c = rw c.in-UnitTooLarge.is c.numbered-in-UnitTooLarge.ensures.text
