use Rattle.a64_link.proofs.error.LinkErrorDisplay.fmt.Goals as goal

pub returns-in-BadDefine-clause-writes : goal.returns-in-BadDefine-clause-writes
returns-in-BadDefine-clause-writes g c = rw c.in-BadDefine.is c.write.ensures.writes

pub returns-in-UnsupportedReloc-clause-writes : goal.returns-in-UnsupportedReloc-clause-writes
returns-in-UnsupportedReloc-clause-writes g c = rw c.in-UnsupportedReloc.is c.write-in-UnsupportedReloc.ensures.writes

pub returns-in-BadSite-clause-writes : goal.returns-in-BadSite-clause-writes
returns-in-BadSite-clause-writes g c = rw c.in-BadSite.is c.write-in-BadSite.ensures.writes

pub returns-in-UnitTooLarge-clause-writes : goal.returns-in-UnitTooLarge-clause-writes
returns-in-UnitTooLarge-clause-writes g c = rw c.in-UnitTooLarge.is c.write-in-UnitTooLarge.ensures.writes
