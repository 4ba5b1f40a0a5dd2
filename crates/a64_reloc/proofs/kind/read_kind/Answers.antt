use Rattle.std.proofs.Common.{rules, ◌∙◌, sym}
use Rattle.std.proofs.lemmas.Iterator.{YieldsList-from_slice}
use Rattle.std.proofs.lemmas.Iterator.Consumers.{YieldsList-from_copied}
use Rattle.std.proofs.lemmas.Iterator.Search.{find_from_yields_List}
use Rattle.a64_reloc.proofs.Plain.{has_name, itself, kind_read, kinds}
use Rattle.a64_reloc.proofs.kind.read_kind.Goals as goal

pub returns : goal.returns
returns c =
    let token = c.args.token.now in
    let told = find_from_yields_List (has_name token) _ _ c.find.result c.find.ensures.ran (YieldsList-from_copied (YieldsList-from_slice kinds (let a = c.copied.ensures.source in let b = c.iter.ensures.rest in cc))) (λ x b q k. search rules) in
    kind_read token c.find.result (sym (itself c.find.result) ∙ told)
