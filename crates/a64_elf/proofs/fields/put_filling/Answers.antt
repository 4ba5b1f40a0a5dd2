use Rattle.std.proofs.Common.{ℕ, ◌≡◌, ◌∙◌, sym, ap, arith, rules, length, take, replicate, List, ◌++◌}
use Rattle.std.proofs.lemmas.List.{take-replicate}
use Rattle.a64_elf.specs.Fields.{filling}
use Rattle.a64_elf.proofs.fields.put_filling.Goals as goal

pub returns : goal.returns
returns c =
    let count : c.len.result ≡ length c.args.bytes.now.items = search rules in
    let zeros : filling c.args.alignment (length c.args.bytes.now.items) ≡ replicate c.gap-missing.result 0 =
    ap (filling c.args.alignment) (sym count) ∙ c.gap-missing.ensures.value
    in
    let front : take c.gap-missing.result (replicate 16 0) ≡ replicate c.gap-missing.result 0 =
    take-replicate c.gap-missing.result 16 0 (omega arith)
    in
    let items = c.in_ok-extend_from_slice.ensures.items in
    items ∙ ap (λ (xs : List ℕ). c.args.bytes.now.items ++ xs) (front ∙ sym zeros)
