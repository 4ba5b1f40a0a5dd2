-- The parts of a summary, one behind the other.
use Rattle.std.proofs.Common.{◌≡◌, ℕ, List, [], ◌++◌, codes, refl, append_assoc}
use Rattle.std.specs.Fmt.{decimal}
use Rattle.a64_tokens.specs.Hex.{hex_word}
use Rattle.a64_report.specs.Summary.{summary_lines}

in_order : (items bytes islands name space a b c digits end : List ℕ)
    → items ++ (space ++ (a ++ (end ++ (bytes ++ (space ++ (b ++ (end ++ (islands ++ (space ++ (c ++ (end ++ (name ++ (digits ++ end)))))))))))))
    ≡ (items ++ space ++ a ++ end) ++ (bytes ++ space ++ b ++ end) ++ (islands ++ space ++ c ++ end) ++ name ++ digits ++ end
in_order items bytes islands name space a b c digits end = simp append_assoc refl

pub summary_parts : (items bytes islands total : ℕ)
    → codes "items " ++ (decimal items ++ (codes "\nbytes " ++ (decimal bytes ++ (codes "\nislands " ++ (decimal islands ++ (codes "\nsum " ++ (hex_word total ++ (codes "\n" ++ []))))))))
    ≡ summary_lines items bytes islands total
summary_parts items bytes islands total =
    in_order (codes "items") (codes "bytes") (codes "islands") (codes "sum ") (codes " ") (decimal items) (decimal bytes) (decimal islands) (hex_word total) (codes "\n")
