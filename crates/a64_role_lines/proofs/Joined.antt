-- Words that are joined, with a byte between.
use Rattle.std.proofs.Common.{ℕ, ◌≡◌, List, [], ◌∷◌, ◌++◌, map, ap, sym, ◌∙◌, append-nil}
use Rattle.std.specs.List.{flat_map, join_with_byte}
use Rattle.std.proofs.lemmas.Grind.{flat_map-append}
use Rattle.std.proofs.lemmas.List.Folds.{flat_map-map}
use Rattle.a64_role.specs.declared.role.Role.{Role}
use Rattle.a64_role_lines.specs.RoleLines.{role_text}
use Rattle.a64_role_lines.specs.Words.{behind}

-- the first, and each other behind the byte
pub joined : (byte : ℕ) (word : List ℕ) (words : List (List ℕ)) → join_with_byte byte (word ∷ words) ≡ word ++ flat_map (λ next. byte ∷ next) words
joined byte word [] = sym (append-nil word)
joined byte word (next ∷ words) = ap (λ rest. word ++ (byte ∷ rest)) (joined byte next words)

-- a number, the words of roles, and others
pub role_words : (number : List ℕ) (roles : List Role) (others : List (List ℕ)) → join_with_byte 32 (number ∷ (map role_text roles ++ others)) ≡ number ++ (flat_map (λ role. behind (role_text role)) roles ++ flat_map behind others)
role_words number roles others =
    joined 32 number (map role_text roles ++ others)
    ∙ ap (λ words. number ++ words) (flat_map-append behind (map role_text roles) others ∙ ap (λ words. words ++ flat_map behind others) (flat_map-map behind role_text roles))
