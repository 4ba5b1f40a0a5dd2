-- Constants by their numbers.
use Rattle.std.specs.Prelude.{ℕ, ◌≡◌, ◌⊎◌, List, length, map, take, IfSome, is_some, if◌then◌else◌}
use Rattle.std.specs.Ordering.{nat_cmp}
use Rattle.std.specs.FinMap.{FinMap, get, insert, entries, from_entries}
use Rattle.a64_buffer.specs.declared.content.Content.{Content}

-- the bytes of a constant: 4, 8 or 16
abbrev pub IsConstant : List ℕ → Type 0
IsConstant content = (length content ≡ 4) ⊎ (length content ≡ 8) ⊎ (length content ≡ 16)

abbrev pub AreConstants : FinMap nat_cmp (List ℕ) → Type 0
AreConstants constants = (number : ℕ) → IfSome (get constants number) IsConstant

-- the bytes of a content
abbrev pub content_bytes : Content → List ℕ
content_bytes content = take content.size content.bytes

-- the bytes of the contents of a map
abbrev pub contents_bytes : FinMap nat_cmp Content → FinMap nat_cmp (List ℕ)
contents_bytes contents = from_entries (map (λ e. (e.0, content_bytes e.1)) (entries contents))

-- constants with one more, where its number has none
abbrev pub inserted : FinMap nat_cmp (List ℕ) → ℕ → List ℕ → FinMap nat_cmp (List ℕ)
inserted constants number content =
    if is_some (get constants number) then constants else insert constants number content
