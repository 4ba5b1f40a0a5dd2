-- Sections one behind another, one more behind them, and the bytes of an object.
use Rattle.std.proofs.Common.{ℕ, ◌≡◌, ◌+◌, ◌-◌, ◌%◌, ◌<◌, ◌≤◌, ◌^◌, ◌∙◌, List, [], ◌∷◌, ◌++◌, length, get_or, drop, replicate, refl, sym, ap, subst, inl, inr, arith}
use Rattle.std.specs.Prelude.{codes, ◌⊎◌}
use Rattle.std.specs.List.{flat_map}
use Rattle.std.proofs.lemmas.List.{append_assoc, append-nil, length-append, drop_more}
use Rattle.a64_elf.specs.declared.error.ElfError.{ElfError}
use Rattle.a64_elf.specs.declared.error.ElfError.TheVariants.{OutOfMemory, TooLarge}
use Rattle.a64_elf.specs.declared.section.Alignment.TheVariants as alignments
use Rattle.a64_elf.specs.declared.section.Section.{Section}
use Rattle.a64_elf.specs.Fields.{filling, half, word, long, elf_header, section_header}
use Rattle.a64_elf.specs.Sections.{section_start, section_end, contents, end_of, named, names_size, headers}
use Rattle.a64_elf.specs.Sections.{string_section, names_section, all_sections, table_place, object_of, IsLayout, IsLaid, IsSectionFault}

pub no_filling : (place : ℕ) → filling alignments.One place ≡ []
unfolding filling
no_filling place =
    let none : (1 - place % 1) % 1 ≡ 0 = omega arith in
    ap (λ (n : ℕ). replicate n 0) none

pub header_size : (table count : ℕ) → length (elf_header table count) ≡ 64
unfolding elf_header half word long
header_size table count = refl

pub end_grows : (place : ℕ) (sections : List Section) → place ≤ end_of place sections
end_grows place [] = omega arith
end_grows place (section ∷ sections) =
    omega (arith, end_grows (section_end place section) sections)

-- ---- one more section

end_of-push : (place : ℕ) (sections : List Section) (last : Section)
    → end_of place (sections ++ last ∷ []) ≡ section_end (end_of place sections) last
end_of-push place [] last = refl
end_of-push place (section ∷ sections) last =
    end_of-push (section_end place section) sections last

contents-push : (place : ℕ) (sections : List Section) (last : Section)
    → contents place (sections ++ last ∷ [])
    ≡ contents place sections ++ (filling last.alignment (end_of place sections) ++ last.content)
contents-push place [] last =
    ap (λ (xs : List ℕ). filling last.alignment place ++ xs) (append-nil last.content)
contents-push place (section ∷ sections) last =
    let rest = contents (section_end place section) sections in
    let more = filling last.alignment (end_of (section_end place section) sections) ++ last.content in
    ap (λ (xs : List ℕ). filling section.alignment place ++ (section.content ++ xs))
    (contents-push (section_end place section) sections last)
    ∙ sym (append_assoc (filling section.alignment place) (section.content ++ rest) more
    ∙ ap (λ (xs : List ℕ). filling section.alignment place ++ xs)
    (append_assoc section.content rest more))

headers-push : (place name : ℕ) (sections : List Section) (last : Section)
    → headers place name (sections ++ last ∷ [])
    ≡ headers place name sections
    ++ section_header (name + length (flat_map named sections))
    (section_start (end_of place sections) last) last
headers-push place name [] last =
    let same : name ≡ name + 0 = omega arith in
    append-nil (section_header name (section_start place last) last)
    ∙ ap (λ (n : ℕ). section_header n (section_start place last) last) same
headers-push place name (section ∷ sections) last =
    let first = section_header name (section_start place section) section in
    let end = section_end place section in
    let next = name + length (named section) in
    let at = section_start (end_of end sections) last in
    let same : next + length (flat_map named sections)
    ≡ name + length (named section ++ flat_map named sections) =
    omega (arith, length-append (named section) (flat_map named sections))
    in
    ap (λ (xs : List ℕ). first ++ xs) (headers-push end next sections last)
    ∙ sym (append_assoc first (headers end next sections)
    (section_header (next + length (flat_map named sections)) at last))
    ∙ ap (λ (n : ℕ). (first ++ headers end next sections) ++ section_header n at last) same

-- contents have as many bytes as lie between their places
pub contents_size : (place : ℕ) (sections : List Section)
    → place + length (contents place sections) ≡ end_of place sections
contents_size place [] = omega arith
contents_size place (section ∷ sections) =
    let rest = contents (section_end place section) sections in
    omega (
      arith,
      length-append (filling section.alignment place) (section.content ++ rest),
      length-append section.content rest,
      contents_size (section_end place section) sections,
    )

-- ---- where there is too much

pub too_large : (sections : List Section) (i : ℕ) (section : Section) (end : ℕ) (names : List ℕ)
    → i < length sections → section ≡ get_or sections i section
    → end_of end (drop i sections) ≡ end_of 64 sections
    → names ++ flat_map named (drop i sections) ≡ 0 ∷ flat_map named sections
    → 2 ^ 32 ≤ section_end end section + length (names ++ named section)
    → 2 ^ 32 ≤ end_of 64 sections + names_size sections
too_large sections i section end names within is ends names_are large =
    let rest = drop (i + 1) sections in
    let split : drop i sections ≡ section ∷ rest =
    drop_more sections i section within ∙ ap (λ (s : Section). s ∷ rest) (sym is)
    in
    let grown : end_of (section_end end section) rest ≡ end_of 64 sections =
    sym (ap (end_of end) split) ∙ ends
    in
    let same : length (names ++ (named section ++ flat_map named rest)) ≡ names_size sections =
    sym (ap (λ (ss : List Section). length (names ++ flat_map named ss)) split)
    ∙ ap (λ (xs : List ℕ). length xs) names_are
    in
    omega (
      arith,
      large,
      grown,
      same,
      end_grows (section_end end section) rest,
      length-append names (named section),
      length-append names (named section ++ flat_map named rest),
      length-append (named section) (flat_map named rest),
    )

-- where the contents of all end
pub end_all : (sections : List Section)
    → end_of 64 (all_sections sections) ≡ end_of 64 sections + (names_size sections + 10)
end_all sections =
    let last = names_section sections in
    omega (
      arith,
      end_of-push 64 sections last,
      ap (λ (xs : List ℕ). length xs) (no_filling (end_of 64 sections)),
      length-append (0 ∷ flat_map named sections) (codes ".shstrtab" ++ 0 ∷ []),
    )

-- why there is no object, where memory is wanting or there is too much
pub fault_of : (sections : List Section) (error : ElfError)
    → (error ≡ OutOfMemory)
    ⊎ ((error ≡ TooLarge) × (2 ^ 32 ≤ end_of 64 (all_sections sections)))
    → IsSectionFault sections error
fault_of sections error (inl none) = subst (IsSectionFault sections) (sym none) tt
fault_of sections error (inr (too, large)) = subst (IsSectionFault sections) (sym too) large

-- ---- the bytes

names_count : (sections : List Section) (lay_end : ℕ) (lay_names lay_table : List ℕ)
    (end : ℕ) (names table : List ℕ)
    → IsLayout sections lay_end lay_names lay_table
    → IsLaid lay_end lay_names lay_table end names table
    → length names ≡ names_size sections + 10
names_count sections lay_end lay_names lay_table end names table lay laid =
    ap (λ (xs : List ℕ). length xs)
    (laid.names_are ∙ ap (λ (xs : List ℕ). xs ++ (codes ".shstrtab" ++ 0 ∷ [])) lay.names_are)
    ∙ length-append (0 ∷ flat_map named sections) (codes ".shstrtab" ++ 0 ∷ [])

-- where the contents of all end
end_is : (sections : List Section) (lay_end : ℕ) (lay_names lay_table : List ℕ)
    (end : ℕ) (names table : List ℕ)
    → IsLayout sections lay_end lay_names lay_table
    → IsLaid lay_end lay_names lay_table end names table
    → end ≡ end_of 64 (all_sections sections)
end_is sections lay_end lay_names lay_table end names table lay laid =
    omega (
      arith,
      laid.ends,
      lay.ends,
      end_all sections,
      names_count sections lay_end lay_names lay_table end names table lay laid,
    )

pub whole_end : (sections : List Section) (lay_end : ℕ) (lay_names lay_table : List ℕ)
    (end : ℕ) (names table : List ℕ)
    → IsLayout sections lay_end lay_names lay_table
    → IsLaid lay_end lay_names lay_table end names table
    → end_of 64 (all_sections sections) < 2 ^ 32
whole_end sections lay_end lay_names lay_table end names table lay laid =
    omega (
      arith,
      laid.small,
      end_is sections lay_end lay_names lay_table end names table lay laid,
    )

pub whole : (sections : List Section) (lay_end : ℕ) (lay_names lay_table : List ℕ)
    (end : ℕ) (names table : List ℕ) (place : ℕ) (one two three four five : List ℕ)
    → IsLayout sections lay_end lay_names lay_table
    → IsLaid lay_end lay_names lay_table end names table
    → place ≡ end + length (filling alignments.Eight end)
    → one ≡ elf_header place (length sections + 2)
    → two ≡ one ++ contents (length one) sections
    → three ≡ two ++ names
    → four ≡ three ++ filling alignments.Eight (length three)
    → five ≡ four ++ table
    → five ≡ object_of sections
whole sections lay_end lay_names lay_table end names table place one two three four five lay laid place_is is_one is_two is_three is_four is_five =
    let last = names_section sections in
    let names_are : names ≡ last.content =
    laid.names_are ∙ ap (λ (xs : List ℕ). xs ++ (codes ".shstrtab" ++ 0 ∷ [])) lay.names_are
    in
    let ends = end_is sections lay_end lay_names lay_table end names table lay laid in
    let body : contents 64 (all_sections sections) ≡ contents 64 sections ++ names =
    contents-push 64 sections last
    ∙ ap (λ (xs : List ℕ). contents 64 sections ++ (xs ++ last.content)) (no_filling (end_of 64 sections))
    ∙ ap (λ (xs : List ℕ). contents 64 sections ++ xs) (sym names_are)
    in
    let start : section_start (end_of 64 sections) last ≡ lay_end =
    omega (arith, lay.ends, ap (λ (xs : List ℕ). length xs) (no_filling (end_of 64 sections)))
    in
    let name : 1 + length (flat_map named sections) ≡ length lay_names =
    omega (arith, ap (λ (xs : List ℕ). length xs) lay.names_are)
    in
    let table_is : table ≡ replicate 64 0 ++ headers 64 1 (all_sections sections) =
    laid.table_is
    ∙ ap (λ (xs : List ℕ). xs ++ section_header (length lay_names) lay_end (string_section (codes ".shstrtab") names)) lay.table_is
    ∙ append_assoc (replicate 64 0) (headers 64 1 sections) (section_header (length lay_names) lay_end (string_section (codes ".shstrtab") names))
    ∙ ap (λ (xs : List ℕ). replicate 64 0 ++ (headers 64 1 sections ++ section_header (length lay_names) lay_end (string_section (codes ".shstrtab") xs))) names_are
    ∙ ap (λ (n : ℕ). replicate 64 0 ++ (headers 64 1 sections ++ section_header n lay_end last)) (sym name)
    ∙ ap (λ (n : ℕ). replicate 64 0 ++ (headers 64 1 sections ++ section_header (1 + length (flat_map named sections)) n last)) (sym start)
    ∙ ap (λ (xs : List ℕ). replicate 64 0 ++ xs) (sym (headers-push 64 1 sections last))
    in
    let size : length one ≡ 64 =
    ap (λ (xs : List ℕ). length xs) is_one ∙ header_size place (length sections + 2)
    in
    let three_is : three ≡ one ++ contents 64 (all_sections sections) =
    is_three
    ∙ ap (λ (xs : List ℕ). xs ++ names) (is_two ∙ ap (λ (n : ℕ). one ++ contents n sections) size)
    ∙ append_assoc one (contents 64 sections) names
    ∙ ap (λ (xs : List ℕ). one ++ xs) (sym body)
    in
    let three_size : length three ≡ end_of 64 (all_sections sections) =
    omega (
      arith,
      ap (λ (xs : List ℕ). length xs) three_is,
      length-append one (contents 64 (all_sections sections)),
      size,
      contents_size 64 (all_sections sections),
    )
    in
    let gap = filling alignments.Eight (end_of 64 (all_sections sections)) in
    let one_is : one ≡ elf_header (table_place sections) (length sections + 2) =
    is_one
    ∙ ap (λ (n : ℕ). elf_header n (length sections + 2))
    (place_is ∙ ap (λ (n : ℕ). n + length (filling alignments.Eight n)) ends)
    in
    is_five
    ∙ ap (λ (xs : List ℕ). xs ++ table)
    (is_four ∙ ap (λ (n : ℕ). three ++ filling alignments.Eight n) three_size
    ∙ ap (λ (xs : List ℕ). xs ++ gap) three_is)
    ∙ append_assoc (one ++ contents 64 (all_sections sections)) gap table
    ∙ append_assoc one (contents 64 (all_sections sections)) (gap ++ table)
    ∙ ap (λ (xs : List ℕ). xs ++ (contents 64 (all_sections sections) ++ (gap ++ table))) one_is
    ∙ ap (λ (xs : List ℕ). elf_header (table_place sections) (length sections + 2) ++ (contents 64 (all_sections sections) ++ (gap ++ xs))) table_is
