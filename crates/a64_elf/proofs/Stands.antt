-- Sections stand where their headers tell, and apart.
use Rattle.std.proofs.Common.{ℕ, zero, suc, ◌≡◌, ◌+◌, ◌*◌, ◌<◌, ◌≤◌, ◌∙◌, Some, None, List, [], ◌∷◌, ◌++◌, length, take, drop, replicate, refl, sym, ap, subst, arith}
use Rattle.std.specs.Prelude.{slice_get}
use Rattle.std.proofs.lemmas.List.{append_assoc, length-append, take_at, drop_at}
use Rattle.a64_elf.specs.declared.section.Alignment.TheVariants as alignments
use Rattle.a64_elf.specs.declared.section.Section.{Section}
use Rattle.a64_elf.specs.Fields.{filling, half, word, long, elf_header, section_header}
use Rattle.a64_elf.specs.Sections.{section_start, section_end, contents, end_of, named, headers}
use Rattle.a64_elf.specs.Sections.{all_sections, names_section, table_place, object_of, place_of, StandsAt}
use Rattle.a64_elf.proofs.Whole.{header_size, end_grows, contents_size}

section_header_size : (name place : ℕ) (section : Section) → length (section_header name place section) ≡ 64
unfolding section_header half word long
section_header_size name place section = refl

headers_size : (place name : ℕ) (sections : List Section) → length (headers place name sections) ≡ 64 * length sections
headers_size place name [] = refl
headers_size place name (section ∷ sections) =
    omega (
      arith,
      section_header_size name (section_start place section) section,
      length-append (section_header name (section_start place section) section)
          (headers (section_end place section) (name + length (named section)) sections),
      headers_size (section_end place section) (name + length (named section)) sections,
    )

-- ---- places

place_grows : (place : ℕ) (sections : List Section) (k : ℕ) → place ≤ place_of place sections k
place_grows place [] k = omega arith
place_grows place (section ∷ sections) zero = omega arith
place_grows place (section ∷ sections) (suc k) =
    omega (arith, place_grows (section_end place section) sections k)

fits : (place : ℕ) (sections : List Section) (k : ℕ) (section : Section)
    → slice_get sections k ≡ Some section
    → place_of place sections k + length section.content ≤ end_of place sections
fits place [] k section is = absurd (let e : None ≡ Some section = is in cc)
fits place (first ∷ sections) zero section is =
    let same : first ≡ section = cc in
    subst (λ (s : Section). section_start place first + length s.content ≤ end_of (section_end place first) sections) same
    (end_grows (section_end place first) sections)
fits place (first ∷ sections) (suc k) section is =
    fits (section_end place first) sections k section is

are_apart : (place : ℕ) (sections : List Section) (j k : ℕ) (section : Section)
    → slice_get sections j ≡ Some section → j < k → k < length sections
    → place_of place sections j + length section.content ≤ place_of place sections k
are_apart place [] j k section is before within = absurd (omega (arith, within))
are_apart place (first ∷ sections) j zero section is before within = absurd (omega (arith, before))
are_apart place (first ∷ sections) zero (suc k) section is before within =
    let same : first ≡ section = cc in
    subst (λ (s : Section). section_start place first + length s.content ≤ place_of (section_end place first) sections k) same
    (place_grows (section_end place first) sections k)
are_apart place (first ∷ sections) (suc j) (suc k) section is before within =
    are_apart (section_end place first) sections j k section is (omega (arith, before)) (omega (arith, within))

-- the pieces, one behind another
split_first : (front gap content rest back : List ℕ)
    → front ++ ((gap ++ (content ++ rest)) ++ back) ≡ (front ++ gap) ++ (content ++ (rest ++ back))
split_first front gap content rest back =
    ap (λ (xs : List ℕ). front ++ xs)
    (append_assoc gap (content ++ rest) back
    ∙ ap (λ (xs : List ℕ). gap ++ xs) (append_assoc content rest back))
    ∙ sym (append_assoc front gap (content ++ (rest ++ back)))

-- the bytes behind a front, from a place in them on
at_split : (front content rest whole : List ℕ) (place : ℕ) → whole ≡ front ++ (content ++ rest)
    → length front ≡ place → take (length content) (drop place whole) ≡ content
at_split front content rest whole place is size =
    ap (λ (xs : List ℕ). take (length content) (drop place xs)) is
    ∙ ap (λ (xs : List ℕ). take (length content) xs) (drop_at front (content ++ rest) place size)
    ∙ take_at content rest (length content) refl

has_content : (place : ℕ) (sections : List Section) (k : ℕ) (section : Section)
    (front back whole : List ℕ)
    → length front ≡ place → whole ≡ front ++ (contents place sections ++ back)
    → slice_get sections k ≡ Some section
    → take (length section.content) (drop (place_of place sections k) whole) ≡ section.content
has_content place [] k section front back whole size is found =
    absurd (let e : None ≡ Some section = found in cc)
has_content place (first ∷ sections) zero section front back whole size is found =
    let gap = filling first.alignment place in
    let rest = contents (section_end place first) sections in
    let same : first ≡ section = cc in
    subst (λ (s : Section). take (length s.content) (drop (section_start place first) whole) ≡ s.content) same
    (at_split (front ++ gap) first.content (rest ++ back) whole (section_start place first)
    (is ∙ split_first front gap first.content rest back)
    (length-append front gap ∙ ap (λ (n : ℕ). n + length gap) size))
has_content place (first ∷ sections) (suc k) section front back whole size is found =
    let gap = filling first.alignment place in
    let rest = contents (section_end place first) sections in
    let end : length ((front ++ gap) ++ first.content) ≡ section_end place first =
    omega (arith, size, length-append (front ++ gap) first.content, length-append front gap)
    in
    has_content (section_end place first) sections k section ((front ++ gap) ++ first.content) back whole end
    (is ∙ split_first front gap first.content rest back
    ∙ sym (append_assoc (front ++ gap) first.content (rest ++ back)))
    found

-- ---- an object

pub object_size : (sections : List Section) (bytes : List ℕ) → bytes ≡ object_of sections
    → length bytes ≡ table_place sections + 64 * (length sections + 2)
object_size sections bytes is =
    let all = all_sections sections in
    let head = elf_header (table_place sections) (length sections + 2) in
    let gap = filling alignments.Eight (end_of 64 all) in
    let table = replicate 64 0 ++ headers 64 1 all in
    omega (
      arith,
      ap (λ (xs : List ℕ). length xs) is,
      length-append head (contents 64 all ++ (gap ++ table)),
      length-append (contents 64 all) (gap ++ table),
      length-append gap table,
      length-append (replicate 64 0) (headers 64 1 all),
      length-append sections (names_section sections ∷ []),
      header_size (table_place sections) (length sections + 2),
      contents_size 64 all,
      headers_size 64 1 all,
    )

pub all_stand : (sections : List Section) (bytes : List ℕ) → bytes ≡ object_of sections
    → (k : ℕ) (section : Section) → slice_get (all_sections sections) k ≡ Some section
    → StandsAt bytes (table_place sections) (place_of 64 (all_sections sections) k) section
all_stand sections bytes is = λ k section found.
    let all = all_sections sections in
    let gap = filling alignments.Eight (end_of 64 all) in
    record {
      has =
          has_content 64 all k section (elf_header (table_place sections) (length sections + 2))
          (gap ++ (replicate 64 0 ++ headers 64 1 all)) bytes
          (header_size (table_place sections) (length sections + 2)) is found;
      before_table = omega (arith, fits 64 all k section found);
    }

pub all_apart : (sections : List Section)
    → (j k : ℕ) (section : Section) → slice_get (all_sections sections) j ≡ Some section → j < k
    → k < length (all_sections sections)
    → place_of 64 (all_sections sections) j + length section.content
    ≤ place_of 64 (all_sections sections) k
all_apart sections = λ j k section found before within.
    are_apart 64 (all_sections sections) j k section found before within
