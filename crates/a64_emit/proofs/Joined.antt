-- Cells that are put behind cells.
use Rattle.std.proofs.Common.{ℕ, ◌≡◌, Result, ◌+◌, ◌*◌, ◌⊎◌, inl, inr, suc, List, [], ◌∷◌, ◌++◌, length, take, map, Option, sym, ap, ◌∙◌, subst, arith, nat_cmp, append_assoc}
use Rattle.std.specs.Prelude.{min}
use Rattle.std.specs.FinMap.{FinMap}
use Rattle.std.specs.List.{filter_map}
use Rattle.std.proofs.lemmas.Bool.{cases_lt}
use Rattle.std.proofs.lemmas.List.{take-append-le, take_min, length-append, length-map, map-append}
use Rattle.std.proofs.lemmas.List.Elements.{filter_map-append}
use Rattle.std.proofs.lemmas.Result.{on_ok_weaker, on_err_weaker}
use Rattle.a64_buffer.specs.declared.site.Use.{Use}
use Rattle.a64_buffer.specs.Buffer.{Buffer, end_of}
use Rattle.a64_buffer.specs.Classes as classes
use Rattle.a64_buffer.proofs.Rooms.{part_room}
use Rattle.a64_label_use.specs.declared.label_use.LabelUse.{LabelUse}
use Rattle.a64_label_use.specs.LabelUses.{label_kinds}
use Rattle.a64_label_use.specs.LabelLaws.{label_kinds_lawful}
use Rattle.a64_cells.specs.Shapes.{Cell}
use Rattle.a64_cells.specs.Cells.{cell_word}
use Rattle.a64_emit.specs.Layout.{placed, reloc_at, relocs_in, call_at, calls_in, patchable_at, patchable_in, map_at, maps_in, trap_at, traps_in, records_in, more_records}
use Rattle.a64_emit.specs.Emission.{use_at, uses_from, appended, Parts, part_records, IsAppendedInPart, HasRoom, CellsFit, CanPut, PutsCells}
use Rattle.a64_emit.proofs.Holding.{same_holding, same_records, more_twice}

-- ---- what two lists of cells are together

pub uses_from-append : (labels : FinMap nat_cmp ℕ) (place : ℕ) (xs ys : List Cell) → uses_from labels place (xs ++ ys) ≡ uses_from labels place xs ++ uses_from labels (place + 4 * length xs) ys
uses_from-append labels place [] ys = ap (λ n. uses_from labels n ys) (omega arith)
uses_from-append labels place (c ∷ cs) ys =
    let there : place + 4 + 4 * length cs ≡ place + 4 * length (c ∷ cs) = omega arith in
    ap (λ us. use_at labels place c.site ++ us) (uses_from-append labels (place + 4) cs ys)
    ∙ ap (λ n. use_at labels place c.site ++ (uses_from labels (place + 4) cs ++ uses_from labels n ys)) there
    ∙ sym (append_assoc (use_at labels place c.site) (uses_from labels (place + 4) cs) (uses_from labels (place + 4 * length (c ∷ cs)) ys))

pub placed-append : (place : ℕ) (xs ys : List Cell) → placed place (xs ++ ys) ≡ placed place xs ++ placed (place + 4 * length xs) ys
placed-append place [] ys = ap (λ n. placed n ys) (omega arith)
placed-append place (c ∷ cs) ys =
    let there : place + 4 + 4 * length cs ≡ place + 4 * length (c ∷ cs) = omega arith in
    ap (λ cells. (place, c) ∷ cells) (placed-append (place + 4) cs ys)
    ∙ ap (λ n. (place, c) ∷ (placed (place + 4) cs ++ placed n ys)) there

-- what is found in cells at their places, of any kind
module _ {X : Type 0} (found : ℕ × Cell → Option X) where
  found-append : (place : ℕ) (xs ys : List Cell) → filter_map found (placed place (xs ++ ys)) ≡ filter_map found (placed place xs) ++ filter_map found (placed (place + 4 * length xs) ys)
  found-append place xs ys = ap (filter_map found) (placed-append place xs ys) ∙ filter_map-append found (placed place xs) (placed (place + 4 * length xs) ys)

traps_in-append : (place : ℕ) (xs ys : List Cell) → traps_in (placed place (xs ++ ys)) ≡ traps_in (placed place xs) ++ traps_in (placed (place + 4 * length xs) ys)
traps_in-append place xs ys = found-append trap_at place xs ys

pub records_in-append : (place : ℕ) (xs ys : List Cell) → records_in (placed place (xs ++ ys)) ≡ more_records (records_in (placed place xs)) (records_in (placed (place + 4 * length xs) ys))
records_in-append place xs ys =
    same_records _ _ _ _ _ _ _ _
    (found-append reloc_at place xs ys) (found-append call_at place xs ys) (found-append patchable_at place xs ys) (found-append map_at place xs ys)

-- ---- first parts of two lists

take-append-add : {X : Type 0} (k : ℕ) (xs ys : List X) → take (length xs + k) (xs ++ ys) ≡ xs ++ take k ys
take-append-add k [] ys = ap (λ n. take n ys) (omega arith)
take-append-add k (x ∷ xs) ys =
    let next : length (x ∷ xs) + k ≡ suc (length xs + k) = omega arith in
    ap (λ n. take n ((x ∷ xs) ++ ys)) next ∙ ap (λ zs. x ∷ zs) (take-append-add k xs ys)

-- no more of them than the first list has
first_taken : {X : Type 0} (k : ℕ) (xs ys : List X) → take (min k (length xs)) (xs ++ ys) ≡ take k xs
first_taken k xs ys = take-append-le (min k (length xs)) xs ys (omega arith) ∙ take_min k xs

-- how the numbers of a part stand to one another stays so
least_last : (m used count : ℕ) → (used ≡ count) ⊎ (used + 1 ≡ count) → (min used m ≡ min count m) ⊎ (min used m + 1 ≡ min count m)
least_last m used count (inl same) = inl (ap (λ n. min n m) same)
least_last m used count (inr less) = elim (cases_lt used m) [ inl lt ↦ inr (omega arith) | inr ge ↦ inl (omega arith) ]

least_next : (m k count : ℕ) → (k ≡ count) ⊎ (k ≡ count + 1) → (min k m ≡ min count m) ⊎ (min k m ≡ min count m + 1)
least_next m k count (inl same) = inl (ap (λ n. min n m) same)
least_next m k count (inr more) = elim (cases_lt count m) [ inl lt ↦ inr (omega arith) | inr ge ↦ inl (omega arith) ]

behind_last : (m used count : ℕ) → (used ≡ count) ⊎ (used + 1 ≡ count) → (m + used ≡ m + count) ⊎ (m + used + 1 ≡ m + count)
behind_last m used count (inl same) = inl (omega arith)
behind_last m used count (inr less) = inr (omega arith)

behind_next : (m k count : ℕ) → (k ≡ count) ⊎ (k ≡ count + 1) → (m + k ≡ m + count) ⊎ (m + k ≡ m + count + 1)
behind_next m k count (inl same) = inl (omega arith)
behind_next m k count (inr more) = inr (omega arith)

module _ (xs ys : List Cell) where
  -- a first part of the first list is one of both
  abbrev first_part : Parts xs → Parts (xs ++ ys)
  first_part p = record {
    count = min p.count (length xs);
    used = min p.used (length xs);
    last = least_last (length xs) p.used p.count p.last;
    marked = min p.marked (length xs);
    next = least_next (length xs) p.marked p.count p.next;
    related = min p.related (length xs);
    next_related = least_next (length xs) p.related p.count p.next_related;
    called = min p.called (length xs);
    called_few = omega (arith, p.called_few);
    patched = min p.patched (length xs);
    patched_few = omega (arith, p.patched_few);
    mapped = min p.mapped (length xs);
    mapped_few = omega (arith, p.mapped_few);
  }

  -- and so is all of it with a first part of the second
  abbrev second_part : Parts ys → Parts (xs ++ ys)
  second_part p = record {
    count = length xs + p.count;
    used = length xs + p.used;
    last = behind_last (length xs) p.used p.count p.last;
    marked = length xs + p.marked;
    next = behind_next (length xs) p.marked p.count p.next;
    related = length xs + p.related;
    next_related = behind_next (length xs) p.related p.count p.next_related;
    called = length xs + p.called;
    called_few = omega (arith, p.called_few);
    patched = length xs + p.patched;
    patched_few = omega (arith, p.patched_few);
    mapped = length xs + p.mapped;
    mapped_few = omega (arith, p.mapped_few);
  }

  module _ (place : ℕ) where
    first_records : (p : Parts xs) → part_records place (xs ++ ys) (first_part p) ≡ part_records place xs p
    first_records p =
        same_records _ _ _ _ _ _ _ _
        (ap (λ cells. relocs_in (placed place cells)) (first_taken p.related xs ys))
        (ap (λ cells. calls_in (placed place cells)) (first_taken p.called xs ys))
        (ap (λ cells. patchable_in (placed place cells)) (first_taken p.patched xs ys))
        (ap (λ cells. maps_in (placed place cells)) (first_taken p.mapped xs ys))

    -- what is found in the first list and in a first part of the second
    second_found : {X : Type 0} (found : ℕ × Cell → Option X) (k : ℕ) → filter_map found (placed place (take (length xs + k) (xs ++ ys))) ≡ filter_map found (placed place xs) ++ filter_map found (placed (place + 4 * length xs) (take k ys))
    second_found found k = ap (λ cells. filter_map found (placed place cells)) (take-append-add k xs ys) ∙ found-append found place xs (take k ys)

    second_records : (p : Parts ys) → part_records place (xs ++ ys) (second_part p) ≡ more_records (records_in (placed place xs)) (part_records (place + 4 * length xs) ys p)
    second_records p =
        same_records _ _ _ _ _ _ _ _
        (second_found reloc_at p.related) (second_found call_at p.called) (second_found patchable_at p.patched) (second_found map_at p.mapped)

-- ---- buffers

module _ (b : Buffer LabelUse) (xs ys : List Cell) where
  end_behind : end_of (appended b xs) ≡ end_of b + 4 * length xs
  end_behind = omega (arith, length-append b.words (map cell_word xs), length-map xs cell_word)

  words_behind : (zs : List Cell) → (b.words ++ map cell_word xs) ++ map cell_word zs ≡ b.words ++ map cell_word (xs ++ zs)
  words_behind zs = append_assoc b.words (map cell_word xs) (map cell_word zs) ∙ ap (λ ws. b.words ++ ws) (sym (map-append cell_word xs zs))

  uses_behind : (zs : List Cell) → (b.uses ++ uses_from b.labels (end_of b) xs) ++ uses_from b.labels (end_of (appended b xs)) zs ≡ b.uses ++ uses_from b.labels (end_of b) (xs ++ zs)
  uses_behind zs =
      append_assoc b.uses (uses_from b.labels (end_of b) xs) (uses_from b.labels (end_of (appended b xs)) zs)
      ∙ ap (λ n. b.uses ++ (uses_from b.labels (end_of b) xs ++ uses_from b.labels n zs)) end_behind
      ∙ ap (λ us. b.uses ++ us) (sym (uses_from-append b.labels (end_of b) xs zs))

  traps_behind : (zs : List Cell) → (b.traps ++ traps_in (placed (end_of b) xs)) ++ traps_in (placed (end_of (appended b xs)) zs) ≡ b.traps ++ traps_in (placed (end_of b) (xs ++ zs))
  traps_behind zs =
      append_assoc b.traps (traps_in (placed (end_of b) xs)) (traps_in (placed (end_of (appended b xs)) zs))
      ∙ ap (λ n. b.traps ++ (traps_in (placed (end_of b) xs) ++ traps_in (placed n zs))) end_behind
      ∙ ap (λ ts. b.traps ++ ts) (sym (traps_in-append (end_of b) xs zs))

  records_behind : more_records (more_records b.records (records_in (placed (end_of b) xs))) (records_in (placed (end_of (appended b xs)) ys)) ≡ more_records b.records (records_in (placed (end_of b) (xs ++ ys)))
  records_behind =
      more_twice b.records (records_in (placed (end_of b) xs)) (records_in (placed (end_of (appended b xs)) ys))
      ∙ ap (λ n. more_records b.records (more_records (records_in (placed (end_of b) xs)) (records_in (placed n ys)))) end_behind
      ∙ ap (more_records b.records) (sym (records_in-append (end_of b) xs ys))

  part_behind : (p : Parts ys) → more_records (more_records b.records (records_in (placed (end_of b) xs))) (part_records (end_of (appended b xs)) ys p) ≡ more_records b.records (part_records (end_of b) (xs ++ ys) (second_part xs ys p))
  part_behind p =
      more_twice b.records (records_in (placed (end_of b) xs)) (part_records (end_of (appended b xs)) ys p)
      ∙ ap (λ n. more_records b.records (more_records (records_in (placed (end_of b) xs)) (part_records n ys p))) end_behind
      ∙ ap (more_records b.records) (sym (second_records xs ys (end_of b) p))

  -- cells behind cells are both lists
  pub appended_twice : appended (appended b xs) ys ≡ appended b (xs ++ ys)
  appended_twice =
      same_holding b _ _ _ _ _ _ _ _ (words_behind ys) (uses_behind ys) (traps_behind ys) records_behind

  pub joined : (b1 b2 : Buffer LabelUse) → b1 ≡ appended b xs → b2 ≡ appended b1 ys → b2 ≡ appended b (xs ++ ys)
  joined b1 b2 e f = f ∙ ap (λ c. appended c ys) e ∙ appended_twice

  pub part_first : (b' : Buffer LabelUse) → IsAppendedInPart b b' xs → IsAppendedInPart b b' (xs ++ ys)
  part_first b' p = record {
    part = first_part xs ys p.part;
    words = p.words ∙ ap (λ cells. b.words ++ map cell_word cells) (sym (first_taken p.part.count xs ys));
    uses = p.uses ∙ ap (λ cells. b.uses ++ uses_from b.labels (end_of b) cells) (sym (first_taken p.part.used xs ys));
    traps = p.traps ∙ ap (λ cells. b.traps ++ traps_in (placed (end_of b) cells)) (sym (first_taken p.part.marked xs ys));
    records = p.records ∙ ap (more_records b.records) (sym (first_records xs ys (end_of b) p.part));
    labels = p.labels;
    constants = p.constants;
    islands = p.islands;
  }

  pub part_second : (b1 b' : Buffer LabelUse) → b1 ≡ appended b xs → IsAppendedInPart b1 b' ys → IsAppendedInPart b b' (xs ++ ys)
  part_second b1 b' e part = behind (subst (λ c. IsAppendedInPart c b' ys) e part)
    where
      behind : IsAppendedInPart (appended b xs) b' ys → IsAppendedInPart b b' (xs ++ ys)
      behind p = record {
        part = second_part xs ys p.part;
        words = p.words ∙ words_behind (take p.part.count ys) ∙ ap (λ cells. b.words ++ map cell_word cells) (sym (take-append-add p.part.count xs ys));
        uses = p.uses ∙ uses_behind (take p.part.used ys) ∙ ap (λ cells. b.uses ++ uses_from b.labels (end_of b) cells) (sym (take-append-add p.part.used xs ys));
        traps = p.traps ∙ traps_behind (take p.part.marked ys) ∙ ap (λ cells. b.traps ++ traps_in (placed (end_of b) cells)) (sym (take-append-add p.part.marked xs ys));
        records = p.records ∙ part_behind p.part;
        labels = p.labels;
        constants = p.constants;
        islands = p.islands;
      }

  -- ---- room

  room_first : HasRoom b (xs ++ ys) → HasRoom b xs
  room_first h = omega (arith, h, length-append xs ys)

  room_second : (b1 : Buffer LabelUse) → b1 ≡ appended b xs → HasRoom b (xs ++ ys) → HasRoom b1 ys
  room_second b1 e h = subst (λ (c : Buffer LabelUse). HasRoom c ys) (sym e) (omega (arith, h, length-append xs ys, end_behind))

  -- what is open reaches over the first list, if it does over both
  fits_first : CellsFit b (xs ++ ys) → CellsFit b xs
  fits_first h =
      let both : classes.HasRoom label_kinds (end_of b) ((b.uses ++ uses_from b.labels (end_of b) xs) ++ uses_from b.labels (end_of (appended b xs)) ys) (4 * length (xs ++ ys)) = subst (λ (us : List (Use LabelUse)). classes.HasRoom label_kinds (end_of b) us (4 * length (xs ++ ys))) (sym (uses_behind ys)) h in
      part_room label_kinds label_kinds_lawful (end_of b) (b.uses ++ uses_from b.labels (end_of b) xs) (uses_from b.labels (end_of (appended b xs)) ys) (4 * length (xs ++ ys)) (end_of b) (4 * length xs) (omega (arith, length-append xs ys)) both

  -- and behind the first list over the second
  fits_second : (b1 : Buffer LabelUse) → b1 ≡ appended b xs → CellsFit b (xs ++ ys) → CellsFit b1 ys
  fits_second b1 e h =
      let both : classes.HasRoom label_kinds (end_of b) ((b.uses ++ uses_from b.labels (end_of b) xs) ++ uses_from b.labels (end_of (appended b xs)) ys) (4 * length (xs ++ ys)) = subst (λ (us : List (Use LabelUse)). classes.HasRoom label_kinds (end_of b) us (4 * length (xs ++ ys))) (sym (uses_behind ys)) h in
      subst (λ (c : Buffer LabelUse). CellsFit c ys) (sym e)
      (record { rooms = λ k d w o. let y = both.rooms k d w o in omega (arith, y, end_behind, length-append xs ys) })

  -- both can be put, so the first can, and behind it the second
  pub can_first : CanPut b (xs ++ ys) → CanPut b xs
  can_first can = record { room = room_first can.room; fits = fits_first can.fits }

  pub can_second : (b1 : Buffer LabelUse) → b1 ≡ appended b xs → CanPut b (xs ++ ys) → CanPut b1 ys
  can_second b1 e can = record { room = room_second b1 e can.room; fits = fits_second b1 e can.fits }

  -- a call that puts the second behind the first has put both
  pub puts_second : {T E : Type 0} (r : Result T E) (b1 b2 : Buffer LabelUse) → b1 ≡ appended b xs → PutsCells r b1 b2 ys → PutsCells r b b2 (xs ++ ys)
  puts_second r b1 b2 e puts = record { ok = on_ok_weaker r (joined b1 b2 e) puts.ok; err = on_err_weaker r (part_second b1 b2 e) puts.err }
