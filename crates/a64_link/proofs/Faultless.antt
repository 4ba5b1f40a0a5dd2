-- Units in which nothing is wrong may be linked.
use Rattle.std.proofs.Common.{ℕ, pos, ◌/◌, zero, suc, ◌≡◌, ◌⊎◌, ◌+◌, ◌%◌, ◌<◌, ◌≤◌, Bool, true, false, cond, eqb, ltb, List, [], ◌∷◌, ◌++◌, length, take, get_or, Option, Some, None, inl, inr, refl, sym, ap, subst, ◌∙◌, arith}
use Rattle.std.specs.Prelude.{nat_eq, is_some, ◌&&◌}
use Rattle.std.specs.List.{list_any}
use Rattle.std.specs.Ordering.{int_eq}
use Rattle.std.specs.Map.{lookup}
use Rattle.std.proofs.lemmas.Bool.{and_parts, and_cases, eqb-true, ltb-true, ltb-false, cases_Bool, false≢true}
use Rattle.std.proofs.lemmas.Bool.Decides.{Decides-int_eq}
use Rattle.std.proofs.lemmas.List.{append_assoc, append-nil, get_or-take, length-take-le}
use Rattle.std.proofs.lemmas.List.Folds.{list_any_at}
use Rattle.a64_base.specs.declared.entity.ExternalName.{ExternalName}
use Rattle.a64_rows.specs.declared.row_table.Row.TheVariants as rows
use Rattle.a64_rows.specs.Forms.{Matches}
use Rattle.a64_link.specs.declared.error.LinkError.{LinkError}
use Rattle.a64_link.specs.declared.error.LinkError.TheVariants as errors
use Rattle.a64_link.specs.declared.unit.Unit.{Unit}
use Rattle.a64_link.specs.declared.unit.Symbol.{Symbol}
use Rattle.a64_link.specs.Units.{Definition, Relocation, is_call, size, room, near, defined_in, defined_from, symbol_of}
use Rattle.a64_link.specs.Layout.{IsUnit}
use Rattle.a64_link.specs.Linking.{site_size, IsReloc, AreApart, IsPlaced, AreLinkable}
use Rattle.a64_link.specs.Faults.{or_else, is_branch, fits_call, fault_of, overlap, define_fault, defines_fault, reloc_fault, relocs_fault, unit_fault, units_fault, undefined_in, undefined_from, large_from}
use Rattle.a64_link.proofs.Branches.{branch_decides}
use Rattle.a64_link.proofs.RelocFaults.{IsFine, reloc_fine}

-- neither of two faults is there
pub both_none : (a b : Option LinkError) → or_else a b ≡ None → (a ≡ None) × (b ≡ None)
both_none None b e = (refl, e)
both_none (Some x) b e = absurd cc

-- ---- units by themselves

unit_of : (i : ℕ) (units : List Unit) → units_fault i units ≡ None → (k : ℕ) (unit : Unit) → IsUnit units k unit → unit_fault (i + k) unit ≡ None
unit_of i [] e k unit u = absurd (omega (arith, u.within))
unit_of i (v ∷ units) e zero unit u =
    let at : i ≡ i + 0 = omega arith in
    ap (unit_fault (i + 0)) (sym (u.is v)) ∙ ap (λ j. unit_fault j v) (sym at) ∙ (both_none (unit_fault i v) (units_fault (i + 1) units) e).0
unit_of i (v ∷ units) e (suc k) unit u =
    let at : i + 1 + k ≡ i + suc k = omega arith in
    ap (λ j. unit_fault j unit) (sym at) ∙ unit_of (i + 1) units (both_none (unit_fault i v) (units_fault (i + 1) units) e).1 k unit (record { within = omega (arith, u.within); is = u.is })

reloc_of : (i : ℕ) (words : List ℕ) (before rs : List Relocation) → relocs_fault i words before rs ≡ None → (k : ℕ) (r : Relocation) → k < length rs → ((d : Relocation) → get_or rs k d ≡ r)
    → IsFine words (before ++ take k rs) r
reloc_of i words before [] e k r lt is = absurd (omega arith)
reloc_of i words before (x ∷ rs) e zero r lt is =
    let fine = reloc_fine i words before x (both_none (reloc_fault i words before x) (relocs_fault i words (before ++ x ∷ []) rs) e).0 in
    subst (IsFine words (before ++ [])) (is x) (subst (λ (l : List Relocation). IsFine words l x) (sym (append-nil before)) fine)
reloc_of i words before (x ∷ rs) e (suc k) r lt is =
    subst (λ (l : List Relocation). IsFine words l r) (append_assoc before (x ∷ []) (take k rs))
    (reloc_of i words (before ++ x ∷ []) rs (both_none (reloc_fault i words before x) (relocs_fault i words (before ++ x ∷ []) rs) e).1 k r (omega arith) is)

fine_of : (i : ℕ) (unit : Unit) → unit_fault i unit ≡ None → (k : ℕ) (r : Relocation) → IsReloc unit k r → IsFine unit.words.items (take k unit.relocs.items) r
fine_of i unit e k r q =
    reloc_of i unit.words.items [] unit.relocs.items (both_none (defines_fault i (size unit) unit.defines.items) (relocs_fault i unit.words.items [] unit.relocs.items) e).1 k r q.within q.is

-- sites that do not overlap are apart
apart_of : (a b : Relocation) → overlap b a ≡ false → AreApart a b
apart_of a b e = elim (and_cases (ltb b.0 (a.0 + site_size a)) (ltb a.0 (b.0 + site_size b)) e) [
  | inl h ↦ inl (ltb-false b.0 (a.0 + site_size a) h)
  | inr h ↦ inr (ltb-false a.0 (b.0 + site_size b) h)
]

before_apart : (rs : List Relocation) (j k : ℕ) (a b : Relocation) → j < k → k < length rs → get_or rs j a ≡ a → list_any (overlap b) (take k rs) ≡ false → overlap b a ≡ false
before_apart rs j k a b lt within is none = elim (cases_Bool (overlap b a)) [
  | inl meets ↦
      let here : overlap b (get_or (take k rs) j a) ≡ true = ap (overlap b) (get_or-take k rs j a lt ∙ is) ∙ meets in
      absurd (false≢true (sym none ∙ list_any_at (overlap b) (take k rs) j a (omega (arith, length-take-le k rs (omega arith))) here))
  | inr no_ ↦ no_
]

-- ---- where symbols are

-- a symbol stands at a word of one of some units, which are numbered from this number on
record IsFound (i : ℕ) (units : List Unit) (s : Symbol) : Type 0 where
  at : ℕ
  unit : Unit
  is : IsUnit units at unit
  number : s.unit ≡ i + at
  aligned : s.place % 4 ≡ 0
  within : s.place < size unit

module _ (test : ℕ → Bool) where
  -- a definition of a unit with nothing wrong is at one of its words
  record IsHere (i bytes : ℕ) (s : Symbol) : Type 0 where
    number : s.unit ≡ i
    aligned : s.place % 4 ≡ 0
    within : s.place < bytes

  define_of : (i bytes : ℕ) (d : Definition) (s : Symbol) → define_fault i bytes d ≡ None → record { unit = i; place = d.1 } ≡ s → IsHere i bytes s
  define_of i bytes d s e is =
      let t = tests (eqb (d.1 % 4) 0 && ltb d.1 bytes) e in
      let parts = and_parts (eqb (d.1 % 4) 0) (ltb d.1 bytes) t in
      let place : d.1 ≡ s.place = ap (λ (x : Symbol). x.place) is in
      record { number = sym (ap (λ (x : Symbol). x.unit) is); aligned = omega (arith, eqb-true (d.1 % 4) 0 parts.0); within = omega (arith, ltb-true d.1 bytes parts.1) }
    where
      tests : (b : Bool) → cond b None (Some (errors.BadDefine i d.0)) ≡ None → b ≡ true
      tests true e = refl
      tests false e = absurd cc

  defines_of : (i bytes : ℕ) (ds : List Definition) (more : List (ℕ × Symbol)) (s : Symbol) → defines_fault i bytes ds ≡ None → lookup test (defined_in i ds ++ more) ≡ Some s
      → IsHere i bytes s ⊎ (lookup test more ≡ Some s)
  defines_of i bytes [] more s e is = inr is
  defines_of i bytes (d ∷ ds) more s e is =
      let parts = both_none (define_fault i bytes d) (defines_fault i bytes ds) e in
      at (test d.0.0) is (define_of i bytes d s parts.0) (defines_of i bytes ds more s parts.1)
    where
      at : (b : Bool) → cond b (Some (record { unit = i; place = d.1 })) (lookup test (defined_in i ds ++ more)) ≡ Some s
          → (record { unit = i; place = d.1 } ≡ s → IsHere i bytes s)
          → (lookup test (defined_in i ds ++ more) ≡ Some s → IsHere i bytes s ⊎ (lookup test more ≡ Some s)) → IsHere i bytes s ⊎ (lookup test more ≡ Some s)
      at true is here later = inl (here cc)
      at false is here later = later is

  found_of : (i : ℕ) (units : List Unit) (s : Symbol) → units_fault i units ≡ None → lookup test (defined_from i units) ≡ Some s → IsFound i units s
  found_of i [] s e is = absurd cc
  found_of i (unit ∷ units) s e is =
      let parts = both_none (unit_fault i unit) (units_fault (i + 1) units) e in
      let own = both_none (defines_fault i (size unit) unit.defines.items) (relocs_fault i unit.words.items [] unit.relocs.items) parts.0 in
      let next : i + 1 ≡ suc i = omega arith in
      let rest : units_fault (suc i) units ≡ None = ap (λ j. units_fault j units) (sym next) ∙ parts.1 in
      at (defines_of i (size unit) unit.defines.items (defined_from (suc i) units) s own.0 is) (found_of (suc i) units s rest)
    where
      at : IsHere i (size unit) s ⊎ (lookup test (defined_from (suc i) units) ≡ Some s) → (lookup test (defined_from (suc i) units) ≡ Some s → IsFound (suc i) units s) → IsFound i (unit ∷ units) s
      at (inl h) later = record { at = 0; unit = unit; is = record { within = omega arith; is = λ d. refl }; number = omega (arith, h.number); aligned = h.aligned; within = h.within }
      at (inr h) later =
          let f = later h in
          record { at = suc f.at; unit = f.unit; is = record { within = omega (arith, f.is.within); is = f.is.is }; number = omega (arith, f.number); aligned = f.aligned; within = f.within }

placed_of : (units : List Unit) (name : ExternalName) (s : Symbol) → units_fault 0 units ≡ None → symbol_of units name ≡ Some s → IsPlaced units s
placed_of units name s e is =
    let f = found_of (nat_eq name.0) 0 units s e is in
    let number : s.unit ≡ f.at = omega (arith, f.number) in
    record {
      aligned = f.aligned;
      within = λ unit u. (
          let same : f.unit ≡ unit = sym (f.is.is unit) ∙ ap (λ j. get_or units j unit) (sym number) ∙ u.is unit in
          subst (λ (v : Unit). s.place < size v) same f.within
          );
    }

-- ---- symbols that are used, and units with calls

used_in : (all : List Unit) (rs : List Relocation) → undefined_in all rs ≡ None → (k : ℕ) (r : Relocation) → k < length rs → ((d : Relocation) → get_or rs k d ≡ r) → is_some (symbol_of all r.2) ≡ true
used_in all [] e k r lt is = absurd (omega arith)
used_in all (x ∷ rs) e zero r lt is = ap (λ (y : Relocation). is_some (symbol_of all y.2)) (sym (is x)) ∙ at (is_some (symbol_of all x.2)) e
  where
    at : (b : Bool) → cond b (undefined_in all rs) (Some (errors.Undefined x.2)) ≡ None → b ≡ true
    at true e = refl
    at false e = absurd cc
used_in all (x ∷ rs) e (suc k) r lt is = used_in all rs (at (is_some (symbol_of all x.2)) e) k r (omega arith) is
  where
    at : (b : Bool) → cond b (undefined_in all rs) (Some (errors.Undefined x.2)) ≡ None → undefined_in all rs ≡ None
    at true e = e
    at false e = absurd cc

used_of : (all units : List Unit) → undefined_from all units ≡ None → (k : ℕ) (unit : Unit) → IsUnit units k unit → undefined_in all unit.relocs.items ≡ None
used_of all [] e k unit u = absurd (omega (arith, u.within))
used_of all (v ∷ units) e zero unit u =
    ap (λ (w : Unit). undefined_in all w.relocs.items) (sym (u.is v)) ∙ (both_none (undefined_in all v.relocs.items) (undefined_from all units) e).0
used_of all (v ∷ units) e (suc k) unit u =
    used_of all units (both_none (undefined_in all v.relocs.items) (undefined_from all units) e).1 k unit (record { within = omega (arith, u.within); is = u.is })

known_of : (o : Option Symbol) → is_some o ≡ true → (s : Symbol) × (o ≡ Some s)
known_of None e = absurd cc
known_of (Some s) e = (s, refl)

large_of : (i : ℕ) (units : List Unit) → large_from i units ≡ None → (k : ℕ) (unit : Unit) → IsUnit units k unit
    → (list_any (λ (r : Relocation). is_call r.1) unit.relocs.items && ltb near (room unit)) ≡ false
large_of i [] e k unit u = absurd (omega (arith, u.within))
large_of i (v ∷ units) e zero unit u =
    ap (λ (w : Unit). list_any (λ (r : Relocation). is_call r.1) w.relocs.items && ltb near (room w)) (sym (u.is v))
    ∙ at (list_any (λ (r : Relocation). is_call r.1) v.relocs.items && ltb near (room v)) e
  where
    at : (b : Bool) → cond b (Some (errors.UnitTooLarge i)) (large_from (i + 1) units) ≡ None → b ≡ false
    at true e = absurd cc
    at false e = refl
large_of i (v ∷ units) e (suc k) unit u =
    large_of (i + 1) units (at (list_any (λ (r : Relocation). is_call r.1) v.relocs.items && ltb near (room v)) e) k unit (record { within = omega (arith, u.within); is = u.is })
  where
    at : (b : Bool) → cond b (Some (errors.UnitTooLarge i)) (large_from (i + 1) units) ≡ None → large_from (i + 1) units ≡ None
    at true e = absurd cc
    at false e = e

near_of : (unit : Unit) (k : ℕ) (r : Relocation) → IsReloc unit k r → is_call r.1 ≡ true → (list_any (λ (x : Relocation). is_call x.1) unit.relocs.items && ltb near (room unit)) ≡ false → room unit ≤ near
near_of unit k r q c e =
    let some : list_any (λ (x : Relocation). is_call x.1) unit.relocs.items ≡ true = list_any_at (λ (x : Relocation). is_call x.1) unit.relocs.items k r q.within (ap (λ (x : Relocation). is_call x.1) (q.is r) ∙ c) in
    ltb-false near (room unit) (ap (λ (b : Bool). b && ltb near (room unit)) (sym some) ∙ e)

-- ---- words of calls

-- the word of a call is a branch, and nothing is added to where it leads
pub call_of : (units : List Unit) → fault_of units ≡ None → (i : ℕ) (unit : Unit) → IsUnit units i unit → (k : ℕ) (r : Relocation) → IsReloc unit k r → is_call r.1 ≡ true
    → Matches rows.Branch26 (get_or unit.words.items (r.0 / 4) 0) × (r.3 ≡ pos 0)
call_of units e i unit u k r q c =
    let own = (both_none (units_fault 0 units) _ e).0 in
    let fine = fine_of (0 + i) unit (unit_of 0 units own i unit u) k r q in
    let fits = and_parts (int_eq r.3 (pos 0)) (is_branch (get_or unit.words.items (r.0 / 4) 0)) (ap (λ (b : Bool). cond b (fits_call unit.words.items r) true) (sym c) ∙ fine.call) in
    ((branch_decides (get_or unit.words.items (r.0 / 4) 0)).0 fits.1, (Decides-int_eq r.3 (pos 0)).0 fits.0)

-- ---- all together

pub linkable : (units : List Unit) → units_fault 0 units ≡ None → undefined_from units units ≡ None → large_from 0 units ≡ None → AreLinkable units
linkable units own used large = record {
  placed = λ name s is. placed_of units name s own is;
  sites = λ i unit u. record {
    sites = λ k r q. (let f = fine i unit u k r q in record { aligned = f.aligned; within = f.within });
    apart = λ j k a b lt p q. apart_of a b (before_apart unit.relocs.items j k a b lt q.within (p.is a) (fine i unit u k b q).apart);
    known = λ k r q. known_of (symbol_of units r.2) (used_in units unit.relocs.items (used_of units units used i unit u) k r q.within q.is);
    near = λ k r q c. near_of unit k r q c (large_of 0 units large i unit u);
  };
}
  where
    fine : (i : ℕ) (unit : Unit) → IsUnit units i unit → (k : ℕ) (r : Relocation) → IsReloc unit k r → IsFine unit.words.items (take k unit.relocs.items) r
    fine i unit u k r q = fine_of (0 + i) unit (unit_of 0 units own i unit u) k r q
