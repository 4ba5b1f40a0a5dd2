-- The bytes of words that are data.
use Rattle.std.proofs.Common.{ℕ, zero, suc, ◌≡◌, ◌+◌, ◌*◌, ◌-◌, ◌/◌, ◌≤◌, ◌<◌, Bool, true, false, List, [], ◌∷◌, ◌++◌, length, map, slice_index_or, Option, inl, inr, refl, sym, ap, ◌∙◌, subst, arith}
use Rattle.std.specs.Prelude.{◌⊎◌}
use Rattle.std.proofs.lemmas.Bool.{cases_lt, false≢true}
use Rattle.a64_base.specs.declared.entity.MachLabel.{MachLabel}
use Rattle.a64_base.specs.declared.key.APIKey.{APIKey}
use Rattle.a64_inst.specs.declared.emission.EmitFlags.{EmitFlags}
use Rattle.a64_inst.specs.declared.frame.FrameLayout.{FrameLayout}
use Rattle.a64_rows.specs.Forms.{Form}
use Rattle.a64_cells.specs.declared.callee.Callee.{Callee}
use Rattle.a64_cells.specs.Cells.{leave_forms, restored_cell, return_cell, return_cells}
use Rattle.a64_cells.specs.Shapes.{Cell, plain, table_cells}
use Rattle.a64_data.specs.Cells.{InData, is_data, is_data_at}
use Rattle.a64_data.specs.Marks.{InBytes, Marks}
use Rattle.a64_data.proofs.Marking.{marks_as, marks_none, marks_then}
use Rattle.a64_data.proofs.Forms.{any_data, none_at, plain_data}

-- so many words from one on are data, and no others
pub record AreData (cells : List Cell) (first count : ℕ) : Type 0 where
  pub from : (n : ℕ) → is_data_at cells n ≡ true → first ≤ n
  pub before : (n : ℕ) → is_data_at cells n ≡ true → n < first + count
  pub all : (n : ℕ) → first ≤ n → n < first + count → is_data_at cells n ≡ true

module _ (cells : List Cell) (place : ℕ) where
  -- they are these bytes
  pub data_bytes : (first count : ℕ) → AreData cells first count → (a b : List Bool) → Marks (InBytes (place + 4 * first) (4 * count)) a b → Marks (InData cells place) a b
  data_bytes first count are a b m = marks_as (InBytes (place + 4 * first) (4 * count)) (InData cells place) a b back forth m
    where
      back : (k : ℕ) → k < length a → InData cells place k → InBytes (place + 4 * first) (4 * count) k
      back k lt h = record {
        from = omega (arith, are.from h.index h.data_is, h.lies.from);
        before = omega (arith, are.before h.index h.data_is, h.lies.before);
      }

      forth : (k : ℕ) → InBytes (place + 4 * first) (4 * count) k → InData cells place k
      forth k h =
          let n : ℕ = (k - place) / 4 in record {
            index = n;
            data_is = are.all n (omega (arith, h.from)) (omega (arith, h.from, h.before));
            lies = record { from = omega (arith, h.from); before = omega (arith, h.from) };
          }

  -- no word is data
  pub no_bytes : (xs : List Bool) → any_data cells ≡ false → Marks (InData cells place) xs xs
  no_bytes xs e = marks_none (InData cells place) xs (λ k lt h. false≢true (sym (none_at cells h.index e) ∙ h.data_is))

-- ---- words of data

pub one_word : (c : Cell) → is_data c ≡ true → AreData (c ∷ []) 0 1
one_word c is = record {
  from = λ n h. omega arith;
  before = before;
  all = all;
}
  where
    before : (n : ℕ) → is_data_at (c ∷ []) n ≡ true → n < 0 + 1
    before zero h = omega arith
    before (suc n) h = absurd cc

    all : (n : ℕ) → 0 ≤ n → n < 0 + 1 → is_data_at (c ∷ []) n ≡ true
    all zero low high = is
    all (suc n) low high = absurd (omega (arith, high))

pub two_words : (c d : Cell) → is_data c ≡ true → is_data d ≡ true → AreData (c ∷ d ∷ []) 0 2
two_words c d is too = record {
  from = λ n h. omega arith;
  before = before;
  all = all;
}
  where
    before : (n : ℕ) → is_data_at (c ∷ d ∷ []) n ≡ true → n < 0 + 2
    before zero h = omega arith
    before (suc zero) h = omega arith
    before (suc (suc n)) h = absurd cc

    all : (n : ℕ) → 0 ≤ n → n < 0 + 2 → is_data_at (c ∷ d ∷ []) n ≡ true
    all zero low high = is
    all (suc zero) low high = too
    all (suc (suc n)) low high = absurd (omega (arith, high))

-- one word more in front, which is none
pub one_behind : (c : Cell) (cells : List Cell) (first count : ℕ) → is_data c ≡ false → AreData cells first count → AreData (c ∷ cells) (first + 1) count
one_behind c cells first count bare are = record { from = from; before = before; all = all }
  where
    from : (n : ℕ) → is_data_at (c ∷ cells) n ≡ true → first + 1 ≤ n
    from zero h = absurd (false≢true (sym bare ∙ h))
    from (suc n) h = omega (arith, are.from n h)

    before : (n : ℕ) → is_data_at (c ∷ cells) n ≡ true → n < first + 1 + count
    before zero h = absurd (false≢true (sym bare ∙ h))
    before (suc n) h = omega (arith, are.before n h)

    all : (n : ℕ) → first + 1 ≤ n → n < first + 1 + count → is_data_at (c ∷ cells) n ≡ true
    all zero low high = absurd (omega (arith, low))
    all (suc n) low high = are.all n (omega (arith, low)) (omega (arith, high))

-- ---- tables

in_table : (k : ℕ) (labels : List MachLabel) (n : ℕ) → is_data_at (table_cells k labels) n ≡ true → n < 0 + length labels
in_table k [] n h = absurd cc
in_table k (label ∷ labels) zero h = omega arith
in_table k (label ∷ labels) (suc n) h = omega (arith, in_table (k + 1) labels n h)

all_table : (k : ℕ) (labels : List MachLabel) (n : ℕ) → n < length labels → is_data_at (table_cells k labels) n ≡ true
all_table k [] n high = absurd (omega (arith, high))
all_table k (label ∷ labels) zero high = refl
all_table k (label ∷ labels) (suc n) high = all_table (k + 1) labels n (omega (arith, high))

table_data : (k : ℕ) (labels : List MachLabel) → AreData (table_cells k labels) 0 (length labels)
table_data k labels = record {
  from = λ n h. omega arith;
  before = in_table k labels;
  all = λ n low high. all_table k labels n (omega (arith, high));
}

pub behind_forms : (forms : List Form) (labels : List MachLabel) → AreData (map plain forms ++ table_cells 0 labels) (length forms) (length labels)
behind_forms [] labels = table_data 0 labels
behind_forms (f ∷ forms) labels =
    subst (λ n. AreData (plain f ∷ map plain forms ++ table_cells 0 labels) n (length labels)) (omega arith)
    (one_behind (plain f) (map plain forms ++ table_cells 0 labels) (length forms) (length labels) refl (behind_forms forms labels))

-- ---- one word after another

pub record IsDataBefore (cells : List Cell) (place count k : ℕ) : Type 0 where
  pub is : InData cells place k
  pub below : is.index < count

short_data : (cells : List Cell) (n : ℕ) → is_data_at cells n ≡ true → n < length cells
short_data [] n h = absurd cc
short_data (c ∷ cs) zero h = omega arith
short_data (c ∷ cs) (suc n) h = omega (arith, short_data cs n h)

module _ (cells : List Cell) (place : ℕ) where
  pub before_none : (xs : List Bool) → Marks (IsDataBefore cells place 0) xs xs
  before_none xs = marks_none (IsDataBefore cells place 0) xs (λ k lt h. absurd (omega (arith, h.below)))

  pub before_all : (count : ℕ) → length cells ≤ count → (a b : List Bool) → Marks (IsDataBefore cells place count) a b → Marks (InData cells place) a b
  before_all count long a b m =
      marks_as (IsDataBefore cells place count) (InData cells place) a b
      (λ k lt h. record { is = h; below = omega (arith, short_data cells h.index h.data_is, long) }) (λ k h. h.is) m

  pub before_same : (count : ℕ) → is_data_at cells count ≡ false → (a b : List Bool) → Marks (IsDataBefore cells place count) a b → Marks (IsDataBefore cells place (count + 1)) a b
  before_same count bare a b m = marks_as (IsDataBefore cells place count) (IsDataBefore cells place (count + 1)) a b back forth m
    where
      back : (k : ℕ) → k < length a → IsDataBefore cells place (count + 1) k → IsDataBefore cells place count k
      back k lt h = elim (cases_lt h.is.index count) [
        | inl less ↦ record { is = h.is; below = less }
        | inr past ↦ absurd (false≢true (sym bare ∙ ap (is_data_at cells) (omega (arith, past, h.below)) ∙ h.is.data_is))
      ]

      forth : (k : ℕ) → IsDataBefore cells place count k → IsDataBefore cells place (count + 1) k
      forth k h = record { is = h.is; below = omega (arith, h.below) }

  pub before_more : (count : ℕ) → is_data_at cells count ≡ true → (a b c : List Bool) → Marks (IsDataBefore cells place count) a b → Marks (InBytes (place + 4 * count) (4 * 1)) b c → Marks (IsDataBefore cells place (count + 1)) a c
  before_more count is a b c m n =
      marks_as (λ k. IsDataBefore cells place count k ⊎ InBytes (place + 4 * count) (4 * 1) k) (IsDataBefore cells place (count + 1)) a c back forth
      (marks_then (IsDataBefore cells place count) (InBytes (place + 4 * count) (4 * 1)) a b c m n)
    where
      back : (k : ℕ) → k < length a → IsDataBefore cells place (count + 1) k → IsDataBefore cells place count k ⊎ InBytes (place + 4 * count) (4 * 1) k
      back k lt h = elim (cases_lt h.is.index count) [
        | inl less ↦ inl (record { is = h.is; below = less })
        | inr past ↦ inr (record { from = omega (arith, past, h.below, h.is.lies.from); before = omega (arith, past, h.below, h.is.lies.before) })
      ]

      forth : (k : ℕ) → IsDataBefore cells place count k ⊎ InBytes (place + 4 * count) (4 * 1) k → IsDataBefore cells place (count + 1) k
      forth k (inl h) = record { is = h.is; below = omega (arith, h.below) }
      forth k (inr h) = record { is = record { index = count; data_is = is; lies = record { from = h.from; before = omega (arith, h.before) } }; below = omega arith }

-- the word of an element
pub mapped : {X : Type 0} (f : X → Cell) (xs : List X) (i : ℕ) (x : X) → i < length xs → x ≡ slice_index_or xs i x → is_data_at (map f xs) i ≡ is_data (f x)
mapped f [] i x lt e = absurd (omega (arith, lt))
mapped f (y ∷ ys) zero x lt e = ap (λ z. is_data (f z)) (sym e)
mapped f (y ∷ ys) (suc i) x lt e = mapped f ys i x (omega (arith, lt)) e

-- ---- words behind which none is data

front_data : (xs ys : List Cell) (n : ℕ) → any_data ys ≡ false → is_data_at (xs ++ ys) n ≡ is_data_at xs n
front_data [] ys n e = none_at ys n e
front_data (x ∷ xs) ys zero e = refl
front_data (x ∷ xs) ys (suc n) e = front_data xs ys n e

pub front_bytes : (xs ys : List Cell) (place : ℕ) → any_data ys ≡ false → (a b : List Bool) → Marks (InData xs place) a b → Marks (InData (xs ++ ys) place) a b
front_bytes xs ys place e a b m =
    marks_as (InData xs place) (InData (xs ++ ys) place) a b
    (λ k lt h. record { index = h.index; data_is = sym (front_data xs ys h.index e) ∙ h.data_is; lies = h.lies })
    (λ k h. record { index = h.index; data_is = front_data xs ys h.index e ∙ h.data_is; lies = h.lies }) m

-- a return that calls
pub return_bytes : (frame : FrameLayout) (flags : EmitFlags) (callee : Callee) (size : ℕ) (key : Option APIKey) (all : Bool) (place : ℕ) (a b : List Bool)
    → Marks (InData (map (restored_cell frame flags) frame.restore) place) a b → Marks (InData (return_cells frame flags callee size key all) place) a b
return_bytes frame flags callee size key all place a b m =
    let restored = map (restored_cell frame flags) frame.restore in
    let leave = map plain (leave_forms frame size key all) in
    front_bytes (restored ++ leave) (return_cell callee ∷ []) place refl a b
    (front_bytes restored leave place (plain_data (leave_forms frame size key all)) a b m)
