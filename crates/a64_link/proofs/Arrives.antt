-- Where the calls of linked units arrive.
use Rattle.std.proofs.Common.{ℕ, pos, zero, suc, ◌≡◌, ◌+◌, ◌*◌, ◌/◌, ◌%◌, ◌<◌, ◌≤◌, cond, Bool, true, false, List, [], ◌∷◌, length, get_or, Some, None, refl, sym, ap, subst, ◌∙◌, arith, nat_cmp}
use Rattle.std.specs.Prelude.{nat_lt}
use Rattle.std.specs.FinMap.{FinMap}
use Rattle.std.specs.List.{Contains}
use Rattle.std.proofs.lemmas.Bool.{MatchBool-at_true, lt-ltb, le-ltb}
use Rattle.a64_rows.specs.declared.row_table.Row.TheVariants as rows
use Rattle.a64_rows.specs.Forms.{Matches}
use Rattle.a64_words.specs.Word.{StandAt}
use Rattle.a64_words.specs.Word.{word_at as loaded_at}
use Rattle.a64_label_use.specs.FarJumps.{LeadFar}
use Rattle.a64_link.specs.declared.unit.Unit.{Unit}
use Rattle.a64_link.specs.declared.unit.Symbol.{Symbol}
use Rattle.a64_link.specs.declared.unit.Linked.{Linked}
use Rattle.a64_link.specs.Units.{Relocation, span, near, symbol_of}
use Rattle.a64_link.specs.Layout.{is_far, start_of, thunk_of}
use Rattle.a64_link.specs.Linking.{word_at, IsThunk, IsPlan, CallStands, AddressStands, AreLinked}
use Rattle.a64_link.specs.Faults.{fault_of}
use Rattle.a64_link.specs.Linked.{all_thunks, IsCallTo, BranchesTo, RunsTo, CallsArrive}
use Rattle.a64_link.proofs.Geometry.{start_whole}
use Rattle.a64_link.proofs.Ready.{far_is}
use Rattle.a64_link.proofs.UnitPuts.{thunk_before}
use Rattle.a64_link.proofs.Branches.{branch_kept}
use Rattle.a64_link.proofs.Faultless.{call_of}
use Rattle.a64_link.proofs.Once.{once_of}
use Rattle.a64_link.proofs.ThunkList.{thunk_listed}

-- ---- words that are loaded

-- the word at a place of loaded words is the one of that number
loaded_word : (bytes : List ℕ) (place : ℕ) (words : List ℕ) → StandAt bytes place words → (q : ℕ) → q < length words → loaded_at bytes (place + 4 * q) ≡ get_or words q 0
loaded_word bytes place [] h q lt = absurd (omega arith)
loaded_word bytes place (word ∷ words) h zero lt = (let e : place + 4 * 0 ≡ place = omega arith in ap (loaded_at bytes) e) ∙ h.0
loaded_word bytes place (word ∷ words) h (suc q) lt =
    let e : place + 4 * suc q ≡ place + 4 + 4 * q = omega arith in
    ap (loaded_at bytes) e ∙ loaded_word bytes (place + 4) words h.1 q (omega arith)

loaded_place : (bytes words : List ℕ) → StandAt bytes 0 words → (place : ℕ) → place % 4 ≡ 0 → place / 4 < length words → loaded_at bytes place ≡ word_at words place
loaded_place bytes words h place whole lt =
    let e : place ≡ 0 + 4 * (place / 4) = omega arith in
    ap (loaded_at bytes) e ∙ loaded_word bytes 0 words h (place / 4) lt

-- a machine runs through a thunk, wherever the words are loaded
thunk_runs : (words : List ℕ) (thunk goal : ℕ) → thunk % 4 ≡ 0 → thunk + 20 ≤ 4 * length words → IsThunk words thunk goal → RunsTo words thunk goal
unfolding LeadFar
thunk_runs words thunk goal whole within t code old loaded at = t.runs code old thunk refl at there
  where
    read : (place : ℕ) → place % 4 ≡ 0 → place / 4 < length words → loaded_at code.bytes place ≡ word_at words place
    read place whole_ lt = loaded_place code.bytes words loaded place whole_ lt

    next : (n : ℕ) (word : ℕ) (place : ℕ) → place ≡ thunk + n → n % 4 ≡ 0 → n ≤ 16 → word_at words (thunk + n) ≡ word → loaded_at code.bytes place ≡ word
    next n word place e four le is = ap (loaded_at code.bytes) e ∙ read (thunk + n) (omega arith) (omega arith) ∙ is

    there : StandAt code.bytes thunk (0x98000090 ∷ 0x10000071 ∷ 0x8b110210 ∷ 0xd61f0200 ∷ word_at words (thunk + 16) ∷ [])
    there = (
      read thunk whole (omega arith) ∙ t.first,
      (
        next 4 _ _ refl refl (omega arith) t.second,
        (
          next 8 _ _ (omega arith) refl (omega arith) t.third,
          (next 12 _ _ (omega arith) refl (omega arith) t.fourth, (next 16 _ _ (omega arith) refl (omega arith) refl, tt)),
        ),
      ),
    )

-- ---- calls

module _ (units : List Unit) (base : ℕ) (sums : List ℕ) (symbols : FinMap nat_cmp Symbol) (starts : List ℕ) (p : IsPlan units sums symbols starts)
    (faultless : fault_of units ≡ None) (words : List ℕ) (linked : AreLinked units base starts words (length units))
    (i : ℕ) (unit : Unit) (k : ℕ) (r : Relocation) (j own : ℕ) (c : IsCallTo units i unit k r j own) where
  known : symbol_of units r.2 ≡ Some (record { unit = j; place = own })
  known = (once_of units faultless r.2 (record { unit = j; place = own })).1 c.defined

  stands : CallStands units starts words i unit k r (record { unit = j; place = own })
  stands = MatchBool-at_true
      (CallStands units starts words i unit k r (record { unit = j; place = own })) (AddressStands units base starts words i r (record { unit = j; place = own }))
      c.call ((linked.stands i unit c.unit_is.within c.unit_is).sites k r (record { unit = j; place = own }) c.reloc_is.within c.reloc_is known)

  far_by : is_far units i r ≡ nat_lt near (span units i j)
  far_by = far_is units base sums symbols starts p r (record { unit = j; place = own }) known i c.call

  leads : (b : Bool) → is_far units i r ≡ b → BranchesTo words (start_of starts i + r.0) (cond b (thunk_of units starts i unit k) (start_of starts j + own))
  leads b e = stands.branch.leads ∙ ap (λ (f : Bool). pos (cond f (thunk_of units starts i unit k) (start_of starts j + own))) e

  -- its word is a branch
  call_branches : Matches rows.Branch26 (word_at words (start_of starts i + r.0))
  call_branches = branch_kept _ _ stands.branch.rest (call_of units faultless i unit c.unit_is k r c.reloc_is c.call).0

  -- a near call leads to its goal
  call_straight : span units i j ≤ near → BranchesTo words (start_of starts i + r.0) (start_of starts j + own)
  call_straight le = leads false (far_by ∙ le-ltb near (span units i j) le)

  -- a far one leads to its thunk, and that to the goal
  module _ (lt : near < span units i j) where
    call_far : is_far units i r ≡ true
    call_far = far_by ∙ lt-ltb near (span units i j) lt

    call_to_thunk : BranchesTo words (start_of starts i + r.0) (thunk_of units starts i unit k)
    call_to_thunk = leads true call_far

    call_runs : RunsTo words (thunk_of units starts i unit k) (start_of starts j + own)
    call_runs =
        let whole = start_whole units sums starts p.sums_are p.starts_are i unit c.unit_is in
        let before = thunk_before units base sums symbols starts p i unit c.unit_is k (length unit.relocs.items) r c.reloc_is.within (omega arith) c.reloc_is call_far in
        let within = linked.within i unit c.unit_is.within c.unit_is in
        thunk_runs words (thunk_of units starts i unit k) (start_of starts j + own) (omega (arith, whole)) (omega (arith, before, within)) (stands.thunk call_far)

-- all calls of units that are linked, with their thunks in a list
pub calls_arrive : (units : List Unit) (base : ℕ) (sums : List ℕ) (symbols : FinMap nat_cmp Symbol) (all : Linked) → IsPlan units sums symbols all.starts.items → fault_of units ≡ None
    → AreLinked units base all.starts.items all.words.items (length units) → all.thunks.items ≡ all_thunks units all.starts.items → CallsArrive units all
calls_arrive units base sums symbols all p faultless linked thunks =
    λ i unit k r j own c. record {
      branch = call_branches units base sums symbols all.starts.items p faultless all.words.items linked i unit k r j own c;
      straight = call_straight units base sums symbols all.starts.items p faultless all.words.items linked i unit k r j own c;
      through = λ lt. (
          let far = call_far units base sums symbols all.starts.items p faultless all.words.items linked i unit k r j own c lt in
          record {
            listed = subst (λ xs. Contains xs (thunk_of units all.starts.items i unit k)) (sym thunks) (thunk_listed units all.starts.items i unit k r c.unit_is c.reloc_is far);
            branches = call_to_thunk units base sums symbols all.starts.items p faultless all.words.items linked i unit k r j own c lt;
            runs = call_runs units base sums symbols all.starts.items p faultless all.words.items linked i unit k r j own c lt;
          }
          );
    }
