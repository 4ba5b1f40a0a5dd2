-- Why islands are asked for, element by element.
use Rattle.std.proofs.Common.{ℕ, ◌≡◌, ◌⊎◌, ◌+◌, ◌<◌, ◌≤◌, Bool, true, List, [], ◌∷◌, ◌++◌, All, length, get_or, drop, Option, None, Some, refl, sym, ap, ◌∙◌, subst, arith, inl, inr}
use Rattle.std.specs.Prelude.{IsSome}
use Rattle.std.specs.FinMap.{get}
use Rattle.std.proofs.lemmas.List.{get_or_push, get_or_append_left, length_push}
use Rattle.std.proofs.lemmas.List.Elements.{All-push, All-same}
use Rattle.a64_buffer.specs.declared.force.ForceVeneers.{ForceVeneers}
use Rattle.a64_buffer.specs.declared.force.ForceVeneers.TheVariants.{No, Yes}
use Rattle.a64_buffer.specs.Buffer.{Buffer, end_of}
use Rattle.a64_buffer.specs.Sound.{IsWhole}
use Rattle.a64_buffer.specs.Later.{IsLater}
use Rattle.a64_buffer.specs.Islands.{HasIsland}
use Rattle.a64_buffer.proofs.Laters.{later_none, later_trans}
use Rattle.a64_label_use.specs.declared.label_use.LabelUse.{LabelUse}
use Rattle.a64_label_use.specs.LabelUses.{label_kinds}
use Rattle.a64_cells.specs.Shapes.{Cell}
use Rattle.a64_emit.specs.Emission.{appended}
use Rattle.a64_assemble.specs.Elements.{Element, Binding, Words, Asking, size_in, hosts, falls_in, next_room, ahead, element_at}
use Rattle.a64_assemble.specs.Asks.{AsksNext, PutsWords, Moves}
use Rattle.a64_assemble.specs.Stations.{HasLabels}
use Rattle.a64_assemble.specs.OpenUses.{Cause, WasAsked}
use Rattle.a64_assemble.proofs.BoundLabels.{bound_in_labels, bound_by_labels}
use Rattle.a64_assemble.proofs.Laying.{island_same}
use Rattle.a64_assemble.proofs.Fronts.{island_ends}
use Rattle.a64_assemble.proofs.Later.{longer}

-- an element wrote an island in this moment
pub record Moment (force : ForceVeneers) (x : Element) (rest : List Element) (b b' : Buffer LabelUse) : Type 0 where
  pub moment : Buffer LabelUse
  pub at : end_of moment ≡ end_of b + size_in x
  pub whole : IsWhole label_kinds moment
  pub cause : Cause force x rest moment
  pub islands : b'.islands ≡ b.islands ++ (end_of moment, end_of b') ∷ []
  pub long : end_of moment + 4 ≤ end_of b'
  pub hosted : hosts x ≡ true
  pub distance : ℕ
  pub distance_is : ahead x rest ≡ Some distance
  pub has : HasIsland label_kinds distance force (falls_in x) moment b'

module _ (force : ForceVeneers) where
  words_moment : (goes_on : Bool) (cells : List Cell) (rest : List Element) (b b' : Buffer LabelUse) → PutsWords force goes_on cells rest b b' → (b'.islands ≡ b.islands) ⊎ Moment force (Words goes_on cells) rest b b'
  words_moment goes_on [] rest b b' p = inl (ap (λ v. v.islands) p)
  words_moment goes_on (c ∷ cs) rest b b' p = next (next_room rest) refl p
    where
      next : (o : Option ℕ) → next_room rest ≡ o → AsksNext force goes_on o (appended b (c ∷ cs)) b' → (b'.islands ≡ b.islands) ⊎ Moment force (Words goes_on (c ∷ cs)) rest b b'
      next None o e = inl (ap (λ v. v.islands) e)
      next (Some d) o a = elim a.outcome [
        | inr l ↦ inl (ap (λ v. v.islands) l.same)
        | inl w ↦ elim (island_ends goes_on (appended b (c ∷ cs)) b' w.island) [
          | inl none ↦ inl none.1
          | inr one ↦ inr (record {
            moment = appended b (c ∷ cs);
            at = longer b (c ∷ cs);
            whole = a.whole;
            cause = elim w.cause [ inl need ↦ inl (d, o, need) | inr forced ↦ absurd (let z : No ≡ Yes = forced.0 in cc) ];
            islands = one.1;
            long = one.0;
            hosted = refl;
            distance = d;
            distance_is = o;
            has = w.island;
          })
        ]
      ]

  pub move_moment : (x : Element) (rest : List Element) (b b' : Buffer LabelUse) → Moves force x rest b b' → (b'.islands ≡ b.islands) ⊎ Moment force x rest b b'
  move_moment (Binding label) rest b b' p = inl (ap (λ v. v.islands) p)
  move_moment (Words goes_on cells) rest b b' p = words_moment goes_on cells rest b b' p
  move_moment (Asking space) rest b b' p = elim p.outcome [
    | inr l ↦ inl (ap (λ v. v.islands) l.same)
    | inl w ↦ inr (record {
      moment = b;
      at = omega arith;
      whole = p.whole;
      cause = elim w.cause [ inl need ↦ inl (space, refl, need) | inr forced ↦ inr (refl, forced.0, forced.1) ];
      islands = w.island.islands;
      long = w.island.long;
      hosted = refl;
      distance = space;
      distance_is = refl;
      has = w.island;
    })
  ]

module _ (force : ForceVeneers) (xs : List Element) (k : ℕ) (places : List ℕ) (b b' : Buffer LabelUse) (count : length places ≡ k) where
  asked_older : IsLater b b' → (island : ℕ × ℕ) → WasAsked force xs k (places ++ (end_of b) ∷ []) b island → WasAsked force xs (k + 1) (places ++ (end_of b) ∷ [] ++ (end_of b') ∷ []) b' island
  asked_older later island z = record {
    after = z.after;
    within = omega (arith, z.within);
    stands = island_same xs (places ++ (end_of b) ∷ []) (places ++ (end_of b) ∷ [] ++ (end_of b') ∷ []) z.after island (keeps z.after (omega (arith, z.within))) (keeps (z.after + 1) (omega (arith, z.within))) z.stands;
    moment = z.moment;
    at = z.at;
    whole = z.whole;
    cause = z.cause;
    bound = z.bound;
    only = z.only;
    distance = z.distance;
    distance_is = z.distance_is;
    written = z.written;
    ends = z.ends;
    has = z.has;
    since = later_trans z.written b b' z.since later;
  }
    where
      keeps : (i : ℕ) → i ≤ k → get_or (places ++ (end_of b) ∷ [] ++ (end_of b') ∷ []) i 0 ≡ get_or (places ++ (end_of b) ∷ []) i 0
      keeps i le = get_or_append_left (places ++ (end_of b) ∷ []) ((end_of b') ∷ []) 0 i (omega (arith, length_push places (end_of b)))

  pub asked_step : k < length xs → IsLater b b' → HasLabels xs (k + 1) (places ++ (end_of b) ∷ []) b'.labels → (b'.islands ≡ b.islands) ⊎ Moment force (element_at xs k) (drop (k + 1) xs) b b' → All (WasAsked force xs k (places ++ (end_of b) ∷ []) b) b.islands → All (WasAsked force xs (k + 1) (places ++ (end_of b) ∷ [] ++ (end_of b') ∷ []) b') b'.islands
  asked_step within later labels step all = elim step [
    | inl same ↦ All-same (WasAsked force xs (k + 1) (places ++ (end_of b) ∷ [] ++ (end_of b') ∷ []) b') b'.islands b.islands same older
    | inr m ↦ All-same (WasAsked force xs (k + 1) (places ++ (end_of b) ∷ [] ++ (end_of b') ∷ []) b') b'.islands (b.islands ++ (end_of m.moment, end_of b') ∷ []) m.islands
        (All-push (WasAsked force xs (k + 1) (places ++ (end_of b) ∷ [] ++ (end_of b') ∷ []) b') b.islands (end_of m.moment, end_of b') older (record {
          after = k;
          within = omega arith;
          stands = record {
            begins = let at = m.at in omega (arith, at, here);
            ends = sym last;
            long = m.long;
            hosted = m.hosted;
          };
          moment = m.moment;
          at = refl;
          whole = m.whole;
          cause = m.cause;
          bound = λ n e. subst (λ ls. IsSome (get ls n)) m.has.labels (bound_in_labels xs (k + 1) (places ++ (end_of b) ∷ []) b'.labels labels (omega arith) n e);
          only = λ l p e. bound_by_labels xs (k + 1) k (places ++ (end_of b) ∷ []) b'.labels labels (omega arith) within l p (ap (λ ls. get ls l) m.has.labels ∙ e);
          distance = m.distance;
          distance_is = m.distance_is;
          written = b';
          ends = refl;
          has = m.has;
          since = later_none b';
        }))
  ]
    where
      older : All (WasAsked force xs (k + 1) (places ++ (end_of b) ∷ [] ++ (end_of b') ∷ []) b') b.islands
      older = λ i d w. asked_older later (get_or b.islands i d) (all i d w)

      here : get_or (places ++ (end_of b) ∷ [] ++ (end_of b') ∷ []) k 0 ≡ end_of b
      here = get_or_append_left (places ++ (end_of b) ∷ []) ((end_of b') ∷ []) 0 k (omega (arith, length_push places (end_of b))) ∙ get_or_push places (end_of b) 0 k count

      last : get_or (places ++ (end_of b) ∷ [] ++ (end_of b') ∷ []) (k + 1) 0 ≡ end_of b'
      last = get_or_push (places ++ (end_of b) ∷ []) (end_of b') 0 (k + 1) (omega (arith, length_push places (end_of b)))
