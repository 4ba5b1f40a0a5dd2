-- What a table and a tree are, and how they change.
use Rattle.std.proofs.Common.{ℕ, ◌≡◌, ◌≢◌, ◌+◌, ◌^◌, ◌<◌, ◌≤◌, true, false, cond, List, [], ◌∷◌, ◌++◌, length, get_or, set, Option, None, Some, Bool, is_some, refl, sym, ◌∙◌, ap, subst, arith, inl, inr, nat_cmp}
use Rattle.std.specs.Cmp.{nat_cmp_total}
use Rattle.std.specs.Ordering.{eq_by_cmp}
use Rattle.std.specs.Option.{option_or}
use Rattle.std.specs.BTreeMap as tree
use Rattle.std.specs.BTreeMap.{BTreeMap, is_at}
use Rattle.std.specs.Map.{lookup}
use Rattle.std.specs.FinMap.{get, insert, len, find, get-from_entries, get-insert, len-insert, same_map, nat_cmp-IsAntisymmetric}
use Rattle.std.proofs.lemmas.Bool.{cases_eq, cases_lt}
use Rattle.std.proofs.lemmas.List.{length_push, length-set, get_or_push, get_or_append_left, get_or_past, get_or-set_same, get_or-set_other}
use Rattle.a64_label_map.specs.Shared.{numbered, whole, AreShared, IsBalanced}
use Rattle.a64_label_map.proofs.Numbered.{equal_by_cmp, apart_by_cmp, find_both, find_numbered}

module _ {X : Type 0} where
  find_tree : (es : List (ℕ × X)) (q : ℕ) → find nat_cmp q es ≡ lookup (is_at (nat_cmp q)) es
  find_tree [] q = refl
  find_tree (e ∷ es) q = ap (cond (is_at (nat_cmp q) e.0) (Some e.1)) (find_tree es q)

  -- what the table has, or else the tree
  pub at_whole : (table : List (Option X)) (others : BTreeMap ℕ X) (q : ℕ) → get (whole table others) q ≡ option_or (get_or table q None) (tree.get nat_cmp others q)
  at_whole table others q =
      get-from_entries nat_cmp_total (numbered 0 table ++ others.entries) q
      ∙ (find_both (numbered 0 table) others.entries q
      ∙ (ap (λ o. option_or o (find nat_cmp q others.entries)) (find_numbered table q)
      ∙ ap (option_or (get_or table q None)) (find_tree others.entries q)))

  or_none : (o : Option X) → option_or o None ≡ o
  or_none None = refl
  or_none (Some x) = refl

  -- a number of the table, and another one
  pub at_table : (table : List (Option X)) (others : BTreeMap ℕ X) (q : ℕ) → AreShared table others → q < length table → get (whole table others) q ≡ get_or table q None
  at_table table others q s h = at_whole table others q ∙ (ap (option_or (get_or table q None)) (s.apart q h) ∙ or_none (get_or table q None))

  pub at_others : (table : List (Option X)) (others : BTreeMap ℕ X) (q : ℕ) → length table ≤ q → get (whole table others) q ≡ tree.get nat_cmp others q
  at_others table others q h = at_whole table others q ∙ ap (λ o. option_or o (tree.get nat_cmp others q)) (get_or_past table q None h)

  same_whole : (table table' : List (Option X)) (others others' : BTreeMap ℕ X) → ((q : ℕ) → get (whole table others) q ≡ get (whole table' others') q) → whole table others ≡ whole table' others'
  same_whole table table' others others' = same_map nat_cmp_total nat_cmp-IsAntisymmetric (whole table others) (whole table' others')

  -- a longer table whose further numbers have no value
  pub padded_whole : (table table' : List (Option X)) (others : BTreeMap ℕ X) → ((q : ℕ) → get_or table' q None ≡ get_or table q None) → whole table' others ≡ whole table others
  padded_whole table table' others same = same_whole table' table others others (λ q.
      at_whole table' others q ∙ (ap (λ o. option_or o (tree.get nat_cmp others q)) (same q) ∙ sym (at_whole table others q)))

  -- the next number moves into the table
  module _ (table : List (Option X)) (others others' : BTreeMap ℕ X) (s : AreShared table others) (more : length table < 2 ^ 32) (gone : (q : ℕ) → tree.get nat_cmp others' q ≡ cond (is_at (nat_cmp (length table)) q) None (tree.get nat_cmp others q)) where
    gone_there : tree.get nat_cmp others' (length table) ≡ None
    gone_there = gone (length table) ∙ ap (λ t. cond t None (tree.get nat_cmp others (length table))) (equal_by_cmp (length table))

    kept : (q : ℕ) → q ≢ length table → tree.get nat_cmp others' q ≡ tree.get nat_cmp others q
    kept q ne = gone q ∙ ap (λ t. cond t None (tree.get nat_cmp others q)) (apart_by_cmp (length table) q (λ e. ne (sym e)))

    pub moved_shared : AreShared (table ++ tree.get nat_cmp others (length table) ∷ []) others'
    moved_shared = record {
      short = omega (arith, length_push table (tree.get nat_cmp others (length table)));
      apart = λ q h. elim (cases_eq q (length table)) [
        | inl e ↦ ap (tree.get nat_cmp others') e ∙ gone_there
        | inr ne ↦
            let below : q < length table = omega (arith, length_push table (tree.get nat_cmp others (length table))) in
            kept q ne ∙ s.apart q below
      ];
    }

    pub moved_whole : whole (table ++ tree.get nat_cmp others (length table) ∷ []) others' ≡ whole table others
    moved_whole = same_whole (table ++ tree.get nat_cmp others (length table) ∷ []) table others' others (λ q. elim (cases_lt q (length table)) [
      | inl lt ↦
          let below : q < length (table ++ tree.get nat_cmp others (length table) ∷ []) = omega (arith, length_push table (tree.get nat_cmp others (length table))) in
          at_table (table ++ tree.get nat_cmp others (length table) ∷ []) others' q moved_shared below
          ∙ (get_or_append_left table (tree.get nat_cmp others (length table) ∷ []) None q lt
          ∙ sym (at_table table others q s lt))
      | inr ge ↦ elim (cases_eq q (length table)) [
        | inl e ↦
            let below : q < length (table ++ tree.get nat_cmp others (length table) ∷ []) = omega (arith, length_push table (tree.get nat_cmp others (length table))) in
            at_table (table ++ tree.get nat_cmp others (length table) ∷ []) others' q moved_shared below
            ∙ (get_or_push table (tree.get nat_cmp others (length table)) None q (sym e)
            ∙ (ap (tree.get nat_cmp others) (sym e) ∙ sym (at_others table others q ge)))
        | inr ne ↦
            let above : length (table ++ tree.get nat_cmp others (length table) ∷ []) ≤ q = omega (arith, length_push table (tree.get nat_cmp others (length table))) in
            at_others (table ++ tree.get nat_cmp others (length table) ∷ []) others' q above
            ∙ (kept q ne ∙ sym (at_others table others q ge))
      ]
    ])

  -- the same, as the loop has it
  pub moved : (table table' : List (Option X)) (others others' : BTreeMap ℕ X) (n : ℕ) (value : Option X) → AreShared table others → length table ≡ n → n < 2 ^ 32 → value ≡ tree.get nat_cmp others n → ((q : ℕ) → tree.get nat_cmp others' q ≡ cond (is_at (nat_cmp n) q) None (tree.get nat_cmp others q)) → table' ≡ table ++ value ∷ [] → AreShared table' others' × (whole table' others' ≡ whole table others)
  moved table table' others others' n value s long more is gone push =
      let few : length table < 2 ^ 32 = omega arith in
      let here : (q : ℕ) → tree.get nat_cmp others' q ≡ cond (is_at (nat_cmp (length table)) q) None (tree.get nat_cmp others q) = λ q. gone q ∙ ap (λ k. cond (is_at (nat_cmp k) q) None (tree.get nat_cmp others q)) (sym long) in
      let joined : table' ≡ table ++ tree.get nat_cmp others (length table) ∷ [] = push ∙ ap (λ o. table ++ o ∷ []) (is ∙ ap (tree.get nat_cmp others) (sym long)) in
      (subst (λ t. AreShared t others') (sym joined) (moved_shared table others others' s few here), ap (λ t. whole t others') joined ∙ moved_whole table others others' s few here)

  -- a number of the table gets a value
  module _ (table : List (Option X)) (others : BTreeMap ℕ X) (s : AreShared table others) (number : ℕ) (value : X) (h : number < length table) where
    pub written_shared : AreShared (set table number (Some value)) others
    written_shared = record {
      short = omega (arith, s.short, length-set table number (Some value));
      apart = λ q below. s.apart q (omega (arith, length-set table number (Some value)));
    }

    pub written_whole : whole (set table number (Some value)) others ≡ insert (whole table others) number value
    written_whole = same_map nat_cmp_total nat_cmp-IsAntisymmetric (whole (set table number (Some value)) others) (insert (whole table others) number value) (λ q.
        at_whole (set table number (Some value)) others q
        ∙ (elim (cases_eq q number) [
          | inl e ↦
              ap (λ n. option_or (get_or (set table number (Some value)) n None) (tree.get nat_cmp others q)) e
              ∙ (ap (λ o. option_or o (tree.get nat_cmp others q)) (get_or-set_same table number (Some value) None h)
              ∙ sym (ap (λ t. cond t (Some value) (get (whole table others) q)) (ap (λ n. eq_by_cmp nat_cmp n number) e ∙ equal_by_cmp number)))
          | inr ne ↦
              ap (λ o. option_or o (tree.get nat_cmp others q)) (get_or-set_other table number q (Some value) None ne)
              ∙ (sym (at_whole table others q)
              ∙ sym (ap (λ t. cond t (Some value) (get (whole table others) q)) (apart_by_cmp q number ne)))
        ]
        ∙ sym (get-insert nat_cmp_total (whole table others) number value q)))

  -- another number gets a value
  module _ (table : List (Option X)) (others others' : BTreeMap ℕ X) (s : AreShared table others) (number : ℕ) (value : X) (h : length table ≤ number) (put : (q : ℕ) → tree.get nat_cmp others' q ≡ cond (is_at (nat_cmp number) q) (Some value) (tree.get nat_cmp others q)) where
    put_other : (q : ℕ) → q ≢ number → tree.get nat_cmp others' q ≡ tree.get nat_cmp others q
    put_other q ne = put q ∙ ap (λ t. cond t (Some value) (tree.get nat_cmp others q)) (apart_by_cmp number q (λ e. ne (sym e)))

    put_here : tree.get nat_cmp others' number ≡ Some value
    put_here = put number ∙ ap (λ t. cond t (Some value) (tree.get nat_cmp others number)) (equal_by_cmp number)

    pub put_shared : AreShared table others'
    put_shared = record {
      short = s.short;
      apart = λ q below. put_other q (λ e. omega arith) ∙ s.apart q below;
    }

    pub put_whole : whole table others' ≡ insert (whole table others) number value
    put_whole = same_map nat_cmp_total nat_cmp-IsAntisymmetric (whole table others') (insert (whole table others) number value) (λ q.
        at_whole table others' q
        ∙ (elim (cases_eq q number) [
          | inl e ↦
              ap (λ n. option_or (get_or table n None) (tree.get nat_cmp others' n)) e
              ∙ (ap (λ o. option_or o (tree.get nat_cmp others' number)) (get_or_past table number None h)
              ∙ (put_here
              ∙ sym (ap (λ t. cond t (Some value) (get (whole table others) q)) (ap (λ n. eq_by_cmp nat_cmp n number) e ∙ equal_by_cmp number))))
          | inr ne ↦
              ap (option_or (get_or table q None)) (put_other q ne)
              ∙ (sym (at_whole table others q)
              ∙ sym (ap (λ t. cond t (Some value) (get (whole table others) q)) (apart_by_cmp q number ne)))
        ]
        ∙ sym (get-insert nat_cmp_total (whole table others) number value q)))

  -- the balance once a number got a value
  pub balanced_put : (table table' : List (Option X)) (others others' : BTreeMap ℕ X) (count count' expected number : ℕ) (value : X) (old : Option X) → IsBalanced table others count expected → AreShared table' others' → length table' ≡ length table → number < 2 ^ 32 → whole table' others' ≡ insert (whole table others) number value → old ≡ get (whole table others) number → count ≤ count' → count' ≤ count + cond (is_some old) 0 1 → IsBalanced table' others' count' expected
  balanced_put table table' others others' count count' expected number value old b s long small is was least most = record {
    shared = s;
    counted =
        let more : len (whole table' others') ≡ cond (is_some old) (len (whole table others)) (len (whole table others) + 1) =
        ap len is ∙ (len-insert nat_cmp_total (whole table others) number value ∙ ap (λ o. cond (is_some o) (len (whole table others)) (len (whole table others) + 1)) (sym was)) in
        go (is_some old) (len (whole table' others')) more most;
    within = λ q ge.
        ap (λ m. get m q) is
        ∙ (get-insert nat_cmp_total (whole table others) number value q
        ∙ (ap (λ t. cond t (Some value) (get (whole table others) q)) (apart_by_cmp q number (λ same. omega arith)) ∙ b.within q ge));
    few = omega (arith, b.few);
  }
    where
      go : (t : Bool) (n : ℕ) → n ≡ cond t (len (whole table others)) (len (whole table others) + 1) → count' ≤ count + cond t 0 1 → count' ≤ n
      go true n e m = omega (arith, b.counted)
      go false n e m = omega (arith, b.counted)
