-- In the order of islands, what a use gets costs no more than was kept for it.
use Rattle.std.proofs.Common.{ℕ, ◌≡◌, ◌⊎◌, ◌+◌, ◌≤◌, Bool, true, false, cond, [], ◌∷◌, Option, None, Some, refl, sym, ap, ◌∙◌, subst, arith, inl, inr}
use Rattle.std.specs.Prelude.{◌&&◌, sum_by}
use Rattle.std.proofs.lemmas.List.Sums.{sum_by-cons}
use Rattle.a64_buffer.specs.declared.site.Use.{Use}
use Rattle.a64_buffer.specs.declared.site.Target.{Target}
use Rattle.a64_buffer.specs.declared.site.Target.TheVariants.{Label, Constant, Trap, IslandEnd}
use Rattle.a64_buffer.specs.Kinds.{Kinds, IsLawful}
use Rattle.a64_buffer.specs.Buffer.{label_of}
use Rattle.a64_buffer.specs.declared.class.Class.{Class}
use Rattle.a64_buffer.specs.declared.class.Class.TheVariants.{Near, Middle, Load, Trapping, Far, Direct}
use Rattle.a64_buffer.specs.Classes.{Level, first, second, third, level_of, wants, rank_of, cost, label_class, class, class_of, is_open, weigh, weight_of, weigh_label}
use Rattle.a64_buffer.proofs.Costs.{weight-cons}

after_near : (c : Class) → wants c ≡ true → (c ≡ Far) ⊎ (1 ≤ rank_of c) → level_of c ≡ first → ⊥
after_near Near w h e = elim h [ inl q ↦ (let z : Near ≡ Far = q in cc) | inr q ↦ omega arith ]
after_near Middle w h e = let z : second ≡ first = e in cc
after_near Load w h e = let z : second ≡ first = e in cc
after_near Trapping w h e = let z : second ≡ first = e in cc
after_near Far w h e = let z : third ≡ first = e in cc
after_near Direct w h e = let z : third ≡ first = e in cc

only_third : (c : Class) → wants c ≡ true → (c ≡ Far) ⊎ (4 ≤ rank_of c) → level_of c ≡ third
only_third Near w h = elim h [ inl q ↦ absurd (let z : Near ≡ Far = q in cc) | inr q ↦ absurd (omega arith) ]
only_third Middle w h = elim h [ inl q ↦ absurd (let z : Middle ≡ Far = q in cc) | inr q ↦ absurd (omega arith) ]
only_third Load w h = elim h [ inl q ↦ absurd (let z : Load ≡ Far = q in cc) | inr q ↦ absurd (omega arith) ]
only_third Trapping w h = elim h [ inl q ↦ absurd (let z : Trapping ≡ Far = q in cc) | inr q ↦ absurd (omega arith) ]
only_third Far w h = refl
only_third Direct w h = absurd (let z : false ≡ true = w in cc)

-- the order is at least that of a rank
lower : (m n : ℕ) (c : Class) → m ≤ n → (c ≡ Far) ⊎ (n ≤ rank_of c) → (c ≡ Far) ⊎ (m ≤ rank_of c)
lower m n c le h = elim h [ inl e ↦ inl e | inr q ↦ inr (omega arith) ]

-- a jump word, which is a use of the longest range in its turn
near_pays : (l : Level) → 4 + cost l Far ≤ cost l Near
near_pays first = omega arith
near_pays second = omega arith
near_pays third = omega arith

middle_pays : (l : Level) → (l ≡ first → ⊥) → 4 + cost l Far ≤ cost l Middle
middle_pays first n = absurd (n refl)
middle_pays second n = omega arith
middle_pays third n = omega arith

load_pays : (l : Level) → (l ≡ first → ⊥) → 28 ≤ cost l Load
load_pays first n = absurd (n refl)
load_pays second n = omega arith
load_pays third n = omega arith

trap_pays : (l : Level) → (l ≡ first → ⊥) → 4 ≤ cost l Trapping
trap_pays first n = absurd (n refl)
trap_pays second n = omega arith
trap_pays third n = omega arith

pub jump_pays : (given c : Class) (l : Level) → (given ≡ Near) ⊎ (given ≡ Middle) → wants c ≡ true → level_of c ≡ l → (c ≡ Far) ⊎ (rank_of given ≤ rank_of c) → 4 + cost l Far ≤ cost l given
jump_pays given c l h w e o = elim h [
  | inl n ↦ subst (λ g. 4 + cost l Far ≤ cost l g) (sym n) (near_pays l)
  | inr m ↦ subst (λ g. 4 + cost l Far ≤ cost l g) (sym m) (middle_pays l (λ q. after_near c w (lower 1 (rank_of given) c (let z : rank_of given ≡ 3 = ap rank_of m in omega arith) o) (e ∙ q)))
]

pub jump_pays_third : (given : Class) → (given ≡ Near) ⊎ (given ≡ Middle) → 4 + cost third Far ≤ cost third given
jump_pays_third given h = elim h [ inl n ↦ subst (λ g. 4 + cost third Far ≤ cost third g) (sym n) (omega arith) | inr m ↦ subst (λ g. 4 + cost third Far ≤ cost third g) (sym m) (omega arith) ]

pub copy_pays : (given c : Class) (l : Level) → given ≡ Load → wants c ≡ true → level_of c ≡ l → (c ≡ Far) ⊎ (rank_of given ≤ rank_of c) → 28 ≤ cost l given
copy_pays given c l g w e o = subst (λ g. 28 ≤ cost l g) (sym g) (load_pays l (λ q. after_near c w (lower 1 (rank_of given) c (let z : rank_of given ≡ 1 = ap rank_of g in omega arith) o) (e ∙ q)))

pub word_pays : (given c : Class) (l : Level) → given ≡ Trapping → wants c ≡ true → level_of c ≡ l → (c ≡ Far) ⊎ (rank_of given ≤ rank_of c) → 4 ≤ cost l given
word_pays given c l g w e o = subst (λ g. 4 ≤ cost l g) (sym g) (trap_pays l (λ q. after_near c w (lower 1 (rank_of given) c (let z : rank_of given ≡ 2 = ap rank_of g in omega arith) o) (e ∙ q)))

pub far_pays : (given c : Class) (l : Level) → given ≡ Far → wants c ≡ true → level_of c ≡ l → (c ≡ Far) ⊎ (rank_of given ≤ rank_of c) → 20 ≤ cost l given
far_pays given c l g w e o =
    let is : third ≡ l = sym (only_third c w (lower 4 (rank_of given) c (let z : rank_of given ≡ 4 = ap rank_of g in omega arith) o)) ∙ e in
    subst (λ g. 20 ≤ cost l g) (sym g) (subst (λ l. 20 ≤ cost l Far) is (omega arith))

-- ---- classes of uses of labels

pub veneers_of : (v : Bool) (n : ℕ) → wants (label_class v n) ≡ true → v ≡ true
veneers_of true n w = refl
veneers_of false n w = absurd (let z : false ≡ true = w in cc)

module _ {K : Type 0} (r : Kinds K) where
  -- a jump word is a use of the longest range, and the last word of a far veneer waits for nothing
  pub jump_class : IsLawful r → (target : Target) (label : ℕ) → label_of target ≡ Some label → class_of r target r.jump ≡ Far
  jump_class law (Label l) label e = ap (λ t. label_class t (r.urgency r.jump)) law.jump_veneers ∙ ap (λ n. label_class true n) law.jump_urgency
  jump_class law (Constant c) label e = absurd (let z : None ≡ Some label = e in cc)
  jump_class law (Trap c) label e = absurd (let z : None ≡ Some label = e in cc)
  jump_class law IslandEnd label e = absurd (let z : None ≡ Some label = e in cc)

  pub far_class : IsLawful r → (target : Target) (label : ℕ) → label_of target ≡ Some label → class_of r target r.far_use ≡ Direct
  far_class law (Label l) label e = ap (λ t. label_class t (r.urgency r.far_use)) (none (r.veneers r.far_use) refl)
    where
      none : (v : Bool) → r.veneers r.far_use ≡ v → v ≡ false
      none true h = absurd (let z : 1 ≤ r.urgency r.far_use = law.veneer_urgency r.far_use h in omega (arith, law.far_urgency))
      none false h = refl
  far_class law (Constant c) label e = absurd (let z : None ≡ Some label = e in cc)
  far_class law (Trap c) label e = absurd (let z : None ≡ Some label = e in cc)
  far_class law IslandEnd label e = absurd (let z : None ≡ Some label = e in cc)

  -- a use that is no load, no trap and no jump over an island, and waits, is of a label
  pub label_is : (target : Target) (kind : K) → (class_of r target kind ≡ Near) ⊎ (class_of r target kind ≡ Middle) ⊎ (class_of r target kind ≡ Far) → (label : ℕ) × (label_of target ≡ Some label)
  label_is (Label l) kind h = (l.0, refl)
  label_is (Constant c) kind h = absurd (elim h [ inl e ↦ (let z : Load ≡ Near = e in cc) | inr t ↦ elim t [ inl e ↦ (let z : Load ≡ Middle = e in cc) | inr e ↦ (let z : Load ≡ Far = e in cc) ] ])
  label_is (Trap c) kind h = absurd (elim h [ inl e ↦ (let z : Trapping ≡ Near = e in cc) | inr t ↦ elim t [ inl e ↦ (let z : Trapping ≡ Middle = e in cc) | inr e ↦ (let z : Trapping ≡ Far = e in cc) ] ])
  label_is IslandEnd kind h = absurd (elim h [ inl e ↦ (let z : Direct ≡ Near = e in cc) | inr t ↦ elim t [ inl e ↦ (let z : Direct ≡ Middle = e in cc) | inr e ↦ (let z : Direct ≡ Far = e in cc) ] ])

  pub label_kinded : (target : Target) (kind : K) (label : ℕ) → label_of target ≡ Some label → (r.veneers kind ≡ true → ⊥) ⊎ (class_of r target kind ≡ label_class true (r.urgency kind))
  label_kinded (Label l) kind label e = go (r.veneers kind)
    where
      go : (v : Bool) → (v ≡ true → ⊥) ⊎ (label_class v (r.urgency kind) ≡ label_class true (r.urgency kind))
      go true = inr refl
      go false = inl (λ z. cc)
  label_kinded (Constant c) kind label e = absurd (let z : None ≡ Some label = e in cc)
  label_kinded (Trap c) kind label e = absurd (let z : None ≡ Some label = e in cc)
  label_kinded IslandEnd kind label e = absurd (let z : None ≡ Some label = e in cc)

  -- ---- the weight of one use

  pub weight_one : (w : Class → ℕ) (v : Use K) → weight_of r w (v ∷ []) ≤ w (class r v)
  weight_one w v = omega (arith, weight-cons r w v [], one (is_open r v))
    where
      one : (o : Bool) → cond o (w (class r v)) 0 ≤ w (class r v)
      one true = omega arith
      one false = omega arith

  pub weight_none : (w : Class → ℕ) (v : Use K) → class r v ≡ Direct → weight_of r w (v ∷ []) ≡ 0
  weight_none w v e = omega (arith, weight-cons r w v [], none (is_open r v) refl)
    where
      none : (o : Bool) → is_open r v ≡ o → cond o (w (class r v)) 0 ≡ 0
      none true o = absurd (let z : false ≡ true = sym (ap (λ c. wants c) e) ∙ left (wants (class r v)) _ o in cc)
        where
          left : (a b : Bool) → (a && b) ≡ true → a ≡ true
          left true b e = refl
          left false b e = e
      none false o = refl

  -- what one use is owed is owed to its label
  pub label_one : (t : ℕ → Bool) (u v : Use K) → label_of v.target ≡ label_of u.target → weigh r (cost third) v ≤ weigh r (cost third) u → sum_by (weigh_label r t) (v ∷ []) ≤ weigh_label r t u
  label_one t u v same le = omega (arith, sum_by-cons (weigh_label r t) v [], subst (λ o. elim o [ None ↦ 0 | Some label ↦ cond (t label) (weigh r (cost third) v) 0 ] ≤ weigh_label r t u) (sym same) (go (label_of u.target)))
    where
      go : (o : Option ℕ) → elim o [ None ↦ 0 | Some label ↦ cond (t label) (weigh r (cost third) v) 0 ] ≤ elim o [ None ↦ 0 | Some label ↦ cond (t label) (weigh r (cost third) u) 0 ]
      go None = omega arith
      go (Some label) = either (t label)
        where
          either : (c : Bool) → cond c (weigh r (cost third) v) 0 ≤ cond c (weigh r (cost third) u) 0
          either true = le
          either false = omega arith
