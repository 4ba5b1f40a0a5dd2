-- The loads of a constant stop, one after another.
use Rattle.std.proofs.Common.{ℕ, ◌≡◌, ◌≢◌, Bool, true, false, cond, List, [], ◌∷◌, map, nat_eq, Option, None, Some, refl, sym, ◌∙◌, ap}
use Rattle.std.specs.Prelude.{◌&&◌, is_none}
use Rattle.std.proofs.lemmas.Bool.{eq-eqb, ne_eqb}
use Rattle.a64_buffer.specs.declared.site.Use.{Use}
use Rattle.a64_buffer.specs.declared.site.Target.{Target}
use Rattle.a64_buffer.specs.declared.site.Target.TheVariants.{Label, Constant, Trap, IslandEnd}
use Rattle.a64_buffer.specs.declared.class.Class.TheVariants.{Load}
use Rattle.a64_buffer.specs.Kinds.{Kinds}
use Rattle.a64_buffer.specs.Buffer.{label_of, leads_to, reached, closed_at, made_use}
use Rattle.a64_buffer.specs.Chain.{constant_of, load_of, loads_of}
use Rattle.a64_buffer.specs.Classes.{wants, class, class_of}
use Rattle.a64_buffer.specs.Queues.{IsWaitingClass}
use Rattle.a64_buffer.specs.Steps.{stopped, is_load_of, waits_for}
use Rattle.a64_buffer.proofs.Chains.{without}
use Rattle.a64_buffer.proofs.Walks.{IsStep}

-- ---- what a use waits for

-- a use of no constant waits for none
pub no_load : {K : Type 0} (u : Use K) → constant_of u.target ≡ None → load_of u ≡ None
no_load u e = go (is_none u.stop)
  where
    go : (b : Bool) → cond b (constant_of u.target) None ≡ None
    go true = e
    go false = refl

-- the label of a use is no constant
pub label_alone : (label : ℕ) (t : Target) → label_of t ≡ Some label → constant_of t ≡ None
label_alone label (Label l) e = refl
label_alone label (Constant c) e = absurd (let z : None ≡ Some label = e in cc)
label_alone label (Trap c) e = refl
label_alone label IslandEnd e = refl

-- a use of a constant that is made now waits
pub made_load : {K : Type 0} (r : Kinds K) (labels : _) (offset : ℕ) (t : Target) (kind : K) → load_of (made_use r labels offset t kind) ≡ constant_of t
made_load r labels offset (Label l) kind = no_load (made_use r labels offset (Label l) kind) refl
made_load r labels offset (Constant c) kind = refl
made_load r labels offset (Trap c) kind = refl
made_load r labels offset IslandEnd kind = refl

-- ---- uses that stop

module _ (constant : ℕ) where
  waits_same : (t : Target) (stop : Option ℕ) → cond (is_none stop) (constant_of t) None ≡ Some constant → (is_load_of constant t && is_none stop) ≡ true
  waits_same t (Some s) e = absurd (let z : None ≡ Some constant = e in cc)
  waits_same (Label l) None e = absurd (let z : None ≡ Some constant = e in cc)
  waits_same (Constant c) None e = ap (λ b. b && true) (eq-eqb c.0 constant (cc e))
  waits_same (Trap c) None e = absurd (let z : None ≡ Some constant = e in cc)
  waits_same IslandEnd None e = absurd (let z : None ≡ Some constant = e in cc)

  never : (b : Bool) → (b && false) ≡ false
  never true = refl
  never false = refl

  waits_other : (t : Target) (stop : Option ℕ) → cond (is_none stop) (constant_of t) None ≢ Some constant → (is_load_of constant t && is_none stop) ≡ false
  waits_other t (Some s) ne = never (is_load_of constant t)
  waits_other (Label l) None ne = refl
  waits_other (Constant c) None ne = ap (λ b. b && true) (ne_eqb c.0 constant (λ e. ne (ap Some e)))
  waits_other (Trap c) None ne = refl
  waits_other IslandEnd None ne = refl

  -- an open load waits for its constant
  pub load_of_waits : {K : Type 0} (u : Use K) → load_of u ≡ Some constant → waits_for constant u ≡ true
  load_of_waits u e = waits_same u.target u.stop e

  -- the open loads of a constant stop
  pub stops : {K : Type 0} (place : ℕ) → IsStep (λ (u : Use K). load_of u) constant (stopped (waits_for constant) place) (λ (u : Use K). record u { stop = Some place })
  stops place = record {
    other = λ u ne. ap (λ t. record u { stop = cond t (Some place) u.stop }) (waits_other u.target u.stop ne);
    same = λ u e. ap (λ t. record u { stop = cond t (Some place) u.stop }) (waits_same u.target u.stop e);
  }

  -- and wait no longer
  waits_still : (t : Target) (stop : Option ℕ) (place : ℕ) → cond (is_none (cond (is_load_of constant t && is_none stop) (Some place) stop)) (constant_of t) None ≡ without constant (cond (is_none stop) (constant_of t) None)
  waits_still t (Some s) place = ap (λ b. cond (is_none (cond b (Some place) (Some s))) (constant_of t) None) (never (is_load_of constant t))
  waits_still (Label l) None place = refl
  waits_still (Constant c) None place = go (nat_eq c.0 constant)
    where
      go : (b : Bool) → cond (is_none (cond (b && true) (Some place) None)) (Some c.0) None ≡ cond b None (Some c.0)
      go true = refl
      go false = refl
  waits_still (Trap c) None place = refl
  waits_still IslandEnd None place = refl

  pub stopped_loads : {K : Type 0} (place : ℕ) (uses : List (Use K)) → loads_of (map (stopped (waits_for constant) place) uses) ≡ map (without constant) (loads_of uses)
  stopped_loads place [] = refl
  stopped_loads place (u ∷ us) = ap (λ l. l ∷ loads_of (map (stopped (waits_for constant) place) us)) (waits_still u.target u.stop place) ∙ ap (λ ls. without constant (load_of u) ∷ ls) (stopped_loads place us)

-- uses that are closed wait for the constants for which they waited
closed_load : {K : Type 0} (r : Kinds K) (label place : ℕ) (u : Use K) → load_of (closed_at r label place u) ≡ load_of u
closed_load r label place u = go u.target u.stop
  where
    none : (b : Bool) (o : Option ℕ) → o ≡ None → cond b o None ≡ None
    none true o e = e
    none false o e = refl

    go : (t : Target) (stop : Option ℕ) → cond (is_none (cond (leads_to label t && is_none stop) (reached r u.kind u.offset place) stop)) (constant_of t) None ≡ cond (is_none stop) (constant_of t) None
    go (Label l) stop = none (is_none (cond (leads_to label (Label l) && is_none stop) (reached r u.kind u.offset place) stop)) None refl ∙ sym (none (is_none stop) None refl)
    go (Constant c) stop = refl
    go (Trap c) stop = refl
    go IslandEnd stop = refl

pub closed_loads : {K : Type 0} (r : Kinds K) (label place : ℕ) (uses : List (Use K)) → loads_of (map (closed_at r label place) uses) ≡ loads_of uses
closed_loads r label place [] = refl
closed_loads r label place (u ∷ us) = ap (λ l. l ∷ loads_of (map (closed_at r label place) us)) (closed_load r label place u) ∙ ap (λ ls. load_of u ∷ ls) (closed_loads r label place us)

-- ---- the class of a load

second_true : (a b : Bool) → (a && b) ≡ true → b ≡ true
second_true true b e = e
second_true false b e = absurd (let z : false ≡ true = e in cc)

module _ {K : Type 0} (r : Kinds K) (constant : ℕ) where
  load_class : (t : Target) (kind : K) (s : Bool) → (is_load_of constant t && s) ≡ true → class_of r t kind ≡ Load
  load_class (Label l) kind s e = absurd (let z : false ≡ true = e in cc)
  load_class (Constant c) kind s e = refl
  load_class (Trap c) kind s e = absurd (let z : false ≡ true = e in cc)
  load_class IslandEnd kind s e = absurd (let z : false ≡ true = e in cc)

  -- an open load is of its class
  pub load_waits : (u : Use K) → waits_for constant u ≡ true → IsWaitingClass r u Load
  load_waits u passes =
      let is : class r u ≡ Load = load_class u.target u.kind (is_none u.stop) passes in
      record {
        open' = ap (λ c. wants c && is_none u.stop) is ∙ second_true (is_load_of constant u.target) (is_none u.stop) passes;
        is = λ w. is;
      }
