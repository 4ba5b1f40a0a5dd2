-- Lists in parts.
use Rattle.std.proofs.Common.{◌≡◌, List, [], ◌∷◌, ◌++◌, length, map, refl, ap, subst, arith, inl, inr, ◌⊎◌}
use Rattle.std.specs.List.{AllByRecursion, AllZip}

-- a list whose images are two lists in a row
pub record MapParts {A B : Type 0} (f : A → B) (zs : List A) (xs ys : List B) : Type 0 where
  pub front : List A
  pub back : List A
  pub parts : zs ≡ front ++ back
  pub is_front : map f front ≡ xs
  pub is_back : map f back ≡ ys

pub map_parts : {A B : Type 0} (f : A → B) (zs : List A) (xs ys : List B) → map f zs ≡ xs ++ ys → MapParts f zs xs ys
map_parts f zs [] ys e = record { front = []; back = zs; parts = refl; is_front = refl; is_back = e }
map_parts f [] (x ∷ xs) ys e = absurd cc
map_parts {A} f (z ∷ zs) (x ∷ xs) ys e =
    let h : f z ≡ x = cc in
    let t : map f zs ≡ xs ++ ys = cc in
    let r = map_parts f zs xs ys t in
    record { front = z ∷ r.front; back = r.back; parts = ap (λ (w : List A). z ∷ w) r.parts; is_front = rw (h, r.is_front) refl; is_back = r.is_back }

-- a list whose elements fit those of two lists in a row
pub record ZipParts {A B : Type 0} (R : A → B → Type 0) (xs ys : List A) (zs : List B) : Type 0 where
  pub front : List B
  pub back : List B
  pub parts : zs ≡ front ++ back
  pub is_front : AllZip R xs front
  pub is_back : AllZip R ys back

pub zip_parts : {A B : Type 0} (R : A → B → Type 0) (xs ys : List A) (zs : List B) → AllZip R (xs ++ ys) zs → ZipParts R xs ys zs
zip_parts R [] ys zs h = record { front = []; back = zs; parts = refl; is_front = tt; is_back = h }
zip_parts R (x ∷ xs) ys [] h = absurd h
zip_parts {B = B} R (x ∷ xs) ys (z ∷ zs) h =
    let r = zip_parts R xs ys zs h.1 in
    record { front = z ∷ r.front; back = r.back; parts = ap (λ (w : List B). z ∷ w) r.parts; is_front = (h.0, r.is_front); is_back = r.is_back }

pub zip_push : {A B : Type 0} (R : A → B → Type 0) (xs : List A) (zs : List B) (x : A) (z : B) → AllZip R xs zs → R x z → AllZip R (xs ++ x ∷ []) (zs ++ z ∷ [])
zip_push R [] [] x z h r = (r, tt)
zip_push R [] (y ∷ zs) x z h r = absurd h
zip_push R (w ∷ xs) [] x z h r = absurd h
zip_push R (w ∷ xs) (y ∷ zs) x z h r = (h.0, zip_push R xs zs x z h.1 r)

pub each_parts : {A : Type 0} (P : A → Type 0) (xs ys : List A) → AllByRecursion P (xs ++ ys) → AllByRecursion P xs × AllByRecursion P ys
each_parts P [] ys h = (tt, h)
each_parts P (x ∷ xs) ys h = let r = each_parts P xs ys h.1 in ((h.0, r.0), r.1)

-- two lists with one front: as long, or the one goes on where the other has its next element
abbrev pub Fronts : {A : Type 0} → List A → A → List A → A → Type 0
Fronts {A} xs x bs y = (length xs ≡ length bs) ⊎ (((more : List A) × (bs ≡ xs ++ x ∷ more)) ⊎ ((more : List A) × (xs ≡ bs ++ y ∷ more)))

longer : {A : Type 0} (z : A) (xs : List A) (x : A) (bs : List A) (y : A) → Fronts xs x bs y → Fronts (z ∷ xs) x (z ∷ bs) y
longer z xs x bs y (inl e) = inl (omega (arith, e))
longer {A} z xs x bs y (inr (inl m)) = inr (inl (m.0, ap (λ (w : List A). z ∷ w) m.1))
longer {A} z xs x bs y (inr (inr m)) = inr (inr (m.0, ap (λ (w : List A). z ∷ w) m.1))

pub fronts : {A : Type 0} (xs : List A) (x : A) (cs : List A) (bs : List A) (y : A) (ds : List A) → xs ++ x ∷ cs ≡ bs ++ y ∷ ds → Fronts xs x bs y
fronts [] x cs [] y ds e = inl refl
fronts [] x cs (b ∷ bs) y ds e = let h : x ≡ b = cc in inr (inl (bs, rw h refl))
fronts (a ∷ xs) x cs [] y ds e = let h : a ≡ y = cc in inr (inr (xs, rw h refl))
fronts {A} (a ∷ xs) x cs (b ∷ bs) y ds e =
    let h : a ≡ b = cc in
    let t : xs ++ x ∷ cs ≡ bs ++ y ∷ ds = cc in
    subst (λ (w : A). Fronts (a ∷ xs) x (w ∷ bs) y) h (longer a xs x bs y (fronts xs x cs bs y ds t))
