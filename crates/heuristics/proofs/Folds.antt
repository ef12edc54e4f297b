-- The greatest and the least of finitely many numbers, and numbers picked by a test.
use Rattle.std.proofs.Common.{◌≡◌, ℕ, zero, suc, ◌<◌, ◌≤◌, min, max, Bool, true, false, cond, ◌⊎◌, refl, inl, inr, le_refl, arith}
use Rattle.std.proofs.lemmas.Bool.{cases_lt}
use Rattle.heuristics.specs.Tables.{greatest, least}
use Rattle.heuristics.proofs.Places.{last_or_below}

pub greatest_above : (k : ℕ) (f : ℕ → ℕ) (i : ℕ) → i < k → f i ≤ greatest k f
greatest_above zero f i h = omega arith
greatest_above (suc k) f i h = go (last_or_below i k h) (λ p. greatest_above k f i p)
  where
    go : (i < k) ⊎ (i ≡ k) → (i < k → f i ≤ greatest k f) → f i ≤ max (greatest k f) (f k)
    go (inl p) ih = let q : f i ≤ greatest k f = ih p in omega arith
    go (inr e) ih = rw e (omega arith)

pub greatest_least : (k : ℕ) (f : ℕ → ℕ) (v : ℕ) → ((i : ℕ) → i < k → f i ≤ v) → greatest k f ≤ v
greatest_least zero f v h = omega arith
greatest_least (suc k) f v h =
    let p : greatest k f ≤ v = greatest_least k f v (λ i l. h i (omega arith)) in
    let q : f k ≤ v = h k (omega arith) in
    omega arith

pub greatest_same : (k : ℕ) (f g : ℕ → ℕ) → ((i : ℕ) → i < k → f i ≡ g i) → greatest k f ≡ greatest k g
greatest_same zero f g h = refl
greatest_same (suc k) f g h =
    let p : greatest k f ≡ greatest k g = greatest_same k f g (λ i l. h i (omega arith)) in
    let q : f k ≡ g k = h k (omega arith) in
    cc

-- numbers cut off at top
pub greatest_cut : (k top : ℕ) (f g : ℕ → ℕ) → ((i : ℕ) → i < k → f i ≡ min top (g i)) → greatest k f ≡ min top (greatest k g)
greatest_cut zero top f g h = omega arith
greatest_cut (suc k) top f g h =
    let p : greatest k f ≡ min top (greatest k g) = greatest_cut k top f g (λ i l. h i (omega arith)) in
    let q : f k ≡ min top (g k) = h k (omega arith) in
    omega arith

module _ (top : ℕ) where
  pub least_top : (k : ℕ) (f : ℕ → ℕ) → least top k f ≤ top
  least_top zero f = le_refl top
  least_top (suc k) f = let p : least top k f ≤ top = least_top k f in omega arith

  pub least_below : (k : ℕ) (f : ℕ → ℕ) (a : ℕ) → a < k → least top k f ≤ f a
  least_below zero f a h = absurd (omega arith)
  least_below (suc k) f a h = go (last_or_below a k h) (λ p. least_below k f a p)
    where
      go : (a < k) ⊎ (a ≡ k) → (a < k → least top k f ≤ f a) → min (least top k f) (f k) ≤ f a
      go (inl p) ih = let q : least top k f ≤ f a = ih p in omega arith
      go (inr e) ih = rw e (omega arith)

  pub least_greatest : (k : ℕ) (f : ℕ → ℕ) (v : ℕ) → v ≤ top → ((a : ℕ) → a < k → v ≤ f a) → v ≤ least top k f
  least_greatest zero f v t h = t
  least_greatest (suc k) f v t h =
      let p : v ≤ least top k f = least_greatest k f v t (λ a l. h a (omega arith)) in
      let q : v ≤ f k = h k (omega arith) in
      omega arith

  -- the least is the top, or it is met
  pub least_met : (k : ℕ) (f : ℕ → ℕ) → (least top k f ≡ top) ⊎ ((a : ℕ) × (a < k) × (least top k f ≡ f a))
  least_met zero f = inl refl
  least_met (suc k) f = go (cases_lt (least top k f) (f k)) (least_met k f)
    where
      go : (least top k f < f k) ⊎ (f k ≤ least top k f) → (least top k f ≡ top) ⊎ ((a : ℕ) × (a < k) × (least top k f ≡ f a)) → (min (least top k f) (f k) ≡ top) ⊎ ((a : ℕ) × (a < suc k) × (min (least top k f) (f k) ≡ f a))
      go (inl p) (inl e) = inl (omega arith)
      go (inl p) (inr w) = inr (w.0, (let l : w.0 < k = w.1 in omega arith), let e : least top k f ≡ f w.0 = w.2 in omega arith)
      go (inr p) r = inr (k, omega arith, omega arith)

pub least_cut : (top more k : ℕ) (f g : ℕ → ℕ) → top ≤ more → ((a : ℕ) → a < k → f a ≡ min top (g a)) → least top k f ≡ min top (least more k g)
least_cut top more zero f g o h = omega arith
least_cut top more (suc k) f g o h =
    let p : least top k f ≡ min top (least more k g) = least_cut top more k f g o (λ a l. h a (omega arith)) in
    let q : f k ≡ min top (g k) = h k (omega arith) in
    omega arith

pub cond_mono : (b : Bool) (x y z : ℕ) → x ≤ y → cond b x z ≤ cond b y z
cond_mono true x y z h = h
cond_mono false x y z h = le_refl z

pub cond_mono_else : (b : Bool) (x y z : ℕ) → x ≤ y → cond b z x ≤ cond b z y
cond_mono_else true x y z h = le_refl z
cond_mono_else false x y z h = h

pub cond_low : (b : Bool) (x v : ℕ) → x ≤ v → cond b 0 x ≤ v
cond_low true x v h = omega arith
cond_low false x v h = h

pub cond_within : (b : Bool) (x v : ℕ) → (b ≡ true → x ≤ v) → cond b x 0 ≤ v
cond_within true x v h = h refl
cond_within false x v h = omega arith

pub cond_ways : (b : Bool) (x y : ℕ) → ((b ≡ true) × (cond b x y ≡ x)) ⊎ (cond b x y ≡ y)
cond_ways true x y = inl (refl, refl)
cond_ways false x y = inr refl

pub cond_cut : (b : Bool) (top x x' y y' : ℕ) → x ≡ min top x' → y ≡ min top y' → cond b x y ≡ min top (cond b x' y')
cond_cut true top x x' y y' p q = p
cond_cut false top x x' y y' p q = q
