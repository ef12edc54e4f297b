-- How many atoms the sets of 1 to m atoms have, and that every such set is among them.
use Rattle.std.proofs.Common.{◌≡◌, ℕ, zero, suc, ◌+◌, ◌<◌, ◌≤◌, Bool, true, false, cond, eqb, ◌⊎◌, ◌∷◌, ◌++◌, map, sym, refl, ap, ◌∙◌, subst, inl, inr, le_refl, arith}
use mathlib.Core.List.Memᴰ
use mathlib.Core.List.{Memᴰ}
use Rattle.std.proofs.lemmas.Bool.{true≢false, eqb-true, eq-eqb, ne_eqb, or_left, or_cases}
use Rattle.strips.specs.Sets.{Atoms, nothing, plus}
use Rattle.heuristics.specs.Smalls.{sized, smalls}
use Rattle.heuristics.proofs.Places.{last_or_below}
use Rattle.heuristics.proofs.Listed.{mem_map, map_mem}

-- how many atoms below n are in a set
pub count : ℕ → Atoms → ℕ
count zero A = 0
count (suc n) A = cond (A n) 1 0 + count n A

count_below : (n : ℕ) (A B : Atoms) → ((x : ℕ) → x < n → A x ≡ true → B x ≡ true) → count n A ≤ count n B
unfolding count
count_below zero A B f = omega arith
count_below (suc n) A B f = go (A n) (B n) (f n (omega arith)) (count_below n A B (λ x l. f x (omega arith)))
  where
    go : (a b : Bool) → (a ≡ true → b ≡ true) → count n A ≤ count n B → cond a 1 0 + count n A ≤ cond b 1 0 + count n B
    go true true h k = omega arith
    go true false h k = absurd (true≢false (sym (h refl)))
    go false true h k = omega arith
    go false false h k = omega arith

pub count_less : (n : ℕ) (A B : Atoms) → ((x : ℕ) → x < n → A x ≡ true → B x ≡ true) → (y : ℕ) → y < n → B y ≡ true → A y ≡ false → count n A < count n B
unfolding count
count_less zero A B f y l s t = absurd (omega arith)
count_less (suc n) A B f y l s t = go (last_or_below y n l) (λ q. count_less n A B (λ x k. f x (omega arith)) y q s t)
  where
    same : (a b : Bool) → (a ≡ true → b ≡ true) → count n A < count n B → cond a 1 0 + count n A < cond b 1 0 + count n B
    same true true h k = omega arith
    same true false h k = absurd (true≢false (sym (h refl)))
    same false true h k = omega arith
    same false false h k = omega arith

    more : (a b : Bool) → a ≡ false → b ≡ true → count n A ≤ count n B → cond a 1 0 + count n A < cond b 1 0 + count n B
    more true b h k o = absurd (true≢false h)
    more false true h k o = omega arith
    more false false h k o = absurd (true≢false (sym k))

    go : (y < n) ⊎ (y ≡ n) → (y < n → count n A < count n B) → cond (A n) 1 0 + count n A < cond (B n) 1 0 + count n B
    go (inl q) h = same (A n) (B n) (f n (omega arith)) (h q)
    go (inr e) h = more (A n) (B n) (ap A (sym e) ∙ t) (ap B (sym e) ∙ s) (count_below n A B (λ x k. f x (omega arith)))

count_nothing : (n : ℕ) → count n nothing ≤ 0
unfolding count
count_nothing zero = omega arith
count_nothing (suc n) = let p : count n nothing ≤ 0 = count_nothing n in omega arith

plus_other : (n x : ℕ) (A : Atoms) → (x ≡ n → ⊥) → plus n A x ≡ A x
plus_other n x A d = rw (ne_eqb x n d)

pub plus_own : (n : ℕ) (A : Atoms) → plus n A n ≡ true
plus_own n A = or_left (eqb n n) (A n) (eq-eqb n n refl)

pub plus_only : (i x : ℕ) → plus i nothing x ≡ true → x ≡ i
plus_only i x u = pick (or_cases (eqb x i) false u)
  where
    pick : (eqb x i ≡ true) ⊎ (false ≡ true) → x ≡ i
    pick (inl q) = eqb-true x i q
    pick (inr q) = absurd (true≢false (sym q))

sized_ends : (n s : ℕ) (A : Atoms) → Memᴰ A (sized n s) → (x : ℕ) → n ≤ x → A x ≡ false
unfolding sized
sized_ends n zero A m x l = ap (λ B. B x) (Memᴰ.eq_of_singleton m)
sized_ends zero (suc s) A m x l = elim m [ ]
sized_ends (suc n) (suc s) A m x l = go (Memᴰ.append_cases (sized n (suc s)) m) (λ k. sized_ends n (suc s) A k x (omega arith)) (λ B k. sized_ends n s B k x (omega arith))
  where
    go : Memᴰ A (sized n (suc s)) ⊎ Memᴰ A (map (plus n) (sized n s)) → (Memᴰ A (sized n (suc s)) → A x ≡ false) → ((B : Atoms) → Memᴰ B (sized n s) → B x ≡ false) → A x ≡ false
    go (inl k) f g = f k
    go (inr k) f g =
        let w : (B : Atoms) × Memᴰ B (sized n s) × (A ≡ plus n B) = map_mem (plus n) (sized n s) k in
        ap (λ B. B x) w.2 ∙ (plus_other n x w.0 (λ e. omega arith) ∙ g w.0 w.1)

sized_count : (n s : ℕ) (A : Atoms) → Memᴰ A (sized n s) → count n A ≤ s
unfolding count sized
sized_count n zero A m = rw (Memᴰ.eq_of_singleton m) (count_nothing n)
sized_count zero (suc s) A m = elim m [ ]
sized_count (suc n) (suc s) A m = go (Memᴰ.append_cases (sized n (suc s)) m) (λ k. sized_count n (suc s) A k) (λ B k. sized_count n s B k)
  where
    one : (b : Bool) → cond b 1 0 ≤ 1
    one true = omega arith
    one false = omega arith

    go : Memᴰ A (sized n (suc s)) ⊎ Memᴰ A (map (plus n) (sized n s)) → (Memᴰ A (sized n (suc s)) → count n A ≤ suc s) → ((B : Atoms) → Memᴰ B (sized n s) → count n B ≤ s) → cond (A n) 1 0 + count n A ≤ suc s
    go (inl k) f g = rw (sized_ends n (suc s) A k n (le_refl n)) (let p : count n A ≤ suc s = f k in omega arith)
    go (inr k) f g =
        let w : (B : Atoms) × Memᴰ B (sized n s) × (A ≡ plus n B) = map_mem (plus n) (sized n s) k in
        let p : count n w.0 ≤ s = g w.0 w.1 in
        let q : count n (plus n w.0) ≤ count n w.0 = count_below n (plus n w.0) w.0 (λ x l t. sym (plus_other n x w.0 (λ e. omega arith)) ∙ t) in
        let o : cond (A n) 1 0 ≤ 1 = one (A n) in
        let e : count n A ≡ count n (plus n w.0) = ap (count n) w.2 in
        omega arith

pub smalls_count : (n m : ℕ) (A : Atoms) → Memᴰ A (smalls n m) → count n A ≤ m
unfolding smalls
smalls_count n zero A k = elim k [ ]
smalls_count n (suc m) A k = go (Memᴰ.append_cases (smalls n m) k) (λ q. smalls_count n m A q)
  where
    go : Memᴰ A (smalls n m) ⊎ Memᴰ A (sized n (suc m)) → (Memᴰ A (smalls n m) → count n A ≤ m) → count n A ≤ suc m
    go (inl q) f = let p : count n A ≤ m = f q in omega arith
    go (inr q) f = sized_count n (suc m) A q

-- every set is, below n, one of those of its size
record Found (n s : ℕ) (A : Atoms) : Type 0 where
  pub set : Atoms
  pub listed : Memᴰ set (sized n s)
  pub agrees : (x : ℕ) → x < n → set x ≡ A x

wider : (n s : ℕ) (A : Atoms) → Memᴰ A (sized n s) → Memᴰ A (sized (suc n) s)
unfolding sized
wider n zero A m = m
wider n (suc s) A m = Memᴰ.append_left (map (plus n) (sized n s)) m

found : (n : ℕ) (A : Atoms) → Found n (count n A) A
unfolding count sized
found zero A = record { set = nothing; listed = Memᴰ.head refl; agrees = λ x l. absurd (omega arith) }
found (suc n) A = go (A n) refl (found n A)
  where
    go : (b : Bool) → A n ≡ b → Found n (count n A) A → Found (suc n) (cond b 1 0 + count n A) A
    go true e w = record {
      set = plus n w.set;
      listed = rw one_more (Memᴰ.append_right (sized n (suc (count n A))) (mem_map (plus n) w.listed));
      agrees = λ x l. here x (last_or_below x n l);
    }
      where
        one_more : 1 + count n A ≡ suc (count n A)
        one_more = omega arith

        here : (x : ℕ) → (x < n) ⊎ (x ≡ n) → plus n w.set x ≡ A x
        here x (inl q) = plus_other n x w.set (λ d. omega arith) ∙ w.agrees x q
        here x (inr q) = rw q (plus_own n w.set ∙ sym e)
    go false e w = record {
      set = w.set;
      listed = rw none_more (wider n (count n A) w.set w.listed);
      agrees = λ x l. here x (last_or_below x n l);
    }
      where
        none_more : 0 + count n A ≡ count n A
        none_more = omega arith

        here : (x : ℕ) → (x < n) ⊎ (x ≡ n) → w.set x ≡ A x
        here x (inl q) = w.agrees x q
        here x (inr q) = rw q (sized_ends n (count n A) w.set w.listed n (le_refl n) ∙ sym e)

mem_smalls : (n m s : ℕ) (A : Atoms) → Memᴰ A (sized n (suc s)) → s < m → Memᴰ A (smalls n m)
unfolding smalls
mem_smalls n zero s A k l = absurd (omega arith)
mem_smalls n (suc m) s A k l = go (last_or_below s m l) (λ q. mem_smalls n m s A k q)
  where
    go : (s < m) ⊎ (s ≡ m) → (s < m → Memᴰ A (smalls n m)) → Memᴰ A (smalls n m ++ sized n (suc m))
    go (inl q) f = Memᴰ.append_left (sized n (suc m)) (f q)
    go (inr q) f = Memᴰ.append_right (smalls n m) (subst (λ z. Memᴰ A (sized n (suc z))) q k)

-- a set of at most m atoms is, below n, the empty set or among those of 1 to m
pub carried : (n m : ℕ) (A : Atoms) → count n A ≤ m → (f : Atoms) × Memᴰ f (nothing ∷ smalls n m) × ((x : ℕ) → x < n → f x ≡ A x)
unfolding sized
carried n m A h = go (count n A) h (found n A)
  where
    go : (c : ℕ) → c ≤ m → Found n c A → (f : Atoms) × Memᴰ f (nothing ∷ smalls n m) × ((x : ℕ) → x < n → f x ≡ A x)
    go zero l w = (w.set, Memᴰ.head (Memᴰ.eq_of_singleton w.listed), w.agrees)
    go (suc c) l w = (w.set, Memᴰ.tail (mem_smalls n m c w.set w.listed (omega arith)), w.agrees)
