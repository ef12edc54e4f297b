-- Two systems that differ in which entries are 0, and a way from the one to the other.
use Rattle.std.proofs.Common.{◌≡◌, ℕ, zero, suc, ◌<◌, ◌≤◌, Bool, true, ◌⊎◌, inl, inr, le_trans, arith}
use Rattle.heuristics.specs.Scale.{Scale, ScaleLaws}
use Rattle.heuristics.proofs.Folds.{cond_ways}
use Rattle.heuristics.proofs.System.{System, dearest_read, over, falling, Holds, Met, at_zero, at_none, at_way, met, over_below, over_zero, over_none, read_least, read_above}

-- Where a way `a` leads from the one to the other, a table that holds of the first is at most a's cost above each round of
-- the second.
module _ (S : Scale) (L : ScaleLaws S) (Y : System) (here there : ℕ → Bool) (a : ℕ) (known : a < Y.ways)
    (leads : (i : ℕ) → i < Y.size → there i ≡ true → (here i ≡ true) ⊎ ((Y.usable i a ≡ true) × ((j : ℕ) → j < Y.size → Y.reads i a j ≡ true → here j ≡ true)))
    (U : ℕ → ℕ) (holds : Holds S Y here U) where
  zero_at : (i : ℕ) → i < Y.size → here i ≡ true → U i ≤ 0
  zero_at i l t = let e : U i ≡ over S Y here U i = holds i l in let z : over S Y here U i ≡ 0 = over_zero S Y here U i t in omega arith

  below_none : (i : ℕ) → i < Y.size → U i ≤ S.none
  below_none i l = rw (holds i l) (over_none S Y here U i)

  at_first : (i : ℕ) → i < Y.size → there i ≡ true → U i ≤ S.extend 0 (Y.cost a)
  at_first i l t = go (leads i l t)
    where
      go : (here i ≡ true) ⊎ ((Y.usable i a ≡ true) × ((j : ℕ) → j < Y.size → Y.reads i a j ≡ true → here j ≡ true)) → U i ≤ S.extend 0 (Y.cost a)
      go (inl h) = let e : U i ≤ 0 = zero_at i l h in omega arith
      go (inr p) =
          let none_read : dearest_read Y U i a ≤ 0 = read_least Y U i a 0 (λ j k r. zero_at j k (p.1 j k r)) in
          let q : over S Y here U i ≤ S.extend (dearest_read Y U i a) (Y.cost a) = over_below S Y here U i a known p.0 in
          let e : U i ≡ over S Y here U i = holds i l in
          let o : S.extend (dearest_read Y U i a) (Y.cost a) ≤ S.extend 0 (Y.cost a) = L.keeps_order _ 0 (Y.cost a) none_read in
          omega arith

  pub moved : (r i : ℕ) → i < Y.size → U i ≤ S.extend (falling S Y there r i) (Y.cost a)
  moved zero i l = go (cond_ways (there i) 0 S.none)
    where
      go : ((there i ≡ true) × (falling S Y there zero i ≡ 0)) ⊎ (falling S Y there zero i ≡ S.none) → U i ≤ S.extend (falling S Y there zero i) (Y.cost a)
      go (inl p) = rw p.1 (at_first i l p.0)
      go (inr e) = rw (e, L.none_stays) (below_none i l)
  moved (suc r) i l = go (λ j k. moved r j k) (met S Y there (falling S Y there r) i)
    where
      V : ℕ → ℕ
      V = falling S Y there r

      go : ((j : ℕ) → j < Y.size → U j ≤ S.extend (V j) (Y.cost a)) → Met S Y there V i → U i ≤ S.extend (over S Y there V i) (Y.cost a)
      go ih (at_zero t e) = rw e (at_first i l t)
      go ih (at_none e) = rw (e, L.none_stays) (below_none i l)
      go ih (at_way b m u e) =
          let p : over S Y here U i ≤ S.extend (dearest_read Y U i b) (Y.cost b) = over_below S Y here U i b m u in
          let q : dearest_read Y U i b ≤ S.extend (dearest_read Y V i b) (Y.cost a) = read_least Y U i b _ (λ j k t. le_trans (ih j k) (L.keeps_order _ _ (Y.cost a) (read_above Y V i b j k t))) in
          let o : S.extend (dearest_read Y U i b) (Y.cost b) ≤ S.extend (S.extend (dearest_read Y V i b) (Y.cost a)) (Y.cost b) = L.keeps_order _ _ (Y.cost b) q in
          let s : S.extend (S.extend (dearest_read Y V i b) (Y.cost a)) (Y.cost b) ≡ S.extend (S.extend (dearest_read Y V i b) (Y.cost b)) (Y.cost a) = L.swaps _ (Y.cost a) (Y.cost b) in
          let h : U i ≡ over S Y here U i = holds i l in
          let w : U i ≤ S.extend (S.extend (dearest_read Y V i b) (Y.cost b)) (Y.cost a) = omega arith in
          rw e w
