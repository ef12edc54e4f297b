-- The rounds of a system end after as many as there are entries.
use Rattle.std.proofs.Common.{◌≡◌, ℕ, zero, suc, ◌+◌, ◌<◌, ◌≤◌, Bool, true, false, cond, eqb, ◌⊎◌, sym, refl, ◌∙◌, inl, inr, le_refl, arith}
use Rattle.std.proofs.lemmas.Bool.{cases_lt, cases_eq, cond-true, eqb-true, eq-eqb}
use Rattle.heuristics.specs.Scale.{Scale, ScaleLaws}
use Rattle.heuristics.proofs.Places.{last_or_below}
use Rattle.heuristics.proofs.System.{System, dearest_read, over, falling, Holds, Met, at_zero, at_none, at_way, met, over_below, over_zero, read_least, read_above, falling_none, falling_first, falling_above, falling_falls}

sum : ℕ → (ℕ → ℕ) → ℕ
sum zero f = 0
sum (suc k) f = sum k f + f k

-- of two lists of numbers, the one below the other: all are equal, or the sum is less
same_or_less : (k : ℕ) (f g : ℕ → ℕ) → ((i : ℕ) → i < k → f i ≤ g i) → ((i : ℕ) → i < k → f i ≡ g i) ⊎ (sum k f < sum k g)
unfolding sum
same_or_less zero f g h = inl (λ i l. omega arith)
same_or_less (suc k) f g h = go (same_or_less k f g (λ i l. h i (omega arith))) (cases_lt (f k) (g k)) (h k (omega arith))
  where
    below : (n : ℕ) → ((i : ℕ) → i < n → f i ≤ g i) → sum n f ≤ sum n g
    below zero p = omega arith
    below (suc n) p =
        let a : sum n f ≤ sum n g = below n (λ i l. p i (omega arith)) in
        let b : f n ≤ g n = p n (omega arith) in
        omega arith

    at : ((i : ℕ) → i < k → f i ≡ g i) → f k ≡ g k → (i : ℕ) → i < suc k → f i ≡ g i
    at p e i l = pick (last_or_below i k l)
      where
        pick : (i < k) ⊎ (i ≡ k) → f i ≡ g i
        pick (inl q) = p i q
        pick (inr q) = rw q e

    go : ((i : ℕ) → i < k → f i ≡ g i) ⊎ (sum k f < sum k g) → (f k < g k) ⊎ (g k ≤ f k) → f k ≤ g k → ((i : ℕ) → i < suc k → f i ≡ g i) ⊎ (sum k f + f k < sum k g + g k)
    go (inl p) (inl q) o = inr (let s : sum k f ≤ sum k g = below k (λ i l. h i (omega arith)) in omega arith)
    go (inl p) (inr q) o = inl (at p (omega arith))
    go (inr p) d o = inr (omega arith)

sum_zero : (k : ℕ) (f : ℕ → ℕ) → sum k f ≤ 0 → (i : ℕ) → i < k → f i ≡ 0
unfolding sum
sum_zero zero f h i l = omega arith
sum_zero (suc k) f h i l = go (last_or_below i k l) (λ q. sum_zero k f (omega arith) i q)
  where
    go : (i < k) ⊎ (i ≡ k) → (i < k → f i ≡ 0) → f i ≡ 0
    go (inl p) ih = ih p
    go (inr p) ih = rw p (omega arith)

module _ (S : Scale) (L : ScaleLaws S) (Y : System) (zeros : ℕ → Bool) where
  abbrev Settled : ℕ → Type 0
  Settled r = (i : ℕ) → i < Y.size → falling S Y zeros (suc r) i ≡ falling S Y zeros r i

  -- some round alters nothing
  settles_from : (b r : ℕ) → sum Y.size (falling S Y zeros r) ≤ b → (R : ℕ) × Settled R
  settles_from zero r h = go (same_or_less Y.size (falling S Y zeros (suc r)) (falling S Y zeros r) (λ i l. falling_falls S L Y zeros r i))
    where
      go : Settled r ⊎ (sum Y.size (falling S Y zeros (suc r)) < sum Y.size (falling S Y zeros r)) → (R : ℕ) × Settled R
      go (inl p) = (r, p)
      go (inr p) = absurd (omega arith)
  settles_from (suc b) r h = go (λ p. settles_from b (suc r) p) (same_or_less Y.size (falling S Y zeros (suc r)) (falling S Y zeros r) (λ i l. falling_falls S L Y zeros r i))
    where
      go : (sum Y.size (falling S Y zeros (suc r)) ≤ b → (R : ℕ) × Settled R) → Settled r ⊎ (sum Y.size (falling S Y zeros (suc r)) < sum Y.size (falling S Y zeros r)) → (R : ℕ) × Settled R
      go ih (inl p) = (r, p)
      go ih (inr p) = ih (omega arith)

  -- In what follows v holds, and is met by round R.
  module _ (v : ℕ → ℕ) (holds : Holds S Y zeros v) (R : ℕ) (met_by : (i : ℕ) → i < Y.size → falling S Y zeros R i ≡ v i) where
    above : (r i : ℕ) → i < Y.size → v i ≤ falling S Y zeros r i
    above r i l = falling_above S L Y zeros v holds r i l

    -- if round r + 1 meets v nowhere that round r does not, then round r meets v wherever a round q does:
    -- by the value at the entry, and then by q
    module _ (r : ℕ) (stuck : (i : ℕ) → i < Y.size → falling S Y zeros (suc r) i ≡ v i → falling S Y zeros r i ≡ v i) where
      none_met : (i : ℕ) → i < Y.size → v i ≡ S.none → falling S Y zeros r i ≡ v i
      none_met i l e =
          let p : v i ≤ falling S Y zeros r i = above r i l in
          let q : falling S Y zeros r i ≤ S.none = falling_none S L Y zeros r i in
          omega arith

      by_round : (x : ℕ) → ((j : ℕ) → j < Y.size → v j < x → falling S Y zeros r j ≡ v j) → (q i : ℕ) → i < Y.size → v i ≤ x → falling S Y zeros q i ≡ v i → falling S Y zeros r i ≡ v i
      by_round x ih zero i l w e =
          let p : v i ≤ falling S Y zeros r i = above r i l in
          let o : falling S Y zeros r i ≤ falling S Y zeros zero i = falling_first S L Y zeros r i in
          omega arith
      by_round x ih (suc q) i l w e = go (λ j k b f. by_round x ih q j k b f) (met S Y zeros (falling S Y zeros q) i)
        where
          V : ℕ → ℕ
          V = falling S Y zeros q

          G : ℕ → ℕ
          G = falling S Y zeros r

          go : ((j : ℕ) → j < Y.size → v j ≤ x → V j ≡ v j → G j ≡ v j) → Met S Y zeros V i → G i ≡ v i
          go by (at_zero t z) = stuck i l (over_zero S Y zeros G i t ∙ sym z ∙ e)
          go by (at_none z) = none_met i l (sym e ∙ z)
          go by (at_way a m u z) = stuck i l lands
            where
              is : v i ≡ S.extend (dearest_read Y V i a) (Y.cost a)
              is = sym e ∙ z

              read_below : dearest_read Y V i a ≤ v i
              read_below =
                  let b : dearest_read Y V i a ≤ S.none = read_least Y V i a S.none (λ j k t. falling_none S L Y zeros q j) in
                  let p : dearest_read Y V i a ≤ S.extend (dearest_read Y V i a) (Y.cost a) = L.rises (dearest_read Y V i a) (Y.cost a) b in
                  let f : v i ≡ S.extend (dearest_read Y V i a) (Y.cost a) = is in
                  omega arith

              read_met : (j : ℕ) → j < Y.size → Y.reads i a j ≡ true → G j ≡ v j
              read_met j k t = pick (cases_eq (V j) (v j)) (read_above Y V i a j k t) read_below
                where
                  pick : (V j ≡ v j) ⊎ (V j ≡ v j → ⊥) → V j ≤ dearest_read Y V i a → dearest_read Y V i a ≤ v i → G j ≡ v j
                  pick (inl f) o p = by j k (omega arith) f
                  pick (inr f) o p = ih j k (let h : v j ≤ V j = above q j k in omega arith)

              lands : over S Y zeros G i ≡ v i
              lands =
                  let p : over S Y zeros G i ≤ S.extend (dearest_read Y G i a) (Y.cost a) = over_below S Y zeros G i a m u in
                  let o : dearest_read Y G i a ≤ dearest_read Y V i a = read_least Y G i a _ (λ j k t. let f : G j ≡ v j = read_met j k t in let f₂ : v j ≤ V j = above q j k in let f₃ : V j ≤ dearest_read Y V i a = read_above Y V i a j k t in omega arith) in
                  let s : S.extend (dearest_read Y G i a) (Y.cost a) ≤ S.extend (dearest_read Y V i a) (Y.cost a) = L.keeps_order _ _ (Y.cost a) o in
                  let f : v i ≡ S.extend (dearest_read Y V i a) (Y.cost a) = is in
                  let b : v i ≤ over S Y zeros G i = above (suc r) i l in
                  omega arith

      by_value : (x i : ℕ) → i < Y.size → v i < x → falling S Y zeros r i ≡ v i
      by_value zero i l w = omega arith
      by_value (suc x) i l w = by_round x (λ j k b. by_value x j k b) R i l (omega arith) (met_by i l)

      stuck_met : (i : ℕ) → i < Y.size → falling S Y zeros r i ≡ v i
      stuck_met i l = by_value (suc (v i)) i l (omega arith)

    -- 1 where round r does not meet v yet
    off : ℕ → ℕ → ℕ
    off r i = cond (eqb (falling S Y zeros r i) (v i)) 0 1

    off_met : (r i : ℕ) → off r i ≡ 0 → falling S Y zeros r i ≡ v i
    unfolding off
    off_met r i e = go (eqb (falling S Y zeros r i) (v i)) (eqb-true (falling S Y zeros r i) (v i)) e
      where
        go : (b : Bool) → (b ≡ true → falling S Y zeros r i ≡ v i) → ◌≡◌ {A = ℕ} (cond b 0 1) 0 → falling S Y zeros r i ≡ v i
        go true f z = f refl
        go false f z = omega arith

    met_off : (r i : ℕ) → falling S Y zeros r i ≡ v i → off r i ≡ 0
    unfolding off
    met_off r i e = cond-true (eqb (falling S Y zeros r i) (v i)) 0 1 (eq-eqb (falling S Y zeros r i) (v i) e)

    off_one : (r i : ℕ) → off r i ≤ 1
    unfolding off
    off_one r i = go (eqb (falling S Y zeros r i) (v i))
      where
        go : (b : Bool) → cond b 0 1 ≤ 1
        go true = omega arith
        go false = omega arith

    keeps_met : (r i : ℕ) → i < Y.size → falling S Y zeros r i ≡ v i → falling S Y zeros (suc r) i ≡ v i
    keeps_met r i l e =
        let p : v i ≤ falling S Y zeros (suc r) i = above (suc r) i l in
        let q : falling S Y zeros (suc r) i ≤ falling S Y zeros r i = falling_falls S L Y zeros r i in
        omega arith

    off_falls : (r i : ℕ) → i < Y.size → off (suc r) i ≤ off r i
    off_falls r i l = go (cases_lt 0 (off r i)) (off_one (suc r) i)
      where
        go : (0 < off r i) ⊎ (off r i ≤ 0) → off (suc r) i ≤ 1 → off (suc r) i ≤ off r i
        go (inl p) b = omega arith
        go (inr p) b = let e : off (suc r) i ≡ 0 = met_off (suc r) i (keeps_met r i l (off_met r i (omega arith))) in omega arith

    -- each round that does not meet v everywhere meets it at one more entry
    counts : (r : ℕ) → ((i : ℕ) → i < Y.size → falling S Y zeros r i ≡ v i) ⊎ (sum Y.size (off r) + r ≤ Y.size)
    unfolding sum
    counts zero = inr (let p : sum Y.size (off zero) ≤ Y.size = ones Y.size in omega arith)
      where
        ones : (k : ℕ) → sum k (off zero) ≤ k
        ones zero = omega arith
        ones (suc k) = let p : sum k (off zero) ≤ k = ones k in let q : off zero k ≤ 1 = off_one zero k in omega arith
    counts (suc r) = go (counts r) (same_or_less Y.size (off (suc r)) (off r) (off_falls r))
      where
        go : ((i : ℕ) → i < Y.size → falling S Y zeros r i ≡ v i) ⊎ (sum Y.size (off r) + r ≤ Y.size) → ((i : ℕ) → i < Y.size → off (suc r) i ≡ off r i) ⊎ (sum Y.size (off (suc r)) < sum Y.size (off r)) → ((i : ℕ) → i < Y.size → falling S Y zeros (suc r) i ≡ v i) ⊎ (sum Y.size (off (suc r)) + suc r ≤ Y.size)
        go (inl p) d = inl (λ i l. keeps_met r i l (p i l))
        go (inr p) (inl e) = inl (λ i l. keeps_met r i l (stuck_met r (λ j k f. off_met r j (sym (e j k) ∙ met_off (suc r) j f)) i l))
        go (inr p) (inr q) = inr (omega arith)

    all_met : (i : ℕ) → i < Y.size → falling S Y zeros Y.size i ≡ v i
    all_met i l = go (counts Y.size)
      where
        go : ((j : ℕ) → j < Y.size → falling S Y zeros Y.size j ≡ v j) ⊎ (sum Y.size (off Y.size) + Y.size ≤ Y.size) → falling S Y zeros Y.size i ≡ v i
        go (inl p) = p i l
        go (inr p) = off_met Y.size i (sum_zero Y.size (off Y.size) (omega arith) i l)

  -- the round numbered by how many entries there are holds
  pub last_holds : Holds S Y zeros (falling S Y zeros Y.size)
  last_holds i l = go (settles_from (sum Y.size (falling S Y zeros zero)) zero (le_refl _))
    where
      go : (R : ℕ) × Settled R → falling S Y zeros Y.size i ≡ falling S Y zeros (suc Y.size) i
      go w =
          let R : ℕ = w.0 in
          let h : Holds S Y zeros (falling S Y zeros R) = λ j k. sym (w.1 j k) in
          let all : (j : ℕ) → j < Y.size → falling S Y zeros Y.size j ≡ falling S Y zeros R j = all_met (falling S Y zeros R) h R (λ j k. refl) in
          let one : falling S Y zeros (suc Y.size) i ≡ falling S Y zeros R i = keeps_met (falling S Y zeros R) h R (λ j k. refl) Y.size i l (all i l) in
          all i l ∙ sym one
