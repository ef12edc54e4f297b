-- What the rules of a table come to, with no atom in sight.
use Rattle.std.proofs.Common.{◌≡◌, ℕ, zero, suc, ◌+◌, ◌<◌, ◌≤◌, min, Bool, true, cond, ◌⊎◌, ◌∙◌, subst, inl, inr, le_trans, le_refl, arith}
use Rattle.std.proofs.lemmas.Bool.{cases_lt, cond-true}
use Rattle.heuristics.specs.Scale.{Scale, ScaleLaws, added}
use Rattle.heuristics.specs.Tables.{greatest, least}
use Rattle.heuristics.proofs.Folds.{greatest_above, greatest_least, greatest_cut, least_top, least_below, least_greatest, least_met, least_cut, cond_mono, cond_mono_else, cond_low, cond_within, cond_ways, cond_cut}

-- There are `size` entries and `ways` ways to them. An entry i is the least, over the ways that are usable for i, of the
-- greatest entry that is read by that way, extended by the way's cost.
pub record System : Type 0 where
  pub size : ℕ
  pub ways : ℕ
  pub cost : ℕ → ℕ
  pub usable : ℕ → ℕ → Bool
  pub reads : ℕ → ℕ → ℕ → Bool

module _ (Y : System) where
  abbrev pub dearest_read : (ℕ → ℕ) → ℕ → ℕ → ℕ
  dearest_read U i a = greatest Y.size (λ j. cond (Y.reads i a j) (U j) 0)

  pub read_least : (U : ℕ → ℕ) (i a v : ℕ) → ((j : ℕ) → j < Y.size → Y.reads i a j ≡ true → U j ≤ v) → dearest_read U i a ≤ v
  read_least U i a v h = greatest_least Y.size _ v (λ j l. cond_within (Y.reads i a j) (U j) v (h j l))

  pub read_above : (U : ℕ → ℕ) (i a j : ℕ) → j < Y.size → Y.reads i a j ≡ true → U j ≤ dearest_read U i a
  read_above U i a j l t = subst (λ x. x ≤ dearest_read U i a) (cond-true (Y.reads i a j) (U j) 0 t) (greatest_above Y.size (λ k. cond (Y.reads i a k) (U k) 0) j l)

  pub read_mono : (U V : ℕ → ℕ) → ((j : ℕ) → j < Y.size → U j ≤ V j) → (i a : ℕ) → dearest_read U i a ≤ dearest_read V i a
  read_mono U V h i a = read_least U i a _ (λ j l t. le_trans (h j l) (read_above V i a j l t))

module _ (S : Scale) (Y : System) where
  abbrev pub way : (ℕ → ℕ) → ℕ → ℕ → ℕ
  way U i a = cond (Y.usable i a) (S.extend (dearest_read Y U i a) (Y.cost a)) S.none

  -- the rules, with 0 at the entries `zeros`
  abbrev pub over : (ℕ → Bool) → (ℕ → ℕ) → ℕ → ℕ
  over zeros U i = cond (zeros i) 0 (least S.none Y.ways (way U i))

  abbrev pub falling : (ℕ → Bool) → ℕ → ℕ → ℕ
  falling zeros zero i = cond (zeros i) 0 S.none
  falling zeros (suc r) i = over zeros (falling zeros r) i

  abbrev pub Holds : (ℕ → Bool) → (ℕ → ℕ) → Type 0
  Holds zeros U = (i : ℕ) → i < Y.size → U i ≡ over zeros U i

  -- how an entry came about
  pub data Met (zeros : ℕ → Bool) (U : ℕ → ℕ) (i : ℕ) : Type 0 where
    at_zero : zeros i ≡ true → over zeros U i ≡ 0 → Met zeros U i
    at_none : over zeros U i ≡ S.none → Met zeros U i
    at_way : (a : ℕ) → a < Y.ways → Y.usable i a ≡ true → over zeros U i ≡ S.extend (dearest_read Y U i a) (Y.cost a) → Met zeros U i

module _ (S : Scale) (Y : System) (zeros : ℕ → Bool) (U : ℕ → ℕ) (i : ℕ) where
  all_ways : ℕ
  all_ways = least S.none Y.ways (way S Y U i)

  pub over_none : over S Y zeros U i ≤ S.none
  over_none = cond_low (zeros i) _ S.none (least_top S.none Y.ways (way S Y U i))

  pub over_first : over S Y zeros U i ≤ falling S Y zeros zero i
  over_first = cond_mono_else (zeros i) _ S.none 0 (least_top S.none Y.ways (way S Y U i))

  pub over_zero : zeros i ≡ true → over S Y zeros U i ≡ 0
  over_zero t = cond-true (zeros i) 0 _ t

  pub over_below : (a : ℕ) → a < Y.ways → Y.usable i a ≡ true → over S Y zeros U i ≤ S.extend (dearest_read Y U i a) (Y.cost a)
  over_below a l t = cond_low (zeros i) _ _ (subst (λ x. least S.none Y.ways (way S Y U i) ≤ x) (cond-true (Y.usable i a) (S.extend (dearest_read Y U i a) (Y.cost a)) S.none t) (least_below S.none Y.ways (way S Y U i) a l))

  pub met : Met S Y zeros U i
  unfolding all_ways
  met = first (cond_ways (zeros i) 0 all_ways) (least_met S.none Y.ways (way S Y U i))
    where
      third : (a : ℕ) → a < Y.ways → over S Y zeros U i ≡ way S Y U i a → ((Y.usable i a ≡ true) × (way S Y U i a ≡ S.extend (dearest_read Y U i a) (Y.cost a))) ⊎ (way S Y U i a ≡ S.none) → Met S Y zeros U i
      third a l e (inl p) = at_way a l p.0 (e ∙ p.1)
      third a l e (inr p) = at_none (e ∙ p)

      second : over S Y zeros U i ≡ all_ways → (all_ways ≡ S.none) ⊎ ((a : ℕ) × (a < Y.ways) × (all_ways ≡ way S Y U i a)) → Met S Y zeros U i
      second e (inl p) = at_none (e ∙ p)
      second e (inr w) = third w.0 w.1 (e ∙ w.2) (cond_ways (Y.usable i w.0) _ S.none)

      first : ((zeros i ≡ true) × (over S Y zeros U i ≡ 0)) ⊎ (over S Y zeros U i ≡ all_ways) → (all_ways ≡ S.none) ⊎ ((a : ℕ) × (a < Y.ways) × (all_ways ≡ way S Y U i a)) → Met S Y zeros U i
      first (inl p) l = at_zero p.0 p.1
      first (inr e) l = second e l

module _ (S : Scale) (L : ScaleLaws S) (Y : System) (zeros : ℕ → Bool) where
  pub over_mono : (U V : ℕ → ℕ) → ((j : ℕ) → j < Y.size → U j ≤ V j) → (i : ℕ) → over S Y zeros U i ≤ over S Y zeros V i
  over_mono U V h i = cond_mono_else (zeros i) _ _ 0 (least_greatest S.none Y.ways (way S Y V i) _ (least_top S.none Y.ways (way S Y U i)) (λ a l. le_trans (least_below S.none Y.ways (way S Y U i) a l) (way_mono a)))
    where
      way_mono : (a : ℕ) → way S Y U i a ≤ way S Y V i a
      way_mono a = cond_mono (Y.usable i a) _ _ S.none (L.keeps_order _ _ (Y.cost a) (read_mono Y U V h i a))

  pub falling_none : (r i : ℕ) → falling S Y zeros r i ≤ S.none
  falling_none zero i = cond_low (zeros i) S.none S.none (le_refl S.none)
  falling_none (suc r) i = over_none S Y zeros (falling S Y zeros r) i

  pub falling_first : (r i : ℕ) → falling S Y zeros r i ≤ falling S Y zeros zero i
  falling_first zero i = le_refl _
  falling_first (suc r) i = over_first S Y zeros (falling S Y zeros r) i

  -- every round is above every table that holds
  pub falling_above : (U : ℕ → ℕ) → Holds S Y zeros U → (r i : ℕ) → i < Y.size → U i ≤ falling S Y zeros r i
  falling_above U h zero i l = rw (h i l) (over_first S Y zeros U i)
  falling_above U h (suc r) i l = rw (h i l) (over_mono U (falling S Y zeros r) (λ j k. falling_above U h r j k) i)

  pub falling_falls : (r i : ℕ) → falling S Y zeros (suc r) i ≤ falling S Y zeros r i
  falling_falls zero i = over_first S Y zeros (falling S Y zeros zero) i
  falling_falls (suc r) i = over_mono (falling S Y zeros (suc r)) (falling S Y zeros r) (λ j k. falling_falls r j) i

  -- what the rules would not lower, up to w, no round gets below
  pub falling_holds_up : (U : ℕ → ℕ) (w : ℕ) → w ≤ S.none → ((i : ℕ) → i < Y.size → U i ≤ falling S Y zeros zero i) → ((i : ℕ) → i < Y.size → min (U i) w ≤ over S Y zeros U i) → (r i : ℕ) → i < Y.size → min (U i) w ≤ falling S Y zeros r i
  falling_holds_up U w top first up zero i l = let p : U i ≤ falling S Y zeros zero i = first i l in omega arith
  falling_holds_up U w top first up (suc r) i l = go (λ j k. falling_holds_up U w top first up r j k) (met S Y zeros (falling S Y zeros r) i)
    where
      G : ℕ → ℕ
      G = falling S Y zeros r

      go : ((j : ℕ) → j < Y.size → min (U j) w ≤ G j) → Met S Y zeros G i → min (U i) w ≤ over S Y zeros G i
      go ih (at_zero t e) =
          let p : min (U i) w ≤ over S Y zeros U i = up i l in
          let z : over S Y zeros U i ≡ 0 = over_zero S Y zeros U i t in
          omega arith
      go ih (at_none e) = omega arith
      go ih (at_way a k u e) = pick (cases_lt (dearest_read Y G i a) w)
        where
          pick : (dearest_read Y G i a < w) ⊎ (w ≤ dearest_read Y G i a) → min (U i) w ≤ over S Y zeros G i
          pick (inl low) =
              let p : min (U i) w ≤ over S Y zeros U i = up i l in
              let q : over S Y zeros U i ≤ S.extend (dearest_read Y U i a) (Y.cost a) = over_below S Y zeros U i a k u in
              let o : dearest_read Y U i a ≤ dearest_read Y G i a = read_least Y U i a _ (λ j d t. let x : min (U j) w ≤ G j = ih j d in let y : G j ≤ dearest_read Y G i a = read_above Y G i a j d t in omega arith) in
              let s : S.extend (dearest_read Y U i a) (Y.cost a) ≤ S.extend (dearest_read Y G i a) (Y.cost a) = L.keeps_order _ _ (Y.cost a) o in
              omega arith
          pick (inr high) =
              let b : dearest_read Y G i a ≤ S.none = read_least Y G i a S.none (λ j d t. falling_none r j) in
              let p : dearest_read Y G i a ≤ S.extend (dearest_read Y G i a) (Y.cost a) = L.rises _ (Y.cost a) b in
              omega arith

-- where none is set makes no difference below it
module _ (top more : ℕ) (o : top ≤ more) (Y : System) (zeros : ℕ → Bool) where
  over_cut : (U V : ℕ → ℕ) → ((j : ℕ) → U j ≡ min top (V j)) → (i : ℕ) → over (added top) Y zeros U i ≡ min top (over (added more) Y zeros V i)
  over_cut U V h i = cond_cut (zeros i) top 0 0 _ _ (omega arith) (least_cut top more Y.ways _ _ o (λ a l. cond_cut (Y.usable i a) top _ _ top more (sums _ _ (Y.cost a) (reads a)) (omega arith)))
    where
      reads : (a : ℕ) → dearest_read Y U i a ≡ min top (dearest_read Y V i a)
      reads a = greatest_cut Y.size top _ _ (λ j l. cond_cut (Y.reads i a j) top _ _ 0 0 (h j) (omega arith))

      sums : (u v c : ℕ) → u ≡ min top v → min top (u + c) ≡ min top (min more (v + c))
      sums u v c e = omega arith

  pub falling_cut : (r i : ℕ) → falling (added top) Y zeros r i ≡ min top (falling (added more) Y zeros r i)
  falling_cut zero i = cond_cut (zeros i) top 0 0 top more (omega arith) (omega arith)
  falling_cut (suc r) i = over_cut (falling (added top) Y zeros r) (falling (added more) Y zeros r) (λ j. falling_cut r j) i
