-- The bound over sets of 1 to m atoms is the bound over single atoms of the compiled task.
use Rattle.std.proofs.Common.{◌≡◌, ℕ, zero, suc, pred, ◌+◌, ◌<◌, ◌≤◌, Bool, true, false, cond, not, ◌&&◌, ◌⊎◌, ◌∷◌, length, get_or, sym, refl, ap, ◌∙◌, subst, inl, inr, le_trans, arith}
use mathlib.Core.List.{Memᴰ}
use Rattle.std.proofs.lemmas.Bool.{true≢false, cases_Bool, and_from, and_right, and_parts, or_cases, or_left, or_right, not-true, not_from_true, not_from_false, both_ways, lt-ltb}
use Rattle.strips.specs.Sets.{Atoms, nothing, joined, without, plus, inside, meets}
use Rattle.strips.specs.Task.{Action, Task, no_action}
use Rattle.strips.proofs.Binary.{inside_each, inside_from, meets_from, meets_none, same_test}
use Rattle.heuristics.specs.Scale.{Scale, ScaleLaws}
use Rattle.heuristics.specs.Smalls.{smalls, set_at}
use Rattle.heuristics.specs.Tables.{Table, greatest, usable, before, entries, value, next, Largest, rounds}
use Rattle.heuristics.specs.Compiled.{within, within_meeting, carrying, cargo, carriers, all_carriers, compiled}
use Rattle.heuristics.specs.Theorems.{Proper, first_carrier, Agreement}
use Rattle.heuristics.proofs.Folds.{greatest_same}
use Rattle.heuristics.proofs.Forms.{closed}
use Rattle.heuristics.proofs.System.{System, dearest_read, over, Met, at_zero, at_none, at_way, met, over_below, over_zero, over_none}
use Rattle.heuristics.proofs.Facts.{system, started, value_least, in_value, last_largest, bound_largest}
use Rattle.heuristics.proofs.Listed.{map_mem, mem_kept, kept_holds, flat_mem, mem_getD, mem_at}
use Rattle.heuristics.proofs.Counted.{count, count_less, smalls_count, carried, plus_own, plus_only}
use Rattle.heuristics.proofs.Carriers.{carrier_known, carrier_is}

-- a way of the system Y to the entry i that costs as much as the way a of X, and reads no more
abbrev Match : (ℕ → ℕ) → ℕ → System → System → ℕ → Type 0
Match U i Y X a = (b : ℕ) × (b < Y.ways) × (Y.usable i b ≡ true) × (Y.cost b ≡ X.cost a) × (dearest_read Y U i b ≤ dearest_read X U i a)

-- where each way of X has such a way of Y, the rules of Y give no more than those of X
over_le : (S : Scale) → ScaleLaws S → (Y X : System) (yz xz : ℕ → Bool) (U : ℕ → ℕ) (i : ℕ) → (xz i ≡ true → yz i ≡ true) → ((a : ℕ) → a < X.ways → X.usable i a ≡ true → Match U i Y X a) → over S Y yz U i ≤ over S X xz U i
over_le S L Y X yz xz U i zeros ways = go (met S X xz U i)
  where
    go : Met S X xz U i → over S Y yz U i ≤ over S X xz U i
    go (at_zero t e) = let z : over S Y yz U i ≡ 0 = over_zero S Y yz U i (zeros t) in omega arith
    go (at_none e) = rw e (over_none S Y yz U i)
    go (at_way a l u e) =
        let w : Match U i Y X a = ways a l u in
        let p : over S Y yz U i ≤ S.extend (dearest_read Y U i w.0) (Y.cost w.0) = over_below S Y yz U i w.0 w.1 w.2 in
        let q : S.extend (dearest_read Y U i w.0) (Y.cost w.0) ≤ S.extend (dearest_read X U i a) (Y.cost w.0) = L.keeps_order _ _ (Y.cost w.0) w.4 in
        rw e (subst (λ c. over S Y yz U i ≤ S.extend (dearest_read X U i a) c) w.3 (le_trans p q))

-- sets of one atom
module _ (k i : ℕ) (l : i < k) (B : Atoms) where
  pub inside_single : inside k (set_at k 1 i) B ≡ B i
  inside_single = rw ((closed k).one_at 0 i l) (same_test _ _ (λ h. inside_each k (plus i nothing) B h i l (plus_own i nothing)) (λ h. inside_from k (plus i nothing) B (λ x d u. ap B (plus_only i x u) ∙ h)))

  pub meets_single : meets k (set_at k 1 i) B ≡ B i
  meets_single = rw ((closed k).one_at 0 i l) (go (cases_Bool (B i)))
    where
      go : (B i ≡ true) ⊎ (B i ≡ false) → meets k (plus i nothing) B ≡ B i
      go (inl h) = meets_from k (plus i nothing) B i l (plus_own i nothing) h ∙ sym h
      go (inr h) = meets_none k (plus i nothing) B (λ x d u v. both_ways (B i) h (ap B (sym (plus_only i x u)) ∙ v)) ∙ sym h

-- the compiled task's sets in range
module _ (n m : ℕ) (B : Atoms) (i : ℕ) (l : i < length (smalls n m)) where
  within_at : within n m B i ≡ inside n (set_at n m i) B
  within_at = ap (λ b. b && inside n (set_at n m i) B) (lt-ltb i (length (smalls n m)) l)

  within_meeting_at : (A : Atoms) → within_meeting n m B A i ≡ (inside n (set_at n m i) B && meets n (set_at n m i) A)
  within_meeting_at A = ap (λ b. b && (inside n (set_at n m i) B && meets n (set_at n m i) A)) (lt-ltb i (length (smalls n m)) l)

-- an atom that two sets which meet have in common
meets_at : (n : ℕ) (A B : Atoms) → meets n A B ≡ true → (x : ℕ) × (x < n) × (A x ≡ true) × (B x ≡ true)
unfolding meets
meets_at zero A B t = absurd (true≢false (sym t))
meets_at (suc n) A B t = go (or_cases (meets n A B) (A n && B n) t) (λ q. meets_at n A B q)
  where
    go : (meets n A B ≡ true) ⊎ ((A n && B n) ≡ true) → (meets n A B ≡ true → (x : ℕ) × (x < n) × (A x ≡ true) × (B x ≡ true)) → (x : ℕ) × (x < suc n) × (A x ≡ true) × (B x ≡ true)
    go (inl q) f = let w : (x : ℕ) × (x < n) × (A x ≡ true) × (B x ≡ true) = f q in (w.0, (let l : w.0 < n = w.1 in omega arith), w.2, w.3)
    go (inr q) f = let w = and_parts (A n) (B n) q in (n, omega arith, w.0, w.1)

sizes : (m : ℕ) (t : Task) → entries 1 (compiled m t) ≡ entries m t
sizes m t = (closed (entries m t)).ones

-- In what follows c is the set of number i, and `alone` the set of the compiled task's atom i.
module _ (m : ℕ) (t : Task) (U : Table) (i : ℕ) (l : i < entries m t) where
  abbrev c : Atoms
  c = set_at t.atoms m i

  abbrev alone : Atoms
  alone = set_at (entries m t) 1 i

  -- a way for c is a way of the compiled task that takes along what c has besides
  to_compiled : (a : ℕ) → a < t.actions → usable t.atoms c (t.action a) ≡ true → Match U i (system 1 (compiled m t)) (system m t) a
  to_compiled a known u = (first_carrier m t a + place.0, carrier_known m t a place.0 known place.1, carried_over.0, carried_over.1, carried_over.2)
    where
      n : ℕ
      n = t.atoms

      x : Action
      x = t.action a

      meets_adds : meets n c x.adds ≡ true
      meets_adds = (and_parts (meets n c x.adds) _ u).0

      off_removes : meets n c x.removes ≡ false
      off_removes = not-true _ (and_parts (meets n c x.adds) _ u).1

      few : count n (without c x.adds) ≤ pred m
      few =
          let w : (p : ℕ) × (p < n) × (c p ≡ true) × (x.adds p ≡ true) = meets_at n c x.adds meets_adds in
          let p : count n (without c x.adds) < count n c = count_less n (without c x.adds) c (λ q d h. (and_parts (c q) _ h).0) w.0 w.1 w.2 (and_right (c w.0) _ (not_from_true _ w.3)) in
          let q : count n c ≤ m = smalls_count n m c (mem_getD (smalls n m) i nothing l) in
          omega arith

      picked : (f : Atoms) × Memᴰ f (nothing ∷ smalls n (pred m)) × ((p : ℕ) → p < n → f p ≡ without c x.adds p)
      picked = carried n (pred m) (without c x.adds) few

      f : Atoms
      f = picked.0

      in_f : (p : ℕ) → p < n → f p ≡ true → (c p ≡ true) × (x.adds p ≡ false)
      in_f p d h = let w = and_parts (c p) (not (x.adds p)) (sym (picked.2 p d) ∙ h) in (w.0, not-true _ w.1)

      in_cargo : Memᴰ f (cargo n m x)
      in_cargo = mem_kept (λ g. not (meets n g x.adds) && not (meets n g x.removes)) picked.1 (and_from _ _
          (not_from_false _ (meets_none n f x.adds (λ p d h k. both_ways (x.adds p) (in_f p d h).1 k)))
          (not_from_false _ (meets_none n f x.removes (λ p d h k. both_ways (meets n c x.removes) off_removes (meets_from n c x.removes p d (in_f p d h).0 k)))))

      place : (j : ℕ) × (j < length (cargo n m x)) × (get_or (cargo n m x) j nothing ≡ f)
      place = mem_at nothing in_cargo

      y : Action
      y = carrying n m x f

      added : y.adds i ≡ true
      added = within_meeting_at n m (joined x.adds f) i l x.adds ∙ and_from (inside n c (joined x.adds f)) _ (inside_from n c (joined x.adds f) (λ p d h. pick p d h (cases_Bool (x.adds p)))) meets_adds
        where
          pick : (p : ℕ) → p < n → c p ≡ true → (x.adds p ≡ true) ⊎ (x.adds p ≡ false) → joined x.adds f p ≡ true
          pick p d h (inl q) = or_left (x.adds p) _ q
          pick p d h (inr q) = or_right (x.adds p) _ (picked.2 p d ∙ and_from (c p) _ h (not_from_false _ q))

      read : (j : ℕ) → j < entries m t → inside (entries m t) (set_at (entries m t) 1 j) (before alone y) ≡ true → inside n (set_at n m j) (before c x) ≡ true
      read j k r = pick (or_cases (without alone y.adds j) (y.needs j) (sym (inside_single (entries m t) j k (before alone y)) ∙ r))
        where
          side : (p : ℕ) → p < n → (x.needs p ≡ true) ⊎ (f p ≡ true) → before c x p ≡ true
          side p d (inl g) = or_right (without c x.adds p) _ g
          side p d (inr g) = or_left (without c x.adds p) _ (sym (picked.2 p d) ∙ g)

          pick : (without alone y.adds j ≡ true) ⊎ (y.needs j ≡ true) → inside n (set_at n m j) (before c x) ≡ true
          pick (inl q) =
              let w = and_parts (alone j) (not (y.adds j)) q in
              let e : j ≡ i = plus_only i j (subst (λ A. A j ≡ true) ((closed (entries m t)).one_at 0 i l) w.0) in
              absurd (both_ways (y.adds j) (not-true _ w.1) (ap y.adds e ∙ added))
          pick (inr q) = inside_from n (set_at n m j) (before c x) (λ p d h. side p d (or_cases (x.needs p) (f p) (inside_each n (set_at n m j) (joined x.needs f) (sym (within_at n m (joined x.needs f) j k) ∙ q) p d h)))

      Over : Action → Type 0
      Over z = (usable (entries m t) alone z ≡ true) × (z.cost ≡ x.cost) × (value 1 (compiled m t) U (before alone z) ≤ value m t U (before c x))

      carried_over : Over ((compiled m t).action (first_carrier m t a + place.0))
      carried_over = subst Over (sym (carrier_is m t a place.0 known place.1 ∙ ap (carrying n m x) place.2)) (
        and_from (meets (entries m t) alone y.adds) _ (meets_single (entries m t) i l y.adds ∙ added) (not_from_false _ (meets_single (entries m t) i l nothing)),
        refl,
        value_least 1 (compiled m t) U (before alone y) _ (λ j k r. let d : j < entries m t = rw (sizes m t) at k in in_value m t U (before c x) j d (read j d r)),
      )

  -- and a way of the compiled task is one for c, by the action that takes along
  of_compiled : Proper t → (b : ℕ) → b < (compiled m t).actions → usable (entries m t) alone ((compiled m t).action b) ≡ true → Match U i (system m t) (system 1 (compiled m t)) b
  of_compiled proper b known u =
      let w : (a : ℕ) × (a < t.actions) × Memᴰ z (carriers m t a) = flat_mem t.actions (carriers m t) (mem_getD (all_carriers m t) b no_action known) in
      let v : (f : Atoms) × Memᴰ f (cargo t.atoms m (t.action w.0)) × (z ≡ carrying t.atoms m (t.action w.0) f) = map_mem (carrying t.atoms m (t.action w.0)) (cargo t.atoms m (t.action w.0)) w.2 in
      let o = subst (Under (t.action w.0)) (sym v.2) (go w.0 v.0 v.1 (subst (λ d. usable (entries m t) alone d ≡ true) v.2 u)) in
      (w.0, w.1, o.0, o.1, o.2)
    where
      n : ℕ
      n = t.atoms

      z : Action
      z = (compiled m t).action b

      Under : Action → Action → Type 0
      Under x d = (usable n c x ≡ true) × (x.cost ≡ d.cost) × (value m t U (before c x) ≤ value 1 (compiled m t) U (before alone d))

      go : (a : ℕ) (f : Atoms) → Memᴰ f (cargo n m (t.action a)) → usable (entries m t) alone (carrying n m (t.action a) f) ≡ true → Under (t.action a) (carrying n m (t.action a) f)
      go a f in_cargo v = (
        and_from (meets n c x.adds) _ added.1 (not_from_false _ (meets_none n c x.removes (λ p d h k. clash p d k (held p d h)))),
        refl,
        value_least m t U (before c x) _ (λ j k r. in_value 1 (compiled m t) U (before alone y) j (rw (sizes m t) k) (read j k r)),
      )
        where
          x : Action
          x = t.action a

          y : Action
          y = carrying n m x f

          added : (inside n c (joined x.adds f) ≡ true) × (meets n c x.adds ≡ true)
          added = and_parts (inside n c (joined x.adds f)) (meets n c x.adds) (sym (within_meeting_at n m (joined x.adds f) i l x.adds) ∙ (sym (meets_single (entries m t) i l y.adds) ∙ (and_parts (meets (entries m t) alone y.adds) _ v).0))

          held : (p : ℕ) → p < n → c p ≡ true → (x.adds p ≡ true) ⊎ (f p ≡ true)
          held p d h = or_cases (x.adds p) (f p) (inside_each n c (joined x.adds f) added.0 p d h)

          free : meets n f x.removes ≡ false
          free = not-true _ (and_parts (not (meets n f x.adds)) _ (kept_holds (λ g. not (meets n g x.adds) && not (meets n g x.removes)) (nothing ∷ smalls n (pred m)) in_cargo)).1

          clash : (p : ℕ) → p < n → x.removes p ≡ true → (x.adds p ≡ true) ⊎ (f p ≡ true) → ⊥
          clash p d k (inl q) = proper a p q k
          clash p d k (inr q) = both_ways (meets n f x.removes) free (meets_from n f x.removes p d q k)

          side : (p : ℕ) → p < n → (without c x.adds p ≡ true) ⊎ (x.needs p ≡ true) → joined x.needs f p ≡ true
          side p d (inr g) = or_left (x.needs p) _ g
          side p d (inl g) = pick (held p d (and_parts (c p) _ g).0)
            where
              pick : (x.adds p ≡ true) ⊎ (f p ≡ true) → joined x.needs f p ≡ true
              pick (inl q) = absurd (both_ways (x.adds p) (not-true _ (and_parts (c p) _ g).1) q)
              pick (inr q) = or_right (x.needs p) _ q

          read : (j : ℕ) → j < entries m t → inside n (set_at n m j) (before c x) ≡ true → inside (entries m t) (set_at (entries m t) 1 j) (before alone y) ≡ true
          read j k r = inside_single (entries m t) j k (before alone y) ∙ or_right (without alone y.adds j) _ (within_at n m (joined x.needs f) j k ∙ inside_from n (set_at n m j) (joined x.needs f) (λ p d h. side p d (or_cases (without c x.adds p) (x.needs p) (inside_each n (set_at n m j) (before c x) r p d h))))

  next_same : (S : Scale) → ScaleLaws S → Proper t → next S 1 (compiled m t) U i ≡ next S m t U i
  next_same S L proper =
      let z : started 1 (compiled m t) i ≡ started m t i = inside_single (entries m t) i l (compiled m t).start ∙ within_at t.atoms m t.start i l in
      let p : next S 1 (compiled m t) U i ≤ next S m t U i = over_le S L (system 1 (compiled m t)) (system m t) (started 1 (compiled m t)) (started m t) U i (λ h. z ∙ h) to_compiled in
      let q : next S m t U i ≤ next S 1 (compiled m t) U i = over_le S L (system m t) (system 1 (compiled m t)) (started m t) (started 1 (compiled m t)) U i (λ h. sym z ∙ h) (of_compiled proper) in
      omega arith

-- a set of a task and its numbers in the compiled task have one value
pub compiled_value : (m : ℕ) (t : Task) (U : Table) (B : Atoms) → value 1 (compiled m t) U (within t.atoms m B) ≡ value m t U B
compiled_value m t U B =
    ap (λ k. greatest k (λ j. cond (inside (entries m t) (set_at (entries m t) 1 j) (within t.atoms m B)) (U j) 0)) (sizes m t)
    ∙ greatest_same (entries m t) _ _ (λ j l. ap (λ b. cond b (U j) 0) (inside_single (entries m t) j l (within t.atoms m B) ∙ within_at t.atoms m B j l))

-- a task and the compiled task have the same largest table
pub compiled_largest : (S : Scale) → ScaleLaws S → (m : ℕ) (t : Task) → Proper t → (U : Table) → Largest S m t U → Largest S 1 (compiled m t) U
compiled_largest S L m t proper U h = record {
  lawful = λ i l. let k : i < entries m t = rw (sizes m t) at l in h.lawful i k ∙ sym (next_same m t U i k S L proper);
  above = λ V v i l. h.above V (λ j k. v j (rw (sizes m t) k) ∙ next_same m t V j k S L proper) i (rw (sizes m t) at l);
}

pub agreement : Agreement
agreement S L m t proper = sym (compiled_value m t (rounds S m t (entries m t)) t.goal) ∙ bound_largest S L 1 (compiled m t) (rounds S m t (entries m t)) (compiled_largest S L m t proper (rounds S m t (entries m t)) (last_largest S L m t))
