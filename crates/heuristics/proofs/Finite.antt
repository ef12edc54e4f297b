-- Costs that are added up: how high they get, and where they count as none.
use Rattle.std.proofs.Common.{◌≡◌, ℕ, zero, suc, ◌+◌, ◌*◌, ◌<◌, ◌≤◌, min, Bool, true, false, cond, ltb, ◌⊎◌, List, [], ◌∷◌, Some, None, refl, ap, inl, inr, le_refl, suc-mul, arith}
use Rattle.std.proofs.lemmas.Bool.{ltb-true, lt-ltb}
use Rattle.strips.specs.Sets.{Atoms, inside}
use Rattle.strips.specs.Task.{Task, Sound, applies, after, Plan, plan_cost}
use Rattle.heuristics.specs.Scale.{added, tenths, as_cost}
use Rattle.heuristics.specs.Smalls.{set_at}
use Rattle.heuristics.specs.Tables.{entries, rounds, bound_of, bound}
use Rattle.heuristics.specs.Theorems.{from, AddedScale, FiniteEntries, AnyTop, Proper, Estimates, BoundsEstimate}
use Rattle.heuristics.proofs.Folds.{greatest_cut, cond_ways, cond_cut}
use Rattle.heuristics.proofs.System.{System, dearest_read, over, falling, Met, at_zero, at_none, at_way, met, read_least, read_above, falling_cut}
use Rattle.heuristics.proofs.Facts.{system, started, last_largest, same_largest, value_least, in_value, zero_at_goal, consistency}

pub added_laws : AddedScale
added_laws top = record {
  rises = λ v c h. omega arith;
  keeps_order = λ u v c h. omega arith;
  swaps = λ v c d. omega arith;
  none_stays = λ c. omega arith;
}

-- a round that comes to a cost adds up at most one action for each round
module _ (top : ℕ) (Y : System) (zeros : ℕ → Bool) (dearest : ℕ) (dear : (a : ℕ) → a < Y.ways → Y.cost a ≤ dearest) where
  round_low : (r i : ℕ) → falling (added top) Y zeros r i < top → falling (added top) Y zeros r i ≤ r * dearest
  round_low zero i h = go (cond_ways (zeros i) 0 top)
    where
      go : ((zeros i ≡ true) × (falling (added top) Y zeros zero i ≡ 0)) ⊎ (falling (added top) Y zeros zero i ≡ top) → falling (added top) Y zeros zero i ≤ 0 * dearest
      go (inl p) = let e : falling (added top) Y zeros zero i ≡ 0 = p.1 in omega arith
      go (inr p) = absurd (omega arith)
  round_low (suc r) i h = go (λ j p. round_low r j p) (met (added top) Y zeros (falling (added top) Y zeros r) i)
    where
      V : ℕ → ℕ
      V = falling (added top) Y zeros r

      go : ((j : ℕ) → V j < top → V j ≤ r * dearest) → Met (added top) Y zeros V i → over (added top) Y zeros V i ≤ suc r * dearest
      go ih (at_zero t e) = omega arith
      go ih (at_none e) = absurd (omega arith)
      go ih (at_way a l u e) =
          let d : Y.cost a ≤ dearest = dear a l in
          let f : over (added top) Y zeros V i ≡ min top (dearest_read Y V i a + Y.cost a) = e in
          let q : dearest_read Y V i a ≤ r * dearest = read_least Y V i a (r * dearest) (λ j k t. ih j (let o : V j ≤ dearest_read Y V i a = read_above Y V i a j k t in omega arith)) in
          let s : suc r * dearest ≡ r * dearest + dearest = suc-mul r dearest in
          omega arith

pub finite_entries : FiniteEntries
finite_entries top m t dearest dear U u i l h =
    let e : U i ≡ rounds (added top) m t (entries m t) i = same_largest (added top) m t U (rounds (added top) m t (entries m t)) u (last_largest (added top) (added_laws top) m t) i l in
    rw e (round_low top (system m t) (started m t) dearest dear (entries m t) i (rw e at h))

pub any_top : AnyTop
any_top top more m t o = greatest_cut (entries m t) top _ _ (λ i l. cond_cut (inside t.atoms (set_at t.atoms m i) t.goal) top _ _ 0 0 (falling_cut top more o (system m t) (started m t) (entries m t) i) (omega arith))

-- a value is a cost where it is below none
as_some : (v c : ℕ) → as_cost tenths v ≡ Some c → (v < 4294967295) × (v ≡ c)
as_some v c e = go (ltb v 4294967295) (ltb-true v 4294967295) e
  where
    go : (b : Bool) → (b ≡ true → v < 4294967295) → cond b (Some v) None ≡ Some c → (v < 4294967295) × (v ≡ c)
    go true f q = (f refl, cc)
    go false f q = let z : ◌≡◌ {A = ℕ} 0 1 = cc in absurd (omega arith)

some_as : (v : ℕ) → v < 4294967295 → as_cost tenths v ≡ Some v
some_as v h = ap (λ b. cond b (Some v) None) (lt-ltb v 4294967295 h)

module _ (m : ℕ) (t : Task) (sound : Sound t) (few : entries m t ≤ 2080) where
  proper : Proper t
  proper a = (sound.each a).apart

  low : (s : Atoms) → bound_of tenths m (from t s) < 4294967295 → bound_of tenths m (from t s) ≤ 136312800
  low s h = value_least m t (rounds tenths m (from t s) (entries m t)) t.goal 136312800 each
    where
      each : (i : ℕ) → i < entries m t → inside t.atoms (set_at t.atoms m i) t.goal ≡ true → rounds tenths m (from t s) (entries m t) i ≤ 136312800
      each i l k =
          let p : rounds tenths m (from t s) (entries m t) i ≤ bound_of tenths m (from t s) = in_value m (from t s) (rounds tenths m (from t s) (entries m t)) t.goal i l k in
          let q : rounds tenths m (from t s) (entries m t) i ≤ entries m t * 65535 = round_low 4294967295 (system m t) (started m (from t s)) 65535 (λ a k. (sound.each a).cost_in) (entries m t) i (omega arith) in
          omega arith

  finite : (s : Atoms) (c : ℕ) → bound m (from t s) ≡ Some c → c ≤ 136312800
  finite s c e =
      let w : (bound_of tenths m (from t s) < 4294967295) × (bound_of tenths m (from t s) ≡ c) = as_some (bound_of tenths m (from t s)) c e in
      let p : bound_of tenths m (from t s) ≤ 136312800 = low s w.0 in
      let q : bound_of tenths m (from t s) ≡ c = w.1 in
      omega arith

  at_goal : (s : Atoms) → inside t.atoms t.goal s ≡ true → bound m (from t s) ≡ Some 0
  at_goal s h = ap (as_cost tenths) (zero_at_goal tenths (added_laws 4294967295) m (from t s) h)

  steady : (s : Atoms) (a e : ℕ) → a < t.actions → applies t s a ≡ true → bound m (from t (after s (t.action a))) ≡ Some e → (c : ℕ) × (bound m (from t s) ≡ Some c) × (c ≤ (t.action a).cost + e)
  steady s a e known applied h =
      let s' : Atoms = after s (t.action a) in
      let w : bound_of tenths m (from t s') ≡ e = (as_some (bound_of tenths m (from t s')) e h).1 in
      let f : e ≤ 136312800 = finite s' e h in
      let d : (t.action a).cost ≤ 65535 = (sound.each a).cost_in in
      let p : bound_of tenths m (from t s) ≤ min 4294967295 (bound_of tenths m (from t s') + (t.action a).cost) = consistency tenths (added_laws 4294967295) m t proper s a known applied in
      (bound_of tenths m (from t s), some_as (bound_of tenths m (from t s)) (omega arith), omega arith)

  -- from the goal back, action by action
  under_plan : (s : Atoms) (p : List ℕ) → Plan t s p → (c : ℕ) × (bound m (from t s) ≡ Some c) × (c ≤ plan_cost t p)
  under_plan s [] h = (0, at_goal s h, le_refl 0)
  under_plan s (a ∷ p) h =
      let w : (e : ℕ) × (bound m (from t (after s (t.action a))) ≡ Some e) × (e ≤ plan_cost t p) = under_plan (after s (t.action a)) p h.2 in
      let v : (c : ℕ) × (bound m (from t s) ≡ Some c) × (c ≤ (t.action a).cost + w.0) = steady s a w.0 h.0 h.1 w.1 in
      let x : w.0 ≤ plan_cost t p = w.2 in
      let y : v.0 ≤ (t.action a).cost + w.0 = v.2 in
      (v.0, v.1, omega arith)

  estimates : Estimates m t
  estimates = record { finite = finite; zero_at_goal = at_goal; consistent = steady; never_above = under_plan }

pub bounds_estimate : BoundsEstimate
bounds_estimate = estimates
