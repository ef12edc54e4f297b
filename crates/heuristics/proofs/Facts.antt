-- What holds of the tables and the bound of a task.
use Rattle.std.proofs.Common.{◌≡◌, ℕ, zero, suc, ◌+◌, ◌<◌, ◌≤◌, min, Bool, true, false, cond, ◌⊎◌, [], ◌∷◌, sym, refl, ap, ◌∙◌, subst, inl, inr, le_trans, le_refl, suc-add, zero-add, arith}
use Rattle.std.proofs.lemmas.Bool.{cases_Bool, and_from, and_parts, or_cases, not-true, not_from_false, both_ways, cond-true}
use Rattle.strips.specs.Sets.{Atoms, without, inside, meets}
use Rattle.strips.specs.Task.{Action, Task, applies, after}
use Rattle.strips.proofs.Binary.{inside_each, inside_from, meets_from, meets_none}
use Rattle.heuristics.specs.Scale.{Scale, ScaleLaws}
use Rattle.heuristics.specs.Smalls.{set_at}
use Rattle.heuristics.specs.Tables.{Table, usable, before, entries, value, next, Lawful, Largest, rounds, bound_of}
use Rattle.heuristics.specs.Theorems.{Proper, from, RoundsEnd, OneBound, ZeroAtGoal, Consistency, Admissible}
use Rattle.heuristics.proofs.Folds.{greatest_above, greatest_least, greatest_same, cond_within}
use Rattle.heuristics.proofs.System.{System, over_mono, over_zero, falling_above, falling_falls, falling_none, falling_holds_up}
use Rattle.heuristics.proofs.Rounds.{last_holds}
use Rattle.heuristics.proofs.Moved.{moved}

-- the rules of a task's tables, as a system, and the entries that are 0
abbrev pub system : ℕ → Task → System
system m t = record {
  size = entries m t;
  ways = t.actions;
  cost = λ a. (t.action a).cost;
  usable = λ i a. usable t.atoms (set_at t.atoms m i) (t.action a);
  reads = λ i a j. inside t.atoms (set_at t.atoms m j) (before (set_at t.atoms m i) (t.action a));
}

abbrev pub started : ℕ → Task → ℕ → Bool
started m t i = inside t.atoms (set_at t.atoms m i) t.start

-- a set's value is the least number that is at least each entry that it takes in
module _ (m : ℕ) (t : Task) (U : Table) (B : Atoms) where
  pub value_least : (v : ℕ) → ((i : ℕ) → i < entries m t → inside t.atoms (set_at t.atoms m i) B ≡ true → U i ≤ v) → value m t U B ≤ v
  value_least v h = greatest_least (entries m t) _ v (λ i l. cond_within (inside t.atoms (set_at t.atoms m i) B) (U i) v (h i l))

  pub in_value : (i : ℕ) → i < entries m t → inside t.atoms (set_at t.atoms m i) B ≡ true → U i ≤ value m t U B
  in_value i l k = subst (λ x. x ≤ value m t U B) (cond-true (inside t.atoms (set_at t.atoms m i) B) (U i) 0 k) (greatest_above (entries m t) (λ j. cond (inside t.atoms (set_at t.atoms m j) B) (U j) 0) i l)

module _ (S : Scale) (L : ScaleLaws S) (m : ℕ) (t : Task) where
  pub next_keeps_order : (U V : Table) → ((i : ℕ) → i < entries m t → U i ≤ V i) → (i : ℕ) → next S m t U i ≤ next S m t V i
  next_keeps_order U V h i = over_mono S L (system m t) (started m t) U V h i

  -- the rules read a table only at its entries
  next_reads : (U V : Table) → ((i : ℕ) → i < entries m t → U i ≡ V i) → (i : ℕ) → next S m t U i ≡ next S m t V i
  next_reads U V h i =
      let p : next S m t U i ≤ next S m t V i = next_keeps_order U V (λ j k. let e : U j ≡ V j = h j k in omega arith) i in
      let q : next S m t V i ≤ next S m t U i = next_keeps_order V U (λ j k. let e : U j ≡ V j = h j k in omega arith) i in
      omega arith

  pub rounds_above : (U : Table) → Lawful S m t U → (r i : ℕ) → i < entries m t → U i ≤ rounds S m t r i
  rounds_above U h r i l = falling_above S L (system m t) (started m t) U h r i l

  pub last_largest : Largest S m t (rounds S m t (entries m t))
  last_largest = record {
    lawful = last_holds S L (system m t) (started m t);
    above = λ U h i l. rounds_above U h (entries m t) i l;
  }

  later : (r d i : ℕ) → rounds S m t (d + r) i ≤ rounds S m t r i
  later r zero i = rw zero-add (le_refl _)
  later r (suc d) i = rw suc-add (le_trans (falling_falls S L (system m t) (started m t) (d + r) i) (later r d i))

pub rounds_end_lem : RoundsEnd
rounds_end_lem S L m t = record {
  falls = λ r i l. falling_falls S L (system m t) (started m t) r i;
  settled = last_largest S L m t;
  stays = λ r i l.
      let p : rounds S m t (r + entries m t) i ≤ rounds S m t (entries m t) i = later S L m t (entries m t) r i in
      let q : rounds S m t (entries m t) i ≤ rounds S m t (r + entries m t) i = rounds_above S L m t _ (last_largest S L m t).lawful (r + entries m t) i l in
      omega arith;
}

-- a table that the rules would lower nowhere up to w: what it has of at most w is right
pub cut_off : (S : Scale) → ScaleLaws S → (m : ℕ) (t : Task) (U : Table) (w : ℕ) → w ≤ S.none → ((V : Table) → Lawful S m t V → (i : ℕ) → i < entries m t → V i ≤ U i) → ((i : ℕ) → i < entries m t → U i ≤ rounds S m t 0 i) → ((i : ℕ) → i < entries m t → min (U i) w ≤ next S m t U i) → (i : ℕ) → i < entries m t → min (U i) w ≤ rounds S m t (entries m t) i
cut_off S L m t U w top low first up i l = falling_holds_up S L (system m t) (started m t) U w top first up (entries m t) i l

-- a table that the rules would lower nowhere, between the lawful ones and the first round, is the largest
pub held_up : (S : Scale) → ScaleLaws S → (m : ℕ) (t : Task) (U : Table) → ((V : Table) → Lawful S m t V → (i : ℕ) → i < entries m t → V i ≤ U i) → ((i : ℕ) → i < entries m t → U i ≤ rounds S m t 0 i) → ((i : ℕ) → i < entries m t → U i ≤ next S m t U i) → Largest S m t U
held_up S L m t U low first up = record {
  lawful = λ i l. same i l ∙ ((last_largest S L m t).lawful i l ∙ sym (next_reads S L m t U W same i));
  above = low;
}
  where
    W : Table
    W = rounds S m t (entries m t)

    same : (i : ℕ) → i < entries m t → U i ≡ W i
    same i l =
        let p : W i ≤ U i = low W (last_largest S L m t).lawful i l in
        let q : min (U i) S.none ≤ W i = cut_off S L m t U S.none (le_refl _) low first (λ j k. let h : U j ≤ next S m t U j = up j k in omega arith) i l in
        let f : U i ≤ rounds S m t 0 i = first i l in
        let n : rounds S m t 0 i ≤ S.none = falling_none S L (system m t) (started m t) 0 i in
        omega arith

-- two largest tables are equal at every entry
pub same_largest : (S : Scale) (m : ℕ) (t : Task) (U V : Table) → Largest S m t U → Largest S m t V → (i : ℕ) → i < entries m t → U i ≡ V i
same_largest S m t U V u v i l =
    let p : U i ≤ V i = v.above U u.lawful i l in
    let q : V i ≤ U i = u.above V v.lawful i l in
    omega arith

-- tables that are equal at every entry value every set alike
pub same_value : (m : ℕ) (t : Task) (U V : Table) → ((i : ℕ) → i < entries m t → U i ≡ V i) → (B : Atoms) → value m t U B ≡ value m t V B
same_value m t U V h B = greatest_same (entries m t) _ _ (λ i l. ap (λ x. cond (inside t.atoms (set_at t.atoms m i) B) x 0) (h i l))

-- the bound is the goal's value in any largest table
pub bound_largest : (S : Scale) → ScaleLaws S → (m : ℕ) (t : Task) (U : Table) → Largest S m t U → value m t U t.goal ≡ bound_of S m t
bound_largest S L m t U h = same_value m t U (rounds S m t (entries m t)) (same_largest S m t U (rounds S m t (entries m t)) h (last_largest S L m t)) t.goal

pub one_bound : OneBound
one_bound S L m t = (
  record { table = rounds S m t (entries m t); largest = last_largest S L m t; is = refl },
  λ b w. w.is ∙ bound_largest S L m t w.table w.largest,
)

-- where the goal holds, every set inside it is inside the start
pub zero_at_goal : ZeroAtGoal
zero_at_goal S L m t h =
    let p : bound_of S m t ≤ 0 = value_least m t W t.goal 0 low in
    omega arith
  where
    W : Table
    W = rounds S m t (entries m t)

    low : (i : ℕ) → i < entries m t → inside t.atoms (set_at t.atoms m i) t.goal ≡ true → W i ≤ 0
    low i l k =
        let z : next S m t W i ≡ 0 = over_zero S (system m t) (started m t) W i (inside_from t.atoms _ t.start (λ x d g. inside_each t.atoms t.goal t.start h x d (inside_each t.atoms _ t.goal k x d g))) in
        let e : W i ≡ next S m t W i = (last_largest S L m t).lawful i l in
        omega arith

-- a set that holds after an action held before it, or it is usable for the set, and what then must hold before it held
module _ (m : ℕ) (t : Task) (proper : Proper t) (s : Atoms) (a : ℕ) (applied : applies t s a ≡ true) where
  leads : (i : ℕ) → started m (from t (after s (t.action a))) i ≡ true → (started m (from t s) i ≡ true) ⊎ (((system m t).usable i a ≡ true) × ((j : ℕ) → j < entries m t → (system m t).reads i a j ≡ true → started m (from t s) j ≡ true))
  leads i h = go (cases_Bool (meets n c x.adds))
    where
      n : ℕ
      n = t.atoms

      c : Atoms
      c = set_at t.atoms m i

      x : Action
      x = t.action a

      ends : (p : ℕ) → p < n → c p ≡ true → (without s x.removes p ≡ true) ⊎ (x.adds p ≡ true)
      ends p l k = or_cases (without s x.removes p) (x.adds p) (inside_each n c (after s x) h p l k)

      none_removed : meets n c x.removes ≡ false
      none_removed = meets_none n c x.removes (λ p l k r. pick p r (ends p l k))
        where
          pick : (p : ℕ) → x.removes p ≡ true → (without s x.removes p ≡ true) ⊎ (x.adds p ≡ true) → ⊥
          pick p r (inl q) = both_ways (x.removes p) (not-true (x.removes p) (and_parts (s p) _ q).1) r
          pick p r (inr q) = proper a p q r

      held : (p : ℕ) → p < n → (without c x.adds p ≡ true) ⊎ (x.needs p ≡ true) → s p ≡ true
      held p l (inr q) = inside_each n x.needs s applied p l q
      held p l (inl q) = pick (ends p l (and_parts (c p) _ q).0)
        where
          pick : (without s x.removes p ≡ true) ⊎ (x.adds p ≡ true) → s p ≡ true
          pick (inl g) = (and_parts (s p) _ g).0
          pick (inr g) = absurd (both_ways (x.adds p) (not-true (x.adds p) (and_parts (c p) _ q).1) g)

      go : (meets n c x.adds ≡ true) ⊎ (meets n c x.adds ≡ false) → (started m (from t s) i ≡ true) ⊎ (((system m t).usable i a ≡ true) × ((j : ℕ) → j < entries m t → (system m t).reads i a j ≡ true → started m (from t s) j ≡ true))
      go (inl q) = inr (
        and_from (meets n c x.adds) _ q (not_from_false _ none_removed),
        λ j l r. inside_from n (set_at n m j) s (λ p d k. held p d (or_cases (without c x.adds p) (x.needs p) (inside_each n (set_at n m j) (before c x) r p d k))),
      )
      go (inr q) = inl (inside_from n c s (λ p l k. pick p l k (ends p l k)))
        where
          pick : (p : ℕ) → p < n → c p ≡ true → (without s x.removes p ≡ true) ⊎ (x.adds p ≡ true) → s p ≡ true
          pick p l k (inl g) = (and_parts (s p) _ g).0
          pick p l k (inr g) = absurd (both_ways (meets n c x.adds) q (meets_from n c x.adds p l k g))

pub consistency : Consistency
consistency S L m t proper s a known applied = value_least m t U t.goal _ (λ i l k. le_trans (step i l) (L.keeps_order _ _ (t.action a).cost (in_value m t V t.goal i l k)))
  where
    U : Table
    U = rounds S m (from t s) (entries m t)

    V : Table
    V = rounds S m (from t (after s (t.action a))) (entries m t)

    step : (i : ℕ) → i < entries m t → U i ≤ S.extend (V i) (t.action a).cost
    step i l = moved S L (system m t) (started m (from t s)) (started m (from t (after s (t.action a)))) a known (λ j d. leads m t proper s a applied j) U (last_largest S L m (from t s)).lawful (entries m t) i l

pub admissible : Admissible
admissible S L m t proper s [] h = let e : bound_of S m (from t s) ≡ 0 = zero_at_goal S L m (from t s) h in omega arith
admissible S L m t proper s (a ∷ p) h = le_trans (consistency S L m t proper s a h.0 h.1) (L.keeps_order _ _ (t.action a).cost (admissible S L m t proper (after s (t.action a)) p h.2))
