-- Settling the entries of a table in the order of their costs ends in the largest lawful table.
use Rattle.std.proofs.Common.{◌≡◌, ℕ, zero, suc, ◌<◌, ◌≤◌, min, Bool, true, false, cond, ◌⊎◌, sym, refl, ap, ◌∙◌, subst, inl, inr, ⊎_elim, true≢false, le_trans, le_refl, arith}
use Rattle.std.proofs.lemmas.Bool.{cases_lt, cases_Bool, cond-true, cond-false}
use Rattle.strips.specs.Sets.{inside}
use Rattle.strips.specs.Task.{Task}
use Rattle.heuristics.specs.Scale.{tenths}
use Rattle.heuristics.specs.Smalls.{set_at}
use Rattle.heuristics.specs.Tables.{Table, usable, before, entries, value, by_way, next, least, Lawful, rounds, bound_of}
use Rattle.heuristics.proofs.Folds.{greatest_same, least_below, least_greatest}
use Rattle.heuristics.proofs.Finite.{added_laws}
use Rattle.heuristics.proofs.Facts.{value_least, in_value, rounds_above, cut_off, last_largest}
use Rattle.bounds.specs.Front.{Ready, Entered, Front, Fell, stayed, fell, Lowered}

-- the number that stands for none
abbrev pub none : ℕ
none = 4294967295

-- dearer by an action is no cheaper
rises : (v c : ℕ) → v ≤ none → v ≤ tenths.extend v c
rises v c h = omega arith

module _ (m : ℕ) (t : Task) where
  -- by way of a usable action
  pub by_usable : (T : Table) (i a : ℕ) → usable t.atoms (set_at t.atoms m i) (t.action a) ≡ true → by_way tenths m t T (set_at t.atoms m i) (t.action a) ≡ tenths.extend (value m t T (before (set_at t.atoms m i) (t.action a))) (t.action a).cost
  by_usable T i a u = cond-true (usable t.atoms (set_at t.atoms m i) (t.action a)) _ none u

  -- a lawful table has no more than by way of each action
  lawful_by : (V : Table) → Lawful tenths m t V → (i a : ℕ) → i < entries m t → a < t.actions → usable t.atoms (set_at t.atoms m i) (t.action a) ≡ true → V i ≤ tenths.extend (value m t V (before (set_at t.atoms m i) (t.action a))) (t.action a).cost
  lawful_by V h i a l k u = rw (h i l) (go (inside t.atoms (set_at t.atoms m i) t.start))
    where
      by : least none t.actions (λ b. by_way tenths m t V (set_at t.atoms m i) (t.action b)) ≤ tenths.extend (value m t V (before (set_at t.atoms m i) (t.action a))) (t.action a).cost
      by = subst (λ x. least none t.actions (λ b. by_way tenths m t V (set_at t.atoms m i) (t.action b)) ≤ x) (by_usable V i a u) (least_below none t.actions (λ b. by_way tenths m t V (set_at t.atoms m i) (t.action b)) a k)

      go : (b : Bool) → cond b 0 (least none t.actions (λ b. by_way tenths m t V (set_at t.atoms m i) (t.action b))) ≤ tenths.extend (value m t V (before (set_at t.atoms m i) (t.action a))) (t.action a).cost
      go true = omega arith
      go false = by

  -- where what is not settled costs at least v: either something that is read does, or all of it is settled
  pub unread : (T : Table) (settled : ℕ → Bool) (v : ℕ) → ((i : ℕ) → i < entries m t → settled i ≡ false → v ≤ T i) → (i a : ℕ) → (v ≤ value m t T (before (set_at t.atoms m i) (t.action a))) ⊎ Ready m t settled i a
  unread T settled v high i a = upto (entries m t) (le_refl _)
    where
      reads : ℕ → Bool
      reads j = inside t.atoms (set_at t.atoms m j) (before (set_at t.atoms m i) (t.action a))

      upto : (n : ℕ) → n ≤ entries m t → (v ≤ value m t T (before (set_at t.atoms m i) (t.action a))) ⊎ ((j : ℕ) → j < n → reads j ≡ true → settled j ≡ true)
      upto zero h = inr (λ j k. let z : ⊥ = omega arith in absurd z)
      upto (suc n) h = go (upto n (omega arith)) (cases_Bool (reads n)) (cases_Bool (settled n))
        where
          more : ((j : ℕ) → j < n → reads j ≡ true → settled j ≡ true) → (reads n ≡ true → settled n ≡ true) → (j : ℕ) → j < suc n → reads j ≡ true → settled j ≡ true
          more r g j k y = ⊎_elim (λ d. r j d y) (λ d. let q : j ≡ n = omega arith in subst (λ z. reads z ≡ true → settled z ≡ true) (sym q) g y) (cases_lt j n)

          go : (v ≤ value m t T (before (set_at t.atoms m i) (t.action a))) ⊎ ((j : ℕ) → j < n → reads j ≡ true → settled j ≡ true) → (reads n ≡ true) ⊎ (reads n ≡ false) → (settled n ≡ true) ⊎ (settled n ≡ false) → (v ≤ value m t T (before (set_at t.atoms m i) (t.action a))) ⊎ ((j : ℕ) → j < suc n → reads j ≡ true → settled j ≡ true)
          go (inl p) y z = inl p
          go (inr r) (inl y) (inr z) = inl (le_trans (high n h z) (in_value m t T (before (set_at t.atoms m i) (t.action a)) n h y))
          go (inr r) (inl y) (inl z) = inr (more r (λ _. z))
          go (inr r) (inr y) z = inr (more r (λ g. absurd (true≢false (sym g ∙ y))))

  module _ (settled : ℕ → Bool) (now : ℕ) where
    pub lowered_same : (T : Table) → Lowered m t settled now T T
    lowered_same T i l = stayed refl

    fell_less : (i old new : ℕ) → Fell m t settled now i old new → new ≤ old
    fell_less i old new (stayed e) = omega arith
    fell_less i old new (fell a k u r h e) = h

    pub lowered_then : (T U W : Table) → Lowered m t settled now T U → Lowered m t settled now U W → Lowered m t settled now T W
    lowered_then T U W p q i l = go (q i l)
      where
        go : Fell m t settled now i (U i) (W i) → Fell m t settled now i (T i) (W i)
        go (stayed e) = subst (λ x. Fell m t settled now i (T i) x) (sym e) (p i l)
        go (fell a k u r h e) = fell a k u r (let g = fell_less i (T i) (U i) (p i l) in omega arith) e

    module _ (T U : Table) (top : now ≤ none) (f : Front m t T settled now) (w : Lowered m t settled now T U) where
      pub front_lowered : Front m t U settled now
      front_lowered = record {
        above = λ V h i l. above V h i l (w i l);
        first = λ i l. let g = fell_less i (T i) (U i) (w i l) in let o = f.first i l in le_trans g o;
        low = λ i l e. let g = fell_less i (T i) (U i) (w i l) in let o = f.low i l e in omega arith;
        high = λ i l e. high i l e (w i l);
      }
        where
          above : (V : Table) → Lawful tenths m t V → (i : ℕ) → i < entries m t → Fell m t settled now i (T i) (U i) → V i ≤ U i
          above V h i l (stayed e) = rw e (f.above V h i l)
          above V h i l (fell a k u r g e) =
              let q : value m t V (before (set_at t.atoms m i) (t.action a)) ≤ now = value_least m t V (before (set_at t.atoms m i) (t.action a)) now (λ j d s. le_trans (f.above V h j d) (f.low j d (r j d s))) in
              let p = lawful_by V h i a l k u in
              omega arith

          high : (i : ℕ) → i < entries m t → settled i ≡ false → Fell m t settled now i (T i) (U i) → now ≤ U i
          high i l e (stayed g) = rw g (f.high i l e)
          high i l e (fell a k u r g h) = let p = rises now (t.action a).cost top in omega arith

      -- what is settled does not fall
      pub settled_stays : (i : ℕ) → i < entries m t → settled i ≡ true → U i ≡ T i
      settled_stays i l e = go (w i l)
        where
          go : Fell m t settled now i (T i) (U i) → U i ≡ T i
          go (stayed g) = g
          go (fell a k u r g h) =
              let p = rises now (t.action a).cost top in
              let o = f.low i l e in
              omega arith

      -- so what is entered stays so
      pub entered_stays : (i a : ℕ) → i < entries m t → Ready m t settled i a → Entered m t T i a → Entered m t U i a
      entered_stays i a l r e = le_trans (fell_less i (T i) (U i) (w i l)) (subst (λ x. T i ≤ x) (ap (λ v. cond (usable t.atoms (set_at t.atoms m i) (t.action a)) (tenths.extend v (t.action a).cost) none) same) e)
        where
          same : value m t T (before (set_at t.atoms m i) (t.action a)) ≡ value m t U (before (set_at t.atoms m i) (t.action a))
          same = greatest_same (entries m t) _ _ (λ j d. go j d (cases_Bool (inside t.atoms (set_at t.atoms m j) (before (set_at t.atoms m i) (t.action a)))))
            where
              go : (j : ℕ) → j < entries m t → (inside t.atoms (set_at t.atoms m j) (before (set_at t.atoms m i) (t.action a)) ≡ true) ⊎ (inside t.atoms (set_at t.atoms m j) (before (set_at t.atoms m i) (t.action a)) ≡ false) → cond (inside t.atoms (set_at t.atoms m j) (before (set_at t.atoms m i) (t.action a))) (T j) 0 ≡ cond (inside t.atoms (set_at t.atoms m j) (before (set_at t.atoms m i) (t.action a))) (U j) 0
              go j d (inl s) = ap (λ x. cond (inside t.atoms (set_at t.atoms m j) (before (set_at t.atoms m i) (t.action a))) x 0) (sym (settled_stays j d (r j d s)))
              go j d (inr s) = cond-false _ (T j) 0 s ∙ sym (cond-false _ (U j) 0 s)

    -- an entry that falls by way of an action, where all that is read costs at least `now`, is entered
    pub entered_now : (T : Table) (i a : ℕ) → usable t.atoms (set_at t.atoms m i) (t.action a) ≡ true → now ≤ value m t T (before (set_at t.atoms m i) (t.action a)) → T i ≤ tenths.extend now (t.action a).cost → Entered m t T i a
    entered_now T i a u h l = rw (by_usable T i a u) (omega arith)

    -- where every action that is ready for a set is entered, what is settled is right
    pub front_right : (T : Table) → now ≤ none → Front m t T settled now → ((i a : ℕ) → i < entries m t → a < t.actions → usable t.atoms (set_at t.atoms m i) (t.action a) ≡ true → Ready m t settled i a → Entered m t T i a) → (i : ℕ) → i < entries m t → settled i ≡ true → T i ≡ rounds tenths m t (entries m t) i
    front_right T top f entered i l e =
        let p = cut_off tenths (added_laws none) m t T now top f.above f.first up i l in
        let q = f.above (rounds tenths m t (entries m t)) (last_largest tenths (added_laws none) m t).lawful i l in
        let o = f.low i l e in
        omega arith
      where
        way : (j a : ℕ) → j < entries m t → a < t.actions → min (T j) now ≤ by_way tenths m t T (set_at t.atoms m j) (t.action a)
        way j a d k = go (cases_Bool (usable t.atoms (set_at t.atoms m j) (t.action a)))
          where
            on : usable t.atoms (set_at t.atoms m j) (t.action a) ≡ true → (now ≤ value m t T (before (set_at t.atoms m j) (t.action a))) ⊎ Ready m t settled j a → min (T j) now ≤ by_way tenths m t T (set_at t.atoms m j) (t.action a)
            on u (inl h) = rw (by_usable T j a u) (omega arith)
            on u (inr r) = let h = entered j a d k u r in omega arith

            go : (usable t.atoms (set_at t.atoms m j) (t.action a) ≡ true) ⊎ (usable t.atoms (set_at t.atoms m j) (t.action a) ≡ false) → min (T j) now ≤ by_way tenths m t T (set_at t.atoms m j) (t.action a)
            go (inl u) = on u (unread T settled now f.high j a)
            go (inr u) = rw (cond-false (usable t.atoms (set_at t.atoms m j) (t.action a)) (tenths.extend (value m t T (before (set_at t.atoms m j) (t.action a))) (t.action a).cost) none u) (omega arith)

        up : (j : ℕ) → j < entries m t → min (T j) now ≤ next tenths m t T j
        up j d = go (cases_Bool (inside t.atoms (set_at t.atoms m j) t.start))
          where
            go : (inside t.atoms (set_at t.atoms m j) t.start ≡ true) ⊎ (inside t.atoms (set_at t.atoms m j) t.start ≡ false) → min (T j) now ≤ next tenths m t T j
            go (inl s) =
                let o = f.first j d in
                let z : rounds tenths m t 0 j ≡ 0 = cond-true (inside t.atoms (set_at t.atoms m j) t.start) 0 none s in
                omega arith
            go (inr s) = rw (cond-false (inside t.atoms (set_at t.atoms m j) t.start) 0 (least none t.actions (λ a. by_way tenths m t T (set_at t.atoms m j) (t.action a))) s) (least_greatest none t.actions (λ a. by_way tenths m t T (set_at t.atoms m j) (t.action a)) (min (T j) now) (omega arith) (λ a k. way j a d k))

  -- the sets inside the start settled at 0, and all others none
  pub front_start : (T : Table) (settled : ℕ → Bool) → ((i : ℕ) → i < entries m t → T i ≡ rounds tenths m t 0 i) → ((i : ℕ) → i < entries m t → settled i ≡ true → T i ≡ 0) → Front m t T settled 0
  front_start T settled h z = record {
    above = λ V v i l. rw (h i l) (rounds_above tenths (added_laws none) m t V v 0 i l);
    first = λ i l. rw (h i l) (le_refl _);
    low = λ i l e. let g = z i l e in omega arith;
    high = λ i l e. omega arith;
  }

  -- later on, with everything settled that costs no more
  pub front_later : (T : Table) (settled more : ℕ → Bool) (now later : ℕ) → Front m t T settled now → ((i : ℕ) → i < entries m t → more i ≡ true → T i ≤ later) → ((i : ℕ) → i < entries m t → more i ≡ false → later ≤ T i) → Front m t T more later
  front_later T settled more now later f low high = record { above = f.above; first = f.first; low = low; high = high }

  -- where nothing is left to settle, all is right
  pub front_end : (T : Table) (settled : ℕ → Bool) (now : ℕ) → Front m t T settled now → ((i a : ℕ) → i < entries m t → a < t.actions → usable t.atoms (set_at t.atoms m i) (t.action a) ≡ true → Ready m t settled i a → Entered m t T i a) → ((i : ℕ) → i < entries m t → T i ≤ none) → ((i : ℕ) → i < entries m t → settled i ≡ false → T i ≡ none) → (i : ℕ) → i < entries m t → T i ≡ rounds tenths m t (entries m t) i
  front_end T settled now f entered fits rest i l = front_right (λ _. true) none T (le_refl none) last (λ j a d k u r. all j a d k u (unread T settled none (λ x y z. let e = rest x y z in omega arith) j a)) i l refl
    where
      last : Front m t T (λ _. true) none
      last = front_later T settled (λ _. true) now none f (λ j d e. fits j d) (λ j d e. absurd (true≢false e))

      all : (j a : ℕ) → j < entries m t → a < t.actions → usable t.atoms (set_at t.atoms m j) (t.action a) ≡ true → (none ≤ value m t T (before (set_at t.atoms m j) (t.action a))) ⊎ Ready m t settled j a → Entered m t T j a
      all j a d k u (inl h) = let g = fits j d in rw (by_usable T j a u) (omega arith)
      all j a d k u (inr r) = entered j a d k u r

  -- where the goal's sets are right, its value is the bound
  pub goal_right : (T : Table) → ((i : ℕ) → i < entries m t → inside t.atoms (set_at t.atoms m i) t.goal ≡ true → T i ≡ rounds tenths m t (entries m t) i) → value m t T t.goal ≡ bound_of tenths m t
  goal_right T h = greatest_same (entries m t) _ _ (λ i l. go i l (cases_Bool (inside t.atoms (set_at t.atoms m i) t.goal)))
    where
      go : (i : ℕ) → i < entries m t → (inside t.atoms (set_at t.atoms m i) t.goal ≡ true) ⊎ (inside t.atoms (set_at t.atoms m i) t.goal ≡ false) → cond (inside t.atoms (set_at t.atoms m i) t.goal) (T i) 0 ≡ cond (inside t.atoms (set_at t.atoms m i) t.goal) (rounds tenths m t (entries m t) i) 0
      go i l (inl e) = ap (λ x. cond (inside t.atoms (set_at t.atoms m i) t.goal) x 0) (h i l e)
      go i l (inr e) = cond-false _ (T i) 0 e ∙ sym (cond-false _ (rounds tenths m t (entries m t) i) 0 e)
