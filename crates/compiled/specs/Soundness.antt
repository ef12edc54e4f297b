-- The compiled task of a small task is sound.
use Rattle.std.specs.Prelude.{◌≡◌, ℕ, zero, suc, ◌+◌, ◌-◌, ◌*◌, ◌≤◌, Bool, true, false, cond, not, ◌&&◌, List, [], ◌∷◌, ◌++◌, map, length}
use Rattle.std.proofs.Common.{get_or, sym, ap, ◌∙◌, subst, ⊎_elim, true≢false, suc-mul, mul-le-mul, arith, length-append, get_or-append-add}
use lib.ListN.{length-map, get_or-append, get_or-eq_default}
use Rattle.std.proofs.lemmas.Bool.{cases_lt}
use Rattle.strips.specs.Sets.{Atoms, nothing, meets, Within}
use Rattle.strips.specs.Task.{Action, Task, Sound, SoundAction, no_action}
use Rattle.strips.specs.Soundness.{within_clipped}
use Rattle.heuristics.specs.Smalls.{smalls}
use Rattle.heuristics.proofs.Forms.{closed}
use Rattle.heuristics.specs.Compiled.{kept, flat, carrying, cargo, carriers, all_carriers, compiled}
use Rattle.bounds.specs.Orders.{size_of}
use Rattle.bounds.specs.declared.order.Order.{Order}
use Rattle.bounds.specs.declared.order.Order.TheVariants.{One, Two}

subsets_few : (o : Order) (n : ℕ) → n ≤ 64 → length (smalls n (size_of o)) ≤ 2080
subsets_few One n h = let e = (closed n).ones in omega arith
subsets_few Two n h = let e = (closed n).pairs in let k : n - 1 ≤ 63 = omega arith in let q : n * (n - 1) ≤ 64 * 63 = mul-le-mul h k in omega arith

flat_few : {A : Type 0} (k c : ℕ) (f : ℕ → List A) → ((a : ℕ) → length (f a) ≤ c) → length (flat k f) ≤ k * c
unfolding flat
flat_few zero c f h = omega arith
flat_few (suc k) c f h =
    let r = flat_few k c f h in
    let l = h k in
    let e = length-append (flat k f) (f k) in
    let m = suc-mul k c in
    omega arith

pub flat_each : {A : Type 0} (P : A → Type 0) (d : A) (f : ℕ → List A) → P d → ((a j : ℕ) → P (get_or (f a) j d)) → (k i : ℕ) → P (get_or (flat k f) i d)
unfolding flat
flat_each P d f b h zero i = b
flat_each P d f b h (suc k) i =
    ⊎_elim
    (λ l. subst P (sym (get_or-append (flat k f) (f k) d i l)) (flat_each P d f b h k i))
    (λ (l : length (flat k f) ≤ i).
    let e : length (flat k f) + (i - length (flat k f)) ≡ i = omega arith in
    subst P (sym (get_or-append-add (flat k f) (f k) (i - length (flat k f)) d) ∙ ap (λ z. get_or (flat k f ++ f k) z d) e) (h k (i - length (flat k f))))
    (cases_lt i (length (flat k f)))

pub map_each : {A B : Type 0} (P : B → Type 0) (d : B) (f : A → B) → P d → ((x : A) → P (f x)) → (xs : List A) (j : ℕ) → P (get_or (map f xs) j d)
map_each P d f b h [] j = b
map_each P d f b h (x ∷ xs) zero = h x
map_each P d f b h (x ∷ xs) (suc j) = map_each P d f b h xs j

-- an action can take along nothing, or as many sets as there are of m - 1 atoms at most
kept_few : {A : Type 0} (p : A → Bool) (xs : List A) → length (kept p xs) ≤ length xs
unfolding kept
kept_few p [] = omega arith
kept_few {A} p (x ∷ xs) = go (p x) (kept_few p xs)
  where
    go : (b : Bool) → length (kept p xs) ≤ length xs → length (cond b (x ∷ kept p xs) (kept p xs)) ≤ suc (length xs)
    go true h = omega arith
    go false h = omega arith

carriers_few : (o : Order) (t : Task) → t.atoms ≤ 64 → (a : ℕ) → length (carriers (size_of o) t a) ≤ 65
unfolding smalls
carriers_few o t h a = let l = length-map (cargo t.atoms (size_of o) (t.action a)) (carrying t.atoms (size_of o) (t.action a)) in go o h l
  where
    free : Atoms → Bool
    free f = not (meets t.atoms f (t.action a).adds) && not (meets t.atoms f (t.action a).removes)

    go : (o : Order) → t.atoms ≤ 64 → length (carriers (size_of o) t a) ≡ length (cargo t.atoms (size_of o) (t.action a)) → length (carriers (size_of o) t a) ≤ 65
    go One h l = let k = kept_few free (nothing ∷ []) in omega arith
    go Two h l = let k = kept_few free (nothing ∷ smalls t.atoms 1) in let c = (closed t.atoms).ones in omega arith

pub within_none : (n : ℕ) → Within n nothing
within_none n p e = absurd (true≢false (sym e))

no_action_sound : (n : ℕ) → SoundAction n no_action
no_action_sound n = record { needs_in = within_none n; adds_in = within_none n; removes_in = within_none n; apart = λ p e f. true≢false (sym e); cost_in = omega arith }

carrying_sound : (n m : ℕ) (a : Action) (f : Atoms) → a.cost ≤ 65535 → SoundAction (length (smalls n m)) (carrying n m a f)
carrying_sound n m a f c = record {
  needs_in = within_clipped (length (smalls n m)) _;
  adds_in = within_clipped (length (smalls n m)) _;
  removes_in = within_none (length (smalls n m));
  apart = λ p e g. true≢false (sym g);
  cost_in = c;
}

pub compiled_sound : (o : Order) (t : Task) → Sound t → t.atoms ≤ 64 → t.actions ≤ 256 → Sound (compiled (size_of o) t)
compiled_sound o t s a k = record {
  atoms_in = subsets_few o t.atoms a;
  actions_in = (let r = flat_few t.actions 65 (carriers m t) (λ b. carriers_few o t a b) in omega arith);
  each = flat_each (SoundAction (length (smalls t.atoms m))) no_action (carriers m t) (no_action_sound _) (λ b j. map_each (SoundAction (length (smalls t.atoms m))) no_action (carrying t.atoms m (t.action b)) (no_action_sound _) (λ f. carrying_sound t.atoms m (t.action b) f (s.each b).cost_in) (cargo t.atoms m (t.action b)) j) t.actions;
  past = λ i l. get_or-eq_default (all_carriers m t) no_action l;
  start_in = within_clipped (length (smalls t.atoms m)) _;
  goal_in = within_clipped (length (smalls t.atoms m)) _;
}
  where
    m : ℕ
    m = size_of o
