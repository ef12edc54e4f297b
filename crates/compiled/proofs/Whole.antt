-- The trimmed compiled task of a small task is the compiled task: trimming leaves a sound task as it is.
use Rattle.std.proofs.Common.{◌≡◌, ℕ, ◌<◌, ◌≤◌, min, Bool, true, false, cond, not, ◌&&◌, ltb, ◌⊎◌, sym, refl, ap, ◌∙◌, inl, inr, ⊎_elim, arith, le-ltb, lt-ltb}
use Rattle.std.proofs.lemmas.Bool.{cases_lt, cases_Bool}
use Rattle.strips.specs.Sets.{Atoms, nothing, without, clipped, Within, Apart}
use Rattle.strips.specs.Task.{Action, Task, Sound, SoundAction, no_action, small}
use Rattle.strips.specs.Parts.{part_of}
use Rattle.strips.specs.declared.part.Part.{Part}
use Rattle.strips.specs.declared.part.Part.TheVariants.{Needs, Adds, Removes, Start, Goal}
use Rattle.strips.specs.Soundness.{trimmed, trimmed_action}
use Rattle.strips.proofs.Members.{same_atoms, clipped_within}
use Rattle.strips.proofs.Layered.{small_parts}
use Rattle.bounds.specs.Orders.{size_of}
use Rattle.bounds.specs.declared.order.Order.{Order}
use Rattle.heuristics.specs.Compiled.{compiled, compiled_task, empty_task}
use Rattle.compiled.specs.Soundness.{compiled_sound}

-- A SOUND TASK IS NOT TRIMMED -----------------------------------------------

min_same : (a b : ℕ) → a ≤ b → min a b ≡ a
min_same a b h = omega arith

apart_same : (n : ℕ) (A B : Atoms) → Within n B → Apart A B → clipped n (without B A) ≡ B
apart_same n A B w d = same_atoms (clipped n (without B A)) B (λ p. go p (cases_Bool (B p)))
  where
    off : (x : Bool) → (x && false) ≡ false
    off true = refl
    off false = refl

    go : (p : ℕ) → (B p ≡ true) ⊎ (B p ≡ false) → (ltb p n && (B p && not (A p))) ≡ B p
    go p (inl e) = rw (lt-ltb p n (w p e), e) (⊎_elim (λ f. absurd (d p f e)) (λ f. ap not f) (cases_Bool (A p)))
    go p (inr e) = rw e (off (ltb p n))

action_same : (n : ℕ) (a : Action) → SoundAction n a → trimmed_action n a ≡ a
action_same n a s = λ i. record {
  needs = clipped_within n a.needs s.needs_in i;
  adds = clipped_within n a.adds s.adds_in i;
  removes = apart_same n a.adds a.removes s.removes_in s.apart i;
  cost = min_same a.cost 65535 s.cost_in i;
}

trimmed_same : (u : Task) → Sound u → trimmed u ≡ u
trimmed_same u s = λ i. record {
  atoms = atoms_same i;
  actions = actions_same i;
  action = λ a. each a i;
  start = start_same i;
  goal = goal_same i;
}
  where
    atoms_same : min u.atoms 2080 ≡ u.atoms
    atoms_same = min_same u.atoms 2080 s.atoms_in

    actions_same : min u.actions 16640 ≡ u.actions
    actions_same = min_same u.actions 16640 s.actions_in

    start_same : clipped (min u.atoms 2080) u.start ≡ u.start
    start_same = ap (λ n. clipped n u.start) atoms_same ∙ clipped_within u.atoms u.start s.start_in

    goal_same : clipped (min u.atoms 2080) u.goal ≡ u.goal
    goal_same = ap (λ n. clipped n u.goal) atoms_same ∙ clipped_within u.atoms u.goal s.goal_in

    go : (a : ℕ) → (a < u.actions) ⊎ (u.actions ≤ a) → cond (ltb a u.actions) (trimmed_action u.atoms (u.action a)) no_action ≡ u.action a
    go a (inl l) = rw (lt-ltb a u.actions l) (action_same u.atoms (u.action a) (s.each a))
    go a (inr l) = rw (le-ltb a u.actions l) (sym (s.past a l))

    each : (a : ℕ) → cond (ltb a (min u.actions 16640)) (trimmed_action (min u.atoms 2080) (u.action a)) no_action ≡ u.action a
    each a = ap (λ k. cond (ltb a k) (trimmed_action (min u.atoms 2080) (u.action a)) no_action) actions_same
        ∙ (ap (λ n. cond (ltb a u.actions) (trimmed_action n (u.action a)) no_action) atoms_same ∙ go a (cases_lt a u.actions))

-- THE COMPILED TASK IS NOT TRIMMED ------------------------------------------

pub compiled_whole : (o : Order) (t : Task) → Sound t → small t ≡ true → compiled_task (size_of o) t ≡ compiled (size_of o) t
compiled_whole o t s e =
    let h = small_parts t e in
    ap (λ b. cond b (trimmed (compiled (size_of o) t)) empty_task) e ∙ trimmed_same (compiled (size_of o) t) (compiled_sound o t s h.0 h.1)

pub compiled_none : (m : ℕ) (t : Task) → small t ≡ false → compiled_task m t ≡ empty_task
compiled_none m t e = ap (λ b. cond b (trimmed (compiled m t)) empty_task) e

pub part_none : (m : ℕ) (t : Task) → small t ≡ false → (x : Part) → part_of (compiled_task m t) x ≡ nothing
part_none m t e x = ap (λ u. part_of u x) (compiled_none m t e) ∙ go x
  where
    go : (x : Part) → part_of empty_task x ≡ nothing
    go (Needs a) = refl
    go (Adds a) = refl
    go (Removes a) = refl
    go Start = refl
    go Goal = refl
