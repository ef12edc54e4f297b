-- That the tasks of layers are sound, which their ghost members cite, and how any task is made sound.
use Rattle.std.specs.Prelude.{◌≡◌, ℕ, min, Bool, true, false, cond, not, ◌&&◌, ◌≢◌, nat_lt}
use Rattle.std.proofs.Common.{sym, ap, true≢false, arith, ltb-true, le-ltb}
use Rattle.std.proofs.Math.Nat.{min-le_right}
use Rattle.std.proofs.lemmas.Bool.{and_parts}
use Rattle.strips.specs.Sets.{Atoms, nothing, without, clipped, Within}
use Rattle.strips.specs.Task.{Action, Task, Sound, SoundAction, no_action}
use Rattle.strips.specs.Layers.{with_errand, errand_task, with_closures, idle}

pub within_clipped : (n : ℕ) (A : Atoms) → Within n (clipped n A)
within_clipped n A p h = ltb-true p n (and_parts (nat_lt p n) (A p) h).0

within_nothing : (n : ℕ) → Within n nothing
within_nothing n p e = absurd (true≢false (sym e))

pub errand_within : (t : Task) → Sound t → (s g : Atoms) → Within t.atoms s → Within t.atoms g → Sound (with_errand t s g)
errand_within t h s g start_in goal_in = record {
  atoms_in = h.atoms_in;
  actions_in = h.actions_in;
  each = h.each;
  past = h.past;
  start_in = start_in;
  goal_in = goal_in;
}

pub errand_sound : (t : Task) → Sound t → (s g : Atoms) → Sound (errand_task t s g)
errand_sound t h s g = errand_within t h (clipped t.atoms s) (clipped t.atoms g) (within_clipped t.atoms s) (within_clipped t.atoms g)

idle_sound : (n : ℕ) (a : Action) → SoundAction n a → SoundAction n (idle a)
idle_sound n a h = record {
  needs_in = h.needs_in;
  adds_in = within_nothing n;
  removes_in = within_nothing n;
  apart = λ p e f. true≢false (sym e);
  cost_in = h.cost_in;
}

pub closures_sound : (t : Task) → Sound t → (closed : ℕ → Bool) → Sound (with_closures t closed)
closures_sound t h closed = record {
  atoms_in = h.atoms_in;
  actions_in = h.actions_in;
  each = λ a. each (closed a) (t.action a) (h.each a);
  past = λ a l. past (closed a) (t.action a) (h.past a l);
  start_in = h.start_in;
  goal_in = h.goal_in;
}
  where
    each : (b : Bool) (a : Action) → SoundAction t.atoms a → SoundAction t.atoms (cond b (idle a) a)
    each true a s = idle_sound t.atoms a s
    each false a s = s

    past : (b : Bool) (a : Action) → a ≡ no_action → cond b (idle a) a ≡ no_action
    past true a e = ap idle e
    past false a e = e

-- Any task made sound: what is out of range is left out, and an atom that is added is not removed. A sound task stays
-- as it is.
abbrev pub trimmed_action : ℕ → Action → Action
trimmed_action n a = record { needs = clipped n a.needs; adds = clipped n a.adds; removes = clipped n (without a.removes a.adds); cost = min a.cost 65535 }

abbrev pub trimmed : Task → Task
trimmed t = record {
  atoms = min t.atoms 2080;
  actions = min t.actions 16640;
  action = λ a. cond (nat_lt a (min t.actions 16640)) (trimmed_action (min t.atoms 2080) (t.action a)) no_action;
  start = clipped (min t.atoms 2080) t.start;
  goal = clipped (min t.atoms 2080) t.goal;
}

pub no_action_sound : (n : ℕ) → SoundAction n no_action
no_action_sound n = record {
  needs_in = within_nothing n;
  adds_in = within_nothing n;
  removes_in = within_nothing n;
  apart = λ p e f. true≢false (sym e);
  cost_in = omega arith;
}

trimmed_action_sound : (n : ℕ) (a : Action) → SoundAction n (trimmed_action n a)
trimmed_action_sound n a = record {
  needs_in = within_clipped n a.needs;
  adds_in = within_clipped n a.adds;
  removes_in = within_clipped n (without a.removes a.adds);
  apart = λ p e f. clash (a.adds p) (a.removes p) (and_parts (nat_lt p n) (a.adds p) e).1 (and_parts (nat_lt p n) (without a.removes a.adds p) f).1;
  cost_in = min-le_right a.cost 65535;
}
  where
    clash : (x y : Bool) → x ≡ true → (y && not x) ≢ true
    clash true true e f = true≢false (sym f)
    clash true false e f = true≢false (sym f)
    clash false y e f = true≢false (sym e)

pub trimmed_sound : (t : Task) → Sound (trimmed t)
trimmed_sound t = record {
  atoms_in = min-le_right t.atoms 2080;
  actions_in = min-le_right t.actions 16640;
  each = λ a. each (nat_lt a (min t.actions 16640)) (t.action a);
  past = λ a l. ap (λ b. cond b (trimmed_action (min t.atoms 2080) (t.action a)) no_action) (le-ltb a (min t.actions 16640) l);
  start_in = within_clipped (min t.atoms 2080) t.start;
  goal_in = within_clipped (min t.atoms 2080) t.goal;
}
  where
    each : (b : Bool) (a : Action) → SoundAction (min t.atoms 2080) (cond b (trimmed_action (min t.atoms 2080) a) no_action)
    each true a = trimmed_action_sound (min t.atoms 2080) a
    each false a = no_action_sound (min t.atoms 2080)
