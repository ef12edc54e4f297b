-- The compiled task P^m, whose atoms stand for the sets of 1 to m atoms of a task.
use Rattle.std.specs.Prelude.{ℕ, zero, suc, pred, Bool, true, false, cond, not, ◌&&◌, List, [], ◌∷◌, ◌++◌, map, length, ◌≢◌, slice_index_or}
use Rattle.std.proofs.Common.{sym, true≢false, arith}
use Rattle.strips.specs.Sets.{Atoms, nothing, joined, clipped, inside, meets}
use Rattle.strips.specs.Task.{Action, Task, Sound, no_action, small}
use Rattle.strips.specs.Soundness.{trimmed, trimmed_sound}
use Rattle.heuristics.specs.Smalls.{smalls, set_at}

-- the members of a list that pass a test
unfoldable pub kept : {A : Type 0} → (A → Bool) → List A → List A
kept p [] = []
kept p (x ∷ xs) = cond (p x) (x ∷ kept p xs) (kept p xs)

-- the lists f 0, .., f (k - 1), one after another
unfoldable pub flat : {A : Type 0} → ℕ → (ℕ → List A) → List A
flat zero f = []
flat (suc k) f = flat k f ++ f k

-- the numbers of the sets inside B
abbrev pub within : ℕ → ℕ → Atoms → Atoms
within n m B = clipped (length (smalls n m)) (λ i. inside n (set_at n m i) B)

-- those that meet A too
abbrev pub within_meeting : ℕ → ℕ → Atoms → Atoms → Atoms
within_meeting n m B A = clipped (length (smalls n m)) (λ i. inside n (set_at n m i) B && meets n (set_at n m i) A)

-- an action that leaves the atoms of f alone, and takes them along
abbrev pub carrying : ℕ → ℕ → Action → Atoms → Action
carrying n m a f = record {
  needs = within n m (joined a.needs f);
  adds = within_meeting n m (joined a.adds f) a.adds;
  removes = nothing;
  cost = a.cost;
}

-- the sets that an action can take along: those of at most m - 1 atoms that it neither adds nor removes
abbrev pub cargo : ℕ → ℕ → Action → List Atoms
cargo n m a = kept (λ f. not (meets n f a.adds) && not (meets n f a.removes)) (nothing ∷ smalls n (pred m))

-- the compiled task's actions: those of a task's action by the number of what they take along
abbrev pub carriers : ℕ → Task → ℕ → List Action
carriers m t a = map (carrying t.atoms m (t.action a)) (cargo t.atoms m (t.action a))

abbrev pub all_carriers : ℕ → Task → List Action
all_carriers m t = flat t.actions (carriers m t)

-- the compiled task
abbrev pub compiled : ℕ → Task → Task
compiled m t = record {
  atoms = length (smalls t.atoms m);
  actions = length (all_carriers m t);
  action = λ i. slice_index_or (all_carriers m t) i no_action;
  start = within t.atoms m t.start;
  goal = within t.atoms m t.goal;
}

abbrev pub empty_task : Task
empty_task = record { atoms = 0; actions = 0; action = λ _. no_action; start = nothing; goal = nothing }

-- the same, of whatever task: nothing where the task is not small
abbrev pub compiled_task : ℕ → Task → Task
compiled_task m t = cond (small t) (trimmed (compiled m t)) empty_task

pub compiled_sound : (m : ℕ) (t : Task) → Sound (compiled_task m t)
compiled_sound m t = go (small t)
  where
    none : (p : ℕ) → nothing p ≢ true
    none p e = true≢false (sym e)

    go : (b : Bool) → Sound (cond b (trimmed (compiled m t)) empty_task)
    go true = trimmed_sound (compiled m t)
    go false = record {
      atoms_in = omega arith;
      actions_in = omega arith;
      each = λ a. record { needs_in = λ p e. absurd (none p e); adds_in = λ p e. absurd (none p e); removes_in = λ p e. absurd (none p e); apart = λ p e f. none p e; cost_in = omega arith };
      past = λ a l. λ i. no_action;
      start_in = λ p e. absurd (none p e);
      goal_in = λ p e. absurd (none p e);
    }
