-- What is proved of tables, bounds and the compiled task, for every m and every scale.
use Rattle.std.specs.Prelude.{◌≡◌, ℕ, zero, suc, ◌+◌, ◌*◌, ◌<◌, ◌≤◌, min, true, List, [], ◌∷◌, length, Some, slice_index_or}
use Rattle.strips.specs.Sets.{Atoms, nothing, inside, Apart}
use Rattle.strips.specs.Task.{Task, Sound, applies, after, Plan, plan_cost}
use Rattle.strips.specs.Layers.{with_errand}
use Rattle.heuristics.specs.Scale.{Scale, ScaleLaws, added}
use Rattle.heuristics.specs.Tables.{Table, entries, Largest, Bound, rounds, bound_of, bound}
use Rattle.heuristics.specs.Compiled.{carrying, cargo, compiled}

-- no action adds and removes one atom
abbrev pub Proper : Task → Type 0
Proper t = (a : ℕ) → Apart (t.action a).adds (t.action a).removes

-- the task from another state
abbrev pub from : Task → Atoms → Task
from t s = with_errand t s t.goal

-- the value of a plan: the actions' costs extend 0, the last one first
abbrev pub plan_value : Scale → Task → List ℕ → ℕ
plan_value S t [] = 0
plan_value S t (a ∷ p) = S.extend (plan_value S t p) (t.action a).cost

-- Added costs are a scale.
abbrev pub AddedScale : Type 0
AddedScale = (top : ℕ) → ScaleLaws (added top)

-- The rounds from above fall to the largest lawful table, in as many rounds as there are entries; every further one alters
-- nothing.
pub record Settling (S : Scale) (m : ℕ) (t : Task) : Type 0 where
  pub falls : (r i : ℕ) → i < entries m t → rounds S m t (suc r) i ≤ rounds S m t r i
  pub settled : Largest S m t (rounds S m t (entries m t))
  pub stays : (r i : ℕ) → i < entries m t → rounds S m t (r + entries m t) i ≡ rounds S m t (entries m t) i

abbrev pub RoundsEnd : Type 0
RoundsEnd = (S : Scale) → ScaleLaws S → (m : ℕ) (t : Task) → Settling S m t

-- The bound exists, and there is one.
abbrev pub OneBound : Type 0
OneBound = (S : Scale) → ScaleLaws S → (m : ℕ) (t : Task) → Bound S m t (bound_of S m t) × ((b : ℕ) → Bound S m t b → b ≡ bound_of S m t)

-- Where no action costs more than `dearest`, an entry of the largest table that is not none is at most `dearest` times the
-- number of entries.
abbrev pub FiniteEntries : Type 0
FiniteEntries = (top m : ℕ) (t : Task) (dearest : ℕ) → ((a : ℕ) → a < t.actions → (t.action a).cost ≤ dearest) → (U : Table) → Largest (added top) m t U → (i : ℕ) → i < entries m t → U i < top → U i ≤ entries m t * dearest

-- Where none is set makes no difference below it.
abbrev pub AnyTop : Type 0
AnyTop = (top more m : ℕ) (t : Task) → top ≤ more → bound_of (added top) m t ≡ min top (bound_of (added more) m t)

-- The bound over sets of 1 to m atoms is the bound over single atoms of the compiled task.
abbrev pub Agreement : Type 0
Agreement = (S : Scale) → ScaleLaws S → (m : ℕ) (t : Task) → Proper t → bound_of S m t ≡ bound_of S 1 (compiled m t)

-- Where the goal holds the bound is 0.
abbrev pub ZeroAtGoal : Type 0
ZeroAtGoal = (S : Scale) → ScaleLaws S → (m : ℕ) (t : Task) → inside t.atoms t.goal t.start ≡ true → bound_of S m t ≡ 0

-- An action that applies lowers the bound by its cost at most.
abbrev pub Consistency : Type 0
Consistency = (S : Scale) → ScaleLaws S → (m : ℕ) (t : Task) → Proper t → (s : Atoms) (a : ℕ) → a < t.actions → applies t s a ≡ true → bound_of S m (from t s) ≤ S.extend (bound_of S m (from t (after s (t.action a)))) (t.action a).cost

-- No plan is cheaper than the bound.
abbrev pub Admissible : Type 0
Admissible = (S : Scale) → ScaleLaws S → (m : ℕ) (t : Task) → Proper t → (s : Atoms) (p : List ℕ) → Plan t s p → bound_of S m (from t s) ≤ plan_value S t p

-- The same in tenths of a second, for tables of at most 2,080 entries.
pub record Estimates (m : ℕ) (t : Task) : Type 0 where
  -- no cost is above 2,080 times the dearest action
  pub finite : (s : Atoms) (c : ℕ) → bound m (from t s) ≡ Some c → c ≤ 136312800
  pub zero_at_goal : (s : Atoms) → inside t.atoms t.goal s ≡ true → bound m (from t s) ≡ Some 0
  pub consistent : (s : Atoms) (a e : ℕ) → a < t.actions → applies t s a ≡ true → bound m (from t (after s (t.action a))) ≡ Some e → (c : ℕ) × (bound m (from t s) ≡ Some c) × (c ≤ (t.action a).cost + e)
  -- where there is a plan the bound is a cost, and at most the plan's
  pub never_above : (s : Atoms) (p : List ℕ) → Plan t s p → (c : ℕ) × (bound m (from t s) ≡ Some c) × (c ≤ plan_cost t p)

abbrev pub BoundsEstimate : Type 0
BoundsEstimate = (m : ℕ) (t : Task) → Sound t → entries m t ≤ 2080 → Estimates m t

-- The compiled task's actions stand by action, and among those of one action by what they take along.
abbrev pub first_carrier : ℕ → Task → ℕ → ℕ
first_carrier m t zero = 0
first_carrier m t (suc a) = first_carrier m t a + length (cargo t.atoms m (t.action a))

abbrev pub CarriersStand : Type 0
CarriersStand = (m : ℕ) (t : Task) (a j : ℕ) → a < t.actions → j < length (cargo t.atoms m (t.action a)) → (compiled m t).action (first_carrier m t a + j) ≡ carrying t.atoms m (t.action a) (slice_index_or (cargo t.atoms m (t.action a)) j nothing)
