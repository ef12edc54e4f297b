-- Tables of costs, and the bound h^m that the largest lawful one gives.
use Rattle.std.specs.Prelude.{◌≡◌, ℕ, zero, suc, ◌<◌, ◌≤◌, min, max, Bool, cond, not, ◌&&◌, length, Option}
use Rattle.strips.specs.Sets.{Atoms, joined, without, inside, meets}
use Rattle.strips.specs.Task.{Action, Task}
use Rattle.heuristics.specs.Scale.{Scale, tenths, as_cost}
use Rattle.heuristics.specs.Smalls.{smalls, set_at}

-- the greatest of f 0, .., f (k - 1), and 0
abbrev pub greatest : ℕ → (ℕ → ℕ) → ℕ
greatest zero f = 0
greatest (suc k) f = max (greatest k f) (f k)

-- the least of f 0, .., f (k - 1), and top
abbrev pub least : ℕ → ℕ → (ℕ → ℕ) → ℕ
least top zero f = top
least top (suc k) f = min (least top k f) (f k)

-- an action is usable for c: it adds an atom of c and removes none
abbrev pub usable : ℕ → Atoms → Action → Bool
usable n c a = meets n c a.adds && not (meets n c a.removes)

-- what must hold before it, for c to hold after it
abbrev pub before : Atoms → Action → Atoms
before c a = joined (without c a.adds) a.needs

-- A table has an entry for each set of 1 to m atoms, at the set's number.
abbrev pub Table : Type 0
Table = ℕ → ℕ

abbrev pub entries : ℕ → Task → ℕ
entries m t = length (smalls t.atoms m)

-- the value of B: the greatest entry among the sets of 1 to m atoms inside B
abbrev pub value : ℕ → Task → Table → Atoms → ℕ
value m t T B = greatest (entries m t) (λ i. cond (inside t.atoms (set_at t.atoms m i) B) (T i) 0)

module _ (S : Scale) (m : ℕ) (t : Task) where
  -- what c costs by way of an action
  abbrev pub by_way : Table → Atoms → Action → ℕ
  by_way T c a = cond (usable t.atoms c a) (S.extend (value m t T (before c a)) a.cost) S.none

  -- what the rules make of each entry: 0 inside the start, and else the least by way of any action
  abbrev pub next : Table → Table
  next T i = cond (inside t.atoms (set_at t.atoms m i) t.start) 0 (least S.none t.actions (λ a. by_way T (set_at t.atoms m i) (t.action a)))

  abbrev pub Lawful : Table → Type 0
  Lawful T = (i : ℕ) → i < entries m t → T i ≡ next T i

  pub record Largest (T : Table) : Type 0 where
    pub lawful : Lawful T
    pub above : (U : Table) → Lawful U → (i : ℕ) → i < entries m t → U i ≤ T i

  -- b is the bound: the goal's value in the largest lawful table
  pub record Bound (b : ℕ) : Type 0 where
    pub table : Table
    pub largest : Largest table
    pub is : b ≡ value m t table t.goal

  -- the tables from above, round by round: at first 0 for the sets inside the start, and none for all others
  abbrev pub rounds : ℕ → Table
  rounds zero i = cond (inside t.atoms (set_at t.atoms m i) t.start) 0 S.none
  rounds (suc r) i = next (rounds r) i

  -- the goal's value after as many rounds as there are entries, which is the bound
  abbrev pub bound_of : ℕ
  bound_of = value m t (rounds (entries m t)) t.goal

-- the bound in tenths of a second, or none
abbrev pub bound : ℕ → Task → Option ℕ
bound m t = as_cost tenths (bound_of tenths m t)
