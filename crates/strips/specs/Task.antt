-- Planning tasks over atoms (STRIPS), their states and their plans.
use Rattle.std.specs.Prelude.{◌≡◌, ℕ, ◌+◌, ◌<◌, ◌≤◌, Bool, true, ◌&&◌, List, [], ◌∷◌, nat_le}
use Rattle.strips.specs.Sets.{Atoms, nothing, joined, without, inside, Within, Apart}

-- what an action needs, adds, removes and costs, the cost in tenths of a second
pub record Action : Type 0 where
  pub needs : Atoms
  pub adds : Atoms
  pub removes : Atoms
  pub cost : ℕ

-- a task has the atoms below `atoms` and the actions below `actions`
pub record Task : Type 0 where
  pub atoms : ℕ
  pub actions : ℕ
  pub action : ℕ → Action
  pub start : Atoms
  pub goal : Atoms

-- what is answered for a number that is no action's
abbrev pub no_action : Action
no_action = record { needs = nothing; adds = nothing; removes = nothing; cost = 0 }

pub record SoundAction (n : ℕ) (a : Action) : Type 0 where
  pub needs_in : Within n a.needs
  pub adds_in : Within n a.adds
  pub removes_in : Within n a.removes
  pub apart : Apart a.adds a.removes
  pub cost_in : a.cost ≤ 65535

-- what every task that a program can ask keeps to. Numbers out of range are in no set, so two sound tasks that answer
-- alike in range are equal.
pub record Sound (t : Task) : Type 0 where
  pub atoms_in : t.atoms ≤ 2080
  pub actions_in : t.actions ≤ 16640
  pub each : (a : ℕ) → SoundAction t.atoms (t.action a)
  pub past : (a : ℕ) → t.actions ≤ a → t.action a ≡ no_action
  pub start_in : Within t.atoms t.start
  pub goal_in : Within t.atoms t.goal

-- few enough atoms and actions for a file, a row table and a layer
abbrev pub small : Task → Bool
small t = nat_le t.atoms 64 && nat_le t.actions 256

-- an action applies in a state that holds all it needs
abbrev pub applies : Task → Atoms → ℕ → Bool
applies t s a = inside t.atoms (t.action a).needs s

-- the state that it leads to
abbrev pub after : Atoms → Action → Atoms
after s a = joined (without s a.removes) a.adds

-- a plan from a state: its actions apply in turn, and the goal holds at the end
abbrev pub Plan : Task → Atoms → List ℕ → Type 0
Plan t s [] = inside t.atoms t.goal s ≡ true
Plan t s (a ∷ p) = (a < t.actions) × (applies t s a ≡ true) × Plan t (after s (t.action a)) p

abbrev pub plan_cost : Task → List ℕ → ℕ
plan_cost t [] = 0
plan_cost t (a ∷ p) = (t.action a).cost + plan_cost t p
