-- What is known of a table of costs while its entries are settled in the order of their costs.
use Rattle.std.specs.Prelude.{◌≡◌, ℕ, ◌<◌, ◌≤◌, Bool, true, false}
use Rattle.strips.specs.Sets.{inside}
use Rattle.strips.specs.Task.{Task}
use Rattle.heuristics.specs.Scale.{tenths}
use Rattle.heuristics.specs.Smalls.{set_at}
use Rattle.heuristics.specs.Tables.{Table, usable, before, entries, by_way, Lawful, rounds}

-- all entries that the set i reads by way of an action are settled
abbrev pub Ready : ℕ → Task → (ℕ → Bool) → ℕ → ℕ → Type 0
Ready m t settled i a = (j : ℕ) → j < entries m t → inside t.atoms (set_at t.atoms m j) (before (set_at t.atoms m i) (t.action a)) ≡ true → settled j ≡ true

-- the entry of the set i is at most what it is by way of an action
abbrev pub Entered : ℕ → Task → Table → ℕ → ℕ → Type 0
Entered m t T i a = T i ≤ by_way tenths m t T (set_at t.atoms m i) (t.action a)

-- a table above every lawful one, with 0 inside the start, whose settled entries are at most `now` and the others at least
pub record Front (m : ℕ) (t : Task) (T : Table) (settled : ℕ → Bool) (now : ℕ) : Type 0 where
  pub above : (V : Table) → Lawful tenths m t V → (i : ℕ) → i < entries m t → V i ≤ T i
  pub first : (i : ℕ) → i < entries m t → T i ≤ rounds tenths m t 0 i
  pub low : (i : ℕ) → i < entries m t → settled i ≡ true → T i ≤ now
  pub high : (i : ℕ) → i < entries m t → settled i ≡ false → now ≤ T i

-- an entry stays, or falls at the time `now` by way of an action that is ready for it
pub data Fell (m : ℕ) (t : Task) (settled : ℕ → Bool) (now : ℕ) (i old new : ℕ) : Type 0 where
  stayed : new ≡ old → Fell m t settled now i old new
  fell : (a : ℕ) → a < t.actions → usable t.atoms (set_at t.atoms m i) (t.action a) ≡ true → Ready m t settled i a → new ≤ old → new ≡ tenths.extend now (t.action a).cost → Fell m t settled now i old new

abbrev pub Lowered : ℕ → Task → (ℕ → Bool) → ℕ → Table → Table → Type 0
Lowered m t settled now T U = (i : ℕ) → i < entries m t → Fell m t settled now i (T i) (U i)
