-- The sets that a task has, by name.
use Rattle.std.specs.Prelude.{◌≡◌, ℕ, ◌<◌, ◌≤◌, true, false, ◌⊎◌, List, Some, None, Option, slice_index}
use Rattle.strips.specs.Sets.{Atoms, less}
use Rattle.strips.specs.Bits.{number}
use Rattle.strips.specs.Task.{Task}
use Rattle.strips.specs.declared.part.Part.{Part}
use Rattle.strips.specs.declared.part.Part.TheVariants.{Needs, Adds, Removes, Start, Goal}

abbrev pub part_of : Task → Part → Atoms
part_of t (Needs a) = (t.action a).needs
part_of t (Adds a) = (t.action a).adds
part_of t (Removes a) = (t.action a).removes
part_of t Start = t.start
part_of t Goal = t.goal

-- the first atom of A at or after `from`
abbrev pub FirstFrom : Atoms → ℕ → Option ℕ → Type 0
FirstFrom A from None = (p : ℕ) → from ≤ p → A p ≡ false
FirstFrom A from (Some q) = (from ≤ q) × (A q ≡ true) × ((p : ℕ) → from ≤ p → p < q → A p ≡ false)

-- A, taken apart: its first atom, which is below 64, and the others. The number that stands for them
-- is less, so that a loop over them ends.
pub record Parted (A : Atoms) (p : ℕ) (others : Atoms) : Type 0 where
  pub below : p < 64
  pub is_in : A p ≡ true
  pub is_first : (q : ℕ) → q < p → A q ≡ false
  pub rest : others ≡ less p A
  pub falls : number 64 others < number 64 A

-- the first atoms of A at or after `from`, rising: all of them, or as many as a list of 16 has room for
pub record Listed (A : Atoms) (from count : ℕ) (list : List ℕ) : Type 0 where
  pub few : count ≤ 16
  pub each : (i : ℕ) → i < count → (from ≤ slice_index list i) × (A (slice_index list i) ≡ true)
  pub rising : (i j : ℕ) → i < j → j < count → slice_index list i < slice_index list j
  pub all : (p : ℕ) → from ≤ p → A p ≡ true → ((i : ℕ) × (i < count) × (slice_index list i ≡ p)) ⊎ ((count ≡ 16) × (slice_index list 15 < p))
