-- Which actions need an atom.
use Rattle.std.specs.Prelude.{◌≡◌, ℕ, ◌+◌, ◌*◌, ◌<◌, ◌&&◌, ◌||◌, List, [], ◌==◌, slice_index_or}
use Rattle.strips.specs.Sets.{Atoms, meets}
use Rattle.strips.specs.Task.{Task}
use Rattle.strips.specs.Bits.{members}
use Rattle.strips.specs.declared.atoms.AtomSet.{AtomSet}
use Rattle.bounds.specs.declared.readers.Readers.{Readers}

-- what is read past the end of a row of sets
abbrev pub no_set : AtomSet
no_set = record { bits = 0 }

-- the set at a place
abbrev pub row_at : List AtomSet → ℕ → Atoms
row_at rows p = members (slice_index_or rows p no_set)

-- one action more, under each atom that it needs
abbrev pub Enters : List AtomSet → List AtomSet → Atoms → ℕ → Type 0
Enters old new needs action = (p a : ℕ) → p < 64 → a < 64 → row_at new p a ≡ (row_at old p a || (a == action && needs p))

-- the actions 64 b + a, for a below 64, under the atoms that they need
abbrev pub ReadsBlock : Task → ℕ → List AtomSet → Type 0
ReadsBlock t b rows = (p a : ℕ) → p < 64 → a < 64 → row_at rows p a ≡ (t.action (64 * b + a)).needs p

pub record Reads (t : Task) (r : Readers) : Type 0 where
  pub each : (b : ℕ) → b < 4 → ReadsBlock t b (slice_index_or r.blocks b [])

-- the actions of a block that need an atom of a set
abbrev pub Needing : Readers → ℕ → Atoms → Atoms → Type 0
Needing r b atoms actions = (t : Task) → Reads t r → (a : ℕ) → a < 64 → actions a ≡ meets 64 atoms (t.action (64 * b + a)).needs
