-- The file of a task.
use Rattle.std.specs.Prelude.{◌≡◌, ℕ, zero, suc, ◌+◌, ◌*◌, ◌/◌, ◌%◌, ◌^◌, true, cond, List, [], ◌∷◌, ◌++◌, length, ◌==◌}
use Rattle.std.specs.List.{flat_map}
use Rattle.strips.specs.Task.{Task, Sound, small}
use Rattle.taskfile.specs.Content.{Entry, Content, content_of}

-- w bytes, the high byte first
unfoldable pub high_first : ℕ → ℕ → List ℕ
high_first zero v = []
high_first (suc w) v = v / 256 ^ w ∷ high_first w (v % 256 ^ w)

-- a field of w bytes that is absent at the value z
abbrev pub unless : ℕ → ℕ → ℕ → List ℕ
unless z w v = cond (v == z) [] (high_first w v)

-- its bit in the map
abbrev pub flag : ℕ → ℕ → ℕ
flag z v = cond (v == z) 0 1

abbrev pub entry_map : Entry → ℕ
entry_map e = flag 0 e.needs + 2 * flag 0 e.adds + 4 * flag 0 e.removes + 8 * flag 1 e.cost

-- a record: its map, then the fields that the map brings
unfoldable pub entry_bytes : Entry → List ℕ
entry_bytes e = entry_map e ∷ (unless 0 8 e.needs ++ (unless 0 8 e.adds ++ (unless 0 8 e.removes ++ unless 1 2 e.cost)))

abbrev pub content_map : Content → ℕ
content_map c = flag 0 c.start + 2 * flag 0 c.goal

-- the version, the number of atoms, the number of actions, the map, the start and the goal where the map brings them,
-- and the records
unfoldable pub content_bytes : Content → List ℕ
content_bytes c = 1 ∷ c.atoms ∷ (high_first 2 (length c.entries) ++ (content_map c ∷ (unless 0 8 c.start ++ (unless 0 8 c.goal ++ flat_map entry_bytes c.entries))))

abbrev pub encode : Task → List ℕ
encode t = content_bytes (content_of t)

-- b is the file of the task t
pub record Accepted (b : List ℕ) (t : Task) : Type 0 where
  pub same : b ≡ encode t
  pub sound : Sound t
  pub fits : small t ≡ true
