-- What writing a file does to a buffer, and what it is denied for.
use Rattle.std.specs.Prelude.{ℕ, ◌+◌, cond, List, [], ◌++◌, length, take, drop, Some, None, Option, ◌==◌, nat_le}
use Rattle.strips.specs.Task.{Task, small}
use Rattle.strips.specs.declared.denial.Denial.{Denial}
use Rattle.strips.specs.declared.denial.Denial.TheVariants.{TaskOutOfRange, DoesNotFit}
use Rattle.taskfile.specs.Format.{high_first, encode}

-- what a task is denied for by a buffer of some bytes
abbrev pub write_denied : Task → ℕ → Option Denial
write_denied t room = cond (small t) (cond (nat_le (length (encode t)) room) None (Some DoesNotFit)) (Some TaskOutOfRange)

-- a field of w bytes that is absent at the value z
abbrev pub field_of : ℕ → ℕ → ℕ → Option (List ℕ)
field_of z w v = cond (v == z) None (Some (high_first w v))

-- its bytes in the file
abbrev pub bytes_in : Option (List ℕ) → List ℕ
bytes_in None = []
bytes_in (Some b) = b

-- its bit in the map
abbrev pub bit_in : Option (List ℕ) → ℕ
bit_in None = 0
bit_in (Some b) = 1

-- o with x over it, from a place on
unfoldable pub written : List ℕ → ℕ → List ℕ → List ℕ
written o place x = take place o ++ (x ++ drop (place + length x) o)
