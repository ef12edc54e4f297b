-- A task's atoms are few.
use Rattle.std.proofs.Common.{ℕ, ◌<◌, ◌≤◌, IfSome, Some, None, Option, arith}
use Rattle.strips.specs.Task.{Task, Sound}
use Rattle.strips.specs.Parts.{part_of, FirstFrom}
use Rattle.strips.specs.declared.part.Part.{Part}
use Rattle.strips.proofs.Soundness.{part_within}

pub first_few : (t : Task) → Sound t → (x : Part) (from : ℕ) (r : Option ℕ) → FirstFrom (part_of t x) from r → IfSome r (λ p. (from ≤ p) × (p < 2080))
first_few t s x from None h = tt
first_few t s x from (Some p) h = (h.0, let l = part_within t s x p h.1 in let k = s.atoms_in in omega arith)
