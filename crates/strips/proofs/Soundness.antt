-- What a sound task's sets keep to.
use Rattle.std.proofs.Common.{◌≡◌, ℕ, ◌≤◌, false, ⊎_elim, arith}
use Rattle.std.proofs.lemmas.Bool.{cases_Bool}
use Rattle.strips.specs.Sets.{Atoms, Within}
use Rattle.strips.specs.Task.{Task, Sound}
use Rattle.strips.specs.Parts.{part_of}
use Rattle.strips.specs.declared.part.Part.{Part}
use Rattle.strips.specs.declared.part.Part.TheVariants.{Needs, Adds, Removes, Start, Goal}

-- no atom past n is in a set within n
pub past_within : (n : ℕ) (A : Atoms) → Within n A → (p : ℕ) → n ≤ p → A p ≡ false
past_within n A h p l = ⊎_elim (λ e. let k = h p e in let z : ⊥ = omega arith in absurd z) (λ e. e) (cases_Bool (A p))

pub part_within : (t : Task) → Sound t → (x : Part) → Within t.atoms (part_of t x)
part_within t s (Needs a) = (s.each a).needs_in
part_within t s (Adds a) = (s.each a).adds_in
part_within t s (Removes a) = (s.each a).removes_in
part_within t s Start = s.start_in
part_within t s Goal = s.goal_in
