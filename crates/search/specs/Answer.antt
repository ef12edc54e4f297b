-- What a search tells.
use Rattle.std.specs.Prelude.{ℕ, ◌≤◌, ⊤}
use Rattle.search.specs.declared.place.Answer.{Answer}
use Rattle.search.specs.declared.place.Answer.TheVariants.{Found, Nothing}

-- a plan that is found fits a buffer of so many numbers
abbrev pub PlanWithin : ℕ → Answer → Type 0
PlanWithin room (Found told) = told.0 ≤ room
PlanWithin room (Nothing used) = ⊤
