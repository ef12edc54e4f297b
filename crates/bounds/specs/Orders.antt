-- How large the sets are that a bound looks at.
use Rattle.std.specs.Prelude.{◌≡◌, ℕ, cond, Some, None, Option, Result, MatchResult, ◌==◌}
use Rattle.strips.specs.Task.{Task, small}
use Rattle.strips.specs.declared.denial.Denial.{Denial}
use Rattle.strips.specs.declared.denial.Denial.TheVariants.{OrderUnknown, TaskOutOfRange}
use Rattle.bounds.specs.declared.order.Order.{Order}
use Rattle.bounds.specs.declared.order.Order.TheVariants.{One, Two}

-- the order of a number
abbrev pub order_of : ℕ → Option Order
order_of n = cond (n == 1) (Some One) (cond (n == 2) (Some Two) None)

-- the result is the order of a number, or the refusal of a number that has none
abbrev pub OrderOf : ℕ → Result Order Denial → Type 0
OrderOf n r = MatchResult r (λ o. order_of n ≡ Some o) (λ d. (order_of n ≡ None) × (d ≡ OrderUnknown))

-- how many atoms a set may have
abbrev pub size_of : Order → ℕ
size_of One = 1
size_of Two = 2

-- what an order is refused for
abbrev pub order_denied : Option Order → Option Denial
order_denied None = Some OrderUnknown
order_denied (Some o) = None

-- what a bound, or a compilation, is refused for
abbrev pub bound_denied : Task → ℕ → Option Denial
bound_denied t order = cond (small t) (order_denied (order_of order)) (Some TaskOutOfRange)
