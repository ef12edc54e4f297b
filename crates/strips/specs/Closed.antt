-- Marks on actions.
use Rattle.std.specs.Prelude.{ℕ, Bool, false, cond, Some, None, Option, ◌==◌, nat_lt, slice_index_or}
use Rattle.strips.specs.declared.denial.Denial.{Denial}
use Rattle.strips.specs.declared.denial.Denial.TheVariants.{NoSuchNumber}
use Rattle.strips.specs.declared.closures.Closures.{Closures}

-- whether an action is closed
abbrev pub closed_of : Closures → ℕ → Bool
closed_of c a = slice_index_or c.marks a false

-- f, with b at one place
abbrev pub put : (ℕ → Bool) → ℕ → Bool → ℕ → Bool
put f x b y = cond (y == x) b (f y)

abbrev pub mark_denied : ℕ → Option Denial
mark_denied a = cond (nat_lt a 256) None (Some NoSuchNumber)
