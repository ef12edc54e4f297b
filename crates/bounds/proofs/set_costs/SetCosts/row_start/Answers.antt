use Rattle.std.proofs.Common.{◌≡◌, ℕ, ◌-◌, ◌*◌, ◌<◌, ◌≤◌, mul-le-mul, arith}
use Rattle.bounds.proofs.set_costs.SetCosts.row_start.Goals as goal

-- there are at most 63 * 62 / 2 sets before the last row
low : (h x : ℕ) → h < 64 → x ≡ h - 1 → h * x ≤ 63 * 62
low h x l e = mul-le-mul {n₁ = h} {m₁ = x} {n₂ = 63} {m₂ = 62} (omega arith) (omega arith)

pub overflow_mul-result : goal.overflow_mul-result
overflow_mul-result c = let l = low c.args.high c.saturating_sub.result c.requires c.saturating_sub.ensures in omega arith

pub overflow_add-result : goal.overflow_add-result
overflow_add-result c = let l = low c.args.high c.saturating_sub.result c.requires c.saturating_sub.ensures in omega arith

pub returns-clause-room : goal.returns-clause-room
returns-clause-room c = let l = low c.args.high c.saturating_sub.result c.requires c.saturating_sub.ensures in omega arith
