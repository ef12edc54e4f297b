-- What a table of costs says.
use Rattle.std.specs.Prelude.{ℕ, Bool, cond, ◌&&◌, List, nat_lt, slice_index, slice_set}
use Rattle.bounds.specs.declared.table.CostTable.{CostTable}

-- the cost of the set of a number
abbrev pub cost_at : CostTable → ℕ → ℕ
cost_at t i = cond (nat_lt i 2080) (slice_index t.entries i) 4294967295

-- the set of a number has a cost above c
abbrev pub above : CostTable → ℕ → ℕ → Bool
above t i c = nat_lt i 2080 && nat_lt c (slice_index t.entries i)

-- the costs where that one is lowered to c
abbrev pub lowered : CostTable → ℕ → ℕ → List ℕ
lowered t i c = cond (above t i c) (slice_set t.entries i c) t.entries
