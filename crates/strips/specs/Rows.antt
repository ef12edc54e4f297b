-- Actions as rows of three sets and a cost, and tasks as tables of rows.
use Rattle.std.specs.Prelude.{ℕ, ◌≤◌, cond, List, nat_lt, slice_index_or}
use Rattle.strips.specs.Sets.{clipped, Within, Apart}
use Rattle.strips.specs.Task.{Action, Task, no_action}
use Rattle.strips.specs.Bits.{members}
use Rattle.strips.specs.declared.atoms.AtomSet.{AtomSet}
use Rattle.strips.specs.declared.row.Row.{Row}

-- the action that a row stands for
abbrev pub row_action : Row → Action
row_action r = record { needs = members r.needs; adds = members r.adds; removes = members r.removes; cost = r.cost }

-- an action's atoms below n: all of them, in a task of at most n atoms
abbrev pub clipped_action : ℕ → Action → Action
clipped_action n a = record { needs = clipped n a.needs; adds = clipped n a.adds; removes = clipped n a.removes; cost = a.cost }

-- what a row holds before it is set: no atoms, cost 1
abbrev pub blank_row : Row
blank_row = record { needs = record { bits = 0 }; adds = record { bits = 0 }; removes = record { bits = 0 }; cost = 1 }

-- what is read past the last row
abbrev pub no_row : Row
no_row = record { needs = record { bits = 0 }; adds = record { bits = 0 }; removes = record { bits = 0 }; cost = 0 }

-- the task of n atoms whose actions are the first k rows
abbrev pub rows_task : ℕ → ℕ → AtomSet → AtomSet → List Row → Task
rows_task n k start goal rows = record {
  atoms = n;
  actions = k;
  action = λ a. cond (nat_lt a k) (row_action (slice_index_or rows a no_row)) no_action;
  start = members start;
  goal = members goal;
}

-- what the rows of a table of n atoms keep to: the sets that `part` picks lie below n; what a row adds it does not remove;
-- and costs have 16 bits
abbrev pub AllWithin : ℕ → (Row → AtomSet) → List Row → Type 0
AllWithin n part rows = (a : ℕ) → Within n (members (part (slice_index_or rows a no_row)))

abbrev pub AllApart : List Row → Type 0
AllApart rows = (a : ℕ) → Apart (members (slice_index_or rows a no_row).adds) (members (slice_index_or rows a no_row).removes)

abbrev pub AllCheap : List Row → Type 0
AllCheap rows = (a : ℕ) → (slice_index_or rows a no_row).cost ≤ 65535
