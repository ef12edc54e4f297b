-- The task of a row table, and what its calls are refused for and leave.
use Rattle.std.specs.Prelude.{ℕ, Bool, true, false, cond, ◌&&◌, Some, None, Option, ◌==◌, nat_le, nat_lt, slice_index_or}
use Rattle.std.proofs.Common.{ap, arith, le-ltb}
use Rattle.strips.specs.Sets.{Atoms, nothing, first, inside, meets}
use Rattle.strips.specs.Task.{Action, Task, Sound, SoundAction, small, no_action}
use Rattle.strips.specs.Rows.{row_action, no_row, rows_task}
use Rattle.strips.specs.Soundness.{no_action_sound}
use Rattle.strips.specs.declared.denial.Denial.{Denial}
use Rattle.strips.specs.declared.denial.Denial.TheVariants.{SizeOutOfRange, AtomOutOfRange, AddedAndRemoved, NoSuchNumber, TaskOutOfRange}
use Rattle.strips.specs.declared.table.RowTable.{RowTable}

abbrev pub table_task : RowTable → Task
table_task t = rows_task t.atoms t.actions t.start t.goal t.rows

pub table_sound : (t : RowTable) → Sound (table_task t)
table_sound t = record {
  atoms_in = let h = t.few_atoms in omega arith;
  actions_in = let h = t.few_actions in omega arith;
  each = λ a. each a (nat_lt a t.actions);
  past = λ a l. ap (λ b. cond b (row_action (slice_index_or t.rows a no_row)) no_action) (le-ltb a t.actions l);
  start_in = t.start_in;
  goal_in = t.goal_in;
}
  where
    row_sound : (a : ℕ) → SoundAction t.atoms (row_action (slice_index_or t.rows a no_row))
    row_sound a = record { needs_in = t.needs_in a; adds_in = t.adds_in a; removes_in = t.removes_in a; apart = t.apart a; cost_in = t.cheap a }

    each : (a : ℕ) (b : Bool) → SoundAction t.atoms (cond b (row_action (slice_index_or t.rows a no_row)) no_action)
    each a true = row_sound a
    each a false = no_action_sound t.atoms

-- n atoms and k actions that need, add and remove nothing at cost 1, empty start and goal
abbrev pub blank_task : ℕ → ℕ → Task
blank_task n k = record {
  atoms = n;
  actions = k;
  action = λ a. cond (nat_lt a k) (record { needs = nothing; adds = nothing; removes = nothing; cost = 1 }) no_action;
  start = nothing;
  goal = nothing;
}

-- the task with another action in one place; with another start; with another goal
abbrev pub with_action : Task → ℕ → Action → Task
with_action t a x = record { atoms = t.atoms; actions = t.actions; action = λ b. cond (b == a) x (t.action b); start = t.start; goal = t.goal }

abbrev pub with_start : Task → Atoms → Task
with_start t s = record { atoms = t.atoms; actions = t.actions; action = t.action; start = s; goal = t.goal }

abbrev pub with_goal : Task → Atoms → Task
with_goal t g = record { atoms = t.atoms; actions = t.actions; action = t.action; start = t.start; goal = g }

-- what the calls are refused for
abbrev pub clear_denied : ℕ → ℕ → Option Denial
clear_denied n k = cond (nat_le n 64 && nat_le k 256) None (Some SizeOutOfRange)

abbrev pub set_denied : Task → Atoms → Option Denial
set_denied t A = cond (inside 64 A (first t.atoms)) None (Some AtomOutOfRange)

abbrev pub row_denied : Task → ℕ → Action → Option Denial
row_denied t a x = cond (nat_lt a t.actions)
    (cond (inside 64 x.needs (first t.atoms) && (inside 64 x.adds (first t.atoms) && inside 64 x.removes (first t.atoms)))
    (cond (meets 64 x.adds x.removes) (Some AddedAndRemoved) None)
    (Some AtomOutOfRange))
    (Some NoSuchNumber)

abbrev pub copy_denied : Task → Option Denial
copy_denied t = cond (small t) None (Some TaskOutOfRange)
