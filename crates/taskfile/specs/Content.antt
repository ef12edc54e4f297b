-- What a file says of a task, as numbers: bit p of a set's number stands for the atom p.
use Rattle.std.specs.Prelude.{ℕ, cond, List, map, length, nat_lt, slice_index_or}
use Rattle.std.specs.List.{range_with_len}
use Rattle.strips.specs.Task.{Action, Task, no_action}
use Rattle.strips.specs.Bits.{bits_of, number}

-- one action
pub record Entry : Type 0 where
  pub needs : ℕ
  pub adds : ℕ
  pub removes : ℕ
  pub cost : ℕ

-- a whole task
pub record Content : Type 0 where
  pub atoms : ℕ
  pub start : ℕ
  pub goal : ℕ
  pub entries : List Entry

abbrev pub entry_of : Action → Entry
entry_of a = record { needs = number 64 a.needs; adds = number 64 a.adds; removes = number 64 a.removes; cost = a.cost }

abbrev pub content_of : Task → Content
content_of t = record { atoms = t.atoms; start = number 64 t.start; goal = number 64 t.goal; entries = map (λ a. entry_of (t.action a)) (range_with_len 0 t.actions) }

abbrev pub entry_action : Entry → Action
entry_action e = record { needs = bits_of e.needs; adds = bits_of e.adds; removes = bits_of e.removes; cost = e.cost }

-- an action that needs, adds and removes nothing, at the cost of an absent field
abbrev pub blank : Entry
blank = record { needs = 0; adds = 0; removes = 0; cost = 1 }

abbrev pub task_of : Content → Task
task_of c = record {
  atoms = c.atoms;
  actions = length c.entries;
  action = λ a. cond (nat_lt a (length c.entries)) (entry_action (slice_index_or c.entries a blank)) no_action;
  start = bits_of c.start;
  goal = bits_of c.goal;
}
