-- The task that a view of a file means.
use Rattle.std.specs.Prelude.{ℕ, List, length, drop, Some, Ok, Err, Result, slice_index}
use Rattle.strips.specs.Task.{Action, Task, Sound, no_action}
use Rattle.strips.specs.Bits.{members}
use Rattle.strips.specs.Soundness.{trimmed, trimmed_sound}
use Rattle.taskfile.specs.Content.{Entry, entry_action}
use Rattle.taskfile.specs.Reading.{entry}
use Rattle.taskfile.specs.declared.fault.Fault.{Fault}
use Rattle.taskfile.specs.declared.view.FileView.{FileView}

-- the action of a record that was read
abbrev pub action_or_none : Result (Entry × List ℕ) Fault → Action
action_or_none (Ok x) = entry_action x.0
action_or_none (Err f) = no_action

-- the task by the view's fields: an action's record stands at its place
abbrev pub raw : FileView → Task
raw v = record {
  atoms = v.atoms;
  actions = v.actions;
  action = λ a. action_or_none (entry v.atoms (length v.records.now) (Some a) (drop (slice_index v.places a) v.records.now));
  start = members v.start;
  goal = members v.goal;
}

-- a view that opening a file made has nothing to trim
unfoldable pub view_task : FileView → Task
view_task v = trimmed (raw v)

pub view_sound : (v : FileView) → Sound (view_task v)
unfolding view_task
view_sound v = trimmed_sound (raw v)
