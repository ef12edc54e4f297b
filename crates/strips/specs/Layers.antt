-- Tasks made of a task.
use Rattle.std.specs.Prelude.{ℕ, Bool, cond, ◌&&◌, Some, None, Option}
use Rattle.strips.specs.Sets.{Atoms, nothing, clipped, first, inside}
use Rattle.strips.specs.Task.{Action, Task, small}
use Rattle.strips.specs.declared.denial.Denial.{Denial}
use Rattle.strips.specs.declared.denial.Denial.TheVariants.{AtomOutOfRange, NoSuchNumber, TaskOutOfRange}

-- the task with another start and goal
abbrev pub with_errand : Task → Atoms → Atoms → Task
with_errand t s g = record { atoms = t.atoms; actions = t.actions; action = t.action; start = s; goal = g }

-- the same, of whatever sets: their atoms that the task has
abbrev pub errand_task : Task → Atoms → Atoms → Task
errand_task t s g = with_errand t (clipped t.atoms s) (clipped t.atoms g)

-- what an errand is refused for
abbrev pub errand_denied : Task → Atoms → Atoms → Option Denial
errand_denied t s g = cond (small t) (cond (inside 64 s (first t.atoms) && inside 64 g (first t.atoms)) None (Some AtomOutOfRange)) (Some TaskOutOfRange)

-- an action that adds and removes nothing
abbrev pub idle : Action → Action
idle a = record { needs = a.needs; adds = nothing; removes = nothing; cost = a.cost }

-- the task whose closed actions add and remove nothing
abbrev pub with_closures : Task → (ℕ → Bool) → Task
with_closures t closed = record { atoms = t.atoms; actions = t.actions; action = λ a. cond (closed a) (idle (t.action a)) (t.action a); start = t.start; goal = t.goal }

-- what closures are refused for
abbrev pub closures_denied : Task → (ℕ → Bool) → Option Denial
closures_denied t closed = cond (small t) (cond (inside 256 closed (first t.actions)) None (Some NoSuchNumber)) (Some TaskOutOfRange)
