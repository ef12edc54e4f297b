-- The laws of the format.
use Rattle.std.specs.Prelude.{◌≡◌, ℕ, true, ◌⊎◌, List, ◌++◌, length, take, Ok, ◌≢◌}
use Rattle.strips.specs.Task.{Task, Sound, small}
use Rattle.strips.specs.declared.denial.Denial.TheVariants.{FileEnds}
use Rattle.taskfile.specs.Format.{encode, Accepted}
use Rattle.taskfile.specs.Reading.{Bytes, verdict, FaultOf}
use Rattle.taskfile.specs.declared.fault.Fault.{Fault}

-- every list of bytes is the file of a task, or has a fault
abbrev pub EveryFile : Type 0
EveryFile = (b : List ℕ) → Bytes b → ((t : Task) × Accepted b t) ⊎ ((f : Fault) × FaultOf b f)

-- it is the file of one task only
abbrev pub OneTask : Type 0
OneTask = (b : List ℕ) (t u : Task) → Accepted b t → Accepted b u → t ≡ u

-- a list with a fault has that fault only, and is the file of no task
abbrev pub NoTwoFaults : Type 0
NoTwoFaults = (b : List ℕ) (f : Fault) → FaultOf b f → ((g : Fault) → FaultOf b g → f ≡ g) × ((t : Task) → Accepted b t → ⊥)

-- tasks whose files have the same bytes are the same
abbrev pub SameBytes : Type 0
SameBytes = (t u : Task) → Sound t → small t ≡ true → Sound u → small u ≡ true → encode t ≡ encode u → t ≡ u

-- two files are of the same task exactly when their bytes are the same
abbrev pub SameTask : Type 0
SameTask = (b c : List ℕ) (t u : Task) → Accepted b t → Accepted c u → (t ≡ u → b ≡ c) × (b ≡ c → t ≡ u)

-- the front of a buffer that holds a task's file reads as that task
abbrev pub ReadAfterWrite : Type 0
ReadAfterWrite = (t : Task) (o : List ℕ) → Sound t → small t ≡ true → Accepted (take (length (encode t)) (encode t ++ o)) t × (verdict (take (length (encode t)) (encode t ++ o)) ≡ Ok t)

-- a fault is the leftmost: what follows it does not matter, unless the file ended there
abbrev pub NothingRight : Type 0
NothingRight = (b c : List ℕ) (f : Fault) → FaultOf b f → (f.denial ≢ FileEnds) → FaultOf (b ++ c) f

pub record FormatStands : Type 0 where
  pub every : EveryFile
  pub one : OneTask
  pub alone : NoTwoFaults
  pub same : SameBytes
  pub exactly : SameTask
  pub back : ReadAfterWrite
  pub leftmost : NothingRight
