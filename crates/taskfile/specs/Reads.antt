-- What a file's reader hands back, and how it goes on.
use Rattle.std.specs.Prelude.{◌≡◌, ℕ, ◌-◌, ◌<◌, ◌≤◌, List, [], length, take, drop, Some, None, Ok, Err, Result, slice_index, slice_index_or}
use Rattle.strips.specs.declared.denial.Denial.TheVariants.{FileEnds}
use Rattle.taskfile.specs.Content.{Entry, blank}
use Rattle.taskfile.specs.Reading.{fault, entry, records}
use Rattle.taskfile.specs.declared.fault.Fault.{Fault}
use Rattle.taskfile.specs.declared.reader.Reader.{Reader}

-- rest is what is left of b
pub record LeftOf (b rest : List ℕ) : Type 0 where
  pub shorter : length rest ≤ length b
  pub suffix : rest ≡ drop (length b - length rest) b

-- it went on in the same file
pub record MovedOn (old new : Reader) : Type 0 where
  pub total_same : new.total ≡ old.total
  pub atoms_same : new.atoms ≡ old.atoms
  pub action_same : new.action ≡ old.action
  pub left : LeftOf old.rest.now new.rest.now

-- the next w bytes, or the file ends before them
abbrev pub Takes : ℕ → Reader → Reader → Result (List ℕ) Fault → Type 0
Takes w old new (Ok x) = (w ≤ length old.rest.now) × (x ≡ take w old.rest.now) × (new.rest.now ≡ drop w old.rest.now) × MovedOn old new
Takes w old new (Err f) = (length old.rest.now < w) × (f ≡ fault FileEnds old.total old.action)

-- a value, as `shown` shows it, and the bytes after it
abbrev pub Reads : {A B : Type 0} → (A → B) → Reader → Reader → Result A Fault → Result (B × List ℕ) Fault → Type 0
Reads shown old new (Ok x) s = (s ≡ Ok (shown x, new.rest.now)) × MovedOn old new
Reads shown old new (Err f) s = s ≡ Err f

-- the records b begin with one record for each of es, and record i stands at its place
pub record Placed (n len : ℕ) (b : List ℕ) (places : List ℕ) (es : List Entry) : Type 0 where
  pub each : (i : ℕ) → i < length es → (rest : List ℕ) × (entry n len (Some i) (drop (slice_index places i) b) ≡ Ok (slice_index_or es i blank, rest))

-- the records of k actions: each stands at its place, counted from the first
abbrev pub ReadsRecords : Reader → Reader → Result (List ℕ) Fault → ℕ → Type 0
ReadsRecords old new (Ok places) k =
    (es : List Entry) × (records old.atoms old.total k 0 [] old.rest.now ≡ Ok (es, new.rest.now)) × Placed old.atoms old.total old.rest.now places es
    × ((i : ℕ) → i < k → slice_index places i ≤ length old.rest.now) × (new.total ≡ old.total) × (new.action ≡ None)
ReadsRecords old new (Err f) k = records old.atoms old.total k 0 [] old.rest.now ≡ Err f
