use Rattle.std.proofs.Common.{◌≡◌}
use Rattle.taskfile.proofs.Runs.{SoFar}
use Rattle.taskfile.proofs.reader.Reader.records.Given as goal

abbrev pub invariant-loop-action : goal.invariant-loop-action
invariant-loop-action l =
    SoFar l.fn.self.atoms l.fn.self.total l.actions l.action l.fn.self.rest.now l.place-items l.self.rest.now × (l.self.total ≡ l.fn.self.total) × (l.self.atoms ≡ l.fn.self.atoms)
