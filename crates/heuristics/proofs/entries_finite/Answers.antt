use Rattle.heuristics.proofs.Finite.{finite_entries}
use Rattle.heuristics.proofs.entries_finite.Goals as goal

pub returns : goal.returns
returns c = finite_entries
