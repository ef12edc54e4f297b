use Rattle.heuristics.proofs.Facts.{rounds_end_lem}
use Rattle.heuristics.proofs.rounds_end.Goals as goal

pub returns : goal.returns
returns c = rounds_end_lem
