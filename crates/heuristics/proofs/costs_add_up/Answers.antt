use Rattle.heuristics.proofs.Finite.{added_laws}
use Rattle.heuristics.proofs.costs_add_up.Goals as goal

pub returns : goal.returns
returns c = added_laws
