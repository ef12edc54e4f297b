use Rattle.heuristics.proofs.Carriers.{carriers_stand_lem}
use Rattle.heuristics.proofs.carriers_stand.Goals as goal

pub returns : goal.returns
returns c = carriers_stand_lem
