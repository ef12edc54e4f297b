use Rattle.std.proofs.Common.{arith}
use Rattle.strips.proofs.Members.{meets_test}
use Rattle.strips.proofs.masks.overlaps.Goals as goal

pub returns : goal.returns
returns c = meets_test c.args.a c.args.b (omega arith)
