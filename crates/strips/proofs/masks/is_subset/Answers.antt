use Rattle.std.proofs.Common.{arith}
use Rattle.strips.proofs.Members.{inside_test}
use Rattle.strips.proofs.masks.is_subset.Goals as goal

pub returns : goal.returns
returns c = inside_test c.args.a c.args.b (omega arith)
