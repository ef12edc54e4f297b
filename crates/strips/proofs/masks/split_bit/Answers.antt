use Rattle.std.proofs.Common.{arith}
use Rattle.strips.proofs.Members.{parted}
use Rattle.strips.proofs.masks.split_bit.Goals as goal

pub returns : goal.returns
returns c = parted c.args.a (omega arith) c.if-a-eq0.false
