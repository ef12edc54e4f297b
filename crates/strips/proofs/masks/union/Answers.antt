use Rattle.strips.proofs.Members.{bits_joined}
use Rattle.strips.proofs.masks.union.Goals as goal

pub returns : goal.returns
returns c = bits_joined c.args.a c.args.b
