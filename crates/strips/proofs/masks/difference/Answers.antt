use Rattle.strips.proofs.Members.{bits_without}
use Rattle.strips.proofs.masks.difference.Goals as goal

pub returns : goal.returns
returns c = bits_without c.args.a c.args.b
