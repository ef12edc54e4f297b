use Rattle.strips.proofs.Members.{bits_common}
use Rattle.strips.proofs.masks.intersection.Goals as goal

pub returns : goal.returns
returns c = bits_common c.args.a c.args.b
