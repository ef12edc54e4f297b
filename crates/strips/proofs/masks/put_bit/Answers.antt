use Rattle.strips.proofs.Members.{bits_with}
use Rattle.strips.proofs.masks.put_bit.Goals as goal

pub returns-then-atom-lt64 : goal.returns-then-atom-lt64
returns-then-atom-lt64 c = bits_with c.args.a c.args.atom c.if-atom-lt64.true
