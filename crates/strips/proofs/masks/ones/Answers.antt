use Rattle.std.proofs.Common.{◌-◌, ap, ◌∙◌}
use Rattle.std.proofs.lemmas.Nat.{one_shl}
use Rattle.strips.specs.Bits.{bits_of}
use Rattle.strips.proofs.Members.{bits_first, bits_all}
use Rattle.strips.proofs.masks.ones.Goals as goal

pub returns-then-n-ge64 : goal.returns-then-n-ge64
returns-then-n-ge64 c = bits_all c.args.n c.if-n-ge64.true

pub returns-else-n-ge64 : goal.returns-else-n-ge64
returns-else-n-ge64 c = ap (λ z. bits_of (z - 1)) (one_shl c.args.n 64 c.if-n-ge64.false) ∙ bits_first c.args.n
