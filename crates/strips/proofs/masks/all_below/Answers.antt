use Rattle.std.proofs.Common.{sym, ◌∙◌, arith, le-leb}
use Rattle.strips.proofs.Members.{below_all, below_test}
use Rattle.strips.proofs.masks.all_below.Goals as goal

pub returns-then-n-ge64 : goal.returns-then-n-ge64
returns-then-n-ge64 c = le-leb 64 c.args.n c.if-n-ge64.true ∙ sym (below_all c.args.a c.args.n c.if-n-ge64.true)

pub returns-else-n-ge64 : goal.returns-else-n-ge64
returns-else-n-ge64 c = below_test c.args.a c.args.n (omega arith) c.if-n-ge64.false
