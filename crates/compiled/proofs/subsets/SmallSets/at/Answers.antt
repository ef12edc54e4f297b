use Rattle.std.proofs.Common.{arith}
use Rattle.strips.specs.Bits.{members}
use Rattle.strips.proofs.Members.{bits_none}
use Rattle.compiled.proofs.Numbering.{one_count, single_is}
use Rattle.compiled.proofs.subsets.SmallSets.at.Goals as goal

pub returns-then-number-self : goal.returns-then-number-self
returns-then-number-self c =
    single_is c.args.self.order c.args.self.atoms c.args.number (members record { bits = 0 }) (members c.with.result) (omega arith) (omega arith) bits_none c.with.ensures

pub returns-in-One : goal.returns-in-One
returns-in-One c = rw (c.in-One.is, one_count) (omega arith)
