use Rattle.std.proofs.Common.{arith}
use Rattle.strips.proofs.Members.{bits_number}
use Rattle.strips.proofs.atoms.AtomSet.bits.Goals as goal

pub returns : goal.returns
returns c = bits_number c.args.self.bits (omega arith)
