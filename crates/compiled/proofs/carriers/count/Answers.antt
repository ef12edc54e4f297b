use Rattle.std.proofs.Common.{sym, ap, ◌∙◌}
use lib.Count.{ones}
use Rattle.strips.specs.Bits.{members}
use Rattle.compiled.proofs.Rising.{rising_count}
use Rattle.compiled.proofs.carriers.count.Goals as goal

pub returns-clause-count : goal.returns-clause-count
returns-clause-count c = ap ones c.bits.ensures ∙ sym (rising_count 64 (members c.args.set))
