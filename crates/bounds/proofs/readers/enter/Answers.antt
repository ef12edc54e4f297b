use Rattle.std.proofs.Common.{◌∙◌, length-set}
use Rattle.strips.specs.Bits.{members}
use Rattle.bounds.proofs.Reading.{entered_more, entered_all}
use Rattle.bounds.proofs.readers.enter.Goals as goal

pub loop-atom-preserved : goal.loop-atom-preserved
loop-atom-preserved c = (
  length-set _ _ _ ∙ c.loop-atom.invariant.0,
  entered_more c.args.block.now c.loop-atom.block (members c.args.needs) (members c.loop-atom.atom-iterator.rest) (members c.next.new.self.rest) c.args.action c.in-Some.atom c.with.result c.loop-atom.invariant.0 c.loop-atom.invariant.1 c.in-Some.ensures.steps c.with.ensures,
)

pub returns : goal.returns
returns c = entered_all c.args.block.now c.loop-atom.block (members c.args.needs) (members c.loop-atom.atom-iterator.rest) c.args.action c.in-None.ensures.steps.0 c.loop-atom.invariant.1
