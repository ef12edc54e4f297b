use Rattle.std.proofs.Common.{◌+◌, ◌*◌, [], get_or}
use Rattle.strips.specs.Bits.{members}
use Rattle.bounds.specs.Readers.{row_at}
use Rattle.bounds.proofs.Reading.{found_more, found_all}
use Rattle.bounds.proofs.readers.Readers.needing.Goals as goal

pub loop-atom-preserved : goal.loop-atom-preserved
loop-atom-preserved c = λ t h. found_more (λ a. (t.action (64 * c.args.block + a)).needs) (members c.args.atoms) (members c.loop-atom.atom-iterator.rest) (members c.next.new.self.rest) (members c.loop-atom.actions) (row_at (get_or c.args.self.now.blocks c.args.block []) c.in-Some.atom) (members c.joined-actions.result) c.in-Some.atom (c.loop-atom.invariant t h) c.in-Some.ensures.steps (λ a l. h.each c.args.block c.requires c.in-Some.atom a c.in-Some.ensures.steps.below l) c.joined-actions.ensures

pub returns : goal.returns
returns c = λ t h a l. found_all (λ b. (t.action (64 * c.args.block + b)).needs) (members c.args.atoms) (members c.loop-atom.atom-iterator.rest) (members c.loop-atom.actions) c.in-None.ensures.steps.0 (c.loop-atom.invariant t h) a l
