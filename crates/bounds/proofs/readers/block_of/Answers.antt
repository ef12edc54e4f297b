use Rattle.std.proofs.Common.{refl, ◌+◌, ◌*◌, ◌&&◌, ◌||◌, eqb, ap, ◌∙◌, lt-ltb}
use Rattle.strips.specs.Task.{Action}
use Rattle.strips.specs.Table.{table_task}
use Rattle.bounds.specs.Readers.{row_at}
use Rattle.bounds.proofs.Reading.{block_none, block_more}
use Rattle.bounds.proofs.readers.block_of.Goals as goal

pub loop-action-init : goal.loop-action-init
loop-action-init c = block_none (λ a. ((table_task c.args.task.now).action (64 * c.args.block + a)).needs) _ refl

pub loop-action-preserved : goal.loop-action-preserved
loop-action-preserved c = block_more (λ a. ((table_task c.args.task.now).action (64 * c.args.block + a)).needs) c.loop-action.action c.loop-action.readers c.enter.new.block c.loop-action.invariant
    (λ p a k l. c.enter.ensures p a k l ∙ ap (λ b. row_at c.loop-action.readers p a || (eqb a c.loop-action.action && b)) (ap (λ (x : Action). x.needs p) c.row.ensures ∙ ap (λ b. b && ((table_task c.args.task.now).action (64 * c.args.block + c.loop-action.action)).needs p) (lt-ltb p 64 k)))
