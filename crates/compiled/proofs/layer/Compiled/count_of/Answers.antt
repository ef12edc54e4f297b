use Rattle.std.proofs.Common.{◌+◌}
use Rattle.strips.specs.Bits.{members}
use Rattle.compiled.proofs.Carrying.{one_more}
use Rattle.compiled.proofs.layer.Compiled.count_of.Goals as goal

pub returns : goal.returns
returns g c =
    let v = c.args.self.now in
    let t = g.T.Task.meaning v.task in
    one_more v.order t (g.T.Task.sound v.task) v.few_atoms c.args.action c.row.result (members c.extras.result) c.count.result _ c.row.ensures c.extras.ensures c.count.ensures.count (λ i. c.count.result + 1)
