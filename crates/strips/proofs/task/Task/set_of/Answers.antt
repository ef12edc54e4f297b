use Rattle.std.proofs.Common.{ap, ◌∙◌, arith}
use Rattle.strips.specs.Bits.{members}
use Rattle.strips.specs.Parts.{part_of}
use Rattle.strips.proofs.Members.{clipped_put, clipped_skip}
use Rattle.strips.proofs.task.Task.set_of.Goals as goal
use Rattle.strips.proofs.task.Task.set_of.Goals.{then-holds, else-holds}

pub loop-atom-preserved : goal.loop-atom-preserved
loop-atom-preserved g c =
    let A = part_of (g.Self.Task.meaning c.args.self.now) c.args.part in
    elim c.if-holds.branch [
      | then-holds w ↦ ap members w.set-is ∙ (w.with-set.ensures ∙ clipped_put c.loop-atom.atom A (members c.loop-atom.set) (omega arith) c.loop-atom.invariant w.if-holds.ensures)
      | else-holds w ↦ ap members w.set-is ∙ clipped_skip c.loop-atom.atom A (members c.loop-atom.set) c.loop-atom.invariant w.if-holds.ensures
    ]
