use Rattle.std.proofs.Common.{arith}
use Rattle.taskfile.specs.Content.{content_of}
use Rattle.taskfile.proofs.Writes.{set_field_is, field_length, length_file}
use Rattle.taskfile.proofs.writer.file_size.Goals as goal

pub returns : goal.returns
returns g c =
    let t = g.T.Task.meaning c.args.task.now in
    let ls = field_length 0 8 _ _ (set_field_is c.set_of.result t.start _ c.set_field-start.ensures c.set_of.ensures) in
    let lg = field_length 0 8 _ _ (set_field_is c.set_of-2.result t.goal _ c.set_field-goal.ensures c.set_of-2.ensures) in
    omega (arith, length_file (content_of t), c.records_size.ensures.is)
