use Rattle.std.proofs.Common.{sym, ap, ◌∙◌, arith}
use Rattle.taskfile.specs.Writing.{bytes_in, written}
use Rattle.taskfile.proofs.Writes.{written_none, written_part}
use Rattle.taskfile.proofs.put.put.Goals as goal

pub returns-in_default-clause-bytes : goal.returns-in_default-clause-bytes
returns-in_default-clause-bytes g c = written_none c.args.out.now c.args.at ∙ ap (λ f. written c.args.out.now c.args.at (bytes_in f)) (sym c.in_default.is)

pub returns-clause-bytes : goal.returns-clause-bytes
returns-clause-bytes g c =
    written_part c.args.out.now c.args.at g.row.N _ c.in-Some.bytes (omega arith) c.copy_from_slice.ensures.after
    ∙ ap (λ f. written c.args.out.now c.args.at (bytes_in f)) (sym c.in-Some.is)
