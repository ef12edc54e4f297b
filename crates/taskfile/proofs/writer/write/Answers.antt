use Rattle.std.proofs.Common.{◌++◌, length, drop, sym, ap, ◌∙◌, arith}
use Rattle.std.proofs.lemmas.Bool.{cond-true, le-leb}
use Rattle.taskfile.specs.Format.{encode}
use Rattle.taskfile.proofs.Writes.{written_front}
use Rattle.taskfile.proofs.writer.write.Goals as goal

pub returns : goal.returns
returns g c =
    let t = g.T.Task.meaning c.args.task.now in
    let e = c.file_size-size.ensures in (
      cond-true _ _ _ (sym c.if-not-is_small.ensures) ∙ cond-true _ _ _ (le-leb (length (encode t)) (length c.args.out.now) (omega arith)),
      e,
      c.put_file.ensures ∙ (written_front c.args.out.now (encode t) ∙ ap (λ n. encode t ++ drop n c.args.out.now) (sym e)),
    )
