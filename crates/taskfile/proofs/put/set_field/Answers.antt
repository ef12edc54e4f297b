use Rattle.std.proofs.Common.{Some, sym, ap, ◌∙◌, arith}
use Rattle.std.proofs.lemmas.Bool.{cond-true, cond-false}
use Rattle.taskfile.specs.Format.{high_first}
use Rattle.taskfile.proofs.Steps.{none_number}
use Rattle.taskfile.proofs.Writes.{eight_bytes}
use Rattle.taskfile.proofs.put.set_field.Goals as goal

pub returns-then-eq : goal.returns-then-eq
returns-then-eq c = sym (cond-true _ _ _ (none_number c.args.set (omega arith) ∙ sym c.if-eq.ensures))

pub returns-else-eq : goal.returns-else-eq
returns-else-eq c =
    ap Some (c.to_be_bytes.ensures ∙ eight_bytes c.bits.result (omega arith) ∙ ap (high_first 8) c.bits.ensures)
    ∙ sym (cond-false _ _ _ (none_number c.args.set (omega arith) ∙ sym c.if-eq.ensures))
