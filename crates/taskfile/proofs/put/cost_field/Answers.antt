use Rattle.std.proofs.Common.{Some, sym, ap, ◌∙◌, arith}
use Rattle.std.proofs.lemmas.Bool.{cond-false, ne_eqb}
use Rattle.taskfile.proofs.Writes.{two_bytes}
use Rattle.taskfile.proofs.put.cost_field.Goals as goal

pub returns-else-cost-eq-COST : goal.returns-else-cost-eq-COST
returns-else-cost-eq-COST c = ap Some (c.to_be_bytes.ensures ∙ two_bytes c.args.cost (omega arith)) ∙ sym (cond-false _ _ _ (ne_eqb _ _ c.if-cost-eq-COST.false))
