use Rattle.std.proofs.Common.{◌∙◌}
use Rattle.std.proofs.lemmas.Bool.{cond-true, cond-false, eq-eqb, ne_eqb}
use Rattle.taskfile.specs.Reading.{cost_denied}
use Rattle.taskfile.proofs.Field.{optional_here}
use Rattle.taskfile.proofs.Steps.{reads_err, next_ends, next_denied, next_right, two_value}
use Rattle.taskfile.proofs.reader.Reader.cost.Goals as goal

pub returns-in_err-take : goal.returns-in_err-take
returns-in_err-take c = reads_err _ c.args.self.now c.take.new.self _ _ _ c.from_residual.ensures.1
    (optional_here _ _ _ _ c.if-not-present.false ∙ next_ends 2 cost_denied c.args.self.now c.take.new.self _ c.in_err-take.ensures)

pub returns-then-cost-eq-COST : goal.returns-then-cost-eq-COST
returns-then-cost-eq-COST c =
    let t = c.in_ok-take.ensures in
    optional_here _ _ _ _ c.if-not-present.false
    ∙ next_denied 2 cost_denied _ _ _ t _ (two_value _ _ _ t.0 t.1 c.from_be_bytes-cost.ensures) _ _ _ (cond-true _ _ _ (eq-eqb _ _ c.if-cost-eq-COST.true)) c.place-place.ensures c.fault.ensures

pub returns : goal.returns
returns c =
    let t = c.in_ok-take.ensures in
    let n = next_right 2 cost_denied _ _ _ t _ (two_value _ _ _ t.0 t.1 c.from_be_bytes-cost.ensures) (cond-false _ _ _ (ne_eqb _ _ c.if-cost-eq-COST.false)) in
    (optional_here _ _ _ _ c.if-not-present.false ∙ n.0, n.1)
