use Rattle.std.proofs.Common.{Ok, sym, refl, ap, ◌∙◌, arith}
use Rattle.std.proofs.lemmas.Bool.{cond-true, cond-false}
use Rattle.taskfile.specs.Reading.{set_denied}
use Rattle.strips.proofs.Members.{bits_number}
use Rattle.taskfile.proofs.Field.{optional_not, optional_here}
use Rattle.taskfile.proofs.Runs.{left_all}
use Rattle.taskfile.proofs.Steps.{reads_err, next_ends, next_denied, next_right, set_value, tested, none_number}
use Rattle.taskfile.proofs.reader.Reader.set.Goals as goal

pub returns-in_err-take-clause-reads : goal.returns-in_err-take-clause-reads
returns-in_err-take-clause-reads c = reads_err _ c.args.self.now c.take.new.self _ _ _ c.from_residual.ensures.1
    (optional_here _ _ _ _ c.if-not-present.false ∙ next_ends 8 (set_denied c.args.self.now.atoms) c.args.self.now c.take.new.self _ c.in_err-take.ensures)

pub returns-then-not-is_below-clause-reads : goal.returns-then-not-is_below-clause-reads
returns-then-not-is_below-clause-reads c =
    let t = c.in_ok-take.ensures in
    optional_here _ _ _ _ c.if-not-present.false
    ∙ next_denied 8 (set_denied c.args.self.now.atoms) _ _ _ t _ (set_value _ _ c.from_bits-set.result _ t.0 t.1 c.from_be_bytes.ensures (omega arith) c.from_bits-set.ensures) _ _ _
    (cond-false _ _ _ (tested c.from_bits-set.result c.args.self.now.atoms _ _ (c.from.ensures ∙ t.3.atoms_same) c.if-not-is_below.ensures.test))
    c.place-place.ensures c.fault.ensures

pub returns-then-eq-clause-reads : goal.returns-then-eq-clause-reads
returns-then-eq-clause-reads c =
    let t = c.in_ok-take.ensures in
    optional_here _ _ _ _ c.if-not-present.false
    ∙ next_denied 8 (set_denied c.args.self.now.atoms) _ _ _ t _ (set_value _ _ c.from_bits-set.result _ t.0 t.1 c.from_be_bytes.ensures (omega arith) c.from_bits-set.ensures) _ _ _
    (cond-true _ _ _ (tested c.from_bits-set.result c.args.self.now.atoms _ _ (c.from.ensures ∙ t.3.atoms_same) c.if-not-is_below.ensures.test)
    ∙ cond-true _ _ _ (none_number c.from_bits-set.result (omega arith) ∙ sym c.if-eq.ensures))
    c.place-place.ensures c.fault-then-eq.ensures

pub returns-then-not-present-clause-reads : goal.returns-then-not-present-clause-reads
returns-then-not-present-clause-reads c = (
  optional_not _ _ _ _ c.if-not-present.true ∙ ap (λ x. Ok (x, c.args.self.now.rest.now)) (bits_number 0 (omega arith)),
  record { total_same = refl; atoms_same = refl; action_same = refl; left = left_all _ },
)

pub returns-clause-reads : goal.returns-clause-reads
returns-clause-reads c =
    let t = c.in_ok-take.ensures in
    let n = next_right 8 (set_denied c.args.self.now.atoms) _ _ _ t _ (set_value _ _ c.from_bits-set.result _ t.0 t.1 c.from_be_bytes.ensures (omega arith) c.from_bits-set.ensures)
    (cond-true _ _ _ (tested c.from_bits-set.result c.args.self.now.atoms _ _ (c.from.ensures ∙ t.3.atoms_same) c.if-not-is_below.ensures.test)
    ∙ cond-false _ _ _ (none_number c.from_bits-set.result (omega arith) ∙ sym c.if-eq.ensures)) in
    (optional_here _ _ _ _ c.if-not-present.false ∙ n.0, n.1)
