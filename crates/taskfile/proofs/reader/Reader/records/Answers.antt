use Rattle.std.proofs.Common.{◌<◌, ◌≤◌, ◌∙◌, refl, arith}
use Rattle.taskfile.proofs.Chain.{records_err, records_all}
use Rattle.taskfile.proofs.Runs.{so_far_more, all_placed, still_inside}
use Rattle.taskfile.proofs.Steps.{records_fault, entry_from}
use Rattle.taskfile.proofs.reader.Reader.records.Goals as goal

pub returns-in_err-record : goal.returns-in_err-record
returns-in_err-record c =
    let i = c.loop-action.invariant in
    let t = i.0.table in
    let l : c.loop-action.action < c.args.actions = omega arith in
    records_fault c.args.self.now c.record.new.self _ _ _ c.from_residual.ensures.1
    (i.0.goes_on ∙ records_err _ _ _ _ _ _ _ l (entry_from _ _ _ _ _ _ i.1 i.2 c.in_err-record.ensures.reads))

pub loop-action-preserved : goal.loop-action-preserved
loop-action-preserved c =
    let i = c.loop-action.invariant in
    let r = c.in_ok-record.ensures.reads in
    let t = i.0.table in
    let l : c.loop-action.action < c.args.actions = omega arith in
    (so_far_more _ _ _ _ _ _ _ _ _ l i.0 (entry_from _ _ _ _ _ _ i.1 i.2 r.0) r.1.left, r.1.total_same ∙ i.1, r.1.atoms_same ∙ i.2)

pub returns : goal.returns
returns c =
    let i = c.loop-action.invariant in
    let s = i.0 in
    let k = s.count in
    let t = s.table in
    let done : c.args.actions ≤ c.loop-action.action = omega arith in (
      s.done,
      s.goes_on ∙ records_all _ _ _ _ _ _ done,
      record { each = λ j l. let p = s.placed j (omega arith) in (p.0, all_placed _ _ j _ c.loop-action.place-items _ (omega arith) p.1) },
      λ j l. still_inside j _ c.loop-action.place-items _ (omega arith) (s.inside j (omega arith)),
      i.1,
      refl,
    )
