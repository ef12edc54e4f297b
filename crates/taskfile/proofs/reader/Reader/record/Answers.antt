use Rattle.std.proofs.Common.{sym, ap, Err, ◌∙◌, arith}
use Rattle.std.proofs.lemmas.Bool.{cond-true, cond-false, not-true, not-false}
use Rattle.strips.proofs.Rowed.{apart_from}
use Rattle.taskfile.proofs.Contents.{within_members, meets_number}
use Rattle.taskfile.proofs.Steps.{reads_err, map_err, needs_err, adds_err, removes_err, cost_err, record_read, fault_same, moved_on, within_from}
use Rattle.taskfile.proofs.reader.Reader.record.Goals as goal

pub returns-in_err-map-clause-reads : goal.returns-in_err-map-clause-reads
returns-in_err-map-clause-reads c = reads_err _ c.args.self.now c.map.new.self _ _ _ c.from_residual.ensures.1 (map_err c.args.self.now c.in_err-map.ensures)

pub returns-in_err-needs-clause-reads : goal.returns-in_err-needs-clause-reads
returns-in_err-needs-clause-reads c = reads_err _ c.args.self.now c.set.new.self _ _ _ c.from_residual-in_err-needs.ensures.1
    (needs_err _ _ _ c.in_ok-map.ensures _ c.brings.ensures c.in_err-needs.ensures.reads)

pub returns-in_err-adds-clause-reads : goal.returns-in_err-adds-clause-reads
returns-in_err-adds-clause-reads c = reads_err _ c.args.self.now c.set-2.new.self _ _ _ c.from_residual-in_err-adds.ensures.1
    (adds_err _ _ _ c.in_ok-map.ensures _ _ _ c.brings.ensures c.in_ok-needs.ensures.reads _ c.brings-2.ensures c.in_err-adds.ensures.reads)

pub returns-in_err-removes-clause-reads : goal.returns-in_err-removes-clause-reads
returns-in_err-removes-clause-reads c = reads_err _ c.args.self.now c.set-3.new.self _ _ _ c.from_residual-in_err-removes.ensures.1
    (removes_err _ _ _ c.in_ok-map.ensures _ _ _ c.brings.ensures c.in_ok-needs.ensures.reads _ _ _ c.brings-2.ensures c.in_ok-adds.ensures.reads _ c.brings-3.ensures c.in_err-removes.ensures.reads)

pub returns-in_err-cost-clause-reads : goal.returns-in_err-cost-clause-reads
returns-in_err-cost-clause-reads c = reads_err _ c.args.self.now c.cost.new.self _ _ _ c.from_residual-in_err-cost.ensures.1
    (cost_err _ _ _ c.in_ok-map.ensures _ _ _ c.brings.ensures c.in_ok-needs.ensures.reads _ _ _ c.brings-2.ensures c.in_ok-adds.ensures.reads
    _ _ _ c.brings-3.ensures c.in_ok-removes.ensures.reads _ c.brings-4.ensures c.in_err-cost.ensures)

pub returns-then-meets-clause-reads : goal.returns-then-meets-clause-reads
returns-then-meets-clause-reads c =
    let all = record_read _ _ _ c.in_ok-map.ensures _ _ _ c.brings.ensures c.in_ok-needs.ensures.reads _ _ _ c.brings-2.ensures c.in_ok-adds.ensures.reads
    _ _ _ c.brings-3.ensures c.in_ok-removes.ensures.reads _ _ _ c.brings-4.ensures c.in_ok-cost.ensures in
    all.0
    ∙ cond-false _ _ _ (not-true _ (meets_number _ _ (within_members c.in_ok-adds.adds) (within_members c.in_ok-removes.removes) ∙ sym c.if-meets.ensures))
    ∙ ap Err (fault_same _ _ all.1 _ _ _ c.place-place.ensures c.fault.ensures)

pub returns-clause-reads : goal.returns-clause-reads
returns-clause-reads c =
    let all = record_read _ _ _ c.in_ok-map.ensures _ _ _ c.brings.ensures c.in_ok-needs.ensures.reads _ _ _ c.brings-2.ensures c.in_ok-adds.ensures.reads
    _ _ _ c.brings-3.ensures c.in_ok-removes.ensures.reads _ _ _ c.brings-4.ensures c.in_ok-cost.ensures in
    (all.0 ∙ cond-true _ _ _ (not-false _ (meets_number _ _ (within_members c.in_ok-adds.adds) (within_members c.in_ok-removes.removes) ∙ sym c.if-meets.ensures)), all.1)

pub returns-clause-sound : goal.returns-clause-sound
returns-clause-sound c =
    let r = c.args.self.now in
    let m2 = moved_on r _ _ c.in_ok-map.ensures.1 c.in_ok-needs.ensures.reads.1 in
    let m3 = moved_on r _ _ m2 c.in_ok-adds.ensures.reads.1 in
    record {
      needs_in = within_from r _ c.in_ok-map.ensures.1 _ c.in_ok-needs.ensures.within;
      adds_in = within_from r _ m2 _ c.in_ok-adds.ensures.within;
      removes_in = within_from r _ m3 _ c.in_ok-removes.ensures.within;
      apart = apart_from _ _ (within_members c.in_ok-adds.adds) c.if-meets.ensures;
      cost_in = omega arith;
    }
