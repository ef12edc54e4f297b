use Rattle.std.proofs.Common.{Err, ap, ◌∙◌}
use Rattle.taskfile.proofs.Whole.{head_err, start_err, goal_err, entries_err, all_read, ended_not}
use Rattle.taskfile.proofs.Steps.{refused, moved_on, set_from, records_from, placed_from, after_fault}
use Rattle.taskfile.proofs.Views.{file_opened}
use Rattle.taskfile.proofs.view.FileView.open.Goals as goal

pub returns-in_err-header : goal.returns-in_err-header
returns-in_err-header c = refused _ _ _ c.from_residual.ensures.1 (head_err _ c.in_err-header.ensures.reads)

pub returns-in_err-start : goal.returns-in_err-start
returns-in_err-start c =
    let header = c.in_ok-header.ensures.reads in
    refused _ _ _ c.from_residual-in_err-start.ensures.1 (start_err _ _ _ _ _ header.1 _ header.2 c.in_err-start.ensures.reads)

pub returns-in_err-goal : goal.returns-in_err-goal
returns-in_err-goal c =
    let header = c.in_ok-header.ensures.reads in
    let start = c.in_ok-start.ensures.reads in
    refused _ _ _ c.from_residual-in_err-goal.ensures.1
    (goal_err _ _ _ _ _ header.1
    _ _ _ header.2 start.0
    _ header.3 (set_from _ _ start.1 _ c.in_err-goal.ensures.reads))

pub returns-in_err-places : goal.returns-in_err-places
returns-in_err-places c =
    let header = c.in_ok-header.ensures.reads in
    let start = c.in_ok-start.ensures.reads in
    let goal = c.in_ok-goal.ensures.reads in
    refused _ _ _ c.from_residual-in_err-places.ensures.1
    (entries_err _ _ _ _ _ header.1
    _ _ _ header.2 start.0
    _ _ _ header.3 (set_from _ _ start.1 _ goal.0)
    (records_from _ _ (moved_on _ _ _ start.1 goal.1) _ c.in_err-places.ensures))

pub returns-in_err-finish : goal.returns-in_err-finish
returns-in_err-finish c =
    let header = c.in_ok-header.ensures.reads in
    let start = c.in_ok-start.ensures.reads in
    let goal = c.in_ok-goal.ensures.reads in
    let m = moved_on _ _ _ start.1 goal.1 in
    let all = c.in_ok-places.ensures in
    refused _ _ _ c.from_residual-in_err-finish.ensures.1
    (all_read _ _ _ _ _ header.1
    _ _ _ header.2 start.0
    _ _ _ header.3 (set_from _ _ start.1 _ goal.0)
    _ _ (records_from _ _ m _ all.1)
    ∙ ended_not _ _ _ _ _ _ c.in_err-finish.ensures.0
    ∙ ap Err (after_fault c.records.new.self _ _ (all.4 ∙ m.total_same) all.5 c.in_err-finish.ensures.1))

pub returns : goal.returns
returns c =
    let header = c.in_ok-header.ensures.reads in
    let start = c.in_ok-start.ensures.reads in
    let goal = c.in_ok-goal.ensures.reads in
    let m = moved_on _ _ _ start.1 goal.1 in
    let all = c.in_ok-places.ensures in
    file_opened _ c.args.bytes.now (λ i. (c.type_inv.bytes i).fits) _ _ header.1
    _ _ header.2 start.0
    _ header.3 (set_from _ _ start.1 _ goal.0)
    _ _ (records_from _ _ m _ all.1) c.in_ok-finish.ensures (placed_from _ _ m _ _ _ all.2)
