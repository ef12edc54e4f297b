use Rattle.taskfile.proofs.Whole.{every_file, one_task, no_two_faults, same_bytes, exactly_same, read_after_write}
use Rattle.taskfile.proofs.Stable.{nothing_right}
use Rattle.taskfile.proofs.laws.format_stands.Goals as goal

pub returns : goal.returns
returns c = record { every = every_file; one = one_task; alone = no_two_faults; same = same_bytes; exactly = exactly_same; back = read_after_write; leftmost = nothing_right }
