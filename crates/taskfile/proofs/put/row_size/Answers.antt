use Rattle.std.proofs.Common.{arith}
use Rattle.strips.specs.Rows.{row_action}
use Rattle.taskfile.specs.Content.{entry_of}
use Rattle.taskfile.proofs.Writes.{length_entry, field_length}
use Rattle.taskfile.proofs.put.row_size.Goals as goal

pub returns-clause-is : goal.returns-clause-is
returns-clause-is c =
    let needs = field_length 0 8 _ _ c.set_field.ensures in
    let adds = field_length 0 8 _ _ c.set_field-2.ensures in
    let removes = field_length 0 8 _ _ c.set_field-3.ensures in
    let cost = field_length 1 2 _ _ c.cost_field.ensures in
    omega (arith, length_entry (entry_of (row_action c.args.row)), needs, adds, removes, cost)
