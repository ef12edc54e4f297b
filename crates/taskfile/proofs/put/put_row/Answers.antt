use Rattle.std.proofs.Common.{arith, length-set}
use Rattle.strips.specs.Rows.{row_action}
use Rattle.taskfile.specs.Content.{entry_of}
use Rattle.taskfile.proofs.Writes.{length_entry, entry_written, field_bytes, field_length}
use Rattle.taskfile.proofs.put.put_row.Goals as goal

pub bounds-out-at : goal.bounds-out-at
bounds-out-at c = omega (arith, length_entry (entry_of (row_action c.args.row)), c.requires)

pub put-at-requires : goal.put-at-requires
put-at-requires c =
    let l = length-set c.args.out.now c.args.at c.row_map.result in
    let needs = field_length 0 8 _ _ c.set_field.ensures in
    (omega arith, omega (arith, length_entry (entry_of (row_action c.args.row)), c.requires))

pub put-at-requires-2 : goal.put-at-requires-2
put-at-requires-2 c =
    let l = length-set c.args.out.now c.args.at c.row_map.result in
    let needs = field_length 0 8 _ _ c.set_field.ensures in
    let adds = field_length 0 8 _ _ c.set_field-2.ensures in
    (omega arith, omega (arith, length_entry (entry_of (row_action c.args.row)), c.requires))

pub put-at-requires-3 : goal.put-at-requires-3
put-at-requires-3 c =
    let l = length-set c.args.out.now c.args.at c.row_map.result in
    let needs = field_length 0 8 _ _ c.set_field.ensures in
    let adds = field_length 0 8 _ _ c.set_field-2.ensures in
    let removes = field_length 0 8 _ _ c.set_field-3.ensures in
    (omega arith, omega (arith, length_entry (entry_of (row_action c.args.row)), c.requires))

pub put-requires : goal.put-requires
put-requires c =
    let l = length-set c.args.out.now c.args.at c.row_map.result in
    let needs = field_length 0 8 _ _ c.set_field.ensures in
    let adds = field_length 0 8 _ _ c.set_field-2.ensures in
    let removes = field_length 0 8 _ _ c.set_field-3.ensures in
    let cost = field_length 1 2 _ _ c.cost_field.ensures in
    (omega arith, omega (arith, length_entry (entry_of (row_action c.args.row)), c.requires))

pub returns-clause-bytes : goal.returns-clause-bytes
returns-clause-bytes c =
    entry_written c.args.out.now c.args.at (entry_of (row_action c.args.row)) _ _ _ _ _ _ _ _ _ _ _ _
    c.row_map.ensures (field_bytes 0 8 _ _ c.set_field.ensures) (field_bytes 0 8 _ _ c.set_field-2.ensures) (field_bytes 0 8 _ _ c.set_field-3.ensures) (field_bytes 1 2 _ _ c.cost_field.ensures)
    c.requires c.put-at.ensures.bytes c.put-at.ensures.after
    c.put-at-2.ensures.bytes c.put-at-2.ensures.after
    c.put-at-3.ensures.bytes c.put-at-3.ensures.after c.put.ensures.bytes

pub returns-clause-after : goal.returns-clause-after
returns-clause-after c =
    let needs = field_length 0 8 _ _ c.set_field.ensures in
    let adds = field_length 0 8 _ _ c.set_field-2.ensures in
    let removes = field_length 0 8 _ _ c.set_field-3.ensures in
    let cost = field_length 1 2 _ _ c.cost_field.ensures in
    omega (arith, length_entry (entry_of (row_action c.args.row)))
