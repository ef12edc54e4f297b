use Rattle.std.proofs.Common.{◌≡◌, ◌+◌, ◌*◌, ◌≤◌, length, sym, ◌∙◌, arith}
use Rattle.std.proofs.lemmas.List.FromFn.{length-map-range_with_len}
use Rattle.taskfile.specs.Content.{entry_of, content_of}
use Rattle.taskfile.specs.Format.{content_map}
use Rattle.taskfile.proofs.Writes.{front, set_field_is, field_bytes, field_length, field_flag, header_bytes, length_file, file_written}
use Rattle.taskfile.proofs.writer.put_file.Goals as goal

pub put-at-requires : goal.put-at-requires
put-at-requires g c =
    let t = g.T.Task.meaning c.args.task.now in
    (omega arith, omega (arith, length_file (content_of t), c.requires.room))

pub put-at-requires-2 : goal.put-at-requires-2
put-at-requires-2 g c =
    let t = g.T.Task.meaning c.args.task.now in
    let ls = field_length 0 8 _ _ (set_field_is c.set_of.result t.start _ c.set_field-start.ensures c.set_of.ensures) in
    (omega arith, omega (arith, length_file (content_of t), c.requires.room))

pub put-at-requires-3 : goal.put-at-requires-3
put-at-requires-3 g c =
    let t = g.T.Task.meaning c.args.task.now in
    let ls = field_length 0 8 _ _ (set_field_is c.set_of.result t.start _ c.set_field-start.ensures c.set_of.ensures) in
    let lg = field_length 0 8 _ _ (set_field_is c.set_of-2.result t.goal _ c.set_field-goal.ensures c.set_of-2.ensures) in
    (omega arith, omega (arith, length_file (content_of t), c.requires.room))

pub put_rows-requires : goal.put_rows-requires
put_rows-requires g c =
    let t = g.T.Task.meaning c.args.task.now in
    let ls = field_length 0 8 _ _ (set_field_is c.set_of.result t.start _ c.set_field-start.ensures c.set_of.ensures) in
    let lg = field_length 0 8 _ _ (set_field_is c.set_of-2.result t.goal _ c.set_field-goal.ensures c.set_of-2.ensures) in
    let room : c.put-at-3.result + length (front t t.actions) ≤ length c.put-at-3.new.out = omega (arith, length_file (content_of t), c.requires.room) in
    room

pub returns : goal.returns
returns g c =
    let t = g.T.Task.meaning c.args.task.now in
    let fs = set_field_is c.set_of.result t.start _ c.set_field-start.ensures c.set_of.ensures in
    let fg = set_field_is c.set_of-2.result t.goal _ c.set_field-goal.ensures c.set_of-2.ensures in
    let em : c.flag.result + 2 * c.flag-2.result ≡ content_map (content_of t) =
    λ i. (c.flag.ensures.is ∙ field_flag 0 8 _ _ fs) i + 2 * (c.flag-2.ensures.is ∙ field_flag 0 8 _ _ fg) i in
    let few = c.requires.actions in
    file_written c.args.out.now (content_of t) _ c.actions.result _ _ _ _ _ _ _ _ _ _ _
    c.atoms.ensures (c.actions.ensures ∙ sym (length-map-range_with_len (λ a. entry_of (t.action a)) 0 t.actions)) em
    (header_bytes _ _ _ _ (omega arith) c.to_be_bytes.ensures) (field_bytes 0 8 _ _ fs) (field_bytes 0 8 _ _ fg) c.requires.room
    c.put-at.ensures.bytes c.put-at.ensures.after c.put-at-2.ensures.bytes c.put-at-2.ensures.after
    c.put-at-3.ensures.bytes c.put-at-3.ensures.after c.put_rows.ensures
