use Rattle.std.proofs.Common.{◌≡◌, ◌^◌, ℕ, length, refl, ◌∙◌, rules, arith}
use Rattle.std.specs.List.{range_with_len}
use Rattle.std.proofs.lemmas.Iterator.{YieldsList-from_range, YieldsList-from_map}
use Rattle.std.proofs.lemmas.Iterator.Consumers.{sum_by_from_yields_List, fits_by_from_yields_list}
use Rattle.taskfile.specs.Content.{entry_of}
use Rattle.taskfile.specs.Format.{entry_bytes}
use Rattle.taskfile.proofs.Writes.{row_bytes, front, front_sum, front_small}
use Rattle.taskfile.proofs.writer.records_size.Goals as goal

pub sum-requires-clause-fits : goal.sum-requires-clause-fits
sum-requires-clause-fits g c =
    let t = g.T.Task.meaning c.args.task.now in
    let h : ℕ → ℕ = λ a. length (entry_bytes (entry_of (t.action a))) in
    fits_by_from_yields_list h (range_with_len 0 t.actions) c.map.result (2 ^ 64)
    (YieldsList-from_map _ h (YieldsList-from_range 0 c.actions.result t.actions c.map.ensures.source (omega arith)) refl (λ x r q k. search (rules, row_bytes)))
    (omega (arith, front_sum t t.actions, front_small t t.actions, c.requires))

pub returns : goal.returns
returns g c =
    let t = g.T.Task.meaning c.args.task.now in
    let h : ℕ → ℕ = λ a. length (entry_bytes (entry_of (t.action a))) in
    let all : c.sum.result ≡ length (front t t.actions) =
    sum_by_from_yields_List h (range_with_len 0 t.actions) c.map.result _ c.sum.ensures.ran
    (YieldsList-from_map _ h (YieldsList-from_range 0 c.actions.result t.actions c.map.ensures.source (omega arith)) refl (λ x r q k. search (rules, row_bytes)))
    ∙ front_sum t t.actions in
    record { is = all; small = omega (arith, front_small t t.actions, c.requires) }
