use Rattle.std.proofs.Common.{◌+◌, ◌^◌, ℕ, length, refl, ◌∙◌, rules, arith}
use Rattle.std.specs.List.{range_with_len}
use Rattle.std.proofs.lemmas.Iterator.{YieldsList-from_range, YieldsList-from_map}
use Rattle.std.proofs.lemmas.Iterator.Consumers.{sum_by_from_yields_List, fits_by_from_yields_list}
use Rattle.compiled.proofs.Carrying.{extras_of, carriers_sum, carriers_few}
use Rattle.compiled.proofs.layer.Compiled.count_carriers.Goals as goal

pub sum-requires-clause-fits : goal.sum-requires-clause-fits
sum-requires-clause-fits g c =
    let v = c.args.self.now in
    let t = g.T.Task.meaning v.task in
    let h : ℕ → ℕ = λ a. length (extras_of v.order t a) + 1 in
    let few = v.few_actions in
    fits_by_from_yields_list h (range_with_len 0 t.actions) c.map.result (2 ^ 64)
    (YieldsList-from_map _ h (YieldsList-from_range 0 c.actions.result t.actions c.map.ensures.source (omega arith)) refl (λ x r q k. search rules))
    (omega (arith, carriers_sum v.order t v.few_atoms t.actions, carriers_few v.order t v.few_atoms t.actions))

pub returns : goal.returns
returns g c =
    let v = c.args.self.now in
    let t = g.T.Task.meaning v.task in
    let h : ℕ → ℕ = λ a. length (extras_of v.order t a) + 1 in
    sum_by_from_yields_List h (range_with_len 0 t.actions) c.map.result _ c.sum.ensures.ran
    (YieldsList-from_map _ h (YieldsList-from_range 0 c.actions.result t.actions c.map.ensures.source (omega arith)) refl (λ x r q k. search rules))
    ∙ carriers_sum v.order t v.few_atoms t.actions
