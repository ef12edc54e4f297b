use Rattle.std.proofs.Common.{◌≡◌, ◌≤◌, length, ap, subst, arith}
use Rattle.strips.specs.Bits.{members}
use Rattle.heuristics.specs.Compiled.{flat}
use Rattle.compiled.specs.Decoded.{cargo_set}
use Rattle.compiled.proofs.Carrying.{extras_same, carriers_reach, carrier_found}
use Rattle.compiled.proofs.layer.Compiled.carrier.Goals as goal

pub loop-action-init : goal.loop-action-init
unfolding flat
loop-action-init g c = omega arith

pub returns-then-place-more : goal.returns-then-place-more
returns-then-place-more g c =
    let v = c.args.self.now in
    let t = g.T.Task.meaning v.task in
    let a = c.loop-action.action in
    let e = extras_same v.order t (g.T.Task.sound v.task) v.few_atoms a c.row-row.result (members c.extras-extras.result) c.row-row.ensures c.extras-extras.ensures in
    let k = c.in_ok-cargo.ensures in
    carrier_found v.order t (g.T.Task.sound v.task) v.few_atoms a c.loop-action.place c.args.number c.row-row.result (members c.in_ok-cargo.cargo)
    (let n = c.actions-action-end.ensures in omega arith) c.row-row.ensures
    (subst (λ xs. c.loop-action.place ≤ length xs) e k.0) (subst (λ xs. members c.in_ok-cargo.cargo ≡ cargo_set xs c.loop-action.place) e k.1) c.loop-action.invariant

pub loop-action-preserved : goal.loop-action-preserved
loop-action-preserved g c =
    let v = c.args.self.now in
    let t = g.T.Task.meaning v.task in
    let e = ap length (extras_same v.order t (g.T.Task.sound v.task) v.few_atoms c.loop-action.action c.row-row.result (members c.extras-extras.result) c.row-row.ensures c.extras-extras.ensures) in
    let r = carriers_reach v.order t v.few_atoms c.loop-action.action in
    omega arith
