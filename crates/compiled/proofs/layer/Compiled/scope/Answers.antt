use Rattle.std.proofs.Common.{sym, ap, ◌∙◌, subst, rules}
use Rattle.strips.specs.Parts.{part_of}
use Rattle.strips.specs.Bits.{members}
use Rattle.bounds.specs.Orders.{size_of}
use Rattle.heuristics.specs.Compiled.{compiled}
use Rattle.compiled.specs.Decoded.{ScopeIs}
use Rattle.compiled.proofs.Removing.{removes_none}
use Rattle.compiled.proofs.Compiling.{asked_scoped, needs_scoped}
use Rattle.compiled.proofs.layer.Compiled.scope.Goals as goal

pub returns-in-Needs : goal.returns-in-Needs
returns-in-Needs g c =
    let v = c.args.self.now in
    let t = g.T.Task.meaning v.task in
    subst (λ x. ScopeIs (size_of v.order) t.atoms (part_of (compiled (size_of v.order) t) x) c.map.result) (sym c.in-Needs.is)
    (needs_scoped v.order t c.in-Needs.action c.carrier.result c.map.result c.carrier.ensures (search rules))

pub returns-in-Removes : goal.returns-in-Removes
returns-in-Removes g c =
    let v = c.args.self.now in
    ap (part_of (compiled (size_of v.order) (g.T.Task.meaning v.task))) c.in-Removes.is ∙ removes_none v.order (g.T.Task.meaning v.task) c.in-Removes.field-0

pub returns-in-Start : goal.returns-in-Start
returns-in-Start g c =
    let v = c.args.self.now in
    let t = g.T.Task.meaning v.task in
    asked_scoped v.order t (g.T.Task.sound v.task) v.few_atoms c.args.part c.in-Start.is c.inside.result (members c.set_of.result) c.inside.ensures.core c.set_of.ensures c.inside.ensures.rim
