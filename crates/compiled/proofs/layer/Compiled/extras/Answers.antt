use Rattle.std.proofs.Common.{◌≡◌, sym, ap, ◌∙◌, subst}
use Rattle.strips.specs.Sets.{joined, without, first, clipped}
use Rattle.strips.specs.Bits.{members}
use Rattle.compiled.specs.Decoded.{extras}
use Rattle.compiled.proofs.Carrying.{first_without}
use Rattle.compiled.proofs.layer.Compiled.extras.Goals as goal

pub returns-in-Two : goal.returns-in-Two
returns-in-Two g c =
    let n = (g.T.Task.meaning c.args.self.now.task).atoms in
    let touched = joined (members c.args.row.adds) (members c.args.row.removes) in
    subst (λ o. members c.without.result ≡ extras o n touched) (sym c.in-Two.is)
    (c.without.ensures ∙ (ap (without (members c.first.result)) c.joined-touched.ensures
    ∙ first_without n touched (members c.first.result) c.args.self.now.few_atoms (c.first.ensures ∙ ap (λ k. clipped 64 (first k)) c.atoms.ensures)))
