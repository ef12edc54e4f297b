use Rattle.std.proofs.Common.{◌-◌, Some, None, sym, ap, ◌∙◌, subst, arith}
use Rattle.strips.specs.Sets.{plus, clipped}
use Rattle.strips.specs.Bits.{members}
use Rattle.strips.proofs.Members.{bits_none}
use Rattle.compiled.specs.Decoded.{CargoIs, rising}
use Rattle.compiled.proofs.Rising.{AtomAt, nth_at}
use Rattle.compiled.proofs.Carrying.{cargo_found}
use Rattle.compiled.proofs.carriers.cargo_at.Goals as goal

pub returns-in_err-extra : goal.returns-in_err-extra
returns-in_err-extra c =
    let n = subst (λ s. AtomAt (rising 64 (members s)) (c.args.place - 1) None) c.into_iter.ensures.into_iter_gives (nth_at c.into_iter.result _ (c.args.place - 1) None c.in_err-extra.ensures.ran) in
    subst (CargoIs (rising 64 (members c.args.extras)) c.args.place) (sym c.from_residual.ensures) (let z = c.if-place-eq0.false in omega arith)

pub returns : goal.returns
returns c =
    cargo_found (rising 64 (members c.args.extras)) c.args.place c.in_ok-extra.extra (members c.with.result) c.if-place-eq0.false
    (subst (λ s. AtomAt (rising 64 (members s)) (c.args.place - 1) (Some c.in_ok-extra.extra)) c.into_iter.ensures.into_iter_gives (nth_at c.into_iter.result _ (c.args.place - 1) (Some c.in_ok-extra.extra) c.in_ok-extra.ensures.ran))
    (c.with.ensures ∙ ap (λ A. clipped 64 (plus c.in_ok-extra.extra A)) bits_none)
