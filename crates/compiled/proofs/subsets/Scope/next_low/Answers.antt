use Rattle.std.proofs.Common.{◌≡◌, true, sym, ap, ◌∙◌, subst}
use Rattle.strips.specs.Sets.{clipped}
use Rattle.strips.specs.Bits.{members}
use Rattle.strips.specs.Parts.{FirstFrom}
use Rattle.compiled.specs.Decoded.{around}
use Rattle.compiled.proofs.Scoped.{lows_off, lows_all, lows_core}
use Rattle.compiled.proofs.subsets.Scope.next_low.Goals as goal
use Rattle.compiled.proofs.subsets.Scope.next_low.Goals.{then-has, else-has}

pub returns-then-not-has : goal.returns-then-not-has
returns-then-not-has c = λ p h. lows_off c.args.self c.args.high p (sym (c.if-not-has.ensures ∙ ap (λ A. A c.args.high) c.all-all.ensures))

pub returns : goal.returns
returns c =
    let s = c.args.self in
    let high = c.args.high in
    let on : around s high ≡ true = sym (c.if-not-has.ensures ∙ ap (λ A. A high) c.all-all.ensures) in
    elim c.if-has.branch [
      | then-has w ↦
          subst (λ A. FirstFrom A c.args.from c.next_below.result)
          (ap (λ l. clipped high (members l)) w.lows-is ∙ (ap (clipped high) c.all-all.ensures ∙ lows_all s high on (sym w.if-has.ensures)))
          c.next_below.ensures
      | else-has w ↦
          subst (λ A. FirstFrom A c.args.from c.next_below.result)
          (ap (λ l. clipped high (members l)) w.lows-is ∙ lows_core s high on (sym w.if-has.ensures))
          c.next_below.ensures
    ]
