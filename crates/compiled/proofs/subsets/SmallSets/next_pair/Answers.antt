use Rattle.std.proofs.Common.{◌≡◌, Some, None, subst, add-one, arith}
use Rattle.strips.specs.Parts.{FirstFrom}
use Rattle.compiled.specs.Decoded.{lows}
use Rattle.compiled.proofs.Numbering.{tri, tri_le}
use Rattle.compiled.proofs.Scoped.{lows_under, NoneBelow, pairs_found, pairs_again, pairs_none}
use Rattle.compiled.proofs.subsets.SmallSets.next_pair.Goals as goal

pub loop-high-init : goal.loop-high-init
unfolding tri
loop-high-init c = (omega arith, λ i j h k g. absurd (omega arith))

pub overflow_add-result : goal.overflow_add-result
overflow_add-result c =
    let t = tri_le c.loop-high.high (omega arith) in
    let l = lows_under c.args.scope c.loop-high.high c.in-Some.low c.in-Some.ensures.1 in
    omega arith

pub returns-in-Some : goal.returns-in-Some
returns-in-Some c =
    pairs_found c.args.self.atoms c.args.from c.loop-high.base c.loop-high.high c.in-Some.low c.args.scope c.loop-high.invariant.0 c.loop-high-test.true c.loop-high.invariant.1
    (subst (λ z. FirstFrom (lows c.args.scope c.loop-high.high) z (Some c.in-Some.low)) c.saturating_sub.ensures c.in-Some.ensures)

pub overflow_add-base : goal.overflow_add-base
overflow_add-base c = let t = tri_le c.loop-high.high (omega arith) in omega arith

pub loop-high-preserved : goal.loop-high-preserved
unfolding tri
loop-high-preserved c = (
  rw (add-one c.loop-high.high) (omega arith),
  pairs_again c.args.self.atoms c.args.from c.loop-high.base c.loop-high.high c.args.scope c.loop-high.invariant.0 c.loop-high.invariant.1
      (subst (λ z. FirstFrom (lows c.args.scope c.loop-high.high) z None) c.saturating_sub.ensures c.in_default.ensures),
)

pub returns : goal.returns
returns c =
    let e : c.loop-high.high ≡ c.args.self.atoms = omega arith in
    pairs_none c.args.self.atoms c.args.from c.args.scope (subst (NoneBelow c.args.self.atoms c.args.scope c.args.from) e c.loop-high.invariant.1)
