use Rattle.std.proofs.Common.{◌≡◌, ap, add-one, arith}
use Rattle.strips.specs.Bits.{members}
use Rattle.strips.proofs.Members.{bits_none}
use Rattle.compiled.proofs.Numbering.{tri, two_count, pair_is}
use Rattle.compiled.proofs.subsets.SmallSets.pair_at.Goals as goal

pub loop-high-init : goal.loop-high-init
unfolding tri
loop-high-init c = omega arith

pub loop-high-preserved : goal.loop-high-preserved
unfolding tri
loop-high-preserved c = rw (add-one c.loop-high.high) (omega arith)

pub returns-then-low-high : goal.returns-then-low-high
returns-then-low-high c =
    pair_is c.args.self.atoms c.loop-high.low c.loop-high.high c.args.place (members record { bits = 0 }) (members c.with.result) (members c.with-then-low-high.result)
    c.args.self.few c.if-low-high.true c.loop-high-test.true c.loop-high.invariant bits_none c.with.ensures c.with-then-low-high.ensures

pub returns : goal.returns
returns c = rw two_count (let e : c.loop-high.high ≡ c.args.self.atoms = omega arith in let t = ap tri e in omega arith)
