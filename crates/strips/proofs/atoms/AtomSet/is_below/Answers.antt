use Rattle.std.proofs.Common.{sym, ◌∙◌}
use Rattle.strips.specs.Bits.{bit, members}
use Rattle.strips.specs.Soundness.{within_clipped}
use Rattle.strips.proofs.Layered.{below_within}
use Rattle.strips.proofs.atoms.AtomSet.is_below.Goals as goal

pub returns : goal.returns
returns c = record {
  test = c.all_below.ensures;
  within = λ e. below_within c.args.n (members c.args.self) (within_clipped 64 (λ p. bit p c.args.self.bits)) (sym e ∙ c.all_below.ensures);
}
