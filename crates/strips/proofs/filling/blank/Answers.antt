use Rattle.std.proofs.Common.{◌≤◌, arith}
use Rattle.strips.specs.Sets.{Within, Apart}
use Rattle.strips.specs.Bits.{members}
use Rattle.strips.proofs.Rowed.{empty_none, blank_each, blank_made}
use Rattle.strips.proofs.filling.blank.Goals as goal

pub invariant_of-result : goal.invariant_of-result
invariant_of-result c =
    let n = c.args.atoms in record {
      few_atoms = omega arith;
      few_actions = omega arith;
      start_in = λ p h. absurd (empty_none p h);
      goal_in = λ p h. absurd (empty_none p h);
      needs_in = blank_each (λ r. Within n (members r.needs)) (λ p h. absurd (empty_none p h)) (λ p h. absurd (empty_none p h));
      adds_in = blank_each (λ r. Within n (members r.adds)) (λ p h. absurd (empty_none p h)) (λ p h. absurd (empty_none p h));
      removes_in = blank_each (λ r. Within n (members r.removes)) (λ p h. absurd (empty_none p h)) (λ p h. absurd (empty_none p h));
      apart = blank_each (λ r. Apart (members r.adds) (members r.removes)) (λ p h _. empty_none p h) (λ p h _. empty_none p h);
      cheap = blank_each (λ r. r.cost ≤ 65535) (omega arith) (omega arith);
    }

pub returns : goal.returns
returns c =
    blank_made c.args.atoms c.args.actions (omega arith)
