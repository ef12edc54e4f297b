use Rattle.std.proofs.Common.{◌<◌, ◌≤◌, length, refl, arith}
use Rattle.strips.specs.Sets.{Within, Apart}
use Rattle.strips.specs.Bits.{members}
use Rattle.strips.proofs.Rowed.{set_each, apart_from, members_within}
use Rattle.strips.proofs.table.RowTable.set_row.Goals as goal

pub invariant_of-self : goal.invariant_of-self
invariant_of-self c =
    let t = c.args.self.now in
    let n = t.atoms in
    let row = c.args.row in
    let long : c.args.action < length t.rows = omega arith in record {
      few_atoms = t.few_atoms;
      few_actions = t.few_actions;
      start_in = t.start_in;
      goal_in = t.goal_in;
      needs_in = set_each (λ r. Within n (members r.needs)) t.rows c.args.action row long t.needs_in (c.if-not-is_below.ensures.within refl);
      adds_in = set_each (λ r. Within n (members r.adds)) t.rows c.args.action row long t.adds_in (c.if-not-is_below-2.ensures.within refl);
      removes_in = set_each (λ r. Within n (members r.removes)) t.rows c.args.action row long t.removes_in (c.if-not-is_below-3.ensures.within refl);
      apart = set_each (λ r. Apart (members r.adds) (members r.removes)) t.rows c.args.action row long t.apart (apart_from (members row.adds) (members row.removes) (members_within row.adds) c.if-meets.ensures);
      cheap = set_each (λ r. r.cost ≤ 65535) t.rows c.args.action row long t.cheap (omega arith);
    }
