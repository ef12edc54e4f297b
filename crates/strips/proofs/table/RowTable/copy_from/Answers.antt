use Rattle.std.proofs.Common.{◌≡◌, ℕ, ◌≤◌, get_or, sym, ap, ◌∙◌, subst, arith}
use Rattle.strips.specs.Sets.{Atoms, Within, Apart}
use Rattle.strips.specs.Bits.{members}
use Rattle.strips.specs.Task.{Action}
use Rattle.strips.specs.Rows.{no_row, rows_task}
use Rattle.strips.proofs.Layered.{small_parts}
use Rattle.strips.proofs.Rowed.{set_whole, copied_task}
use Rattle.strips.proofs.table.RowTable.copy_from.Goals as goal

pub invariant_of-self : goal.invariant_of-self
invariant_of-self g c =
    let t = g.T.Task.meaning c.args.task.now in
    let s = g.T.Task.sound c.args.task.now in
    let n = c.atoms.result in
    let rows = c.rows_of.result in
    let e : t.atoms ≡ n = sym c.atoms.ensures in
    let small = small_parts t (sym c.if-not-is_small.ensures) in
    let few = small.0 in
    let to : (A : Atoms) → Within t.atoms A → Within n A = λ A. subst (λ k. Within k A) e in
    let is : (a : ℕ) → t.action a ≡ record { needs = members (get_or rows a no_row).needs; adds = members (get_or rows a no_row).adds; removes = members (get_or rows a no_row).removes; cost = (get_or rows a no_row).cost } = λ a. sym (c.rows_of.ensures a) in record {
      few_atoms = omega arith;
      few_actions = let f = small.1 in omega arith;
      start_in = to (members c.set_of.result) (subst (Within t.atoms) (sym (set_whole t.atoms t.start few s.start_in c.set_of.result c.set_of.ensures)) s.start_in);
      goal_in = to (members c.set_of-2.result) (subst (Within t.atoms) (sym (set_whole t.atoms t.goal few s.goal_in c.set_of-2.result c.set_of-2.ensures)) s.goal_in);
      needs_in = λ a. to (members (get_or rows a no_row).needs) (subst (λ (x : Action). Within t.atoms x.needs) (is a) (s.each a).needs_in);
      adds_in = λ a. to (members (get_or rows a no_row).adds) (subst (λ (x : Action). Within t.atoms x.adds) (is a) (s.each a).adds_in);
      removes_in = λ a. to (members (get_or rows a no_row).removes) (subst (λ (x : Action). Within t.atoms x.removes) (is a) (s.each a).removes_in);
      apart = λ a. subst (λ (x : Action). Apart x.adds x.removes) (is a) (s.each a).apart;
      cheap = λ a. subst (λ (x : Action). x.cost ≤ 65535) (is a) (s.each a).cost_in;
    }

pub returns : goal.returns
returns g c =
    let t = g.T.Task.meaning c.args.task.now in
    let s = g.T.Task.sound c.args.task.now in
    let e = c.atoms.ensures in
    let f = c.actions.ensures in
    let few = (small_parts t (sym c.if-not-is_small.ensures)).0 in (
      rw (sym c.if-not-is_small.ensures),
      ap (λ k. rows_task k c.actions.result c.set_of.result c.set_of-2.result c.rows_of.result) e
          ∙ (ap (λ k. rows_task t.atoms k c.set_of.result c.set_of-2.result c.rows_of.result) f
          ∙ copied_task t s c.set_of.result c.set_of-2.result c.rows_of.result
          (set_whole t.atoms t.start few s.start_in c.set_of.result c.set_of.ensures)
          (set_whole t.atoms t.goal few s.goal_in c.set_of-2.result c.set_of-2.ensures)
          c.rows_of.ensures),
    )
