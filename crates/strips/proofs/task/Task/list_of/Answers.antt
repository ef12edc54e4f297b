use Rattle.std.proofs.Common.{◌≡◌, ℕ, ◌<◌, true, subst, arith}
use Rattle.strips.specs.Parts.{part_of, Listed}
use Rattle.strips.specs.Task.{Task, Sound}
use Rattle.strips.specs.declared.part.Part.{Part}
use Rattle.strips.proofs.Soundness.{part_within}
use Rattle.strips.proofs.Listing.{listed_full}
use Rattle.strips.proofs.task.Task.list_of.Goals as goal

-- no task has an atom of 2080 or more
low : (t : Task) → Sound t → (x : Part) (p : ℕ) → part_of t x p ≡ true → p < 2080
low t s x p e = let k = part_within t s x p e in let n = s.atoms_in in omega arith

pub overflow_cast-place : goal.overflow_cast-place
overflow_cast-place g c = let l = low (g.Self.Task.meaning c.args.self.now) (g.Self.Task.sound c.args.self.now) c.args.part c.in-Some.atom c.in-Some.ensures.1 in omega arith

pub overflow_add-at : goal.overflow_add-at
overflow_add-at g c = let l = low (g.Self.Task.meaning c.args.self.now) (g.Self.Task.sound c.args.self.now) c.args.part c.in-Some.atom c.in-Some.ensures.1 in omega arith

pub returns : goal.returns
returns g c =
    let A = part_of (g.Self.Task.meaning c.args.self.now) c.args.part in
    let full : c.loop-count.count ≡ 16 = omega arith in
    subst (λ n. Listed A c.args.from n c.loop-count.list) full (listed_full A c.args.from c.loop-count.at c.loop-count.count c.loop-count.list c.loop-count.invariant full)
