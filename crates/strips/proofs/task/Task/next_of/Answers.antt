use Rattle.std.proofs.Common.{rules, ◌≡◌, ℕ, ◌<◌, ◌≤◌, true, false, Some, None, Option, MatchOption, ⊎_elim, arith}
use Rattle.std.proofs.lemmas.Bool.{cases_lt}
use Rattle.std.proofs.lemmas.Iterator.{first_from_Range}
use Rattle.strips.specs.Parts.{part_of, FirstFrom}
use Rattle.strips.specs.Sets.{Atoms, Within}
use Rattle.strips.proofs.Soundness.{past_within, part_within}
use Rattle.strips.proofs.task.Task.next_of.Goals as goal

-- what is the first below the number of atoms is the first of all
whole : (A : Atoms) (from n end : ℕ) → end ≡ n → Within n A → (r : Option ℕ) → MatchOption r ((p : ℕ) → from ≤ p → p < end → A p ≡ false) (λ q. (from ≤ q) × (q < end) × (A q ≡ true) × ((p : ℕ) → from ≤ p → p < q → A p ≡ false)) → FirstFrom A from r
whole A from n end e h None m = λ p l. ⊎_elim (λ k. m p l k) (λ k. past_within n A h p (omega arith)) (cases_lt p end)
whole A from n end e h (Some q) m = (m.0, m.2, m.3)

pub returns : goal.returns
returns g c =
    let t = g.Self.Task.meaning c.args.self.now in
    let A = part_of t c.args.part in
    whole A c.args.from t.atoms c.atoms.result c.atoms.ensures (part_within t (g.Self.Task.sound c.args.self.now) c.args.part) c.find.result (first_from_Range (record { start = c.args.from; end = c.atoms.result }) _ _ c.find.result (λ p. A p ≡ true) (λ p. A p ≡ false) c.find.ensures.ran (λ p q k. search rules) (λ p q k. search rules))
