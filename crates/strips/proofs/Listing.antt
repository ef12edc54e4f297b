-- Listing the atoms of a set one after another.
use Rattle.std.proofs.Common.{◌≡◌, ℕ, ◌+◌, ◌<◌, ◌≤◌, true, false, ◌≢◌, List, length, get_or, set, sym, ap, ◌∙◌, inl, inr, ⊎_elim, true≢false, arith, get_or-set_other, get_or-set_same}
use Rattle.std.proofs.lemmas.Bool.{cases_lt, cases_eq}
use Rattle.strips.specs.Sets.{Atoms}
use Rattle.strips.specs.Parts.{Listed}

-- the atoms of A from `from` on and below `at` are the first `count` of a list
pub record ListedTo (A : Atoms) (from at count : ℕ) (list : List ℕ) : Type 0 where
  pub few : count ≤ 16
  pub reached : from ≤ at
  pub each : (i : ℕ) → i < count → (from ≤ get_or list i 0) × (A (get_or list i 0) ≡ true) × (get_or list i 0 < at)
  pub rising : (i j : ℕ) → i < j → j < count → get_or list i 0 < get_or list j 0
  pub all : (p : ℕ) → from ≤ p → p < at → A p ≡ true → (i : ℕ) × (i < count) × (get_or list i 0 ≡ p)

-- where the list is full, what is missing lies past its last
pub listed_full : (A : Atoms) (from at count : ℕ) (list : List ℕ) → ListedTo A from at count list → count ≡ 16 → Listed A from count list
listed_full A from at count list h e = record {
  few = h.few;
  each = λ i l. ((h.each i l).0, (h.each i l).1);
  rising = h.rising;
  all = λ p a f. ⊎_elim (λ l. inl (h.all p a l f)) (λ l. inr (e, (let b : get_or list 15 0 < at = (h.each 15 (omega arith)).2 in omega arith))) (cases_lt p at);
}
