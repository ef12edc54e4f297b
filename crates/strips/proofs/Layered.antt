-- What the making of a layer shows.
use Rattle.std.proofs.Common.{◌≡◌, ℕ, ◌<◌, ◌≤◌, Bool, true, false, cond, leb, ◌⊎◌, get_or, replicate, sym, ◌∙◌, subst, inl, inr, ⊎_elim, true≢false, arith, ltb-true, lt-ltb, le-leb, leb-true}
use lib.ListN.{get_or-replicate, length-replicate}
use Rattle.std.proofs.lemmas.List.{get_or_past}
use Rattle.std.proofs.lemmas.Bool.{and_from, and_parts, cases_lt, cases_Bool}
use Rattle.strips.specs.Sets.{Atoms, nothing, clipped, first, inside, Within}
use Rattle.strips.specs.Task.{Action, Task, small}
use Rattle.strips.specs.Rows.{row_action, clipped_action}
use Rattle.strips.specs.Closed.{closed_of}
use Rattle.strips.specs.declared.row.Row.{Row}
use Rattle.strips.specs.Layers.{idle}
use Rattle.strips.proofs.Binary.{inside_each, inside_from}
use Rattle.strips.proofs.Members.{clipped_within, bits_none}

pub is_small : (t : Task) → t.atoms ≤ 64 → t.actions ≤ 256 → small t ≡ true
is_small t a b = and_from (leb t.atoms 64) (leb t.actions 256) (le-leb t.atoms 64 a) (le-leb t.actions 256 b)

pub small_parts : (t : Task) → small t ≡ true → (t.atoms ≤ 64) × (t.actions ≤ 256)
small_parts t e = let h = and_parts (leb t.atoms 64) (leb t.actions 256) e in (leb-true t.atoms 64 h.0, leb-true t.actions 256 h.1)

-- what the test for atoms below n says
pub below_within : (n : ℕ) (A : Atoms) → Within 64 A → true ≡ inside 64 A (first n) → Within n A
below_within n A w e p h = ltb-true p n (inside_each 64 A (first n) (sym e) p (w p h) h)

-- the marks of no closed action
pub none_closed : closed_of (record { marks = replicate 256 false }) ≡ (λ _. false)
none_closed = λ i a. each a (cases_lt a 256) i
  where
    each : (a : ℕ) → (a < 256) ⊎ (256 ≤ a) → get_or (replicate 256 false) a false ≡ false
    each a (inl l) = get_or-replicate 256 a false false l
    each a (inr l) = get_or_past (replicate 256 false) a false (let e = length-replicate 256 false in omega arith)

-- the row of a closed action
pub idle_row : (a : Action) (r : Row) (b : Bool) → row_action r ≡ clipped_action 64 a → true ≡ b →
    row_action (record { needs = r.needs; adds = record { bits = 0 }; removes = record { bits = 0 }; cost = r.cost }) ≡ clipped_action 64 (cond b (idle a) a)
idle_row a r b e f = subst (λ c. row_action (record { needs = r.needs; adds = record { bits = 0 }; removes = record { bits = 0 }; cost = r.cost }) ≡ clipped_action 64 (cond c (idle a) a)) f
    (λ i. record { needs = (e i).needs; adds = (bits_none ∙ sym clipped_nothing) i; removes = (bits_none ∙ sym clipped_nothing) i; cost = (e i).cost })
  where
    clipped_nothing : clipped 64 nothing ≡ nothing
    clipped_nothing = clipped_within 64 nothing (λ p e. absurd (true≢false (sym e)))

-- what a look at each action from n on finds
pub none_above : (n e : ℕ) (closed : ℕ → Bool) → 256 ≤ e → ((a : ℕ) → n ≤ a → a < e → closed a ≡ false) → true ≡ inside 256 closed (first n)
none_above n e closed l h = sym (inside_from 256 closed (first n) (λ p k c. ⊎_elim (λ q. lt-ltb p n q) (λ q. absurd (true≢false (sym c ∙ h p q (omega arith)))) (cases_lt p n)))

pub one_above : (n a : ℕ) (closed : ℕ → Bool) → n ≤ a → a < 256 → true ≡ closed a → false ≡ inside 256 closed (first n)
one_above n a closed l k c = ⊎_elim (λ e. let q = ltb-true a n (inside_each 256 closed (first n) e a k (sym c)) in let z : ⊥ = omega arith in absurd z) (λ e. sym e) (cases_Bool (inside 256 closed (first n)))
