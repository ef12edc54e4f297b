-- Tables of rows, as they are made and after one row is set.
use Rattle.std.proofs.Common.{◌≡◌, ℕ, ◌+◌, ◌-◌, ◌<◌, ◌≤◌, Bool, true, false, cond, ltb, ◌⊎◌, List, ◌++◌, drop, length, get_or, set, replicate, sym, refl, ap, ◌∙◌, subst, inl, inr, ⊎_elim, true≢false, arith, get_or-set_other, get_or-set_same, ltb-false, ltb-true}
use lib.ListN.{get_or-append, get_or-replicate, length-replicate}
use Rattle.std.proofs.lemmas.Bool.{cases_lt, cases_eq, cases_Bool}
use Rattle.std.proofs.lemmas.List.{get_or_past, get_or-drop, get_or-append_right}
use Rattle.strips.specs.Sets.{Atoms, nothing, clipped, meets, Within, Apart}
use Rattle.strips.specs.Task.{Action, Task, Sound, SoundAction, no_action}
use Rattle.strips.specs.Bits.{bit, members}
use Rattle.strips.specs.Soundness.{within_clipped}
use Rattle.strips.specs.Rows.{row_action, clipped_action, blank_row, no_row, rows_task}
use Rattle.strips.specs.Table.{blank_task}
use Rattle.strips.specs.declared.row.Row.{Row}
use Rattle.strips.specs.declared.atoms.AtomSet.{AtomSet}
use Rattle.strips.proofs.Binary.{meets_from}
use Rattle.strips.proofs.Members.{bits_none, clipped_within}

-- no atom is in a set without bits
pub empty_none : (p : ℕ) → members (record { bits = 0 }) p ≡ true → ⊥
empty_none p e = true≢false (sym e ∙ ap (λ (A : Atoms). A p) bits_none)

-- what holds of a blank row, and past the last, holds of each row of a blank table
pub blank_each : (P : Row → Type 0) → P blank_row → P no_row → (a : ℕ) → P (get_or (replicate 256 blank_row) a no_row)
blank_each P b n a = ⊎_elim (λ l. subst P (sym (get_or-replicate 256 a blank_row no_row l)) b) (λ l. subst P (sym (get_or_past (replicate 256 blank_row) a no_row (let e = length-replicate 256 blank_row in omega arith))) n) (cases_lt a 256)

-- what holds of each row and of another holds of each once the other is set
pub set_each : (P : Row → Type 0) (rows : List Row) (i : ℕ) (r : Row) → i < length rows → ((a : ℕ) → P (get_or rows a no_row)) → P r → (a : ℕ) → P (get_or (set rows i r) a no_row)
set_each P rows i r l h p a =
    ⊎_elim
    (λ e. subst (λ n. P (get_or (set rows i r) n no_row)) (sym e) (subst P (sym (get_or-set_same rows i r no_row l)) p))
    (λ e. subst P (sym (get_or-set_other rows i a r no_row e)) (h a))
    (cases_eq a i)

-- sets that do not meet have no atom in common
pub apart_from : (A B : Atoms) → Within 64 A → false ≡ meets 64 A B → Apart A B
apart_from A B w e p a b = true≢false (sym (meets_from 64 A B p (w p a) a b) ∙ sym e)

pub members_within : (s : AtomSet) → Within 64 (members s)
members_within s = within_clipped 64 (λ p. bit p s.bits)

blank_action_is : row_action blank_row ≡ (record { needs = nothing; adds = nothing; removes = nothing; cost = 1 })
blank_action_is = λ i. record { needs = bits_none i; adds = bits_none i; removes = bits_none i; cost = 1 }

-- the task of a blank table
pub blank_made : (n k : ℕ) → k ≤ 256 → rows_task n k (record { bits = 0 }) (record { bits = 0 }) (replicate 256 blank_row) ≡ blank_task n k
blank_made n k h = λ i. record {
  atoms = n;
  actions = k;
  action = λ a. each a (cases_Bool (ltb a k)) i;
  start = bits_none i;
  goal = bits_none i;
}
  where
    Is : ℕ → Bool → Type 0
    Is a b = cond b (row_action (get_or (replicate 256 blank_row) a no_row)) no_action ≡ cond b (record { needs = nothing; adds = nothing; removes = nothing; cost = 1 }) no_action

    each : (a : ℕ) → (ltb a k ≡ true) ⊎ (ltb a k ≡ false) → Is a (ltb a k)
    each a (inl e) = subst (Is a) (sym e) (let l = ltb-true a k e in ap row_action (get_or-replicate 256 a blank_row no_row (omega arith)) ∙ blank_action_is)
    each a (inr e) = subst (Is a) (sym e) refl

-- A copy: rows that stand for the actions of a task, one by one.

no_row_action : row_action no_row ≡ no_action
no_row_action = λ i. record { needs = bits_none i; adds = bits_none i; removes = bits_none i; cost = 0 }

clipped_small : (n : ℕ) (a : Action) → n ≤ 64 → SoundAction n a → clipped_action 64 a ≡ a
clipped_small n a l h = λ i. record {
  needs = clipped_within 64 a.needs (λ p e. let k = h.needs_in p e in omega arith) i;
  adds = clipped_within 64 a.adds (λ p e. let k = h.adds_in p e in omega arith) i;
  removes = clipped_within 64 a.removes (λ p e. let k = h.removes_in p e in omega arith) i;
  cost = a.cost;
}

-- the row of a small task's action stands for it
pub row_whole : (t : Task) → Sound t → t.atoms ≤ 64 → (a : ℕ) (r : Row) → row_action r ≡ clipped_action 64 (t.action a) → row_action r ≡ t.action a
row_whole t s l a r e = e ∙ clipped_small t.atoms (t.action a) l (s.each a)

-- a small task's start or goal as a set
pub set_whole : (n : ℕ) (A : Atoms) → n ≤ 64 → Within n A → (x : AtomSet) → members x ≡ clipped 64 A → members x ≡ A
set_whole n A l h x e = e ∙ clipped_within 64 A (λ p f. let k = h p f in omega arith)

-- one row more
pub copied_more : (t : Task) (rows : List Row) (i : ℕ) (r : Row) → i < length rows → row_action r ≡ t.action i →
    ((a : ℕ) → a < i → row_action (get_or rows a no_row) ≡ t.action a) → (a : ℕ) → a < i + 1 → row_action (get_or (set rows i r) a no_row) ≡ t.action a
copied_more t rows i r l e f a h =
    ⊎_elim
    (λ q. ap row_action (ap (λ n. get_or (set rows i r) n no_row) q ∙ get_or-set_same rows i r no_row l) ∙ (e ∙ ap t.action (sym q)))
    (λ q. ap row_action (get_or-set_other rows i a r no_row q) ∙ f a (omega arith))
    (cases_eq a i)

-- the rows of a task's actions, and behind them rows that are no action's
pub copied_all : (t : Task) → Sound t → (k : ℕ) (rows : List Row) → length rows ≡ t.actions →
    ((a : ℕ) → a < t.actions → row_action (get_or rows a no_row) ≡ t.action a) → (a : ℕ) → row_action (get_or (rows ++ drop k (replicate 256 no_row)) a no_row) ≡ t.action a
copied_all t s k rows long f a =
    ⊎_elim
    (λ l. ap row_action (get_or-append rows past no_row a (omega arith)) ∙ f a l)
    (λ (l : t.actions ≤ a). ap row_action (get_or-append_right rows past t.actions a no_row long l ∙ (get_or-drop k (replicate 256 no_row) (a - t.actions) no_row ∙ empty_rows (k + (a - t.actions)))) ∙ (no_row_action ∙ sym (s.past a l)))
    (cases_lt a t.actions)
  where
    past : List Row
    past = drop k (replicate 256 no_row)

    empty_rows : (i : ℕ) → get_or (replicate 256 no_row) i no_row ≡ no_row
    empty_rows i = ⊎_elim (λ l. get_or-replicate 256 i no_row no_row l) (λ l. get_or_past (replicate 256 no_row) i no_row (let e = length-replicate 256 no_row in omega arith)) (cases_lt i 256)

-- the whole copy
pub copied_task : (t : Task) → Sound t → (start goal : AtomSet) (rows : List Row) → members start ≡ t.start → members goal ≡ t.goal →
    ((a : ℕ) → row_action (get_or rows a no_row) ≡ t.action a) → rows_task t.atoms t.actions start goal rows ≡ t
copied_task t s start goal rows e f h = λ i. record {
  atoms = t.atoms;
  actions = t.actions;
  action = λ a. each a (cases_Bool (ltb a t.actions)) i;
  start = e i;
  goal = f i;
}
  where
    each : (a : ℕ) → (ltb a t.actions ≡ true) ⊎ (ltb a t.actions ≡ false) → cond (ltb a t.actions) (row_action (get_or rows a no_row)) no_action ≡ t.action a
    each a (inl q) = rw q (h a)
    each a (inr q) = rw q (sym (s.past a (ltb-false a t.actions q)))
