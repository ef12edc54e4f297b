-- Tasks and the numbers of their files.
use Rattle.std.proofs.Common.{◌≡◌, ℕ, zero, suc, ◌+◌, ◌^◌, ◌<◌, ◌≤◌, Bool, true, false, not, ◌&&◌, eqb, ltb, map, length, get_or, sym, refl, ap, ◌∙◌, subst, ⊎_elim, true≢false, arith, pow_mono}
use lib.Bits.{bit_and}
use Rattle.std.specs.List.{range_with_len, AllByRecursion as All}
use Rattle.std.proofs.lemmas.Nat.{pow_pos, and_le_l}
use Rattle.std.proofs.lemmas.List.FromFn.{length-map-range_with_len, get_or-map-range_with_len, fill_by_all}
use Rattle.std.proofs.ByRecursion.{All-get_or}
use Rattle.std.proofs.lemmas.Bool.{cases_lt, cases_Bool, and_parts, and_from, cond-true, cond-false, lt-ltb, le-ltb, leb-true, ltb-true}
use Rattle.strips.specs.Sets.{Atoms, clipped, first, inside, meets, Within, Apart}
use Rattle.strips.specs.Task.{Action, Task, Sound, SoundAction, no_action, small}
use Rattle.strips.specs.Bits.{bit, bits_of, members, number}
use Rattle.strips.specs.Soundness.{within_clipped}
use Rattle.strips.specs.Rows.{row_action}
use Rattle.strips.specs.declared.atoms.AtomSet.{AtomSet}
use Rattle.strips.specs.declared.row.Row.{Row}
use Rattle.strips.proofs.Binary.{same_number, number_below, number_bit, bit-bit_and, none_bit, high_none, inside_from, same_test}
use Rattle.strips.proofs.Members.{clipped_within, clipped_part, bits_number, bits_of_number, meets_test}
use Rattle.strips.proofs.Layered.{is_small, below_within}
use Rattle.taskfile.specs.Content.{Entry, Content, entry_of, content_of, entry_action, task_of, blank}

-- the numbers of a sound task that is small enough for a file
pub record WellEntry (n : ℕ) (e : Entry) : Type 0 where
  pub needs_in : e.needs < 2 ^ n
  pub adds_in : e.adds < 2 ^ n
  pub removes_in : e.removes < 2 ^ n
  pub apart : bit_and e.adds e.removes ≡ 0
  pub cost_fits : e.cost < 65536

pub record Well (c : Content) : Type 0 where
  pub few_atoms_lem : c.atoms ≤ 64
  pub few_entries : length c.entries ≤ 256
  pub start_in : c.start < 2 ^ c.atoms
  pub goal_in : c.goal < 2 ^ c.atoms
  pub each : All (WellEntry c.atoms) c.entries

-- SETS AND NUMBERS ----------------------------------------------------------

within_64 : (n : ℕ) (A : Atoms) → n ≤ 64 → Within n A → Within 64 A
within_64 n A few h p e = let k = h p e in omega arith

number_within : (n : ℕ) (A : Atoms) → n ≤ 64 → Within n A → number 64 A < 2 ^ n
number_within n A few h =
    let m = pow_mono {i = n} {j = 64} few in
    let l = number_below n A in
    let same : clipped 64 A ≡ clipped n A = clipped_within 64 A (within_64 n A few h) ∙ sym (clipped_within n A h) in
    let e : number 64 A ≡ number n A = same_number 64 (number 64 A) (number n A) (number_below 64 A) (omega arith) (λ p. number_bit 64 A p ∙ (ap (λ (X : Atoms). X p) same ∙ sym (number_bit n A p))) in
    subst (λ x. x < 2 ^ n) (sym e) l

-- the number of a set's atoms below 64
pub number_clipped : (A : Atoms) → number 64 (clipped 64 A) ≡ number 64 A
number_clipped A = same_number 64 (number 64 (clipped 64 A)) (number 64 A) (number_below 64 (clipped 64 A)) (number_below 64 A) (λ p. number_bit 64 (clipped 64 A) p ∙ (twice (ltb p 64) (A p) ∙ sym (number_bit 64 A p)))
  where
    twice : (b u : Bool) → (b && (b && u)) ≡ (b && u)
    twice true u = refl
    twice false u = refl

number_apart : (A B : Atoms) → Apart A B → bit_and (number 64 A) (number 64 B) ≡ 0
number_apart A B h =
    let l = and_le_l (number 64 A) (number 64 B) in
    let k = number_below 64 A in
    same_number 64 (bit_and (number 64 A) (number 64 B)) 0 (omega arith) (pow_pos 64)
    (λ p. ⊎_elim (λ e. absurd (clash p e)) (λ e. e ∙ sym (none_bit p)) (cases_Bool (bit p (bit_and (number 64 A) (number 64 B)))))
  where
    clash : (p : ℕ) → bit p (bit_and (number 64 A) (number 64 B)) ≡ true → ⊥
    clash p e =
        let both = and_parts (bit p (number 64 A)) (bit p (number 64 B)) (sym (bit-bit_and (number 64 A) (number 64 B) p) ∙ e) in
        h p (clipped_part 64 A p (sym (number_bit 64 A p) ∙ both.0)) (clipped_part 64 B p (sym (number_bit 64 B p) ∙ both.1))

pub set_back : (n : ℕ) (A : Atoms) → n ≤ 64 → Within n A → bits_of (number 64 A) ≡ A
set_back n A few h = bits_of_number A ∙ clipped_within 64 A (within_64 n A few h)

bits_within : (n s : ℕ) → s < 2 ^ n → Within n (bits_of s)
bits_within n s h p e = ⊎_elim (λ k. k) (λ k. absurd (true≢false (sym (clipped_part 64 (λ q. bit q s) p e) ∙ high_none n s p h k))) (cases_lt p n)

bits_apart : (x y : ℕ) → bit_and x y ≡ 0 → Apart (bits_of x) (bits_of y)
bits_apart x y h p e f =
    true≢false (sym (and_from (bit p x) (bit p y) (clipped_part 64 (λ q. bit q x) p e) (clipped_part 64 (λ q. bit q y) p f)) ∙ (sym (bit-bit_and x y p) ∙ (ap (bit p) h ∙ none_bit p)))

pub within_members : (s : AtomSet) → Within 64 (members s)
within_members s = within_clipped 64 (λ p. bit p s.bits)

-- what tests on a set say of its number
pub below_number : (A : Atoms) (n : ℕ) → Within 64 A → inside 64 A (first n) ≡ ltb (number 64 A) (2 ^ n)
below_number A n w = same_test (inside 64 A (first n)) (ltb (number 64 A) (2 ^ n)) there back
  where
    there : inside 64 A (first n) ≡ true → ltb (number 64 A) (2 ^ n) ≡ true
    there e =
        lt-ltb (number 64 A) (2 ^ n)
        (⊎_elim
        (λ k. let m = pow_mono {i = 64} {j = n} (omega arith) in let l = number_below 64 A in omega arith)
        (λ k. number_within n A k (below_within n A w (sym e)))
        (cases_lt 64 n))

    back : ltb (number 64 A) (2 ^ n) ≡ true → inside 64 A (first n) ≡ true
    back e =
        let h = subst (λ X. Within n X) (set_back 64 A (omega arith) w) (bits_within n (number 64 A) (ltb-true (number 64 A) (2 ^ n) e)) in
        inside_from 64 A (first n) (λ p l u. lt-ltb p n (h p u))

pub meets_number : (A B : Atoms) → Within 64 A → Within 64 B → not (eqb (bit_and (number 64 A) (number 64 B)) 0) ≡ meets 64 A B
meets_number A B u v =
    meets_test (number 64 A) (number 64 B) (number_below 64 A)
    ∙ (ap (λ X. meets 64 X (bits_of (number 64 B))) (set_back 64 A (omega arith) u) ∙ ap (λ X. meets 64 A X) (set_back 64 B (omega arith) v))

-- ACTIONS AND ENTRIES -------------------------------------------------------

-- actions with the same sets and the same cost are the same
pub same_action : (a b : Action) → a.needs ≡ b.needs → a.adds ≡ b.adds → a.removes ≡ b.removes → a.cost ≡ b.cost → a ≡ b
same_action a b e f g h = λ i. record { needs = e i; adds = f i; removes = g i; cost = h i }

action_back : (n : ℕ) (a : Action) → n ≤ 64 → SoundAction n a → entry_action (entry_of a) ≡ a
action_back n a few s = same_action (entry_action (entry_of a)) a (set_back n a.needs few s.needs_in) (set_back n a.adds few s.adds_in) (set_back n a.removes few s.removes_in) refl

entry_back : (n : ℕ) (e : Entry) → n ≤ 64 → WellEntry n e → entry_of (entry_action e) ≡ e
entry_back n e few w =
    let m = pow_mono {i = n} {j = 64} few in
    let f = bits_number e.needs (let k = w.needs_in in omega arith) in
    let g = bits_number e.adds (let k = w.adds_in in omega arith) in
    let h = bits_number e.removes (let k = w.removes_in in omega arith) in
    sym (λ i. record { needs = f i; adds = g i; removes = h i; cost = e.cost })

well_entry : (n : ℕ) (a : Action) → n ≤ 64 → SoundAction n a → WellEntry n (entry_of a)
well_entry n a few s = record {
  needs_in = number_within n a.needs few s.needs_in;
  adds_in = number_within n a.adds few s.adds_in;
  removes_in = number_within n a.removes few s.removes_in;
  apart = number_apart a.adds a.removes s.apart;
  cost_fits = let k = s.cost_in in omega arith;
}

pub sound_entry : (n : ℕ) (e : Entry) → WellEntry n e → SoundAction n (entry_action e)
sound_entry n e w = record {
  needs_in = bits_within n e.needs w.needs_in;
  adds_in = bits_within n e.adds w.adds_in;
  removes_in = bits_within n e.removes w.removes_in;
  apart = bits_apart e.adds e.removes w.apart;
  cost_in = let k = w.cost_fits in omega arith;
}

pub sound_none : (n : ℕ) → SoundAction n no_action
sound_none n = record {
  needs_in = λ p e. absurd (true≢false (sym e));
  adds_in = λ p e. absurd (true≢false (sym e));
  removes_in = λ p e. absurd (true≢false (sym e));
  apart = λ p e f. true≢false (sym e);
  cost_in = omega arith;
}

-- a row and the numbers of its sets
pub row_back : (r : Row) → entry_action (entry_of (row_action r)) ≡ row_action r
row_back r = same_action (entry_action (entry_of (row_action r))) (row_action r) (back r.needs) (back r.adds) (back r.removes) refl
  where
    back : (s : AtomSet) → bits_of (number 64 (members s)) ≡ members s
    back s = set_back 64 (members s) (omega arith) (within_members s)

-- TASKS AND CONTENTS --------------------------------------------------------

small_parts : (t : Task) → small t ≡ true → (t.atoms ≤ 64) × (t.actions ≤ 256)
small_parts t e = let both = and_parts _ _ e in (leb-true _ _ both.0, leb-true _ _ both.1)

-- tasks that answer alike are the same
pub same_task : (t u : Task) → t.atoms ≡ u.atoms → t.actions ≡ u.actions → ((a : ℕ) → t.action a ≡ u.action a) → t.start ≡ u.start → t.goal ≡ u.goal → t ≡ u
same_task t u e f g h k = λ i. record { atoms = e i; actions = f i; action = λ a. g a i; start = h i; goal = k i }

pub task_back : (t : Task) → Sound t → small t ≡ true → task_of (content_of t) ≡ t
task_back t s e = same_task (task_of (content_of t)) t refl many each (set_back t.atoms t.start few s.start_in) (set_back t.atoms t.goal few s.goal_in)
  where
    few : t.atoms ≤ 64
    few = (small_parts t e).0

    many : length (content_of t).entries ≡ t.actions
    many = length-map-range_with_len (λ a. entry_of (t.action a)) 0 t.actions

    each : (a : ℕ) → (task_of (content_of t)).action a ≡ t.action a
    each a =
        ⊎_elim
        (λ l. cond-true _ _ _ (lt-ltb a (length (content_of t).entries) (omega (arith, many))) ∙ (ap entry_action (get_or-map-range_with_len (λ a. entry_of (t.action a)) 0 t.actions a a blank l (omega arith)) ∙ action_back t.atoms (t.action a) few (s.each a)))
        (λ l. cond-false _ _ _ (le-ltb a (length (content_of t).entries) (omega (arith, many))) ∙ sym (s.past a l))
        (cases_lt a t.actions)

pub well_content : (t : Task) → Sound t → small t ≡ true → Well (content_of t)
well_content t s e =
    let both = small_parts t e in
    let many = length-map-range_with_len (λ a. entry_of (t.action a)) 0 t.actions in
    record {
      few_atoms_lem = both.0;
      few_entries = omega arith;
      start_in = number_within t.atoms t.start both.0 s.start_in;
      goal_in = number_within t.atoms t.goal both.0 s.goal_in;
      each = all 0 t.actions both.0;
    }
  where
    all : (i k : ℕ) → t.atoms ≤ 64 → All (WellEntry t.atoms) (map (λ a. entry_of (t.action a)) (range_with_len i k))
    all i zero few = tt
    all i (suc k) few = (well_entry t.atoms (t.action i) few (s.each i), all (i + 1) k few)

pub content_back : (c : Content) → Well c → content_of (task_of c) ≡ c
content_back c w =
    let m = pow_mono {i = c.atoms} {j = 64} w.few_atoms_lem in
    let s = bits_number c.start (let k = w.start_in in omega arith) in
    let g = bits_number c.goal (let k = w.goal_in in omega arith) in
    let es : c.entries ≡ map (λ a. entry_of ((task_of c).action a)) (range_with_len 0 (length c.entries)) =
    fill_by_all (λ a. entry_of ((task_of c).action a)) c.entries (length c.entries) blank refl
    (λ i l. sym (ap entry_of (cond-true _ _ _ (lt-ltb i (length c.entries) l)) ∙ entry_back c.atoms (get_or c.entries i blank) w.few_atoms_lem (All-get_or (WellEntry c.atoms) c.entries i blank l w.each))) in
    sym (λ i. record { atoms = c.atoms; start = s i; goal = g i; entries = es i })

pub sound_task : (c : Content) → Well c → Sound (task_of c)
sound_task c w = record {
  atoms_in = let k = w.few_atoms_lem in omega arith;
  actions_in = let k = w.few_entries in omega arith;
  each = λ a. ⊎_elim
      (λ l. subst (λ x. SoundAction c.atoms x) (sym (cond-true _ _ _ (lt-ltb a (length c.entries) l))) (sound_entry c.atoms (get_or c.entries a blank) (All-get_or (WellEntry c.atoms) c.entries a blank l w.each)))
      (λ l. subst (λ x. SoundAction c.atoms x) (sym (cond-false _ _ _ (le-ltb a (length c.entries) l))) (sound_none c.atoms))
      (cases_lt a (length c.entries));
  past = λ a l. cond-false _ _ _ (le-ltb a (length c.entries) l);
  start_in = bits_within c.atoms c.start w.start_in;
  goal_in = bits_within c.atoms c.goal w.goal_in;
}

pub small_task : (c : Content) → Well c → small (task_of c) ≡ true
small_task c w = is_small (task_of c) w.few_atoms_lem w.few_entries
