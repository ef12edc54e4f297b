-- The task that a view means.
use Rattle.std.proofs.Common.{◌≡◌, ℕ, ◌-◌, ◌<◌, ◌≤◌, min, Bool, true, false, cond, not, ◌&&◌, List, [], length, get_or, take, drop, Some, None, Ok, Err, Option, Result, sym, refl, ap, ◌∙◌, subst, ⊎_elim, true≢false, arith}
use native.Mathlib.Nat.{min-eq_left}
use Rattle.std.specs.Result.{IfOk, result_unwrap_or}
use Rattle.std.proofs.ByRecursion.{All-get_or}
use Rattle.std.proofs.lemmas.List.{take_rest}
use Rattle.std.proofs.lemmas.Bool.{cases_lt, and_parts, cond-true, cond-false, lt-ltb, le-ltb}
use Rattle.strips.specs.Sets.{Atoms, nothing, without, clipped, Within}
use Rattle.strips.specs.Task.{Action, SoundAction, no_action}
use Rattle.strips.specs.Bits.{bit, bits_of, members, number}
use Rattle.strips.specs.Parts.{part_of}
use Rattle.strips.specs.Rows.{row_action}
use Rattle.strips.specs.Soundness.{within_clipped, trimmed_action}
use Rattle.strips.specs.declared.atoms.AtomSet.{AtomSet}
use Rattle.strips.specs.declared.part.Part.{Part}
use Rattle.strips.specs.declared.part.Part.TheVariants.{Needs, Adds, Removes, Start, Goal}
use Rattle.strips.specs.declared.row.Row.{Row}
use Rattle.strips.proofs.Members.{same_atoms, clipped_within, clipped_part, bits_none}
use Rattle.taskfile.specs.Content.{Entry, Content, entry_of, entry_action, task_of, blank}
use Rattle.taskfile.specs.Format.{Accepted}
use Rattle.taskfile.specs.Reading.{Bytes, set_at, entry, records, header, content}
use Rattle.taskfile.specs.Reads.{Placed, Reads}
use Rattle.taskfile.specs.View.{action_or_none, raw, view_task}
use Rattle.taskfile.specs.declared.fault.Fault.{Fault}
use Rattle.taskfile.specs.declared.reader.Reader.{Reader}
use Rattle.taskfile.specs.declared.view.FileView.{FileView}
use Rattle.taskfile.proofs.Contents.{WellEntry, Well, same_action, same_task, set_back, within_members, row_back, sound_entry, sound_none}
use Rattle.taskfile.proofs.Strict.{bytes_drop, entry_inv, entry_on, set_inv, records_inv, header_inv, content_sound}
use Rattle.taskfile.proofs.Whole.{all_read, ended_well, content_accepted}

-- a sound action has nothing to trim
trimmed_same : (n : ℕ) (a : Action) → SoundAction n a → trimmed_action n a ≡ a
trimmed_same n a s = same_action (trimmed_action n a) a
    (clipped_within n a.needs s.needs_in)
    (clipped_within n a.adds s.adds_in)
    (ap (clipped n) apart ∙ clipped_within n a.removes s.removes_in)
    (min-eq_left s.cost_in)
  where
    keep : (x y : Bool) → (x ≡ true → y ≡ true → ⊥) → (y && not x) ≡ y
    keep true true h = absurd (h refl refl)
    keep true false h = refl
    keep false true h = refl
    keep false false h = refl

    apart : without a.removes a.adds ≡ a.removes
    apart = same_atoms (without a.removes a.adds) a.removes (λ p. keep (a.adds p) (a.removes p) (s.apart p))

module _ (v : FileView) where
  pub view_actions : (view_task v).actions ≡ v.actions
  unfolding view_task
  view_actions = let h = v.few in omega arith

  pub view_past : (a : ℕ) → v.actions ≤ a → (view_task v).action a ≡ no_action
  unfolding view_task
  view_past a l = cond-false _ _ _ (le-ltb a (min v.actions 16640) (omega arith))

  set_kept : (s : AtomSet) → Within v.atoms (members s) → clipped (min v.atoms 2080) (members s) ≡ members s
  set_kept s h = clipped_within (min v.atoms 2080) (members s) (λ p e. let a = h p e in let b = within_members s p e in omega arith)

  pub view_start : (view_task v).start ≡ members v.start
  unfolding view_task
  view_start = set_kept v.start v.start_in

  pub view_goal : (view_task v).goal ≡ members v.goal
  unfolding view_task
  view_goal = set_kept v.goal v.goal_in

  module _ (few : v.atoms < 256) where
    same_atoms_count : min v.atoms 2080 ≡ v.atoms
    same_atoms_count = omega arith

    pub view_atoms : (view_task v).atoms ≡ v.atoms
    unfolding view_task
    view_atoms = same_atoms_count

    view_action : (a : ℕ) (x : Action) → a < v.actions → (raw v).action a ≡ x → SoundAction v.atoms x → (view_task v).action a ≡ x
    unfolding view_task
    view_action a x l e s =
        cond-true _ _ _ (lt-ltb a (min v.actions 16640) (let h = v.few in omega arith))
        ∙ (ap (trimmed_action (min v.atoms 2080)) e ∙ (ap (λ n. trimmed_action n x) same_atoms_count ∙ trimmed_same v.atoms x s))

    -- what reading the record of an action shows
    module _ (a : ℕ) (l : a < v.actions) where
      abbrev record_bytes : List ℕ
      record_bytes = take (length v.records.now - get_or v.places a 0) (drop (get_or v.places a 0) v.records.now)

      same_bytes : drop (get_or v.places a 0) v.records.now ≡ record_bytes
      same_bytes = sym (take_rest v.records.now (get_or v.places a 0))

      abbrev reading : List ℕ → Result (Entry × List ℕ) Fault
      reading b = entry v.atoms (length v.records.now) (Some a) b

      pub row_shown : (r : Row) (rest : List ℕ) → SoundAction v.atoms (row_action r) → reading record_bytes ≡ Ok (entry_of (row_action r), rest) → row_action r ≡ (view_task v).action a
      row_shown r rest s e = sym (view_action a (row_action r) l (ap (λ b. action_or_none (reading b)) same_bytes ∙ (ap action_or_none e ∙ row_back r)) s)

      pub none_shown : (f : Fault) → reading record_bytes ≡ Err f → (view_task v).action a ≡ no_action
      none_shown f e = view_action a no_action l (ap (λ b. action_or_none (reading b)) same_bytes ∙ ap action_or_none e) (sound_none v.atoms)

-- WHAT THE ANSWERS SHOW -----------------------------------------------------

pub no_row : row_action (record { needs = record { bits = 0 }; adds = record { bits = 0 }; removes = record { bits = 0 }; cost = 0 }) ≡ no_action
no_row = same_action _ no_action bits_none bits_none bits_none refl

-- the row of a record that was read, and no row where it has a fault
pub row_out : (v : FileView) → v.atoms < 256 → (a : ℕ) → a < v.actions → (r s : Reader) (q : Result Row Fault)
    → Reads (λ x. entry_of (row_action x)) r s q (entry v.atoms (length v.records.now) (Some a) (take (length v.records.now - get_or v.places a 0) (drop (get_or v.places a 0) v.records.now)))
    → IfOk q (λ x. SoundAction v.atoms (row_action x)) → row_action (result_unwrap_or q (record { needs = record { bits = 0 }; adds = record { bits = 0 }; removes = record { bits = 0 }; cost = 0 })) ≡ (view_task v).action a
row_out v few a l r s (Ok x) e sound = row_shown v few a l x _ sound e.0
row_out v few a l r s (Err f) e sound = no_row ∙ sym (none_shown v few a l f e)

-- a set of atoms below 64 is all there
pub held : (s : AtomSet) (A : Atoms) → members s ≡ A → members s ≡ clipped 64 A
held s A e = e ∙ sym (clipped_within 64 A (subst (λ X. Within 64 X) e (within_members s)))

action_within : (n : ℕ) (b : Bool) (r : Result (Entry × List ℕ) Fault) → let a : Action = cond b (trimmed_action n (action_or_none r)) no_action in Within 64 a.needs × Within 64 a.adds × Within 64 a.removes
action_within n true (Ok x) = (
  λ p h. clipped_below x.0.needs p (clipped_part n (bits_of x.0.needs) p h),
  λ p h. clipped_below x.0.adds p (clipped_part n (bits_of x.0.adds) p h),
  λ p h. clipped_below x.0.removes p (and_parts _ _ (clipped_part n (without (bits_of x.0.removes) (bits_of x.0.adds)) p h)).0,
)
  where
    clipped_below : (s p : ℕ) → bits_of s p ≡ true → p < 64
    clipped_below s p h = within_clipped 64 (λ q. bit q s) p h
action_within n true (Err f) = (
  λ p h. absurd (true≢false (sym (clipped_part n nothing p h))),
  λ p h. absurd (true≢false (sym (clipped_part n nothing p h))),
  λ p h. absurd (true≢false (sym (clipped_part n (without nothing nothing) p h))),
)
action_within n false r = (λ p h. absurd (true≢false (sym h)), λ p h. absurd (true≢false (sym h)), λ p h. absurd (true≢false (sym h)))

-- a view's sets have no atom from 64 on
view_within : (v : FileView) (x : Part) → Within 64 (part_of (view_task v) x)
unfolding view_task
view_within v (Needs a) = (action_within _ _ _).0
view_within v (Adds a) = (action_within _ _ _).1
view_within v (Removes a) = (action_within _ _ _).2
view_within v Start = λ p h. within_members v.start p (clipped_part (min v.atoms 2080) (members v.start) p h)
view_within v Goal = λ p h. within_members v.goal p (clipped_part (min v.atoms 2080) (members v.goal) p h)

pub view_held : (v : FileView) (x : Part) → clipped 64 (part_of (view_task v) x) ≡ part_of (view_task v) x
view_held v x = clipped_within 64 (part_of (view_task v) x) (view_within v x)

-- OPENING -------------------------------------------------------------------

-- where a record is read, neither the file's length nor the action's number matters
same_entry : (n len len' : ℕ) (a a' : Option ℕ) (b : List ℕ) (e : Entry) (rest : List ℕ) → n ≤ 64 → Bytes b → entry n len a b ≡ Ok (e, rest) → entry n len' a' b ≡ Ok (e, rest)
same_entry n len len' a a' b e rest few h q = let k = entry_inv n len a b e rest h q in ap (entry n len' a') k.split ∙ entry_on n len' a' e rest few k.well

-- what a view says of its file
abbrev view_content : FileView → List Entry → Content
view_content v es = record { atoms = v.atoms; start = number 64 (members v.start); goal = number 64 (members v.goal); entries = es }

-- a view of well-formed records means their task
opened : (v : FileView) (len : ℕ) (es : List Entry) → Well (view_content v es) → v.actions ≡ length es → Bytes v.records.now → Placed v.atoms len v.records.now v.places es → task_of (view_content v es) ≡ view_task v
opened v len es w many h placed =
    same_task (task_of (view_content v es)) (view_task v)
    (sym (view_atoms v few))
    (let m = w.few_entries in let k = view_actions v in omega arith)
    (λ a. ⊎_elim (λ l. in_range a l) (λ l. past a l) (cases_lt a (length es)))
    (set_shown v.start ∙ sym (view_start v))
    (set_shown v.goal ∙ sym (view_goal v))
  where
    few : v.atoms < 256
    few = let m = w.few_atoms_lem in omega arith

    in_range : (a : ℕ) → a < length es → (task_of (view_content v es)).action a ≡ (view_task v).action a
    in_range a l =
        let p = placed.each a l in
        let e : Entry = get_or es a blank in
        let m = w.few_entries in
        let read = same_entry v.atoms len (length v.records.now) (Some a) (Some a) _ e p.0 w.few_atoms_lem (bytes_drop (get_or v.places a 0) v.records.now h) p.1 in
        cond-true _ _ _ (lt-ltb a (length es) l)
        ∙ sym (view_action v few a (entry_action e) (omega arith) (ap action_or_none read) (sound_entry v.atoms e (All-get_or (WellEntry v.atoms) es a blank l w.each)))

    past : (a : ℕ) → length es ≤ a → (task_of (view_content v es)).action a ≡ (view_task v).action a
    past a l = cond-false _ _ _ (le-ltb a (length es) l) ∙ sym (view_past v a (let m = w.few_entries in omega arith))

    set_shown : (s : AtomSet) → bits_of (number 64 (members s)) ≡ members s
    set_shown s = set_back 64 (members s) (omega arith) (within_members s)

-- a view of what was read of a file means its task
pub file_opened : (v : FileView) (b : List ℕ) → Bytes b →
    (m : ℕ) (b1 : List ℕ) → header (length b) b ≡ Ok ((v.atoms, v.actions, m), b1) →
    (p : Bool) (b2 : List ℕ) → p ≡ bit 0 m → set_at p v.atoms (length b) None b1 ≡ Ok (number 64 (members v.start), b2) →
    (q : Bool) → q ≡ bit 1 m → set_at q v.atoms (length b) None b2 ≡ Ok (number 64 (members v.goal), v.records.now) →
    (es : List Entry) (b4 : List ℕ) → records v.atoms (length b) v.actions 0 [] v.records.now ≡ Ok (es, b4) → length b4 ≡ 0 →
    Placed v.atoms (length b) v.records.now v.places es → Accepted b (view_task v)
file_opened v b h m b1 e p b2 pe e1 q qe e2 es b4 e3 end placed =
    let read : content b ≡ Ok (view_content v es) = all_read b _ _ m b1 e p _ b2 pe e1 q _ _ qe e2 es b4 e3 ∙ ended_well _ _ _ _ es b4 end in
    let more1 = (header_inv (length b) b _ _ m b1 h e).more in
    let more2 = (set_inv p _ (length b) None b1 _ b2 more1 e1).0.more in
    let more3 = (set_inv q _ (length b) None b2 _ _ more2 e2).0.more in
    let run = records_inv v.atoms (length b) v.actions 0 [] v.records.now es b4 more3 e3 in
    subst (λ t. Accepted b t)
    (opened v (length b) es (content_sound b (view_content v es) h read).1 (sym run.count ∙ ap length (sym run.adds)) more3 placed)
    (content_accepted b (view_content v es) h read)
