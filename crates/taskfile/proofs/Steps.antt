-- The fields that a reader takes, one after another.
use Rattle.std.proofs.Common.{◌≡◌, ℕ, ◌+◌, ◌-◌, ◌*◌, ◌^◌, ◌<◌, ◌≤◌, Bool, ltb, eqb, List, [], length, get_or, take, Some, None, Ok, Err, Option, Result, sym, ap, ◌∙◌, subst, arith}
use Rattle.std.specs.Result.{IsErrAnd, MatchResult}
use Rattle.std.proofs.lemmas.Result.{err_from_is_err_and}
use Rattle.std.proofs.lemmas.List.{take_all, length-take-le}
use Rattle.strips.specs.Sets.{Atoms, first, inside, Within}
use Rattle.strips.specs.Bits.{bit, bits_of, members, number}
use Rattle.strips.specs.declared.atoms.AtomSet.{AtomSet}
use Rattle.strips.specs.declared.denial.Denial.{Denial}
use Rattle.strips.proofs.Members.{bits_number}
use Rattle.strips.specs.declared.denial.Denial.TheVariants.{BytesAfterEnd}
use Rattle.taskfile.specs.Content.{Entry}
use Rattle.taskfile.specs.Format.{Accepted}
use Rattle.taskfile.specs.Reading.{field, value, fault, map_denied, set_at, cost_at, apart_at, entry, records, content, FaultOf}
use Rattle.taskfile.specs.Reads.{MovedOn, Takes, Reads, Placed, ReadsRecords}
use Rattle.taskfile.specs.View.{view_task}
use Rattle.taskfile.specs.declared.fault.Fault.{Fault}
use Rattle.taskfile.specs.declared.reader.Reader.{Reader}
use Rattle.taskfile.specs.declared.view.FileView.{FileView}
use Rattle.taskfile.proofs.Contents.{within_members, below_number}
use Rattle.taskfile.proofs.Whole.{fault_verdict}
use Rattle.taskfile.proofs.Chain.{then_ok, then_err}
use Rattle.taskfile.proofs.Runs.{left_on}
use Rattle.taskfile.proofs.Field.{field_ends, field_denied, field_right, value_one, value_two, value_eight}

-- a fault that `?` hands on
pub reads_err : {A B : Type 0} (shown : A → B) (old new : Reader) (r : Result A Fault) (s : Result (B × List ℕ) Fault) (f : Fault) → IsErrAnd r (λ g. g ≡ f) → s ≡ Err f → Reads shown old new r s
reads_err shown old new r s f h e = let p = err_from_is_err_and r h in rw (p.1, p.2) e

-- the next field, of w bytes
module _ (w : ℕ) (denied : ℕ → Option Denial) (old new : Reader) where
  abbrev next : Result (ℕ × List ℕ) Fault
  next = field w denied old.total old.action old.rest.now

  pub next_ends : (f : Fault) → Takes w old new (Err f) → next ≡ Err f
  next_ends f t = field_ends w denied old.total old.action old.rest.now t.0 ∙ ap Err (sym t.1)

  module _ (x : List ℕ) (t : Takes w old new (Ok x)) (v : ℕ) (e : value x ≡ v) where
    pub next_denied : (d : Denial) (p : ℕ) (f : Fault) → denied v ≡ Some d → p ≡ old.total - length old.rest.now → f ≡ fault d p new.action → next ≡ Err f
    next_denied d p f k q h =
        field_denied w denied old.total old.action old.rest.now v d t.0 (ap value (sym t.1) ∙ e) k
        ∙ (λ i. Err (fault d (sym q i) (sym t.3.action_same i)))
        ∙ ap Err (sym h)

    pub next_right : denied v ≡ None → (next ≡ Ok (v, new.rest.now)) × MovedOn old new
    next_right k = (field_right w denied old.total old.action old.rest.now v new.rest.now t.0 (ap value (sym t.1) ∙ e) k t.2, t.3)

-- how many bytes were taken
taken_length : (w : ℕ) (b x : List ℕ) → w ≤ length b → x ≡ take w b → length x ≡ w
taken_length w b x h e = ap length e ∙ length-take-le w b h

pub one_value : (x b : List ℕ) → 1 ≤ length b → x ≡ take 1 b → value x ≡ get_or x 0 0
one_value x b h e =
    let n : length x ≡ 1 = taken_length 1 b x h e in
    sym (ap value (take_all 1 x (omega arith))) ∙ value_one x (omega arith)

pub two_value : (x : List ℕ) (v : ℕ) (b : List ℕ) → 2 ≤ length b → x ≡ take 2 b → v ≡ get_or x 0 0 * 256 + get_or x 1 0 → value x ≡ v
two_value x v b h e k =
    let n : length x ≡ 2 = taken_length 2 b x h e in
    sym (ap value (take_all 2 x (omega arith))) ∙ (value_two x (omega arith) ∙ sym k)

-- the number of a set that was taken
pub set_value : (x : List ℕ) (bits : ℕ) (s : AtomSet) (b : List ℕ) → 8 ≤ length b → x ≡ take 8 b → bits ≡ get_or x 0 0 * 72057594037927936 + get_or x 1 0 * 281474976710656 + get_or x 2 0 * 1099511627776 + get_or x 3 0 * 4294967296 + get_or x 4 0 * 16777216 + get_or x 5 0 * 65536 + get_or x 6 0 * 256 + get_or x 7 0 → bits < 2 ^ 64 → members s ≡ bits_of bits → value x ≡ number 64 (members s)
set_value x bits s b h e k l m =
    let n : length x ≡ 8 = taken_length 8 b x h e in
    sym (ap value (take_all 8 x (omega arith))) ∙ (value_eight x (omega arith) ∙ (sym k ∙ (bits_number bits l ∙ ap (number 64) (sym m))))

-- whether a set's atoms are all below n
pub tested : (s : AtomSet) (n m : ℕ) (b : Bool) → m ≡ n → b ≡ inside 64 (members s) (first m) → ltb (number 64 (members s)) (2 ^ n) ≡ b
tested s n m b e h = sym (h ∙ (ap (λ k. inside 64 (members s) (first k)) e ∙ below_number (members s) n (within_members s)))

-- whether a set is empty
pub none_number : (s : AtomSet) → s.bits < 2 ^ 64 → eqb (number 64 (members s)) 0 ≡ eqb s.bits 0
none_number s h = ap (λ n. eqb n 0) (sym (bits_number s.bits h))

-- one step after another, in the same file
pub moved_on : (r s t : Reader) → MovedOn r s → MovedOn s t → MovedOn r t
moved_on r s t m n = record {
  total_same = n.total_same ∙ m.total_same;
  atoms_same = n.atoms_same ∙ m.atoms_same;
  action_same = n.action_same ∙ m.action_same;
  left = left_on r.rest.now s.rest.now t.rest.now m.left n.left;
}

module _ (r s : Reader) (m : MovedOn r s) where
  pub set_from : (p : Bool) {x : Result (ℕ × List ℕ) Fault} → set_at p s.atoms s.total s.action s.rest.now ≡ x → set_at p r.atoms r.total r.action s.rest.now ≡ x
  set_from p e = (λ i. set_at p (sym m.atoms_same i) (sym m.total_same i) (sym m.action_same i) s.rest.now) ∙ e

  cost_from : (p : Bool) {x : Result (ℕ × List ℕ) Fault} → cost_at p s.total s.action s.rest.now ≡ x → cost_at p r.total r.action s.rest.now ≡ x
  cost_from p e = (λ i. cost_at p (sym m.total_same i) (sym m.action_same i) s.rest.now) ∙ e

  pub within_from : (A : Atoms) → Within s.atoms A → Within r.atoms A
  within_from A h = subst (λ n. Within n A) m.atoms_same h

  -- a fault of something that began where r was
  pub fault_same : (d : Denial) (p : ℕ) (f : Fault) → p ≡ r.total - length r.rest.now → f ≡ fault d p s.action → fault d (r.total - length r.rest.now) r.action ≡ f
  fault_same d p f q h = (λ i. fault d (sym q i) (sym m.action_same i)) ∙ sym h

-- a record, as far as it was read
module _ (r : Reader) where
  abbrev whole : Result (Entry × List ℕ) Fault
  whole = entry r.atoms r.total r.action r.rest.now

  abbrev map_next : Result (ℕ × List ℕ) Fault
  map_next = field 1 (map_denied 4) r.total r.action r.rest.now

  pub map_err : {f : Fault} → map_next ≡ Err f → whole ≡ Err f
  unfolding entry
  map_err e = then_err _ e

  module _ (m : ℕ) (r1 : Reader) (e : (map_next ≡ Ok (m, r1.rest.now)) × MovedOn r r1) where
    pub needs_err : (p : Bool) {f : Fault} → p ≡ bit 0 m → set_at p r1.atoms r1.total r1.action r1.rest.now ≡ Err f → whole ≡ Err f
    unfolding entry
    needs_err p q e1 = then_ok _ e.0 ∙ then_err _ (rw q at (set_from r r1 e.1 p e1))

    module _ (p1 : Bool) (needs : ℕ) (r2 : Reader) (q1 : p1 ≡ bit 0 m) (e1 : (set_at p1 r1.atoms r1.total r1.action r1.rest.now ≡ Ok (needs, r2.rest.now)) × MovedOn r1 r2) where
      k1 : set_at (bit 0 m) r.atoms r.total r.action r1.rest.now ≡ Ok (needs, r2.rest.now)
      k1 = rw q1 at (set_from r r1 e.1 p1 e1.0)

      m2 : MovedOn r r2
      m2 = moved_on r r1 r2 e.1 e1.1

      pub adds_err : (p : Bool) {f : Fault} → p ≡ bit 1 m → set_at p r2.atoms r2.total r2.action r2.rest.now ≡ Err f → whole ≡ Err f
      unfolding entry
      adds_err p q e2 = then_ok _ e.0 ∙ then_ok _ k1 ∙ then_err _ (rw q at (set_from r r2 m2 p e2))

      module _ (p2 : Bool) (adds : ℕ) (r3 : Reader) (q2 : p2 ≡ bit 1 m) (e2 : (set_at p2 r2.atoms r2.total r2.action r2.rest.now ≡ Ok (adds, r3.rest.now)) × MovedOn r2 r3) where
        k2 : set_at (bit 1 m) r.atoms r.total r.action r2.rest.now ≡ Ok (adds, r3.rest.now)
        k2 = rw q2 at (set_from r r2 m2 p2 e2.0)

        m3 : MovedOn r r3
        m3 = moved_on r r2 r3 m2 e2.1

        pub removes_err : (p : Bool) {f : Fault} → p ≡ bit 2 m → set_at p r3.atoms r3.total r3.action r3.rest.now ≡ Err f → whole ≡ Err f
        unfolding entry
        removes_err p q e3 = then_ok _ e.0 ∙ then_ok _ k1 ∙ then_ok _ k2 ∙ then_err _ (rw q at (set_from r r3 m3 p e3))

        module _ (p3 : Bool) (removes : ℕ) (r4 : Reader) (q3 : p3 ≡ bit 2 m) (e3 : (set_at p3 r3.atoms r3.total r3.action r3.rest.now ≡ Ok (removes, r4.rest.now)) × MovedOn r3 r4) where
          k3 : set_at (bit 2 m) r.atoms r.total r.action r3.rest.now ≡ Ok (removes, r4.rest.now)
          k3 = rw q3 at (set_from r r3 m3 p3 e3.0)

          m4 : MovedOn r r4
          m4 = moved_on r r3 r4 m3 e3.1

          pub cost_err : (p : Bool) {f : Fault} → p ≡ bit 3 m → cost_at p r4.total r4.action r4.rest.now ≡ Err f → whole ≡ Err f
          unfolding entry
          cost_err p q e4 = then_ok _ e.0 ∙ then_ok _ k1 ∙ then_ok _ k2 ∙ then_ok _ k3 ∙ then_err _ (rw q at (cost_from r r4 m4 p e4))

          module _ (p4 : Bool) (cost : ℕ) (r5 : Reader) (q4 : p4 ≡ bit 3 m) (e4 : (cost_at p4 r4.total r4.action r4.rest.now ≡ Ok (cost, r5.rest.now)) × MovedOn r4 r5) where
            pub record_read : (whole ≡ apart_at (r.total - length r.rest.now) r.action (record { needs = needs; adds = adds; removes = removes; cost = cost }) r5.rest.now) × MovedOn r r5
            unfolding entry
            record_read = (then_ok _ e.0 ∙ then_ok _ k1 ∙ then_ok _ k2 ∙ then_ok _ k3 ∙ then_ok _ (rw q4 at (cost_from r r4 m4 p4 e4.0)), moved_on r r4 r5 m4 e4.1)

-- A RUN OF RECORDS ----------------------------------------------------------

pub records_fault : (old new : Reader) (r : Result (List ℕ) Fault) (k : ℕ) (f : Fault) → IsErrAnd r (λ g. g ≡ f) → records old.atoms old.total k 0 [] old.rest.now ≡ Err f → ReadsRecords old new r k
records_fault old new r k f h e = let p = err_from_is_err_and r h in rw (p.1, p.2) e

pub entry_from : (n m len size : ℕ) (a : Option ℕ) (b : List ℕ) {x : Result (Entry × List ℕ) Fault} → size ≡ len → m ≡ n → entry m size a b ≡ x → entry n len a b ≡ x
entry_from n m len size a b e q h = (λ i. entry (sym q i) (sym e i) a b) ∙ h

-- THE FILE ------------------------------------------------------------------

pub refused : (b : List ℕ) (r : Result FileView Fault) (f : Fault) → IsErrAnd r (λ g. g ≡ f) → content b ≡ Err f → MatchResult r (λ v. Accepted b (view_task v)) (λ g. FaultOf b g)
refused b r f h e = let p = err_from_is_err_and r h in rw (p.1, p.2) (fault_verdict b f e)

module _ (r s : Reader) (m : MovedOn r s) where
  pub records_from : (k : ℕ) {x : Result (List Entry × List ℕ) Fault} → records s.atoms s.total k 0 [] s.rest.now ≡ x → records r.atoms r.total k 0 [] s.rest.now ≡ x
  records_from k e = (λ i. records (sym m.atoms_same i) (sym m.total_same i) k 0 [] s.rest.now) ∙ e

  pub placed_from : (b places : List ℕ) (es : List Entry) → Placed s.atoms s.total b places es → Placed r.atoms r.total b places es
  placed_from b places es h = subst (λ n. Placed n r.total b places es) m.atoms_same (subst (λ t. Placed s.atoms t b places es) m.total_same h)

-- what follows the last record
pub after_fault : (r : Reader) (len : ℕ) (f : Fault) → r.total ≡ len → r.action ≡ None → f ≡ fault BytesAfterEnd (r.total - length r.rest.now) r.action → fault BytesAfterEnd (len - length r.rest.now) None ≡ f
after_fault r len f e q h = (λ i. fault BytesAfterEnd (sym e i - length r.rest.now) (sym q i)) ∙ sym h
