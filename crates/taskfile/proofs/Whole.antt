-- A whole file, and the laws of the format.
use Rattle.std.proofs.Common.{◌≡◌, ℕ, ◌-◌, ◌<◌, Bool, true, ◌⊎◌, List, [], ◌∷◌, length, None, Ok, Err, Result, sym, refl, ap, ◌∙◌, inl, inr, arith}
use Rattle.std.proofs.lemmas.List.{nil_from_length, take_at}
use Rattle.taskfile.specs.Content.{Entry}
use Rattle.taskfile.specs.declared.fault.Fault.{Fault}
use Rattle.strips.specs.declared.denial.Denial.TheVariants.{BytesAfterEnd}
use Rattle.strips.specs.Task.{Task, Sound, small}
use Rattle.strips.specs.Bits.{bit}
use Rattle.taskfile.specs.Content.{Content, content_of, task_of}
use Rattle.taskfile.specs.Format.{content_bytes, encode, Accepted}
use Rattle.taskfile.specs.Reading.{then, fault, set_at, records, header, body, content, ended, Bytes, verdict, FaultOf}
use Rattle.taskfile.specs.Laws.{EveryFile, OneTask, NoTwoFaults, SameBytes, SameTask, ReadAfterWrite}
use Rattle.taskfile.proofs.Contents.{task_back, well_content, content_back, sound_task, small_task}
use Rattle.taskfile.proofs.Chain.{then_ok, then_err}
use Rattle.taskfile.proofs.Strict.{content_sound, content_complete}

module _ (b : List ℕ) where
  pub head_err : {f : Fault} → header (length b) b ≡ Err f → content b ≡ Err f
  unfolding content
  head_err e = then_err _ e

  module _ (n k m : ℕ) (b1 : List ℕ) (e : header (length b) b ≡ Ok ((n, k, m), b1)) where
    pub start_err : (p : Bool) {f : Fault} → p ≡ bit 0 m → set_at p n (length b) None b1 ≡ Err f → content b ≡ Err f
    unfolding content body
    start_err p q e1 = then_ok _ e ∙ then_err _ (rw q at e1)

    module _ (p1 : Bool) (start : ℕ) (b2 : List ℕ) (q1 : p1 ≡ bit 0 m) (e1 : set_at p1 n (length b) None b1 ≡ Ok (start, b2)) where
      pub goal_err : (p : Bool) {f : Fault} → p ≡ bit 1 m → set_at p n (length b) None b2 ≡ Err f → content b ≡ Err f
      unfolding content body
      goal_err p q e2 = then_ok _ e ∙ then_ok _ (rw q1 at e1) ∙ then_err _ (rw q at e2)

      module _ (p2 : Bool) (goal : ℕ) (b3 : List ℕ) (q2 : p2 ≡ bit 1 m) (e2 : set_at p2 n (length b) None b2 ≡ Ok (goal, b3)) where
        pub entries_err : {f : Fault} → records n (length b) k 0 [] b3 ≡ Err f → content b ≡ Err f
        unfolding content body
        entries_err e3 = then_ok _ e ∙ then_ok _ (rw q1 at e1) ∙ then_ok _ (rw q2 at e2) ∙ then_err _ e3

        module _ (rs : List Entry) (b4 : List ℕ) (e3 : records n (length b) k 0 [] b3 ≡ Ok (rs, b4)) where
          pub all_read : content b ≡ ended n start goal (length b) (rs, b4)
          unfolding content body
          all_read = then_ok _ e ∙ then_ok _ (rw q1 at e1) ∙ then_ok _ (rw q2 at e2) ∙ then_ok _ e3

pub ended_not : (n s g len : ℕ) (rs : List Entry) (b : List ℕ) → 0 < length b → ended n s g len (rs, b) ≡ Err (fault BytesAfterEnd (len - length b) None)
ended_not n s g len rs [] h = absurd (omega arith)
ended_not n s g len rs (x ∷ b) h = refl

pub ended_well : (n s g len : ℕ) (rs : List Entry) (b : List ℕ) → length b ≡ 0 → ended n s g len (rs, b) ≡ Ok (record { atoms = n; start = s; goal = g; entries = rs })
ended_well n s g len rs b h = rw (nil_from_length b h) refl

-- THE LAWS OF THE FORMAT ----------------------------------------------------

pub fault_verdict : (b : List ℕ) (f : Fault) → content b ≡ Err f → FaultOf b f
fault_verdict b f e = then_err _ e

pub fault_content : (b : List ℕ) (f : Fault) → FaultOf b f → content b ≡ Err f
unfolding then
fault_content b f = go (content b)
  where
    go : (v : Result Content Fault) → then v (λ c. Ok (task_of c)) ≡ Err f → v ≡ Err f
    go (Ok c) e = let z : ◌≡◌ {A = ℕ} 0 1 = cc in absurd (omega arith)
    go (Err g) e = let q : g ≡ f = cc in ap Err q

no_two : {t : Task} {f : Fault} → ◌≡◌ {A = Result Task Fault} (Ok t) (Err f) → ⊥
no_two e = let z : ◌≡◌ {A = ℕ} 0 1 = cc in omega arith

-- a file is that of the task of its content
pub content_accepted : (b : List ℕ) (c : Content) → Bytes b → content b ≡ Ok c → Accepted b (task_of c)
content_accepted b c h e =
    let s = content_sound b c h e in
    record { same = s.0 ∙ ap content_bytes (sym (content_back c s.1)); sound = sound_task c s.1; fits = small_task c s.1 }

either : (b : List ℕ) (v : Result Content Fault) → content b ≡ v → Bytes b → ((t : Task) × Accepted b t) ⊎ ((f : Fault) × FaultOf b f)
either b (Ok c) e h = inl (task_of c, content_accepted b c h e)
either b (Err f) e h = inr (f, fault_verdict b f e)

pub every_file : EveryFile
every_file b h = either b (content b) refl h

written_verdict : (t : Task) → Sound t → small t ≡ true → verdict (encode t) ≡ Ok t
written_verdict t s e = then_ok _ (content_complete (content_of t) (well_content t s e)) ∙ ap Ok (task_back t s e)

accepted_verdict : (b : List ℕ) (t : Task) → Accepted b t → verdict b ≡ Ok t
accepted_verdict b t h = ap verdict h.same ∙ written_verdict t h.sound h.fits

ok_same : {t u : Task} → ◌≡◌ {A = Result Task Fault} (Ok t) (Ok u) → t ≡ u
ok_same e = cc

err_same : {f g : Fault} → ◌≡◌ {A = Result Task Fault} (Err f) (Err g) → f ≡ g
err_same e = cc

pub one_task : OneTask
one_task b t u h k = ok_same (sym (accepted_verdict b t h) ∙ accepted_verdict b u k)

pub no_two_faults : NoTwoFaults
no_two_faults b f h = (λ g k. err_same (sym h ∙ k), λ t k. no_two (sym (accepted_verdict b t k) ∙ h))

pub same_bytes : SameBytes
same_bytes t u h p k q e = ok_same (sym (written_verdict t h p) ∙ ap verdict e ∙ written_verdict u k q)

pub exactly_same : SameTask
exactly_same b c t u h k = (λ e. h.same ∙ ap encode e ∙ sym k.same, λ e. same_bytes t u h.sound h.fits k.sound k.fits (sym h.same ∙ e ∙ k.same))

pub read_after_write : ReadAfterWrite
read_after_write t o s p =
    let e = take_at (encode t) o _ refl in
    (record { same = e; sound = s; fits = p }, ap verdict e ∙ written_verdict t s p)
