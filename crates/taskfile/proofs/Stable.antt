-- What bytes after a file leave as it was.
use Rattle.std.proofs.Common.{◌≡◌, ℕ, zero, suc, ◌+◌, ◌-◌, ◌≤◌, Bool, true, false, cond, eqb, ltb, List, [], ◌∷◌, ◌++◌, length, take, drop, Some, None, Ok, Err, Option, Result, sym, refl, ap, ◌∙◌, subst, ⊎_elim, arith, length-append}
use lib.Bits.{bit_and}
use Rattle.std.proofs.lemmas.List.{take-append-le, drop-append-le}
use Rattle.std.proofs.lemmas.Bool.{cond-true, cond-false, le-ltb, ltb-false, cases_Bool}
use Rattle.taskfile.specs.Content.{Entry}
use Rattle.taskfile.specs.declared.fault.Fault.{Fault}
use Rattle.strips.specs.declared.denial.Denial.{Denial}
use Rattle.strips.specs.declared.denial.Denial.TheVariants.{FileEnds, AddedAndRemoved, BytesAfterEnd}
use Rattle.strips.specs.Bits.{bit}
use Rattle.taskfile.specs.Content.{Content}
use Rattle.taskfile.specs.Reading.{field, value, judged, fault, then, set_at, cost_at, entry, records, header, body, content, ended, version_denied, size_denied, map_denied, set_denied, cost_denied}
use Rattle.taskfile.specs.Laws.{NothingRight}
use Rattle.taskfile.proofs.Chain.{then_ok, then_err}
use Rattle.taskfile.proofs.Whole.{fault_content, fault_verdict}

-- what was read is still read where more bytes follow, and a fault that is not the file's end is still told
abbrev Kept : {A : Type 0} → List ℕ → Result (A × List ℕ) Fault → Result (A × List ℕ) Fault → Type 0
Kept c (Ok x) s = s ≡ Ok (x.0, x.1 ++ c)
Kept c (Err f) s = (f.denial ≡ FileEnds → ⊥) → s ≡ Err f

then_kept : {A B : Type 0} (c : List ℕ) (r r' : Result (A × List ℕ) Fault) (k k' : A × List ℕ → Result (B × List ℕ) Fault) → Kept c r r' → ((x : A) (b : List ℕ) → Kept c (k (x, b)) (k' (x, b ++ c))) → Kept c (then r k) (then r' k')
unfolding then
then_kept c (Ok x) r' k k' h g = subst (λ s. Kept c (k x) s) (sym (then_ok k' h)) (g x.0 x.1)
then_kept c (Err f) r' k k' h g = λ n. then_err k' (h n)

judged_kept : (o : Option Denial) (p : ℕ) (a : Option ℕ) (v : ℕ) (b c : List ℕ) → Kept c (judged o p a v b) (judged o p a v (b ++ c))
judged_kept None p a v b c = refl
judged_kept (Some d) p a v b c = λ n. refl

place_kept : (len : ℕ) (b c : List ℕ) → len + length c - length (b ++ c) ≡ len - length b
place_kept len b c = omega (arith, length-append b c)

field_kept : (w : ℕ) (d : ℕ → Option Denial) (len : ℕ) (a : Option ℕ) (b c : List ℕ) → Kept c (field w d len a b) (field w d (len + length c) a (b ++ c))
unfolding field
field_kept w d len a b c = ⊎_elim
    (λ t. subst (λ s. Kept c s (field w d (len + length c) a (b ++ c))) (sym (cond-true _ _ _ t)) (λ n. absurd (n refl)))
    (λ t. let l : w ≤ length b = ltb-false _ _ t in
    let l' : w ≤ length (b ++ c) = omega (arith, length-append b c) in
    let e : field w d (len + length c) a (b ++ c) ≡ judged (d (value (take w b))) (len - length b) a (value (take w b)) (drop w b ++ c) =
    cond-false _ _ _ (le-ltb _ _ l')
    ∙ ap (λ x. judged (d (value x)) (len + length c - length (b ++ c)) a (value x) (drop w (b ++ c))) (take-append-le w b c l)
    ∙ ap (λ x. judged (d (value (take w b))) x a (value (take w b)) (drop w (b ++ c))) (place_kept len b c)
    ∙ ap (λ x. judged (d (value (take w b))) (len - length b) a (value (take w b)) x) (drop-append-le w b c l) in
    subst (λ s. Kept c s (field w d (len + length c) a (b ++ c))) (sym (cond-false _ _ _ t))
    (subst (λ s. Kept c (judged (d (value (take w b))) (len - length b) a (value (take w b)) (drop w b)) s) (sym e) (judged_kept (d (value (take w b))) (len - length b) a (value (take w b)) (drop w b) c)))
    (cases_Bool (ltb (length b) w))

set_kept : (p : Bool) (n len : ℕ) (a : Option ℕ) (b c : List ℕ) → Kept c (set_at p n len a b) (set_at p n (len + length c) a (b ++ c))
set_kept true n len a b c = field_kept 8 (set_denied n) len a b c
set_kept false n len a b c = refl

cost_kept : (p : Bool) (len : ℕ) (a : Option ℕ) (b c : List ℕ) → Kept c (cost_at p len a b) (cost_at p (len + length c) a (b ++ c))
cost_kept true len a b c = field_kept 2 cost_denied len a b c
cost_kept false len a b c = refl

apart_kept : (t : Bool) (r : Entry) (b c : List ℕ) (f g : Fault) → f ≡ g → Kept c (cond t (Ok (r, b)) (Err f)) (cond t (Ok (r, b ++ c)) (Err g))
apart_kept true r b c f g e = refl
apart_kept false r b c f g e = λ n. ap Err (sym e)

entry_kept : (n len : ℕ) (a : Option ℕ) (b c : List ℕ) → Kept c (entry n len a b) (entry n (len + length c) a (b ++ c))
unfolding entry
entry_kept n len a b c =
    then_kept c _ _ _ _ (field_kept 1 (map_denied 4) len a b c) (λ m b1.
    then_kept c _ _ _ _ (set_kept (bit 0 m) n len a b1 c) (λ needs b2.
    then_kept c _ _ _ _ (set_kept (bit 1 m) n len a b2 c) (λ adds b3.
    then_kept c _ _ _ _ (set_kept (bit 2 m) n len a b3 c) (λ removes b4.
    then_kept c _ _ _ _ (cost_kept (bit 3 m) len a b4 c) (λ cost b5.
    apart_kept (eqb (bit_and adds removes) 0) (record { needs = needs; adds = adds; removes = removes; cost = cost }) b5 c _ _ (ap (λ p. fault AddedAndRemoved p a) (sym (place_kept len b c))))))))

records_kept : (n len k i : ℕ) (done : List Entry) (b c : List ℕ) → Kept c (records n len k i done b) (records n (len + length c) k i done (b ++ c))
unfolding records
records_kept n len zero i done b c = refl
records_kept n len (suc k) i done b c = then_kept c _ _ _ _ (entry_kept n len (Some i) b c) (λ r b1. records_kept n len k (i + 1) (done ++ r ∷ []) b1 c)

header_kept : (len : ℕ) (b c : List ℕ) → Kept c (header len b) (header (len + length c) (b ++ c))
unfolding header
header_kept len b c =
    then_kept c _ _ _ _ (field_kept 1 version_denied len None b c) (λ v b1.
    then_kept c _ _ _ _ (field_kept 1 (size_denied 64) len None b1 c) (λ n b2.
    then_kept c _ _ _ _ (field_kept 2 (size_denied 256) len None b2 c) (λ k b3.
    then_kept c _ _ _ _ (field_kept 1 (map_denied 2) len None b3 c) (λ m b4. refl))))

Ends : Result Content Fault → Result Content Fault → Type 0
Ends v v' = (f : Fault) → v ≡ Err f → (f.denial ≡ FileEnds → ⊥) → v' ≡ Err f

then_ends : {A : Type 0} (c : List ℕ) (r r' : Result (A × List ℕ) Fault) (k k' : A × List ℕ → Result Content Fault) → Kept c r r' → ((x : A) (b : List ℕ) → Ends (k (x, b)) (k' (x, b ++ c))) → Ends (then r k) (then r' k')
unfolding then Ends
then_ends c (Ok x) r' k k' h g f e n = then_ok k' h ∙ g x.0 x.1 f e n
then_ends c (Err q) r' k k' h g f e n = let s : q ≡ f = cc in then_err k' (h (λ z. n (ap (λ (y : Fault). y.denial) (sym s) ∙ z))) ∙ e

ended_ends : (n s g len : ℕ) (rs : List Entry) (b c : List ℕ) → Ends (ended n s g len (rs, b)) (ended n s g (len + length c) (rs, b ++ c))
unfolding Ends
ended_ends n s g len rs [] c f e k = let z : ◌≡◌ {A = ℕ} 0 1 = cc in absurd (omega arith)
ended_ends n s g len rs (x ∷ b) c f e k = ap (λ p. Err (fault BytesAfterEnd p None)) (place_kept len (x ∷ b) c) ∙ e

body_ends : (len n k m : ℕ) (b c : List ℕ) → Ends (body len n k m b) (body (len + length c) n k m (b ++ c))
unfolding body
body_ends len n k m b c =
    then_ends c _ _ _ _ (set_kept (bit 0 m) n len None b c) (λ start b1.
    then_ends c _ _ _ _ (set_kept (bit 1 m) n len None b1 c) (λ goal b2.
    then_ends c _ _ _ _ (records_kept n len k 0 [] b2 c) (λ rs b3. ended_ends n start goal len rs b3 c)))

content_ends : (b c : List ℕ) → Ends (content b) (content (b ++ c))
unfolding content Ends
content_ends b c f e n =
    ap (λ x. then (header x (b ++ c)) (λ h. body x h.0.0 h.0.1 h.0.2 h.1)) (length-append b c)
    ∙ then_ends c _ _ _ _ (header_kept (length b) b c) (λ h b1. body_ends (length b) h.0 h.1 h.2 b1 c) f e n

pub nothing_right : NothingRight
unfolding Ends
nothing_right b c f e n = fault_verdict (b ++ c) f (content_ends b c f (fault_content b f e) n)
