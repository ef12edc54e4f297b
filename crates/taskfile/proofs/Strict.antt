-- What a list that is read holds, and that what is written is read.
use Rattle.std.proofs.Common.{◌≡◌, ℕ, zero, suc, ◌+◌, ◌*◌, ◌/◌, ◌%◌, ◌^◌, ◌<◌, ◌≤◌, Bool, true, false, cond, not, eqb, ltb, leb, ◌⊎◌, List, [], ◌∷◌, ◌++◌, length, take, drop, Some, None, Ok, Err, Option, Result, sym, refl, ap, ◌∙◌, subst, inl, inr, ⊎_elim, append_assoc, pow-suc, div-one, arith, length-append, pow_mono}
use Rattle.std.proofs.lemmas.List.{take-append-drop, take_at, drop_at, get_or-drop, length-take-le, append-nil}
use Rattle.std.proofs.lemmas.Nat.{pow_pos, shr-shr, mul-add-lt, div-mul-add, mod-mul-add, div-add-mod', mod_below}
use Rattle.std.proofs.lemmas.Bool.{cond-true, cond-false, lt-ltb, le-leb, eq-eqb, ltb-true, ltb-false, leb-true, eqb-true, eqb-false, cases_eq, cases_Bool}
use Rattle.std.specs.List.{flat_map, AllByRecursion as All}
use Rattle.taskfile.specs.Content.{Entry}
use Rattle.taskfile.specs.declared.fault.Fault.{Fault}
use Rattle.strips.specs.declared.denial.Denial.{Denial}
use Rattle.strips.specs.declared.denial.Denial.TheVariants.{FieldAtDefault, AtomOutOfRange, MapBitUnknown, VersionUnknown, SizeOutOfRange}
use Rattle.strips.specs.Bits.{bit}
use Rattle.taskfile.specs.Content.{Content}
use Rattle.taskfile.specs.Format.{high_first, unless, flag, entry_map, entry_bytes, content_map, content_bytes}
use Rattle.taskfile.specs.Reading.{value, version_denied, size_denied, map_denied, set_denied, cost_denied, judged, field, then, set_at, cost_at, entry, records, ended, header, body, content, Bytes}
use Rattle.taskfile.proofs.Contents.{WellEntry, Well}
use Rattle.taskfile.proofs.Field.{field_right, set_right}
use Rattle.taskfile.proofs.Chain.{then_ok}

-- NUMBERS AND BYTES ---------------------------------------------------------

pub pow_256 : (w : ℕ) → 0 < 256 ^ w
pow_256 zero = omega arith
pow_256 (suc w) = let h = pow_256 w in rw pow-suc (omega arith)

value_lt : (b : List ℕ) → Bytes b → value b < 256 ^ length b
unfolding value
value_lt [] h = omega arith
value_lt (x ∷ b) h = rw pow-suc (mul-add-lt x (256 ^ length b) (value b) 256 (h 0) (value_lt b (λ i. h (suc i))))

high_first_value : (b : List ℕ) → Bytes b → high_first (length b) (value b) ≡ b
unfolding value high_first
high_first_value [] h = refl
high_first_value (x ∷ b) h =
    let l : value b < 256 ^ length b = value_lt b (λ i. h (suc i)) in
    rw (div-mul-add x (256 ^ length b) (value b) l, mod-mul-add x (256 ^ length b) (value b) l, high_first_value b (λ i. h (suc i))) refl

pub length_high_first : (w v : ℕ) → length (high_first w v) ≡ w
unfolding high_first
length_high_first zero v = refl
length_high_first (suc w) v = ap suc (length_high_first w (v % 256 ^ w))

value_high_first : (w v : ℕ) → v < 256 ^ w → value (high_first w v) ≡ v
unfolding value high_first
value_high_first zero v h = omega arith
value_high_first (suc w) v h =
    let r = value_high_first w (v % 256 ^ w) (mod_below v (256 ^ w) (pow_256 w)) in
    rw (length_high_first w (v % 256 ^ w), r) (div-add-mod' v (256 ^ w))

one_byte : (v : ℕ) → high_first 1 v ≡ v ∷ []
unfolding high_first
one_byte v = ap (λ x. x ∷ []) (div-one v)

-- RESULTS -------------------------------------------------------------------

no_ok : {A : Type 0} {f : Fault} {x : A} → Err f ≡ Ok x → ⊥
no_ok e = let z : ◌≡◌ {A = ℕ} 0 1 = cc in omega arith

ok_inj : {A : Type 0} {x y : A} → ◌≡◌ {A = Result A Fault} (Ok x) (Ok y) → x ≡ y
ok_inj e = cc

then_inv : {A B : Type 0} (r : Result A Fault) (k : A → Result B Fault) (y : B) → then r k ≡ Ok y → (x : A) × (r ≡ Ok x) × (k x ≡ Ok y)
unfolding then
then_inv (Ok x) k y e = (x, refl, e)
then_inv (Err f) k y e = absurd (no_ok e)

cond_inv : {A : Type 0} (t : Bool) (f : Fault) (r : Result A Fault) (y : A) → cond t (Err f) r ≡ Ok y → (t ≡ false) × (r ≡ Ok y)
cond_inv true f r y e = absurd (no_ok e)
cond_inv false f r y e = (refl, e)

judged_inv : (o : Option Denial) (p : ℕ) (a : Option ℕ) (v : ℕ) (b : List ℕ) (v' : ℕ) (b' : List ℕ) → judged o p a v b ≡ Ok (v', b') → (o ≡ None) × (v ≡ v') × (b ≡ b')
judged_inv None p a v b v' b' e = let q = ok_inj e in (refl, ap (λ (x : ℕ × List ℕ). x.0) q, ap (λ (x : ℕ × List ℕ). x.1) q)
judged_inv (Some d) p a v b v' b' e = absurd (no_ok e)

some_none : {d : Denial} → Some d ≡ None → ⊥
some_none e = let z : ◌≡◌ {A = ℕ} 0 1 = cc in omega arith

two_ways : (x : ℕ) → x < 2 → (x ≡ 0) ⊎ (x ≡ 1)
two_ways x h = ⊎_elim inl (λ k. inr (omega arith)) (cases_eq x 0)

-- A FIELD -------------------------------------------------------------------

pub bytes_drop : (w : ℕ) (b : List ℕ) → Bytes b → Bytes (drop w b)
bytes_drop w b h i = rw get_or-drop (h (w + i))

bytes_take : (w : ℕ) (b : List ℕ) → Bytes b → Bytes (take w b)
bytes_take zero b h i = omega arith
bytes_take (suc w) [] h i = omega arith
bytes_take (suc w) (x ∷ b) h zero = h 0
bytes_take (suc w) (x ∷ b) h (suc i) = bytes_take w b (λ j. h (suc j)) i

pub record Taken (w : ℕ) (denied : ℕ → Option Denial) (b : List ℕ) (v : ℕ) (rest : List ℕ) : Type 0 where
  pub split : b ≡ high_first w v ++ rest
  pub clear : denied v ≡ None
  pub small : v < 256 ^ w
  pub more : Bytes rest

field_inv : (w : ℕ) (denied : ℕ → Option Denial) (len : ℕ) (a : Option ℕ) (b : List ℕ) (v : ℕ) (rest : List ℕ) → Bytes b → field w denied len a b ≡ Ok (v, rest) → Taken w denied b v rest
unfolding field
field_inv w denied len a b v rest h e =
    let p = cond_inv _ _ _ _ e in
    let q = judged_inv _ _ _ _ _ _ _ p.1 in
    let l : w ≤ length b = ltb-false _ _ p.0 in
    let n : length (take w b) ≡ w = length-take-le w b l in
    let s : high_first w (value (take w b)) ≡ take w b = rw n at (high_first_value (take w b) (bytes_take w b h)) in
    let k : value (take w b) < 256 ^ w = rw n at (value_lt (take w b) (bytes_take w b h)) in
    record {
      split = sym (take-append-drop w b) ∙ ap (λ x. x ++ drop w b) (sym s) ∙ ap (λ x. high_first w x ++ drop w b) q.1 ∙ ap (λ x. high_first w v ++ x) q.2;
      clear = ap denied (sym q.1) ∙ q.0;
      small = rw q.1 at k;
      more = rw q.2 at (bytes_drop w b h);
    }

field_on : (w : ℕ) (denied : ℕ → Option Denial) (len : ℕ) (a : Option ℕ) (v : ℕ) (rest : List ℕ) → v < 256 ^ w → denied v ≡ None → field w denied len a (high_first w v ++ rest) ≡ Ok (v, rest)
field_on w denied len a v rest h k =
    field_right w denied len a (high_first w v ++ rest) v rest
    (rw (length-append, length_high_first) (omega arith))
    (ap value (take_at (high_first w v) rest w (length_high_first w v)) ∙ value_high_first w v h)
    k (sym (drop_at (high_first w v) rest w (length_high_first w v)))

-- A SET AND A COST, PRESENT OR ABSENT ---------------------------------------

-- whether a field that is absent at z is present at v
abbrev has : ℕ → ℕ → Bool
has z v = not (eqb v z)

set_denied_inv : (n s : ℕ) → set_denied n s ≡ None → (s < 2 ^ n) × (eqb s 0 ≡ false)
set_denied_inv n s e = ⊎_elim
    (λ t. ⊎_elim
    (λ u. let z : Some FieldAtDefault ≡ None = sym (cond-true _ _ _ t ∙ cond-true _ _ _ u) ∙ e in absurd (some_none z))
    (λ u. (ltb-true _ _ t, u)) (cases_Bool (eqb s 0)))
    (λ t. let z : Some AtomOutOfRange ≡ None = sym (cond-false _ _ _ t) ∙ e in absurd (some_none z)) (cases_Bool (ltb s (2 ^ n)))

cost_denied_inv : (c : ℕ) → cost_denied c ≡ None → eqb c 1 ≡ false
cost_denied_inv c e = ⊎_elim (λ t. let z : Some FieldAtDefault ≡ None = sym (cond-true _ _ _ t) ∙ e in absurd (some_none z)) (λ t. t) (cases_Bool (eqb c 1))

pub record Field (z w : ℕ) (p : Bool) (b : List ℕ) (v : ℕ) (rest : List ℕ) : Type 0 where
  pub split : b ≡ unless z w v ++ rest
  pub present : p ≡ has z v
  pub small : v < 256 ^ w
  pub more : Bytes rest

pair_inj : (v v' : ℕ) (b b' : List ℕ) → ◌≡◌ {A = Result (ℕ × List ℕ) Fault} (Ok (v, b)) (Ok (v', b')) → (v ≡ v') × (b ≡ b')
pair_inj v v' b b' e = let q = ok_inj e in (ap (λ (x : ℕ × List ℕ). x.0) q, ap (λ (x : ℕ × List ℕ). x.1) q)

absent : (z w : ℕ) (b : List ℕ) (v : ℕ) (rest : List ℕ) → z < 256 ^ w → Bytes b → ◌≡◌ {A = Result (ℕ × List ℕ) Fault} (Ok (z, b)) (Ok (v, rest)) → Field z w false b v rest
absent z w b v rest k h e =
    let q = pair_inj _ _ _ _ e in
    let t : eqb v z ≡ true = eq-eqb v z (sym q.0) in
    record { split = rw t q.1; present = rw t refl; small = rw q.0 at k; more = rw q.1 at h }

brought : (z w : ℕ) (d : ℕ → Option Denial) (b : List ℕ) (v : ℕ) (rest : List ℕ) → eqb v z ≡ false → Taken w d b v rest → Field z w true b v rest
brought z w d b v rest t k = record { split = rw t k.split; present = rw t refl; small = k.small; more = k.more }

pub set_inv : (p : Bool) (n len : ℕ) (a : Option ℕ) (b : List ℕ) (v : ℕ) (rest : List ℕ) → Bytes b → set_at p n len a b ≡ Ok (v, rest) → Field 0 8 p b v rest × (v < 2 ^ n)
set_inv true n len a b v rest h e =
    let k = field_inv 8 (set_denied n) len a b v rest h e in
    let s = set_denied_inv n v k.clear in
    (brought 0 8 (set_denied n) b v rest s.1 k, s.0)
set_inv false n len a b v rest h e =
    (absent 0 8 b v rest (omega arith) h e, let q = pair_inj _ _ _ _ e in omega (arith, q.0, pow_pos n))

cost_inv : (p : Bool) (len : ℕ) (a : Option ℕ) (b : List ℕ) (v : ℕ) (rest : List ℕ) → Bytes b → cost_at p len a b ≡ Ok (v, rest) → Field 1 2 p b v rest
cost_inv true len a b v rest h e =
    let k = field_inv 2 cost_denied len a b v rest h e in brought 1 2 cost_denied b v rest (cost_denied_inv v k.clear) k
cost_inv false len a b v rest h e = absent 1 2 b v rest (omega arith) h e

set_on : (n len : ℕ) (a : Option ℕ) (v : ℕ) (rest : List ℕ) → n ≤ 64 → v < 2 ^ n → set_at (has 0 v) n len a (unless 0 8 v ++ rest) ≡ Ok (v, rest)
set_on n len a v rest few h = ⊎_elim
    (λ t. rw t (ap (λ x. Ok (x, rest)) (sym (eqb-true _ _ t))))
    (λ t. let l : v < 256 ^ 8 = omega (arith, pow_mono {i = n} {j = 64} few) in
    rw t (field_on 8 (set_denied n) len a v rest l (set_right n v h (eqb-false _ _ t)))) (cases_Bool (eqb v 0))

cost_on : (len : ℕ) (a : Option ℕ) (v : ℕ) (rest : List ℕ) → v < 65536 → cost_at (has 1 v) len a (unless 1 2 v ++ rest) ≡ Ok (v, rest)
cost_on len a v rest h = ⊎_elim
    (λ t. rw t (ap (λ x. Ok (x, rest)) (sym (eqb-true _ _ t))))
    (λ t. rw t (field_on 2 cost_denied len a v rest h (cond-false _ _ _ t))) (cases_Bool (eqb v 1))

-- A MAP ---------------------------------------------------------------------

flag_has : (z v : ℕ) → flag z v ≡ cond (has z v) 1 0
flag_has z v = ⊎_elim (λ t. rw t refl) (λ t. rw t refl) (cases_Bool (eqb v z))

bit_value : (x : ℕ) → x < 2 → cond (eqb x 1) 1 0 ≡ x
bit_value x h = ⊎_elim (λ e. rw e refl) (λ e. rw e refl) (let k : (x ≡ 0) ⊎ (x ≡ 1) = two_ways x h in k)

halves : (m : ℕ) → m ≡ 2 * (m / 2) + m % 2
halves m = omega (arith, div-add-mod' m 2)

weigh : (m a b c p q r s : ℕ) → m ≡ 2 * a + p → a ≡ 2 * b + q → b ≡ 2 * c + r → c ≡ s → m ≡ p + 2 * q + 4 * r + 8 * s
weigh m a b c p q r s h i j k = omega arith

map_four : (m : ℕ) → m < 16 → m ≡ cond (bit 0 m) 1 0 + 2 * cond (bit 1 m) 1 0 + 4 * cond (bit 2 m) 1 0 + 8 * cond (bit 3 m) 1 0
map_four m h =
    let e0 : m / 2 ^ 0 ≡ m = div-one m in
    let e1 : m / 2 / 2 ≡ m / 4 = shr-shr m 1 1 in
    let e2 : m / 4 / 2 ≡ m / 8 = shr-shr m 2 1 in
    let top : m / 8 ≡ m / 8 % 2 = omega arith in
    rw (bit_value (m / 2 ^ 0 % 2) (omega arith), bit_value (m / 2 ^ 1 % 2) (omega arith), bit_value (m / 2 ^ 2 % 2) (omega arith), bit_value (m / 2 ^ 3 % 2) (omega arith), e0)
    (weigh m (m / 2) (m / 4) (m / 8) (m % 2) (m / 2 % 2) (m / 4 % 2) (m / 8 % 2) (halves m) (omega (arith, halves (m / 2), e1)) (omega (arith, halves (m / 4), e2)) top)

map_two : (m : ℕ) → m < 4 → m ≡ cond (bit 0 m) 1 0 + 2 * cond (bit 1 m) 1 0
map_two m h = rw (bit_value (m / 2 ^ 0 % 2) (omega arith), bit_value (m / 2 ^ 1 % 2) (omega arith)) (omega arith)

flag_le : (z v : ℕ) → flag z v ≤ 1
flag_le z v = ⊎_elim (λ t. rw t (omega arith)) (λ t. rw t (omega arith)) (cases_Bool (eqb v z))

flag_one : (z v : ℕ) → eqb (flag z v) 1 ≡ has z v
flag_one z v = ⊎_elim (λ t. rw t refl) (λ t. rw t refl) (cases_Bool (eqb v z))

bit_is : (i m z v : ℕ) → m / 2 ^ i % 2 ≡ flag z v → bit i m ≡ has z v
bit_is i m z v e = ap (λ x. eqb x 1) e ∙ flag_one z v

-- A RECORD ------------------------------------------------------------------

joins : (a b c d e : List ℕ) → (a ++ (b ++ (c ++ d))) ++ e ≡ a ++ (b ++ (c ++ (d ++ e)))
joins a b c d e = simp append_assoc

flags_are : (r : Entry) → entry_map r ≡ cond (has 0 r.needs) 1 0 + 2 * cond (has 0 r.adds) 1 0 + 4 * cond (has 0 r.removes) 1 0 + 8 * cond (has 1 r.cost) 1 0
flags_are r = rw (flag_has 0 r.needs, flag_has 0 r.adds, flag_has 0 r.removes, flag_has 1 r.cost) refl

pub record Record (n : ℕ) (b : List ℕ) (r : Entry) (rest : List ℕ) : Type 0 where
  pub split : b ≡ entry_bytes r ++ rest
  pub well : WellEntry n r
  pub more : Bytes rest

map_denied_inv : (k m : ℕ) → map_denied k m ≡ None → m < 2 ^ k
map_denied_inv k m e = ⊎_elim (λ t. ltb-true _ _ t) (λ t. let z : Some MapBitUnknown ≡ None = sym (cond-false _ _ _ t) ∙ e in absurd (some_none z)) (cases_Bool (ltb m (2 ^ k)))

apart_inv : (t : Bool) (r r' : Entry) (b b' : List ℕ) (f : Fault) → ◌≡◌ {A = Result (Entry × List ℕ) Fault} (cond t (Ok (r, b)) (Err f)) (Ok (r', b')) → (t ≡ true) × (r ≡ r') × (b ≡ b')
apart_inv true r r' b b' f e = let q = ok_inj e in (refl, ap (λ (x : Entry × List ℕ). x.0) q, ap (λ (x : Entry × List ℕ). x.1) q)
apart_inv false r r' b b' f e = absurd (no_ok e)

pub entry_inv : (n len : ℕ) (a : Option ℕ) (b : List ℕ) (r : Entry) (rest : List ℕ) → Bytes b → entry n len a b ≡ Ok (r, rest) → Record n b r rest
unfolding entry entry_bytes
entry_inv n len a b r rest h e =
    let i0 = then_inv _ _ _ e in
    let m = i0.0.0 in
    let f0 = field_inv 1 (map_denied 4) len a b m i0.0.1 h i0.1 in
    let i1 = then_inv _ _ _ i0.2 in
    let f1 = set_inv (bit 0 m) n len a i0.0.1 i1.0.0 i1.0.1 f0.more i1.1 in
    let i2 = then_inv _ _ _ i1.2 in
    let f2 = set_inv (bit 1 m) n len a i1.0.1 i2.0.0 i2.0.1 f1.0.more i2.1 in
    let i3 = then_inv _ _ _ i2.2 in
    let f3 = set_inv (bit 2 m) n len a i2.0.1 i3.0.0 i3.0.1 f2.0.more i3.1 in
    let i4 = then_inv _ _ _ i3.2 in
    let f4 = cost_inv (bit 3 m) len a i3.0.1 i4.0.0 i4.0.1 f3.0.more i4.1 in
    let w = apart_inv _ _ _ _ _ _ i4.2 in
    let got : Entry = record { needs = i1.0.0; adds = i2.0.0; removes = i3.0.0; cost = i4.0.0 } in
    let maps : m ≡ entry_map got =
    map_four m (map_denied_inv 4 m f0.clear)
    ∙ ap (λ x. cond x 1 0 + 2 * cond (bit 1 m) 1 0 + 4 * cond (bit 2 m) 1 0 + 8 * cond (bit 3 m) 1 0) f1.0.present
    ∙ ap (λ x. cond (has 0 got.needs) 1 0 + 2 * cond x 1 0 + 4 * cond (bit 2 m) 1 0 + 8 * cond (bit 3 m) 1 0) f2.0.present
    ∙ ap (λ x. cond (has 0 got.needs) 1 0 + 2 * cond (has 0 got.adds) 1 0 + 4 * cond x 1 0 + 8 * cond (bit 3 m) 1 0) f3.0.present
    ∙ ap (λ x. cond (has 0 got.needs) 1 0 + 2 * cond (has 0 got.adds) 1 0 + 4 * cond (has 0 got.removes) 1 0 + 8 * cond x 1 0) f4.present
    ∙ sym (flags_are got) in
    let whole : b ≡ entry_bytes got ++ i4.0.1 =
    f0.split ∙ ap (λ x. x ++ i0.0.1) (one_byte m) ∙ ap (λ x. x ∷ i0.0.1) maps
    ∙ ap (λ x. entry_map got ∷ x) (f1.0.split ∙ ap (λ x. unless 0 8 got.needs ++ x) (f2.0.split ∙ ap (λ x. unless 0 8 got.adds ++ x) (f3.0.split ∙ ap (λ x. unless 0 8 got.removes ++ x) f4.split))
    ∙ sym (joins (unless 0 8 got.needs) (unless 0 8 got.adds) (unless 0 8 got.removes) (unless 1 2 got.cost) i4.0.1)) in
    let fits : WellEntry n got = record { needs_in = f1.1; adds_in = f2.1; removes_in = f3.1; apart = eqb-true _ _ w.0; cost_fits = f4.small } in
    record { split = whole ∙ ap (λ x. entry_bytes x ++ i4.0.1) w.1 ∙ ap (λ x. entry_bytes r ++ x) w.2; well = subst (λ x. WellEntry n x) w.1 fits; more = subst (λ x. Bytes x) w.2 f4.more }

bits_of : (p q r s : ℕ) → p ≤ 1 → q ≤ 1 → r ≤ 1 → s ≤ 1 → let m : ℕ = p + 2 * q + 4 * r + 8 * s in (m / 2 ^ 0 % 2 ≡ p) × (m / 2 ^ 1 % 2 ≡ q) × (m / 2 ^ 2 % 2 ≡ r) × (m / 2 ^ 3 % 2 ≡ s)
bits_of p q r s hp hq hr hs = (omega arith, omega arith, omega arith, omega arith)

pub entry_on : (n len : ℕ) (a : Option ℕ) (r : Entry) (rest : List ℕ) → n ≤ 64 → WellEntry n r → entry n len a (entry_bytes r ++ rest) ≡ Ok (r, rest)
unfolding entry entry_bytes
entry_on n len a r rest few w =
    let m : ℕ = entry_map r in
    let fs = bits_of (flag 0 r.needs) (flag 0 r.adds) (flag 0 r.removes) (flag 1 r.cost) (flag_le _ _) (flag_le _ _) (flag_le _ _) (flag_le _ _) in
    let small : m < 16 = omega (arith, flag_le 0 r.needs, flag_le 0 r.adds, flag_le 0 r.removes, flag_le 1 r.cost) in
    let ns : List ℕ = unless 0 8 r.needs in
    let ds : List ℕ = unless 0 8 r.adds in
    let rs : List ℕ = unless 0 8 r.removes in
    let cs : List ℕ = unless 1 2 r.cost in
    let tail : List ℕ = ns ++ (ds ++ (rs ++ (cs ++ rest))) in
    let e0 : field 1 (map_denied 4) len a (m ∷ tail) ≡ Ok (m, tail) =
    ap (λ x. field 1 (map_denied 4) len a (x ++ tail)) (sym (one_byte m)) ∙ field_on 1 (map_denied 4) len a m tail (omega arith) (cond-true _ _ _ (lt-ltb _ _ small)) in
    ap (λ x. entry n len a (m ∷ x)) (joins ns ds rs cs rest)
    ∙ then_ok _ e0
    ∙ then_ok _ (ap (λ x. set_at x n len a tail) (bit_is 0 m 0 r.needs fs.0) ∙ set_on n len a r.needs (ds ++ (rs ++ (cs ++ rest))) few w.needs_in)
    ∙ then_ok _ (ap (λ x. set_at x n len a (ds ++ (rs ++ (cs ++ rest)))) (bit_is 1 m 0 r.adds fs.1) ∙ set_on n len a r.adds (rs ++ (cs ++ rest)) few w.adds_in)
    ∙ then_ok _ (ap (λ x. set_at x n len a (rs ++ (cs ++ rest))) (bit_is 2 m 0 r.removes fs.2) ∙ set_on n len a r.removes (cs ++ rest) few w.removes_in)
    ∙ then_ok _ (ap (λ x. cost_at x len a (cs ++ rest)) (bit_is 3 m 1 r.cost fs.3) ∙ cost_on len a r.cost rest w.cost_fits)
    ∙ cond-true _ _ _ (eq-eqb _ _ w.apart)

-- THE RECORDS ---------------------------------------------------------------

pub record Run (n k : ℕ) (done : List Entry) (b : List ℕ) (all : List Entry) (rest : List ℕ) : Type 0 where
  pub new : List Entry
  pub adds : all ≡ done ++ new
  pub count : length new ≡ k
  pub split : b ≡ flat_map entry_bytes new ++ rest
  pub each : All (WellEntry n) new
  pub more : Bytes rest

entries_inj : (x y : List Entry) (b c : List ℕ) → ◌≡◌ {A = Result (List Entry × List ℕ) Fault} (Ok (x, b)) (Ok (y, c)) → (x ≡ y) × (b ≡ c)
entries_inj x y b c e = let q = ok_inj e in (ap (λ (z : List Entry × List ℕ). z.0) q, ap (λ (z : List Entry × List ℕ). z.1) q)

pub records_inv : (n len k i : ℕ) (done : List Entry) (b : List ℕ) (all : List Entry) (rest : List ℕ) → Bytes b → records n len k i done b ≡ Ok (all, rest) → Run n k done b all rest
unfolding records
records_inv n len zero i done b all rest h e =
    let q = entries_inj _ _ _ _ e in
    record { new = []; adds = sym q.0 ∙ sym (append-nil done); count = refl; split = q.1; each = tt; more = subst (λ x. Bytes x) q.1 h }
records_inv n len (suc k) i done b all rest h e =
    let s = then_inv _ _ _ e in
    let r = entry_inv n len (Some i) b s.0.0 s.0.1 h s.1 in
    let t = records_inv n len k (i + 1) (done ++ s.0.0 ∷ []) s.0.1 all rest r.more s.2 in
    record {
      new = s.0.0 ∷ t.new;
      adds = t.adds ∙ append_assoc done (s.0.0 ∷ []) t.new;
      count = ap suc t.count;
      split = r.split ∙ ap (λ x. entry_bytes s.0.0 ++ x) t.split ∙ sym (append_assoc (entry_bytes s.0.0) (flat_map entry_bytes t.new) rest);
      each = (r.well, t.each);
      more = t.more;
    }

records_on : (n len i : ℕ) (done new : List Entry) (rest : List ℕ) → n ≤ 64 → All (WellEntry n) new → records n len (length new) i done (flat_map entry_bytes new ++ rest) ≡ Ok (done ++ new, rest)
unfolding records
records_on n len i done [] rest few h = ap (λ x. Ok (x, rest)) (sym (append-nil done))
records_on n len i done (r ∷ new) rest few h =
    ap (λ x. records n len (suc (length new)) i done x) (append_assoc (entry_bytes r) (flat_map entry_bytes new) rest)
    ∙ then_ok _ (entry_on n len (Some i) r (flat_map entry_bytes new ++ rest) few h.0)
    ∙ records_on n len (i + 1) (done ++ r ∷ []) new rest few h.1
    ∙ ap (λ x. Ok (x, rest)) (append_assoc done (r ∷ []) new)

-- THE HEADER ----------------------------------------------------------------

version_inv : (v : ℕ) → version_denied v ≡ None → v ≡ 1
version_inv v e = ⊎_elim (λ t. eqb-true _ _ t) (λ t. let z : Some VersionUnknown ≡ None = sym (cond-false _ _ _ t) ∙ e in absurd (some_none z)) (cases_Bool (eqb v 1))

size_inv : (m v : ℕ) → size_denied m v ≡ None → v ≤ m
size_inv m v e = ⊎_elim (λ t. leb-true _ _ t) (λ t. let z : Some SizeOutOfRange ≡ None = sym (cond-false _ _ _ t) ∙ e in absurd (some_none z)) (cases_Bool (leb v m))

pub record Head (b : List ℕ) (n k m : ℕ) (rest : List ℕ) : Type 0 where
  pub split : b ≡ 1 ∷ n ∷ (high_first 2 k ++ (m ∷ rest))
  pub few : n ≤ 64
  pub short : k ≤ 256
  pub small : m < 4
  pub more : Bytes rest

head_inj : (n k m n' k' m' : ℕ) (b c : List ℕ) → ◌≡◌ {A = Result ((ℕ × ℕ × ℕ) × List ℕ) Fault} (Ok ((n, k, m), b)) (Ok ((n', k', m'), c)) → (n ≡ n') × (k ≡ k') × (m ≡ m') × (b ≡ c)
head_inj n k m n' k' m' b c e =
    let q = ok_inj e in
    (ap (λ (z : (ℕ × ℕ × ℕ) × List ℕ). z.0.0) q, ap (λ (z : (ℕ × ℕ × ℕ) × List ℕ). z.0.1) q, ap (λ (z : (ℕ × ℕ × ℕ) × List ℕ). z.0.2) q, ap (λ (z : (ℕ × ℕ × ℕ) × List ℕ). z.1) q)

pub header_inv : (len : ℕ) (b : List ℕ) (n k m : ℕ) (rest : List ℕ) → Bytes b → header len b ≡ Ok ((n, k, m), rest) → Head b n k m rest
unfolding header
header_inv len b n k m rest h e =
    let i0 = then_inv _ _ _ e in
    let f0 = field_inv 1 version_denied len None b i0.0.0 i0.0.1 h i0.1 in
    let i1 = then_inv _ _ _ i0.2 in
    let f1 = field_inv 1 (size_denied 64) len None i0.0.1 i1.0.0 i1.0.1 f0.more i1.1 in
    let i2 = then_inv _ _ _ i1.2 in
    let f2 = field_inv 2 (size_denied 256) len None i1.0.1 i2.0.0 i2.0.1 f1.more i2.1 in
    let i3 = then_inv _ _ _ i2.2 in
    let f3 = field_inv 1 (map_denied 2) len None i2.0.1 i3.0.0 i3.0.1 f2.more i3.1 in
    let q = head_inj _ _ _ _ _ _ _ _ i3.2 in
    let whole : b ≡ 1 ∷ i1.0.0 ∷ (high_first 2 i2.0.0 ++ (i3.0.0 ∷ i3.0.1)) =
    f0.split ∙ ap (λ x. x ++ i0.0.1) (one_byte i0.0.0) ∙ ap (λ x. x ∷ i0.0.1) (version_inv _ f0.clear)
    ∙ ap (λ x. 1 ∷ x) (f1.split ∙ ap (λ x. x ++ i1.0.1) (one_byte i1.0.0)
    ∙ ap (λ x. i1.0.0 ∷ x) (f2.split ∙ ap (λ x. high_first 2 i2.0.0 ++ x) (f3.split ∙ ap (λ x. x ++ i3.0.1) (one_byte i3.0.0)))) in
    record {
      split = whole ∙ ap (λ x. 1 ∷ x ∷ (high_first 2 i2.0.0 ++ (i3.0.0 ∷ i3.0.1))) q.0 ∙ ap (λ x. 1 ∷ n ∷ (high_first 2 x ++ (i3.0.0 ∷ i3.0.1))) q.1
          ∙ ap (λ x. 1 ∷ n ∷ (high_first 2 k ++ (x ∷ i3.0.1))) q.2 ∙ ap (λ x. 1 ∷ n ∷ (high_first 2 k ++ (m ∷ x))) q.3;
      few = subst (λ x. x ≤ 64) q.0 (size_inv 64 _ f1.clear);
      short = subst (λ x. x ≤ 256) q.1 (size_inv 256 _ f2.clear);
      small = subst (λ x. x < 4) q.2 (map_denied_inv 2 _ f3.clear);
      more = subst (λ x. Bytes x) q.3 f3.more;
    }

header_on : (len n k m : ℕ) (rest : List ℕ) → n ≤ 64 → k ≤ 256 → m < 4 → header len (1 ∷ n ∷ (high_first 2 k ++ (m ∷ rest))) ≡ Ok ((n, k, m), rest)
unfolding header
header_on len n k m rest few short small =
    let t2 : List ℕ = high_first 2 k ++ (m ∷ rest) in
    then_ok _ (ap (λ x. field 1 version_denied len None (x ++ (n ∷ t2))) (sym (one_byte 1)) ∙ field_on 1 version_denied len None 1 (n ∷ t2) (omega arith) refl)
    ∙ then_ok _ (ap (λ x. field 1 (size_denied 64) len None (x ++ t2)) (sym (one_byte n)) ∙ field_on 1 (size_denied 64) len None n t2 (omega arith) (cond-true _ _ _ (le-leb _ _ few)))
    ∙ then_ok _ (field_on 2 (size_denied 256) len None k (m ∷ rest) (omega arith) (cond-true _ _ _ (le-leb _ _ short)))
    ∙ then_ok _ (ap (λ x. field 1 (map_denied 2) len None (x ++ rest)) (sym (one_byte m)) ∙ field_on 1 (map_denied 2) len None m rest (omega arith) (cond-true _ _ _ (lt-ltb _ _ small)))

-- THE FILE ------------------------------------------------------------------

ended_inv : (n s g len : ℕ) (rs : List Entry) (b : List ℕ) (c : Content) → ended n s g len (rs, b) ≡ Ok c → (b ≡ []) × (record { atoms = n; start = s; goal = g; entries = rs } ≡ c)
ended_inv n s g len rs [] c e = (refl, ok_inj e)
ended_inv n s g len rs (x ∷ b) c e = absurd (no_ok e)

pub content_sound : (b : List ℕ) (c : Content) → Bytes b → content b ≡ Ok c → (b ≡ content_bytes c) × Well c
unfolding content body content_bytes
content_sound b c h e =
    let i0 = then_inv _ _ _ e in
    let n = i0.0.0.0 in
    let k = i0.0.0.1 in
    let m = i0.0.0.2 in
    let f0 = header_inv (length b) b n k m i0.0.1 h i0.1 in
    let i1 = then_inv _ _ _ i0.2 in
    let f1 = set_inv (bit 0 m) n (length b) None i0.0.1 i1.0.0 i1.0.1 f0.more i1.1 in
    let i2 = then_inv _ _ _ i1.2 in
    let f2 = set_inv (bit 1 m) n (length b) None i1.0.1 i2.0.0 i2.0.1 f1.0.more i2.1 in
    let i3 = then_inv _ _ _ i2.2 in
    let f3 = records_inv n (length b) k 0 [] i2.0.1 i3.0.0 i3.0.1 f2.0.more i3.1 in
    let w = ended_inv n i1.0.0 i2.0.0 (length b) i3.0.0 i3.0.1 c i3.2 in
    let got : Content = record { atoms = n; start = i1.0.0; goal = i2.0.0; entries = i3.0.0 } in
    let maps : m ≡ content_map got =
    map_two m f0.small
    ∙ ap (λ x. cond x 1 0 + 2 * cond (bit 1 m) 1 0) f1.0.present ∙ ap (λ x. cond (has 0 got.start) 1 0 + 2 * cond x 1 0) f2.0.present
    ∙ ap (λ x. x + 2 * cond (has 0 got.goal) 1 0) (sym (flag_has 0 got.start)) ∙ ap (λ x. flag 0 got.start + 2 * x) (sym (flag_has 0 got.goal)) in
    let recs : i2.0.1 ≡ flat_map entry_bytes got.entries =
    f3.split ∙ ap (λ x. flat_map entry_bytes f3.new ++ x) w.0 ∙ append-nil (flat_map entry_bytes f3.new) ∙ ap (λ x. flat_map entry_bytes x) (sym f3.adds) in
    let many : k ≡ length got.entries = sym f3.count ∙ ap length (sym f3.adds) in
    let whole : b ≡ content_bytes got =
    f0.split ∙ ap (λ x. 1 ∷ n ∷ (high_first 2 x ++ (m ∷ i0.0.1))) many ∙ ap (λ x. 1 ∷ n ∷ (high_first 2 (length got.entries) ++ (x ∷ i0.0.1))) maps
    ∙ ap (λ x. 1 ∷ n ∷ (high_first 2 (length got.entries) ++ (content_map got ∷ x)))
    (f1.0.split ∙ ap (λ x. unless 0 8 got.start ++ x) (f2.0.split ∙ ap (λ x. unless 0 8 got.goal ++ x) recs)) in
    let fine : Well got = record {
      few_atoms_lem = f0.few;
      few_entries = subst (λ x. x ≤ 256) many f0.short;
      start_in = f1.1;
      goal_in = f2.1;
      each = subst (λ x. All (WellEntry n) x) (sym f3.adds) f3.each;
    } in
    subst (λ x. (b ≡ content_bytes x) × Well x) w.1 (whole, fine)

pub content_complete : (c : Content) → Well c → content (content_bytes c) ≡ Ok c
unfolding content body content_bytes
content_complete c w =
    let n = c.atoms in
    let len : ℕ = length (content_bytes c) in
    let rs : List ℕ = flat_map entry_bytes c.entries in
    let gs : List ℕ = unless 0 8 c.goal in
    let m : ℕ = content_map c in
    let small : m < 4 = omega (arith, flag_le 0 c.start, flag_le 0 c.goal) in
    let b0 : m / 2 ^ 0 % 2 ≡ flag 0 c.start = omega (arith, flag_le 0 c.start, flag_le 0 c.goal) in
    let b1 : m / 2 ^ 1 % 2 ≡ flag 0 c.goal = omega (arith, flag_le 0 c.start, flag_le 0 c.goal) in
    then_ok _ (header_on len n (length c.entries) m (unless 0 8 c.start ++ (gs ++ rs)) w.few_atoms_lem w.few_entries small)
    ∙ then_ok _ (ap (λ x. set_at x n len None (unless 0 8 c.start ++ (gs ++ rs))) (bit_is 0 m 0 c.start b0) ∙ set_on n len None c.start (gs ++ rs) w.few_atoms_lem w.start_in)
    ∙ then_ok _ (ap (λ x. set_at x n len None (gs ++ rs)) (bit_is 1 m 0 c.goal b1) ∙ set_on n len None c.goal rs w.few_atoms_lem w.goal_in)
    ∙ then_ok _ (ap (λ x. records n len (length c.entries) 0 [] x) (sym (append-nil rs)) ∙ records_on n len 0 [] c.entries [] w.few_atoms_lem w.each)
