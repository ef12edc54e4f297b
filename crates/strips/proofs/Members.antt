-- What the operations on numbers do to the sets of their bits.
use Rattle.std.proofs.Common.{◌≡◌, ℕ, ◌+◌, ◌-◌, ◌*◌, ◌/◌, ◌%◌, ◌^◌, ◌<◌, ◌≤◌, ◌≢◌, Bool, true, false, not, ◌&&◌, ◌||◌, eqb, ltb, ◌⊎◌, Some, sym, refl, ap, ◌∙◌, subst, inl, inr, ⊎_elim, true≢false, zero-mul, arith, ltb-true, le-ltb, lt-ltb, eq-eqb, ne_eqb, eqb-true}
use lib.Count.{count_trailing_zeros}
use lib.Bits.{bit_and, bit_or, bit_xor}
use Rattle.std.proofs.lemmas.Bool.{cases_lt, cases_eq, cases_Bool, and_parts, and_from, not_from_true, not_from_false}
use Rattle.std.proofs.lemmas.Nat.{and_le_l, and_le_r, shr_le, shr-shr, pow_pos, one_shl, mod_below, div-add-mod'}
use Rattle.strips.specs.Sets.{Atoms, joined, common, without, clipped, first, plus, less, Within, inside, meets}
use Rattle.strips.specs.Bits.{bit, bits_of, number}
use Rattle.strips.specs.Parts.{FirstFrom, Parted}
use Rattle.strips.proofs.Binary.{lowest_bit, cleared, number_bit, number_all, bit-bit_and, bit-bit_or, bit_cut, bit_pow, same_number, high_none, none_bit, number_of_bits, inside_each, inside_from, meets_from, meets_none, same_test}

none : (b : Bool) → (b && false) ≡ false
none true = refl
none false = refl

-- sets with the same atoms are the same
pub same_atoms : (A B : Atoms) → ((p : ℕ) → A p ≡ B p) → A ≡ B
same_atoms A B h = λ i p. h p i

-- what is within n is not altered by clipping
pub clipped_within : (n : ℕ) (A : Atoms) → Within n A → clipped n A ≡ A
clipped_within n A h = same_atoms (clipped n A) A (λ p. go p (cases_Bool (A p)))
  where
    go : (p : ℕ) → (A p ≡ true) ⊎ (A p ≡ false) → (ltb p n && A p) ≡ A p
    go p (inl e) = ap (λ b. b && A p) (lt-ltb p n (h p e))
    go p (inr e) = ap (λ b. ltb p n && b) e ∙ (none (ltb p n) ∙ sym e)

pub clipped_part : (n : ℕ) (A : Atoms) (p : ℕ) → clipped n A p ≡ true → A p ≡ true
clipped_part n A p h = (and_parts (ltb p n) (A p) h).1

pub bits_none : bits_of 0 ≡ (λ _. false)
bits_none = same_atoms (bits_of 0) (λ _. false) (λ p. ap (λ b. ltb p 64 && b) (none_bit p) ∙ none (ltb p 64))

pub bits_number : (x : ℕ) → x < 2 ^ 64 → x ≡ number 64 (bits_of x)
bits_number x h = sym (ap (number 64) (clipped_within 64 (λ p. bit p x) (λ p e. ⊎_elim (λ k. k) (λ k. absurd (true≢false (sym e ∙ high_none 64 x p h k))) (cases_lt p 64))) ∙ number_of_bits 64 x h)

pub bits_joined : (x y : ℕ) → bits_of (bit_or x y) ≡ joined (bits_of x) (bits_of y)
bits_joined x y = same_atoms (bits_of (bit_or x y)) (joined (bits_of x) (bits_of y)) (λ p. ap (λ b. ltb p 64 && b) (bit-bit_or x y p) ∙ share (ltb p 64) (bit p x) (bit p y))
  where
    share : (b u v : Bool) → (b && (u || v)) ≡ ((b && u) || (b && v))
    share true u v = refl
    share false u v = refl

pub bits_common : (x y : ℕ) → bits_of (bit_and x y) ≡ common (bits_of x) (bits_of y)
bits_common x y = same_atoms (bits_of (bit_and x y)) (common (bits_of x) (bits_of y)) (λ p. ap (λ b. ltb p 64 && b) (bit-bit_and x y p) ∙ share (ltb p 64) (bit p x) (bit p y))
  where
    share : (b u v : Bool) → (b && (u && v)) ≡ ((b && u) && (b && v))
    share true u v = refl
    share false u v = refl

pub bits_without : (x y : ℕ) → bits_of (bit_xor x (bit_and x y)) ≡ without (bits_of x) (bits_of y)
bits_without x y = same_atoms (bits_of (bit_xor x (bit_and x y))) (without (bits_of x) (bits_of y)) (λ p. ap (λ b. ltb p 64 && b) (bit_cut x y p) ∙ share (ltb p 64) (bit p x) (bit p y))
  where
    share : (b u v : Bool) → (b && (u && not v)) ≡ ((b && u) && not (b && v))
    share true u v = refl
    share false u v = refl

pub bits_with : (x a : ℕ) → a < 64 → bits_of (bit_or x (1 * 2 ^ a % 18446744073709551616)) ≡ clipped 64 (plus a (bits_of x))
bits_with x a h = ap (λ z. bits_of (bit_or x z)) (one_shl a 64 h) ∙ same_atoms (bits_of (bit_or x (2 ^ a))) (clipped 64 (plus a (bits_of x))) (λ p. ap (λ b. ltb p 64 && b) (bit-bit_or x (2 ^ a) p ∙ ap (λ b. bit p x || b) (bit_pow a p)) ∙ share (ltb p 64) (bit p x) (eqb p a))
  where
    turn : (u v : Bool) → (u || v) ≡ (v || u)
    turn true true = refl
    turn true false = refl
    turn false true = refl
    turn false false = refl

    share : (b u v : Bool) → (b && (u || v)) ≡ (b && (v || (b && u)))
    share true u v = turn u v
    share false u v = refl

-- the atoms of A up to n, from those below n, where n is in A and where it is not
pub clipped_put : (n : ℕ) (A B : Atoms) → n < 64 → B ≡ clipped n A → true ≡ A n → clipped 64 (plus n B) ≡ clipped (n + 1) A
clipped_put n A B h e a = ap (λ X. clipped 64 (plus n X)) e ∙ same_atoms (clipped 64 (plus n (clipped n A))) (clipped (n + 1) A) (λ p. go p (cases_eq p n) (cases_lt p n))
  where
    go : (p : ℕ) → (p ≡ n) ⊎ (p ≢ n) → (p < n) ⊎ (n ≤ p) → (ltb p 64 && (eqb p n || (ltb p n && A p))) ≡ (ltb p (n + 1) && A p)
    go p (inl q) l = rw (q, eq-eqb n n refl, lt-ltb n 64 h, lt-ltb n (n + 1) (omega arith)) a
    go p (inr q) (inl l) = rw (ne_eqb p n q, lt-ltb p 64 (omega arith), lt-ltb p n l, lt-ltb p (n + 1) (omega arith))
    go p (inr q) (inr l) = rw (ne_eqb p n q, le-ltb p n l, le-ltb p (n + 1) (let ne : (p ≡ n → ⊥) = q in omega arith)) (none (ltb p 64))

pub clipped_skip : (n : ℕ) (A B : Atoms) → B ≡ clipped n A → false ≡ A n → B ≡ clipped (n + 1) A
clipped_skip n A B e a = e ∙ same_atoms (clipped n A) (clipped (n + 1) A) (λ p. go p (cases_eq p n) (cases_lt p n))
  where
    go : (p : ℕ) → (p ≡ n) ⊎ (p ≢ n) → (p < n) ⊎ (n ≤ p) → (ltb p n && A p) ≡ (ltb p (n + 1) && A p)
    go p (inl q) l = rw q (rw (le-ltb n n (omega arith), lt-ltb n (n + 1) (omega arith)) a)
    go p (inr q) (inl l) = rw (lt-ltb p n l, lt-ltb p (n + 1) (omega arith))
    go p (inr q) (inr l) = rw (le-ltb p n l, le-ltb p (n + 1) (let ne : (p ≡ n → ⊥) = q in omega arith))

pub bits_of_number : (A : Atoms) → bits_of (number 64 A) ≡ clipped 64 A
bits_of_number A = same_atoms (bits_of (number 64 A)) (clipped 64 A) (λ p. ap (λ b. ltb p 64 && b) (number_bit 64 A p) ∙ twice (ltb p 64) (A p))
  where
    twice : (b u : Bool) → (b && (b && u)) ≡ (b && u)
    twice true u = refl
    twice false u = refl

-- the number of all atoms below n has just their bits
pub bits_first : (n : ℕ) → bits_of (2 ^ n - 1) ≡ clipped 64 (first n)
bits_first n = same_atoms (bits_of (2 ^ n - 1)) (clipped 64 (first n)) (λ p. ap (λ b. ltb p 64 && b) (ap (bit p) (let h = number_all n in all) ∙ (number_bit n (λ _. true) p ∙ yes (ltb p n))))
  where
    all : 2 ^ n - 1 ≡ number n (λ _. true)
    all = let h = number_all n in omega arith

    yes : (b : Bool) → (b && true) ≡ b
    yes true = refl
    yes false = refl

pub bits_all : (n : ℕ) → 64 ≤ n → bits_of 18446744073709551615 ≡ clipped 64 (first n)
bits_all n h = bits_first 64 ∙ same_atoms (clipped 64 (first 64)) (clipped 64 (first n)) (λ p. go p (cases_lt p 64))
  where
    go : (p : ℕ) → (p < 64) ⊎ (64 ≤ p) → (ltb p 64 && ltb p 64) ≡ (ltb p 64 && ltb p n)
    go p (inl k) = rw (lt-ltb p 64 k, lt-ltb p n (omega arith))
    go p (inr k) = rw (le-ltb p 64 k)

-- what is left of a number from a place on
bit_shifted : (x n p : ℕ) → bit p (x / 2 ^ n) ≡ bit (n + p) x
bit_shifted x n p = ap (λ z. eqb (z % 2) 1) (shr-shr x n p)

pub next_none : (x from : ℕ) → x / 2 ^ from ≡ 0 → (p : ℕ) → from ≤ p → bits_of x p ≡ false
next_none x from e p h =
    let q : from + (p - from) ≡ p = omega arith in
    let z : bit p x ≡ false = ap (λ n. bit n x) (sym q) ∙ (sym (bit_shifted x from (p - from)) ∙ (ap (bit (p - from)) e ∙ none_bit (p - from))) in
    ap (λ b. ltb p 64 && b) z ∙ none (ltb p 64)

pub next_some : (x from : ℕ) → x < 2 ^ 64 → (x / 2 ^ from ≡ 0 → ⊥) → FirstFrom (bits_of x) from (Some (from + count_trailing_zeros 64 (x / 2 ^ from)))
next_some x from h ne =
    let rest : ℕ = x / 2 ^ from in
    let le = shr_le x from in
    let some : 0 < rest = ⊎_elim (λ k. k) (λ k. absurd (ne (omega arith))) (cases_lt 0 rest) in
    let low = lowest_bit 64 rest some (omega arith) in
    let n : ℕ = count_trailing_zeros 64 rest in
    let here : bit (from + n) x ≡ true = sym (bit_shifted x from n) ∙ low.0 in
    let inside : from + n < 64 = ⊎_elim (λ k. k) (λ k. absurd (true≢false (sym here ∙ high_none 64 x (from + n) h k))) (cases_lt (from + n) 64) in (
      omega arith,
      and_from (ltb (from + n) 64) (bit (from + n) x) (lt-ltb (from + n) 64 inside) here,
      λ p a b.
          let q : from + (p - from) ≡ p = omega arith in
          let z : bit p x ≡ false = ap (λ n. bit n x) (sym q) ∙ (sym (bit_shifted x from (p - from)) ∙ low.1 (p - from) (omega arith)) in
          ap (λ b. ltb p 64 && b) z ∙ none (ltb p 64),
    )

-- the lowest bit, and the others
pub parted : (x : ℕ) → x < 2 ^ 64 → (x ≡ 0 → ⊥) → Parted (bits_of x) (count_trailing_zeros 64 x) (bits_of (bit_and x (x - 1)))
parted x h ne =
    let some : 0 < x = ⊎_elim (λ k. k) (λ k. absurd (ne (omega arith))) (cases_lt 0 x) in
    let low = lowest_bit 64 x some h in
    let n : ℕ = count_trailing_zeros 64 x in
    let inside : n < 64 = ⊎_elim (λ k. k) (λ k. absurd (true≢false (sym low.0 ∙ high_none 64 x n h k))) (cases_lt n 64) in
    let le = and_le_r x (x - 1) in
    record {
      below = inside;
      is_in = and_from (ltb n 64) (bit n x) (lt-ltb n 64 inside) low.0;
      is_first = λ q l. ap (λ b. ltb q 64 && b) (low.1 q l) ∙ none (ltb q 64);
      rest = same_atoms (bits_of (bit_and x (x - 1))) (less n (bits_of x)) (λ p. ap (λ b. ltb p 64 && b) (cleared 64 x some h p) ∙ swap (ltb p 64) (not (eqb p n)) (bit p x));
      falls = subst (λ z. number 64 (bits_of (bit_and x (x - 1))) < z) (bits_number x h) (subst (λ z. z < x) (bits_number (bit_and x (x - 1)) (omega arith)) (omega arith));
    }
  where
    swap : (b u v : Bool) → (b && (u && v)) ≡ (u && (b && v))
    swap true u v = refl
    swap false u v = sym (none u)

-- a bit below 64 is an atom
atom_of : (x p : ℕ) → p < 64 → bit p x ≡ true → bits_of x p ≡ true
atom_of x p l h = and_from (ltb p 64) (bit p x) (lt-ltb p 64 l) h

pub inside_test : (x y : ℕ) → x < 2 ^ 64 → eqb (bit_and x y) x ≡ inside 64 (bits_of x) (bits_of y)
inside_test x y h = same_test (eqb (bit_and x y) x) (inside 64 (bits_of x) (bits_of y)) there back
  where
    second : (u v : Bool) → u ≡ true → (u && v) ≡ u → v ≡ true
    second true v e f = f
    second false v e f = absurd (true≢false (sym e))

    there : eqb (bit_and x y) x ≡ true → inside 64 (bits_of x) (bits_of y) ≡ true
    there e = inside_from 64 (bits_of x) (bits_of y) (λ p l u. atom_of y p l (second (bit p x) (bit p y) (clipped_part 64 (λ q. bit q x) p u) (sym (bit-bit_and x y p) ∙ ap (bit p) (eqb-true (bit_and x y) x e))))

    both : (u v : Bool) → (u ≡ true → v ≡ true) → (u && v) ≡ u
    both true v f = f refl
    both false v f = refl

    each : inside 64 (bits_of x) (bits_of y) ≡ true → (p : ℕ) → (p < 64) ⊎ (64 ≤ p) → bit p x ≡ true → bit p y ≡ true
    each e p (inl l) u = clipped_part 64 (λ q. bit q y) p (inside_each 64 (bits_of x) (bits_of y) e p l (atom_of x p l u))
    each e p (inr l) u = absurd (true≢false (sym u ∙ high_none 64 x p h l))

    back : inside 64 (bits_of x) (bits_of y) ≡ true → eqb (bit_and x y) x ≡ true
    back e = eq-eqb (bit_and x y) x (same_number 64 (bit_and x y) x (let l = and_le_l x y in omega arith) h (λ p. bit-bit_and x y p ∙ both (bit p x) (bit p y) (each e p (cases_lt p 64))))

pub meets_test : (x y : ℕ) → x < 2 ^ 64 → not (eqb (bit_and x y) 0) ≡ meets 64 (bits_of x) (bits_of y)
meets_test x y h = go (cases_Bool (eqb (bit_and x y) 0))
  where
    clash : (u v : Bool) → u ≡ true → v ≡ true → (u && v) ≡ false → ⊥
    clash u v a b e = true≢false (sym (and_from u v a b) ∙ e)

    bar : meets 64 (bits_of x) (bits_of y) ≡ false → (p : ℕ) → (p < 64) ⊎ (64 ≤ p) → (bit p x && bit p y) ≡ false
    bar e p (inr l) = ap (λ b. b && bit p y) (high_none 64 x p h l)
    bar e p (inl l) = ⊎_elim (λ t. absurd (true≢false (sym (meets_from 64 (bits_of x) (bits_of y) p l (atom_of x p l (and_parts (bit p x) (bit p y) t).0) (atom_of y p l (and_parts (bit p x) (bit p y) t).1)) ∙ e))) (λ f. f) (cases_Bool (bit p x && bit p y))

    zero_from : meets 64 (bits_of x) (bits_of y) ≡ false → bit_and x y ≡ 0
    zero_from e = same_number 64 (bit_and x y) 0 (let l = and_le_l x y in omega arith) (pow_pos 64) (λ p. bit-bit_and x y p ∙ (bar e p (cases_lt p 64) ∙ sym (none_bit p)))

    go : (eqb (bit_and x y) 0 ≡ true) ⊎ (eqb (bit_and x y) 0 ≡ false) → not (eqb (bit_and x y) 0) ≡ meets 64 (bits_of x) (bits_of y)
    go (inl e) = not_from_true (eqb (bit_and x y) 0) e ∙ sym (meets_none 64 (bits_of x) (bits_of y) (λ p l a b. clash (bit p x) (bit p y) (clipped_part 64 (λ q. bit q x) p a) (clipped_part 64 (λ q. bit q y) p b) (sym (bit-bit_and x y p) ∙ (ap (bit p) (eqb-true (bit_and x y) 0 e) ∙ none_bit p))))
    go (inr e) = not_from_false (eqb (bit_and x y) 0) e ∙ sym (⊎_elim (λ t. t) (λ f. absurd (true≢false (sym (eq-eqb (bit_and x y) 0 (zero_from f)) ∙ e))) (cases_Bool (meets 64 (bits_of x) (bits_of y))))

pub below_all : (x n : ℕ) → 64 ≤ n → inside 64 (bits_of x) (first n) ≡ true
below_all x n h = inside_from 64 (bits_of x) (first n) (λ p l u. lt-ltb p n (omega arith))

pub below_test : (x n : ℕ) → x < 2 ^ 64 → n < 64 → eqb (x / 2 ^ n) 0 ≡ inside 64 (bits_of x) (first n)
below_test x n h b = same_test (eqb (x / 2 ^ n) 0) (inside 64 (bits_of x) (first n)) there back
  where
    small_from : x / 2 ^ n ≡ 0 → x < 2 ^ n
    small_from e =
        let d = div-add-mod' x (2 ^ n) in
        let m = mod_below x (2 ^ n) (pow_pos n) in
        let z : x / 2 ^ n * 2 ^ n ≡ 0 = ap (λ z. z * 2 ^ n) e ∙ zero-mul (2 ^ n) in
        omega arith

    there : eqb (x / 2 ^ n) 0 ≡ true → inside 64 (bits_of x) (first n) ≡ true
    there e = inside_from 64 (bits_of x) (first n) (λ p l u. ⊎_elim (λ k. lt-ltb p n k) (λ k. absurd (true≢false (sym (clipped_part 64 (λ q. bit q x) p u) ∙ high_none n x p (small_from (eqb-true (x / 2 ^ n) 0 e)) k))) (cases_lt p n))

    dark : (u : Bool) → (u ≡ true → ⊥) → u ≡ false
    dark true f = absurd (f refl)
    dark false f = refl

    past : inside 64 (bits_of x) (first n) ≡ true → (p : ℕ) → (p < 64) ⊎ (64 ≤ p) → n ≤ p → bit p x ≡ true → ⊥
    past e p (inl l) k u = let z = ltb-true p n (inside_each 64 (bits_of x) (first n) e p l (atom_of x p l u)) in omega arith
    past e p (inr l) k u = true≢false (sym u ∙ high_none 64 x p h l)

    back : inside 64 (bits_of x) (first n) ≡ true → eqb (x / 2 ^ n) 0 ≡ true
    back e = eq-eqb (x / 2 ^ n) 0 (same_number 64 (x / 2 ^ n) 0 (let l = shr_le x n in omega arith) (pow_pos 64) (λ p. ap (λ z. eqb (z % 2) 1) (shr-shr x n p) ∙ (dark (bit (n + p) x) (past e (n + p) (cases_lt (n + p) 64) (omega arith)) ∙ sym (none_bit p))))
