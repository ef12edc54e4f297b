-- The bits of numbers, and the numbers of sets.
use Rattle.std.proofs.Common.{◌≡◌, ℕ, zero, suc, ◌+◌, ◌-◌, ◌*◌, ◌/◌, ◌%◌, ◌^◌, ◌<◌, ◌≤◌, Bool, true, false, cond, not, ◌&&◌, ◌||◌, eqb, ltb, ◌⊎◌, sym, refl, ap, ◌∙◌, subst, inl, inr, ⊎_elim, true≢false, add_comm, one-mul, pow-suc, div-one, one-add, arith, pow_mono, le-ltb, lt-ltb, eq-eqb, ne_eqb}
use lib.Bits.{bit_and, bit_or, bit_xor}
use lib.Count.{count_trailing_zeros, under}
use Rattle.std.proofs.lemmas.Bool.{cases_lt, cases_eq, cases_order, cond_both, and_parts, and_from, or_from, or_left, or_right}
use Rattle.std.proofs.lemmas.Nat.{and_shr, or_shr, xor_shr, and_mod, or_mod, xor_mod, mod_below, shr-shr, shl-shr, pow_pos, pow-add, pow_below, div_below, div-add-mod', or_shifted, or_comm}
use Rattle.strips.specs.Sets.{Atoms, clipped, inside, meets}
use Rattle.strips.specs.Bits.{bit, number}

-- a number below 2 is 0 or 1
data Two : ℕ → Type 0 where
  nil : Two 0
  one : Two 1

two : (n : ℕ) → n < 2 → Two n
two zero h = nil
two (suc zero) h = one
two (suc (suc n)) h = let z : ⊥ = omega arith in absurd z

low : (x : ℕ) → Two (x % 2)
low x = two (x % 2) (mod_below x 2 (omega arith))

and_low : (x y : ℕ) → Two x → Two y → eqb (bit_and x y) 1 ≡ (eqb x 1 && eqb y 1)
and_low _ _ nil nil = refl
and_low _ _ nil one = refl
and_low _ _ one nil = refl
and_low _ _ one one = refl

or_low : (x y : ℕ) → Two x → Two y → eqb (bit_or x y) 1 ≡ (eqb x 1 || eqb y 1)
or_low _ _ nil nil = refl
or_low _ _ nil one = refl
or_low _ _ one nil = refl
or_low _ _ one one = refl

cut_low : (x y : ℕ) → Two x → Two y → eqb (bit_xor x (bit_and x y)) 1 ≡ (eqb x 1 && not (eqb y 1))
cut_low _ _ nil nil = refl
cut_low _ _ nil one = refl
cut_low _ _ one nil = refl
cut_low _ _ one one = refl

low_same : (x y : ℕ) → Two x → Two y → eqb x 1 ≡ eqb y 1 → x ≡ y
low_same _ _ nil nil h = refl
low_same _ _ nil one h = absurd (true≢false (sym h))
low_same _ _ one nil h = absurd (true≢false h)
low_same _ _ one one h = refl

and_at : (a b p : ℕ) → bit_and a b / 2 ^ p % 2 ≡ bit_and (a / 2 ^ p % 2) (b / 2 ^ p % 2)
and_at a b p = ap (λ z. z % 2) (and_shr a b p) ∙ and_mod (a / 2 ^ p) (b / 2 ^ p) 1

or_at : (a b p : ℕ) → bit_or a b / 2 ^ p % 2 ≡ bit_or (a / 2 ^ p % 2) (b / 2 ^ p % 2)
or_at a b p = ap (λ z. z % 2) (or_shr a b p) ∙ or_mod (a / 2 ^ p) (b / 2 ^ p) 1

xor_at : (a b p : ℕ) → bit_xor a b / 2 ^ p % 2 ≡ bit_xor (a / 2 ^ p % 2) (b / 2 ^ p % 2)
xor_at a b p = ap (λ z. z % 2) (xor_shr a b p) ∙ xor_mod (a / 2 ^ p) (b / 2 ^ p) 1

-- BITS OF A MASK ------------------------------------------------------------

pub bit-bit_and : (a b p : ℕ) → bit p (bit_and a b) ≡ (bit p a && bit p b)
bit-bit_and a b p = ap (λ z. eqb z 1) (and_at a b p) ∙ and_low (a / 2 ^ p % 2) (b / 2 ^ p % 2) (low (a / 2 ^ p)) (low (b / 2 ^ p))

pub bit-bit_or : (a b p : ℕ) → bit p (bit_or a b) ≡ (bit p a || bit p b)
bit-bit_or a b p = ap (λ z. eqb z 1) (or_at a b p) ∙ or_low (a / 2 ^ p % 2) (b / 2 ^ p % 2) (low (a / 2 ^ p)) (low (b / 2 ^ p))

-- a less what it shares with b
pub bit_cut : (a b p : ℕ) → bit p (bit_xor a (bit_and a b)) ≡ (bit p a && not (bit p b))
bit_cut a b p = ap (λ z. eqb z 1) (xor_at a (bit_and a b) p ∙ ap (λ z. bit_xor (a / 2 ^ p % 2) z) (and_at a b p)) ∙ cut_low (a / 2 ^ p % 2) (b / 2 ^ p % 2) (low (a / 2 ^ p)) (low (b / 2 ^ p))

bit_half : (x p : ℕ) → bit p (x / 2) ≡ bit (1 + p) x
bit_half x p = ap (λ z. eqb (z % 2) 1) (shr-shr x 1 p)

bit_first : (x : ℕ) → bit 0 x ≡ eqb (x % 2) 1
bit_first x = ap (λ z. eqb (z % 2) 1) (div-one x)

-- numbers with the same bits are the same
pub same_number : (k x y : ℕ) → x < 2 ^ k → y < 2 ^ k → ((p : ℕ) → bit p x ≡ bit p y) → x ≡ y
same_number zero x y a b h = omega arith
same_number (suc k) x y a b h =
    let a' : x < 2 ^ k * 2 = subst (λ z. x < z) (pow-suc 2 k) a in
    let b' : y < 2 ^ k * 2 = subst (λ z. y < z) (pow-suc 2 k) b in
    let half : x / 2 ≡ y / 2 = same_number k (x / 2) (y / 2) (div_below x 2 (2 ^ k) (omega arith) a') (div_below y 2 (2 ^ k) (omega arith) b') (λ p. bit_half x p ∙ (h (1 + p) ∙ sym (bit_half y p))) in
    let rest : x % 2 ≡ y % 2 = low_same (x % 2) (y % 2) (low x) (low y) (sym (bit_first x) ∙ (h 0 ∙ bit_first y)) in
    let u = div-add-mod' x 2 in
    let v = div-add-mod' y 2 in
    omega arith

-- a number below 2 ^ k has no bit from k on
pub high_none : (k a p : ℕ) → a < 2 ^ k → k ≤ p → bit p a ≡ false
high_none k a p h le =
    let m = pow_mono le in
    let s : a < 1 * 2 ^ p = omega arith in
    let d = div_below a (2 ^ p) 1 (pow_pos p) s in
    let z : a / 2 ^ p ≡ 0 = omega arith in
    ap (λ z. eqb (z % 2) 1) z

pub none_bit : (p : ℕ) → bit p 0 ≡ false
none_bit p = high_none 0 0 p (omega arith) (omega arith)

-- THE NUMBER OF A SET -------------------------------------------------------

-- a lone bit
pub bit_pow : (k p : ℕ) → bit p (2 ^ k) ≡ eqb p k
bit_pow k p = go (cases_order p k)
  where
    go : (p ≡ k) ⊎ ((p < k) ⊎ (k < p)) → bit p (2 ^ k) ≡ eqb p k
    go (inl e) =
        let one : 2 ^ k / 2 ^ p ≡ 1 = subst (λ q. 2 ^ k / 2 ^ q ≡ 1) (sym e) (ap (λ z. z / 2 ^ k) (sym (one-mul (2 ^ k))) ∙ shl-shr 1 k) in
        ap (λ z. eqb (z % 2) 1) one ∙ sym (eq-eqb p k e)
    go (inr (inl h)) =
        let j : ℕ = k - p - 1 in
        let e : k ≡ (j + 1) + p = omega arith in
        let q : 2 ^ k / 2 ^ p ≡ 2 ^ (j + 1) = ap (λ z. 2 ^ z / 2 ^ p) e ∙ (ap (λ z. z / 2 ^ p) (pow-add 2 (j + 1) p) ∙ shl-shr (2 ^ (j + 1)) p) in
        let even : 2 ^ (j + 1) % 2 ≡ 0 = ap (λ z. z % 2) (pow-add 2 j 1) ∙ mod_twice (2 ^ j) in
        ap (λ z. eqb (z % 2) 1) q ∙ (ap (λ z. eqb z 1) even ∙ sym (ne_eqb p k (λ e. omega arith)))
      where
        mod_twice : (x : ℕ) → x * 2 ^ 1 % 2 ≡ 0
        mod_twice x = omega arith
    go (inr (inr h)) = high_none (suc k) (2 ^ k) p (pow_below k (suc k) (omega arith)) (omega arith) ∙ sym (ne_eqb p k (λ e. omega arith))

-- a lone bit above a number
pub or_above : (k x : ℕ) → x < 2 ^ k → bit_or x (2 ^ k) ≡ x + 2 ^ k
or_above k x h =
    let e : 1 * 2 ^ k ≡ 2 ^ k = one-mul (2 ^ k) in
    let s : bit_or (1 * 2 ^ k) x ≡ 1 * 2 ^ k + x = or_shifted 1 k x h in
    or_comm x (2 ^ k) ∙ (ap (λ z. bit_or z x) (sym e) ∙ (s ∙ (ap (λ z. z + x) e ∙ add_comm (2 ^ k) x)))

pub number_below : (n : ℕ) (A : Atoms) → number n A < 2 ^ n
unfolding number
number_below zero A = omega arith
number_below (suc n) A =
    let h = number_below n A in
    let e = pow-suc 2 n in
    let P : ℕ → Type 0 = λ z. number n A + z < 2 ^ suc n in
    cond_both (A n) (2 ^ n) 0 P (λ _. omega arith) (λ _. omega arith)

clipped_more : (A : Atoms) (n p : ℕ) → (clipped n A p || (eqb p n && A n)) ≡ clipped (suc n) A p
clipped_more A n p = go (cases_order p n)
  where
    go : (p ≡ n) ⊎ ((p < n) ⊎ (n < p)) → (clipped n A p || (eqb p n && A n)) ≡ clipped (suc n) A p
    go (inl e) = rw (le-ltb p n (omega arith), eq-eqb p n e, lt-ltb p (suc n) (omega arith)) (ap A (sym e))
    go (inr (inl h)) = rw (lt-ltb p n h, ne_eqb p n (λ e. omega arith), lt-ltb p (suc n) (omega arith)) (or_none (A p))
      where
        or_none : (b : Bool) → (b || false) ≡ b
        or_none true = refl
        or_none false = refl
    go (inr (inr h)) = rw (le-ltb p n (omega arith), ne_eqb p n (λ e. omega arith), le-ltb p (suc n) (omega arith))

number_or : (n : ℕ) (A : Atoms) → number (suc n) A ≡ cond (A n) (bit_or (number n A) (2 ^ n)) (number n A)
unfolding number
number_or n A = go (A n)
  where
    go : (b : Bool) → number n A + cond b (2 ^ n) 0 ≡ cond b (bit_or (number n A) (2 ^ n)) (number n A)
    go true = sym (or_above n (number n A) (number_below n A))
    go false = omega arith

pub number_bit : (n : ℕ) (A : Atoms) (p : ℕ) → bit p (number n A) ≡ clipped n A p
unfolding number
number_bit zero A p = none_bit p ∙ sym (ap (λ b. b && A p) (le-ltb p 0 (omega arith)))
number_bit (suc n) A p = ap (bit p) (number_or n A) ∙ (go (number_bit n A p) (A n) ∙ clipped_more A n p)
  where
    and_yes : (b : Bool) → (b && true) ≡ b
    and_yes true = refl
    and_yes false = refl

    or_no : (x y : Bool) → (x || (y && false)) ≡ x
    or_no true y = refl
    or_no false true = refl
    or_no false false = refl

    go : bit p (number n A) ≡ clipped n A p → (b : Bool) → bit p (cond b (bit_or (number n A) (2 ^ n)) (number n A)) ≡ (clipped n A p || (eqb p n && b))
    go h true = bit-bit_or (number n A) (2 ^ n) p ∙ (ap (λ z. z || bit p (2 ^ n)) h ∙ (ap (λ z. clipped n A p || z) (bit_pow n p) ∙ ap (λ z. clipped n A p || z) (sym (and_yes (eqb p n)))))
    go h false = h ∙ sym (or_no (clipped n A p) (eqb p n))

-- a number is that of its bits
pub number_of_bits : (n x : ℕ) → x < 2 ^ n → number n (λ p. bit p x) ≡ x
number_of_bits n x h = same_number n (number n (λ p. bit p x)) x (number_below n (λ p. bit p x)) h (λ p. number_bit n (λ q. bit q x) p ∙ go p (cases_lt p n))
  where
    go : (p : ℕ) → (p < n) ⊎ (n ≤ p) → (ltb p n && bit p x) ≡ bit p x
    go p (inl k) = ap (λ b. b && bit p x) (lt-ltb p n k)
    go p (inr k) = ap (λ b. b && bit p x) (le-ltb p n k) ∙ sym (high_none n x p h k)

-- the number of all atoms below n
pub number_all : (n : ℕ) → number n (λ _. true) + 1 ≡ 2 ^ n
unfolding number
number_all zero = refl
number_all (suc n) =
    let h = number_all n in
    let e = pow-suc 2 n in
    omega arith

-- THE LOWEST BIT ------------------------------------------------------------

pub lowest_bit : (k x : ℕ) → 0 < x → x < 2 ^ k → (bit (count_trailing_zeros k x) x ≡ true) × ((p : ℕ) → p < count_trailing_zeros k x → bit p x ≡ false)
unfolding count_trailing_zeros
lowest_bit zero x h l = let z : ⊥ = omega arith in absurd z
lowest_bit (suc k) x h l =
    go (x % 2) (low x) refl (λ e. lowest_bit k (x / 2) (let u = div-add-mod' x 2 in omega arith) (div_below x 2 (2 ^ k) (omega arith) (subst (λ z. x < z) (pow-suc 2 k) l)))
  where
    Low : ℕ → Type 0
    Low n = (bit n x ≡ true) × ((p : ℕ) → p < n → bit p x ≡ false)

    below : x % 2 ≡ 0 → (n : ℕ) → ((p : ℕ) → p < n → bit p (x / 2) ≡ false) → (p : ℕ) → p < suc n → bit p x ≡ false
    below e n f zero q = bit_first x ∙ ap (λ z. eqb z 1) e
    below e n f (suc p) q = ap (λ z. bit z x) (sym (one-add p)) ∙ (sym (bit_half x p) ∙ f p (omega arith))

    go : (r : ℕ) → Two r → r ≡ x % 2 → (x % 2 ≡ 0 → (bit (count_trailing_zeros k (x / 2)) (x / 2) ≡ true) × ((p : ℕ) → p < count_trailing_zeros k (x / 2) → bit p (x / 2) ≡ false)) → Low (under r (count_trailing_zeros k (x / 2)))
    go _ nil e f =
        let h = f (sym e) in
        let n : ℕ = count_trailing_zeros k (x / 2) in
        (ap (λ z. bit z x) (sym (one-add n)) ∙ (sym (bit_half x n) ∙ h.0), below (sym e) n h.1)
    go _ one e f = (bit_first x ∙ ap (λ z. eqb z 1) (sym e), λ p q. let z : ⊥ = omega arith in absurd z)

-- x without its lowest bit
pub cleared : (k x : ℕ) → 0 < x → x < 2 ^ k → (p : ℕ) → bit p (bit_and x (x - 1)) ≡ (not (eqb p (count_trailing_zeros k x)) && bit p x)
unfolding count_trailing_zeros
cleared zero x h l p = let z : ⊥ = omega arith in absurd z
cleared (suc k) x h l p =
    go (x % 2) (low x) refl p (λ e q. cleared k (x / 2) (let u = div-add-mod' x 2 in omega arith) (div_below x 2 (2 ^ k) (omega arith) (subst (λ z. x < z) (pow-suc 2 k) l)) q)
  where
    half : (x - 1) / 2 ≡ x / 2 - 1 → (p : ℕ) → bit (suc p) (bit_and x (x - 1)) ≡ bit p (bit_and (x / 2) (x / 2 - 1))
    half e p =
        bit-bit_and x (x - 1) (suc p)
        ∙ (ap (λ n. bit n x && bit n (x - 1)) (sym (one-add p))
        ∙ (ap (λ b. b && bit (1 + p) (x - 1)) (sym (bit_half x p)) ∙ (ap (λ b. bit p (x / 2) && b) (sym (bit_half (x - 1) p)) ∙ (ap (λ n. bit p (x / 2) && bit p n) e ∙ sym (bit-bit_and (x / 2) (x / 2 - 1) p)))))

    same : (x - 1) / 2 ≡ x / 2 → (p : ℕ) → bit (suc p) (bit_and x (x - 1)) ≡ bit (suc p) x
    same e p =
        bit-bit_and x (x - 1) (suc p)
        ∙ (ap (λ n. bit n x && bit n (x - 1)) (sym (one-add p))
        ∙ (ap (λ b. b && bit (1 + p) (x - 1)) (sym (bit_half x p)) ∙ (ap (λ b. bit p (x / 2) && b) (sym (bit_half (x - 1) p) ∙ ap (bit p) e) ∙ (twice (bit p (x / 2)) ∙ (bit_half x p ∙ ap (λ n. bit n x) (one-add p))))))
      where
        twice : (b : Bool) → (b && b) ≡ b
        twice true = refl
        twice false = refl

    go : (r : ℕ) → Two r → r ≡ x % 2 → (p : ℕ) → (x % 2 ≡ 0 → (q : ℕ) → bit q (bit_and (x / 2) (x / 2 - 1)) ≡ (not (eqb q (count_trailing_zeros k (x / 2))) && bit q (x / 2))) → bit p (bit_and x (x - 1)) ≡ (not (eqb p (under r (count_trailing_zeros k (x / 2)))) && bit p x)
    go _ nil e zero f = bit-bit_and x (x - 1) 0 ∙ (ap (λ b. b && bit 0 (x - 1)) even ∙ sym (last (not (eqb 0 (suc (count_trailing_zeros k (x / 2)))))))
      where
        even : bit 0 x ≡ false
        even = bit_first x ∙ ap (λ z. eqb z 1) (sym e)

        last : (b : Bool) → (b && bit 0 x) ≡ false
        last true = even
        last false = refl
    go _ nil e (suc q) f =
        half (let u = div-add-mod' x 2 in omega arith) q
        ∙ (f (sym e) q ∙ (ap (λ b. not (eqb q (count_trailing_zeros k (x / 2))) && b) (bit_half x q ∙ ap (λ n. bit n x) (one-add q)) ∙ ap (λ b. not b && bit (suc q) x) (eqb_suc q (count_trailing_zeros k (x / 2)))))
      where
        eqb_suc : (a b : ℕ) → eqb a b ≡ eqb (suc a) (suc b)
        eqb_suc a b = ⊎_elim (λ h. eq-eqb a b h ∙ sym (eq-eqb (suc a) (suc b) (omega arith))) (λ h. ne_eqb a b h ∙ sym (ne_eqb (suc a) (suc b) (λ g. h (omega arith)))) (cases_eq a b)
    go _ one e zero f = bit-bit_and x (x - 1) 0 ∙ (ap (λ b. bit 0 x && b) (bit_first (x - 1) ∙ ap (λ z. eqb z 1) (let u = div-add-mod' x 2 in odd)) ∙ none (bit 0 x))
      where
        odd : (x - 1) % 2 ≡ 0
        odd = let u = div-add-mod' x 2 in omega arith

        none : (b : Bool) → (b && false) ≡ false
        none true = refl
        none false = refl
    go _ one e (suc q) f = same (let u = div-add-mod' x 2 in omega arith) q ∙ sym (ap (λ b. not b && bit (suc q) x) (ne_eqb (suc q) 0 (λ h. omega arith)))

-- TESTS ON MASKS ------------------------------------------------------------

-- what holds of each atom below n, and a test that one atom fails
pub inside_each : (n : ℕ) (A B : Atoms) → inside n A B ≡ true → (p : ℕ) → p < n → A p ≡ true → B p ≡ true
unfolding inside
inside_each zero A B h p l e = let z : ⊥ = omega arith in absurd z
inside_each (suc n) A B h p l e =
    let both = and_parts (inside n A B) (not (A n) || B n) h in
    ⊎_elim
    (λ q. subst (λ z. B z ≡ true) (sym q) (last (A n) (B n) both.1 (subst (λ z. A z ≡ true) q e)))
    (λ q. inside_each n A B both.0 p (omega arith) e)
    (cases_eq p n)
  where
    last : (x y : Bool) → (not x || y) ≡ true → x ≡ true → y ≡ true
    last true y u v = u
    last false y u v = absurd (true≢false (sym v))

pub inside_from : (n : ℕ) (A B : Atoms) → ((p : ℕ) → p < n → A p ≡ true → B p ≡ true) → inside n A B ≡ true
unfolding inside
inside_from zero A B h = refl
inside_from (suc n) A B h = and_from (inside n A B) (not (A n) || B n) (inside_from n A B (λ p l e. h p (omega arith) e)) (last (A n) (B n) (h n (omega arith)))
  where
    last : (x y : Bool) → (x ≡ true → y ≡ true) → (not x || y) ≡ true
    last true y u = u refl
    last false y u = refl

pub meets_from : (n : ℕ) (A B : Atoms) (p : ℕ) → p < n → A p ≡ true → B p ≡ true → meets n A B ≡ true
unfolding meets
meets_from zero A B p l a b = let z : ⊥ = omega arith in absurd z
meets_from (suc n) A B p l a b =
    ⊎_elim
    (λ q. or_right (meets n A B) (A n && B n) (and_from (A n) (B n) (subst (λ z. A z ≡ true) q a) (subst (λ z. B z ≡ true) q b)))
    (λ q. or_left (meets n A B) (A n && B n) (meets_from n A B p (omega arith) a b))
    (cases_eq p n)

pub meets_none : (n : ℕ) (A B : Atoms) → ((p : ℕ) → p < n → A p ≡ true → B p ≡ true → ⊥) → meets n A B ≡ false
unfolding meets
meets_none zero A B h = refl
meets_none (suc n) A B h = or_from (meets n A B) (A n && B n) (meets_none n A B (λ p l a b. h p (omega arith) a b)) (last (A n) (B n) (h n (omega arith)))
  where
    last : (x y : Bool) → (x ≡ true → y ≡ true → ⊥) → (x && y) ≡ false
    last true true u = absurd (u refl refl)
    last true false u = refl
    last false y u = refl

-- a test that is true exactly where another is
pub same_test : (x y : Bool) → (x ≡ true → y ≡ true) → (y ≡ true → x ≡ true) → x ≡ y
same_test true y f g = sym (f refl)
same_test false true f g = g refl
same_test false false f g = refl
