-- A set's atoms, rising.
use Rattle.std.proofs.Common.{◌≡◌, ℕ, zero, suc, ◌+◌, ◌*◌, ◌^◌, ◌<◌, ◌≤◌, Bool, true, false, cond, not, ◌&&◌, eqb, Option, Some, None, MatchOption, List, [], ◌∷◌, ◌++◌, length, get_or, sym, refl, ap, ◌∙◌, subst, ⊎_elim, one-mul, arith, length-append, eq-eqb}
use Rattle.std.proofs.Math.Bool.{and-false}
use Rattle.std.proofs.lemmas.List.{append-nil}
use Rattle.std.proofs.lemmas.Bool.{cases_lt, ne_eqb}
use Rattle.std.specs.Iterator.{Yields, SkipsThenYields}
use lib.Count.{ones, ones_cat}
use Rattle.strips.specs.Sets.{Atoms, nothing, Within}
use Rattle.strips.specs.Bits.{members, number}
use Rattle.strips.specs.Parts.{Parted}
use Rattle.strips.specs.declared.iter.AtomIter.{AtomIter}
use Rattle.strips.proofs.Soundness.{past_within}
use Rattle.strips.proofs.Binary.{number_below}
use Rattle.compiled.specs.Decoded.{rising}

-- a set's atoms are as many as the bits of its number
pub rising_count : (n : ℕ) (A : Atoms) → length (rising n A) ≡ ones (number n A)
unfolding rising number ones
rising_count zero A = refl
rising_count (suc n) A = go (A n) (rising_count n A)
  where
    put : ones (number n A + 2 ^ n) ≡ 1 + ones (number n A)
    put = ap ones (let z = one-mul (2 ^ n) in let q : number n A + 2 ^ n ≡ 1 * 2 ^ n + number n A = omega arith in q) ∙ ones_cat n 1 (number n A) (number_below n A)

    go : (b : Bool) → length (rising n A) ≡ ones (number n A) → length (rising n A ++ cond b (n ∷ []) []) ≡ ones (number n A + cond b (2 ^ n) 0)
    go true h = let l = length-append (rising n A) (n ∷ []) in let o = put in omega arith
    go false h = let l = length-append (rising n A) [] in let z : number n A + 0 ≡ number n A = omega arith in let o = ap ones z in omega arith

-- a set has none past its last
pub rising_within : (n k : ℕ) (A : Atoms) → Within n A → n ≤ k → rising k A ≡ rising n A
unfolding rising
rising_within n zero A w h = let e : 0 ≡ n = omega arith in ap (λ z. rising z A) e
rising_within n (suc k) A w h =
    ⊎_elim
    (λ l. let e : A k ≡ false = past_within n A w k (omega arith) in ap (λ b. rising k A ++ cond b (k ∷ []) []) e ∙ (append-nil (rising k A) ∙ rising_within n k A w (omega arith)))
    (λ l. let e : suc k ≡ n = omega arith in ap (λ z. rising z A) e)
    (cases_lt n (suc k))

pub rising_none : (n : ℕ) (A : Atoms) → ((q : ℕ) → q < n → A q ≡ false) → rising n A ≡ []
unfolding rising
rising_none zero A f = refl
rising_none (suc n) A f = ap (λ b. rising n A ++ cond b (n ∷ []) []) (f n (omega arith)) ∙ (append-nil (rising n A) ∙ rising_none n A (λ q l. f q (omega arith)))

-- the first of them, and the others
parted_rising : (n p : ℕ) (A B : Atoms) → p < n → Parted A p B → rising n A ≡ p ∷ rising n B
unfolding rising
parted_rising zero p A B l h = let z : ⊥ = omega arith in absurd z
parted_rising (suc n) p A B l h =
    ⊎_elim
    (λ (k : p < n).
    let e : eqb n p ≡ false = ne_eqb n p (λ e. let z : ⊥ = omega arith in z) in
    let same : A n ≡ B n = sym (ap (λ C. C n) h.rest ∙ ap (λ b. not b && A n) e) in
    ap (λ xs. xs ++ cond (A n) (n ∷ []) []) (parted_rising n p A B k h) ∙ ap (λ b. p ∷ (rising n B ++ cond b (n ∷ []) [])) same)
    (λ (k : n ≤ p).
    let e : n ≡ p = omega arith in
    let here : A n ≡ true = ap A e ∙ h.is_in in
    let gone : B n ≡ false = ap (λ C. C n) h.rest ∙ ap (λ b. not b && A n) (eq-eqb n p e) in
    ap (λ xs. xs ++ cond (A n) (n ∷ []) []) (rising_none n A (λ q j. h.is_first q (omega arith)))
    ∙ (ap (λ b. cond b (n ∷ []) []) here
    ∙ (ap (λ z. z ∷ []) e
    ∙ ap (λ xs. p ∷ xs) (sym (ap (λ xs. xs ++ cond (B n) (n ∷ []) []) (rising_none n B (λ q j. ap (λ C. C q) h.rest ∙ (ap (λ b. not (eqb q p) && b) (h.is_first q (omega arith)) ∙ and-false (not (eqb q p))))) ∙ ap (λ b. cond b (n ∷ []) []) gone)))))
    (cases_lt p n)

-- what a call of `next` gives
abbrev pub steps : AtomIter → Option ℕ → AtomIter → Type 0
steps s r t = MatchOption r ((members s.rest ≡ nothing) × (t ≡ s)) (λ p. Parted (members s.rest) p (members t.rest))

-- the atom at a place, or none
abbrev pub AtomAt : List ℕ → ℕ → Option ℕ → Type 0
AtomAt xs n r = MatchOption r (length xs ≤ n) (λ p. (n < length xs) × (get_or xs n 0 ≡ p) × (p < 64))

yields_at : (xs : List ℕ) (s t u : AtomIter) (r : Option ℕ) → Yields steps s xs t → steps t r u → AtomAt (rising 64 (members s.rest)) (length xs) r
yields_at [] s t u r e f = subst (λ z. AtomAt (rising 64 (members z.rest)) 0 r) (sym e) (go r f)
  where
    go : (r : Option ℕ) → steps t r u → AtomAt (rising 64 (members t.rest)) 0 r
    go None k = let l = ap length (rising_none 64 (members t.rest) (λ q l. ap (λ C. C q) k.0)) in omega arith
    go (Some p) k =
        let w = parted_rising 64 p (members t.rest) (members u.rest) k.below k in
        (let l = ap length w in omega arith, ap (λ zs. get_or zs 0 0) w, k.below)
yields_at (x ∷ xs) s t u r (j, f, k) g = go r (yields_at xs j t u r k g)
  where
    w : rising 64 (members s.rest) ≡ x ∷ rising 64 (members j.rest)
    w = parted_rising 64 x (members s.rest) (members j.rest) f.below f

    go : (r : Option ℕ) → AtomAt (rising 64 (members j.rest)) (length xs) r → AtomAt (rising 64 (members s.rest)) (suc (length xs)) r
    go None k = let e = ap length w in omega arith
    go (Some p) (k, l, m) = (let e = ap length w in omega arith, ap (λ zs. get_or zs (suc (length xs)) 0) w ∙ l, m)

-- what `nth` gives
pub nth_at : (s u : AtomIter) (n : ℕ) (r : Option ℕ) → SkipsThenYields steps s n r u → AtomAt (rising 64 (members s.rest)) n r
nth_at s u n r (xs, (t, y, f), m) = go r m (yields_at xs s t u r y f)
  where
    go : (r : Option ℕ) → MatchOption r (length xs ≤ n) (λ _. length xs ≡ n) → AtomAt (rising 64 (members s.rest)) (length xs) r → AtomAt (rising 64 (members s.rest)) n r
    go None l k = omega arith
    go (Some p) l k = subst (λ z. AtomAt (rising 64 (members s.rest)) z (Some p)) l k
