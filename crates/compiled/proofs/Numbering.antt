-- The sets of one or two atoms by their numbers.
use Rattle.std.proofs.Common.{◌≡◌, ℕ, zero, suc, ◌+◌, ◌-◌, ◌*◌, ◌/◌, ◌<◌, ◌≤◌, eqb, length, sym, refl, ap, ◌∙◌, ⊎_elim, suc-mul, mul-le-mul, mul-suc, arith, eqb-true}
use Rattle.std.proofs.lemmas.Bool.{cases_lt, or_cases}
use Rattle.strips.specs.Sets.{Atoms, nothing, plus, clipped, Within}
use Rattle.strips.proofs.Members.{clipped_within}
use Rattle.heuristics.specs.Smalls.{smalls, set_at}
use Rattle.bounds.specs.Orders.{size_of}
use Rattle.bounds.specs.declared.order.Order.{Order}
use Rattle.bounds.specs.declared.order.Order.TheVariants.{One, Two}
use Rattle.heuristics.proofs.Forms.{closed}
use Rattle.compiled.specs.Soundness.{within_none}

-- how many sets of two atoms there are below j
unfoldable pub tri : ℕ → ℕ
tri zero = 0
tri (suc j) = tri j + j

twice : (n : ℕ) → 2 * tri n + n ≡ n * n
unfolding tri
twice zero = refl
twice (suc n) =
    let p = twice n in
    let a : suc n * suc n ≡ n * suc n + suc n = suc-mul n (suc n) in
    let b : n * suc n ≡ n * n + n = mul-suc n n in
    omega arith

pub tri_closed : (n : ℕ) → n * (n - 1) / 2 ≡ tri n
unfolding tri
tri_closed zero = refl
tri_closed (suc n) =
    let p = twice (suc n) in
    let a : suc n * suc n ≡ suc n * n + suc n = mul-suc (suc n) n in
    let e : suc n - 1 ≡ n = omega arith in
    rw e (let c : 2 * tri (suc n) ≡ suc n * n = omega arith in omega arith)

-- and of one or two
pub tri_all : (n : ℕ) → n * (n + 1) / 2 ≡ n + tri n
tri_all n =
    let p = twice n in
    let a : n * suc n ≡ n * n + n = mul-suc n n in
    let e : n + 1 ≡ suc n = omega arith in
    rw e (omega arith)

pub tri_le : (n : ℕ) → n ≤ 64 → tri n ≤ 2016
tri_le n h =
    let e = tri_closed n in
    let q : n * (n - 1) ≤ 64 * 63 = (let k : n - 1 ≤ 63 = omega arith in mul-le-mul h k) in
    omega arith

pub one_count : (n : ℕ) → length (smalls n 1) ≡ n
one_count n = (closed n).ones

pub two_count : (n : ℕ) → length (smalls n 2) ≡ n + tri n
two_count n = (closed n).pairs ∙ ap (λ k. n + k) (tri_closed n)

pub one_at : (n m i : ℕ) → i < n → set_at n (suc m) i ≡ plus i nothing
one_at n m i h = (closed n).one_at m i h

pub two_at : (n i j : ℕ) → i < j → j < n → set_at n 2 (n + tri j + i) ≡ plus j (plus i nothing)
two_at n i j h k = ap (λ z. set_at n 2 (n + z + i)) (sym (tri_closed j)) ∙ (closed n).pair_at 0 i j h k

-- sets that are put together of atoms below 64
within_plus : (n p : ℕ) (A : Atoms) → p < n → Within n A → Within n (plus p A)
within_plus n p A h w q e = ⊎_elim (λ u. let v = eqb-true q p u in omega arith) (λ u. w q u) (or_cases (eqb q p) (A q) e)

pub put : (p : ℕ) (A B : Atoms) → p < 64 → Within 64 B → A ≡ B → clipped 64 (plus p A) ≡ plus p B
put p A B h w e = ap (λ C. clipped 64 (plus p C)) e ∙ clipped_within 64 (plus p B) (within_plus 64 p B h w)

pub put_one : (p : ℕ) (A S : Atoms) → p < 64 → A ≡ nothing → S ≡ clipped 64 (plus p A) → S ≡ plus p nothing
put_one p A S h e s = s ∙ put p A nothing h (within_none 64) e

pub put_two : (i j : ℕ) (A R S : Atoms) → i < 64 → j < 64 → A ≡ nothing → R ≡ clipped 64 (plus i A) → S ≡ clipped 64 (plus j R) → S ≡ plus j (plus i nothing)
put_two i j A R S h k e r s = s ∙ put j R (plus i nothing) k (within_plus 64 i nothing h (within_none 64)) (put_one i A R h e r)

pub tri_below : (n i j : ℕ) → i < j → j < n → tri j + i < tri n
unfolding tri
tri_below zero i j h k = let z : ⊥ = omega arith in absurd z
tri_below (suc n) i j h k = ⊎_elim (λ l. let r = tri_below n i j h l in omega arith) (λ (l : n ≤ j). let e : j ≡ n = omega arith in rw e (omega arith)) (cases_lt j n)

pub one_is : (n m i : ℕ) (A S : Atoms) → n ≤ 64 → i < n → A ≡ nothing → S ≡ clipped 64 (plus i A) → S ≡ set_at n (suc m) i
one_is n m i A S h k e s = put_one i A S (omega arith) e s ∙ sym (one_at n m i k)

pub pair_is : (n i j place : ℕ) (A R S : Atoms) → n ≤ 64 → i < j → j < n → tri j + i ≡ place → A ≡ nothing → R ≡ clipped 64 (plus i A) → S ≡ clipped 64 (plus j R) →
    (n + place < length (smalls n 2)) × (S ≡ set_at n 2 (n + place))
pair_is n i j place A R S h k l e a r s =
    let b = tri_below n i j k l in
    let q : n + tri j + i ≡ n + place = omega arith in
    (rw two_count (omega arith), put_two i j A R S (omega arith) (omega arith) a r s ∙ (sym (two_at n i j k l) ∙ ap (set_at n 2) q))

pub single_is : (o : Order) (n i : ℕ) (A S : Atoms) → n ≤ 64 → i < n → A ≡ nothing → S ≡ clipped 64 (plus i A) → (i < length (smalls n (size_of o))) × (S ≡ set_at n (size_of o) i)
single_is One n i A S h k e s = (rw one_count k, one_is n 0 i A S h k e s)
single_is Two n i A S h k e s = (rw two_count (omega arith), one_is n 1 i A S h k e s)
