-- The numbers of the sets of up to two atoms in closed form.
use Rattle.std.proofs.Common.{◌≡◌, ℕ, zero, suc, ◌+◌, ◌-◌, ◌*◌, ◌/◌, [], ◌∷◌, get_or, refl, ◌∙◌, subst, suc-mul, mul-suc, arith}
use Rattle.strips.specs.Sets.{nothing, plus}
use Rattle.heuristics.specs.Smalls.{smalls, choose, many, Closed}
use Rattle.heuristics.proofs.Places.{length_smalls, numbered}

choose_1 : (n : ℕ) → choose n 1 ≡ n
unfolding choose
choose_1 zero = refl
choose_1 (suc n) = let p : choose n 1 ≡ n = choose_1 n in omega arith

twice : (n : ℕ) → 2 * choose n 2 + n ≡ n * n
unfolding choose
twice zero = refl
twice (suc n) =
    let p : 2 * choose n 2 + n ≡ n * n = twice n in
    let q : choose n 1 ≡ n = choose_1 n in
    let a : suc n * suc n ≡ n * suc n + suc n = suc-mul n (suc n) in
    let b : n * suc n ≡ n * n + n = mul-suc n n in
    omega arith

pub choose_2 : (n : ℕ) → choose n 2 ≡ n * (n - 1) / 2
unfolding choose
choose_2 zero = refl
choose_2 (suc n) =
    let p : 2 * choose (suc n) 2 + suc n ≡ suc n * suc n = twice (suc n) in
    let a : suc n * suc n ≡ suc n * n + suc n = mul-suc (suc n) n in
    let e : suc n - 1 ≡ n = omega arith in
    rw e (let c : 2 * choose (suc n) 2 ≡ suc n * n = omega arith in omega arith)

pub closed : Closed
unfolding choose many
closed n = record {
  counted = length_smalls n;
  ones = length_smalls n 1 ∙ (let p : choose n 1 ≡ n = choose_1 n in omega arith);
  pairs = length_smalls n 2 ∙ (let p : choose n 1 ≡ n = choose_1 n in let q : choose n 2 ≡ n * (n - 1) / 2 = choose_2 n in omega arith);
  one_at = λ m i l. subst (λ k. get_or (smalls n (suc m)) k nothing ≡ plus i nothing) (let p : choose i 1 ≡ i = choose_1 i in omega arith) (numbered n (suc m) i [] (l, tt) (omega arith)).1;
  pair_at = λ m i j h l. subst (λ k. get_or (smalls n (suc (suc m))) k nothing ≡ plus j (plus i nothing)) (let a : choose n 1 ≡ n = choose_1 n in let b : choose i 1 ≡ i = choose_1 i in let c : choose j 2 ≡ j * (j - 1) / 2 = choose_2 j in omega arith) (numbered n (suc (suc m)) j (i ∷ []) (l, (h, tt)) (omega arith)).1;
}
