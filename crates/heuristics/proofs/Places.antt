-- Every set's place among the sets of 1 to m atoms.
use Rattle.std.proofs.Common.{◌≡◌, ℕ, zero, suc, ◌+◌, ◌<◌, ◌≤◌, ◌⊎◌, List, [], ◌∷◌, ◌++◌, map, length, get_or, sym, refl, ap, ◌∙◌, subst, inl, inr, arith, length-append, get_or-append-add}
use lib.ListN.{length-map, get_or-append}
use Rattle.std.proofs.lemmas.Bool.{cases_lt}
use Rattle.strips.specs.Sets.{Atoms, nothing, plus}
use Rattle.heuristics.specs.Smalls.{sized, smalls, choose, many}

pub last_or_below : (i k : ℕ) → i < suc k → (i < k) ⊎ (i ≡ k)
last_or_below i k h = go (cases_lt i k)
  where
    go : (i < k) ⊎ (k ≤ i) → (i < k) ⊎ (i ≡ k)
    go (inl l) = inl l
    go (inr l) = inr (omega arith)

-- atoms below n in a list, the greatest first
abbrev pub Falling : ℕ → List ℕ → Type 0
Falling n [] = Unit {0}
Falling n (x ∷ xs) = (x < n) × Falling x xs

abbrev pub listed : List ℕ → Atoms
listed [] = nothing
listed (x ∷ xs) = plus x (listed xs)

-- the place of such a set among the sets of its size
abbrev pub place : List ℕ → ℕ
place [] = 0
place (x ∷ xs) = choose x (suc (length xs)) + place xs

pub getD_map_in : {A B : Type 0} (f : A → B) (l : List A) (i : ℕ) (d : A) (e : B) → i < length l → get_or (map f l) i e ≡ f (get_or l i d)
getD_map_in f [] i d e h = absurd (omega arith)
getD_map_in f (x ∷ xs) zero d e h = refl
getD_map_in f (x ∷ xs) (suc i) d e h = getD_map_in f xs i d e (omega arith)

length_sized : (n s : ℕ) → length (sized n s) ≡ choose n s
unfolding sized choose
length_sized n zero = refl
length_sized zero (suc s) = refl
length_sized (suc n) (suc s) =
    let p : length (sized n (suc s)) ≡ choose n (suc s) = length_sized n (suc s) in
    let q : length (sized n s) ≡ choose n s = length_sized n s in
    length-append (sized n (suc s)) (map (plus n) (sized n s)) ∙ (let r : length (map (plus n) (sized n s)) ≡ length (sized n s) = length-map (sized n s) (plus n) in omega arith)

pub length_smalls : (n m : ℕ) → length (smalls n m) ≡ many n m
unfolding smalls many
length_smalls n zero = refl
length_smalls n (suc m) = length-append (smalls n m) (sized n (suc m)) ∙ (let p : length (smalls n m) ≡ many n m = length_smalls n m in let q : length (sized n (suc m)) ≡ choose n (suc m) = length_sized n (suc m) in omega arith)

abbrev At : ℕ → List ℕ → Type 0
At n xs = (place xs < choose n (length xs)) × (get_or (sized n (length xs)) (place xs) nothing ≡ listed xs)

placed : (n : ℕ) (xs : List ℕ) → Falling n xs → At n xs
unfolding sized choose
placed n [] h = (omega arith, refl)
placed zero (x ∷ xs) h = absurd (omega arith)
placed (suc n) (x ∷ xs) h = go (last_or_below x n h.0) (λ q. placed n (x ∷ xs) (q, h.1)) (λ q. placed n xs q)
  where
    s : ℕ
    s = length xs

    go : (x < n) ⊎ (x ≡ n) → (x < n → At n (x ∷ xs)) → (Falling n xs → At n xs) → At (suc n) (x ∷ xs)
    go (inl q) f g =
        let w : At n (x ∷ xs) = f q in
        let p : place (x ∷ xs) < choose n (suc s) = w.0 in
        (omega arith, get_or-append (sized n (suc s)) (map (plus n) (sized n s)) nothing (place (x ∷ xs)) (rw length_sized p) ∙ w.1)
    go (inr q) f g = rw q (within (g (subst (λ k. Falling k xs) q h.1)))
      where
        within : At n xs → At (suc n) (n ∷ xs)
        within w =
            let p : place xs < choose n s = w.0 in (
              omega arith,
              ap (λ k. get_or (sized n (suc s) ++ map (plus n) (sized n s)) (k + place xs) nothing) (sym (length_sized n (suc s)))
                  ∙ get_or-append-add (sized n (suc s)) (map (plus n) (sized n s)) (place xs) nothing
                  ∙ getD_map_in (plus n) (sized n s) (place xs) nothing nothing (rw length_sized p)
                  ∙ ap (plus n) w.1,
            )

-- a set's number is its place, after all the smaller sets
pub numbered : (n m x : ℕ) (xs : List ℕ) → Falling n (x ∷ xs) → suc (length xs) ≤ m →
    (many n (length xs) + place (x ∷ xs) < length (smalls n m)) × (get_or (smalls n m) (many n (length xs) + place (x ∷ xs)) nothing ≡ listed (x ∷ xs))
unfolding smalls
numbered n zero x xs h l = absurd (omega arith)
numbered n (suc m) x xs h l = go (last_or_below (length xs) m l) (λ q. numbered n m x xs h q) (placed n (x ∷ xs) h)
  where
    i : ℕ
    i = many n (length xs) + place (x ∷ xs)

    go : (length xs < m) ⊎ (length xs ≡ m) → (length xs < m → (i < length (smalls n m)) × (get_or (smalls n m) i nothing ≡ listed (x ∷ xs))) → At n (x ∷ xs) → (i < length (smalls n m ++ sized n (suc m))) × (get_or (smalls n m ++ sized n (suc m)) i nothing ≡ listed (x ∷ xs))
    go (inl q) f w =
        let v : (i < length (smalls n m)) × (get_or (smalls n m) i nothing ≡ listed (x ∷ xs)) = f q in
        (rw length-append (let p : i < length (smalls n m) = v.0 in omega arith), get_or-append (smalls n m) (sized n (suc m)) nothing i v.0 ∙ v.1)
    go (inr q) f w = subst (λ k. (i < length (smalls n k ++ sized n (suc k))) × (get_or (smalls n k ++ sized n (suc k)) i nothing ≡ listed (x ∷ xs))) q (
      rw length-append (let a : length (smalls n (length xs)) ≡ many n (length xs) = length_smalls n (length xs) in let b : length (sized n (suc (length xs))) ≡ choose n (suc (length xs)) = length_sized n (suc (length xs)) in let p : place (x ∷ xs) < choose n (suc (length xs)) = w.0 in omega arith),
      ap (λ z. get_or (smalls n (length xs) ++ sized n (suc (length xs))) (z + place (x ∷ xs)) nothing) (sym (length_smalls n (length xs))) ∙ get_or-append-add (smalls n (length xs)) (sized n (suc (length xs))) (place (x ∷ xs)) nothing ∙ w.1,
    )
