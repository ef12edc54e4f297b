-- The sets of 1 to m atoms, and their numbers.
use Rattle.std.specs.Prelude.{◌≡◌, ℕ, zero, suc, ◌+◌, ◌-◌, ◌*◌, ◌/◌, ◌<◌, List, [], ◌∷◌, ◌++◌, map, length, slice_index_or}
use Rattle.strips.specs.Sets.{Atoms, nothing, plus}

-- the sets of s atoms below n: those without the atom n - 1 first, then those with it
unfoldable pub sized : ℕ → ℕ → List Atoms
sized n zero = nothing ∷ []
sized zero (suc s) = []
sized (suc n) (suc s) = sized n (suc s) ++ map (plus n) (sized n s)

-- the sets of 1 to m atoms below n, smaller ones first. A set's number is its place here.
unfoldable pub smalls : ℕ → ℕ → List Atoms
smalls n zero = []
smalls n (suc m) = smalls n m ++ sized n (suc m)

-- the set number i of 1 to m atoms below n
abbrev pub set_at : ℕ → ℕ → ℕ → Atoms
set_at n m i = slice_index_or (smalls n m) i nothing

-- how many sets of s atoms there are below n
unfoldable pub choose : ℕ → ℕ → ℕ
choose n zero = 1
choose zero (suc s) = 0
choose (suc n) (suc s) = choose n (suc s) + choose n s

-- how many sets of 1 to m atoms there are below n
unfoldable pub many : ℕ → ℕ → ℕ
many n zero = 0
many n (suc m) = many n m + choose n (suc m)

-- The numbers as a program computes them, for sets of up to two atoms: {i} is i, and {i, j} with i < j is
-- n + j (j - 1) / 2 + i.
pub record ClosedForms (n : ℕ) : Type 0 where
  pub counted : (m : ℕ) → length (smalls n m) ≡ many n m
  pub ones : length (smalls n 1) ≡ n
  pub pairs : length (smalls n 2) ≡ n + n * (n - 1) / 2
  pub one_at : (m i : ℕ) → i < n → slice_index_or (smalls n (suc m)) i nothing ≡ plus i nothing
  pub pair_at : (m i j : ℕ) → i < j → j < n → slice_index_or (smalls n (suc (suc m))) (n + j * (j - 1) / 2 + i) nothing ≡ plus j (plus i nothing)

abbrev pub Closed : Type 0
Closed = (n : ℕ) → ClosedForms n
