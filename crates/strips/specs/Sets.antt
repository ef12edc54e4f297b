-- Sets of atoms. Atoms are numbers; a set says of each number whether it is in.
use Rattle.std.specs.Prelude.{◌≡◌, ℕ, zero, suc, ◌<◌, Bool, true, false, not, ◌&&◌, ◌||◌, ◌==◌, ◌≢◌, nat_lt}

abbrev pub Atoms : Type 0
Atoms = ℕ → Bool

abbrev pub nothing : Atoms
nothing p = false

abbrev pub joined : Atoms → Atoms → Atoms
joined A B p = A p || B p

abbrev pub common : Atoms → Atoms → Atoms
common A B p = A p && B p

abbrev pub without : Atoms → Atoms → Atoms
without A B p = A p && not (B p)

-- the atoms below n
abbrev pub first : ℕ → Atoms
first n p = nat_lt p n

-- A, with the atom x put in
abbrev pub plus : ℕ → Atoms → Atoms
plus x A p = p == x || A p

-- A, with the atom x taken out
abbrev pub less : ℕ → Atoms → Atoms
less x A p = not (p == x) && A p

-- the atoms of A that are below n
abbrev pub clipped : ℕ → Atoms → Atoms
clipped n A p = nat_lt p n && A p

-- every atom below n of A is in B
unfoldable pub inside : ℕ → Atoms → Atoms → Bool
inside zero A B = true
inside (suc n) A B = inside n A B && (not (A n) || B n)

-- some atom below n is in both
unfoldable pub meets : ℕ → Atoms → Atoms → Bool
meets zero A B = false
meets (suc n) A B = meets n A B || (A n && B n)

-- every atom of A is below n
abbrev pub Within : ℕ → Atoms → Type 0
Within n A = (p : ℕ) → A p ≡ true → p < n

-- no atom is in both
abbrev pub Apart : Atoms → Atoms → Type 0
Apart A B = (p : ℕ) → A p ≡ true → B p ≢ true
