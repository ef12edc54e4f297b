-- Sets of atoms below 64 as numbers: bit p stands for the atom p.
use Rattle.std.specs.Prelude.{ℕ, zero, suc, ◌+◌, ◌/◌, ◌%◌, ◌^◌, Bool, cond, ◌==◌}
use Rattle.strips.specs.Sets.{Atoms, clipped}
use Rattle.strips.specs.declared.atoms.AtomSet.{AtomSet}

abbrev pub bit : ℕ → ℕ → Bool
bit p x = x / 2 ^ p % 2 == 1

-- the atoms below 64 of a number
abbrev pub bits_of : ℕ → Atoms
bits_of x = clipped 64 (λ p. bit p x)

-- the atoms of a set
abbrev pub members : AtomSet → Atoms
members s = bits_of s.bits

-- the number whose bits are the atoms of A below n
unfoldable pub number : ℕ → Atoms → ℕ
number zero A = 0
number (suc n) A = number n A + cond (A n) (2 ^ n) 0
