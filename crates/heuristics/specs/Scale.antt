-- What sets of atoms are valued by.
use Rattle.std.specs.Prelude.{◌≡◌, ℕ, ◌+◌, ◌≤◌, min, cond, Some, None, Option, nat_lt}

-- an ordered scale: numbers, with 0 the least and `none` the greatest, and `extend v c`, which is the value v made dearer
-- by an action of cost c
pub record Scale : Type 0 where
  pub none : ℕ
  pub extend : ℕ → ℕ → ℕ

-- all that the theorems ask of a scale
pub record ScaleLaws (S : Scale) : Type 0 where
  pub rises : (v c : ℕ) → v ≤ S.none → v ≤ S.extend v c
  pub keeps_order : (u v c : ℕ) → u ≤ v → S.extend u c ≤ S.extend v c
  pub swaps : (v c d : ℕ) → S.extend (S.extend v c) d ≡ S.extend (S.extend v d) c
  pub none_stays : (c : ℕ) → S.extend S.none c ≡ S.none

-- costs that are added up, with every sum from `top` on read as none
abbrev pub added : ℕ → Scale
added top = record { none = top; extend = λ v c. min top (v + c) }

-- tenths of a second: none is the last number of 32 bits
abbrev pub tenths : Scale
tenths = added 4294967295

-- a value as a cost, or none
abbrev pub as_cost : Scale → ℕ → Option ℕ
as_cost S v = cond (nat_lt v S.none) (Some v) None
