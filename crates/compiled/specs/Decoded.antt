-- What the decoding of the compiled task's numbers gives.
use Rattle.std.specs.Prelude.{◌≡◌, ℕ, zero, suc, ◌<◌, ◌≤◌, cond, not, ◌&&◌, ◌||◌, List, [], ◌∷◌, ◌++◌, length, Some, None, Option, nat_lt, slice_index, slice_index_or}
use Rattle.strips.specs.Sets.{Atoms, nothing, plus, joined, without, first}
use Rattle.strips.specs.Task.{Task, no_action}
use Rattle.strips.specs.Bits.{members}
use Rattle.strips.specs.Rows.{row_action}
use Rattle.strips.specs.declared.atoms.AtomSet.{AtomSet}
use Rattle.heuristics.specs.Smalls.{smalls, set_at}
use Rattle.bounds.specs.declared.order.Order.{Order}
use Rattle.bounds.specs.declared.order.Order.TheVariants.{One, Two}
use Rattle.heuristics.specs.Compiled.{within_meeting, carrying, all_carriers}
use Rattle.compiled.specs.declared.carriers.Carrier.{Carrier}
use Rattle.compiled.specs.declared.subsets.Scope.{Scope}

-- the set number i, or none
abbrev pub SetIs : ℕ → ℕ → ℕ → Option AtomSet → Type 0
SetIs n m i None = length (smalls n m) ≤ i
SetIs n m i (Some s) = (i < length (smalls n m)) × (members s ≡ set_at n m i)

-- the compiled task's action number i, or none
abbrev pub CarrierIs : ℕ → Task → ℕ → Option Carrier → Type 0
CarrierIs m t i None = length (all_carriers m t) ≤ i
CarrierIs m t i (Some c) = (i < length (all_carriers m t)) × (slice_index_or (all_carriers m t) i no_action ≡ carrying t.atoms m (row_action c.row) (members c.cargo))

-- the atoms of A that are below n, rising
unfoldable pub rising : ℕ → Atoms → List ℕ
rising zero A = []
rising (suc n) A = rising n A ++ cond (A n) (n ∷ []) []

-- the atoms that an action which touches A can take along, one at a time
abbrev pub extras : Order → ℕ → Atoms → Atoms
extras One n A = nothing
extras Two n A = without (first n) A

-- the same of an action of a task, rising
abbrev pub extra_list : Order → Task → ℕ → List ℕ
extra_list o t a = rising 64 (extras o t.atoms (joined (t.action a).adds (t.action a).removes))

-- what it takes along at a place: nothing, or one of those atoms
abbrev pub cargo_set : List ℕ → ℕ → Atoms
cargo_set xs zero = nothing
cargo_set xs (suc j) = plus (slice_index xs j) nothing

-- the same, or none where there are fewer
abbrev pub CargoIs : List ℕ → ℕ → Option AtomSet → Type 0
CargoIs xs j None = length xs < j
CargoIs xs j (Some s) = (j ≤ length xs) × (members s ≡ cargo_set xs j)

-- every atom of core and rim
abbrev pub around : Scope → Atoms
around s = joined (members s.core) (members s.rim)

-- the sets that a scope takes in: those that meet its core and have no atom outside of core and rim
abbrev pub scoped : ℕ → ℕ → Scope → Atoms
scoped n m s = within_meeting n m (around s) (members s.core)

-- A is what a scope takes in; with no scope it is empty
abbrev pub ScopeIs : ℕ → ℕ → Atoms → Option Scope → Type 0
ScopeIs m n A None = A ≡ nothing
ScopeIs m n A (Some s) = A ≡ scoped n m s

-- the lower atoms of the pairs with `high` that a scope takes in
abbrev pub lows : Scope → ℕ → Atoms
lows s high i = nat_lt i high && ((around s high && around s i) && (members s.core high || members s.core i))

-- the numbers of pairs that a scope takes in
abbrev pub scoped_pairs : ℕ → Scope → Atoms
scoped_pairs n s i = not (nat_lt i n) && scoped n 2 s i
