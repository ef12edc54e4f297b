-- The places of a search's table.
use Rattle.std.specs.Prelude.{ℕ}
use Rattle.search.specs.declared.table.Table.{Table}
use Rattle.search.specs.Places as places

-- place i is in use and open
abbrev pub IsOpen : Table → ℕ → Type 0
IsOpen t i = places.IsOpen t.places.now t.used i

-- how many places are not closed
abbrev pub not_closed : Table → ℕ
not_closed t = places.not_closed t.places.now t.used
