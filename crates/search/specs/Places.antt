-- Which places of a search's table are open, and how many are not closed yet.
use Rattle.std.specs.Prelude.{◌≡◌, ℕ, ◌+◌, ◌-◌, ◌<◌, Bool, true, List, length, take, get_or}
use Rattle.std.specs.List.{count_by}
use Rattle.search.specs.declared.place.Place.{Place}

-- a place's mark
abbrev pub is_open : Place → Bool
is_open p = p.open

-- place i is one of the n in use, and open
abbrev pub IsOpen : List Place → ℕ → ℕ → Type 0
IsOpen places n i = (i < n) × ((d : Place) → is_open (get_or places i d) ≡ true)

-- how many places are not closed: those that are not in use, and the open ones of the n that are
abbrev pub not_closed : List Place → ℕ → ℕ
not_closed places n = (length places - n) + count_by is_open (take n places)
