-- What a write of a place in use does to the number of places that are not closed.
use Rattle.std.proofs.Common.{◌≡◌, ℕ, ◌+◌, ◌<◌, ◌≤◌, false, cond, List, length, take, arith, slice_set, slice_index_or}
use Rattle.std.specs.List.{count_by}
use Rattle.std.proofs.Math.Seq.{take-set-lt}
use Rattle.std.proofs.lemmas.List.{get_or-take, length-take-le}
use Rattle.std.proofs.lemmas.List.Sums.{sum_by-set}
use Rattle.std.proofs.lemmas.Grind.{common_steps}
use Rattle.search.specs.declared.place.Place.{Place}
use Rattle.search.specs.Places.{is_open, IsOpen, not_closed}

-- the open places among the first n
pub count-set : (places : List Place) (n i : ℕ) (p d : Place) → i < n → n ≤ length places
    → count_by is_open (take n (slice_set places i p)) + cond (is_open (slice_index_or places i d)) 1 0
    ≡ count_by is_open (take n places) + cond (is_open p) 1 0
count-set places n i p d lt le =
    let e : slice_index_or (take n places) i d ≡ slice_index_or places i d = get_or-take n places i d lt in
    let s : count_by is_open (slice_set (take n places) i p) + cond (is_open (slice_index_or (take n places) i d)) 1 0
    ≡ count_by is_open (take n places) + cond (is_open p) 1 0
    = sum_by-set (λ q. cond (is_open q) 1 0) (take n places) i p d (simp (length-take-le n places le) lt) in
    rw (take-set-lt n places i p lt) (rw e at s)

pub not_closed-close : (places : List Place) (n i : ℕ) (p : Place) → IsOpen places n i → n ≤ length places → is_open p ≡ false
    → not_closed (slice_set places i p) n + 1 ≡ not_closed places n
not_closed-close places n i p h le e = grind (arith, common_steps, count-set places n i p p h.0 le, h.1 p)

pub not_closed-reach : (places : List Place) (n i : ℕ) (p d : Place) → i < n → n ≤ length places
    → is_open p ≡ is_open (slice_index_or places i d) → not_closed (slice_set places i p) n ≡ not_closed places n
not_closed-reach places n i p d lt le e = grind (arith, common_steps, count-set places n i p d lt le)
