-- The order of the compiled task's actions.
use Rattle.std.proofs.Common.{◌≡◌, ℕ, zero, suc, ◌+◌, ◌<◌, length, get_or, sym, refl, ap, ◌∙◌, arith, length-append}
use lib.ListN.{length-map}
use Rattle.strips.specs.Sets.{nothing}
use Rattle.strips.specs.Task.{Task, no_action}
use Rattle.heuristics.specs.Compiled.{flat, carrying, cargo, carriers, all_carriers, compiled}
use Rattle.heuristics.specs.Theorems.{first_carrier, CarriersStand}
use Rattle.heuristics.proofs.Places.{getD_map_in}
use Rattle.heuristics.proofs.Listed.{flat_at}

carriers_length : (m : ℕ) (t : Task) (a : ℕ) → length (carriers m t a) ≡ length (cargo t.atoms m (t.action a))
carriers_length m t a = length-map (cargo t.atoms m (t.action a)) (carrying t.atoms m (t.action a))

first_is : (m : ℕ) (t : Task) (a : ℕ) → length (flat a (carriers m t)) ≡ first_carrier m t a
unfolding flat
first_is m t zero = refl
first_is m t (suc a) = length-append (flat a (carriers m t)) (carriers m t a) ∙ (let p : length (flat a (carriers m t)) ≡ first_carrier m t a = first_is m t a in let q : length (carriers m t a) ≡ length (cargo t.atoms m (t.action a)) = carriers_length m t a in omega arith)

-- what a takes along the j-th is the compiled task's action of number first_carrier + j
module _ (m : ℕ) (t : Task) (a j : ℕ) (known : a < t.actions) (l : j < length (cargo t.atoms m (t.action a))) where
  pub carrier_known : first_carrier m t a + j < (compiled m t).actions
  carrier_known =
      let p : length (flat a (carriers m t)) + j < length (all_carriers m t) = (flat_at t.actions (carriers m t) no_action a j known (let q : length (carriers m t a) ≡ length (cargo t.atoms m (t.action a)) = carriers_length m t a in omega arith)).0 in
      let e : length (flat a (carriers m t)) ≡ first_carrier m t a = first_is m t a in
      omega arith

  pub carrier_is : (compiled m t).action (first_carrier m t a + j) ≡ carrying t.atoms m (t.action a) (get_or (cargo t.atoms m (t.action a)) j nothing)
  carrier_is =
      ap (λ k. get_or (all_carriers m t) (k + j) no_action) (sym (first_is m t a))
      ∙ ((flat_at t.actions (carriers m t) no_action a j known (let q : length (carriers m t a) ≡ length (cargo t.atoms m (t.action a)) = carriers_length m t a in omega arith)).1
      ∙ getD_map_in (carrying t.atoms m (t.action a)) (cargo t.atoms m (t.action a)) j nothing no_action l)

pub carriers_stand_lem : CarriersStand
carriers_stand_lem = carrier_is
