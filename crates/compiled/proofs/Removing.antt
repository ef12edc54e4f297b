-- The compiled task removes nothing.
use Rattle.std.proofs.Common.{◌≡◌, ℕ, refl}
use Rattle.strips.specs.Sets.{nothing}
use Rattle.strips.specs.Task.{Action, Task, no_action}
use Rattle.heuristics.specs.Compiled.{carrying, cargo, carriers, compiled}
use Rattle.bounds.specs.Orders.{size_of}
use Rattle.bounds.specs.declared.order.Order.{Order}
use Rattle.compiled.specs.Soundness.{flat_each, map_each}

pub removes_none : (o : Order) (t : Task) (a : ℕ) → ((compiled (size_of o) t).action a).removes ≡ nothing
removes_none o t = flat_each RemovesNone no_action (carriers m t) refl (λ b j. map_each RemovesNone no_action (carrying t.atoms m (t.action b)) refl (λ f. refl) (cargo t.atoms m (t.action b)) j) t.actions
  where
    m : ℕ
    m = size_of o

    RemovesNone : Action → Type 0
    RemovesNone a = a.removes ≡ nothing
