-- The compiled task's sets and costs, as its decoded numbers give them.
use Rattle.std.proofs.Common.{◌≡◌, ℕ, ◌<◌, ◌≤◌, Bool, true, false, ◌&&◌, ltb, ◌⊎◌, length, Some, None, Option, MatchOption, IsSomeAnd, sym, refl, ap, ◌∙◌, subst, inl, inr, ⊎_elim, arith, le-ltb}
use lib.ListN.{get_or-eq_default}
use Rattle.std.proofs.Math.Bool.{or-false}
use Rattle.std.proofs.lemmas.Bool.{cases_lt}
use Rattle.strips.specs.Sets.{Atoms, nothing, joined, clipped, inside, meets, Within}
use Rattle.strips.specs.Task.{Task, Sound, no_action}
use Rattle.strips.specs.Bits.{members}
use Rattle.strips.specs.Parts.{part_of}
use Rattle.strips.specs.declared.part.Part.{Part}
use Rattle.strips.specs.declared.part.Part.TheVariants.{Needs, Adds, Removes, Start, Goal}
use Rattle.strips.proofs.Members.{same_atoms, clipped_within}
use Rattle.strips.proofs.Binary.{inside_each, meets_from}
use Rattle.heuristics.specs.Smalls.{smalls, set_at}
use Rattle.bounds.specs.Orders.{size_of}
use Rattle.bounds.specs.declared.order.Order.{Order}
use Rattle.heuristics.specs.Compiled.{within, within_meeting, all_carriers, compiled}
use Rattle.compiled.specs.Decoded.{CarrierIs, ScopeIs, scoped}
use Rattle.compiled.specs.declared.carriers.Carrier.{Carrier}
use Rattle.compiled.specs.declared.subsets.Scope.{Scope}
use Rattle.compiled.specs.declared.subsets.SmallSets.{SmallSets}
use Rattle.compiled.proofs.Scoped.{set_some}

-- a set that is inside B meets it
within_self : (o : Order) (n : ℕ) (B : Atoms) → within n (size_of o) B ≡ within_meeting n (size_of o) B B
within_self o n B = same_atoms (within n (size_of o) B) (within_meeting n (size_of o) B B) (λ i. go i (cases_lt i (length (smalls n (size_of o)))))
  where
    both : (x y : Bool) → (x ≡ true → y ≡ true) → x ≡ (x && y)
    both true y f = sym (f refl)
    both false y f = refl

    go : (i : ℕ) → (i < length (smalls n (size_of o))) ⊎ (length (smalls n (size_of o)) ≤ i) → within n (size_of o) B i ≡ within_meeting n (size_of o) B B i
    go i (inl l) =
        let p = set_some o n i l in
        ap (λ b. ltb i (length (smalls n (size_of o))) && b) (both (inside n (set_at n (size_of o) i) B) (meets n (set_at n (size_of o) i) B) (λ e. meets_from n (set_at n (size_of o) i) B p.0 p.1 p.2 (inside_each n (set_at n (size_of o) i) B e p.0 p.1 p.2)))
    go i (inr l) = rw (le-ltb i (length (smalls n (size_of o))) l)

pub inside_scoped : (o : Order) (n : ℕ) (s : Scope) (B : Atoms) → members s.core ≡ B → members s.rim ≡ nothing → within n (size_of o) B ≡ scoped n (size_of o) s
inside_scoped o n s B e f =
    within_self o n B
    ∙ (ap (λ C. within_meeting n (size_of o) C B) (sym (alone B))
    ∙ (ap (λ C. within_meeting n (size_of o) (joined B C) B) (sym f) ∙ ap (λ C. within_meeting n (size_of o) (joined C (members s.rim)) C) (sym e)))
  where
    alone : (A : Atoms) → joined A nothing ≡ A
    alone A = same_atoms (joined A nothing) A (λ p. or-false (A p))

-- THE ACTIONS ---------------------------------------------------------------

pub action_none : (o : Order) (t : Task) (a : ℕ) → CarrierIs (size_of o) t a None → (compiled (size_of o) t).action a ≡ no_action
action_none o t a h = get_or-eq_default (all_carriers (size_of o) t) no_action h

pub needs_scoped : (o : Order) (t : Task) (a : ℕ) (r : Option Carrier) (q : Option Scope) → CarrierIs (size_of o) t a r →
    MatchOption r (q ≡ None) (λ c. IsSomeAnd q (λ s. (members s.core ≡ joined (members c.row.needs) (members c.cargo)) × (members s.rim ≡ nothing))) →
    ScopeIs (size_of o) t.atoms ((compiled (size_of o) t).action a).needs q
needs_scoped o t a None q h k = subst (ScopeIs (size_of o) t.atoms _) (sym k) (ap (λ b. b.needs) (action_none o t a h))
needs_scoped o t a (Some c) None h k = absurd k
needs_scoped o t a (Some c) (Some s) h k = ap (λ b. b.needs) h.1 ∙ inside_scoped o t.atoms s (joined (members c.row.needs) (members c.cargo)) k.0 k.1

-- START AND GOAL ------------------------------------------------------------

-- a set that is asked of a small task has all of its atoms
pub asked_scoped : (o : Order) (t : Task) → Sound t → t.atoms ≤ 64 → (x : Part) → (x ≡ Start) ⊎ (x ≡ Goal) → (s : Scope) (B : Atoms) → members s.core ≡ B → B ≡ clipped 64 (part_of t x) → members s.rim ≡ nothing →
    ScopeIs (size_of o) t.atoms (part_of (compiled (size_of o) t) x) (Some s)
asked_scoped o t w h x e s B f k g = go x e k
  where
    asked : (A : Atoms) → Within t.atoms A → B ≡ clipped 64 A → within t.atoms (size_of o) A ≡ scoped t.atoms (size_of o) s
    asked A v k = inside_scoped o t.atoms s A (f ∙ (k ∙ clipped_within 64 A (λ p u. let l = v p u in omega arith))) g

    go : (x : Part) → (x ≡ Start) ⊎ (x ≡ Goal) → B ≡ clipped 64 (part_of t x) → part_of (compiled (size_of o) t) x ≡ scoped t.atoms (size_of o) s
    go (Needs a) e k = ⊎_elim (λ u. cc) (λ u. cc) e
    go (Adds a) e k = ⊎_elim (λ u. cc) (λ u. cc) e
    go (Removes a) e k = ⊎_elim (λ u. cc) (λ u. cc) e
    go Start e k = asked t.start w.start_in k
    go Goal e k = asked t.goal w.goal_in k

-- WHAT A SCOPE SAYS OF AN ATOM ----------------------------------------------

-- the sets by whose numbers the compiled task's atoms go
pub scope_same : (o : Order) (t : Task) (A : Atoms) (sets : SmallSets) (r : Option Scope) → sets.atoms ≡ t.atoms → sets.order ≡ o → ScopeIs (size_of o) t.atoms A r → ScopeIs (size_of sets.order) sets.atoms A r
scope_same o t A sets r e f h = subst (λ p. ScopeIs (size_of p) sets.atoms A r) (sym f) (subst (λ n. ScopeIs (size_of o) n A r) (sym e) h)

pub held : (o : Order) (t : Task) (i : ℕ) (A : Atoms) (sets : SmallSets) (r : Option Scope) (b : Bool) → sets.atoms ≡ t.atoms → sets.order ≡ o → ScopeIs (size_of o) t.atoms A r →
    MatchOption r (b ≡ false) (λ s. b ≡ scoped sets.atoms (size_of sets.order) s i) → b ≡ A i
held o t i A sets r b e f h k = go r (scope_same o t A sets r e f h) k
  where
    go : (r : Option Scope) → ScopeIs (size_of sets.order) sets.atoms A r → MatchOption r (b ≡ false) (λ s. b ≡ scoped sets.atoms (size_of sets.order) s i) → b ≡ A i
    go None h k = k ∙ sym (ap (λ B. B i) h)
    go (Some s) h k = k ∙ sym (ap (λ B. B i) h)
