use Rattle.std.proofs.Common.{rules, ◌≡◌, ℕ, ◌<◌, ◌-◌, ◌+◌, Bool, true, false, not, length, sym, ap, ◌∙◌, refl, arith}
use Rattle.std.specs.Prelude.{MatchBool}
use Rattle.std.specs.List.{range_with_len, HoldsAt, AllWithin}
use Rattle.std.proofs.lemmas.List.FromFn.{length-range_with_len, get_or-range_with_len}
use Rattle.std.proofs.lemmas.Iterator.{cases_from_any, YieldsList-from_range}
use Rattle.strips.specs.Sets.{first, inside}
use Rattle.strips.specs.Closed.{closed_of}
use Rattle.strips.proofs.Layered.{none_above, one_above}
use Rattle.strips.proofs.closures.closed_below.Goals as goal

-- no action from n on is closed, or one is
test : (n : ℕ) (closed : ℕ → Bool) (r : Bool) → MatchBool r ((k : ℕ) × (k < length (range_with_len n (256 - n))) × HoldsAt (λ a. closed a ≡ true) (range_with_len n (256 - n)) k) (AllWithin (λ a. closed a ≡ false) (range_with_len n (256 - n)) 0 (length (range_with_len n (256 - n)))) → not r ≡ inside 256 closed (first n)
test n closed true (k, l, h) =
    let e = length-range_with_len n (256 - n) in
    one_above n (n + k) closed (omega arith) (omega arith) (sym (ap closed (sym (get_or-range_with_len n (256 - n) k 0 (omega arith))) ∙ h 0))
test n closed false f =
    let e = length-range_with_len n (256 - n) in
    none_above n 256 closed (omega arith) (λ a k l. (let d : n + (a - n) ≡ a = omega arith in ap closed (sym d ∙ sym (get_or-range_with_len n (256 - n) (a - n) 0 (omega arith)))) ∙ f (a - n) 0 (omega arith) (omega arith))

pub returns : goal.returns
returns c =
    test c.args.n (closed_of c.args.closures.now) c.any.result (cases_from_any _ _ c.any.result (λ a. closed_of c.args.closures.now a ≡ true) (λ a. closed_of c.args.closures.now a ≡ false) c.any.ensures.ran (YieldsList-from_range c.args.n 256 (256 - c.args.n) refl refl) (λ a q k. search rules) (λ a q k. search rules))
