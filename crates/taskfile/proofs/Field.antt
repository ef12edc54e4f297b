-- One field of a file.
use Rattle.std.proofs.Common.{◌≡◌, ℕ, ◌+◌, ◌-◌, ◌*◌, ◌^◌, ◌<◌, ◌≤◌, Bool, true, false, List, [], ◌∷◌, length, get_or, take, drop, Some, None, Ok, Err, Option, Result, sym, refl, ap, ◌∙◌, arith}
use Rattle.std.proofs.lemmas.Bool.{cond-true, cond-false, lt-ltb, le-ltb, ne_eqb}
use Rattle.taskfile.specs.declared.fault.Fault.{Fault}
use Rattle.strips.specs.declared.denial.Denial.{Denial}
use Rattle.strips.specs.declared.denial.Denial.TheVariants.{FileEnds}
use Rattle.taskfile.specs.Reading.{field, value, fault, judged, set_denied, optional}

module _ (w : ℕ) (denied : ℕ → Option Denial) (len : ℕ) (a : Option ℕ) (b : List ℕ) where
  pub field_ends : length b < w → field w denied len a b ≡ Err (fault FileEnds len a)
  unfolding field
  field_ends h = cond-true _ _ _ (lt-ltb _ _ h)

  pub field_denied : (v : ℕ) (d : Denial) → w ≤ length b → value (take w b) ≡ v → denied v ≡ Some d → field w denied len a b ≡ Err (fault d (len - length b) a)
  unfolding field
  field_denied v d h e k = cond-false _ _ _ (le-ltb _ _ h) ∙ ap (λ x. judged x (len - length b) a (value (take w b)) (drop w b)) (ap denied e ∙ k)

  pub field_right : (v : ℕ) (rest : List ℕ) → w ≤ length b → value (take w b) ≡ v → denied v ≡ None → rest ≡ drop w b → field w denied len a b ≡ Ok (v, rest)
  unfolding field
  field_right v rest h e k r = cond-false _ _ _ (le-ltb _ _ h) ∙ ap (λ x. judged x (len - length b) a (value (take w b)) (drop w b)) (ap denied e ∙ k) ∙ ap (λ x. Ok (x, drop w b)) e ∙ ap (λ x. Ok (v, x)) (sym r)

pub value_eight : (b : List ℕ) → 8 ≤ length b → value (take 8 b) ≡ get_or b 0 0 * 72057594037927936 + get_or b 1 0 * 281474976710656 + get_or b 2 0 * 1099511627776 + get_or b 3 0 * 4294967296 + get_or b 4 0 * 16777216 + get_or b 5 0 * 65536 + get_or b 6 0 * 256 + get_or b 7 0
unfolding value
value_eight (x₀ ∷ x₁ ∷ x₂ ∷ x₃ ∷ x₄ ∷ x₅ ∷ x₆ ∷ x₇ ∷ b) h = omega arith
value_eight (x₀ ∷ x₁ ∷ x₂ ∷ x₃ ∷ x₄ ∷ x₅ ∷ x₆ ∷ []) h = absurd (omega arith)
value_eight (x₀ ∷ x₁ ∷ x₂ ∷ x₃ ∷ x₄ ∷ x₅ ∷ []) h = absurd (omega arith)
value_eight (x₀ ∷ x₁ ∷ x₂ ∷ x₃ ∷ x₄ ∷ []) h = absurd (omega arith)
value_eight (x₀ ∷ x₁ ∷ x₂ ∷ x₃ ∷ []) h = absurd (omega arith)
value_eight (x₀ ∷ x₁ ∷ x₂ ∷ []) h = absurd (omega arith)
value_eight (x₀ ∷ x₁ ∷ []) h = absurd (omega arith)
value_eight (x₀ ∷ []) h = absurd (omega arith)
value_eight [] h = absurd (omega arith)

pub value_two : (b : List ℕ) → 2 ≤ length b → value (take 2 b) ≡ get_or b 0 0 * 256 + get_or b 1 0
unfolding value
value_two (x₀ ∷ x₁ ∷ b) h = omega arith
value_two (x₀ ∷ []) h = absurd (omega arith)
value_two [] h = absurd (omega arith)

pub value_one : (b : List ℕ) → 1 ≤ length b → value (take 1 b) ≡ get_or b 0 0
unfolding value
value_one (x₀ ∷ b) h = omega arith
value_one [] h = absurd (omega arith)

pub set_right : (n s : ℕ) → s < 2 ^ n → (s ≡ 0 → ⊥) → set_denied n s ≡ None
set_right n s h k = cond-true _ _ _ (lt-ltb _ _ h) ∙ cond-false _ _ _ (ne_eqb _ _ k)

pub optional_not : (p : Bool) (z : ℕ) (b : List ℕ) (r : Result (ℕ × List ℕ) Fault) → p ≡ false → optional p z b r ≡ Ok (z, b)
optional_not p z b r e = rw e refl

pub optional_here : (p : Bool) (z : ℕ) (b : List ℕ) (r : Result (ℕ × List ℕ) Fault) → p ≡ true → optional p z b r ≡ r
optional_here p z b r e = rw e refl
