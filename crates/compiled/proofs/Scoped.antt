-- The sets that a scope takes in, by their numbers.
use Rattle.std.proofs.Common.{◌≡◌, ℕ, zero, suc, ◌+◌, ◌-◌, ◌<◌, ◌≤◌, Bool, true, false, not, ◌&&◌, ◌||◌, eqb, ltb, length, Some, None, Option, MatchOption, sym, refl, ap, ◌∙◌, subst, ⊎_elim, true≢false, arith, ltb-true, le-ltb, lt-ltb, eq-eqb, eqb-true}
use Rattle.std.proofs.Math.Bool.{and-false, or-false}
use Rattle.std.proofs.lemmas.Bool.{cases_lt, cases_eq, and_parts, and_from, or_cases, or_left, or_right}
use Rattle.strips.specs.Sets.{Atoms, nothing, plus, clipped, inside, meets, Within}
use Rattle.strips.proofs.Members.{same_atoms}
use Rattle.strips.proofs.Binary.{inside_each, inside_from, meets_from, meets_none, same_test}
use Rattle.heuristics.specs.Smalls.{smalls, set_at}
use Rattle.bounds.specs.Orders.{size_of}
use Rattle.bounds.specs.declared.order.Order.{Order}
use Rattle.bounds.specs.declared.order.Order.TheVariants.{One, Two}
use Rattle.strips.specs.Bits.{members}
use Rattle.strips.specs.Parts.{FirstFrom}
use Rattle.heuristics.specs.Compiled.{within_meeting}
use Rattle.strips.specs.declared.atoms.AtomSet.{AtomSet}
use Rattle.compiled.specs.Decoded.{SetIs, around, scoped, lows, scoped_pairs}
use Rattle.compiled.specs.declared.subsets.Scope.{Scope}
use Rattle.compiled.proofs.Numbering.{tri, tri_below, one_count, two_count, one_at, two_at}

-- NUMBERS -------------------------------------------------------------------

-- the two atoms of a place among the pairs
pub record Pair (n place : ℕ) : Type 0 where
  pub low : ℕ
  pub high : ℕ
  pub ordered : low < high
  pub inside_n : high < n
  pub placed : tri high + low ≡ place

pub pair_of : (n place : ℕ) → place < tri n → Pair n place
unfolding tri
pair_of zero place h = let z : ⊥ = omega arith in absurd z
pair_of (suc n) place h =
    ⊎_elim
    (λ l. let r = pair_of n place l in let k = r.inside_n in record { low = r.low; high = r.high; ordered = r.ordered; inside_n = omega arith; placed = r.placed })
    (λ (l : tri n ≤ place). record { low = place - tri n; high = n; ordered = omega arith; inside_n = omega arith; placed = omega arith })
    (cases_lt place (tri n))

-- a number is an atom's or a pair's
data Number (n : ℕ) : Order → ℕ → Type 0 where
  an_atom : {o : Order} {i : ℕ} → i < n → Number n o i
  a_pair : (low high : ℕ) → low < high → high < n → Number n Two (n + tri high + low)

number_of : (o : Order) (n i : ℕ) → i < length (smalls n (size_of o)) → Number n o i
number_of One n i h = an_atom (rw one_count at h)
number_of Two n i h = ⊎_elim (λ l. an_atom l) (λ (l : n ≤ i). pairs l) (cases_lt i n)
  where
    pairs : n ≤ i → Number n Two i
    pairs l =
        let k : i < n + tri n = rw two_count at h in
        let r = pair_of n (i - n) (omega arith) in
        let p = r.placed in
        let e : n + tri r.high + r.low ≡ i = omega arith in
        subst (λ z. Number n Two z) e (a_pair r.low r.high r.ordered r.inside_n)

-- TESTS ---------------------------------------------------------------------

abbrev pub one : ℕ → Atoms
one i = plus i nothing

one_has : (i : ℕ) → one i i ≡ true
one_has i = or_left (eqb i i) false (eq-eqb i i refl)

one_only : (i p : ℕ) → one i p ≡ true → p ≡ i
one_only i p a = ⊎_elim (λ u. eqb-true p i u) (λ u. absurd (true≢false (sym u))) (or_cases (eqb p i) false a)

inside_one : (n i : ℕ) (B : Atoms) → i < n → inside n (one i) B ≡ B i
inside_one n i B h = same_test (inside n (one i) B) (B i) (λ e. inside_each n (one i) B e i h (one_has i)) (λ e. inside_from n (one i) B (λ p l a. ap B (one_only i p a) ∙ e))

inside_plus : (n j : ℕ) (A B : Atoms) → j < n → inside n (plus j A) B ≡ (B j && inside n A B)
inside_plus n j A B h = same_test (inside n (plus j A) B) (B j && inside n A B) there back
  where
    there : inside n (plus j A) B ≡ true → (B j && inside n A B) ≡ true
    there e = and_from (B j) (inside n A B) (inside_each n (plus j A) B e j h (or_left (eqb j j) (A j) (eq-eqb j j refl))) (inside_from n A B (λ p l a. inside_each n (plus j A) B e p l (or_right (eqb p j) (A p) a)))

    back : (B j && inside n A B) ≡ true → inside n (plus j A) B ≡ true
    back e =
        let h = and_parts (B j) (inside n A B) e in
        inside_from n (plus j A) B (λ p l a. ⊎_elim (λ u. ap B (eqb-true p j u) ∙ h.0) (λ u. inside_each n A B h.1 p l u) (or_cases (eqb p j) (A p) a))

-- a test that fails nowhere is false
meets_some : (n : ℕ) (A B : Atoms) → meets n A B ≡ true → (p : ℕ) × (p < n) × (A p ≡ true) × (B p ≡ true)
unfolding meets
meets_some zero A B e = absurd (true≢false (sym e))
meets_some (suc n) A B e = ⊎_elim (λ u. let r = meets_some n A B u in let l = r.1 in (r.0, omega arith, r.2, r.3)) (λ u. (n, omega arith, (and_parts (A n) (B n) u).0, (and_parts (A n) (B n) u).1)) (or_cases (meets n A B) (A n && B n) e)

meets_plus : (n j : ℕ) (A B : Atoms) → j < n → meets n (plus j A) B ≡ (B j || meets n A B)
meets_plus n j A B h = same_test (meets n (plus j A) B) (B j || meets n A B) there back
  where
    there : meets n (plus j A) B ≡ true → (B j || meets n A B) ≡ true
    there e =
        let r = meets_some n (plus j A) B e in
        ⊎_elim (λ u. or_left (B j) (meets n A B) (ap B (sym (eqb-true r.0 j u)) ∙ r.3)) (λ u. or_right (B j) (meets n A B) (meets_from n A B r.0 r.1 u r.3)) (or_cases (eqb r.0 j) (A r.0) r.2)

    back : (B j || meets n A B) ≡ true → meets n (plus j A) B ≡ true
    back e =
        ⊎_elim (λ u. meets_from n (plus j A) B j h (or_left (eqb j j) (A j) (eq-eqb j j refl)) u)
        (λ u. let r = meets_some n A B u in meets_from n (plus j A) B r.0 r.1 (or_right (eqb r.0 j) (A r.0) r.2) r.3)
        (or_cases (B j) (meets n A B) e)

pub meets_one : (n i : ℕ) (B : Atoms) → i < n → meets n (one i) B ≡ B i
meets_one n i B h = meets_plus n i nothing B h ∙ (ap (λ b. B i || b) (meets_none n nothing B (λ p l a b. true≢false (sym a))) ∙ or-false (B i))

-- WHAT A SCOPE TAKES IN -----------------------------------------------------

pub at_atom : (o : Order) (n i : ℕ) (B A : Atoms) → i < n → within_meeting n (size_of o) B A i ≡ (B i && A i)
at_atom o n i B A h = go o
  where
    test : (m : ℕ) → (inside n (set_at n (suc m) i) B && meets n (set_at n (suc m) i) A) ≡ (B i && A i)
    test m = rw (one_at n m i h, inside_one n i B h, meets_one n i A h)

    go : (o : Order) → within_meeting n (size_of o) B A i ≡ (B i && A i)
    go One = ap (λ b. b && (inside n (set_at n 1 i) B && meets n (set_at n 1 i) A)) (lt-ltb i (length (smalls n 1)) (rw one_count h)) ∙ test 0
    go Two = ap (λ b. b && (inside n (set_at n 2 i) B && meets n (set_at n 2 i) A)) (lt-ltb i (length (smalls n 2)) (rw two_count (omega arith))) ∙ test 1

pub at_pair : (n i j : ℕ) (B A : Atoms) → i < j → j < n → within_meeting n 2 B A (n + tri j + i) ≡ ((B j && B i) && (A j || A i))
at_pair n i j B A h k =
    ap (λ b. b && (inside n (set_at n 2 (n + tri j + i)) B && meets n (set_at n 2 (n + tri j + i)) A)) (lt-ltb (n + tri j + i) (length (smalls n 2)) (rw two_count (let r = tri_below n i j h k in omega arith)))
    ∙ (let l : i < n = omega arith in rw (two_at n i j h k, inside_plus n j (one i) B k, inside_one n i B l, meets_plus n j (one i) A k, meets_one n i A l))

pub at_none : (m n i : ℕ) (B A : Atoms) → length (smalls n m) ≤ i → within_meeting n m B A i ≡ false
at_none m n i B A h = ap (λ b. b && (inside n (set_at n m i) B && meets n (set_at n m i) A)) (le-ltb i (length (smalls n m)) h)

-- SETS OF 64 ATOMS ----------------------------------------------------------

one_within : (n i : ℕ) → i < n → Within n (one i)
one_within n i h p e = let q = one_only i p e in omega arith

pair_within : (n i j : ℕ) → i < j → j < n → Within n (plus j (one i))
pair_within n i j h k p e = ⊎_elim (λ u. let q = eqb-true p j u in omega arith) (λ u. let q = one_only i p u in omega arith) (or_cases (eqb p j) (one i p) e)

set_within : (o : Order) (n i : ℕ) → i < length (smalls n (size_of o)) → Within n (set_at n (size_of o) i)
set_within o n i h = go o i (number_of o n i h)
  where
    go : (o : Order) (i : ℕ) → Number n o i → Within n (set_at n (size_of o) i)
    go One i (an_atom l) = subst (λ A. Within n A) (sym (one_at n 0 i l)) (one_within n i l)
    go Two i (an_atom l) = subst (λ A. Within n A) (sym (one_at n 1 i l)) (one_within n i l)
    go Two _ (a_pair low high l k) = subst (λ A. Within n A) (sym (two_at n low high l k)) (pair_within n low high l k)

-- and it is not empty
pub set_some : (o : Order) (n i : ℕ) → i < length (smalls n (size_of o)) → (p : ℕ) × (p < n) × (set_at n (size_of o) i p ≡ true)
set_some o n i h = go o i (number_of o n i h)
  where
    go : (o : Order) (i : ℕ) → Number n o i → (p : ℕ) × (p < n) × (set_at n (size_of o) i p ≡ true)
    go One i (an_atom l) = (i, l, ap (λ A. A i) (one_at n 0 i l) ∙ one_has i)
    go Two i (an_atom l) = (i, l, ap (λ A. A i) (one_at n 1 i l) ∙ one_has i)
    go Two _ (a_pair low high l k) = (low, omega arith, ap (λ A. A low) (two_at n low high l k) ∙ or_right (eqb low high) (one low low) (one_has low))

inside_wide : (n k : ℕ) (A B : Atoms) → n ≤ k → Within n A → inside k A B ≡ inside n A B
inside_wide n k A B h w = same_test (inside k A B) (inside n A B) (λ e. inside_from n A B (λ p l a. inside_each k A B e p (omega arith) a)) (λ e. inside_from k A B (λ p l a. inside_each n A B e p (w p a) a))

meets_wide : (n k : ℕ) (A B : Atoms) → n ≤ k → Within n A → meets k A B ≡ meets n A B
meets_wide n k A B h w = same_test (meets k A B) (meets n A B) (λ e. let r = meets_some k A B e in meets_from n A B r.0 (w r.0 r.2) r.2 r.3) (λ e. let r = meets_some n A B e in let l = r.1 in meets_from k A B r.0 (omega arith) r.2 r.3)

pub scoped_by : (o : Order) (n i : ℕ) (s S B A : Atoms) → n ≤ 64 → i < length (smalls n (size_of o)) → s ≡ set_at n (size_of o) i → S ≡ B → (inside 64 s S && meets 64 s A) ≡ within_meeting n (size_of o) B A i
scoped_by o n i s S B A h l e f =
    let w = set_within o n i l in
    ap (λ C. inside 64 C S && meets 64 C A) e
    ∙ (ap (λ C. inside 64 (set_at n (size_of o) i) C && meets 64 (set_at n (size_of o) i) A) f
    ∙ (ap (λ b. b && meets 64 (set_at n (size_of o) i) A) (inside_wide n 64 (set_at n (size_of o) i) B h w)
    ∙ (ap (λ b. inside n (set_at n (size_of o) i) B && b) (meets_wide n 64 (set_at n (size_of o) i) A h w)
    ∙ ap (λ b. b && (inside n (set_at n (size_of o) i) B && meets n (set_at n (size_of o) i) A)) (sym (lt-ltb i (length (smalls n (size_of o))) l)))))

-- THE FIRST NUMBER THAT A SCOPE TAKES IN ------------------------------------

pub lows_under : (s : Scope) (high low : ℕ) → lows s high low ≡ true → low < high
lows_under s high low e = ltb-true low high (and_parts (ltb low high) ((around s high && around s low) && (members s.core high || members s.core low)) e).0

pub lows_off : (s : Scope) (high i : ℕ) → around s high ≡ false → lows s high i ≡ false
lows_off s high i e = rw e (and-false (ltb i high))

pub lows_all : (s : Scope) (high : ℕ) → around s high ≡ true → members s.core high ≡ true → clipped high (around s) ≡ lows s high
lows_all s high e f = same_atoms (clipped high (around s)) (lows s high) (λ i. rw (e, f) (ap (λ b. ltb i high && b) (on (around s i))))
  where
    on : (b : Bool) → b ≡ (b && true)
    on true = refl
    on false = refl

pub lows_core : (s : Scope) (high : ℕ) → around s high ≡ true → members s.core high ≡ false → clipped high (members s.core) ≡ lows s high
lows_core s high e f = same_atoms (clipped high (members s.core)) (lows s high) (λ i. rw (e, f) (ap (λ b. ltb i high && b) (on (members s.core i) (members s.rim i))))
  where
    on : (x y : Bool) → x ≡ ((x || y) && x)
    on true y = refl
    on false true = refl
    on false false = refl

pairs_at : (n i j : ℕ) (s : Scope) → i < j → j < n → scoped_pairs n s (n + tri j + i) ≡ lows s j i
pairs_at n i j s h k = rw (le-ltb (n + tri j + i) n (omega arith), lt-ltb i j h) (at_pair n i j (around s) (members s.core) h k)

pairs_low : (n p : ℕ) (s : Scope) → p < n → scoped_pairs n s p ≡ false
pairs_low n p s h = rw (lt-ltb p n h)

pairs_past : (n p : ℕ) (s : Scope) → n + tri n ≤ p → scoped_pairs n s p ≡ false
pairs_past n p s h = rw (at_none 2 n p (around s) (members s.core) (rw two_count h)) (and-false (not (ltb p n)))

-- no pair whose higher atom is below `high` is taken in from `from` on
abbrev pub NoneBelow : ℕ → Scope → ℕ → ℕ → Type 0
NoneBelow n s from high = (i j : ℕ) → i < j → j < high → from ≤ n + tri j + i → lows s j i ≡ false

tri_over : (j high : ℕ) → 0 < high → high < j → tri high + high ≤ tri j
tri_over j high z h = let k : high - 1 < high = omega arith in let r = tri_below j (high - 1) high k h in omega arith

pub pairs_found : (n from base high low : ℕ) (s : Scope) → base ≡ n + tri high → high < n → NoneBelow n s from high → FirstFrom (lows s high) (from - base) (Some low) → FirstFrom (scoped_pairs n s) from (Some (base + low))
pairs_found n from base high low s b k none f =
    let under : low < high = lows_under s high low f.1 in
    let l = f.0 in
    let e : n + tri high + low ≡ base + low = omega arith in
    let top = tri_below n low high under k in
    (omega arith, ap (scoped_pairs n s) (sym e) ∙ (pairs_at n low high s under k ∙ f.1), λ p g h. ⊎_elim (λ q. pairs_low n p s q) (λ q. before p g h q) (cases_lt p n))
  where
    before : (p : ℕ) → from ≤ p → p < base + low → n ≤ p → scoped_pairs n s p ≡ false
    before p g h q =
        let under : low < high = lows_under s high low f.1 in
        let top = tri_below n low high under k in
        let r = pair_of n (p - n) (omega arith) in
        let at = r.placed in
        let o = r.ordered in
        let e : n + tri r.high + r.low ≡ p = omega arith in
        ap (scoped_pairs n s) (sym e) ∙ (pairs_at n r.low r.high s r.ordered r.inside_n ∙
        ⊎_elim
        (λ (u : r.high < high). none r.low r.high r.ordered u (omega arith))
        (λ (u : high ≤ r.high).
        ⊎_elim
        (λ (v : r.high ≡ high). let d = ap tri v in ap (λ j. lows s j r.low) v ∙ f.2 r.low (omega arith) (omega arith))
        (λ (v : r.high ≡ high → ⊥). let w = tri_over r.high high (omega arith) (omega arith) in let z : ⊥ = omega arith in absurd z)
        (cases_eq r.high high))
        (cases_lt r.high high))

pub pairs_again : (n from base high : ℕ) (s : Scope) → base ≡ n + tri high → NoneBelow n s from high → FirstFrom (lows s high) (from - base) None → NoneBelow n s from (high + 1)
pairs_again n from base high s b none f i j h k g =
    ⊎_elim
    (λ (u : j < high). none i j h u g)
    (λ (u : high ≤ j). let e : j ≡ high = omega arith in let d = ap tri e in ap (λ z. lows s z i) e ∙ f i (omega arith))
    (cases_lt j high)

pub pairs_none : (n from : ℕ) (s : Scope) → NoneBelow n s from n → FirstFrom (scoped_pairs n s) from None
pairs_none n from s none p g =
    ⊎_elim (λ q. pairs_low n p s q)
    (λ (q : n ≤ p).
    ⊎_elim
    (λ (u : p < n + tri n).
    let r = pair_of n (p - n) (omega arith) in
    let at = r.placed in
    let e : n + tri r.high + r.low ≡ p = omega arith in
    ap (scoped_pairs n s) (sym e) ∙ (pairs_at n r.low r.high s r.ordered r.inside_n ∙ none r.low r.high r.ordered r.inside_n (omega arith)))
    (λ u. pairs_past n p s u)
    (cases_lt p (n + tri n)))
    (cases_lt p n)

-- an atom below n is taken in where it is in the core
atom_at : (o : Order) (n i : ℕ) (s : Scope) → i < n → scoped n (size_of o) s i ≡ clipped n (members s.core) i
atom_at o n i s h = at_atom o n i (around s) (members s.core) h ∙ (both (members s.core i) (members s.rim i) ∙ ap (λ b. b && members s.core i) (sym (lt-ltb i n h)))
  where
    both : (x y : Bool) → ((x || y) && x) ≡ x
    both true y = refl
    both false true = refl
    both false false = refl

pub atom_found : (o : Order) (n from p : ℕ) (s : Scope) → FirstFrom (clipped n (members s.core)) from (Some p) → FirstFrom (scoped n (size_of o) s) from (Some p)
atom_found o n from p s f =
    let l = ltb-true p n (and_parts (ltb p n) _ f.1).0 in
    (f.0, atom_at o n p s l ∙ f.1, λ q g h. atom_at o n q s (omega arith) ∙ f.2 q g h)

pub no_more : (n from : ℕ) (s : Scope) → FirstFrom (clipped n (members s.core)) from None → FirstFrom (scoped n 1 s) from None
no_more n from s f p g = ⊎_elim (λ l. atom_at One n p s l ∙ f p g) (λ l. at_none 1 n p (around s) (members s.core) (rw one_count l)) (cases_lt p n)

pub then_pairs : (n from : ℕ) (s : Scope) (r : Option ℕ) → FirstFrom (clipped n (members s.core)) from None → FirstFrom (scoped_pairs n s) from r → FirstFrom (scoped n 2 s) from r
then_pairs n from s r f = go r
  where
    same : (p : ℕ) → from ≤ p → scoped n 2 s p ≡ scoped_pairs n s p
    same p g = ⊎_elim (λ l. (atom_at Two n p s l ∙ f p g) ∙ sym (pairs_low n p s l)) (λ l. sym (rw (le-ltb p n l))) (cases_lt p n)

    go : (r : Option ℕ) → FirstFrom (scoped_pairs n s) from r → FirstFrom (scoped n 2 s) from r
    go None h = λ p g. same p g ∙ h p g
    go (Some q) h = (h.0, same q h.0 ∙ h.1, λ p g l. same p g ∙ h.2 p g l)

-- whether a scope takes in the set of a number, or of no number
pub set_scoped : (o : Order) (n i : ℕ) (s : Scope) (r : Option AtomSet) (b : Bool) → n ≤ 64 → SetIs n (size_of o) i r →
    MatchOption r (b ≡ false) (λ x. b ≡ (inside 64 (members x) (around s) && meets 64 (members x) (members s.core))) → b ≡ scoped n (size_of o) s i
set_scoped o n i s None b h k e = e ∙ sym (at_none (size_of o) n i (around s) (members s.core) k)
set_scoped o n i s (Some x) b h k e = e ∙ scoped_by o n i (members x) (around s) (around s) (members s.core) h k.0 k.1 refl

-- an atom of the core, or else a pair
pub core_or_pair : (n from : ℕ) (s : Scope) (a r : Option ℕ) → FirstFrom (clipped n (members s.core)) from a → MatchOption a (FirstFrom (scoped_pairs n s) from r) (λ p. r ≡ Some p) → FirstFrom (scoped n 2 s) from r
core_or_pair n from s None r f h = then_pairs n from s r f h
core_or_pair n from s (Some p) r f h = subst (FirstFrom (scoped n 2 s) from) (sym h) (atom_found Two n from p s f)

pub core_alone : (n from : ℕ) (s : Scope) (a : Option ℕ) → FirstFrom (clipped n (members s.core)) from a → FirstFrom (scoped n 1 s) from a
core_alone n from s None f = no_more n from s f
core_alone n from s (Some p) f = atom_found One n from p s f
