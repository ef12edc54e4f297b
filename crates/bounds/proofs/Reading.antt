-- Entering actions under the atoms that they need, and finding them again.
use Rattle.std.proofs.Common.{◌≡◌, ℕ, ◌+◌, ◌<◌, Bool, true, false, not, ◌&&◌, ◌||◌, eqb, ltb, ◌≢◌, ◌⊎◌, List, length, get_or, set, replicate, sym, refl, ap, ◌∙◌, inl, inr, ⊎_elim, true≢false, arith, get_or-set_other, get_or-set_same, le-ltb, lt-ltb, eq-eqb, ne_eqb, eqb-true}
use lib.ListN.{get_or-replicate}
use Rattle.std.proofs.Math.Bool.{or-false, or_assoc}
use Rattle.std.proofs.lemmas.Bool.{cases_eq, cases_order, cases_Bool, or_cases, or_parts, or_right}
use Rattle.strips.specs.Sets.{Atoms, nothing, joined, clipped, plus, meets}
use Rattle.strips.specs.Parts.{Parted}
use Rattle.strips.specs.Bits.{members}
use Rattle.strips.specs.declared.atoms.AtomSet.{AtomSet}
use Rattle.strips.proofs.Members.{bits_none}
use Rattle.strips.proofs.Binary.{meets_from, meets_none, same_test}
use Rattle.bounds.specs.Readers.{no_set, row_at}

-- an atom of a set that was taken apart is the first one, or one of the others
pub parted_cases : (A B : Atoms) (p : ℕ) → Parted A p B → (q : ℕ) → A q ≡ (eqb q p || B q)
parted_cases A B p h q = go (cases_eq q p)
  where
    go : (q ≡ p) ⊎ (q ≢ p) → A q ≡ (eqb q p || B q)
    go (inl e) = ap A e ∙ (h.is_in ∙ sym (ap (λ b. b || B q) (eq-eqb q p e)))
    go (inr e) = sym (ap (λ b. b || B q) (ne_eqb q p e) ∙ (ap (λ C. C q) h.rest ∙ ap (λ b. not b && A q) (ne_eqb q p e)))

-- once the action is entered under the atoms of `rest` too, it is entered under all that it needs
abbrev pub EnteredBut : List AtomSet → List AtomSet → Atoms → Atoms → ℕ → Type 0
EnteredBut old new needs rest action = (p a : ℕ) → p < 64 → a < 64 → (row_at new p a || (eqb a action && rest p)) ≡ (row_at old p a || (eqb a action && needs p))

pub entered_more : (old new : List AtomSet) (needs rest others : Atoms) (action atom : ℕ) (x : AtomSet) → length new ≡ 64 → EnteredBut old new needs rest action → Parted rest atom others → members x ≡ clipped 64 (plus action (row_at new atom)) → EnteredBut old (set new atom x) needs others action
entered_more old new needs rest others action atom x len h d e p a k l = go (cases_eq p atom) ∙ h p a k l
  where
    split : rest p ≡ (eqb p atom || others p)
    split = parted_cases rest others atom d p

    here : p ≡ atom → row_at (set new atom x) p a ≡ (eqb a action || row_at new p a)
    here f =
        let lt : atom < length new = (let b = d.below in omega arith) in
        let g : get_or (set new atom x) atom no_set ≡ x = rw get_or-set_same in
        ap (λ z. row_at (set new atom x) z a) f ∙ (ap (λ z. members z a) g ∙ (ap (λ C. C a) e ∙ (ap (λ b. b && (eqb a action || row_at new atom a)) (lt-ltb a 64 l) ∙ ap (λ z. eqb a action || row_at new z a) (sym f))))

    there : p ≢ atom → row_at (set new atom x) p a ≡ row_at new p a
    there ne = let g : get_or (set new atom x) p no_set ≡ get_or new p no_set = rw get_or-set_other in ap (λ z. members z a) g

    first : (u v w : Bool) → ((u || v) || (u && w)) ≡ (v || (u && true))
    first true true w = refl
    first true false w = refl
    first false true w = refl
    first false false w = refl

    go : (p ≡ atom) ⊎ (p ≢ atom) → (row_at (set new atom x) p a || (eqb a action && others p)) ≡ (row_at new p a || (eqb a action && rest p))
    go (inl f) =
        ap (λ b. b || (eqb a action && others p)) (here f)
        ∙ (first (eqb a action) (row_at new p a) (others p) ∙ ap (λ b. row_at new p a || (eqb a action && b)) (sym (split ∙ ap (λ b. b || others p) (eq-eqb p atom f))))
    go (inr ne) =
        ap (λ b. b || (eqb a action && others p)) (there ne)
        ∙ ap (λ b. row_at new p a || (eqb a action && b)) (sym (split ∙ ap (λ b. b || others p) (ne_eqb p atom ne)))

pub entered_all : (old new : List AtomSet) (needs rest : Atoms) (action : ℕ) → rest ≡ nothing → EnteredBut old new needs rest action → (p a : ℕ) → p < 64 → a < 64 → row_at new p a ≡ (row_at old p a || (eqb a action && needs p))
entered_all old new needs rest action e h p a k l = sym (off (row_at new p a) (eqb a action) (ap (λ C. C p) e)) ∙ h p a k l
  where
    off : (u v : Bool) {w : Bool} → w ≡ false → (u || (v && w)) ≡ u
    off true v f = refl
    off false true f = f
    off false false f = refl

-- the actions below some number entered, each under what it needs
abbrev pub BlockTo : (ℕ → Atoms) → ℕ → List AtomSet → Type 0
BlockTo needs k rows = (p a : ℕ) → p < 64 → a < 64 → row_at rows p a ≡ (ltb a k && needs a p)

pub block_none : (needs : ℕ → Atoms) (rows : List AtomSet) → rows ≡ replicate 64 no_set → BlockTo needs 0 rows
block_none needs rows e p a k l =
    let f : get_or rows p no_set ≡ no_set = ap (λ z. get_or z p no_set) e ∙ get_or-replicate 64 p no_set no_set k in
    ap (λ z. members z a) f ∙ (ap (λ C. C a) bits_none ∙ sym (ap (λ b. b && needs a p) (le-ltb a 0 (omega arith))))

pub block_more : (needs : ℕ → Atoms) (k : ℕ) (old new : List AtomSet) → BlockTo needs k old → ((p a : ℕ) → p < 64 → a < 64 → row_at new p a ≡ (row_at old p a || (eqb a k && needs k p))) → BlockTo needs (k + 1) new
block_more needs k old new h e p a x y = e p a x y ∙ (ap (λ b. b || (eqb a k && needs k p)) (h p a x y) ∙ go (cases_order a k))
  where
    go : (a ≡ k) ⊎ ((a < k) ⊎ (k < a)) → ((ltb a k && needs a p) || (eqb a k && needs k p)) ≡ (ltb a (k + 1) && needs a p)
    go (inl f) = rw (le-ltb a k (omega arith), eq-eqb a k f, lt-ltb a (k + 1) (omega arith)) (ap (λ z. needs z p) (sym f))
    go (inr (inl f)) = rw (lt-ltb a k f, ne_eqb a k (λ g. omega arith), lt-ltb a (k + 1) (omega arith)) (or-false (needs a p))
    go (inr (inr f)) = rw (le-ltb a k (omega arith), ne_eqb a k (λ g. omega arith), le-ltb a (k + 1) (omega arith))

-- the actions that need an atom outside of `rest` are found
abbrev pub FoundBut : (ℕ → Atoms) → Atoms → Atoms → Atoms → Type 0
FoundBut needs atoms rest actions = (a : ℕ) → a < 64 → (actions a || meets 64 rest (needs a)) ≡ meets 64 atoms (needs a)

-- a set meets another in its first atom, or in one of the others
meets_parted : (A B C : Atoms) (p : ℕ) → Parted A p B → meets 64 A C ≡ (C p || meets 64 B C)
meets_parted A B C p d = same_test (meets 64 A C) (C p || meets 64 B C) there back
  where
    there : meets 64 A C ≡ true → (C p || meets 64 B C) ≡ true
    there h = ⊎_elim (λ e. e) (λ e. absurd (true≢false (sym h ∙ meets_none 64 A C (λ q l u v. clash q l u v e)))) (cases_Bool (C p || meets 64 B C))
      where
        clash : (q : ℕ) → q < 64 → A q ≡ true → C q ≡ true → (C p || meets 64 B C) ≡ false → ⊥
        clash q l u v e =
            let f = or_parts (C p) (meets 64 B C) e in
            ⊎_elim (λ g. true≢false (sym v ∙ (ap C (eqb-true q p g) ∙ f.0))) (λ g. true≢false (sym (meets_from 64 B C q l g v) ∙ f.1)) (or_cases (eqb q p) (B q) (sym (parted_cases A B p d q) ∙ u))

    back : (C p || meets 64 B C) ≡ true → meets 64 A C ≡ true
    back h = ⊎_elim (λ e. meets_from 64 A C p d.below d.is_in e) (λ e. ⊎_elim (λ f. f) (λ f. absurd (true≢false (sym e ∙ meets_none 64 B C (λ q l u v. true≢false (sym (meets_from 64 A C q l (parted_cases A B p d q ∙ or_right (eqb q p) (B q) u) v) ∙ f))))) (cases_Bool (meets 64 A C))) (or_cases (C p) (meets 64 B C) h)

pub found_more : (needs : ℕ → Atoms) (atoms rest others actions row more : Atoms) (p : ℕ) → FoundBut needs atoms rest actions → Parted rest p others → ((a : ℕ) → a < 64 → row a ≡ needs a p) → more ≡ joined actions row → FoundBut needs atoms others more
found_more needs atoms rest others actions row more p h d r e a l =
    ap (λ C. C a || meets 64 others (needs a)) e
    ∙ (ap (λ b. (actions a || b) || meets 64 others (needs a)) (r a l)
    ∙ (or_assoc (actions a) (needs a p) (meets 64 others (needs a)) ∙ (ap (λ b. actions a || b) (sym (meets_parted rest others (needs a) p d)) ∙ h a l)))

pub found_all : (needs : ℕ → Atoms) (atoms rest actions : Atoms) → rest ≡ nothing → FoundBut needs atoms rest actions → (a : ℕ) → a < 64 → actions a ≡ meets 64 atoms (needs a)
found_all needs atoms rest actions e h a l =
    let none = meets_none 64 rest (needs a) (λ q k u v. true≢false (sym u ∙ ap (λ C. C q) e)) in
    sym (ap (λ b. actions a || b) none ∙ or-false (actions a)) ∙ h a l
