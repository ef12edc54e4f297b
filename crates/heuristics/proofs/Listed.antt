-- Members of lists, and the numbers they stand at.
use Rattle.std.proofs.Common.{◌≡◌, ℕ, zero, suc, ◌+◌, ◌<◌, Bool, true, false, cond, ◌⊎◌, List, [], ◌∷◌, ◌++◌, map, length, get_or, sym, refl, ap, ◌∙◌, subst, inl, inr, arith, length-append, get_or-append-add}
use mathlib.Core.List.Memᴰ
use mathlib.Core.List.{Memᴰ}
use lib.ListN.{get_or-append}
use Rattle.std.proofs.lemmas.Bool.{true≢false}
use Rattle.heuristics.specs.Compiled.{kept, flat}
use Rattle.heuristics.proofs.Places.{last_or_below}

pub mem_map : {A B : Type 0} (g : A → B) {x : A} {xs : List A} → Memᴰ x xs → Memᴰ (g x) (map g xs)
mem_map g (Memᴰ.head e) = Memᴰ.head (ap g e)
mem_map g (Memᴰ.tail m) = Memᴰ.tail (mem_map g m)

pub map_mem : {A B : Type 0} (g : A → B) (xs : List A) {y : B} → Memᴰ y (map g xs) → (x : A) × Memᴰ x xs × (y ≡ g x)
map_mem g [] m = elim m [ ]
map_mem {A} g (x ∷ xs) {y} m = go (Memᴰ.cases_cons m) (λ k. map_mem g xs k)
  where
    go : (y ≡ g x) ⊎ Memᴰ y (map g xs) → (Memᴰ y (map g xs) → (z : A) × Memᴰ z xs × (y ≡ g z)) → (z : A) × Memᴰ z (x ∷ xs) × (y ≡ g z)
    go (inl e) f = (x, Memᴰ.head refl, e)
    go (inr k) f = let w : (z : A) × Memᴰ z xs × (y ≡ g z) = f k in (w.0, Memᴰ.tail w.1, w.2)

pub mem_kept : {A : Type 0} (p : A → Bool) {x : A} {xs : List A} → Memᴰ x xs → p x ≡ true → Memᴰ x (kept p xs)
unfolding kept
mem_kept {A} p {x} (Memᴰ.head {x = y} {xs = ys} e) t = go (p y) (subst (λ z. p z ≡ true) e t)
  where
    go : (b : Bool) → b ≡ true → Memᴰ x (cond b (y ∷ kept p ys) (kept p ys))
    go true s = Memᴰ.head e
    go false s = absurd (true≢false (sym s))
mem_kept {A} p {x} (Memᴰ.tail {x = y} {xs = ys} m) t = go (p y) (mem_kept p m t)
  where
    go : (b : Bool) → Memᴰ x (kept p ys) → Memᴰ x (cond b (y ∷ kept p ys) (kept p ys))
    go true k = Memᴰ.tail k
    go false k = k

pub kept_holds : {A : Type 0} (p : A → Bool) {x : A} (xs : List A) → Memᴰ x (kept p xs) → p x ≡ true
unfolding kept
kept_holds p [] m = elim m [ ]
kept_holds {A} p {x} (y ∷ ys) m = go (p y) refl (λ k. kept_holds p ys k) m
  where
    go : (b : Bool) → p y ≡ b → (Memᴰ x (kept p ys) → p x ≡ true) → Memᴰ x (cond b (y ∷ kept p ys) (kept p ys)) → p x ≡ true
    go true e f k = pick (Memᴰ.cases_cons k)
      where
        pick : (x ≡ y) ⊎ Memᴰ x (kept p ys) → p x ≡ true
        pick (inl q) = ap p q ∙ e
        pick (inr q) = f q
    go false e f k = f k

pub flat_mem : {A : Type 0} (k : ℕ) (g : ℕ → List A) {y : A} → Memᴰ y (flat k g) → (a : ℕ) × (a < k) × Memᴰ y (g a)
unfolding flat
flat_mem zero g m = elim m [ ]
flat_mem {A} (suc k) g {y} m = go (Memᴰ.append_cases (flat k g) m) (λ l. flat_mem k g l)
  where
    go : Memᴰ y (flat k g) ⊎ Memᴰ y (g k) → (Memᴰ y (flat k g) → (a : ℕ) × (a < k) × Memᴰ y (g a)) → (a : ℕ) × (a < suc k) × Memᴰ y (g a)
    go (inl l) f = let w : (a : ℕ) × (a < k) × Memᴰ y (g a) = f l in (w.0, (let h : w.0 < k = w.1 in omega arith), w.2)
    go (inr l) f = (k, omega arith, l)

pub mem_getD : {A : Type 0} (xs : List A) (i : ℕ) (d : A) → i < length xs → Memᴰ (get_or xs i d) xs
mem_getD [] i d l = absurd (omega arith)
mem_getD (x ∷ xs) zero d l = Memᴰ.head refl
mem_getD (x ∷ xs) (suc i) d l = Memᴰ.tail (mem_getD xs i d (omega arith))

pub mem_at : {A : Type 0} (d : A) {x : A} {xs : List A} → Memᴰ x xs → (i : ℕ) × (i < length xs) × (get_or xs i d ≡ x)
mem_at d (Memᴰ.head e) = (0, omega arith, sym e)
mem_at {A} d {x} (Memᴰ.tail {x = y} {xs = ys} m) =
    let w : (i : ℕ) × (i < length ys) × (get_or ys i d ≡ x) = mem_at d m in
    (suc w.0, (let h : w.0 < length ys = w.1 in omega arith), w.2)

-- the place of the list f a within the lists one after another
pub flat_at : {A : Type 0} (k : ℕ) (f : ℕ → List A) (d : A) (a j : ℕ) → a < k → j < length (f a) → (length (flat a f) + j < length (flat k f)) × (get_or (flat k f) (length (flat a f) + j) d ≡ get_or (f a) j d)
unfolding flat
flat_at zero f d a j l h = absurd (omega arith)
flat_at (suc k) f d a j l h = go (last_or_below a k l) (λ q. flat_at k f d a j q h)
  where
    go : (a < k) ⊎ (a ≡ k) → (a < k → (length (flat a f) + j < length (flat k f)) × (get_or (flat k f) (length (flat a f) + j) d ≡ get_or (f a) j d)) → (length (flat a f) + j < length (flat k f ++ f k)) × (get_or (flat k f ++ f k) (length (flat a f) + j) d ≡ get_or (f a) j d)
    go (inl q) ih = let p : length (flat a f) + j < length (flat k f) = (ih q).0 in (rw length-append (omega arith), get_or-append (flat k f) (f k) d (length (flat a f) + j) p ∙ (ih q).1)
    go (inr q) ih = (
      rw length-append (let e : length (f a) ≡ length (f k) = ap (λ b. length (f b)) q in let g : length (flat a f) ≡ length (flat k f) = ap (λ b. length (flat b f)) q in omega arith),
      ap (λ b. get_or (flat k f ++ f k) (length (flat b f) + j) d) q ∙ (get_or-append-add (flat k f) (f k) j d ∙ ap (λ b. get_or (f b) j d) (sym q)),
    )
