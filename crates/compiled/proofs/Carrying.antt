-- The compiled task's actions, one task action after another.
use Rattle.std.proofs.Common.{fold, sum_by, ◌*◌, ◌≡◌, ℕ, zero, suc, ◌+◌, ◌-◌, ◌<◌, ◌≤◌, Bool, true, false, cond, not, ◌&&◌, ◌||◌, ltb, Some, List, [], ◌∷◌, ◌++◌, map, length, get_or, sym, refl, ap, ◌∙◌, subst, ⊎_elim, true≢false, add-one, arith, length-append, get_or-append-add, ltb-true, lt-ltb}
use Rattle.std.specs.List.{range_with_len}
use mathlib.Core.List.{map-append}
use lib.ListN.{length-map, get_or-append}
use Rattle.std.proofs.lemmas.List.{get_or-map}
use Rattle.std.proofs.lemmas.List.FromFn.{sum_by-map-range_with_len_more}
use Rattle.std.proofs.lemmas.Bool.{cases_lt, and_parts}
use Rattle.strips.specs.Sets.{Atoms, nothing, plus, joined, without, first, clipped, meets, Within}
use Rattle.strips.specs.Task.{Action, Task, Sound, no_action}
use Rattle.strips.specs.Bits.{members}
use Rattle.strips.specs.Rows.{row_action, clipped_action}
use Rattle.strips.specs.declared.row.Row.{Row}
use Rattle.strips.proofs.Members.{clipped_within}
use Rattle.strips.proofs.Binary.{meets_none}
use Rattle.heuristics.specs.Smalls.{sized, smalls}
use Rattle.bounds.specs.Orders.{size_of}
use Rattle.bounds.specs.declared.order.Order.{Order}
use Rattle.bounds.specs.declared.order.Order.TheVariants.{One, Two}
use Rattle.heuristics.specs.Compiled.{kept, flat, carrying, cargo, carriers, all_carriers}
use Rattle.compiled.specs.Decoded.{rising, extras, cargo_set}
use Rattle.compiled.proofs.Numbering.{put_one}
use Rattle.compiled.proofs.Scoped.{one, meets_one}
use Rattle.compiled.proofs.Rising.{AtomAt, rising_none, rising_within}

-- WHAT AN ACTION TAKES ALONG ------------------------------------------------

meets_nothing : (n : ℕ) (A : Atoms) → meets n nothing A ≡ false
meets_nothing n A = meets_none n nothing A (λ p l a b. true≢false (sym a))

-- what is neither added nor removed
abbrev apart : ℕ → Action → Atoms → Bool
apart n a f = not (meets n f a.adds) && not (meets n f a.removes)

abbrev touched : Action → Atoms
touched a = joined a.adds a.removes

apart_single : (n k : ℕ) (a : Action) → k < n → apart n a (one k) ≡ not (touched a k)
apart_single n k a h = rw (meets_one n k a.adds h, meets_one n k a.removes h) (neither (a.adds k) (a.removes k))
  where
    neither : (x y : Bool) → (not x && not y) ≡ not (x || y)
    neither true y = refl
    neither false y = refl

apart_nothing : (n : ℕ) (a : Action) → apart n a nothing ≡ true
apart_nothing n a = rw (meets_nothing n a.adds, meets_nothing n a.removes)

kept_append : {A : Type 0} (p : A → Bool) (xs ys : List A) → kept p (xs ++ ys) ≡ kept p xs ++ kept p ys
unfolding kept
kept_append p [] ys = refl
kept_append {A} p (x ∷ xs) ys = go (p x) (kept_append p xs ys)
  where
    go : (b : Bool) → kept p (xs ++ ys) ≡ kept p xs ++ kept p ys → cond b (x ∷ kept p (xs ++ ys)) (kept p (xs ++ ys)) ≡ cond b (x ∷ kept p xs) (kept p xs) ++ kept p ys
    go true h = ap (λ zs. x ∷ zs) h
    go false h = h

kept_singles : (n k : ℕ) (a : Action) → k ≤ n → kept (apart n a) (sized k 1) ≡ map one (rising k (extras Two n (touched a)))
unfolding kept sized rising
kept_singles n zero a h = refl
kept_singles n (suc k) a h =
    kept_append (apart n a) (sized k 1) (one k ∷ [])
    ∙ (ap (λ zs. zs ++ kept (apart n a) (one k ∷ [])) (kept_singles n k a (omega arith))
    ∙ (ap (λ b. map one (rising k E) ++ cond b (one k ∷ []) []) (apart_single n k a h ∙ ap (λ b. b && not (touched a k)) (sym (lt-ltb k n h)))
    ∙ (last (E k) ∙ sym (map-append one (rising k E) (cond (E k) (k ∷ []) [])))))
  where
    E : Atoms
    E = extras Two n (touched a)

    last : (b : Bool) → map one (rising k E) ++ cond b (one k ∷ []) [] ≡ map one (rising k E) ++ map one (cond b (k ∷ []) [])
    last true = refl
    last false = refl

cargo_list : (o : Order) (n : ℕ) (a : Action) → cargo n (size_of o) a ≡ nothing ∷ map one (rising n (extras o n (touched a)))
unfolding kept smalls
cargo_list One n a = rw (apart_nothing n a) (ap (λ zs. nothing ∷ map one zs) (sym (rising_none n nothing (λ q l. refl))))
cargo_list Two n a = rw (apart_nothing n a) (ap (λ zs. nothing ∷ zs) (kept_singles n n a (omega arith)))

pub carriers_length : (o : Order) (t : Task) (a : ℕ) → length (carriers (size_of o) t a) ≡ suc (length (rising t.atoms (extras o t.atoms (touched (t.action a)))))
carriers_length o t a =
    length-map (cargo t.atoms (size_of o) (t.action a)) (carrying t.atoms (size_of o) (t.action a))
    ∙ (ap length (cargo_list o t.atoms (t.action a)) ∙ ap suc (length-map (rising t.atoms (extras o t.atoms (touched (t.action a)))) one))

pub carriers_at : (o : Order) (t : Task) (a j : ℕ) → j ≤ length (rising t.atoms (extras o t.atoms (touched (t.action a)))) →
    get_or (carriers (size_of o) t a) j no_action ≡ carrying t.atoms (size_of o) (t.action a) (cargo_set (rising t.atoms (extras o t.atoms (touched (t.action a)))) j)
carriers_at o t a j h = ap (λ zs. get_or (map C zs) j no_action) (cargo_list o t.atoms (t.action a)) ∙ go j h
  where
    xs : List ℕ
    xs = rising t.atoms (extras o t.atoms (touched (t.action a)))

    C : Atoms → Action
    C = carrying t.atoms (size_of o) (t.action a)

    go : (j : ℕ) → j ≤ length xs → get_or (map C (nothing ∷ map one xs)) j no_action ≡ C (cargo_set xs j)
    go zero h = refl
    go (suc i) h = get_or-map C (map one xs) i nothing no_action (rw length-map (omega arith)) ∙ ap C (get_or-map one xs i 0 nothing (omega arith))

-- what the action a of a task can take along
abbrev pub extras_of : Order → Task → ℕ → List ℕ
extras_of o t a = rising 64 (extras o t.atoms (joined (t.action a).adds (t.action a).removes))

-- in a small task these are all that there are
extras_whole : (o : Order) (t : Task) → t.atoms ≤ 64 → (a : ℕ) → rising t.atoms (extras o t.atoms (touched (t.action a))) ≡ extras_of o t a
extras_whole One t h a = rising_none t.atoms nothing (λ q l. refl) ∙ sym (rising_none 64 nothing (λ q l. refl))
extras_whole Two t h a = sym (rising_within t.atoms 64 (extras Two t.atoms (touched (t.action a))) (λ p e. ltb-true p t.atoms (and_parts (ltb p t.atoms) (not (touched (t.action a) p)) e).0) h)

length_small : (o : Order) (t : Task) → t.atoms ≤ 64 → (a : ℕ) → length (carriers (size_of o) t a) ≡ suc (length (extras_of o t a))
length_small o t h a = carriers_length o t a ∙ ap (λ xs. suc (length xs)) (extras_whole o t h a)

at_small : (o : Order) (t : Task) → t.atoms ≤ 64 → (a j : ℕ) → j ≤ length (extras_of o t a) →
    get_or (carriers (size_of o) t a) j no_action ≡ carrying t.atoms (size_of o) (t.action a) (cargo_set (extras_of o t a) j)
at_small o t k a j h =
    subst (λ xs. j ≤ length xs → get_or (carriers (size_of o) t a) j no_action ≡ carrying t.atoms (size_of o) (t.action a) (cargo_set xs j)) (extras_whole o t k a) (carriers_at o t a j) h

-- ONE ACTION AFTER ANOTHER --------------------------------------------------

pub flat_length : {A : Type 0} (k : ℕ) (f : ℕ → List A) → length (flat (k + 1) f) ≡ length (flat k f) + length (f k)
unfolding flat
flat_length k f = rw (add-one k) (length-append (flat k f) (f k))

pub flat_at : {A : Type 0} (k a j : ℕ) (f : ℕ → List A) (d : A) → a < k → j < length (f a) →
    (length (flat a f) + j < length (flat k f)) × (get_or (flat k f) (length (flat a f) + j) d ≡ get_or (f a) j d)
unfolding flat
flat_at zero a j f d h l = let z : ⊥ = omega arith in absurd z
flat_at (suc k) a j f d h l =
    ⊎_elim
    (λ (q : a < k).
    let r = flat_at k a j f d q l in
    let s = length-append (flat k f) (f k) in
    (omega arith, get_or-append (flat k f) (f k) d (length (flat a f) + j) r.0 ∙ r.1))
    (λ (q : k ≤ a).
    let e : k ≡ a = omega arith in
    subst (λ z. j < length (f z) → (length (flat z f) + j < length (flat k f ++ f k)) × (get_or (flat k f ++ f k) (length (flat z f) + j) d ≡ get_or (f z) j d)) e
    (λ w. (let s = length-append (flat k f) (f k) in omega arith, get_or-append-add (flat k f) (f k) j d))
    l)
    (cases_lt a k)

-- ROWS ----------------------------------------------------------------------

-- a small task's rows have all of its actions' atoms
pub row_same : (t : Task) → Sound t → t.atoms ≤ 64 → (a : ℕ) (r : Row) → row_action r ≡ clipped_action 64 (t.action a) → row_action r ≡ t.action a
row_same t s h a r e = e ∙ whole
  where
    wider : (A : Atoms) → Within t.atoms A → Within 64 A
    wider A w p u = let k = w p u in omega arith

    whole : clipped_action 64 (t.action a) ≡ t.action a
    whole = λ i. record {
      needs = clipped_within 64 (t.action a).needs (wider (t.action a).needs (s.each a).needs_in) i;
      adds = clipped_within 64 (t.action a).adds (wider (t.action a).adds (s.each a).adds_in) i;
      removes = clipped_within 64 (t.action a).removes (wider (t.action a).removes (s.each a).removes_in) i;
      cost = (t.action a).cost;
    }

-- the atoms below n that are not touched
pub first_without : (n : ℕ) (A F : Atoms) → n ≤ 64 → F ≡ clipped 64 (first n) → without F A ≡ without (first n) A
first_without n A F h e = ap (λ B. without B A) (e ∙ clipped_within 64 (first n) (λ p u. let l = ltb-true p n u in omega arith))

-- what an action can take along, as its row tells
pub extras_same : (o : Order) (t : Task) → Sound t → t.atoms ≤ 64 → (a : ℕ) (r : Row) (E : Atoms) → row_action r ≡ clipped_action 64 (t.action a) →
    E ≡ extras o t.atoms (joined (members r.adds) (members r.removes)) → rising 64 E ≡ extras_of o t a
extras_same o t s h a r E e f = ap (rising 64) (f ∙ ap (λ b. extras o t.atoms (joined b.adds b.removes)) (row_same t s h a r e))

-- how far one action's carriers reach
pub carriers_reach : (o : Order) (t : Task) → t.atoms ≤ 64 → (a : ℕ) → length (flat (a + 1) (carriers (size_of o) t)) ≡ length (flat a (carriers (size_of o) t)) + suc (length (extras_of o t a))
carriers_reach o t h a = flat_length a (carriers (size_of o) t) ∙ ap (λ z. length (flat a (carriers (size_of o) t)) + z) (length_small o t h a)

pub carrier_found : (o : Order) (t : Task) → Sound t → t.atoms ≤ 64 → (a place i : ℕ) (r : Row) (F : Atoms) → a < t.actions → row_action r ≡ clipped_action 64 (t.action a) →
    place ≤ length (extras_of o t a) → F ≡ cargo_set (extras_of o t a) place → length (flat a (carriers (size_of o) t)) + place ≡ i →
    (i < length (all_carriers (size_of o) t)) × (get_or (all_carriers (size_of o) t) i no_action ≡ carrying t.atoms (size_of o) (row_action r) F)
carrier_found o t s h a place i r F l e k g j =
    subst (λ z. (z < length (all_carriers (size_of o) t)) × (get_or (all_carriers (size_of o) t) z no_action ≡ carrying t.atoms (size_of o) (row_action r) F)) j
    (found.0, found.1 ∙ (at_small o t h a place k ∙ (ap (carrying t.atoms (size_of o) (t.action a)) (sym g) ∙ ap (λ b. carrying t.atoms (size_of o) b F) (sym (row_same t s h a r e)))))
  where
    found : (length (flat a (carriers (size_of o) t)) + place < length (all_carriers (size_of o) t)) × (get_or (all_carriers (size_of o) t) (length (flat a (carriers (size_of o) t)) + place) no_action ≡ get_or (carriers (size_of o) t a) place no_action)
    found = flat_at t.actions a place (carriers (size_of o) t) no_action l (let w = length_small o t h a in omega arith)

-- an atom is taken along at the place after its own
pub cargo_found : (xs : List ℕ) (place p : ℕ) (S : Atoms) → (place ≡ 0 → ⊥) → AtomAt xs (place - 1) (Some p) → S ≡ clipped 64 (plus p nothing) → (place ≤ length xs) × (S ≡ cargo_set xs place)
cargo_found xs zero p S z e s = absurd (z refl)
cargo_found xs (suc j) p S z (l, e, f) s =
    let d : suc j - 1 ≡ j = omega arith in
    (omega arith, put_one p nothing S f refl s ∙ ap (λ q. plus q nothing) (sym e ∙ ap (λ i. get_or xs i 0) d))

-- A SUM OVER THE ACTIONS ----------------------------------------------------

sum_map : (h : ℕ → ℕ) (n : ℕ) (xs : List ℕ) → fold (λ s x. s + x) n (map h xs) ≡ fold (λ s x. s + h x) n xs
sum_map h n [] = refl
sum_map h n (x ∷ xs) = sum_map h (n + h x) xs

sum_more : (h : ℕ → ℕ) (k : ℕ) → sum_by h (range_with_len 0 (k + 1)) ≡ sum_by h (range_with_len 0 k) + h k
sum_more h k = sym (sum_map h 0 (range_with_len 0 (k + 1))) ∙ sum_by-map-range_with_len_more (λ x. x) h 0 k k (omega arith) ∙ ap (λ z. z + h k) (sum_map h 0 (range_with_len 0 k))

-- how many actions the first k come to
pub carriers_sum : (o : Order) (t : Task) → t.atoms ≤ 64 → (k : ℕ) → sum_by (λ a. length (extras_of o t a) + 1) (range_with_len 0 k) ≡ length (flat k (carriers (size_of o) t))
unfolding flat
carriers_sum o t n zero = refl
carriers_sum o t n (suc k) =
    let h = carriers_sum o t n k in
    let r = carriers_reach o t n k in
    let s = sum_more (λ a. length (extras_of o t a) + 1) k in
    let a = ap (λ j. sum_by (λ a. length (extras_of o t a) + 1) (range_with_len 0 j)) (add-one k) in
    let b = ap (λ j. length (flat j (carriers (size_of o) t))) (add-one k) in
    omega arith

rising_few : (n : ℕ) (A : Atoms) → length (rising n A) ≤ n
unfolding rising
rising_few zero A = omega arith
rising_few (suc n) A = go (A n) (rising_few n A)
  where
    go : (b : Bool) → length (rising n A) ≤ n → length (rising n A ++ cond b (n ∷ []) []) ≤ suc n
    go true h = let l = length-append (rising n A) (n ∷ []) in omega arith
    go false h = let l = length-append {A = ℕ} (rising n A) [] in omega arith

pub carriers_few : (o : Order) (t : Task) → t.atoms ≤ 64 → (k : ℕ) → length (flat k (carriers (size_of o) t)) ≤ 65 * k
unfolding flat
carriers_few o t n zero = omega arith
carriers_few o t n (suc k) =
    let h = carriers_few o t n k in
    let r = carriers_reach o t n k in
    let l : length (extras_of o t k) ≤ 64 = rising_few 64 _ in
    let b = ap (λ j. length (flat j (carriers (size_of o) t))) (add-one k) in
    omega arith

pub one_more : (o : Order) (t : Task) → Sound t → t.atoms ≤ 64 → (a : ℕ) (r : Row) (E : Atoms) (n m : ℕ) → row_action r ≡ clipped_action 64 (t.action a) →
    E ≡ extras o t.atoms (joined (members r.adds) (members r.removes)) → n ≡ length (rising 64 E) → m ≡ n + 1 → m ≡ length (extras_of o t a) + 1
one_more o t s h a r E n m e f g i = i ∙ ap (λ z. z + 1) (g ∙ ap length (extras_same o t s h a r E e f))
