-- What the writer leaves in the buffer.
use Rattle.std.proofs.Common.{◌≡◌, ℕ, zero, suc, ◌+◌, ◌-◌, ◌*◌, ◌/◌, ◌%◌, ◌^◌, ◌<◌, ◌≤◌, eqb, List, [], ◌∷◌, ◌++◌, map, length, get_or, take, drop, set, Option, sym, refl, ap, ◌∙◌, subst, ⊎_elim, append_assoc, mod-eq_of_lt, div-one, add-one, arith, length-append}
use native.Mathlib.Nat.{pow-succ'}
use lib.Arith.{mod-mul}
use borrow.Rule.Slice.PartMut.{put_mid}
use Rattle.std.proofs.lemmas.List.{take-append-drop, take_at, drop_at, drop-drop, length-take-le, set_split, flat_map_more}
use Rattle.std.proofs.lemmas.Nat.{div-mul-add, mod-mul-add, mod_below}
use Rattle.std.proofs.lemmas.Bool.{cases_Bool}
use Rattle.std.specs.List.{range_with_len, flat_map, fold, sum_by}
use Rattle.std.proofs.lemmas.List.Concat.{length-flat_map}
use Rattle.std.proofs.lemmas.List.FromFn.{map-range_with_len_more, take-map-range_with_len}
use Rattle.taskfile.specs.Content.{Entry}
use Rattle.strips.specs.Sets.{Atoms, clipped}
use Rattle.strips.specs.Task.{Action, Task}
use Rattle.strips.specs.Bits.{members, number}
use Rattle.strips.specs.Rows.{row_action, clipped_action}
use Rattle.strips.specs.declared.atoms.AtomSet.{AtomSet}
use Rattle.strips.specs.declared.row.Row.{Row}
use Rattle.taskfile.specs.Content.{Content, entry_of}
use Rattle.taskfile.specs.Format.{high_first, unless, flag, entry_map, entry_bytes, content_map, content_bytes}
use Rattle.taskfile.specs.Writing.{field_of, bytes_in, bit_in, written}
use Rattle.taskfile.proofs.Contents.{number_clipped}
use Rattle.taskfile.proofs.Strict.{pow_256, length_high_first}

-- BYTES OF A NUMBER ---------------------------------------------------------

digits : ℕ → ℕ → List ℕ
digits zero v = []
digits (suc w) v = v / 256 ^ w % 256 ∷ digits w v

high_digits : (w v : ℕ) → high_first w (v % 256 ^ w) ≡ digits w v
unfolding high_first digits
high_digits zero v = refl
high_digits (suc w) v =
    let e : v % 256 ^ suc w ≡ (v / 256 ^ w % 256) * 256 ^ w + v % 256 ^ w = rw pow-succ' (mod-mul v (omega arith) (pow_256 w)) in
    let l : v % 256 ^ w < 256 ^ w = mod_below v (256 ^ w) (pow_256 w) in
    rw (e, div-mul-add (v / 256 ^ w % 256) (256 ^ w) (v % 256 ^ w) l, mod-mul-add (v / 256 ^ w % 256) (256 ^ w) (v % 256 ^ w) l, high_digits w v) refl

pub eight_bytes : (v : ℕ) → v < 2 ^ 64 → (v / 72057594037927936 % 256) ∷ (v / 281474976710656 % 256) ∷ (v / 1099511627776 % 256) ∷ (v / 4294967296 % 256) ∷ (v / 16777216 % 256) ∷ (v / 65536 % 256) ∷ (v / 256 % 256) ∷ (v % 256) ∷ [] ≡ high_first 8 v
unfolding digits
eight_bytes v h =
    let m : v % 256 ^ 8 ≡ v = mod-eq_of_lt h in
    let d : high_first 8 v ≡ digits 8 v = rw m at (high_digits 8 v) in
    sym (d ∙ ap (λ x. (v / 72057594037927936 % 256) ∷ (v / 281474976710656 % 256) ∷ (v / 1099511627776 % 256) ∷ (v / 4294967296 % 256) ∷ (v / 16777216 % 256) ∷ (v / 65536 % 256) ∷ (v / 256 % 256) ∷ (x % 256) ∷ []) (div-one v))

pub two_bytes : (v : ℕ) → v < 65536 → (v / 256 % 256) ∷ (v % 256) ∷ [] ≡ high_first 2 v
unfolding digits
two_bytes v h =
    let m : v % 256 ^ 2 ≡ v = mod-eq_of_lt h in
    let d : high_first 2 v ≡ digits 2 v = rw m at (high_digits 2 v) in
    sym (d ∙ ap (λ x. (v / 256 % 256) ∷ (x % 256) ∷ []) (div-one v))

-- WRITING -------------------------------------------------------------------

pub written_part : (o : List ℕ) (at k : ℕ) (x y : List ℕ) → length y ≡ k → x ≡ y → put_mid at (at + k - at) o x ≡ written o at y
unfolding written
written_part o at k x y l e =
    ap (λ z. take at o ++ (z ++ drop (at + k - at) (drop at o))) e
    ∙ ap (λ z. take at o ++ (y ++ z)) (drop-drop (at + k - at) at o ∙ ap (λ j. drop j o) (omega arith))

pub written_none : (o : List ℕ) (at : ℕ) → o ≡ written o at []
unfolding written
written_none o at = sym (ap (λ j. take at o ++ drop j o) (omega arith) ∙ take-append-drop at o)

written_one : (o : List ℕ) (at b : ℕ) → at < length o → set o at b ≡ written o at (b ∷ [])
unfolding written
written_one o at b h = let e : suc at ≡ at + 1 = omega arith in set_split o at b h ∙ ap (λ j. take at o ++ (b ∷ drop j o)) e

written_more : (o : List ℕ) (at : ℕ) (x y : List ℕ) → at + length x ≤ length o → written (written o at x) (at + length x) y ≡ written o at (x ++ y)
unfolding written
written_more o at x y h =
    let l : length (take at o) ≡ at = length-take-le at o (omega arith) in
    let rest : List ℕ = drop (at + length x) o in
    let front : List ℕ = take at o ++ x in
    let n : length front ≡ at + length x = length-append (take at o) x ∙ ap (λ j. j + length x) l in
    let whole : take at o ++ (x ++ rest) ≡ front ++ rest = sym (append_assoc (take at o) x rest) in
    let t : take (at + length x) (take at o ++ (x ++ rest)) ≡ front = ap (λ z. take (at + length x) z) whole ∙ take_at front rest _ n in
    let d : drop (at + length x + length y) (take at o ++ (x ++ rest)) ≡ drop (at + length (x ++ y)) o =
    sym (drop-drop (length y) (at + length x) (take at o ++ (x ++ rest)))
    ∙ ap (λ z. drop (length y) z) (ap (λ z. drop (at + length x) z) whole ∙ drop_at front rest _ n)
    ∙ drop-drop (length y) (at + length x) o ∙ ap (λ j. drop j o) (omega (arith, length-append x y)) in
    ap (λ z. z ++ (y ++ drop (at + length x + length y) (take at o ++ (x ++ rest)))) t
    ∙ ap (λ z. front ++ (y ++ z)) d
    ∙ append_assoc (take at o) x (y ++ drop (at + length (x ++ y)) o)
    ∙ ap (λ z. take at o ++ z) (sym (append_assoc x y (drop (at + length (x ++ y)) o)))

-- one piece after another
pub then_written : (o p q : List ℕ) (at at' : ℕ) (x y : List ℕ) → p ≡ written o at x → at' ≡ at + length x → q ≡ written p at' y → at + length x ≤ length o → q ≡ written o at (x ++ y)
then_written o p q at at' x y e a f h = f ∙ ap (λ z. written z at' y) e ∙ ap (λ z. written (written o at x) z y) a ∙ written_more o at x y h

-- PIECES --------------------------------------------------------------------

pub length_unless : (z w v : ℕ) → length (unless z w v) ≤ w
length_unless z w v = ⊎_elim (λ e. rw e (omega arith)) (λ e. rw e (rw length_high_first (omega arith))) (cases_Bool (eqb v z))

pub length_entry : (r : Entry) → length (entry_bytes r) ≡ 1 + (length (unless 0 8 r.needs) + (length (unless 0 8 r.adds) + (length (unless 0 8 r.removes) + length (unless 1 2 r.cost))))
unfolding entry_bytes
length_entry r = rw (length-append, length-append, length-append) (omega arith)

flat : (a b c d : List ℕ) → ((a ++ b) ++ c) ++ d ≡ a ++ (b ++ (c ++ d))
flat a b c d = simp append_assoc

flat5 : (a b c d e : List ℕ) → (((a ++ b) ++ c) ++ d) ++ e ≡ a ++ (b ++ (c ++ (d ++ e)))
flat5 a b c d e = simp append_assoc

-- a field that a value has
pub field_bytes : (z w v : ℕ) (f : Option (List ℕ)) → f ≡ field_of z w v → bytes_in f ≡ unless z w v
field_bytes z w v f e = ap bytes_in e ∙ ⊎_elim (λ t. rw t refl) (λ t. rw t refl) (cases_Bool (eqb v z))

pub field_flag : (z w v : ℕ) (f : Option (List ℕ)) → f ≡ field_of z w v → bit_in f ≡ flag z v
field_flag z w v f e = ap bit_in e ∙ ⊎_elim (λ t. rw t refl) (λ t. rw t refl) (cases_Bool (eqb v z))

pub field_length : (z w v : ℕ) (f : Option (List ℕ)) → f ≡ field_of z w v → length (bytes_in f) ≡ length (unless z w v)
field_length z w v f e = ap length (field_bytes z w v f e)

-- a record, piece by piece
pub entry_written : (o : List ℕ) (at : ℕ) (r : Entry) (m : ℕ) (ns ds rs cs o2 o3 o4 o5 : List ℕ) (a2 a3 a4 : ℕ)
    → m ≡ entry_map r → ns ≡ unless 0 8 r.needs → ds ≡ unless 0 8 r.adds → rs ≡ unless 0 8 r.removes → cs ≡ unless 1 2 r.cost
    → at + length (entry_bytes r) ≤ length o
    → o2 ≡ written (set o at m) (at + 1) ns → a2 ≡ at + 1 + length ns
    → o3 ≡ written o2 a2 ds → a3 ≡ a2 + length ds
    → o4 ≡ written o3 a3 rs → a4 ≡ a3 + length rs
    → o5 ≡ written o4 a4 cs → o5 ≡ written o at (entry_bytes r)
unfolding entry_bytes
entry_written o at r m ns ds rs cs o2 o3 o4 o5 a2 a3 a4 em en ed er ec h e2 s2 e3 s3 e4 s4 e5 =
    let l = length_entry r in
    let kn = ap length en in
    let kd = ap length ed in
    let kr = ap length er in
    let kc = ap length ec in
    let w1 : set o at m ≡ written o at (m ∷ []) = written_one o at m (omega arith) in
    let w2 : o2 ≡ written o at ((m ∷ []) ++ ns) = then_written o (set o at m) o2 at (at + 1) (m ∷ []) ns w1 (omega arith) e2 (omega arith) in
    let l2 = length-append (m ∷ []) ns in
    let w3 : o3 ≡ written o at (((m ∷ []) ++ ns) ++ ds) = then_written o o2 o3 at a2 ((m ∷ []) ++ ns) ds w2 (omega arith) e3 (omega arith) in
    let l3 = length-append ((m ∷ []) ++ ns) ds in
    let w4 : o4 ≡ written o at ((((m ∷ []) ++ ns) ++ ds) ++ rs) = then_written o o3 o4 at a3 (((m ∷ []) ++ ns) ++ ds) rs w3 (omega arith) e4 (omega arith) in
    let l4 = length-append (((m ∷ []) ++ ns) ++ ds) rs in
    let w5 : o5 ≡ written o at (((((m ∷ []) ++ ns) ++ ds) ++ rs) ++ cs) = then_written o o4 o5 at a4 ((((m ∷ []) ++ ns) ++ ds) ++ rs) cs w4 (omega arith) e5 (omega arith) in
    w5 ∙ ap (λ x. written o at (m ∷ x)) (flat ns ds rs cs) ∙ λ i. written o at (em i ∷ (en i ++ (ed i ++ (er i ++ ec i))))

-- the records of the first i actions
abbrev pub front : Task → ℕ → List ℕ
front t i = flat_map entry_bytes (map (λ a. entry_of (t.action a)) (range_with_len 0 i))

front_more : (t : Task) (i : ℕ) → front t (i + 1) ≡ front t i ++ entry_bytes (entry_of (t.action i))
front_more t i =
    ap (flat_map entry_bytes) (map-range_with_len_more (λ a. entry_of (t.action a)) 0 i i (omega arith))
    ∙ sym (flat_map_more entry_bytes [] (map (λ a. entry_of (t.action a)) (range_with_len 0 i)) (entry_of (t.action i)))

joined_part : (entries : List Entry) (i : ℕ) → length (flat_map entry_bytes (take i entries)) ≤ length (flat_map entry_bytes entries)
joined_part entries zero = omega arith
joined_part [] (suc i) = omega arith
joined_part (e ∷ entries) (suc i) = let h = joined_part entries i in rw (length-append, length-append) (omega arith)

pub front_part : (t : Task) (i k : ℕ) → i ≤ k → length (front t i) ≤ length (front t k)
front_part t i k l =
    subst (λ x. length (flat_map entry_bytes x) ≤ length (front t k)) (take-map-range_with_len (λ a. entry_of (t.action a)) 0 k i l) (joined_part (map (λ a. entry_of (t.action a)) (range_with_len 0 k)) i)

entry_small : (e : Entry) → length (entry_bytes e) ≤ 27
entry_small e = omega (arith, length_entry e, length_unless 0 8 e.needs, length_unless 0 8 e.adds, length_unless 0 8 e.removes, length_unless 1 2 e.cost)

pub front_small : (t : Task) (i : ℕ) → length (front t i) ≤ 27 * i
front_small t zero = omega arith
front_small t (suc i) =
    let h = front_small t i in
    let k = entry_small (entry_of (t.action i)) in
    let e : length (front t (i + 1)) ≡ length (front t i) + length (entry_bytes (entry_of (t.action i))) = ap length (front_more t i) ∙ length-append (front t i) (entry_bytes (entry_of (t.action i))) in
    let n = ap (λ j. length (front t j)) (add-one i) in
    omega arith

sum_map : {X Y : Type 0} (h : Y → ℕ) (f : X → Y) (n : ℕ) (xs : List X) → fold (λ a y. a + h y) n (map f xs) ≡ fold (λ a x. a + h (f x)) n xs
sum_map h f n [] = refl
sum_map h f n (x ∷ xs) = sum_map h f (n + h (f x)) xs

pub front_sum : (t : Task) (i : ℕ) → sum_by (λ a. length (entry_bytes (entry_of (t.action a)))) (range_with_len 0 i) ≡ length (front t i)
front_sum t i =
    sym (length-flat_map entry_bytes (map (λ a. entry_of (t.action a)) (range_with_len 0 i)) ∙ sum_map (λ e. length (entry_bytes e)) (λ a. entry_of (t.action a)) 0 (range_with_len 0 i))

-- the record of a row that the task answers
row_entry : (r : Row) (a : Action) → row_action r ≡ clipped_action 64 a → entry_of (row_action r) ≡ entry_of a
row_entry r a e = ap entry_of e ∙ λ i. record { needs = number_clipped a.needs i; adds = number_clipped a.adds i; removes = number_clipped a.removes i; cost = a.cost }

pub row_bytes : (a : Action) (r : Row) (n : ℕ) → n ≡ length (entry_bytes (entry_of (row_action r))) → row_action r ≡ clipped_action 64 a → n ≡ length (entry_bytes (entry_of a))
row_bytes a r n e h = e ∙ ap (λ x. length (entry_bytes x)) (row_entry r a h)

pub row_front : (t : Task) (i : ℕ) (r : Row) → row_action r ≡ clipped_action 64 (t.action i) → front t i ++ entry_bytes (entry_of (row_action r)) ≡ front t (i + 1)
row_front t i r e = ap (λ x. front t i ++ entry_bytes x) (row_entry r (t.action i) e) ∙ sym (front_more t i)

pub row_length : (t : Task) (i : ℕ) (r : Row) → row_action r ≡ clipped_action 64 (t.action i) → length (front t i) + length (entry_bytes (entry_of (row_action r))) ≡ length (front t (i + 1))
row_length t i r e = sym (length-append (front t i) (entry_bytes (entry_of (row_action r)))) ∙ ap length (row_front t i r e)

-- the number of a set that the task answers
pub set_number : (s : AtomSet) (A : Atoms) → members s ≡ clipped 64 A → number 64 (members s) ≡ number 64 A
set_number s A e = ap (number 64) e ∙ number_clipped A

-- the field of a set that the task answers
pub set_field_is : (s : AtomSet) (A : Atoms) (f : Option (List ℕ)) → f ≡ field_of 0 8 (number 64 (members s)) → members s ≡ clipped 64 A → f ≡ field_of 0 8 (number 64 A)
set_field_is s A f e h = e ∙ ap (field_of 0 8) (set_number s A h)

-- the bytes of the header
pub header_bytes : (n k m : ℕ) (b : List ℕ) → k < 65536 → b ≡ (k / 256 % 256) ∷ (k % 256) ∷ [] → 1 ∷ n ∷ get_or b 0 0 ∷ get_or b 1 0 ∷ m ∷ [] ≡ 1 ∷ n ∷ (high_first 2 k ++ (m ∷ []))
header_bytes n k m b l e = ap (λ x. 1 ∷ n ∷ get_or x 0 0 ∷ get_or x 1 0 ∷ m ∷ []) e ∙ ap (λ x. 1 ∷ n ∷ (x ++ (m ∷ []))) (two_bytes k l)

pub length_file : (c : Content) → length (content_bytes c) ≡ 5 + (length (unless 0 8 c.start) + (length (unless 0 8 c.goal) + length (flat_map entry_bytes c.entries)))
unfolding content_bytes
length_file c = rw (length-append, length-append, length-append, length_high_first) (omega arith)

-- the file, piece by piece
pub file_written : (o : List ℕ) (c : Content) (n k m : ℕ) (hs ss gs o1 o2 o3 o4 : List ℕ) (a1 a2 a3 : ℕ)
    → n ≡ c.atoms → k ≡ length c.entries → m ≡ content_map c → hs ≡ 1 ∷ n ∷ (high_first 2 k ++ (m ∷ [])) → ss ≡ unless 0 8 c.start → gs ≡ unless 0 8 c.goal
    → length (content_bytes c) ≤ length o
    → o1 ≡ written o 0 hs → a1 ≡ 5
    → o2 ≡ written o1 a1 ss → a2 ≡ a1 + length ss
    → o3 ≡ written o2 a2 gs → a3 ≡ a2 + length gs
    → o4 ≡ written o3 a3 (flat_map entry_bytes c.entries) → o4 ≡ written o 0 (content_bytes c)
unfolding content_bytes
file_written o c n k m hs ss gs o1 o2 o3 o4 a1 a2 a3 en ek em eh es eg h e1 s1 e2 s2 e3 s3 e4 =
    let l = length_file c in
    let ks = ap length es in
    let kg = ap length eg in
    let rs : List ℕ = flat_map entry_bytes c.entries in
    let kh : length hs ≡ 5 = ap length eh ∙ rw (length-append, length_high_first) (omega arith) in
    let w2 : o2 ≡ written o 0 (hs ++ ss) = then_written o o1 o2 0 a1 hs ss e1 (omega arith) e2 (omega arith) in
    let l2 = length-append hs ss in
    let w3 : o3 ≡ written o 0 ((hs ++ ss) ++ gs) = then_written o o2 o3 0 a2 (hs ++ ss) gs w2 (omega arith) e3 (omega arith) in
    let l3 = length-append (hs ++ ss) gs in
    let w4 : o4 ≡ written o 0 (((hs ++ ss) ++ gs) ++ rs) = then_written o o3 o4 0 a3 ((hs ++ ss) ++ gs) rs w3 (omega arith) e4 (omega arith) in
    w4
    ∙ ap (λ x. written o 0 (((x ++ ss) ++ gs) ++ rs)) eh
    ∙ ap (λ x. written o 0 (1 ∷ n ∷ x)) (flat5 (high_first 2 k) (m ∷ []) ss gs rs)
    ∙ λ i. written o 0 (1 ∷ en i ∷ (high_first 2 (ek i) ++ (em i ∷ (es i ++ (eg i ++ rs)))))

pub written_front : (o x : List ℕ) → written o 0 x ≡ x ++ drop (length x) o
unfolding written
written_front o x = let e : 0 + length x ≡ length x = omega arith in ap (λ j. x ++ drop j o) e
