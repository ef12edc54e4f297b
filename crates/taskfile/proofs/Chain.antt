-- Fields that are read one after another: a record, and the header by its bytes.
use Rattle.std.proofs.Common.{◌≡◌, ℕ, suc, ◌+◌, ◌-◌, ◌*◌, ◌<◌, ◌≤◌, List, [], ◌∷◌, ◌++◌, length, get_or, drop, Some, None, Ok, Err, Result, refl, ap, ◌∙◌, arith}
use Rattle.std.proofs.lemmas.Bool.{cond-true, cond-false, lt-ltb, le-ltb, le-leb, lt-leb, eq-eqb, ne_eqb}
use Rattle.taskfile.specs.Content.{Entry}
use Rattle.taskfile.specs.declared.fault.Fault.{Fault}
use Rattle.strips.specs.declared.denial.Denial.TheVariants.{FileEnds, VersionUnknown, SizeOutOfRange, MapBitUnknown}
use Rattle.taskfile.specs.Reading.{field, fault, then, map_denied, version_denied, size_denied, entry, records, header}
use Rattle.taskfile.proofs.Field.{field_ends, field_denied, field_right, value_one, value_two}

pub then_ok : {A B : Type 0} {r : Result A Fault} (k : A → Result B Fault) {x : A} → r ≡ Ok x → then r k ≡ k x
unfolding then
then_ok k e = rw e refl

pub then_err : {A B : Type 0} {r : Result A Fault} (k : A → Result B Fault) {f : Fault} → r ≡ Err f → then r k ≡ Err f
unfolding then
then_err k e = rw e refl

-- a run of records, one step on
pub records_more : (n len k i : ℕ) (done : List Entry) (b : List ℕ) (r : Entry) (b1 : List ℕ) → i < k → entry n len (Some i) b ≡ Ok (r, b1) → records n len (k - i) i done b ≡ records n len (k - (i + 1)) (i + 1) (done ++ r ∷ []) b1
unfolding records
records_more n len k i done b r b1 h e = let q : k - i ≡ suc (k - (i + 1)) = omega arith in rw q (then_ok _ e)

pub records_err : (n len k i : ℕ) (done : List Entry) (b : List ℕ) (f : Fault) → i < k → entry n len (Some i) b ≡ Err f → records n len (k - i) i done b ≡ Err f
unfolding records
records_err n len k i done b f h e = let q : k - i ≡ suc (k - (i + 1)) = omega arith in rw q (then_err _ e)

pub records_all : (n len k i : ℕ) (done : List Entry) (b : List ℕ) → k ≤ i → records n len (k - i) i done b ≡ Ok (done, b)
unfolding records
records_all n len k i done b h = let q : k - i ≡ 0 = omega arith in rw q refl

-- the header, by its bytes
abbrev version_ok : (v : ℕ) → v ≡ 1 → version_denied v ≡ None
version_ok v h = cond-true _ _ _ (eq-eqb _ _ h)

abbrev version_bad : (v : ℕ) → (v ≡ 1 → ⊥) → version_denied v ≡ Some VersionUnknown
version_bad v h = cond-false _ _ _ (ne_eqb _ _ h)

abbrev size_ok : (m v : ℕ) → v ≤ m → size_denied m v ≡ None
size_ok m v h = cond-true _ _ _ (le-leb _ _ h)

abbrev size_bad : (m v : ℕ) → m < v → size_denied m v ≡ Some SizeOutOfRange
size_bad m v h = cond-false _ _ _ (lt-leb _ _ h)

pub header_version : (b : List ℕ) → 1 ≤ length b → (get_or b 0 0 ≡ 1 → ⊥) → header (length b) b ≡ Err (fault VersionUnknown 0 None)
unfolding header
header_version b h k = then_err _ (field_denied 1 version_denied _ None b (get_or b 0 0) _ h (value_one b h) (version_bad _ k)) ∙ ap (λ x. Err (fault VersionUnknown x None)) (omega arith)

-- the four numbers of the header, one after another, over a list that is written out
module _ (x : ℕ) (b : List ℕ) (one : x ≡ 1) where
  first : (len : ℕ) → field 1 version_denied len None (x ∷ b) ≡ Ok (x, b)
  first len = field_right 1 version_denied len None (x ∷ b) x b (omega arith) (value_one (x ∷ b) (omega arith)) (version_ok x one) refl

  header_one : b ≡ [] → header (length (x ∷ b)) (x ∷ b) ≡ Err (fault FileEnds (length (x ∷ b)) None)
  unfolding header
  header_one e = then_ok _ (first _) ∙ then_err _ (field_ends 1 (size_denied 64) _ _ b (rw e (omega arith)))

header_none : header 0 [] ≡ Err (fault FileEnds 0 None)
unfolding header
header_none = then_err _ (field_ends 1 version_denied 0 None [] (omega arith))

module _ (x n : ℕ) (b : List ℕ) (one : x ≡ 1) where
  header_atoms : 64 < n → header (length (x ∷ n ∷ b)) (x ∷ n ∷ b) ≡ Err (fault SizeOutOfRange 1 None)
  unfolding header
  header_atoms h =
      then_ok _ (first x (n ∷ b) one _) ∙ then_err _ (field_denied 1 (size_denied 64) _ None (n ∷ b) n _ (omega arith) (value_one (n ∷ b) (omega arith)) (size_bad 64 n h))
      ∙ ap (λ p. Err (fault SizeOutOfRange p None)) (omega arith)

  module _ (few : n ≤ 64) where
    second : (len : ℕ) → field 1 (size_denied 64) len None (n ∷ b) ≡ Ok (n, b)
    second len = field_right 1 (size_denied 64) len None (n ∷ b) n b (omega arith) (value_one (n ∷ b) (omega arith)) (size_ok 64 n few) refl

    header_two : length b < 2 → header (length (x ∷ n ∷ b)) (x ∷ n ∷ b) ≡ Err (fault FileEnds (length (x ∷ n ∷ b)) None)
    unfolding header
    header_two h = then_ok _ (first x (n ∷ b) one _) ∙ then_ok _ (second _) ∙ then_err _ (field_ends 2 (size_denied 256) _ _ b h)

module _ (x n h l : ℕ) (b : List ℕ) (one : x ≡ 1) (few : n ≤ 64) where
  header_count : 256 < h * 256 + l → header (length (x ∷ n ∷ h ∷ l ∷ b)) (x ∷ n ∷ h ∷ l ∷ b) ≡ Err (fault SizeOutOfRange 2 None)
  unfolding header
  header_count big =
      then_ok _ (first x (n ∷ h ∷ l ∷ b) one _) ∙ then_ok _ (second x n (h ∷ l ∷ b) one few _)
      ∙ then_err _ (field_denied 2 (size_denied 256) _ None (h ∷ l ∷ b) (h * 256 + l) _ (omega arith) (value_two (h ∷ l ∷ b) (omega arith)) (size_bad 256 _ big))
      ∙ ap (λ p. Err (fault SizeOutOfRange p None)) (omega arith)

  module _ (short : h * 256 + l ≤ 256) where
    third : (len : ℕ) → field 2 (size_denied 256) len None (h ∷ l ∷ b) ≡ Ok (h * 256 + l, b)
    third len = field_right 2 (size_denied 256) len None (h ∷ l ∷ b) (h * 256 + l) b (omega arith) (value_two (h ∷ l ∷ b) (omega arith)) (size_ok 256 _ short) refl

    header_four : b ≡ [] → header (length (x ∷ n ∷ h ∷ l ∷ b)) (x ∷ n ∷ h ∷ l ∷ b) ≡ Err (fault FileEnds (length (x ∷ n ∷ h ∷ l ∷ b)) None)
    unfolding header
    header_four e = then_ok _ (first x (n ∷ h ∷ l ∷ b) one _) ∙ then_ok _ (second x n (h ∷ l ∷ b) one few _) ∙ then_ok _ (third _) ∙ then_err _ (field_ends 1 (map_denied 2) _ _ b (rw e (omega arith)))

module _ (x n h l m : ℕ) (b : List ℕ) (one : x ≡ 1) (few : n ≤ 64) (short : h * 256 + l ≤ 256) where
  header_map : 4 ≤ m → header (length (x ∷ n ∷ h ∷ l ∷ m ∷ b)) (x ∷ n ∷ h ∷ l ∷ m ∷ b) ≡ Err (fault MapBitUnknown 4 None)
  unfolding header
  header_map big =
      then_ok _ (first x (n ∷ h ∷ l ∷ m ∷ b) one _) ∙ then_ok _ (second x n (h ∷ l ∷ m ∷ b) one few _) ∙ then_ok _ (third x n h l (m ∷ b) one few short _)
      ∙ then_err _ (field_denied 1 (map_denied 2) _ None (m ∷ b) m _ (omega arith) (value_one (m ∷ b) (omega arith)) (cond-false _ _ _ (le-ltb _ _ big)))
      ∙ ap (λ p. Err (fault MapBitUnknown p None)) (omega arith)

  header_right : (len : ℕ) → m < 4 → header len (x ∷ n ∷ h ∷ l ∷ m ∷ b) ≡ Ok ((n, h * 256 + l, m), b)
  unfolding header
  header_right len small =
      then_ok _ (first x (n ∷ h ∷ l ∷ m ∷ b) one _) ∙ then_ok _ (second x n (h ∷ l ∷ m ∷ b) one few _) ∙ then_ok _ (third x n h l (m ∷ b) one few short _)
      ∙ then_ok _ (field_right 1 (map_denied 2) _ None (m ∷ b) m b (omega arith) (value_one (m ∷ b) (omega arith)) (cond-true _ _ _ (lt-ltb _ _ small)) refl)

-- the same over any list, by its elements
pub at_atoms : (b : List ℕ) → 2 ≤ length b → get_or b 0 0 ≡ 1 → 64 < get_or b 1 0 → header (length b) b ≡ Err (fault SizeOutOfRange 1 None)
at_atoms (x ∷ n ∷ b) h one big = header_atoms x n b one big
at_atoms (x ∷ []) h one big = absurd (omega arith)
at_atoms [] h one big = absurd (omega arith)

pub at_count : (b : List ℕ) → 4 ≤ length b → get_or b 0 0 ≡ 1 → get_or b 1 0 ≤ 64 → 256 < get_or b 2 0 * 256 + get_or b 3 0 → header (length b) b ≡ Err (fault SizeOutOfRange 2 None)
at_count (x ∷ n ∷ h ∷ l ∷ b) _ one few big = header_count x n h l b one few big
at_count (x ∷ n ∷ h ∷ []) k _ _ _ = absurd (omega arith)
at_count (x ∷ n ∷ []) k _ _ _ = absurd (omega arith)
at_count (x ∷ []) k _ _ _ = absurd (omega arith)
at_count [] k _ _ _ = absurd (omega arith)

pub at_map : (b : List ℕ) → 5 ≤ length b → get_or b 0 0 ≡ 1 → get_or b 1 0 ≤ 64 → get_or b 2 0 * 256 + get_or b 3 0 ≤ 256 → 4 ≤ get_or b 4 0 → header (length b) b ≡ Err (fault MapBitUnknown 4 None)
at_map (x ∷ n ∷ h ∷ l ∷ m ∷ b) _ one few short big = header_map x n h l m b one few short big
at_map (x ∷ n ∷ h ∷ l ∷ []) k _ _ _ _ = absurd (omega arith)
at_map (x ∷ n ∷ h ∷ []) k _ _ _ _ = absurd (omega arith)
at_map (x ∷ n ∷ []) k _ _ _ _ = absurd (omega arith)
at_map (x ∷ []) k _ _ _ _ = absurd (omega arith)
at_map [] k _ _ _ _ = absurd (omega arith)

pub at_right : (b : List ℕ) (k : ℕ) (rest : List ℕ) → 5 ≤ length b → get_or b 0 0 ≡ 1 → get_or b 1 0 ≤ 64 → k ≡ get_or b 2 0 * 256 + get_or b 3 0 → k ≤ 256 → get_or b 4 0 < 4 → rest ≡ drop 5 b → header (length b) b ≡ Ok ((get_or b 1 0, k, get_or b 4 0), rest)
at_right (x ∷ n ∷ h ∷ l ∷ m ∷ b) k rest _ one few e short small r = rw (e, r) (header_right x n h l m b one few (rw e at short) _ small)
at_right (x ∷ n ∷ h ∷ l ∷ []) k rest q _ _ _ _ _ _ = absurd (omega arith)
at_right (x ∷ n ∷ h ∷ []) k rest q _ _ _ _ _ _ = absurd (omega arith)
at_right (x ∷ n ∷ []) k rest q _ _ _ _ _ _ = absurd (omega arith)
at_right (x ∷ []) k rest q _ _ _ _ _ _ = absurd (omega arith)
at_right [] k rest q _ _ _ _ _ _ = absurd (omega arith)

pub at_end : (b : List ℕ) → length b < 5 → (1 ≤ length b → get_or b 0 0 ≡ 1) → (2 ≤ length b → get_or b 1 0 ≤ 64) → (4 ≤ length b → get_or b 2 0 * 256 + get_or b 3 0 ≤ 256) → header (length b) b ≡ Err (fault FileEnds (length b) None)
at_end [] _ one few short = header_none
at_end (x ∷ []) _ one few short = header_one x [] (one (omega arith)) refl
at_end (x ∷ n ∷ []) _ one few short = header_two x n [] (one (omega arith)) (few (omega arith)) (omega arith)
at_end (x ∷ n ∷ h ∷ []) _ one few short = header_two x n (h ∷ []) (one (omega arith)) (few (omega arith)) (omega arith)
at_end (x ∷ n ∷ h ∷ l ∷ []) _ one few short = header_four x n h l [] (one (omega arith)) (few (omega arith)) (short (omega arith)) refl
at_end (x ∷ n ∷ h ∷ l ∷ m ∷ b) k one few short = absurd (omega arith)
