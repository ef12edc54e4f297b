-- The task of a file, or its leftmost fault.
use Rattle.std.specs.Prelude.{◌≡◌, ℕ, zero, suc, ◌+◌, ◌-◌, ◌*◌, ◌^◌, ◌<◌, Bool, true, false, cond, List, [], ◌∷◌, ◌++◌, length, take, drop, Some, None, Ok, Err, Option, Result, ◌==◌, bit_and, nat_le, nat_lt, slice_index}
use Rattle.strips.specs.Task.{Task}
use Rattle.strips.specs.Bits.{bit}
use Rattle.strips.specs.declared.denial.Denial.{Denial}
use Rattle.strips.specs.declared.denial.Denial.TheVariants.{FileEnds, VersionUnknown, SizeOutOfRange, MapBitUnknown, AtomOutOfRange, FieldAtDefault, AddedAndRemoved, BytesAfterEnd}
use Rattle.taskfile.specs.Content.{Entry, Content, task_of}
use Rattle.taskfile.specs.declared.fault.Fault.{Fault}

-- a list of bytes
abbrev pub Bytes : List ℕ → Type 0
Bytes b = (i : ℕ) → slice_index b i < 256

-- the number in bytes, the high byte first
unfoldable pub value : List ℕ → ℕ
value [] = 0
value (b ∷ bs) = b * 256 ^ length bs + value bs

abbrev pub fault : Denial → ℕ → Option ℕ → Fault
fault d p a = record { denial = d; place = p; action = a }

-- what the number of a field is denied for
abbrev pub version_denied : ℕ → Option Denial
version_denied v = cond (v == 1) None (Some VersionUnknown)

abbrev pub size_denied : ℕ → ℕ → Option Denial
size_denied most n = cond (nat_le n most) None (Some SizeOutOfRange)

abbrev pub map_denied : ℕ → ℕ → Option Denial
map_denied fields m = cond (nat_lt m (2 ^ fields)) None (Some MapBitUnknown)

abbrev pub set_denied : ℕ → ℕ → Option Denial
set_denied n s = cond (nat_lt s (2 ^ n)) (cond (s == 0) (Some FieldAtDefault) None) (Some AtomOutOfRange)

abbrev pub cost_denied : ℕ → Option Denial
cost_denied c = cond (c == 1) (Some FieldAtDefault) None

-- a number and the bytes after it, where it is not denied
abbrev pub judged : Option Denial → ℕ → Option ℕ → ℕ → List ℕ → Result (ℕ × List ℕ) Fault
judged None p a v rest = Ok (v, rest)
judged (Some d) p a v rest = Err (fault d p a)

-- A field of w bytes at the front of b, the rest of a file of len bytes: the file may end inside it. The action is the
-- one whose record the field is in.
unfoldable pub field : ℕ → (ℕ → Option Denial) → ℕ → Option ℕ → List ℕ → Result (ℕ × List ℕ) Fault
field w denied len a b = cond (nat_lt (length b) w) (Err (fault FileEnds len a)) (judged (denied (value (take w b))) (len - length b) a (value (take w b)) (drop w b))

-- a field that the map may bring
abbrev pub optional : Bool → ℕ → List ℕ → Result (ℕ × List ℕ) Fault → Result (ℕ × List ℕ) Fault
optional true z b r = r
optional false z b r = Ok (z, b)

-- a set, empty where it is absent
abbrev pub set_at : Bool → ℕ → ℕ → Option ℕ → List ℕ → Result (ℕ × List ℕ) Fault
set_at present n len a b = optional present 0 b (field 8 (set_denied n) len a b)

-- a cost, 1 where it is absent
abbrev pub cost_at : Bool → ℕ → Option ℕ → List ℕ → Result (ℕ × List ℕ) Fault
cost_at present len a b = optional present 1 b (field 2 cost_denied len a b)

-- one step after another, up to the first fault
unfoldable pub then : {A B : Type 0} → Result A Fault → (A → Result B Fault) → Result B Fault
then (Ok x) k = k x
then (Err f) k = Err f

-- a record's last word: nothing that it adds does it remove
abbrev pub apart_at : ℕ → Option ℕ → Entry → List ℕ → Result (Entry × List ℕ) Fault
apart_at place a e rest = cond (bit_and e.adds e.removes == 0) (Ok (e, rest)) (Err (fault AddedAndRemoved place a))

-- a record of a task of n atoms
unfoldable pub entry : ℕ → ℕ → Option ℕ → List ℕ → Result (Entry × List ℕ) Fault
entry n len a b =
    then (field 1 (map_denied 4) len a b) (λ m.
    then (set_at (bit 0 m.0) n len a m.1) (λ needs.
    then (set_at (bit 1 m.0) n len a needs.1) (λ adds.
    then (set_at (bit 2 m.0) n len a adds.1) (λ removes.
    then (cost_at (bit 3 m.0) len a removes.1) (λ cost.
    apart_at (len - length b) a (record { needs = needs.0; adds = adds.0; removes = removes.0; cost = cost.0 }) cost.1)))))

-- k records, the first of action i, after those that are read
unfoldable pub records : ℕ → ℕ → ℕ → ℕ → List Entry → List ℕ → Result (List Entry × List ℕ) Fault
records n len zero i done b = Ok (done, b)
records n len (suc k) i done b = then (entry n len (Some i) b) (λ e. records n len k (i + 1) (done ++ e.0 ∷ []) e.1)

-- nothing follows the last record
abbrev pub ended : ℕ → ℕ → ℕ → ℕ → List Entry × List ℕ → Result Content Fault
ended n s g len (es, []) = Ok (record { atoms = n; start = s; goal = g; entries = es })
ended n s g len (es, b ∷ bs) = Err (fault BytesAfterEnd (len - length (b ∷ bs)) None)

-- the number of atoms, the number of actions and the map
unfoldable pub header : ℕ → List ℕ → Result ((ℕ × ℕ × ℕ) × List ℕ) Fault
header len b =
    then (field 1 version_denied len None b) (λ v.
    then (field 1 (size_denied 64) len None v.1) (λ n.
    then (field 2 (size_denied 256) len None n.1) (λ k.
    then (field 1 (map_denied 2) len None k.1) (λ m.
    Ok ((n.0, k.0, m.0), m.1)))))

-- what follows the header
unfoldable pub body : ℕ → ℕ → ℕ → ℕ → List ℕ → Result Content Fault
body len n k m b =
    then (set_at (bit 0 m) n len None b) (λ start.
    then (set_at (bit 1 m) n len None start.1) (λ goal.
    then (records n len k 0 [] goal.1) (λ es.
    ended n start.0 goal.0 len es)))

-- the numbers of a file
unfoldable pub content : List ℕ → Result Content Fault
content b = then (header (length b) b) (λ h. body (length b) h.0.0 h.0.1 h.0.2 h.1)

-- its task
abbrev pub verdict : List ℕ → Result Task Fault
verdict b = then (content b) (λ c. Ok (task_of c))

abbrev pub FaultOf : List ℕ → Fault → Type 0
FaultOf b f = verdict b ≡ Err f
