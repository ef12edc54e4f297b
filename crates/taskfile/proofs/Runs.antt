-- Records that are read one after another.
use Rattle.std.proofs.Common.{◌≡◌, ℕ, ◌+◌, ◌-◌, ◌<◌, ◌≤◌, ◌≢◌, List, [], ◌∷◌, ◌++◌, length, get_or, drop, set, Some, Ok, Result, sym, ap, ◌∙◌, arith, below_more}
use Rattle.std.proofs.lemmas.List.{length-set, length_push, get_or_push, get_or_append_left, get_or-set_same, get_or-set_other, drop-drop}
use Rattle.taskfile.specs.Content.{Entry, blank}
use Rattle.taskfile.specs.declared.fault.Fault.{Fault}
use Rattle.taskfile.specs.Reading.{entry, records}
use Rattle.taskfile.specs.Reads.{LeftOf}
use Rattle.taskfile.proofs.Chain.{records_more}

pub left_all : (b : List ℕ) → LeftOf b b
left_all b = record { shorter = omega arith; suffix = let e : 0 ≡ length b - length b = omega arith in ap (λ i. drop i b) e }

pub left_on : (b c d : List ℕ) → LeftOf b c → LeftOf c d → LeftOf b d
left_on b c d m n =
    let h = m.shorter in
    let k = n.shorter in
    record {
      shorter = omega arith;
      suffix = n.suffix ∙ ap (drop (length c - length d)) m.suffix ∙ drop-drop (length c - length d) (length b - length c) b ∙ ap (λ i. drop i b) (omega arith);
    }

-- i of k records are read from b, and rest is left
pub record SoFar (n len k i : ℕ) (b places rest : List ℕ) : Type 0 where
  pub done : List Entry
  pub count : length done ≡ i
  pub goes_on : records n len k 0 [] b ≡ records n len (k - i) i done rest
  pub left : LeftOf b rest
  pub table : length places ≡ k
  pub inside : (j : ℕ) → j < i → get_or places j 0 ≤ length b
  pub placed : (j : ℕ) → j < i → (r : List ℕ) × (entry n len (Some j) (drop (get_or places j 0) b) ≡ Ok (get_or done j blank, r))

pub so_far_more : (n len k i : ℕ) (b places rest : List ℕ) (e : Entry) (next : List ℕ) → i < k → SoFar n len k i b places rest → entry n len (Some i) rest ≡ Ok (e, next) → LeftOf rest next →
    SoFar n len k (i + 1) b (set places i (length b - length rest)) next
so_far_more n len k i b places rest e next l s q m =
    let at : ℕ = length b - length rest in
    let room : i < length places = let t = s.table in omega arith in
    record {
      done = s.done ++ e ∷ [];
      count = length_push s.done e ∙ ap (λ x. x + 1) s.count;
      goes_on = s.goes_on ∙ records_more n len k i s.done rest e next l q;
      left = left_on b rest next s.left m;
      table = length-set places i at ∙ s.table;
      inside =
          below_more (λ j. get_or (set places i at) j 0 ≤ length b) i
          (λ j lt. let ne : j ≢ i = omega arith in rw (get_or-set_other places i j at 0 ne) (s.inside j lt))
          (rw (get_or-set_same places i at 0 room) (omega arith));
      placed =
          below_more (λ j. (r : List ℕ) × (entry n len (Some j) (drop (get_or (set places i at) j 0) b) ≡ Ok (get_or (s.done ++ e ∷ []) j blank, r))) i
          (λ j lt.
          let ne : j ≢ i = omega arith in
          let old = s.placed j lt in
          let short : j < length s.done = let v = s.count in omega arith in (
            old.0,
            ap (λ x. entry n len (Some j) (drop x b)) (get_or-set_other places i j at 0 ne)
                ∙ (old.1 ∙ ap (λ x. Ok (x, old.0)) (sym (get_or_append_left s.done (e ∷ []) blank j short))),
          )) (
            next,
            ap (λ x. entry n len (Some i) (drop x b)) (get_or-set_same places i at 0 room)
                ∙ (ap (entry n len (Some i)) (sym s.left.suffix) ∙ (q ∙ ap (λ x. Ok (x, next)) (sym (get_or_push s.done e blank i s.count)))),
          );
    }

-- what more places there are does not matter
pub all_placed : (n len j : ℕ) (b places more : List ℕ) {x : Result (Entry × List ℕ) Fault} → j < length places → entry n len (Some j) (drop (get_or places j 0) b) ≡ x → entry n len (Some j) (drop (get_or (places ++ more) j 0) b) ≡ x
all_placed n len j b places more l e = ap (λ p. entry n len (Some j) (drop p b)) (get_or_append_left places more 0 j l) ∙ e

pub still_inside : (j : ℕ) (b places more : List ℕ) → j < length places → get_or places j 0 ≤ length b → get_or (places ++ more) j 0 ≤ length b
still_inside j b places more l h = rw (get_or_append_left places more 0 j l) h
