-- Marks of the facts that a line lists.
use Rattle.std.proofs.Common.{◌≡◌, ℕ, suc, ◌+◌, ◌-◌, ◌<◌, ◌≤◌, Bool, true, false, not, ◌&&◌, ◌||◌, refl, List, [], ◌∷◌}
use Rattle.std.proofs.Common.{◌++◌, length, get_or, take, drop, arith, nat_le, nat_eq, sym}
use Rattle.std.specs.Prelude.{slice_index_or, slice_set}
use Rattle.std.specs.List.{list_any}
use Rattle.std.proofs.lemmas.Bool.Decides.{nat_tests}
use Rattle.std.proofs.lemmas.List.{get_or-set_same, get_or-set_other, length-set}
use Rattle.std.proofs.Math.Seq.{take-suc, drop-cons}
use Rattle.cert_parser.specs.Reading.{are_of_facts}
use Rattle.cert_parser.specs.Listings.{AreBelow, is_unlisted, MarksAre}

-- a later line has listed nothing yet
pub none_listed : (marks : List ℕ) (line : ℕ) → AreBelow line marks → MarksAre marks line []
none_listed marks line below n low high =
    let b : slice_index_or marks (n - 1) 0 < line = below (n - 1) (omega arith) in
    grind (arith, nat_tests, b)

-- the number of a fact that isn't among those listed is that of one that isn't marked
pub unlisted_is : (marks : List ℕ) (line : ℕ) (seen : List ℕ) (n : ℕ) → MarksAre marks line seen
    → is_unlisted marks line n
    ≡ (nat_le 1 n && nat_le n (length marks) && not (list_any (nat_eq n) seen))
unlisted_is marks line seen n are = by (nat_le 1 n) refl (nat_le n (length marks)) refl
  where
    by : (a : Bool) → nat_le 1 n ≡ a → (b : Bool) → nat_le n (length marks) ≡ b → is_unlisted marks line n
        ≡ (nat_le 1 n && nat_le n (length marks) && not (list_any (nat_eq n) seen))
    by false e b f = rw e refl
    by true e false f = rw (e, f) refl
    by true e true f = rw (are n (grind (arith, nat_tests, e)) (grind (arith, nat_tests, f))) refl

-- with one more listed by the line, the marks are those of the numbers with this one
pub marked_more : (marks : List ℕ) (line : ℕ) (seen : List ℕ) (n : ℕ) → 1 ≤ n → n ≤ length marks
    → MarksAre marks line seen
    → MarksAre (slice_set marks (n - 1) line) line (seen ++ n ∷ [])
marked_more marks line seen n low high are m mlow mhigh = by (nat_eq m n) refl
  where
    any_more : (xs : List ℕ) → list_any (nat_eq m) (xs ++ n ∷ []) ≡ (list_any (nat_eq m) xs || nat_eq m n)
    any_more [] = by_end (nat_eq m n)
      where
        by_end : (t : Bool) → (t || false) ≡ (false || t)
        by_end true = refl
        by_end false = refl
    any_more (x ∷ xs) = regroup (nat_eq m x) (list_any (nat_eq m) (xs ++ n ∷ [])) (list_any (nat_eq m) xs) (any_more xs)
      where
        regroup : (t a b : Bool) → a ≡ (b || nat_eq m n) → (t || a) ≡ ((t || b) || nat_eq m n)
        regroup true a b h = refl
        regroup false a b h = h

    or_true : (t : Bool) → (t || true) ≡ true
    or_true true = refl
    or_true false = refl

    or_false : (t : Bool) → (t || false) ≡ t
    or_false true = refl
    or_false false = refl

    by : (t : Bool) → nat_eq m n ≡ t → nat_eq (slice_index_or (slice_set marks (n - 1) line) (m - 1) 0) line ≡ list_any
        (nat_eq m) (seen ++ n ∷ [])
    by true e =
        let same : m - 1 ≡ n - 1 = grind (arith, nat_tests, e) in
        let here : slice_index_or (slice_set marks (n - 1) line) (m - 1) 0 ≡ line =
        rw same (get_or-set_same marks (n - 1) line 0 (omega arith)) in
        let marked : nat_eq line line ≡ true = grind (arith, nat_tests) in
        rw (any_more seen, e, or_true (list_any (nat_eq m) seen), here) marked
    by false e =
        let apart : m - 1 ≡ n - 1 → ⊥ = λ h. (let same : m ≡ n = omega arith in grind (arith, nat_tests, e, same)) in
        let there : slice_index_or (slice_set marks (n - 1) line) (m - 1) 0
        ≡ slice_index_or marks (m - 1) 0 = get_or-set_other marks (n - 1) (m - 1) line 0 apart in
        let within : m ≤ length marks = rw (length-set marks (n - 1) line) at mhigh in
        rw (any_more seen, e, or_false (list_any (nat_eq m) seen), there) (are m mlow within)

-- and all are of no later line
pub below_more : (marks : List ℕ) (line : ℕ) (n : ℕ) → 1 ≤ n → n ≤ length marks → AreBelow (line + 1) marks
    → AreBelow (line + 1) (slice_set marks (n - 1) line)
below_more marks line n low high below i h = by (nat_eq i (n - 1)) refl
  where
    by : (t : Bool) → nat_eq i (n - 1) ≡ t → slice_index_or (slice_set marks (n - 1) line) i 0 < line + 1
    by true e =
        let same : i ≡ n - 1 = grind (arith, nat_tests, e) in
        let here : slice_index_or (slice_set marks (n - 1) line) i 0 ≡ line =
        rw same (get_or-set_same marks (n - 1) line 0 (omega arith)) in
        omega (arith, here)
    by false e =
        let apart : i ≡ n - 1 → ⊥ = λ s. grind (arith, nat_tests, e, s) in
        let within : i < length marks = rw (length-set marks (n - 1) line) at h in
        rw (get_or-set_other marks (n - 1) i line 0 apart) (below i within)

-- the marks of a line that is listing: as many as there are facts, of those listed so far, and of no later line
pub record Marking (count line : ℕ) (numbers : List ℕ) (at : ℕ) (marks : List ℕ) : Type 0 where
  pub decides : are_of_facts count (take at numbers) (drop at numbers) ≡ are_of_facts count [] numbers
  pub len : length marks ≡ count
  pub marked : MarksAre marks line (take at numbers)
  pub below : AreBelow (line + 1) marks

pub begin : (line : ℕ) (numbers marks : List ℕ) → AreBelow line marks → Marking (length marks) line numbers 0 marks
begin line numbers marks below = record {
  decides = refl;
  len = refl;
  marked = none_listed marks line below;
  below = λ i h. (let b : slice_index_or marks i 0 < line = below i h in omega arith);
}

-- the next number decides
next_decides : (count line : ℕ) (numbers : List ℕ) (at : ℕ) (marks : List ℕ) → Marking count line numbers at marks
    → at < length numbers
    → are_of_facts count [] numbers ≡ (is_unlisted marks line (get_or numbers at 0) && are_of_facts count
    (take (at + 1) numbers) (drop (at + 1) numbers))
next_decides count line numbers at marks m within =
    let n : at + 1 ≡ suc at = omega arith in
    let parts = m.decides in
    let is = unlisted_is marks line (take at numbers) (get_or numbers at 0) m.marked in
    rw (n, is, m.len, take-suc numbers at 0 within) (sym (rw (drop-cons numbers at 0 within) at parts))

is_number : (n : ℕ) (t : Bool) (count : ℕ) → (nat_le 1 n && nat_le n count && not t) ≡ true → (1 ≤ n) × (n ≤ count)
is_number n t count h = by (nat_le 1 n) refl (nat_le n count) refl h
  where
    by : (a : Bool) → nat_le 1 n ≡ a → (b : Bool) → nat_le n count ≡ b → (a && b && not t) ≡ true
        → (1 ≤ n) × (n ≤ count)
    by true e true f h = (grind (arith, nat_tests, e), grind (arith, nat_tests, f))
    by true e false f h = cc
    by false e b f h = cc

pub mark_next : (count line : ℕ) (numbers : List ℕ) (at : ℕ) (marks after : List ℕ)
    → Marking count line numbers at marks → at < length numbers
    → is_unlisted marks line (get_or numbers at 0) ≡ true → after ≡ slice_set marks (get_or numbers at 0 - 1) line
    → Marking count line numbers (at + 1) after
mark_next count line numbers at marks after m within fresh new =
    let d = next_decides count line numbers at marks m within in
    let parts = is_number (get_or numbers at 0) (nat_eq (slice_index_or marks (get_or numbers at 0 - 1) 0) line)
    (length marks) fresh in
    let low = parts.0 in
    let high = parts.1 in
    let n : at + 1 ≡ suc at = omega arith in
    rw new (record {
      decides = sym (rw fresh at d);
      len = rw (length-set marks (get_or numbers at 0 - 1) line) m.len;
      marked = rw (n, take-suc numbers at 0 within) (marked_more marks line (take at numbers) (get_or numbers at 0) low
          high m.marked);
      below = below_more marks line (get_or numbers at 0) low high m.below;
    })

pub not_next : (count line : ℕ) (numbers : List ℕ) (at : ℕ) (marks : List ℕ) → Marking count line numbers at marks
    → at < length numbers
    → is_unlisted marks line (get_or numbers at 0) ≡ false → are_of_facts count [] numbers ≡ false
not_next count line numbers at marks m within stale = rw stale at (next_decides count line numbers at marks m within)
