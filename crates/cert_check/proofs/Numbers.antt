-- Numbers of facts that are listed.
use Rattle.std.proofs.Common.{◌≡◌, ℕ, zero, suc, ◌-◌, ◌^◌, ◌<◌, ◌≤◌, Bool, true, false, ◌||◌, refl, List, [], ◌∷◌, ◌++◌}
use Rattle.std.proofs.Common.{length, get_or, arith, eqb-true, eq-eqb}
use Rattle.std.specs.Prelude.{nat_eq, nat_le, if◌then◌else◌}
use Rattle.std.specs.List.{list_any}
use Rattle.std.proofs.lemmas.Bool.Decides.{nat_tests}
use Rattle.cert_parser.specs.Reading.{are_of_facts}
use Rattle.cert_parser.proofs.ReadFiles.{four_hold}
use Rattle.cert_check.specs.Listed.{AreNumbers}

-- none of the numbers is this one
abbrev pub NoneIs : ℕ → List ℕ → Type 0
NoneIs n [] = Unit {0}
NoneIs n (m ∷ ms) = (n ≡ m → ⊥) × NoneIs n ms

-- no number is there twice
abbrev pub AreApart : List ℕ → Type 0
AreApart [] = Unit {0}
AreApart (n ∷ ns) = NoneIs n ns × AreApart ns

-- a number from 1 to the count
pub record IsNumber (count n : ℕ) : Type 0 where
  pub first : 1 ≤ n
  pub last : n ≤ count

-- each of the numbers is one
pub number_at : (count : ℕ) (ns : List ℕ) (i d : ℕ) → AreNumbers count ns → i < length ns
    → IsNumber count (get_or ns i d)
number_at count [] i d all h = absurd (omega arith)
number_at count (n ∷ ns) zero d all h = record { first = all.0; last = all.1 }
number_at count (n ∷ ns) (suc i) d all h = number_at count ns i d all.2 (omega arith)

-- one that is among the first is among both
among_more : (x : ℕ) (seen : List ℕ) (n : ℕ) → list_any (nat_eq x) seen ≡ true
    → list_any (nat_eq x) (seen ++ n ∷ []) ≡ true
among_more x [] n h = cc
among_more x (s ∷ seen) n h = step (nat_eq x s) (among_more x seen n) h
  where
    step : (t : Bool) → (list_any (nat_eq x) seen ≡ true → list_any (nat_eq x) (seen ++ n ∷ []) ≡ true)
        → (t || list_any (nat_eq x) seen) ≡ true
        → (t || list_any (nat_eq x) (seen ++ n ∷ [])) ≡ true
    step true rest h = refl
    step false rest h = rest h

-- the last is among them
among_last : (seen : List ℕ) (n : ℕ) → list_any (nat_eq n) (seen ++ n ∷ []) ≡ true
among_last [] n = rw (eq-eqb n n refl) refl
among_last (s ∷ seen) n = step (nat_eq n s) (among_last seen n)
  where
    step : (t : Bool) → list_any (nat_eq n) (seen ++ n ∷ []) ≡ true → (t || list_any (nat_eq n) (seen ++ n ∷ [])) ≡ true
    step true rest = refl
    step false rest = rest

-- what was seen doesn't come again
none_seen : (count x : ℕ) (seen ns : List ℕ) → are_of_facts count seen ns ≡ true → list_any (nat_eq x) seen ≡ true
    → NoneIs x ns
none_seen count x seen [] h k = tt
none_seen count x seen (n ∷ ns) h k =
    let e = four_hold (nat_le 1 n) (nat_le n count) (list_any (nat_eq n) seen) (are_of_facts count (seen ++ n ∷ []) ns)
    h in (
      λ same. let b : list_any (nat_eq n) seen ≡ true = rw same at k in let no = e.2 in
          cc,
      none_seen count x (seen ++ n ∷ []) ns e.3 (among_more x seen n k),
    )

pub numbers_apart : (count : ℕ) (seen ns : List ℕ) → are_of_facts count seen ns ≡ true → AreApart ns
numbers_apart count seen [] h = tt
numbers_apart count seen (n ∷ ns) h =
    let e = four_hold (nat_le 1 n) (nat_le n count) (list_any (nat_eq n) seen) (are_of_facts count (seen ++ n ∷ []) ns)
    h in
    (none_seen count n (seen ++ n ∷ []) ns e.3 (among_last seen n), numbers_apart count (seen ++ n ∷ []) ns e.3)

pub numbers_within : (count : ℕ) (seen ns : List ℕ) → are_of_facts count seen ns ≡ true → AreNumbers count ns
numbers_within count seen [] h = tt
numbers_within count seen (n ∷ ns) h =
    let e = four_hold (nat_le 1 n) (nat_le n count) (list_any (nat_eq n) seen) (are_of_facts count (seen ++ n ∷ []) ns)
    h in
    let low = e.0 in
    let high = e.1 in
    (first n low, last n count high, numbers_within count (seen ++ n ∷ []) ns e.3)
  where
    first : (m : ℕ) → nat_le 1 m ≡ true → 1 ≤ m
    first m t = grind (arith, nat_tests)

    last : (m c : ℕ) → nat_le m c ≡ true → m ≤ c
    last m c t = grind (arith, nat_tests)

-- the numbers without the first that is this one
without : ℕ → List ℕ → List ℕ
without x [] = []
without x (n ∷ ns) = if nat_eq x n then ns else n ∷ without x ns

shorter_by_one : (x : ℕ) (ns : List ℕ) → length ns ≤ suc (length (without x ns))
unfolding without
shorter_by_one x [] = omega arith
shorter_by_one x (n ∷ ns) = step (nat_eq x n) (shorter_by_one x ns)
  where
    step : (t : Bool) → length ns ≤ suc (length (without x ns))
        → suc (length ns) ≤ suc (length (if t then ns else n ∷ without x ns))
    step true h = omega arith
    step false h = omega arith

none_without : (x n : ℕ) (ns : List ℕ) → NoneIs n ns → NoneIs n (without x ns)
unfolding without
none_without x n [] h = tt
none_without x n (m ∷ ns) h = step (nat_eq x m) (none_without x n ns)
  where
    step : (t : Bool) → (NoneIs n ns → NoneIs n (without x ns)) → NoneIs n (if t then ns else m ∷ without x ns)
    step true rest = h.1
    step false rest = (h.0, rest h.1)

apart_without : (x : ℕ) (ns : List ℕ) → AreApart ns → AreApart (without x ns)
unfolding without
apart_without x [] h = tt
apart_without x (n ∷ ns) h = step (nat_eq x n) (apart_without x ns)
  where
    step : (t : Bool) → (AreApart ns → AreApart (without x ns)) → AreApart (if t then ns else n ∷ without x ns)
    step true rest = h.1
    step false rest = (none_without x n ns h.0, rest h.1)

-- numbers to the next count, none of which is it
below_next : (count n : ℕ) (ns : List ℕ) → n ≡ suc count → NoneIs n ns → AreNumbers (suc count) ns → AreNumbers count ns
below_next count n [] e none all = tt
below_next count n (m ∷ ms) e none all =
    let other = none.0 in
    let at_most : m ≤ suc count = all.1 in
    (all.0, closer m at_most (λ same. other (rw (e, same) refl)), below_next count n ms e none.1 all.2)
  where
    closer : (m : ℕ) → m ≤ suc count → (m ≡ suc count → ⊥) → m ≤ count
    closer m h k = grind arith

within_without : (count : ℕ) (ns : List ℕ) → AreNumbers (suc count) ns → AreApart ns
    → AreNumbers count (without (suc count) ns)
unfolding without
within_without count [] all apart = tt
within_without count (n ∷ ns) all apart = step (nat_eq (suc count) n) refl (within_without count ns all.2 apart.1)
  where
    closer : (m : ℕ) → m ≤ suc count → (suc count ≡ m → ⊥) → m ≤ count
    closer m h k = grind arith

    step : (t : Bool) → nat_eq (suc count) n ≡ t → AreNumbers count (without (suc count) ns)
        → AreNumbers count (if t then ns else n ∷ without (suc count) ns)
    step true e rest = below_next count n ns (let s : suc count ≡ n = eqb-true (suc count) n e in rw s refl) apart.0
        all.2
    step false e rest = (
      all.0,
      closer n all.1 (λ s. let t : nat_eq (suc count) n ≡ true = eq-eqb (suc count) n s in
          cc),
      rest,
    )

-- numbers from 1 to a count, none twice, are at most as many
pub at_most_as_many : (count : ℕ) (ns : List ℕ) → AreNumbers count ns → AreApart ns → length ns ≤ count
at_most_as_many zero [] all apart = omega arith
at_most_as_many zero (n ∷ ns) all apart = let a = all.0 in let b = all.1 in absurd (omega (arith, a, b))
at_most_as_many (suc count) ns all apart =
    let n = shorter_by_one (suc count) ns in
    let fewer = at_most_as_many count (without (suc count) ns) (within_without count ns all apart)
    (apart_without (suc count) ns apart) in
    omega arith

-- numbers of 32 bits, none twice, are fewer than there are of 32 bits
pub few_numbers : (count : ℕ) (ns : List ℕ) → are_of_facts count [] ns ≡ true
    → ((i : ℕ) → i < length ns → get_or ns i 0 < 2 ^ 32) → length ns < 2 ^ 32
few_numbers count ns h fit =
    let all = of_32_bits ns (numbers_within count [] ns h) fit in
    let most = at_most_as_many (2 ^ 32 - 1) ns all (numbers_apart count [] ns h) in
    omega (arith, most)
  where
    of_32_bits : (ms : List ℕ) → AreNumbers count ms → ((i : ℕ) → i < length ms → get_or ms i 0 < 2 ^ 32)
        → AreNumbers (2 ^ 32 - 1) ms
    of_32_bits [] all fits = tt
    of_32_bits (m ∷ ms) all fits =
        let here : m < 2 ^ 32 = fits 0 (omega arith) in
        (all.0, omega (arith, here), of_32_bits ms all.2 (λ i k. fits (suc i) (omega (arith, k))))
