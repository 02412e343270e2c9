-- A sum of ones is a count.
use Rattle.std.proofs.Common.{◌≡◌, ◌∙◌, ℕ, ◌+◌, ◌<◌, ◌^◌, Bool, true, false, if◌then◌else◌, List, [], ◌∷◌, length, map}
use Rattle.std.proofs.Common.{filter, fold, arith}
use Rattle.std.proofs.lemmas.List.Sums.{length-filter, count_by-le-length}
use Rattle.std.proofs.lemmas.List.{length-map}

-- the sum of ones for those items whose images pass, from a start
sum_from : {X Y : Type 0} (f : X → Y) (test : Y → Bool) (n : ℕ) (xs : List X)
    → fold ◌+◌ n (map (λ x. if test (f x) then 1 else 0) xs) ≡ n + length (filter test (map f xs))
sum_from f test n [] = omega arith
sum_from f test n (x ∷ xs) = by (test (f x)) (λ k. sum_from f test k xs)
  where
    by : (b : Bool)
        → ((k : ℕ) → fold ◌+◌ k (map (λ x. if test (f x) then 1 else 0) xs) ≡ k + length (filter test (map f xs)))
        → fold ◌+◌ (n + (if b then 1 else 0)) (map (λ x. if test (f x) then 1 else 0) xs)
        ≡ n + length (if b then f x ∷ filter test (map f xs) else filter test (map f xs))
    by true rest = rest (n + 1) ∙ omega arith
    by false rest = rest (n + 0) ∙ omega arith

pub sum_marks : {X Y : Type 0} (f : X → Y) (test : Y → Bool) (xs : List X)
    → fold ◌+◌ 0 (map (λ x. if test (f x) then 1 else 0) xs)
    ≡ length (filter test (map f xs))
sum_marks f test xs = sum_from f test 0 xs ∙ omega arith

-- it is no more than there are
pub marks_fit : {X Y : Type 0} (f : X → Y) (test : Y → Bool) (xs : List X) → length xs < 2 ^ 64
    → fold ◌+◌ 0 (map (λ x. if test (f x) then 1 else 0) xs) < 2 ^ 64
marks_fit f test xs few = rw (sum_marks f test xs) (
    let count = length-filter test (map f xs) in
    let most = count_by-le-length test (map f xs) in
    omega (arith, count, most, length-map xs f, few))
