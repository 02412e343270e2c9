-- Places that are dealt to chunks in turn: of those before a place so many went to each chunk, and the next one goes on
-- from there.
use Rattle.std.proofs.Common.{◌≡◌, ◌∙◌, ℕ, ◌+◌, ◌-◌, ◌*◌, ◌/◌, ◌%◌, ◌<◌, ◌≤◌, ◌⊎◌, inl, inr, nat_lt, if◌then◌else◌}
use Rattle.std.proofs.Common.{refl, ap, ap₂, sym, arith}
use Rattle.std.specs.Prelude.{min, ◌≢◌}
use Rattle.std.proofs.lemmas.Bool.{cases_lt, lt-ltb}
use Rattle.std.proofs.lemmas.Bool.Decides.{nat_tests}
use Rattle.std.proofs.lemmas.Nat.{div-add-mod', div-mul-add, le-div}
use Rattle.std.proofs.Math.Nat.{add-mul, mod-lt, mul_comm, mul_assoc, mul-div_left, mul-mod_left, mul-le-mul_right}
use Rattle.std.proofs.Math.Nat.{div-eq_of_lt, mod-eq_of_lt, lt_of_mul-lt-mul_right, div-mul-le_self}
use Rattle.jobs_core.specs.Pieces.{in_rounds, piece_of, number_of, place_at, piece_size, AreFair}

-- ---- quotient and remainder of the next number

record IsNext (i k q r : ℕ) : Type 0 where
  pub quotient : (i + 1) / k ≡ q
  pub remainder : (i + 1) % k ≡ r

next_within : (i k : ℕ) → i % k + 1 < k → IsNext i k (i / k) (i % k + 1)
next_within i k more =
    let whole : i + 1 ≡ i / k * k + (i % k + 1) = omega (arith, div-add-mod' i k) in
    let quotient : (i + 1) / k ≡ i / k = ap (λ x. x / k) whole ∙ div-mul-add (i / k) k (i % k + 1) more in
    let left : i / k * k + (i + 1) % k ≡ i + 1 = rw quotient at (div-add-mod' (i + 1) k) in
    record { quotient = quotient; remainder = omega (arith, whole, left) }

next_wraps : (i k : ℕ) → 0 < k → k ≤ i % k + 1 → IsNext i k (i / k + 1) 0
next_wraps i k some last =
    let below : i % k < k = mod-lt i some in
    let more : (i / k + 1) * k ≡ i / k * k + 1 * k = add-mul (i / k) 1 k in
    let whole : i + 1 ≡ (i / k + 1) * k + 0 = omega (arith, div-add-mod' i k, more) in
    let quotient : (i + 1) / k ≡ i / k + 1 = ap (λ x. x / k) whole ∙ div-mul-add (i / k + 1) k 0 some in
    let left : (i / k + 1) * k + (i + 1) % k ≡ i + 1 = rw quotient at (div-add-mod' (i + 1) k) in
    record { quotient = quotient; remainder = omega (arith, whole, left) }

-- ---- how many of the places before i went to chunk p

-- where all are dealt one by one, as many as its size of i places (`piece_size`); where all are dealt by blocks:
abbrev by_blocks : (k i p : ℕ) → ℕ
by_blocks k i p = i / (k * 16) * 16 + min 16 (i % (k * 16) - p * 16)

abbrev pub dealt : (n k i p : ℕ) → ℕ
dealt n k i p = if nat_lt i (in_rounds n k) then by_blocks k i p else piece_size i k p

single_own : (i k : ℕ) → 0 < k → piece_size (i + 1) k (i % k) ≡ i / k + 1
single_own i k some = by (cases_lt (i % k + 1) k)
  where
    by : (i % k + 1 < k) ⊎ (k ≤ i % k + 1) → piece_size (i + 1) k (i % k) ≡ i / k + 1
    by (inl more) = let next = next_within i k more in omega (arith, next.quotient, next.remainder)
    by (inr last) = let next = next_wraps i k some last in omega (arith, next.quotient, next.remainder)

single_other : (i k q : ℕ) → 0 < k → q < k → q ≢ i % k → piece_size (i + 1) k q ≡ piece_size i k q
single_other i k q some within other = by (cases_lt (i % k + 1) k)
  where
    by : (i % k + 1 < k) ⊎ (k ≤ i % k + 1) → piece_size (i + 1) k q ≡ piece_size i k q
    by (inl more) = let next = next_within i k more in omega (arith, next.quotient, next.remainder)
    by (inr last) = let next = next_wraps i k some last in let below : i % k < k = mod-lt i some in
        omega (arith, next.quotient, next.remainder)

block_own : (i k : ℕ) → 0 < k → by_blocks k (i + 1) (i % (k * 16) / 16) ≡ i / (k * 16) * 16 + i % (k * 16) % 16 + 1
block_own i k some = by (cases_lt (i % (k * 16) + 1) (k * 16))
  where
    by : (i % (k * 16) + 1 < k * 16) ⊎ (k * 16 ≤ i % (k * 16) + 1)
        → by_blocks k (i + 1) (i % (k * 16) / 16) ≡ i / (k * 16) * 16 + i % (k * 16) % 16 + 1
    by (inl more) = let next = next_within i (k * 16) more in omega (arith, next.quotient, next.remainder)
    by (inr last) =
        let round : 0 < k * 16 = omega arith in
        let next = next_wraps i (k * 16) round last in
        let below : i % (k * 16) < k * 16 = mod-lt i round in
        omega (arith, next.quotient, next.remainder)

block_other : (i k q : ℕ) → 0 < k → q < k → q ≢ i % (k * 16) / 16 → by_blocks k (i + 1) q ≡ by_blocks k i q
block_other i k q some within other = by (cases_lt (i % (k * 16) + 1) (k * 16))
  where
    by : (i % (k * 16) + 1 < k * 16) ⊎ (k * 16 ≤ i % (k * 16) + 1) → by_blocks k (i + 1) q ≡ by_blocks k i q
    by (inl more) = let next = next_within i (k * 16) more in omega (arith, next.quotient, next.remainder)
    by (inr last) =
        let round : 0 < k * 16 = omega arith in
        let next = next_wraps i (k * 16) round last in
        let below : i % (k * 16) < k * 16 = mod-lt i round in
        omega (arith, next.quotient, next.remainder)

-- whole rounds of blocks are whole rounds of single places
round_places : (w k : ℕ) → w * (k * 16) ≡ w * 16 * k
round_places w k = ap (λ x. w * x) (mul_comm k 16) ∙ sym (mul_assoc w 16 k)

-- after whole rounds both count the same
same_after : (w k p : ℕ) → 0 < k → piece_size (w * (k * 16)) k p ≡ by_blocks k (w * (k * 16)) p
same_after w k p some =
    let round : 0 < k * 16 = omega arith in
    let quotient : w * (k * 16) / (k * 16) ≡ w = mul-div_left w round in
    let remainder : w * (k * 16) % (k * 16) ≡ 0 = mul-mod_left w (k * 16) in
    let quotient' : w * (k * 16) / k ≡ w * 16 = ap (λ x. x / k) (round_places w k) ∙ mul-div_left (w * 16) some in
    let remainder' : w * (k * 16) % k ≡ 0 = ap (λ x. x % k) (round_places w k) ∙ mul-mod_left (w * 16) k in
    omega (arith, quotient, remainder, quotient', remainder')

-- ---- a choice whose test is decided

if_below : {X : Type 0} (a b : ℕ) (x y : X) → a < b → (if nat_lt a b then x else y) ≡ x
if_below a b x y h = rw (lt-ltb a b h) refl

if_above : (a b : ℕ) (x y : ℕ) → b ≤ a → (if nat_lt a b then x else y) ≡ y
if_above a b x y h = grind (arith, nat_tests)

-- ---- where a place lies in whole rounds, and where it lies past them

module _ (n k i : ℕ) where
  module _ (small : i < in_rounds n k) where
    piece_in : piece_of n k i ≡ i % (k * 16) / 16
    piece_in = if_below i (in_rounds n k) (i % (k * 16) / 16) (i % k) small

    number_in : number_of n k i ≡ i / (k * 16) * 16 + i % (k * 16) % 16
    number_in = if_below i (in_rounds n k) (i / (k * 16) * 16 + i % (k * 16) % 16) (i / k) small

    dealt_in : (p : ℕ) → dealt n k i p ≡ by_blocks k i p
    dealt_in p = if_below i (in_rounds n k) (by_blocks k i p) (piece_size i k p) small

  module _ (past : in_rounds n k ≤ i) where
    piece_past : piece_of n k i ≡ i % k
    piece_past = if_above i (in_rounds n k) (i % (k * 16) / 16) (i % k) past

    number_past : number_of n k i ≡ i / k
    number_past = if_above i (in_rounds n k) (i / (k * 16) * 16 + i % (k * 16) % 16) (i / k) past

    dealt_past : (p : ℕ) → dealt n k i p ≡ piece_size i k p
    dealt_past p = if_above i (in_rounds n k) (by_blocks k i p) (piece_size i k p) past

pub place_in : (n k p j : ℕ) → j < n / (k * 16) * 16 → place_at n k p j ≡ j / 16 * (k * 16) + (p * 16 + j % 16)
place_in n k p j small = if_below j (n / (k * 16) * 16) (j / 16 * (k * 16) + (p * 16 + j % 16)) (j * k + p) small

pub place_past : (n k p j : ℕ) → n / (k * 16) * 16 ≤ j → place_at n k p j ≡ j * k + p
place_past n k p j past = if_above j (n / (k * 16) * 16) (j / 16 * (k * 16) + (p * 16 + j % 16)) (j * k + p) past

-- ---- one place further

up_to : (n k i p : ℕ) → 0 < k → i < in_rounds n k → dealt n k (i + 1) p ≡ by_blocks k (i + 1) p
up_to n k i p some small = by (cases_lt (i + 1) (in_rounds n k))
  where
    by : (i + 1 < in_rounds n k) ⊎ (in_rounds n k ≤ i + 1) → dealt n k (i + 1) p ≡ by_blocks k (i + 1) p
    by (inl lt) = dealt_in n k (i + 1) lt p
    by (inr ge) =
        let end : i + 1 ≡ n / (k * 16) * (k * 16) = omega arith in
        dealt_past n k (i + 1) ge p ∙ (rw end (same_after (n / (k * 16)) k p some))

-- the place is the next of its chunk
pub dealt_here : (n k i : ℕ) → dealt n k i (piece_of n k i) ≡ number_of n k i
dealt_here n k i = by (cases_lt i (in_rounds n k))
  where
    block : by_blocks k i (i % (k * 16) / 16) ≡ i / (k * 16) * 16 + i % (k * 16) % 16
    block = omega arith

    single : piece_size i k (i % k) ≡ i / k
    single = omega arith

    by : (i < in_rounds n k) ⊎ (in_rounds n k ≤ i) → dealt n k i (piece_of n k i) ≡ number_of n k i
    by (inl lt) = dealt_in n k i lt (piece_of n k i) ∙ ap (λ p. by_blocks k i p) (piece_in n k i lt) ∙ block
        ∙ sym (number_in n k i lt)
    by (inr ge) = dealt_past n k i ge (piece_of n k i) ∙ ap (λ p. piece_size i k p) (piece_past n k i ge) ∙ single
        ∙ sym (number_past n k i ge)

-- then its chunk has one more
pub dealt_own : (n k i : ℕ) → 0 < k → dealt n k (i + 1) (piece_of n k i) ≡ number_of n k i + 1
dealt_own n k i some = by (cases_lt i (in_rounds n k))
  where
    by : (i < in_rounds n k) ⊎ (in_rounds n k ≤ i) → dealt n k (i + 1) (piece_of n k i) ≡ number_of n k i + 1
    by (inl lt) =
        up_to n k i (piece_of n k i) some lt ∙ ap (λ p. by_blocks k (i + 1) p) (piece_in n k i lt) ∙ block_own i k some
        ∙ ap (λ x. x + 1)
        (sym (number_in n k i lt))
    by (inr ge) =
        let more : in_rounds n k ≤ i + 1 = omega arith in
        dealt_past n k (i + 1) more (piece_of n k i) ∙ ap (λ p. piece_size (i + 1) k p) (piece_past n k i ge)
        ∙ single_own i k some ∙ ap (λ x. x + 1)
        (sym (number_past n k i ge))

-- and each other as many as before
pub dealt_other : (n k i q : ℕ) → 0 < k → q < k → q ≢ piece_of n k i → dealt n k (i + 1) q ≡ dealt n k i q
dealt_other n k i q some within other = by (cases_lt i (in_rounds n k))
  where
    by : (i < in_rounds n k) ⊎ (in_rounds n k ≤ i) → dealt n k (i + 1) q ≡ dealt n k i q
    by (inl lt) = up_to n k i q some lt ∙ block_other i k q some within (λ e. other (e ∙ sym (piece_in n k i lt)))
        ∙ sym (dealt_in n k i lt q)
    by (inr ge) =
        let more : in_rounds n k ≤ i + 1 = omega arith in
        dealt_past n k (i + 1) more q ∙ single_other i k q some within (λ e. other (e ∙ sym (piece_past n k i ge)))
        ∙ sym (dealt_past n k i ge q)

-- before the first place there are none
pub dealt_none : (n k p : ℕ) → 0 < k → dealt n k 0 p ≡ 0
dealt_none n k p some = by (cases_lt 0 (in_rounds n k))
  where
    by : (0 < in_rounds n k) ⊎ (in_rounds n k ≤ 0) → dealt n k 0 p ≡ 0
    by (inl lt) =
        let round : 0 < k * 16 = omega arith in
        let quotient : 0 / (k * 16) ≡ 0 = div-eq_of_lt round in
        let remainder : 0 % (k * 16) ≡ 0 = mod-eq_of_lt round in
        dealt_in n k 0 lt p ∙ omega (arith, quotient, remainder)
    by (inr ge) =
        let quotient : 0 / k ≡ 0 = div-eq_of_lt some in
        let remainder : 0 % k ≡ 0 = mod-eq_of_lt some in
        dealt_past n k 0 ge p ∙ omega (arith, quotient, remainder)

-- ---- a place and its number in its chunk

-- the place that has a place's number in its chunk is that place
pub place_back : (n k i : ℕ) → 0 < k → place_at n k (piece_of n k i) (number_of n k i) ≡ i
place_back n k i some = by (cases_lt i (in_rounds n k))
  where
    by : (i < in_rounds n k) ⊎ (in_rounds n k ≤ i) → place_at n k (piece_of n k i) (number_of n k i) ≡ i
    by (inl lt) =
        let in_round : i / (k * 16) < n / (k * 16) = lt_of_mul-lt-mul_right (k * 16)
        (omega (arith, div-mul-le_self i (k * 16))) in
        let number : i / (k * 16) * 16 + i % (k * 16) % 16 < n / (k * 16) * 16 = omega arith in
        let round : (i / (k * 16) * 16 + i % (k * 16) % 16) / 16 ≡ i / (k * 16) = omega arith in
        let rest : (i / (k * 16) * 16 + i % (k * 16) % 16) % 16 ≡ i % (k * 16) % 16 = omega arith in
        ap₂ (λ p j. place_at n k p j) (piece_in n k i lt) (number_in n k i lt) ∙ place_in n k _ _ number
        ∙ rw (round, rest)
        (omega (arith, div-add-mod' i (k * 16)))
    by (inr ge) =
        let past : n / (k * 16) * 16 ≤ i / k = le-div (n / (k * 16) * 16) i k some
        (omega (arith, round_places (n / (k * 16)) k)) in
        ap₂ (λ p j. place_at n k p j) (piece_past n k i ge) (number_past n k i ge) ∙ place_past n k _ _ past
        ∙ div-add-mod' i k

-- its chunk has so many
pub number_within : (n k i : ℕ) → 0 < k → i < n → number_of n k i < piece_size n k (piece_of n k i)
number_within n k i some within = by (cases_lt i (in_rounds n k))
  where
    single : (i / k < n / k) ⊎ (n / k ≤ i / k) → i / k < piece_size n k (i % k)
    single (inl lt) = omega arith
    single (inr ge) =
        let most : i / k ≤ n / k = le-div (i / k) n k some (omega (arith, div-mul-le_self i k)) in
        let same : i / k ≡ n / k = omega arith in
        let whole : i / k * k ≡ n / k * k = ap (λ x. x * k) same in
        omega (arith, div-add-mod' i k, div-add-mod' n k)

    by : (i < in_rounds n k) ⊎ (in_rounds n k ≤ i) → number_of n k i < piece_size n k (piece_of n k i)
    by (inl lt) =
        let in_round : i / (k * 16) < n / (k * 16) = lt_of_mul-lt-mul_right (k * 16)
        (omega (arith, div-mul-le_self i (k * 16))) in
        let few : n / (k * 16) * 16 ≤ n / k = le-div (n / (k * 16) * 16) n k some
        (omega (arith, round_places (n / (k * 16)) k, div-mul-le_self n (k * 16))) in
        omega (arith, number_in n k i lt)
    by (inr ge) =
        let there : i / k < piece_size n k (i % k) = single (cases_lt (i / k) (n / k)) in
        omega (arith, number_past n k i ge, piece_past n k i ge)

-- each place of a chunk is one of all
pub place_below : (n k p j : ℕ) → 0 < k → p < k → j < piece_size n k p → place_at n k p j < n
place_below n k p j some within few = by (cases_lt j (n / (k * 16) * 16))
  where
    single : (j < n / k) ⊎ (n / k ≤ j) → j * k + p < n
    single (inl lt) =
        let more : (j + 1) * k ≡ j * k + 1 * k = add-mul j 1 k in
        let most : (j + 1) * k ≤ n / k * k = mul-le-mul_right k (omega arith) in
        omega (arith, more, most, div-mul-le_self n k)
    single (inr ge) =
        let same : j ≡ n / k = omega arith in
        let whole : j * k ≡ n / k * k = ap (λ x. x * k) same in
        omega (arith, whole, div-add-mod' n k)

    by : (j < n / (k * 16) * 16) ⊎ (n / (k * 16) * 16 ≤ j) → place_at n k p j < n
    by (inl lt) =
        let more : (j / 16 + 1) * (k * 16) ≡ j / 16 * (k * 16) + 1 * (k * 16) = add-mul (j / 16) 1 (k * 16) in
        let most : (j / 16 + 1) * (k * 16) ≤ n / (k * 16) * (k * 16) = mul-le-mul_right (k * 16) (omega arith) in
        rw (lt-ltb j (n / (k * 16) * 16) lt) (omega (arith, more, most, div-mul-le_self n (k * 16)))
    by (inr ge) = rw (if_above j (n / (k * 16) * 16) (j / 16 * (k * 16) + (p * 16 + j % 16)) (j * k + p) ge)
        (single (cases_lt j (n / k)))

-- so is its place in whole rounds, and past them
pub block_below : (n k p j : ℕ) → 0 < k → p < k → j < piece_size n k p → j < n / (k * 16) * 16
    → j / 16 * (k * 16) + (p * 16 + j % 16) < n
block_below n k p j some within few small = rw (← place_in n k p j small) (place_below n k p j some within few)

pub single_below : (n k p j : ℕ) → 0 < k → p < k → j < piece_size n k p → n / (k * 16) * 16 ≤ j → j * k + p < n
single_below n k p j some within few past = rw (← place_past n k p j past) (place_below n k p j some within few)

-- the sizes of chunks differ by at most one
pub fair : (n k : ℕ) → AreFair n k
fair n k p lt = (omega arith, omega arith)

-- there is such a chunk
pub piece_within : (n k i : ℕ) → 0 < k → piece_of n k i < k
piece_within n k i some = by (cases_lt i (in_rounds n k))
  where
    by : (i < in_rounds n k) ⊎ (in_rounds n k ≤ i) → piece_of n k i < k
    by (inl lt) =
        let round : 0 < k * 16 = omega arith in
        let below : i % (k * 16) < k * 16 = mod-lt i round in
        omega (arith, piece_in n k i lt)
    by (inr ge) = let below : i % k < k = mod-lt i some in omega (arith, piece_past n k i ge)

-- the only chunk has all places
pub single_place : (n j : ℕ) → place_at n 1 0 j ≡ j
single_place n j = grind (arith, nat_tests)

pub single_size : (n : ℕ) → piece_size n 1 0 ≡ n
single_size n = omega arith
