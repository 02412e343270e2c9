-- The first line, and the others. The definition of lines goes byte by byte, the code from line feed to line feed: by
-- induction over the bytes, with the step's test as an argument so that both its cases compute, the first line ends at
-- the first line feed, and without one all the bytes are one line.
use Rattle.std.proofs.Common.{◌≡◌, ℕ, suc, ◌+◌, ◌<◌, ◌≤◌, Bool, true, false, cond, List, [], ◌∷◌, length, take, drop}
use Rattle.std.proofs.Common.{ap, refl, arith, nat_lt}
use native.Mathlib.Numerals.{unary_clauses}
use borrow.Author.Tests.{ltb-true, ltb-false}
use Rattle.std.specs.Prelude.{◌==◌, Some, None, not}
use Rattle.std.specs.List.{position_or_len, position}
use Rattle.book_model.specs.lines.Lines.{raw_lines, onto_first}

-- where the first line feed stands, or the length
abbrev pub at_end : List ℕ → ℕ
at_end bs = position_or_len (λ b. b == 10) bs

-- the first line of one byte more
raw_step : (b : ℕ) (bs : List ℕ) (t : Bool)
    → (at_end bs < length bs → raw_lines bs ≡ take (at_end bs) bs ∷ raw_lines (drop (at_end bs + 1) bs))
    → cond (not t) (1 + at_end bs) 0 < length (b ∷ bs)
    → cond t ([] ∷ raw_lines bs) (onto_first b (raw_lines bs))
    ≡ take (cond (not t) (1 + at_end bs) 0) (b ∷ bs) ∷ raw_lines (drop (cond (not t) (1 + at_end bs) 0 + 1) (b ∷ bs))
raw_step b bs true first h = refl
raw_step b bs false first h =
    let rest : raw_lines bs ≡ take (at_end bs) bs ∷ raw_lines (drop (at_end bs + 1) bs) = first (omega arith) in
    let one : 1 + at_end bs ≡ suc (at_end bs) = omega arith in
    rw (rest, one) (simp unary_clauses)

-- the first line ends at the first line feed
pub raw_first : (bs : List ℕ) → at_end bs < length bs → raw_lines bs ≡ take (at_end bs) bs ∷ raw_lines
    (drop (at_end bs + 1) bs)
raw_first [] h = absurd (omega arith)
raw_first (b ∷ bs) h = raw_step b bs (b == 10) (raw_first bs) h

-- one line, where there is a byte
abbrev pub alone : List ℕ → List (List ℕ)
alone [] = []
alone (b ∷ bs) = (b ∷ bs) ∷ []

-- one byte more without a line feed
last_step : (b : ℕ) (bs : List ℕ) (t : Bool) → (length bs ≤ at_end bs → raw_lines bs ≡ alone bs)
    → length (b ∷ bs) ≤ cond (not t) (1 + at_end bs) 0
    → cond t ([] ∷ raw_lines bs) (onto_first b (raw_lines bs)) ≡ (b ∷ bs) ∷ []
last_step b bs true last h = absurd (omega arith)
last_step b [] false last h = refl
last_step b (c ∷ bs) false last h =
    let rest : raw_lines (c ∷ bs) ≡ (c ∷ bs) ∷ [] = last (omega arith) in
    ap (onto_first b) rest

-- without a line feed all the bytes are one line
pub raw_last : (bs : List ℕ) → length bs ≤ at_end bs → raw_lines bs ≡ alone bs
raw_last [] h = refl
raw_last (b ∷ bs) h = last_step b bs (b == 10) (raw_last bs) h

-- a found place is the one that was tested
chosen : (t : Bool) (a i : ℕ) → Some i ≡ cond t (Some a) None → (t ≡ true) × (i ≡ a)
chosen true a i h = (refl, cc)
chosen false a i h = cc

-- nothing is found where the test fails
not_chosen : (t : Bool) (a : ℕ) → None ≡ cond t (Some a) None → t ≡ false
not_chosen true a h = cc
not_chosen false a h = refl

-- at a line feed
pub raw_at : (bs : List ℕ) (i : ℕ) → Some i ≡ position (λ b. b == 10) bs
    → raw_lines bs ≡ take i bs ∷ raw_lines (drop (i + 1) bs)
raw_at bs i h =
    let c = chosen (nat_lt (at_end bs) (length bs)) (at_end bs) i h in
    rw c.1 (raw_first bs (ltb-true _ _ c.0))

-- with no line feed
pub raw_none : (bs : List ℕ) → 0 < length bs → None ≡ position (λ b. b == 10) bs → raw_lines bs ≡ bs ∷ []
raw_none [] some h = absurd (omega arith)
raw_none (b ∷ bs) some h =
    raw_last (b ∷ bs) (ltb-false _ _ (not_chosen (nat_lt (at_end (b ∷ bs)) (length (b ∷ bs))) (at_end (b ∷ bs)) h))
