-- Requests, one further.
use Rattle.std.proofs.Common.{◌≡◌, ℕ, suc, ◌+◌, ◌-◌, ◌<◌, List, [], ◌∷◌, ◌++◌, append-nil, append_assoc, ◌≤◌, arith}
use Rattle.book_model.specs.declared.request.Request.{Request}
use Rattle.almanac_core.specs.Almanac.{lines_from}
use Rattle.almanac_core.specs.Sample.{state_after, sample_line_of, sample_from}

-- one more request of so many lines
pub line_on : (line : ℕ → Request) (many passed : ℕ) (done now all : List Request) (request : Request) → passed < many
    → request ≡ line (passed + 1)
    → done ++ lines_from line (passed + 1) (many - passed) ≡ all
    → now ≡ done ++ request ∷ [] → now ++ lines_from line (passed + 1 + 1) (many - (passed + 1)) ≡ all
line_on line many passed done now all request h is old added =
    let more : many - passed ≡ suc (many - (passed + 1)) = omega arith in
    let split : done ++ (line (passed + 1) ∷ lines_from line (passed + 1 + 1) (many - (passed + 1))) ≡ all =
    rw more at old in
    rw (added, append_assoc, is) split

-- one more request of a sample
pub sample_on : (state index count : ℕ) (done now all : List Request) (request : Request) → index < count
    → request ≡ sample_line_of (state_after state) index
    → done ++ sample_from state index (count - index) ≡ all
    → now ≡ done ++ request ∷ [] → now ++ sample_from (state_after state) (index + 1) (count - (index + 1)) ≡ all
sample_on state index count done now all request h is old added =
    let more : count - index ≡ suc (count - (index + 1)) = omega arith in
    let split : done ++ (sample_line_of (state_after state) index ∷ sample_from (state_after state) (index + 1)
    (count - (index + 1))) ≡ all = rw more at old in
    rw (added, append_assoc, is) split

-- nothing is left of so many lines
pub all_done : (line : ℕ → Request) (many passed : ℕ) (done all : List Request) → many ≤ passed
    → done ++ lines_from line (passed + 1) (many - passed) ≡ all
    → done ≡ all
all_done line many passed done all h is =
    let none : many - passed ≡ 0 = omega arith in
    let kept : done ++ [] ≡ all = rw none at is in
    rw append-nil at kept

-- nor of a sample
pub sample_done : (state index count : ℕ) (done all : List Request) → count ≤ index
    → done ++ sample_from state index (count - index) ≡ all → done ≡ all
sample_done state index count done all h is =
    let none : count - index ≡ 0 = omega arith in
    let kept : done ++ [] ≡ all = rw none at is in
    rw append-nil at kept
