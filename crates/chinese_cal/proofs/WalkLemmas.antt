-- The recursion over the months before one is a walk back over them, and then forwards, for every table. Inquiries are
-- compared as programs, so nothing is assumed of the answers: two of them may be regrouped, and by induction on the
-- number of calls the recursion is the list of months that a walk back collects, tested in order.
use Rattle.std.proofs.Common.{◌≡◌, ◌∙◌, ℕ, zero, suc, ◌-◌, ◌<◌, ◌≤◌, arith, Bool, true, false, refl, sym, ℤ, pos, List}
use Rattle.std.proofs.Common.{[], ◌∷◌, length, take, drop, slice_index_or, if◌then◌else◌, int_lt}
use Rattle.std.proofs.Math.Seq.{take-length}
use Rattle.book_model.specs.calendars.Chinese.{bare, prior, moon_before_fact}
use Rattle.book_model.specs.calendars.Inquiries.{Inquiry, done, ask, and_then}
use Rattle.chinese_cal.specs.Walks.{months_back, one_bare}

-- one inquiry after another, in either grouping
regrouped : {A B C : Type 0} (i : Inquiry A) (f : A → Inquiry B) (g : B → Inquiry C)
    → and_then (and_then i f) g ≡ and_then i (λ a. and_then (f a) g)
unfolding and_then
regrouped (done a) f g = refl
regrouped (ask x next) f g = λ j. ask x (λ v. regrouped (next v) f g j)

-- an inquiry whose answer stands as it is
same_answer : (b : Bool) → (if b then done true else done false) ≡ done b
same_answer true = refl
same_answer false = refl

settled : (i : Inquiry Bool) → and_then i (λ b. if b then done true else done false) ≡ i
unfolding and_then
settled (done b) = same_answer b
settled (ask x next) = λ j. ask x (λ v. settled (next v) j)

-- what is found already, or else whether one of these months has no major term
abbrev or_one_bare : List ℤ → Bool → Inquiry Bool
or_one_bare months found = if found then done true else one_bare months

-- what is found already, or else whether a month has no major term
abbrev or_bare : ℤ → Bool → Inquiry Bool
or_bare month found = if found then done true else bare month

-- a month comes before those after it
month_first : (month : ℤ) (later : List ℤ) (found : Bool) → and_then (or_bare month found) (or_one_bare later)
    ≡ or_one_bare (month ∷ later) found
unfolding and_then one_bare
month_first month later true = refl
month_first month later false = refl

-- a step of the walk, where the rest of it is known
stepped : (first month : ℤ) (later : List ℤ) (back : ℤ → Inquiry (List ℤ)) (before : ℤ → Inquiry Bool)
    → ((m : ℤ) → and_then (back m) one_bare ≡ and_then (before m) (or_one_bare (month ∷ later))) → (past : Bool)
    → and_then (if past then done later else ask (moon_before_fact month) back) one_bare
    ≡ and_then (if past then done false else ask (moon_before_fact month) (λ m. and_then (before m) (or_bare month)))
    (or_one_bare later)
unfolding and_then
stepped first month later back before rest true = refl
stepped first month later back before rest false = λ j. ask (moon_before_fact month) (λ m. one m j)
  where
    one : (m : ℤ) → and_then (back m) one_bare ≡ and_then (and_then (before m) (or_bare month)) (or_one_bare later)
    one m = rest m
        ∙ (λ j. and_then (before m) (λ found. sym (month_first month later found) j))
        ∙ sym (regrouped (before m) (or_bare month) (or_one_bare later))

-- the walk back, and then forwards over the months that it found and those after them
walked : (calls : ℕ) (first month : ℤ) (later : List ℤ) → and_then (months_back calls first month later) one_bare
    ≡ and_then (prior calls first month) (or_one_bare later)
unfolding and_then months_back prior
walked zero first month later = refl
walked (suc calls) first month later = stepped first month later (λ m. months_back calls first m (month ∷ later))
    (prior calls first)
    (λ m. walked calls first m (month ∷ later)) (int_lt month first)

-- the recursion is the walk
pub prior_is_walk : (calls : ℕ) (first month : ℤ)
    → prior calls first month ≡ and_then (months_back calls first month []) one_bare
unfolding one_bare
prior_is_walk calls first month = sym (settled (prior calls first month)) ∙ sym (walked calls first month [])

-- ---- the forward tests by the first of the months and the others
pub none_bare : (months : List ℤ) → length months < 1 → one_bare months ≡ done false
unfolding one_bare
none_bare [] h = refl
none_bare (month ∷ later) h = absurd (omega (arith, h))

pub first_bare : (months : List ℤ) → 1 ≤ length months
    → one_bare months ≡ and_then (bare (slice_index_or months 0 (pos 0)))
    (λ is_bare. if is_bare then done true else one_bare (take (length months - 1) (drop 1 months)))
unfolding one_bare
first_bare [] h = absurd (omega (arith, h))
first_bare (month ∷ later) h =
    let e : length (month ∷ later) - 1 ≡ length later = omega arith in
    let others : later ≡ take (length (month ∷ later) - 1) later = sym (take-length later) ∙ (λ k. take (sym e k) later)
    in
    λ j. and_then (bare month) (λ is_bare. if is_bare then done true else one_bare (others j))

-- a step of the walk back
pub one_back : (calls : ℕ) (first month : ℤ) (later : List ℤ) → 1 ≤ calls → int_lt month first ≡ false
    → months_back calls first month later ≡ ask (moon_before_fact month) (λ before. months_back (calls - 1) first before
    (month ∷ later))
unfolding months_back
one_back zero first month later h not_past = absurd (omega (arith, h))
one_back (suc calls) first month later h not_past =
    let e : calls ≡ suc calls - 1 = omega arith in
    rw not_past (λ j. ask (moon_before_fact month) (λ before. months_back (e j) first before (month ∷ later)))
