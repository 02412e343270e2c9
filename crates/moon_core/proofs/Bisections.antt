-- Bisection: how many tests it makes, and that its answer lies where its bounds do. The tests are those of an iteration
-- times the iterations, by induction, as `AtMost` along the definition. The answer lies between the bounds since the
-- middle of two numbers from one to another does, whatever the tests say; of a run that is void nothing is owed.
use Rattle.std.specs.Prelude.{◌≡◌, ℕ, zero, suc, ◌+◌, ◌*◌, Bool, true, false, if◌then◌else◌, ℤ, ◌+ℤ◌, ◌≤ℤ◌}
use Rattle.std.proofs.Common.{arith}
use Rattle.book_model.specs.Fraction.{whole}
use Rattle.book_model.specs.Interval.{between, ◌⊆◌, product}
use Rattle.book_model.specs.declared.site.Site.{Site}
use Rattle.book_model.specs.declared.site.Site.TheVariants.{BisectEnd}
use Rattle.book_model.specs.declared.tables.TheConstants.{HALF}
use Rattle.book_model.specs.programs.Bisection.{middle_of, are_near_of, angle_past_of, has_passed_of, has_passed_at}
use Rattle.book_model.specs.programs.Bisection.{bisected_of}
use Rattle.book_model.specs.numbers.Expressions.{Expression, World, value, exactly, add}
use Rattle.book_model.specs.numbers.Fractions.{fraction_of}
use Rattle.book_model.specs.programs.Programs.{Program, answer, void, bind, run, valued, outcome, AtMost}
use Rattle.book_model.specs.programs.Programs.{answer_at_most, void_at_most, cell_at_most, compare_at_most}
use Rattle.book_model.specs.numbers.Ranges.{IsBetween}
use Rattle.book_model.proofs.Estimates.{wider, valued_same, sum_between}
use Rattle.book_model.proofs.FactRuns.{parts}
use Rattle.book_model.proofs.Leads.{at_most_bind, at_most_more}
use Rattle.moon_core.proofs.PhaseRanges.{few_if, scaled_between}
use Rattle.book_model.proofs.Values.{value_proper}

-- ---- how many tests
near_few : (l u : Expression) → AtMost 1 (are_near_of l u)
unfolding are_near_of
near_few l u = compare_at_most (λ t. answer_at_most)

passed_few : (n : ℕ) (f : Expression → Program Expression) → ((x : Expression) → AtMost n (f x)) → (y x : Expression)
    → AtMost (n + 2) (has_passed_at f y x)
unfolding has_passed_at has_passed_of angle_past_of
passed_few n f h y x = at_most_bind n 2 (h x) (λ v. at_most_bind 1 1 (cell_at_most (λ q. answer_at_most))
    (λ r. compare_at_most (λ t. answer_at_most)))

-- each iteration of a bisection makes those of its function and three more
pub bisected_few : (n : ℕ) (f : Expression → Program Expression) → ((x : Expression) → AtMost n (f x))
    → (more : ℕ) (y l u : Expression)
    → AtMost (more * (n + 3) + 1) (bisected_of more f y l u)
unfolding bisected_of
bisected_few n f h zero y l u = at_most_more 1 (0 * (n + 3) + 1) (omega arith)
    (at_most_bind 1 0 (near_few l u) (λ near. few_if 0 near _ _ answer_at_most void_at_most))
bisected_few n f h (suc more) y l u =
    at_most_more (1 + (n + 2 + (more * (n + 3) + 1))) (suc more * (n + 3) + 1) (omega arith)
    (at_most_bind 1 (n + 2 + (more * (n + 3) + 1)) (near_few l u)
    (λ near. few_if (n + 2 + (more * (n + 3) + 1)) near _ _ answer_at_most
    (at_most_bind (n + 2) (more * (n + 3) + 1) (passed_few n f h y (middle_of l u))
    (λ passed. few_if (more * (n + 3) + 1) passed _ _ (bisected_few n f h more y l (middle_of l u))
    (bisected_few n f h more y (middle_of l u) u)))))

-- ---- from where to where it lies
-- half of what lies from a to b, as the sum of two from lo to hi does, lies from lo to hi
pub record AreHalved (lo hi a b : ℤ) : Type 0 where
  pub halved : product (between (whole a) (whole b)) (exactly (fraction_of HALF)) ⊆ between (whole lo) (whole hi)
  pub low : a ≤ℤ (lo +ℤ lo)
  pub high : (hi +ℤ hi) ≤ℤ b

middle_between : (w : World) (lo hi a b : ℤ) (l u : Expression) → AreHalved lo hi a b → IsBetween lo hi (value w l)
    → IsBetween lo hi (value w u)
    → IsBetween lo hi (value w (middle_of l u))
unfolding middle_of value
middle_between w lo hi a b l u z h k =
    let s = wider _ _ a b _ z.low z.high (sum_between lo hi lo hi _ _ h k) in
    scaled_between a b lo hi (fraction_of HALF) _ z.halved (value_proper w (add l u)) s

either : (w : World) (lo hi : ℤ) (t : Bool) (p q : Program Expression) (v : Expression)
    → (outcome (run w p) ≡ valued v → IsBetween lo hi (value w v))
    → (outcome (run w q) ≡ valued v → IsBetween lo hi (value w v)) → outcome (run w (if t then p else q)) ≡ valued v
    → IsBetween lo hi (value w v)
either w lo hi true p q v h k e = h e
either w lo hi false p q v h k e = k e

no_value : (w : World) (s : Site) (v : Expression) → outcome (run w (void s)) ≡ valued v → ⊥
unfolding outcome run
no_value w s v e = absurd (cc)

pub bisected_between : (w : World) (lo hi a b : ℤ) → AreHalved lo hi a b → (f : Expression → Program Expression)
    (more : ℕ) (y l u v : Expression)
    → IsBetween lo hi (value w l) → IsBetween lo hi (value w u) → outcome (run w (bisected_of more f y l u)) ≡ valued v
    → IsBetween lo hi (value w v)
unfolding bisected_of
bisected_between w lo hi a b z f zero y l u v h k e =
    let n = parts w (are_near_of l u) _ v e in
    either w lo hi n.part (answer (middle_of l u)) (void BisectEnd) v
    (λ t. rw (← valued_same w (middle_of l u) v t) (middle_between w lo hi a b l u z h k))
    (λ t. absurd (no_value w BisectEnd v t)) n.then
bisected_between w lo hi a b z f (suc more) y l u v h k e =
    let n = parts w (are_near_of l u) _ v e in
    let m = middle_between w lo hi a b l u z h k in
    let halves : Bool → Program Expression = λ passed. if passed then bisected_of more f y l (middle_of l u)
    else bisected_of more f y (middle_of l u) u in
    either w lo hi n.part (answer (middle_of l u)) (bind (has_passed_at f y (middle_of l u)) halves) v
    (λ t. rw (← valued_same w (middle_of l u) v t) m)
    (λ t. let p = parts w (has_passed_at f y (middle_of l u)) halves v t in
    either w lo hi p.part (bisected_of more f y l (middle_of l u)) (bisected_of more f y (middle_of l u) u) v
    (λ s. bisected_between w lo hi a b z f more y l (middle_of l u) v h m s)
    (λ s. bisected_between w lo hi a b z f more y (middle_of l u) u v m k s)
    p.then) n.then
