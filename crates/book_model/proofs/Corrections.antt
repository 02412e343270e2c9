-- The polynomial of ΔT, term by term, and the sizes of its powers.
use Rattle.std.specs.Prelude.{◌≡◌, ℕ, zero, suc, ◌+◌, ◌*◌, ◌^◌, ◌≤◌, ℤ, pos, negsuc, ◌*ℤ◌, ◌≤ℤ◌, unsigned_abs, List}
use Rattle.std.specs.Prelude.{length, slice_index_or, refl}
use Rattle.std.proofs.Common.{arith, add-one}
use Rattle.std.proofs.lemmas.Int.{ints, unsigned_abs-mul}
use Rattle.std.proofs.Math.Nat.{mul-le-mul_left, mul-le-mul_right, pow-suc, pow-zero}
use Rattle.std.specs.Prelude.{◌<ℤ◌, int_le, Bool, true, false, if◌then◌else◌}
use Rattle.std.specs.Prelude.{Some, Ok}
use Rattle.std.specs.Ordering.{int_eq}
use Rattle.std.proofs.lemmas.Bool.Decides.{Decides-int_eq}
use Rattle.exact_math.specs.Fraction.{whole, floor}
use Rattle.exact_math.proofs.Intervals.{within_refl}
use Rattle.book_model.specs.calendars.Gregorian.{year_of_day}
use Rattle.book_model.specs.programs.Leading.{Exact, Leads, next_turn}
use Rattle.book_model.specs.declared.frac.Frac.{Frac}
use Rattle.book_model.specs.declared.site.Site.TheVariants.{Year}
use Rattle.book_model.specs.sky.Correction.{int_power, no_fraction, polynomial_to, polynomial_of, year_of, is_between}
use Rattle.book_model.specs.numbers.Expressions.{World, value, exactly, integer, add, scale}
use Rattle.book_model.specs.numbers.Fractions.{fraction_of}
use Rattle.book_model.specs.programs.Programs.{Program, years, cell_of, cell_at, answer, AtMost}
use Rattle.book_model.proofs.Leads.{leads_cell, leads_answer}

pub polynomial_none : (cs : List Frac) (x : ℤ) → polynomial_to cs x 0 ≡ integer (pos 0)
unfolding polynomial_to
polynomial_none cs x = refl

pub polynomial_more : (cs : List Frac) (x : ℤ) (i : ℕ) → polynomial_to cs x (i + 1)
    ≡ add (polynomial_to cs x i) (scale (fraction_of (slice_index_or cs i no_fraction)) (integer (int_power x i)))
unfolding polynomial_to
polynomial_more cs x i = rw add-one refl

pub polynomial_all : (cs : List Frac) (x : ℤ) (i : ℕ) → i ≡ length cs → polynomial_of cs x ≡ polynomial_to cs x i
unfolding polynomial_of
polynomial_all cs x i e = rw e refl

pub power_none : (x : ℤ) → int_power x 0 ≡ pos 1
unfolding int_power
power_none x = refl

pub power_more : (x : ℤ) (i : ℕ) → int_power x (i + 1) ≡ int_power x i *ℤ x
unfolding int_power
power_more x i = rw add-one refl

size_product : (a b : ℤ) (m n : ℕ) → unsigned_abs a ≤ m → unsigned_abs b ≤ n → unsigned_abs (a *ℤ b) ≤ m * n
size_product a b m n h k = rw (unsigned_abs-mul a b) (let p = mul-le-mul_right (unsigned_abs b) h in
    let q = mul-le-mul_left m k in omega (arith, p, q))

-- a number of size m at most has powers of size m^k at most
pub power_size : (m : ℕ) (x : ℤ) (k : ℕ) → unsigned_abs x ≤ m → unsigned_abs (int_power x k) ≤ m ^ k
unfolding int_power
power_size m x zero h = let e : m ^ 0 ≡ 1 = pow-zero m in rw e (omega arith)
power_size m x (suc k) h = let r = size_product (int_power x k) x (m ^ k) m (power_size m x k h) h in
    let e : m ^ suc k ≡ m ^ k * m = pow-suc m k in rw e r

pub few_of_two : {A : Type 0} (n : ℕ) (b : Bool) (p q : Program A) → AtMost n p → AtMost n q
    → AtMost n (if b then p else q)
few_of_two n true p q h k = h
few_of_two n false p q h k = k

-- whether a number lies between two others
pub between_yes : (low high z : ℤ) → low ≤ℤ z → z ≤ℤ high → is_between low high z ≡ true
between_yes low high z h k =
    let e : true ≡ int_le low z = omega (arith, ints) in
    let f : true ≡ int_le z high = omega (arith, ints) in
    rw (← e, ← f) refl

pub below_no : (low high z : ℤ) → z <ℤ low → is_between low high z ≡ false
below_no low high z h = let e : false ≡ int_le low z = omega (arith, ints) in rw (← e) refl

pub floor_whole : (n : ℤ) → floor (whole n) ≡ n
floor_whole (pos n) = omega (arith, ints)
floor_whole (negsuc n) = omega (arith, ints)

pub year_of_whole : (d : ℤ) → cell_at years (exactly (whole d)) ≡ Some (year_of_day d)
unfolding cell_at cell_of
year_of_whole d = let e : int_eq (year_of_day (floor (whole d))) (year_of_day (floor (whole d)))
    ≡ true = (Decides-int_eq (year_of_day (floor (whole d))) (year_of_day (floor (whole d)))).1 refl in
    rw (e, floor_whole d) refl

-- the year of a whole day is decided
pub leads_year : (w : World) (d y : ℤ) (b a : ℕ) → y ≡ year_of_day d → a ≡ next_turn b
    → Leads w Exact (year_of (integer d)) b a (Ok y)
unfolding year_of value
leads_year w d y b a e f =
    rw (e, f) (leads_cell Year years (integer d) (exactly (whole d)) (year_of_day d) answer
    (within_refl (exactly (whole d))) (year_of_whole d)
    (leads_answer refl))
