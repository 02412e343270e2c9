-- What quotients of counts leave. The definitions read a divisor of 0 as 1, so each lemma goes by the cases of the
-- divisor: for one above 0 the quotient is that of the definitions, whose bounds (`floor_quotient_is`) say what is left
-- and how large.
use Rattle.std.specs.Prelude.{◌≡◌, ℕ, suc, ◌-◌, ◌<◌, ℤ, pos, ◌*ℤ◌, ◌-ℤ◌, ◌≤ℤ◌, ◌<ℤ◌, refl}
use Rattle.std.proofs.Common.{zero, arith}
use Rattle.std.proofs.lemmas.Int.{ints}
use Rattle.exact_math.specs.Fraction.{floor_quotient}
use Rattle.exact_math.proofs.Floors.{floor_quotient_is}
use Rattle.exact_math.specs.Quotients.{amod, modulo}

-- what is left of a number by the quotient of the one before it, and how large it is
pub record IsLeft (n q : ℤ) (d : ℕ) : Type 0 where
  pub same : n -ℤ q *ℤ pos d ≡ amod n d
  pub from : pos 1 ≤ℤ (n -ℤ q *ℤ pos d)
  pub to : (n -ℤ q *ℤ pos d) ≤ℤ pos d

pub left_lies : (n q : ℤ) (d : ℕ) → 0 < d → q ≡ floor_quotient (n -ℤ pos 1) (d - 1) → IsLeft n q d
left_lies n q zero h k = absurd (omega arith)
left_lies n q (suc d) h k =
    let e : suc d - 1 ≡ d = omega arith in
    let f = floor_quotient_is (n -ℤ pos 1) d in
    let is : q ≡ floor_quotient (n -ℤ pos 1) d = rw e at k in
    rw is (record {
      same = rw e refl;
      from = omega (arith, ints, f.not_above, f.close);
      to = omega (arith, ints, f.not_above, f.close);
    })

-- the same, of the quotient of the number itself
pub record IsRest (n q : ℤ) (d : ℕ) : Type 0 where
  pub same : n -ℤ q *ℤ pos d ≡ modulo n d
  pub from : pos 0 ≤ℤ (n -ℤ q *ℤ pos d)
  pub to : (n -ℤ q *ℤ pos d) <ℤ pos d

pub rest_lies : (n q : ℤ) (d : ℕ) → 0 < d → q ≡ floor_quotient n (d - 1) → IsRest n q d
rest_lies n q zero h k = absurd (omega arith)
rest_lies n q (suc d) h k =
    let e : suc d - 1 ≡ d = omega arith in
    let f = floor_quotient_is n d in
    let is : q ≡ floor_quotient n d = rw e at k in
    rw is (record {
      same = rw e refl;
      from = omega (arith, ints, f.not_above, f.close);
      to = omega (arith, ints, f.not_above, f.close);
    })
