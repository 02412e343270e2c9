-- The series of sine and cosine on intervals are narrower for a narrower interval and for a greater depth.
use Rattle.std.proofs.Common.{◌≡◌, ℕ, suc, refl, sym, ◌∙◌, arith, Bool, true, false, cond}
use Rattle.std.proofs.lemmas.Int.{ints}
use Rattle.exact_math.specs.Fraction.{Fraction, ◌≤F◌, times, is_at_most}
use Rattle.exact_math.specs.Interval.{Interval, everything, between, IsProper, AreWithin, ◌⊆◌, hull}
use Rattle.exact_math.specs.Sums.{lower, upper}
use Rattle.exact_math.proofs.Fractions.{le_refl, le_trans, at_most_true, smaller_first, smaller_second, larger_first}
use Rattle.exact_math.proofs.Fractions.{larger_second}
use Rattle.exact_math.proofs.Intervals.{within_trans, within_everything}
use Rattle.exact_math.proofs.Certificates.{zero_F}
use Rattle.exact_math.proofs.Hulls.{true_at_most}
use Rattle.exact_math.proofs.Narrowing.{Narrowing}
use Rattle.exact_math.proofs.Alternating.{sums_nested, later_sums_nested, lower_rises, upper_rises, lower_falls}
use Rattle.exact_math.proofs.Alternating.{upper_falls, sum_endpoints_in_order}
use Rattle.book_model.specs.numbers.Series.{is_inside, sine_term, cosine_term, four_fifths, sine_series, cosine_series}
use Rattle.book_model.proofs.Terms.{IsUpTo, sine_halving, sine_rising, cosine_halving, cosine_falling}

pub record Inside (lo hi a b : Fraction) : Type 0 where
  pub above : lo ≤F a
  pub below : b ≤F hi

inside_by : (lo hi a b : Fraction) (s t : Bool) → is_at_most lo a ≡ s → is_at_most b hi ≡ t → cond s t false ≡ true
    → Inside lo hi a b
inside_by lo hi a b true t e f h =
    record { above = at_most_true lo a e; below = at_most_true b hi (sym (sym f ∙ refl) ∙ h) }
inside_by lo hi a b false t e f h = absurd (cc)

pub inside_out : (lo hi a b : Fraction) → is_inside lo hi a b ≡ true → Inside lo hi a b
inside_out lo hi a b h = inside_by lo hi a b (is_at_most lo a) (is_at_most b hi) refl refl h

pub inside_in : (lo hi a b : Fraction) → Inside lo hi a b → is_inside lo hi a b ≡ true
inside_in lo hi a b h = rw (true_at_most lo a h.above, true_at_most b hi h.below) refl

-- an interval or, where the test fails, everything
pub by_guard : (s t : Bool) (i j : Interval) → (t ≡ true → (s ≡ true) × (i ⊆ j))
    → cond s i everything ⊆ cond t j everything
by_guard s false i j h = record { endpoints = tt }
by_guard true true i j h = (h refl).1
by_guard false true i j h = absurd (let e = (h refl).0 in cc)

-- ---- arguments
within_fifths : (x : Fraction) → zero_F ≤F x → x ≤F four_fifths → IsUpTo 4 5 x
unfolding times
within_fifths x h k = record { nonneg = h; bound = record { cross = omega (arith, ints, k.cross) } }

-- a function that has its lower endpoint at f n and its upper endpoint at g n of the endpoints
pub record Points (a b c d : Fraction) : Type 0 where
  pub c_nonneg : IsUpTo 4 5 c
  pub a_in : IsUpTo 4 5 a
  pub b_in : IsUpTo 4 5 b
  pub d_in : IsUpTo 4 5 d
  pub low : c ≤F a
  pub high : b ≤F d

points : (a b c d : Fraction) → a ≤F b → AreWithin (between a b) (between c d) → Inside zero_F four_fifths c d
    → Points a b c d
points a b c d p h i =
    let ca = h.0 in
    let bd = h.1 in
    let a0 = le_trans zero_F c a i.above ca in
    let b1 = le_trans b d four_fifths bd i.below in
    record {
      c_nonneg = within_fifths c i.above (le_trans c a four_fifths ca (le_trans a b four_fifths p b1));
      a_in = within_fifths a a0 (le_trans a b four_fifths p b1);
      b_in = within_fifths b (le_trans zero_F a b a0 p) b1;
      d_in = within_fifths d (le_trans zero_F b d (le_trans zero_F a b a0 p) bd) i.below;
      low = ca;
      high = bd;
    }

pub narrower_inside : (lo hi a b c d : Fraction) → AreWithin (between a b) (between c d) → Inside lo hi c d
    → is_inside lo hi a b ≡ true
narrower_inside lo hi a b c d h i = inside_in lo hi a b
    (record { above = le_trans lo c a i.above h.0; below = le_trans b d hi h.1 i.below })

-- ---- sine
pub sine_lowers : (n : ℕ) (x y : Fraction) → IsUpTo 4 5 x → IsUpTo 4 5 y → x ≤F y
    → lower (sine_term x) n ≤F lower (sine_term y) n
sine_lowers n x y w v h = lower_rises n (sine_term x) (sine_term y) ((sine_halving x w).nonneg (suc n))
    ((sine_halving y v).nonneg (suc n))
    (sine_rising x y w v h)

pub sine_uppers : (n : ℕ) (x y : Fraction) → IsUpTo 4 5 x → IsUpTo 4 5 y → x ≤F y
    → upper (sine_term x) n ≤F upper (sine_term y) n
sine_uppers n x y w v h = upper_rises n (sine_term x) (sine_term y) ((sine_halving x w).nonneg (suc n))
    ((sine_halving y v).nonneg (suc n))
    (sine_rising x y w v h)

sine_endpoints : (n : ℕ) (i j : Interval) → IsProper i → AreWithin i j → sine_series n i ⊆ sine_series n j
unfolding sine_series
sine_endpoints n i everything p h = record { endpoints = tt }
sine_endpoints n everything (between c d) p h = absurd h
sine_endpoints n (between a b) (between c d) p h =
    by_guard (is_inside zero_F four_fifths a b) (is_inside zero_F four_fifths c d) _ _ λ t.
    let i = inside_out zero_F four_fifths c d t in
    let w = points a b c d p h i in (
      narrower_inside zero_F four_fifths a b c d h i,
      record { endpoints = (sine_lowers n c a w.c_nonneg w.a_in w.low, sine_uppers n b d w.b_in w.d_in w.high) },
    )

pub sine_within : (n : ℕ) {i j : Interval} → IsProper i → i ⊆ j → sine_series n i ⊆ sine_series n j
sine_within n {i} {j} p h = sine_endpoints n i j p h.endpoints

pub sine_deeper : (n : ℕ) (i : Interval) → IsProper i → sine_series (suc n) i ⊆ sine_series n i
unfolding sine_series
sine_deeper n everything p = record { endpoints = tt }
sine_deeper n (between a b) p =
    by_guard (is_inside zero_F four_fifths a b) (is_inside zero_F four_fifths a b) _ _ λ t.
    let i = inside_out zero_F four_fifths a b t in
    let w = points a b a b p (le_refl a, le_refl b) i in (
      t,
      record {
        endpoints = (
          (sums_nested n (sine_term a) (sine_halving a w.a_in)).0,
          (sums_nested n (sine_term b) (sine_halving b w.b_in)).1,
        );
      },
    )

pub sine_narrows : (n : ℕ) {i j : Interval} → IsProper i → i ⊆ j → sine_series (suc n) i ⊆ sine_series n j
sine_narrows n {i} {j} p h = within_trans (sine_deeper n i p) (sine_within n p h)

-- ---- cosine, from depth 1 on
pub cosine_lowers : (n : ℕ) (x y : Fraction) → IsUpTo 4 5 x → IsUpTo 4 5 y → x ≤F y
    → lower (cosine_term y) (suc n) ≤F lower (cosine_term x) (suc n)
cosine_lowers n x y w v h = lower_falls n (cosine_term x) (cosine_term y) ((cosine_halving x w).nonneg (suc n))
    ((cosine_halving y v).nonneg (suc n))
    (cosine_falling x y w v h)

pub cosine_uppers : (n : ℕ) (x y : Fraction) → IsUpTo 4 5 x → IsUpTo 4 5 y → x ≤F y
    → upper (cosine_term y) (suc n) ≤F upper (cosine_term x) (suc n)
cosine_uppers n x y w v h = upper_falls n (cosine_term x) (cosine_term y) ((cosine_halving x w).nonneg (suc n))
    ((cosine_halving y v).nonneg (suc n))
    (cosine_falling x y w v h)

cosine_endpoints : (n : ℕ) (i j : Interval) → IsProper i → AreWithin i j → cosine_series (suc n) i ⊆ cosine_series
    (suc n) j
unfolding cosine_series
cosine_endpoints n i everything p h = record { endpoints = tt }
cosine_endpoints n everything (between c d) p h = absurd h
cosine_endpoints n (between a b) (between c d) p h =
    by_guard (is_inside zero_F four_fifths a b) (is_inside zero_F four_fifths c d) _ _ λ t.
    let i = inside_out zero_F four_fifths c d t in
    let w = points a b c d p h i in (
      narrower_inside zero_F four_fifths a b c d h i,
      record { endpoints = (cosine_lowers n b d w.b_in w.d_in w.high, cosine_uppers n c a w.c_nonneg w.a_in w.low) },
    )

pub cosine_within : (n : ℕ) {i j : Interval} → IsProper i → i ⊆ j → cosine_series (suc n) i ⊆ cosine_series (suc n) j
cosine_within n {i} {j} p h = cosine_endpoints n i j p h.endpoints

pub cosine_deeper : (n : ℕ) (i : Interval) → IsProper i → cosine_series (suc (suc n)) i ⊆ cosine_series (suc n) i
unfolding cosine_series
cosine_deeper n everything p = record { endpoints = tt }
cosine_deeper n (between a b) p =
    by_guard (is_inside zero_F four_fifths a b) (is_inside zero_F four_fifths a b) _ _ λ t.
    let i = inside_out zero_F four_fifths a b t in
    let w = points a b a b p (le_refl a, le_refl b) i in (
      t,
      record {
        endpoints = (
          (later_sums_nested n (cosine_term b) (cosine_halving b w.b_in)).0,
          (later_sums_nested n (cosine_term a) (cosine_halving a w.a_in)).1,
        );
      },
    )

pub cosine_narrows : (n : ℕ) {i j : Interval} → IsProper i → i ⊆ j → cosine_series (suc (suc n)) i ⊆ cosine_series
    (suc n) j
cosine_narrows n {i} {j} p h = within_trans (cosine_deeper n i p) (cosine_within n p h)

-- ---- proper intervals have proper enclosures
guard_proper : (t : Bool) (i : Interval) → (t ≡ true → IsProper i) → IsProper (cond t i everything)
guard_proper true i h = h refl
guard_proper false i h = tt

pub sine_proper : (n : ℕ) (i : Interval) → IsProper i → IsProper (sine_series n i)
unfolding sine_series
sine_proper n everything p = tt
sine_proper n (between a b) p =
    guard_proper (is_inside zero_F four_fifths a b) (between (lower (sine_term a) n) (upper (sine_term b) n)) λ t.
    let w = points a b a b p (le_refl a, le_refl b) (inside_out zero_F four_fifths a b t) in
    le_trans (lower (sine_term a) n) (lower (sine_term b) n) (upper (sine_term b) n)
    (sine_lowers n a b w.a_in w.b_in p)
    (sum_endpoints_in_order n (sine_term b) ((sine_halving b w.b_in).nonneg (suc n)))

pub cosine_proper : (n : ℕ) (i : Interval) → IsProper i → IsProper (cosine_series (suc n) i)
unfolding cosine_series
cosine_proper n everything p = tt
cosine_proper n (between a b) p =
    guard_proper (is_inside zero_F four_fifths a b)
    (between (lower (cosine_term b) (suc n)) (upper (cosine_term a) (suc n))) λ t.
    let w = points a b a b p (le_refl a, le_refl b) (inside_out zero_F four_fifths a b t) in
    le_trans (lower (cosine_term b) (suc n)) (lower (cosine_term a) (suc n)) (upper (cosine_term a) (suc n))
    (cosine_lowers n a b w.a_in w.b_in p)
    (sum_endpoints_in_order (suc n) (cosine_term a) ((cosine_halving a w.a_in).nonneg (suc n)))

pub sines : Narrowing sine_series
sines = record { proper = sine_proper; within = sine_within; deeper = sine_deeper }

pub cosines : Narrowing (λ n. cosine_series (suc n))
cosines = record { proper = cosine_proper; within = cosine_within; deeper = cosine_deeper }

-- ---- between two intervals
-- each endpoint of the first is at or below that of the second
pub data Precedes : Interval → Interval → Type 0 where
  preceding : {a b c d : Fraction} → a ≤F c → b ≤F d → Precedes (between a b) (between c d)

between_guards : (s t u : Bool) (x y z : Interval) → (s ≡ true → t ≡ true → (u ≡ true) × (y ⊆ hull x z))
    → cond u y everything ⊆ hull (cond s x everything) (cond t z everything)
unfolding hull
between_guards false t u x y z h = within_everything _
between_guards true false u everything y z h = within_everything _
between_guards true false u (between a b) y z h = within_everything _
between_guards true true false x y z h = absurd (let e = (h refl refl).0 in cc)
between_guards true true true x y z h = (h refl refl).1

record Three (a c d f : Fraction) : Type 0 where
  a_in : IsUpTo 4 5 a
  c_in : IsUpTo 4 5 c
  d_in : IsUpTo 4 5 d
  f_in : IsUpTo 4 5 f
  inner : is_inside zero_F four_fifths c d ≡ true

three : (a b c d e f : Fraction) → a ≤F c → c ≤F d → d ≤F f → is_inside zero_F four_fifths a b ≡ true
    → is_inside zero_F four_fifths e f ≡ true → Three a c d f
three a b c d e f p q r s t =
    let i = inside_out zero_F four_fifths a b s in
    let j = inside_out zero_F four_fifths e f t in
    let d4 = le_trans d f four_fifths r j.below in
    let c4 = le_trans c d four_fifths q d4 in
    let c0 = le_trans zero_F a c i.above p in
    let d0 = le_trans zero_F c d c0 q in
    record {
      a_in = within_fifths a i.above (le_trans a c four_fifths p c4);
      c_in = within_fifths c c0 c4;
      d_in = within_fifths d d0 d4;
      f_in = within_fifths f (le_trans zero_F d f d0 r) j.below;
      inner = inside_in zero_F four_fifths c d (record { above = c0; below = d4 });
    }

-- what lies between two intervals has its sines between theirs
pub sine_between : (n : ℕ) {i j k : Interval} → IsProper j → Precedes i j → Precedes j k
    → sine_series n j ⊆ hull (sine_series n i) (sine_series n k)
unfolding sine_series hull
sine_between n p (preceding {a = a} {b = b} {c = c} {d = d} ac bd) (preceding {c = e} {d = f} ce df) =
    between_guards (is_inside zero_F four_fifths a b) (is_inside zero_F four_fifths e f)
    (is_inside zero_F four_fifths c d) _ _ _ λ s t.
    let w = three a b c d e f ac p df s t in (
      w.inner,
      record {
        endpoints = (
          le_trans _ _ _ (smaller_first _ _) (sine_lowers n a c w.a_in w.c_in ac),
          le_trans _ _ _ (sine_uppers n d f w.d_in w.f_in df) (larger_second _ _),
        );
      },
    )

pub cosine_between : (n : ℕ) {i j k : Interval} → IsProper j → Precedes i j → Precedes j k
    → cosine_series (suc n) j ⊆ hull (cosine_series (suc n) i) (cosine_series (suc n) k)
unfolding cosine_series hull
cosine_between n p (preceding {a = a} {b = b} {c = c} {d = d} ac bd) (preceding {c = e} {d = f} ce df) =
    between_guards (is_inside zero_F four_fifths a b) (is_inside zero_F four_fifths e f)
    (is_inside zero_F four_fifths c d) _ _ _ λ s t.
    let w = three a b c d e f ac p df s t in (
      w.inner,
      record {
        endpoints = (
          le_trans _ _ _ (smaller_second _ _) (cosine_lowers n d f w.d_in w.f_in df),
          le_trans _ _ _ (cosine_uppers n a c w.a_in w.c_in ac) (larger_first _ _),
        );
      },
    )
