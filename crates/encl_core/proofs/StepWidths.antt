-- Undecided steps of what is measured are close, and what is left of a wrap is as wide as what was wrapped. A step's
-- failure has the bounds of its test, which `Closing` shows to be no further apart than the sides' widths together; a
-- wrap keeps the bound of a remainder, which computes to the argument's width.
use Rattle.std.specs.Prelude.{◌≡◌, ℕ, ◌+◌, ◌*◌, ◌^◌, ◌≤◌, ◌<◌, ℤ, pos, neg_ℤ, nat_lt, true}
use Rattle.std.proofs.Common.{arith}
use Rattle.std.proofs.lemmas.Bool.{lt-ltb}
use Rattle.book_model.specs.Interval.{Interval}
use Rattle.book_model.specs.declared.site.Site.{Site}
use Rattle.book_model.specs.declared.fail.Undecided.{Undecided}
use Rattle.book_model.specs.declared.fail.Fail.TheVariants.{Undecided as undecided_at}
use Rattle.book_model.specs.numbers.Bounds.{bounded, Reach, bound_of, limits_of, remainder_bound}
use Rattle.book_model.specs.numbers.Expressions.{Expression, argument, remainder}
use Rattle.book_model.specs.numbers.Relations.{Narrow, Keeps}
use Rattle.book_model.specs.programs.Widths.{IsAbout, IsUpTo, IsClose, most_apart}
use Rattle.book_model.proofs.Implying.{limits_within}
use Rattle.encl_core.proofs.Closing.{endpoints_apart, floor_apart, hull_apart, close_endpoints}
use Rattle.book_model.specs.programs.Leading.{IsUndecidedCell, IsUndecidedComparison}
use Rattle.book_model.specs.programs.Programs.{integers}
use Rattle.encl_core.specs.Steps.{IsUndecidedPeriod}

-- a floor
pub floor_close : (v : ℕ) (i : Interval) (s : Site) (u : Undecided) → u.site ≡ s → v ≤ most_apart s
    → IsAbout (2 ^ 90) v i → IsUndecidedCell integers i u.lo u.hi
    → IsClose (undecided_at u)
floor_close v i s u e c h o = close_endpoints u s v e c (floor_apart v u.lo u.hi i h o)

-- a comparison
pub less_close : (v w : ℕ) (i j : Interval) (s : Site) (u : Undecided) → u.site ≡ s → v + w ≤ most_apart s
    → IsAbout (2 ^ 90) v i → IsAbout (2 ^ 90) w j
    → IsUndecidedComparison i j u.lo u.hi → IsClose (undecided_at u)
less_close v w i j s u e c h k o = close_endpoints u s (v + w) e c (hull_apart _ _ v _ _ w u.lo u.hi i j h k o)

-- a wrap
pub wrap_close : (m v : ℕ) (i : Interval) (s : Site) (u : Undecided) → u.site ≡ s → v ≤ most_apart s
    → IsAbout (2 ^ 90) v i → IsUndecidedPeriod m i u.lo u.hi
    → IsClose (undecided_at u)
wrap_close m v i s u e c h o = close_endpoints u s v e c (endpoints_apart _ _ v u.lo u.hi i h o.endpoints)

-- what is left of a wrap
pub left_within : {E : Type 0} (shown : E → Interval) (n m v : ℕ) (x y : E) → n ≡ 56 → m < 2 ^ 32
    → IsAbout (2 ^ 90) v (shown x)
    → ((q : ℤ) (r : Reach) (e : Expression) → Narrow shown (limits_of n) r e x
    → Narrow shown (limits_of n) r (remainder m e q) y) → IsUpTo m v (shown y)
unfolding Keeps bound_of remainder_bound
left_within shown n m v x y e k h f =
    let l = limits_within n (omega arith) (omega arith) in
    let t : nat_lt (m * 2 ^ 32) (2 ^ 100) ≡ true = lt-ltb _ _ (omega (arith, k)) in
    let z = f (pos 0) (record { width = 0; bounds = λ k. bounded (neg_ℤ (pos (2 ^ 90))) (pos (2 ^ 90)) 0 v })
    (argument 0) (record { kept = h.kept }) in
    record { kept = rw (l, e, t) at z.kept }
