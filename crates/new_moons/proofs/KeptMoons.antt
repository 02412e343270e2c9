-- A new moon makes one test, of the year, so what it was once it is again; and how wide it is when it is taken again. A
-- run of the formula from any count of tests reports the same answer with the count one higher, since what follows the
-- test of the year makes none. Its span, cached, is an enclosure again that is two units wider at most.
use Rattle.std.proofs.Common.{◌≡◌, ℕ, ◌+◌, ◌^◌, ℤ, pos, negsuc, ◌≤ℤ◌, ◌-ℤ◌, Option, Some, None, Ok, IfSome, arith}
use Rattle.std.specs.Prelude.{nat_lt, true, refl, pos, ◌+ℤ◌}
use Rattle.std.proofs.lemmas.Int.{ints}
use Rattle.book_model.specs.Interval.{Interval, ◌⊆◌}
use Rattle.book_model.specs.declared.site.Site.TheVariants.{Year}
use Rattle.book_model.specs.declared.new_moon_tables.TheConstants.{FIRST_RECENT_MOON, LAST_RECENT_MOON}
use Rattle.book_model.specs.declared.new_moon_tables.TheConstants.{NEW_MOON_OF_2000}
use Rattle.book_model.specs.numbers.Expressions.{Expression, subtract}
use Rattle.book_model.specs.numbers.Bounds.{Bound, bounded, IsNarrow, spanned_bound, range_size, limits_at, limits_of}
use Rattle.book_model.specs.programs.Calls.{Follows}
use Rattle.book_model.specs.programs.Programs.{Program, answer, bind, years, AtMost, answer_at_most}
use Rattle.book_model.specs.programs.Widths.{Measured, IsWithin, recent_from, table_from, table_to, IsDated, IsFrom}
use Rattle.book_model.specs.sky.Correction.{year_of}
use Rattle.book_model.specs.sky.NewMoons.{dynamical_new_moon_of, new_moon_of}
use Rattle.book_model.specs.sky.Time.{correction_of_year, correction_at, from_dynamical_of}
use Rattle.book_model.proofs.FactRuns.{correction_few}
use Rattle.book_model.proofs.Implying.{limits_within}
use Rattle.book_model.proofs.Leads.{at_most_bind}
use Rattle.encl_core.proofs.Measuring.{looser, narrower}
use Rattle.encl_core.specs.declared.span.Span.{Span}
use Rattle.encl_core.specs.Kept.{shown_span, IsKept, IsMoonWithin}
use Rattle.encl_core.proofs.Keeping.{kept_with_test}
use Rattle.book_model.specs.declared.time_tables.TheConstants.{RECENT_START, TABLE_END}

-- what follows the test of the year
abbrev after_year : Expression → ℤ → Program Expression
after_year x y = bind (correction_of_year y) (λ c. answer (subtract x c))

after_year_few : (x : Expression) (y : ℤ) → AtMost 0 (after_year x y)
after_year_few x y = at_most_bind 0 0 (correction_few y) (λ c. answer_at_most)

pub moon_kept : {E : Type 0} {shown : E → Interval} (n : ℤ) {b a : ℕ} {e : E} (o : Option Span)
    → Follows shown (new_moon_of n) b a (Ok e)
    → IfSome o (λ s. shown e ⊆ shown_span s) → IfSome o (IsKept 1 (new_moon_of n))
unfolding new_moon_of from_dynamical_of correction_at year_of bind
moon_kept n o h k =
    kept_with_test Year years (dynamical_new_moon_of (n -ℤ NEW_MOON_OF_2000))
    (after_year (dynamical_new_moon_of (n -ℤ NEW_MOON_OF_2000))) o
    (after_year_few (dynamical_new_moon_of (n -ℤ NEW_MOON_OF_2000))) h k

-- what may be cached of a new moon
pub moon_kept_within : {E : Type 0} (shown : E → Interval) (number : ℤ) (n : ℕ) (o : Option Span) (e : E)
    → (negsuc 6299 ≤ℤ number → number ≤ℤ pos 55724 → Measured n shown (IsDated 1 (2 ^ 29 + 2 ^ 24 + 2 ^ 17)) (Ok e))
    → (FIRST_RECENT_MOON ≤ℤ number → number ≤ℤ LAST_RECENT_MOON
    → Measured n shown (IsFrom RECENT_START (TABLE_END +ℤ pos 1) (2 ^ 29 + 2 ^ 24 + 2 ^ 17)) (Ok e))
    → IfSome o (λ s. shown e ⊆ shown_span s) → IfSome o (λ s. shown_span s ⊆ shown e) → IfSome o (IsMoonWithin number n)
moon_kept_within shown number n None e m o h k = k
moon_kept_within shown number n (Some s) e m o h k = record {
  about = λ l u p. narrower _ _ _ _ _ k h (m l u p);
  recent = λ l u p.
      narrower _ _ _ _ _ k h (o l u p);
}

-- what is taken again is two units wider at most
taken_within : {E : Type 0} (shown : E → Interval) (low high : ℤ) (n : ℕ) (s : Span) (e : E) → n ≡ 56
    → nat_lt (range_size low high) (limits_at 56).sizes ≡ true
    → IsWithin low high (2 ^ 29 + 2 ^ 24 + 2 ^ 17) (shown_span s)
    → ((w : ℕ) (b : Bound) → IsNarrow w b (shown_span s) → IsNarrow w (spanned_bound (limits_of n) b) (shown e))
    → IsWithin low high (2 ^ 30) (shown e)
unfolding spanned_bound
taken_within shown low high n s e p f h k =
    let l = limits_within n (omega arith) (omega arith) in
    let i = rw (l, p, f) at (k 0 (bounded low high 0 (2 ^ 29 + 2 ^ 24 + 2 ^ 17)) h.kept) in
    looser low high low high (2 ^ 29 + 2 ^ 24 + 2 ^ 17 + 512) (2 ^ 30) (shown e) (omega (arith, ints))
    (omega (arith, ints)) (omega arith) (record { kept = i })

module _ {E : Type 0} (shown : E → Interval) (number : ℤ) (n : ℕ) (s : Span) (e : E) (h : IsMoonWithin number n s)
    (k : (w : ℕ) (b : Bound) → IsNarrow w b (shown_span s) → IsNarrow w (spanned_bound (limits_of n) b) (shown e)) where
  pub moon_taken_within : negsuc 6299 ≤ℤ number → number ≤ℤ pos 55724 → n ≡ 56 → IsDated 1 (2 ^ 30) (shown e)
  moon_taken_within a b p = taken_within shown (table_from 1) (table_to 1) n s e p refl (h.about a b p) k

  pub recent_taken_within : FIRST_RECENT_MOON ≤ℤ number → number ≤ℤ LAST_RECENT_MOON → n ≡ 56
      → IsFrom RECENT_START (TABLE_END +ℤ pos 1) (2 ^ 30) (shown e)
  recent_taken_within a b p = taken_within shown (recent_from (pos 0)) (table_to 1) n s e p refl (h.recent a b p) k
