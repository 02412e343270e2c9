-- How wide ΔT of a year is when it is taken again. A trail caches the span of an enclosure, whose endpoints are those
-- of the enclosure or wider; from a span comes an enclosure that is two units wider at most. The first lemma says what
-- may be cached, and the second what is taken from that.
use Rattle.std.specs.Prelude.{◌≡◌, ℕ, ◌+◌, ◌^◌, pos, neg_ℤ, Option, Some, None, Ok, IfSome}
use Rattle.std.proofs.Common.{arith}
use Rattle.std.proofs.lemmas.Int.{ints}
use Rattle.book_model.specs.Interval.{Interval, ◌⊆◌}
use Rattle.book_model.specs.numbers.Bounds.{Bound, bounded, IsNarrow, spanned_bound, limits_of}
use Rattle.book_model.specs.programs.Widths.{Measured, IsCorrection}
use Rattle.book_model.proofs.Implying.{limits_within}
use Rattle.encl_core.proofs.Measuring.{looser, narrower}
use Rattle.encl_core.specs.declared.span.Span.{Span}
use Rattle.encl_core.specs.Kept.{shown_span, IsKeptAbout}

-- what may be cached of ΔT
pub kept_about : {E : Type 0} (shown : E → Interval) (n : ℕ) (o : Option Span) (e : E)
    → Measured n shown (IsCorrection (2 ^ 14)) (Ok e)
    → IfSome o (λ s. shown e ⊆ shown_span s) → IfSome o (λ s. shown_span s ⊆ shown e)
    → IfSome o (IsKeptAbout (2 ^ 30) (2 ^ 14) n)
kept_about shown n None e m h k = k
kept_about shown n (Some s) e m h k = record { about = λ p. narrower _ _ _ _ _ k h (m p) }

-- what is taken again is two units wider at most
pub taken_about : {E : Type 0} (shown : E → Interval) (n : ℕ) (s : Span) (e : E) → IsKeptAbout (2 ^ 30) (2 ^ 14) n s
    → ((w : ℕ) (b : Bound) → IsNarrow w b (shown_span s) → IsNarrow w (spanned_bound (limits_of n) b) (shown e))
    → n ≡ 56 → IsCorrection (2 ^ 17) (shown e)
unfolding spanned_bound
taken_about shown n s e h k p =
    let l = limits_within n (omega arith) (omega arith) in
    let i = rw (l, p) at (k 0 (bounded (neg_ℤ (pos (2 ^ 30))) (pos (2 ^ 30)) 0 (2 ^ 14)) (h.about p).kept) in
    looser _ _ _ _ (2 ^ 14 + 512) (2 ^ 17) (shown e) (omega (arith, ints)) (omega (arith, ints)) (omega arith)
    (record { kept = i })
