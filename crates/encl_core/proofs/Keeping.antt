-- What a run has evaluated, and takes again: a program with no test, or with one, answers from every turn on as it did
-- from one. By the few forms of a run of such a program (`answers_after`, evaluated): it answers at once, or after its
-- one test. So the value that a trail holds is that of the program's leaf, whatever the turn from which it is taken,
-- and only the count of tests goes on.
use Rattle.std.proofs.Common.{◌≡◌, ℕ, ℤ, ◌≤◌, true, Option, Some, None, Ok, IfSome, refl}
use Rattle.book_model.specs.Interval.{Interval, ◌⊆◌}
use Rattle.book_model.proofs.Intervals.{within_trans}
use Rattle.book_model.specs.declared.site.Site.{Site}
use Rattle.book_model.specs.numbers.Expressions.{Expression, World, value}
use Rattle.book_model.specs.numbers.Depth.{DEPTH}
use Rattle.book_model.specs.numbers.Relations.{Within, Lies}
use Rattle.book_model.specs.programs.Calls.{Follows}
use Rattle.book_model.specs.programs.Leading.{next_turn, Reports, passes, answers, leaf_of, leaf}
use Rattle.book_model.specs.programs.Programs.{Grid, cell_at, Program, cell, Run, answered, voided, undecided, decided}
use Rattle.book_model.specs.programs.Programs.{after_cell, run, AtMost, answer_at_most, void_at_most}
use Rattle.book_model.proofs.Leads.{leaf_within, lies}
use Rattle.encl_core.specs.declared.span.Span.{Span}
use Rattle.encl_core.specs.Kept.{shown_span, answers_after, IsKept}

-- ---- how many tests a run made that answered
leaf_answers : {A T : Type 0} {R : A → T → Type 0} {v : A} {b a : ℕ} {y : T} → Reports R (answered v) b a (Ok y)
    → answers_after 0 (answered v) ≡ true
unfolding answers_after
leaf_answers h = refl

void_answers : {A T : Type 0} {R : A → T → Type 0} {s : Site} {b a : ℕ} {y : T} → Reports R (voided s) b a (Ok y)
    → answers_after {A = A} 0 (voided s) ≡ true
void_answers h = elim h [ ]

no_test : {A T : Type 0} {R : A → T → Type 0} (w : World) {p : Program A} {b a : ℕ} {y : T} → AtMost 0 p
    → Reports R (run w p) b a (Ok y)
    → answers_after 0 (run w p) ≡ true
unfolding run
no_test w answer_at_most h = leaf_answers h
no_test w void_at_most h = void_answers h

after_test : {A T : Type 0} {R : A → T → Type 0} (w : World) (s : Site) (g : Grid) (i : Interval) (o : Option ℤ)
    (next : ℤ → Program A) {b a : ℕ} {y : T} →
    ((q : ℤ) → AtMost 0 (next q)) → Reports R (after_cell s g i o (λ q. run w (next q))) b a (Ok y)
    → answers_after 1 (after_cell s g i o (λ q. run w (next q)))
    ≡ true
unfolding after_cell answers_after
after_test w s g i None next few h = elim h [ ]
after_test w s g i (Some q) next few (passes h) = no_test w (few q) h

one_test : {A T : Type 0} {R : A → T → Type 0} (w : World) (s : Site) (g : Grid) (x : Expression) (next : ℤ → Program A)
    {b a : ℕ} {y : T} →
    ((q : ℤ) → AtMost 0 (next q)) → Reports R (run w (cell s g x next)) b a (Ok y)
    → answers_after 1 (run w (cell s g x next)) ≡ true
unfolding run
one_test w s g x next few h = after_test w s g (value w x) (cell_at g (value w x)) next few h

-- ---- what may be cached
pub kept_without_test : {E : Type 0} {shown : E → Interval} {p : Program Expression} {b a : ℕ} {e : E} (o : Option Span)
    → AtMost 0 p
    → Follows shown p b a (Ok e) → IfSome o (λ s. shown e ⊆ shown_span s) → IfSome o (IsKept 0 p)
kept_without_test None few h k = k
kept_without_test (Some s) few h k = record {
  answers = λ w d. no_test w few (h w d).reports;
  holds = λ w d. within_trans (lies (leaf_within (h w d))) k;
}

pub kept_with_test : {E : Type 0} {shown : E → Interval} (t : Site) (g : Grid) (x : Expression) (next : ℤ
    → Program Expression) {b a : ℕ} {e : E}
    (o : Option Span) → ((q : ℤ) → AtMost 0 (next q)) → Follows shown (cell t g x next) b a (Ok e)
    → IfSome o (λ s. shown e ⊆ shown_span s) → IfSome o (IsKept 1 (cell t g x next))
kept_with_test t g x next None few h k = k
kept_with_test t g x next (Some s) few h k = record {
  answers = λ w d. one_test w t g x next few (h w d).reports;
  holds = λ w d.
      within_trans (lies (leaf_within (h w d))) k;
}

-- ---- what is taken
answer_again : {A T : Type 0} {R : A → T → Type 0} (d : A) (r : Run A) (b : ℕ) {y : T} → answers_after 0 r ≡ true
    → R (leaf_of d r) y → Reports R r b b (Ok y)
unfolding answers_after leaf_of
answer_again d (answered v) b e h = answers h
answer_again d (voided s) b e h = absurd (cc)
answer_again d (undecided s i) b e h = absurd (cc)
answer_again d (decided s i q rest) b e h = absurd (cc)

answer_after_test : {A T : Type 0} {R : A → T → Type 0} (d : A) (r : Run A) (b : ℕ) {y : T} → answers_after 1 r ≡ true
    → R (leaf_of d r) y
    → Reports R r b (next_turn b) (Ok y)
unfolding answers_after leaf_of
answer_after_test d (answered v) b e h = absurd (cc)
answer_after_test d (voided s) b e h = absurd (cc)
answer_after_test d (undecided s i) b e h = absurd (cc)
answer_after_test d (decided s i q rest) b e h = passes (answer_again d rest (next_turn b) e h)

held : {E : Type 0} {shown : E → Interval} (w : World) (p : Program Expression) (s : Span) (e : E) → DEPTH ≤ w.depth
    → value w (leaf w p) ⊆ shown_span s
    → shown_span s ⊆ shown e → Within shown w (leaf w p) e
unfolding Lies
held w p s e d h k = record { deep = d; inside = within_trans h k }

pub taken_without_test : {E : Type 0} {shown : E → Interval} {p : Program Expression} (s : Span) {e : E} (b : ℕ)
    → IsKept 0 p s → shown_span s ⊆ shown e
    → Follows shown p b b (Ok e)
unfolding leaf
taken_without_test {p = p} s {e = e} b h k =
    λ w d. record { reports = answer_again _ (run w p) b (h.answers w d) (held w p s e d (h.holds w d) k) }

pub taken_with_test : {E : Type 0} {shown : E → Interval} {p : Program Expression} (s : Span) {e : E} (b a : ℕ)
    → a ≡ next_turn b → IsKept 1 p s
    → shown_span s ⊆ shown e → Follows shown p b a (Ok e)
unfolding leaf
taken_with_test {p = p} s {e = e} b a n h k = λ w d. record {
  reports = rw n (answer_after_test _ (run w p) b (h.answers w d) (held w p s e d (h.holds w d) k));
}
