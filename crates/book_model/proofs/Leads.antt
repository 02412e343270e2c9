-- What calls say of their programs: how the results of parts make that of the whole.
use Rattle.std.specs.Prelude.{◌≡◌, ℕ, zero, ℤ, ◌+◌, ◌-◌, ◌^◌, ◌≤◌, min, Bool, Option, Some, None, Result, Ok, Err, refl}
use Rattle.std.proofs.Common.{suc, arith, sym, ap, subst, ◌∙◌}
use Rattle.std.proofs.lemmas.Int.{to_z-of_z}
use Rattle.exact_math.specs.Interval.{Interval, ◌⊆◌}
use Rattle.book_model.specs.declared.site.Site.{Site}
use Rattle.book_model.specs.declared.fail.Undecided.{Undecided}
use Rattle.book_model.specs.declared.fail.Fail.{Fail}
use Rattle.book_model.specs.declared.fail.Fail.TheVariants.{Undecided as undecided_at, Void}
use Rattle.book_model.specs.numbers.Expressions.{Expression, World, value}
use Rattle.book_model.specs.programs.Leading.{IsUndecidedCell, IsUndecidedComparison, IsOpen, open_cell}
use Rattle.book_model.specs.programs.Leading.{undecided_comparison, Exact, next_turn, Reports, passes, answers, stops}
use Rattle.book_model.specs.programs.Leading.{stops_early, voids, Leads, Continues, leaf_of, leaf}
use Rattle.book_model.specs.programs.Programs.{Grid, cell_at, compare_at, Program, answer, void, cell, compare, bind}
use Rattle.book_model.specs.programs.Programs.{Sides, one_side, two_sides, in_cell, is_less, Run, answered, voided}
use Rattle.book_model.specs.programs.Programs.{undecided, decided, after_cell, after_compare, run, valued, void_at}
use Rattle.book_model.specs.programs.Programs.{outcome, MakesTest, here_decided, here_undecided, later, AtMost}
use Rattle.book_model.specs.programs.Programs.{answer_at_most, void_at_most, cell_at_most, compare_at_most}
use Rattle.book_model.specs.numbers.Relations.{Within, Lies}
use Rattle.book_model.proofs.Nesting.{cell_nested, compare_nested}
use Rattle.book_model.proofs.Values.{value_proper}

-- a run, and then another from its answer
unfoldable run_then : {A B : Type 0} → Run A → (A → Run B) → Run B
run_then (answered v) f = f v
run_then (voided s) f = voided s
run_then (undecided s i) f = undecided s i
run_then (decided s i r rest) f = decided s i r (run_then rest f)

then_cell : {A B : Type 0} (s : Site) (g : Grid) (i : Interval) (o : Option ℤ) (n : ℤ → Run A) (m : ℤ → Run B)
    (f : A → Run B) →
    ((q : ℤ) → m q ≡ run_then (n q) f) → after_cell s g i o m ≡ run_then (after_cell s g i o n) f
unfolding after_cell run_then
then_cell s g i None n m f e = refl
then_cell s g i (Some q) n m f e = ap (decided s (one_side g i) (in_cell q)) (e q)

then_compare : {A B : Type 0} (s : Site) (i j : Interval) (o : Option Bool) (n : Bool → Run A) (m : Bool → Run B)
    (f : A → Run B) →
    ((t : Bool) → m t ≡ run_then (n t) f) → after_compare s i j o m ≡ run_then (after_compare s i j o n) f
unfolding after_compare run_then
then_compare s i j None n m f e = refl
then_compare s i j (Some t) n m f e = ap (decided s (two_sides i j) (is_less t)) (e t)

run_bind : {A B : Type 0} (w : World) (p : Program A) (f : A → Program B) → run w (bind p f) ≡ run_then (run w p)
    (λ v. run w (f v))
unfolding run bind run_then
run_bind w (answer v) f = refl
run_bind w (void s) f = refl
run_bind w (cell s g x next) f =
    then_cell s g (value w x) (cell_at g (value w x)) (λ q. run w (next q)) (λ q. run w (bind (next q) f))
    (λ v. run w (f v)) (λ q. run_bind w (next q) f)
run_bind w (compare s x y next) f =
    then_compare s (value w x) (value w y) (compare_at (value w x) (value w y)) (λ t. run w (next t))
    (λ t. run w (bind (next t) f)) (λ v. run w (f v))
    (λ t. run_bind w (next t) f)

reports_then : {A B T U : Type 0} {R : A → T → Type 0} {S : B → U → Type 0} {r : Run A} {b m a : ℕ} {y : T}
    {t : Result U Fail} (f : A → Run B) →
    Reports R r b m (Ok y) → ((v : A) → R v y → Reports S (f v) m a t) → Reports S (run_then r f) b a t
unfolding run_then
reports_then f (passes h) k = passes (reports_then f h k)
reports_then f (answers h) k = k _ h

reports_fail : {A B T U : Type 0} {R : A → T → Type 0} (S : B → U → Type 0) {r : Run A} {b a : ℕ} {z : Fail}
    (f : A → Run B) →
    Reports R r b a (Err z) → Reports S (run_then r f) b a (Err z)
unfolding run_then
reports_fail S f (passes h) = passes (reports_fail S f h)
reports_fail S f (stops e d c) = stops e d c
reports_fail S f (stops_early e d c) = stops_early e d c
reports_fail S f voids = voids

pub leads_bind : {A B T U : Type 0} {w : World} {R : A → T → Type 0} {S : B → U → Type 0} {p : Program A} {f : A
    → Program B} {b m a : ℕ} {y : T}
    {t : Result U Fail} →
    Leads w R p b m (Ok y) → ((v : A) → R v y → Leads w S (f v) m a t) → Leads w S (bind p f) b a t
leads_bind {w = w} {p = p} {f = f} h k =
    record { reports = rw (run_bind w p f) (reports_then (λ v. run w (f v)) h.reports (λ v r. (k v r).reports)) }

pub leads_fail : {A B T U : Type 0} {w : World} {R : A → T → Type 0} {S : B → U → Type 0} {p : Program A}
    (f : A → Program B) {b a : ℕ} {z : Fail} →
    Leads w R p b a (Err z) → Leads w S (bind p f) b a (Err z)
leads_fail {w = w} {S = S} {p = p} f h =
    record { reports = rw (run_bind w p f) (reports_fail S (λ v. run w (f v)) h.reports) }

pub leads_answer : {A T : Type 0} {w : World} {R : A → T → Type 0} {v : A} {b : ℕ} {e : T} → R v e
    → Leads w R (answer v) b b (Ok e)
unfolding run
leads_answer h = record { reports = answers h }

pub leads_void : {A T : Type 0} {w : World} {R : A → T → Type 0} {s : Site} {b : ℕ}
    → Leads w R (void s) b b (Err (Void s))
unfolding run
leads_void = record { reports = voids }

-- a cell test that the code decides, at an enclosure j of the expression's value
pub leads_cell : {A T : Type 0} {w : World} {R : A → T → Type 0} (s : Site) (g : Grid) (x : Expression) (j : Interval)
    (q : ℤ) (next : ℤ → Program A) {b a : ℕ}
    {t : Result T Fail} →
    value w x ⊆ j → cell_at g j ≡ Some q → Leads w R (next q) (next_turn b) a t → Leads w R (cell s g x next) b a t
unfolding run after_cell
leads_cell {w = w} s g x j q next i e h =
    let d = cell_nested g (value w x) j q (value_proper w x) i e in
    record { reports = rw d (passes h.reports) }

cell_stop : {A T : Type 0} (R : A → T → Type 0) (g : Grid) (i : Interval) (o : Option ℤ) (n : ℤ → Run A) {b : ℕ} (a : ℕ)
    (u : Undecided) → u.turn ≡ next_turn b
    → a ≡ next_turn b → IsOpen (one_side g i) u.lo u.hi →
    Reports R (after_cell u.site g i o n) b a (Err (undecided_at u))
unfolding after_cell
cell_stop R g i None n a u e d c = stops e d c
cell_stop R g i (Some q) n a u e d c = stops_early e d c

-- a cell test that the code leaves undecided
pub leads_undecided_cell : {A T : Type 0} {w : World} {R : A → T → Type 0} (g : Grid) (x : Expression) (j : Interval)
    (next : ℤ → Program A) {b : ℕ} (a : ℕ)
    (u : Undecided) →
    value w x ⊆ j → u.turn ≡ next_turn b → a ≡ next_turn b → IsUndecidedCell g j u.lo u.hi
    → Leads w R (cell u.site g x next) b a (Err (undecided_at u))
unfolding run
leads_undecided_cell {w = w} {R = R} g x j next a u i e d c = record
    { reports = cell_stop R g (value w x) (cell_at g (value w x)) (λ q. run w (next q)) a u e d (open_cell j i c) }

-- a comparison that the code decides, at enclosures j and k of the two values
pub leads_compare : {A T : Type 0} {w : World} {R : A → T → Type 0} (s : Site) (x y : Expression) (j k : Interval)
    (t : Bool) (next : Bool → Program A)
    {b a : ℕ} {z : Result T Fail} →
    value w x ⊆ j → value w y ⊆ k → compare_at j k ≡ Some t → Leads w R (next t) (next_turn b) a z
    → Leads w R (compare s x y next) b a z
unfolding run after_compare
leads_compare {w = w} s x y j k t next i l e h =
    let d = compare_nested (value w x) (value w y) j k t (value_proper w x) (value_proper w y) i l e in
    record { reports = rw d (passes h.reports) }

compare_stop : {A T : Type 0} (R : A → T → Type 0) (i j : Interval) (o : Option Bool) (n : Bool → Run A) {b : ℕ} (a : ℕ)
    (u : Undecided) → u.turn ≡ next_turn b
    → a ≡ next_turn b → IsOpen (two_sides i j) u.lo u.hi →
    Reports R (after_compare u.site i j o n) b a (Err (undecided_at u))
unfolding after_compare
compare_stop R i j None n a u e d c = stops e d c
compare_stop R i j (Some t) n a u e d c = stops_early e d c

-- a comparison that the code leaves undecided
pub leads_undecided_compare : {A T : Type 0} {w : World} {R : A → T → Type 0} (x y : Expression) (j k : Interval)
    (next : Bool → Program A) {b : ℕ} (a : ℕ)
    (u : Undecided) →
    value w x ⊆ j → value w y ⊆ k → u.turn ≡ next_turn b → a ≡ next_turn b → IsUndecidedComparison j k u.lo u.hi
    → Leads w R (compare u.site x y next) b a (Err (undecided_at u))
unfolding run
leads_undecided_compare {w = w} {R = R} x y j k next a u i l e d c =
    record {
      reports = compare_stop R (value w x) (value w y) (compare_at (value w x) (value w y)) (λ t. run w (next t))
          a u e d (undecided_comparison j k i l c);
    }

-- what holds of the value, where an enclosure holds the expression
pub lies : {E : Type 0} {shown : E → Interval} {w : World} {x : Expression} {e : E} → Within shown w x e
    → value w x ⊆ shown e
unfolding Lies
lies h = h.inside

pub leads_bind_exact : {A B U : Type 0} {w : World} {S : B → U → Type 0} {p : Program A} (f : A → Program B) {b m a : ℕ}
    {k : A} {t : Result U Fail} →
    Leads w Exact p b m (Ok k) → Leads w S (f k) m a t → Leads w S (bind p f) b a t
leads_bind_exact {A = A} {w = w} {S = S} f {m = m} {a = a} {t = t} h k = leads_bind h
    (λ v e. let P : A → Type 0 = λ q. Leads w S (f q) m a t in subst P (sym e) k)

pub leads_fail_exact : {A B U : Type 0} {w : World} {S : B → U → Type 0} {p : Program A} (f : A → Program B) {b a : ℕ}
    {z : Fail} →
    Leads w Exact p b a (Err z) → Leads w S (bind p f) b a (Err z)
leads_fail_exact f h = leads_fail f h

pub leads_fail_same : {A T : Type 0} {w : World} {R : A → T → Type 0} {p : Program A} (f : A → Program A) {b a : ℕ}
    {z : Fail} →
    Leads w R p b a (Err z) → Leads w R (bind p f) b a (Err z)
leads_fail_same f h = leads_fail f h

-- ---- the leaf of a run
reports_leaf : {A T : Type 0} {R : A → T → Type 0} {r : Run A} {b m : ℕ} {y : T} (d : A) → Reports R r b m (Ok y)
    → R (leaf_of d r) y
unfolding leaf_of
reports_leaf d (passes h) = reports_leaf d h
reports_leaf d (answers h) = h

reports_then_leaf : {A B T U : Type 0} {R : A → T → Type 0} (S : B → U → Type 0) {r : Run A} {b m a : ℕ} {y : T}
    {t : Result U Fail} (d : A) (f : A → Run B) →
    Reports R r b m (Ok y) → Reports S (f (leaf_of d r)) m a t → Reports S (run_then r f) b a t
unfolding leaf_of run_then
reports_then_leaf S d f (passes h) k = passes (reports_then_leaf S d f h k)
reports_then_leaf S d f (answers h) k = k

pub leaf_within : {E : Type 0} {shown : E → Interval} {w : World} {p : Program Expression} {b m : ℕ} {y : E} →
    Leads w (Within shown w) p b m (Ok y) → Within shown w (leaf w p) y
unfolding leaf
leaf_within h = reports_leaf _ h.reports

pub leads_on : {E B U : Type 0} {shown : E → Interval} {w : World} {S : B → U → Type 0} {p : Program Expression}
    (f : Expression → Program B) {b m a : ℕ}
    {y : E} {t : Result U Fail} →
    Leads w (Within shown w) p b m (Ok y) → Leads w S (f (leaf w p)) m a t → Leads w S (bind p f) b a t
unfolding leaf
leads_on {w = w} {S = S} {p = p} f h k =
    record { reports = rw (run_bind w p f) (reports_then_leaf S _ (λ v. run w (f v)) h.reports k.reports) }

-- ---- what is left of a program, for loops
pub continues_here : {A T : Type 0} {w : World} {R : A → T → Type 0} {p : Program A} {b : ℕ} → Continues w R p b p b
continues_here = record { rest = λ a t h. h }

pub continues_leads : {A T : Type 0} {w : World} {R : A → T → Type 0} {p q : Program A} {b m a : ℕ} {t : Result T Fail}
    →
    Continues w R p b q m → Leads w R q m a t → Leads w R p b a t
continues_leads {a = a} {t = t} h k = h.rest a t k

pub continues_exact : {A B T : Type 0} {w : World} {R : A → T → Type 0} {p : Program A} {q : Program B}
    (f : B → Program A) {b m n : ℕ} {k : B} →
    Continues w R p b (bind q f) m → Leads w Exact q m n (Ok k) → Continues w R p b (f k) n
continues_exact f h k = record { rest = λ a t l. h.rest a t (leads_bind_exact f k l) }

pub continues_fail : {A B T U : Type 0} {w : World} {R : A → T → Type 0} {S : B → U → Type 0} {p : Program A}
    {q : Program B} (f : B → Program A) {b m a : ℕ}
    {z : Fail} →
    Continues w R p b (bind q f) m → Leads w S q m a (Err z) → Leads w R p b a (Err z)
continues_fail f {a = a} {z = z} h k = h.rest a (Err z) (leads_fail f k)

pub continues_answer : {A T : Type 0} {w : World} {R : A → T → Type 0} {p : Program A} {v : A} {b m : ℕ} {e : T} →
    Continues w R p b (answer v) m → R v e → Leads w R p b m (Ok e)
continues_answer {m = m} {e = e} h k = h.rest m (Ok e) (leads_answer k)

pub continues_void : {A T : Type 0} {w : World} {R : A → T → Type 0} {p : Program A} {s : Site} {b m : ℕ} →
    Continues w R p b (void s) m → Leads w R p b m (Err (Void s))
continues_void {s = s} {m = m} h = h.rest m (Err (Void s)) leads_void

-- ---- what results say of outcomes
reports_value : {A T : Type 0} {R : A → T → Type 0} {r : Run A} {b a : ℕ} {y : T} → Reports R r b a (Ok y)
    → (v : A) × (outcome r ≡ valued v) × R v y
unfolding outcome
reports_value (passes h) = reports_value h
reports_value (answers {v = v} h) = (v, refl, h)

pub leads_value : {T : Type 0} {w : World} {p : Program T} {b a : ℕ} {y : T} → Leads w Exact p b a (Ok y)
    → outcome (run w p) ≡ valued y
leads_value {w = w} {p = p} h = let t = reports_value h.reports in t.1 ∙ ap valued t.2

reports_leaf_value : {A T : Type 0} {R : A → T → Type 0} {r : Run A} {b m : ℕ} {y : T} (d : A) → Reports R r b m (Ok y)
    → outcome r ≡ valued (leaf_of d r)
unfolding outcome leaf_of
reports_leaf_value d (passes h) = reports_leaf_value d h
reports_leaf_value d (answers h) = refl

-- the expression that a run ends in is its outcome
pub leads_leaf : {T : Type 0} {w : World} {R : Expression → T → Type 0} {p : Program Expression} {b m : ℕ} {y : T}
    → Leads w R p b m (Ok y) → outcome (run w p)
    ≡ valued (leaf w p)
unfolding leaf
leads_leaf h = reports_leaf_value _ h.reports

reports_void : {A T : Type 0} {R : A → T → Type 0} {r : Run A} {b a : ℕ} {s : Site} → Reports R r b a (Err (Void s))
    → outcome r ≡ void_at s
unfolding outcome
reports_void (passes h) = reports_void h
reports_void voids = refl

pub leads_void_at : {A T : Type 0} {w : World} {R : A → T → Type 0} {p : Program A} {b a : ℕ} {s : Site}
    → Leads w R p b a (Err (Void s)) → outcome (run w p)
    ≡ void_at s
leads_void_at h = reports_void h.reports

-- the run makes the test of an undecided result, counted from turn b, and it is undecided at these endpoints
pub record StopsAt {A : Type 0} (r : Run A) (b : ℕ) (u : Undecided) : Type 0 where
  pub number : ℕ
  pub sides : Sides
  pub makes : MakesTest r number u.site sides
  pub turn : u.turn ≡ min (b + number) (2 ^ 32 - 1)
  pub open_there : IsOpen sides u.lo u.hi

reports_stop : {A T : Type 0} {R : A → T → Type 0} {r : Run A} {b a : ℕ} {u : Undecided}
    → Reports R r b a (Err (undecided_at u)) → StopsAt r b u
unfolding next_turn
reports_stop {b = b} (passes h) = let t = reports_stop h in record {
  number = suc t.number;
  sides = t.sides;
  makes = later t.makes;
  turn = omega (arith, t.turn);
  open_there = t.open_there;
}
reports_stop {b = b} (stops e d c) = record { number = 1; sides = _; makes = here_undecided; turn = e; open_there = c }
reports_stop {b = b} (stops_early e d c) = record {
  number = 1;
  sides = _;
  makes = here_decided;
  turn = e;
  open_there = c;
}

pub leads_stop_at : {A T : Type 0} {w : World} {R : A → T → Type 0} {p : Program A} {b a : ℕ} {u : Undecided}
    → Leads w R p b a (Err (undecided_at u))
    → StopsAt (run w p) b u
leads_stop_at h = reports_stop h.reports

-- ---- how many tests a program makes
pub at_most_more : {A : Type 0} {p : Program A} (n m : ℕ) → n ≤ m → AtMost n p → AtMost m p
at_most_more n m h answer_at_most = answer_at_most
at_most_more n m h void_at_most = void_at_most
at_most_more (suc n) (suc m) h (cell_at_most k) = cell_at_most (λ q. at_most_more n m (omega arith) (k q))
at_most_more (suc n) (suc m) h (compare_at_most k) = compare_at_most (λ t. at_most_more n m (omega arith) (k t))
at_most_more (suc n) zero h (cell_at_most k) = absurd (omega arith)
at_most_more (suc n) zero h (compare_at_most k) = absurd (omega arith)

pub at_most_bind : {A B : Type 0} {p : Program A} {f : A → Program B} (n m : ℕ) → AtMost n p
    → ((v : A) → AtMost m (f v)) → AtMost (n + m) (bind p f)
unfolding bind
at_most_bind n m (answer_at_most {a = a}) k = at_most_more m (n + m) (omega arith) (k a)
at_most_bind n m void_at_most k = void_at_most
at_most_bind (suc n) m (cell_at_most h) k = at_most_more (suc (n + m)) (suc n + m) (omega arith)
    (cell_at_most (λ q. at_most_bind n m (h q) k))
at_most_bind (suc n) m (compare_at_most h) k = at_most_more (suc (n + m)) (suc n + m) (omega arith)
    (compare_at_most (λ t. at_most_bind n m (h t) k))

few_after_cell : {A : Type 0} (n : ℕ) (s t : Site) (g : Grid) (i : Interval) (o : Option ℤ) (next : ℤ → Run A) (k : ℕ)
    (j : Sides) →
    ((q : ℤ) (l : ℕ) → MakesTest (next q) l t j → l ≤ n) → MakesTest (after_cell s g i o next) k t j → k ≤ suc n
unfolding after_cell
few_after_cell n s t g i None next k j h here_undecided = omega arith
few_after_cell n s t g i (Some q) next k j h here_decided = omega arith
few_after_cell n s t g i (Some q) next k j h (later {k = l} m) = let z = h q l m in omega arith

few_after_compare : {A : Type 0} (n : ℕ) (s t : Site) (i l : Interval) (o : Option Bool) (next : Bool → Run A) (k : ℕ)
    (j : Sides) →
    ((q : Bool) (m : ℕ) → MakesTest (next q) m t j → m ≤ n) → MakesTest (after_compare s i l o next) k t j → k ≤ suc n
unfolding after_compare
few_after_compare n s t i l None next k j h here_undecided = omega arith
few_after_compare n s t i l (Some q) next k j h here_decided = omega arith
few_after_compare n s t i l (Some q) next k j h (later {k = x} m) = let z = h q x m in omega arith

-- no test of a run has a number above what its program makes at most
pub few_tests : {A : Type 0} {p : Program A} (w : World) (n k : ℕ) (s : Site) (j : Sides) → AtMost n p
    → MakesTest (run w p) k s j → k ≤ n
unfolding run
few_tests w n k s j answer_at_most m = elim m [ ]
few_tests w n k s j void_at_most m = elim m [ ]
few_tests w (suc n) k s j (cell_at_most {s = t} {g = g} {x = x} {next = next} h) m =
    few_after_cell n t s g (value w x) (cell_at g (value w x)) (λ q. run w (next q)) k j
    (λ q l z. few_tests w n l s j (h q) z) m
few_tests w (suc n) k s j (compare_at_most {s = t} {x = x} {y = y} {next = next} h) m =
    few_after_compare n t s (value w x) (value w y) (compare_at (value w x) (value w y)) (λ q. run w (next q)) k j
    (λ q l z. few_tests w n l s j (h q) z) m

-- how runs go on
pub ruleset leading = (
  leads_on,
  leaf_within,
  leads_bind_exact,
  leads_fail_same,
  leads_fail_exact,
  leads_fail,
  leads_answer,
  leads_void,
  to_z-of_z,
)

-- how loops go on
pub ruleset continuing = (
  continues_here,
  continues_leads,
  continues_exact,
  continues_fail,
  continues_answer,
  continues_void,
)
