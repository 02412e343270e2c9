-- Tests of narrower sides are decided alike, and so are the runs of every program.
use Rattle.std.specs.Prelude.{◌≡◌, ℕ, ℤ, pos, ◌-◌, ◌≤ℤ◌, ◌*ℤ◌, Option, Some, None, Bool, true, false, not, cond, refl}
use Rattle.std.proofs.Common.{suc, arith, sym, ◌∙◌}
use Rattle.std.proofs.lemmas.Int.{ints}
use Rattle.std.specs.Ordering.{int_eq}
use Rattle.std.proofs.lemmas.Bool.Decides.{Decides-int_eq}
use lib.Signed.{le_z}
use borrow.Author.Differences.{up, down}
use Rattle.std.proofs.Math.Nat.{mul-le-mul_left}
use Rattle.exact_math.specs.Fraction.{Fraction, den, ◌≤F◌, is_at_most, floor}
use Rattle.exact_math.specs.Interval.{Interval, everything, between, IsProper, AreWithin, ◌⊆◌}
use Rattle.exact_math.proofs.Fractions.{le_trans, at_most_true}
use Rattle.exact_math.proofs.Floors.{floor_mono, floor_quotient_mono}
use Rattle.book_model.specs.declared.site.Site.{Site}
use Rattle.book_model.specs.numbers.Expressions.{World, value}
use Rattle.book_model.specs.programs.Nesting.{IsNarrower, RunsNest}
use Rattle.book_model.specs.programs.Programs.{Grid, integers, multiples, years, cell_of, when, cell_at, compare_at}
use Rattle.book_model.specs.programs.Programs.{Program, answer, void, cell, compare, Run, after_cell, after_compare}
use Rattle.book_model.specs.programs.Programs.{run, valued, void_at, outcome, inner_one, inner_two, Refines}
use Rattle.book_model.specs.programs.Programs.{same_answer, same_void, still_undecided, now_decided, same_test}
use Rattle.book_model.proofs.Calendars.{year_mono}
use Rattle.book_model.proofs.Values.{value_proper, value_nested}

scale_mono : (a b : ℤ) (d : ℕ) → a ≤ℤ b → (a *ℤ pos d) ≤ℤ (b *ℤ pos d)
scale_mono a b d h =
    let k = mul-le-mul_left d (let j : Prim.Native.Nat.◌≤◌ (Prim.Native.Nat.◌+◌ (up a) (down b))
    (Prim.Native.Nat.◌+◌ (up b) (down a)) = omega (arith, ints) in
    j) in
    omega (arith, ints, k)

pub cell_mono : (g : Grid) (a b : Fraction) → a ≤F b → cell_of g a ≤ℤ cell_of g b
unfolding cell_of
cell_mono integers a b h = floor_mono a b h
cell_mono (multiples m) a b h = floor_quotient_mono (floor a) (floor b) (m - 1) (m - 1)
    (scale_mono _ _ (suc (m - 1)) (floor_mono a b h))
cell_mono years a b h = year_mono (floor a) (floor b) (floor_mono a b h)

when_some : {A : Type 0} (b : Bool) (a q : A) → when b a ≡ Some q → (b ≡ true) × (a ≡ q)
when_some true a q e = (refl, cc)
when_some false a q e = cc

-- an interval within two endpoints of one cell lies in that cell
pub cell_between : (g : Grid) (m v l u : Fraction) (q : ℤ) → m ≤F l → l ≤F u → u ≤F v → cell_of g m ≡ q
    → cell_of g v ≡ q → cell_at g (between l u) ≡ Some q
unfolding cell_at
cell_between g m v l u q p k r e f =
    let a = cell_mono g m l p in
    let b = cell_mono g l u k in
    let c = cell_mono g u v r in
    let s : cell_of g l ≡ q = omega (arith, ints) in
    let t : cell_of g u ≡ q = omega (arith, ints) in
    let d : int_eq (cell_of g l) (cell_of g u) ≡ true = (Decides-int_eq _ _).1 (s ∙ sym t) in
    rw (d, s) refl

cell_endpoints : (g : Grid) (i j : Interval) (q : ℤ) → IsProper i → AreWithin i j → cell_at g j ≡ Some q
    → cell_at g i ≡ Some q
unfolding cell_at
cell_endpoints g i everything q p h e = cc
cell_endpoints g everything (between c d) q p h e = absurd h
cell_endpoints g (between a b) (between c d) q p h e =
    let w = when_some _ _ q e in
    let s = (Decides-int_eq (cell_of g c) (cell_of g d)).0 w.0 in
    cell_between g c d a b q h.0 p h.1 w.1 (sym s ∙ w.1)

-- a cell test that is decided is decided alike for a narrower side
pub cell_nested : (g : Grid) (i j : Interval) (q : ℤ) → IsProper i → i ⊆ j → cell_at g j ≡ Some q → cell_at g i ≡ Some q
cell_nested g i j q p h e = cell_endpoints g i j q p h.endpoints e

at_most_yes : (a b : Fraction) → a ≤F b → is_at_most a b ≡ true
unfolding is_at_most
at_most_yes a b h = let k = h.cross in let e : true ≡ le_z (a.num *ℤ den b) (b.num *ℤ den a) = omega (arith, ints) in
    sym e

true_or_false : (t : Bool) → (t ≡ false → t ≡ true) → t ≡ true
true_or_false true h = refl
true_or_false false h = h refl

-- what a decided comparison says of the endpoints
pub data IsDecided (a b c d : Fraction) : Bool → Type 0 where
  all_below : (is_at_most c b ≡ false) → IsDecided a b c d true
  none_below : (is_at_most c b ≡ true) → d ≤F a → IsDecided a b c d false

pub compare_says : (a b c d : Fraction) (t : Bool) → compare_at (between a b) (between c d) ≡ Some t
    → IsDecided a b c d t
unfolding compare_at
compare_says a b c d t e = by_test (is_at_most c b) refl (is_at_most d a) refl t e
  where
    by_test : (x : Bool) → is_at_most c b ≡ x → (y : Bool) → is_at_most d a ≡ y → (t : Bool)
        → cond (not x) (Some true) (when y false) ≡ Some t
        → IsDecided a b c d t
    by_test false p y q true e = all_below p
    by_test false p y q false e = absurd (cc)
    by_test true p true q true e = absurd (cc)
    by_test true p true q false e = none_below p (at_most_true d a q)
    by_test true p false q t e = absurd (cc)

not_at_most : (a b c d : Fraction) → c ≤F a → b ≤F d → is_at_most c d ≡ false → is_at_most a b ≡ false
not_at_most a b c d h k e = by_test (is_at_most a b) refl
  where
    by_test : (t : Bool) → is_at_most a b ≡ t → t ≡ false
    by_test false p = refl
    by_test true p = let f : is_at_most c d ≡ true =
        at_most_yes c d (le_trans _ _ _ h (le_trans _ _ _ (at_most_true a b p) k)) in cc

compare_yes : (a b c d : Fraction) → is_at_most c b ≡ false → compare_at (between a b) (between c d) ≡ Some true
unfolding compare_at
compare_yes a b c d e = rw e refl

compare_no : (a b c d : Fraction) → is_at_most c b ≡ true → is_at_most d a ≡ true
    → compare_at (between a b) (between c d) ≡ Some false
unfolding compare_at
compare_no a b c d e f = rw (e, f) refl

compare_endpoints : (a b c d k l m n : Fraction) (t : Bool) → a ≤F b → c ≤F d → k ≤F a → b ≤F l → m ≤F c → d ≤F n
    → IsDecided k l m n t
    → compare_at (between a b) (between c d) ≡ Some t
compare_endpoints a b c d k l m n true p q ka bl mc dn (all_below e) = compare_yes a b c d (not_at_most c b m l mc bl e)
compare_endpoints a b c d k l m n false p q ka bl mc dn (none_below e h) =
    let da = le_trans d n a dn (le_trans n k a h ka) in
    compare_no a b c d (at_most_yes c b (le_trans c d b q (le_trans d a b da p))) (at_most_yes d a da)

compare_sides : (i j k l : Interval) (t : Bool) → IsProper i → IsProper j → AreWithin i k → AreWithin j l
    → compare_at k l ≡ Some t → compare_at i j ≡ Some t
unfolding compare_at
compare_sides i j everything l t p q h g e = cc
compare_sides i j (between c d) everything t p q h g e = cc
compare_sides everything j (between c d) (between c' d') t p q h g e = absurd h
compare_sides (between a b) everything (between c d) (between c' d') t p q h g e = absurd g
compare_sides (between a b) (between a' b') (between c d) (between c' d') t p q h g e =
    compare_endpoints a b a' b' c d c' d' t p q h.0 h.1 g.0 g.1 (compare_says c d c' d' t e)

-- a comparison that is decided is decided alike for narrower sides
pub compare_nested : (i j k l : Interval) (t : Bool) → IsProper i → IsProper j → i ⊆ k → j ⊆ l → compare_at k l ≡ Some t
    → compare_at i j ≡ Some t
compare_nested i j k l t p q h g e = compare_sides i j k l t p q h.endpoints g.endpoints e

-- ---- runs refine runs in wider worlds
refine_cell : {A : Type 0} (s : Site) (g : Grid) (i j : Interval) (p q : Option ℤ) (f h : ℤ → Run A) → i ⊆ j →
    ((k : ℤ) → q ≡ Some k → p ≡ Some k) → ((k : ℤ) → Refines (f k) (h k))
    → Refines (after_cell s g i p f) (after_cell s g j q h)
unfolding after_cell
refine_cell s g i j None None f h n c r = still_undecided (inner_one n)
refine_cell s g i j (Some k) None f h n c r = now_decided (inner_one n)
refine_cell s g i j None (Some k) f h n c r = let e = c k refl in cc
refine_cell s g i j (Some l) (Some k) f h n c r =
    let e : Some l ≡ Some k = c k refl in
    let d : l ≡ k = cc in
    rw d (same_test (inner_one n) (r k))

refine_compare : {A : Type 0} (s : Site) (i j k l : Interval) (p q : Option Bool) (f h : Bool → Run A) → i ⊆ k → j ⊆ l →
    ((t : Bool) → q ≡ Some t → p ≡ Some t) → ((t : Bool) → Refines (f t) (h t))
    → Refines (after_compare s i j p f) (after_compare s k l q h)
unfolding after_compare
refine_compare s i j k l None None f h m n c r = still_undecided (inner_two m n)
refine_compare s i j k l (Some t) None f h m n c r = now_decided (inner_two m n)
refine_compare s i j k l None (Some t) f h m n c r = let e = c t refl in cc
refine_compare s i j k l (Some u) (Some t) f h m n c r =
    let e : Some u ≡ Some t = c t refl in
    let d : u ≡ t = cc in
    rw d (same_test (inner_two m n) (r t))

pub run_nested : {A : Type 0} (v w : World) → IsNarrower v w → (p : Program A) → Refines (run v p) (run w p)
unfolding run
run_nested v w h (answer a) = same_answer
run_nested v w h (void s) = same_void
run_nested v w h (cell s g x next) =
    let n = value_nested v w h x in
    refine_cell s g (value v x) (value w x) (cell_at g (value v x)) (cell_at g (value w x)) (λ q. run v (next q))
    (λ q. run w (next q)) n
    (λ k e. cell_nested g _ _ k (value_proper v x) n e) (λ k. run_nested v w h (next k))
run_nested v w h (compare s x y next) =
    let m = value_nested v w h x in
    let n = value_nested v w h y in
    refine_compare s (value v x) (value v y) (value w x) (value w y) (compare_at (value v x) (value v y))
    (compare_at (value w x) (value w y))
    (λ t. run v (next t)) (λ t. run w (next t)) m n
    (λ t e. compare_nested _ _ _ _ t (value_proper v x) (value_proper v y) m n e) (λ t. run_nested v w h (next t))

-- what a run decides, each run that refines it decides alike
refines_value : {A : Type 0} {r t : Run A} (a : A) → Refines r t → outcome t ≡ valued a → outcome r ≡ valued a
unfolding outcome
refines_value a same_answer e = e
refines_value a same_void e = e
refines_value a (still_undecided h) e = cc
refines_value a (now_decided h) e = cc
refines_value a (same_test h k) e = refines_value a k e

refines_void : {A : Type 0} {r t : Run A} (s : Site) → Refines r t → outcome t ≡ void_at s → outcome r ≡ void_at s
unfolding outcome
refines_void a same_answer e = e
refines_void a same_void e = e
refines_void a (still_undecided h) e = cc
refines_void a (now_decided h) e = cc
refines_void a (same_test h k) e = refines_void a k e

pub runs_nest : {A : Type 0} → RunsNest A
runs_nest = record {
  refines = run_nested;
  value_stays = λ v w h p a e. refines_value a (run_nested v w h p) e;
  void_stays = λ v w h p s e. refines_void s (run_nested v w h p) e;
}
