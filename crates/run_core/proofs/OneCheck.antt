-- A file no fact of which is answered by an undecided test has one text of verdicts. A fact is true with one value or
-- void at one site, as its run at depth 40 shows, which can have one outcome only; so two lists of right answers are
-- equal, by induction, and the text is a function of the file and of them.
use Rattle.std.proofs.Common.{◌≡◌, sym, ℕ, ℤ, Bool, true, false, if◌then◌else◌, List, [], ◌∷◌, length, filter}
use Rattle.std.proofs.Common.{refl, arith}
use Rattle.book_model.specs.declared.fact.Fact.{Fact}
use Rattle.book_model.specs.declared.site.Site.{Site}
use Rattle.book_model.specs.programs.Programs.{outcome, valued, void_at}
use Rattle.book_model.specs.sky.Facts.{run_of, IsTrueWith, IsVoidAt}
use Rattle.oracle_core.specs.Answers.{IsRightAnswer}
use Rattle.oracle_core.specs.declared.evaluator.Answer.{Answer}
use Rattle.oracle_core.specs.declared.evaluator.Answer.TheVariants.{Value, Undecided, Void}
use Rattle.cert_parser.specs.declared.lines.CertFile.{CertFile}
use Rattle.cert_parser.specs.Reading.{file, grammar_of}
use Rattle.cert_check.specs.Verdicts.{AreRightAnswers}
use Rattle.run_core.specs.Checking.{verdicts_of, verdicts_text}
use Rattle.run_core.specs.Laws.{HasOneCheck, is_open}

-- a fact is true with one value
one_value : (f : Fact) (v w : ℤ) → IsTrueWith f v → IsTrueWith f w → v ≡ w
one_value f v w h k =
    let p : outcome (run_of 40 f) ≡ valued v = h.at_each_depth 40 (omega arith) in
    let q : outcome (run_of 40 f) ≡ valued w = k.at_each_depth 40 (omega arith) in
    cc

-- a fact that is true with a value isn't void
true_or_void : (f : Fact) (v : ℤ) (s : Site) → IsTrueWith f v → IsVoidAt f s → ⊥
true_or_void f v s h k =
    let p : outcome (run_of 40 f) ≡ valued v = h.at_each_depth 40 (omega arith) in
    let q : outcome (run_of 40 f) ≡ void_at s = k.at_each_depth 40 (omega arith) in
    cc

-- a fact is void at one site
one_site : (f : Fact) (s t : Site) → IsVoidAt f s → IsVoidAt f t → s ≡ t
one_site f s t h k =
    let p : outcome (run_of 40 f) ≡ void_at s = h.at_each_depth 40 (omega arith) in
    let q : outcome (run_of 40 f) ≡ void_at t = k.at_each_depth 40 (omega arith) in
    cc

-- two right answers for a fact, neither of them an undecided test, are one
one_answer : (f : Fact) (x y : Answer) → IsRightAnswer f x → IsRightAnswer f y → is_open x ≡ false → is_open y ≡ false
    → x ≡ y
one_answer f (Undecided u) y h k a b = absurd (cc)
one_answer f x (Undecided u) h k a b = absurd (cc)
one_answer f (Value v) (Value w) h k a b = let same = one_value f v w h.0 k.0 in rw same refl
one_answer f (Value v) (Void s) h k a b = absurd (true_or_void f v s h.0 k)
one_answer f (Void s) (Value v) h k a b = absurd (true_or_void f v s k.0 h)
one_answer f (Void s) (Void t) h k a b = let same = one_site f s t h k in rw same refl

-- none of several is an undecided test: not the first, and none of the others
none_of : (x : Answer) (xs : List Answer) → length (filter is_open (x ∷ xs)) ≡ 0
    → (is_open x ≡ false) × (length (filter is_open xs) ≡ 0)
none_of x xs h = by (is_open x) refl h
  where
    by : (t : Bool) → is_open x ≡ t → length (if t then x ∷ filter is_open xs else filter is_open xs) ≡ 0
        → (is_open x ≡ false) × (length (filter is_open xs) ≡ 0)
    by true e k = absurd (omega arith)
    by false e k = (e, k)

-- right answers for facts, none of them an undecided test, are one list
one_list : (es : List (Fact × ℤ)) (xs ys : List Answer) → AreRightAnswers es xs → AreRightAnswers es ys
    → length (filter is_open xs) ≡ 0 → length (filter is_open ys) ≡ 0 → xs ≡ ys
one_list [] [] [] h k a b = refl
one_list [] [] (y ∷ ys) h k a b = absurd k
one_list [] (x ∷ xs) ys h k a b = absurd h
one_list (e ∷ es) [] ys h k a b = absurd h
one_list (e ∷ es) (x ∷ xs) [] h k a b = absurd k
one_list (e ∷ es) (x ∷ xs) (y ∷ ys) h k a b =
    let m = none_of x xs a in
    let n = none_of y ys b in
    let first : x ≡ y = one_answer e.0 x y h.0 k.0 m.0 n.0 in
    let rest : xs ≡ ys = one_list es xs ys h.1 k.1 m.1 n.1 in
    rw (first, rest) refl

-- and so the text of their verdicts is one
one_text_of : (f g : CertFile) (xs ys : List Answer) → f ≡ g → AreRightAnswers f.facts xs → AreRightAnswers g.facts ys
    → length (filter is_open xs) ≡ 0 → length (filter is_open ys) ≡ 0
    → verdicts_text (verdicts_of f xs) ≡ verdicts_text (verdicts_of g ys)
one_text_of f g xs ys e h k a b =
    let right : AreRightAnswers f.facts ys = rw (sym e) at k in
    let same : xs ≡ ys = one_list f.facts xs ys h right a b in
    rw (e, same) refl

-- bytes are one file
same_file : (input : List ℕ) (f g : CertFile) → grammar_of input ≡ file f → grammar_of input ≡ file g → f ≡ g
same_file input f g h k =
    let files : file f ≡ file g = cc in
    cc

-- bytes have one text of verdicts
pub one_check : (input : List ℕ) → HasOneCheck input
one_check input = λ old new before after all each c d a b. one_text_of c.of d.of c.checks.answers d.checks.answers
    (same_file input c.of d.of c.read d.read) c.checks.right d.checks.right a b
