-- Outcomes that are right for lines, none of them undecided, are settled by the lines.
use Rattle.std.proofs.Common.{◌≡◌, ◌∙◌, sym, ℕ, Bool, true, false, if◌then◌else◌, ℤ, List, [], ◌∷◌, length, filter}
use Rattle.std.proofs.Common.{refl, ap, arith}
use Rattle.std.specs.Prelude.{Result, Ok, Err}
use Rattle.book_model.specs.declared.fact.Fact.{Fact}
use Rattle.book_model.specs.declared.request.Request.{Request}
use Rattle.book_model.specs.declared.request.Resolved.{Resolved}
use Rattle.book_model.specs.declared.request.Rule.{Rule}
use Rattle.book_model.specs.declared.site.Site.{Site}
use Rattle.book_model.specs.declared.version.Version.{Version}
use Rattle.book_model.specs.declared.version.TheConstants.{WRITTEN}
use Rattle.book_model.specs.sky.Facts.{run_of, IsVoidAt}
use Rattle.book_model.specs.calendars.Inquiries.{Inquiry, found, stopped, finding, finding_after, with_entry, AsksAt}
use Rattle.book_model.specs.calendars.Inquiries.{asks_here, asks_after}
use Rattle.book_model.specs.lines.LineRules.{rule_of}
use Rattle.book_model.specs.lines.Outcomes.{LineOutcome, refused, resolved, undecided, void, HasResult, AsksAlways}
use Rattle.book_model.specs.lines.Outcomes.{IsRightForRow, AreRight}
use Rattle.book_model.specs.programs.Programs.{outcome, void_at}
use Rattle.book_model.specs.lines.Requests.{request_of}
use Rattle.book_model.specs.lines.Text.{text}
use Rattle.cert_text.specs.Laws.{is_undecided, HasNoneUndecided, HasOneText}

-- at a fact without a value that an inquiry asks, its finding returns early
stops_at : {A : Type 0} (n : ℕ) (seen : List (Fact × ℤ)) (i : Inquiry A) (f : Fact) (s : Site) → AsksAt n i f
    → outcome (run_of n f) ≡ void_at s
    → finding_after n seen i ≡ stopped f
unfolding finding_after
stops_at n seen i f s asks_here e = rw e refl
stops_at n seen i f s (asks_after {g = g} {v = v} here more) e = rw here (stops_at n (with_entry seen g v) _ f s more e)

-- so it does at the fact of a request that is void
void_found : (version : Version) (r : Request) (f : Fact) (s : Site) → AsksAlways version r f → IsVoidAt f s
    → finding 40 (rule_of version r) ≡ stopped f
void_found version r f s a v = stops_at 40 [] (rule_of version r) f s (a.at_each_depth 40 (omega arith))
    (v.at_each_depth 40 (omega arith))

-- a result is one
one_result : (version : Version) (r : Request) (x y : Resolved) (es ds : List (Fact × ℤ))
    → HasResult version r x es → HasResult version r y ds → resolved x es ≡ resolved y ds
one_result version r x y es ds h k =
    let p : finding 40 (rule_of version r) ≡ found x es = h.at_each_depth 40 (omega arith) in
    let q : finding 40 (rule_of version r) ≡ found y ds = k.at_each_depth 40 (omega arith) in
    let results : found x es ≡ found y ds = cc in
    let first : x ≡ y = cc in
    let second : es ≡ ds = cc in
    rw (first, second) refl

-- a request with a result has no void fact
result_or_void : (version : Version) (r : Request) (x : Resolved) (es : List (Fact × ℤ)) (f : Fact) (s : Site)
    → HasResult version r x es → AsksAlways version r f → IsVoidAt f s → ⊥
result_or_void version r x es f s h a v =
    let p : finding 40 (rule_of version r) ≡ found x es = h.at_each_depth 40 (omega arith) in
    let q : finding 40 (rule_of version r) ≡ stopped f = void_found version r f s a v in
    let both : found x es ≡ stopped f = cc in
    absurd (cc)

-- a void fact is one
one_void : (version : Version) (r : Request) (f g : Fact) (s t : Site)
    → AsksAlways version r f → IsVoidAt f s → AsksAlways version r g → IsVoidAt g t → void f s ≡ void g t
one_void version r f g s t a v b w =
    let p : finding 40 (rule_of version r) ≡ stopped f = void_found version r f s a v in
    let q : finding 40 (rule_of version r) ≡ stopped g = void_found version r g t b w in
    let both = sym p ∙ q in
    let fact : f ≡ g = cc in
    let m : outcome (run_of 40 f) ≡ void_at s = v.at_each_depth 40 (omega arith) in
    let n : outcome (run_of 40 g) ≡ void_at t = w.at_each_depth 40 (omega arith) in
    let site : s ≡ t = cc in
    rw (fact, site) refl

-- two outcomes that are right for a row, neither of them undecided, are one
one_outcome : (version : Version) (row : Result Request Rule) (o p : LineOutcome)
    → IsRightForRow version row o → IsRightForRow version row p → is_undecided o ≡ false → is_undecided p ≡ false
    → o ≡ p
one_outcome version (Err rule) o p h k a b = rw (h, k) refl
one_outcome version (Ok r) (undecided f u) p h k a b = absurd (cc)
one_outcome version (Ok r) o (undecided f u) h k a b = absurd (cc)
one_outcome version (Ok r) (refused rule) p h k a b = absurd h
one_outcome version (Ok r) o (refused rule) h k a b = absurd k
one_outcome version (Ok r) (resolved x es) (resolved y ds) h k a b = one_result version r x y es ds h k
one_outcome version (Ok r) (resolved x es) (void g t) h k a b = absurd (result_or_void version r x es g t h k.0 k.1)
one_outcome version (Ok r) (void f s) (resolved y ds) h k a b = absurd (result_or_void version r y ds f s k h.0 h.1)
one_outcome version (Ok r) (void f s) (void g t) h k a b = one_void version r f g s t h.0 h.1 k.0 k.1

-- none of several is undecided: not the first, and none of the others
none_of : (o : LineOutcome) (os : List LineOutcome) → HasNoneUndecided (o ∷ os) → (is_undecided o ≡ false)
    × HasNoneUndecided os
none_of o os h = by (is_undecided o) refl h
  where
    by : (t : Bool) → is_undecided o ≡ t → length (if t then o ∷ filter is_undecided os else filter is_undecided os) ≡ 0
        → (is_undecided o ≡ false)
        × (length (filter is_undecided os) ≡ 0)
    by true e k = absurd (omega arith)
    by false e k = (e, k)

-- outcomes that are right for lines, none of them undecided, are one list
pub one_list : (version : Version) (lines : List (List ℕ)) (os ps : List LineOutcome)
    → AreRight version lines os → AreRight version lines ps → HasNoneUndecided os → HasNoneUndecided ps → os ≡ ps
one_list version [] [] [] h k a b = refl
one_list version [] [] (p ∷ ps) h k a b = absurd k
one_list version [] (o ∷ os) ps h k a b = absurd h
one_list version (line ∷ lines) [] ps h k a b = absurd h
one_list version (line ∷ lines) (o ∷ os) [] h k a b = absurd k
one_list version (line ∷ lines) (o ∷ os) (p ∷ ps) h k a b =
    let m = none_of o os a in
    let n = none_of p ps b in
    let first : o ≡ p = one_outcome version (request_of version line) o p h.0 k.0 m.0 n.0 in
    let rest : os ≡ ps = one_list version lines os ps h.1 k.1 m.1 n.1 in
    rw (first, rest) refl

-- and so their text is one
pub one_text : (lines : List (List ℕ)) → HasOneText lines
one_text lines = λ os ps h k a b. ap (text lines) (one_list WRITTEN lines os ps h k a b)
