-- What a reader holds beside a file agrees with the file, with one more fact or line too.
use Rattle.std.proofs.Common.{◌≡◌, ℕ, ◌+◌, ◌<◌, ◌==◌, Bool, true, false, ◌||◌, refl, List, [], ◌∷◌, ◌++◌, length}
use Rattle.std.proofs.Common.{get_or, map, arith, ℤ}
use Rattle.std.specs.List.{list_any}
use Rattle.std.specs.BTreeSet.{BTreeSet}
use Rattle.std.proofs.lemmas.Bool.Decides.{nat_tests}
use Rattle.std.proofs.lemmas.List.{get_or_append_left}
use Rattle.std.proofs.Math.Seq.{get_or-append_seam}
use Rattle.book_model.specs.declared.fact.Fact.{Fact}
use Rattle.book_model.specs.calendars.Inquiries.{fact_eq}
use Rattle.cert_parser.specs.declared.lines.CertFile.{CertFile}
use Rattle.cert_parser.specs.Agreeing.{Agrees}
use Rattle.cert_parser.specs.Listings.{AreBelow}
use Rattle.cert_parser.specs.Seen.{HasMore}

longer : {X : Type 0} (xs : List X) (x : X) → length (xs ++ x ∷ []) ≡ length xs + 1
longer [] x = refl
longer (y ∷ xs) x = let e = longer xs x in omega (arith, e)

-- among facts with one more
among_more : (f fact : Fact) (value : ℤ) (facts : List (Fact × ℤ))
    → list_any (fact_eq f) (map (λ e. e.0) (facts ++ (fact, value) ∷ []))
    ≡ (fact_eq f fact || list_any (fact_eq f) (map (λ e. e.0) facts))
among_more f fact value [] = refl
among_more f fact value (e ∷ es) = step (fact_eq f e.0) (fact_eq f fact)
    (list_any (fact_eq f) (map (λ e. e.0) (es ++ (fact, value) ∷ [])))
    (list_any (fact_eq f) (map (λ e. e.0) es)) (among_more f fact value es)
  where
    step : (a b c d : Bool) → c ≡ (b || d) → (a || c) ≡ (b || (a || d))
    step true true c d h = refl
    step true false c d h = refl
    step false b c d h = h

-- a mark more, of no line
below_more : (line : ℕ) (marks : List ℕ) → 0 < line → AreBelow line marks → AreBelow line (marks ++ 0 ∷ [])
below_more line marks some below i h = by (i == length marks) refl
  where
    by : (t : Bool) → (i == length marks) ≡ t → get_or (marks ++ 0 ∷ []) i 0 < line
    by true e =
        let last : i ≡ length marks = grind (arith, nat_tests, e) in
        rw (last, get_or-append_seam marks 0 [] 0) some
    by false e =
        let other : i ≡ length marks → ⊥ = λ s. grind (arith, nat_tests, e, s) in
        let n = longer marks 0 in
        let within : i < length marks = omega (arith, h, n, other) in
        rw (get_or_append_left marks (0 ∷ []) 0 i within) (below i within)

pub agrees_with_fact : (file : CertFile) (seen more : List (BTreeSet ℤ)) (marks : List ℕ) (fact : Fact) (value : ℤ)
    → Agrees file seen marks
    → HasMore seen fact more → Agrees (record file { facts = file.facts ++ (fact, value) ∷ [] }) more (marks ++ 0 ∷ [])
agrees_with_fact file seen more marks fact value agrees new = record {
  same = λ f. rw (among_more f fact value file.facts, ← agrees.same f) (new f);
  one_each = rw (longer marks 0, longer file.facts (fact, value), agrees.one_each) refl;
  earlier = below_more (length file.lines + 1) marks (omega arith) agrees.earlier;
}
