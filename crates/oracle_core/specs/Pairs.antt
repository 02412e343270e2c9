-- Facts beside their values.
use Rattle.std.specs.Prelude.{◌≡◌, ◌&&◌, not, Bool, true, if◌then◌else◌, ℤ, ◌≤ℤ◌, List, [], ◌∷◌, ◌++◌, length, Option}
use Rattle.std.specs.Prelude.{Some, None}
use Rattle.std.specs.List.{list_any}
use Rattle.std.proofs.Common.{arith}
use Rattle.book_model.specs.declared.fact.Fact.{Fact}
use Rattle.book_model.specs.declared.fact.TheConstants.{LEAST_VALUE, GREATEST_VALUE}
use Rattle.book_model.specs.sky.Facts.{run_of, IsTrueWith}
use Rattle.book_model.specs.calendars.Inquiries.{fact_eq}
use Rattle.book_model.specs.programs.Programs.{outcome, valued}

-- the fact is true with the value, which it may have
pub record StandsWith (f : Fact) (v : ℤ) : Type 0 where
  pub is_true : IsTrueWith f v
  pub low : LEAST_VALUE ≤ℤ v
  pub high : v ≤ℤ GREATEST_VALUE

-- the facts of the pairs
abbrev pub facts_of : List (Fact × ℤ) → List Fact
facts_of [] = []
facts_of (e ∷ es) = e.0 ∷ facts_of es

-- each fact is true with the value beside it
abbrev pub AllStand : List (Fact × ℤ) → Type 0
AllStand [] = Unit {0}
AllStand (e ∷ es) = StandsWith e.0 e.1 × AllStand es

-- no fact is there twice
abbrev pub are_distinct : List Fact → Bool
are_distinct [] = true
are_distinct (f ∷ fs) = not (list_any (fact_eq f) fs) && are_distinct fs

-- each value is one that a fact may have
abbrev pub AreFactValues : List ℤ → Type 0
AreFactValues [] = Unit {0}
AreFactValues (v ∷ vs) = (LEAST_VALUE ≤ℤ v) × (v ≤ℤ GREATEST_VALUE) × AreFactValues vs

-- the value that stands beside the fact
abbrev pub value_beside : List Fact → List ℤ → Fact → Option ℤ
value_beside [] vs f = None
value_beside (g ∷ gs) [] f = None
value_beside (g ∷ gs) (v ∷ vs) f = if fact_eq f g then Some v else value_beside gs vs f

-- facts, with the value of each at the same place
pub record FactTable : Type 0 where
  pub facts : List Fact
  pub values : List ℤ

-- the list begins with these
pub record IsPrefix (prefix whole : List Fact) : Type 0 where
  pub rest : List Fact
  pub joined : prefix ++ rest ≡ whole

-- facts with their values, each of which a fact may have; each fact that was asked is one of them
pub record IsListing (facts : List Fact) (values : List ℤ) (asked : List Fact) : Type 0 where
  pub same : length facts ≡ length values
  pub known : AreFactValues values
  pub listed : (f : Fact) → list_any (fact_eq f) asked ≡ true → list_any (fact_eq f) facts ≡ true

-- a fact stands beside one value
pub one_value_beside : (facts : List Fact) (values : List ℤ) (f : Fact) (v w : ℤ) → value_beside facts values f ≡ Some v
    → value_beside facts values f ≡ Some w
    → v ≡ w
one_value_beside facts values f v w h k = cc

-- a fact is true with one value
pub one_truth : (f : Fact) (v w : ℤ) → StandsWith f v → StandsWith f w → v ≡ w
one_truth f v w h k =
    let a : outcome (run_of 40 f) ≡ valued v = h.is_true.at_each_depth 40 (omega arith) in
    let b : outcome (run_of 40 f) ≡ valued w = k.is_true.at_each_depth 40 (omega arith) in
    cc
