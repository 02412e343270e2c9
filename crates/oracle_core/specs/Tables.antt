-- What comes of an inquiry over tables of the values of facts.
use Rattle.std.specs.Prelude.{◌≡◌, ℤ, List, [], ◌∷◌, ◌++◌}
use Rattle.book_model.specs.declared.fact.Fact.{Fact}
use Rattle.book_model.specs.calendars.Inquiries.{Inquiry, result_over, facts_over, with_kept}
use Rattle.oracle_core.specs.declared.oracle.Stop.{Stop}
use Rattle.oracle_core.specs.Inquiring.{Meaning, State}
use Rattle.oracle_core.specs.Pairs.{IsPrefix}
use Rattle.oracle_core.specs.Stops.{IsStopAt}

-- the table gives each of these facts the value that is known of the fact under which it is stored
abbrev pub AgreesOn : {Known : Type 0} → Meaning Known → Known → List Fact → (Fact → ℤ) → Type 0
AgreesOn m k [] table = Unit {0}
AgreesOn m k (f ∷ fs) table = ((v : ℤ) → m.value_of k (m.kept_as k f) v → table f ≡ v) × AgreesOn m k fs table

-- a value is known of each of these facts
abbrev pub AreValued : {Known : Type 0} → Meaning Known → Known → List Fact → Type 0
AreValued m k [] = Unit {0}
AreValued m k (f ∷ fs) = ((v : ℤ) × m.value_of k (m.kept_as k f) v) × AreValued m k fs

-- the inquiry asks these facts of the table, in order, and this is its result
pub record ComesTo {A : Type 0} (i : Inquiry A) (table : Fact → ℤ) (facts : List Fact) (a : A) : Type 0 where
  pub asks : facts_over table i ≡ facts
  pub result : result_over table i ≡ a

-- Facts were asked of which values are known, and joined the list in order. Over every table that agrees on them the
-- inquiry asks these and no others, and this is its result.
pub record AnswersOver {Known A : Type 0} (m : Meaning Known) (i : Inquiry A) (old new : State Known) (a : A) : Type 0
  where
    pub facts : List Fact
    pub valued : AreValued m old.known facts
    pub asked : new.asked ≡ with_kept (m.kept_as old.known) old.asked facts
    pub over : (table : Fact → ℤ) → AgreesOn m old.known facts table → ComesTo i table facts a

-- Facts were asked of which values are known, and joined the list in order. Over every table that agrees on them the
-- inquiry asks these first, and then the one at which the oracle returned early.
pub record StopsOver {Known A : Type 0} (m : Meaning Known) (i : Inquiry A) (old new : State Known) (s : Stop) : Type 0
  where
    pub before : List Fact
    pub fact : Fact
    pub valued : AreValued m old.known before
    pub asked : new.asked ≡ with_kept (m.kept_as old.known) old.asked before
    pub over : (table : Fact → ℤ) → AgreesOn m old.known before table
        → IsPrefix (before ++ fact ∷ []) (facts_over table i)
    pub stop : IsStopAt (m.may_stop old.known) (m.kept_as old.known fact) s
