-- Values of facts that are cached beside an oracle.
use Rattle.std.specs.Prelude.{◌≡◌, true, ℤ, List, [], ◌∷◌, Option, Some, None, if◌then◌else◌}
use Rattle.std.specs.List.{list_any}
use Rattle.book_model.specs.declared.fact.Fact.{Fact}
use Rattle.book_model.specs.sky.Facts.{IsFactValue}
use Rattle.book_model.specs.calendars.Inquiries.{fact_eq}
use Rattle.chinese_cal.specs.declared.kept.Kept.{Kept}
use Rattle.oracle_core.specs.declared.oracle.Oracle.{Ghosts}
use Rattle.oracle_core.specs.Inquiring.{Meaning, State}

-- the value is known of the fact, and the fact is among those asked
pub record IsKept {Known : Type 0} (m : Meaning Known) (s : State Known) (f : Fact) (v : ℤ) : Type 0 where
  pub known : m.value_of s.known (m.kept_as s.known f) v
  pub asked : list_any (fact_eq (m.kept_as s.known f)) s.asked ≡ true
  pub value : IsFactValue v

-- so it is of each fact in these places with the value beside it
abbrev pub AllKept : {Known : Type 0} → Meaning Known → State Known → List (Option (Fact × ℤ)) → Type 0
AllKept m s [] = Unit {0}
AllKept m s (None ∷ es) = AllKept m s es
AllKept m s (Some e ∷ es) = IsKept m s e.0 e.1 × AllKept m s es

-- so it is of all that is cached beside an oracle
abbrev pub Keeps : {O : Type 0} → Ghosts O → O → Kept → Type 0
Keeps g oracle kept = AllKept g.meaning (g.state oracle) kept.places

-- the places hold nothing
abbrev pub AreEmpty : List (Option (Fact × ℤ)) → Type 0
AreEmpty [] = Unit {0}
AreEmpty (None ∷ es) = AreEmpty es
AreEmpty (Some e ∷ es) = ⊥

-- the value that stands beside the fact, before the first place that holds nothing
abbrev pub kept_value : List (Option (Fact × ℤ)) → Fact → Option ℤ
kept_value [] f = None
kept_value (None ∷ es) f = None
kept_value (Some e ∷ es) f = if fact_eq e.0 f then Some e.1 else kept_value es f
