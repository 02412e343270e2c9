-- The numbers of facts that a line lists.
use Rattle.std.specs.Prelude.{◌≡◌, ◌≤◌, ℕ, Bool, false, List, [], ◌∷◌, ◌++◌, Option, Some, None}
use Rattle.book_model.specs.declared.fact.Fact.{Fact}
use Rattle.book_model.specs.calendars.Inquiries.{fact_eq}
use Rattle.cert_check.specs.declared.verdict.Verdict.{Verdict}
use Rattle.cert_check.specs.declared.verdict.Verdict.TheVariants.{No}
use Rattle.cert_check.specs.declared.verdict.Reason.TheVariants.{Missing as missing_reason}
use Rattle.oracle_core.specs.declared.oracle.Stop.{Stop}
use Rattle.oracle_core.specs.declared.oracle.Stop.TheVariants.{Missing}

-- each of the numbers is from 1 to the count
abbrev pub AreNumbers : ℕ → List ℕ → Type 0
AreNumbers count [] = Unit {0}
AreNumbers count (n ∷ ns) = (1 ≤ n) × (n ≤ count) × AreNumbers count ns

-- facts that are asked don't go on behind all the listed ones
pub record EndsWithin (asked listed : List Fact) : Type 0 where
  pub no_more : (f : Fact) (fs : List Fact) → asked ≡ listed ++ f ∷ fs → ⊥

-- the verdict names the fact that an oracle misses
pub record NamesMissing (stop : Stop) (verdict : Verdict) : Type 0 where
  pub fact : Fact
  pub stops : stop ≡ Missing fact
  pub named : verdict ≡ No (missing_reason fact)

-- there is a fact, and it is this one
abbrev pub is_fact_at : Option Fact → Fact → Bool
is_fact_at None f = false
is_fact_at (Some g) f = fact_eq g f
