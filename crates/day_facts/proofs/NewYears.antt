-- From where a search for a season sets out. The floor of an estimated passage is that of the definition's run, of
-- which moon_core's lemma on the start of a search says that it lies near the years of which ΔT is known; its two
-- bounds are one clause each.
use Rattle.std.specs.Prelude.{ℕ, ℤ, pos, ◌-ℤ◌, ◌≤ℤ◌, Result, Ok, Err, IfOk}
use Rattle.book_model.specs.Interval.{Interval}
use Rattle.book_model.specs.declared.fail.Fail.{Fail}
use Rattle.book_model.specs.declared.site.Site.{Site}
use Rattle.book_model.specs.declared.time_tables.TheConstants.{TABLE_START, TABLE_END}
use Rattle.book_model.specs.numbers.Expressions.{Expression, World}
use Rattle.book_model.specs.sky.Kinds.{last_passage_of}
use Rattle.book_model.specs.programs.Leading.{Leads, Exact, leaf}
use Rattle.book_model.specs.programs.Programs.{Program, answer, cell, integers}
use Rattle.book_model.specs.numbers.Relations.{Within}
use Rattle.book_model.proofs.FactRuns.{decides}
use Rattle.book_model.proofs.Leads.{leads_leaf, leads_value}
use Rattle.moon_core.proofs.NewYears.{IsEstimate, search_start_near}

-- the floor of the estimated passage doesn't lie far off
pub is_estimate : {E : Type 0} {shown : E → Interval} (w : World) (site : Site) (moment : ℤ → Program Expression)
    (l d : ℤ) {a b e : ℕ} {y : E}
    (r : Result ℤ Fail) →
    Leads w (Within shown w) (last_passage_of moment l d) a b (Ok y)
    → Leads w Exact (cell site integers (leaf w (last_passage_of moment l d)) answer) b e r
    → IfOk r (λ q. IsEstimate q)
is_estimate w site moment l d (Ok q) h f =
    let v = decides w site integers (leaf w (last_passage_of moment l d)) (λ z. z) q (leads_value f) in
    rw v.leads_to at (search_start_near w moment l d v.cell_there (leaf w (last_passage_of moment l d)) (leads_leaf h)
    v.decided_so)
is_estimate w site moment l d (Err z) h f = tt

pub begun : (r : Result ℤ Fail) → IfOk r (λ q. IsEstimate q) → IfOk r (λ q. (TABLE_START -ℤ pos 579) ≤ℤ q)
begun (Ok q) h = h.from
begun (Err z) h = tt

pub ended : (r : Result ℤ Fail) → IfOk r (λ q. IsEstimate q) → IfOk r (λ q. q ≤ℤ TABLE_END)
ended (Ok q) h = h.to
ended (Err z) h = tt
