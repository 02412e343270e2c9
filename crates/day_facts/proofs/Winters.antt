-- How many solar terms the sun has passed, as the call says it: the count is the floor that the definition's run takes,
-- which Solstices bounds; its two bounds are one clause each.
use Rattle.std.specs.Prelude.{ℕ, ℤ, ◌≤ℤ◌, pos, Result, Ok, Err, IfOk}
use Rattle.book_model.specs.Interval.{Interval}
use Rattle.book_model.specs.declared.fact.Place.{Place}
use Rattle.book_model.specs.declared.fail.Fail.{Fail}
use Rattle.book_model.specs.declared.site.Site.{Site}
use Rattle.book_model.specs.declared.sun_tables.TheConstants.{DEGREE_IN_TERMS}
use Rattle.book_model.specs.numbers.Expressions.{World, scale}
use Rattle.book_model.specs.numbers.Fractions.{fraction_of}
use Rattle.book_model.specs.sky.Kinds.{longitude_at_midnight_of}
use Rattle.book_model.specs.programs.Leading.{Leads, Exact, leaf}
use Rattle.book_model.specs.programs.Programs.{answer, cell, integers}
use Rattle.book_model.specs.numbers.Relations.{Within}
use Rattle.book_model.proofs.FactRuns.{decides}
use Rattle.book_model.proofs.Leads.{leads_leaf, leads_value}
use Rattle.day_facts.proofs.Solstices.{term_near, IsTerm}

-- the spans of 30 degrees that the sun has passed are at most twelve
pub is_term : {E : Type 0} {shown : E → Interval} (w : World) (site : Site) (place : Place) (d : ℤ) {a b e : ℕ} {y : E}
    (r : Result ℤ Fail) →
    Leads w (Within shown w) (longitude_at_midnight_of place d) a b (Ok y)
    → Leads w Exact
    (cell site integers (scale (fraction_of DEGREE_IN_TERMS) (leaf w (longitude_at_midnight_of place d))) answer) b e
    r
    → IfOk r (λ q. IsTerm q)
is_term w site place d (Ok q) h f =
    let v = decides w site integers (scale (fraction_of DEGREE_IN_TERMS) (leaf w (longitude_at_midnight_of place d)))
    (λ z. z) q (leads_value f) in
    rw v.leads_to at (term_near w place d v.cell_there (leaf w (longitude_at_midnight_of place d)) (leads_leaf h)
    v.decided_so)
is_term w site place d (Err z) h f = tt

pub term_from : (r : Result ℤ Fail) → IfOk r (λ q. IsTerm q) → IfOk r (λ q. pos 0 ≤ℤ q)
term_from (Ok q) h = h.from
term_from (Err z) h = tt

pub term_to : (r : Result ℤ Fail) → IfOk r (λ q. IsTerm q) → IfOk r (λ q. q ≤ℤ pos 12)
term_to (Ok q) h = h.to
term_to (Err z) h = tt
