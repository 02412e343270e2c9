use Rattle.std.proofs.Common.{rules, refl, ◌≡◌, to_z, of_z, w64, pos}
use Rattle.std.specs.Prelude.{slice_index_or}
use Rattle.std.proofs.lemmas.Result.{err_from_is_err_and}
use Rattle.book_model.specs.calendars.Inquiries.{fact_eq}
use Rattle.oracle_core.proofs.Inquiring.{asked_value, asked_stop}
use Rattle.oracle_core.proofs.Listing.{listed_value, found_fits, never_asked, listed_noted}
use Rattle.oracle_core.proofs.Noting.{there, not_there}
use Rattle.oracle_core.proofs.listed.ListedOracle.ask.Goals as goal

pub invariant_of-self-in-Some : goal.invariant_of-self-in-Some
invariant_of-self-in-Some c =
    let here = there (fact_eq c.args.fact) _ _ c.in-Some.ensures.place in
    record {
      same = c.self.invariant.same;
      known = c.self.invariant.known;
      listed = listed_noted _ _ _ c.args.fact c.note.result c.self.invariant.listed here c.note.ensures.ok
          c.note.ensures.err;
    }

pub returns-in_ok-note-in-Some : goal.returns-in_ok-note-in-Some
returns-in_ok-note-in-Some c =
    let value : to_z w64 (of_z w64 (slice_index_or c.self.inside.values.now c.in-Some.place (pos 0)))
    ≡ slice_index_or c.self.inside.values.now c.in-Some.place (pos 0) = search rules in
    let fits = found_fits _ _ c.args.fact _ (pos 0) c.self.invariant.same c.in-Some.ensures.place c.self.invariant.known
    in
    rw (← c.self.view_is, value) (record {
      asks = asked_value c.args.fact refl c.in_ok-note-in-Some.ensures.ok
          (listed_value _ _ c.args.fact _ (pos 0) c.self.invariant.same c.in-Some.ensures.place);
      value = fits;
    })

pub returns-in-None-clause-asks : goal.returns-in-None-clause-asks
returns-in-None-clause-asks c =
    let none = not_there (fact_eq c.args.fact) _ c.in-None.ensures.place in
    rw (← c.self.view_is) (asked_stop c.args.fact refl refl (never_asked _ _ c.args.fact c.self.invariant.listed none)
    (record { names = refl; may = none }))

pub returns-in_err-note-in-Some-clause-asks : goal.returns-in_err-note-in-Some-clause-asks
returns-in_err-note-in-Some-clause-asks c =
    let p = err_from_is_err_and c.from_residual.result c.from_residual.ensures.1 in
    rw (← c.self.view_is, p.1, p.2) (asked_stop c.args.fact refl c.in_err-note-in-Some.ensures.err
    c.in_err-note-in-Some.ensures.new
    (record { names = tt; may = tt }))
