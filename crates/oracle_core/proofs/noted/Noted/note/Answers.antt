use Rattle.std.proofs.Common.{◌≡◌, true, false, refl}
use Rattle.std.specs.Prelude.{Result, Ok, Err, OnErr}
use Rattle.std.specs.List.{list_any}
use Rattle.book_model.specs.calendars.Inquiries.{fact_eq}
use Rattle.oracle_core.proofs.Noting.{there, not_there}
use Rattle.oracle_core.proofs.noted.Noted.note.Goals as goal

-- what holds at all holds at an error
at_error : {A E P : Type 0} (r : Result A E) → P → OnErr r P
at_error (Ok x) h = tt
at_error (Err e) h = h

pub returns-in-Some-clause-ok : goal.returns-in-Some-clause-ok
returns-in-Some-clause-ok c =
    let here : list_any (fact_eq c.args.fact) c.args.self.now ≡ true = there (fact_eq c.args.fact) c.args.self.now _
    c.in-Some.ensures.place in
    rw here refl

pub returns-in-None-clause-ok : goal.returns-in-None-clause-ok
returns-in-None-clause-ok c =
    let new : list_any (fact_eq c.args.fact) c.args.self.now ≡ false = not_there (fact_eq c.args.fact) c.args.self.now
    c.in-None.ensures.place in
    rw new (rw c.self.view_is at c.push.ensures.ok)

pub returns-in-None-clause-new : goal.returns-in-None-clause-new
returns-in-None-clause-new c = at_error c.push.result
    (not_there (fact_eq c.args.fact) c.args.self.now c.in-None.ensures.place)
