-- What an oracle over an evaluator answers makes a right outcome.
use Rattle.std.proofs.Common.{◌≡◌, ℤ, arith, List, []}
use Rattle.std.specs.Prelude.{Ok, Err}
use Rattle.book_model.specs.declared.fact.Fact.{Fact}
use Rattle.book_model.specs.declared.fail.Undecided.{Undecided}
use Rattle.book_model.specs.declared.site.Site.{Site}
use Rattle.book_model.specs.declared.request.Request.{Request}
use Rattle.book_model.specs.declared.request.Resolved.{Resolved}
use Rattle.book_model.specs.lines.LineRules.{rule_of}
use Rattle.book_model.specs.declared.version.Version.{Version}
use Rattle.book_model.specs.lines.Outcomes.{LineOutcome, resolved, undecided, void, IsRightForRow}
use Rattle.oracle_core.specs.declared.oracle.Stop.{Stop}
use Rattle.oracle_core.specs.declared.oracle.Stop.TheVariants.{Undecided as undecided_stop, Void as void_stop}
use Rattle.oracle_core.specs.declared.oracle.Stop.TheVariants.{Missing as missing_stop, Memory as memory_stop}
use Rattle.oracle_core.specs.Inquiring.{State, Inquires}
use Rattle.oracle_core.specs.Oracles.{by_evaluator}
use Rattle.oracle_core.specs.Pairs.{AllStand, facts_of}
use Rattle.oracle_core.proofs.Findings.{finds, stops_there}
use Rattle.jobs_core.specs.Outcomes.{ComesOfStop}

-- an answer of the oracle makes a right result
pub right_result : (version : Version) (r : Request) (x : Resolved) (es : List (Fact × ℤ)) (old new : State (Unit {0}))
    → AllStand es
    → old.asked ≡ [] → new.asked ≡ facts_of es → Inquires by_evaluator (rule_of version r) old new (Ok x)
    → IsRightForRow version (Ok r) (resolved x es)
right_result version r x es old new all none asked h =
    record { at_each_depth = λ n deep. finds n (rule_of version r) es x deep all none asked h }

-- an undecided test at which the oracle returns early makes a right outcome
right_undecided : (version : Version) (r : Request) (f : Fact) (u : Undecided) (old new : State (Unit {0}))
    → Inquires by_evaluator (rule_of version r) old new (Err (undecided_stop f u))
    → IsRightForRow version (Ok r) (undecided f u)
right_undecided version r f u old new h =
    let here = stops_there 40 (omega arith) h in
    let named : f ≡ here.fact = here.stop.names in (
      record {
        at_each_depth = λ n deep. let there = stops_there n deep h in let same : f ≡ there.fact = there.stop.names in
            rw same there.asks;
      },
      rw named here.stop.may,
    )

-- and so does a void
right_void : (version : Version) (r : Request) (f : Fact) (s : Site) (old new : State (Unit {0}))
    → Inquires by_evaluator (rule_of version r) old new (Err (void_stop f s)) → IsRightForRow version (Ok r) (void f s)
right_void version r f s old new h =
    let here = stops_there 40 (omega arith) h in
    let named : f ≡ here.fact = here.stop.names in (
      record {
        at_each_depth = λ n deep. let there = stops_there n deep h in let same : f ≡ there.fact = there.stop.names in
            rw same there.asks;
      },
      rw named here.stop.may,
    )

-- what comes of an early return of the oracle is right
pub right_stop : (version : Version) (r : Request) (s : Stop) (old new : State (Unit {0})) (o : LineOutcome)
    → Inquires by_evaluator (rule_of version r) old new (Err s) → ComesOfStop s o → IsRightForRow version (Ok r) o
right_stop version r (undecided_stop f u) old new o h e = rw e (right_undecided version r f u old new h)
right_stop version r (void_stop f s) old new o h e = rw e (right_void version r f s old new h)
right_stop version r (missing_stop f) old new o h e = absurd e
right_stop version r memory_stop old new o h e = absurd e
