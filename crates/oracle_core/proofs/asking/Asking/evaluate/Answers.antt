use Rattle.std.proofs.Common.{rules, refl, ◌≡◌, to_z, of_z, w64}
use Rattle.std.proofs.lemmas.Result.{err_from_is_err_and}
use Rattle.oracle_core.proofs.Inquiring.{asked_value, asked_stop}
use Rattle.oracle_core.proofs.Keeping.{added_fact}
use Rattle.oracle_core.proofs.asking.Asking.evaluate.Goals as goal

pub returns-in_ok-keep-in-Value-clause-asks : goal.returns-in_ok-keep-in-Value-clause-asks
returns-in_ok-keep-in-Value-clause-asks g c =
    let value : to_z w64 (of_z w64 c.in-Value.value) ≡ c.in-Value.value = search rules in
    rw value (asked_value c.args.fact refl (added_fact _ _ c.args.fact c.in-Value.value c.requires.new
    (rw value at c.in_ok-keep-in-Value.ensures.ok))
    (record { is_true = c.in-Value.ensures.0; low = c.in-Value.ensures.1.0; high = c.in-Value.ensures.1.1 }))

pub returns-in_err-keep-in-Value-clause-asks : goal.returns-in_err-keep-in-Value-clause-asks
returns-in_err-keep-in-Value-clause-asks g c =
    let p = err_from_is_err_and c.from_residual.result c.from_residual.ensures.1 in
    rw (p.1, p.2) (asked_stop c.args.fact refl (rw c.in_err-keep-in-Value.ensures.err refl) c.requires.new
    (record { names = tt; may = tt }))

pub returns-in-Undecided-clause-asks : goal.returns-in-Undecided-clause-asks
returns-in-Undecided-clause-asks g c = asked_stop c.args.fact refl refl c.requires.new
    (record { names = refl; may = c.in-Undecided.ensures })

pub returns-in-Void-clause-asks : goal.returns-in-Void-clause-asks
returns-in-Void-clause-asks g c = asked_stop c.args.fact refl refl c.requires.new
    (record { names = refl; may = c.in-Void.ensures })
