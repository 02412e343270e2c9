use Rattle.std.proofs.Common.{◌≡◌, ℤ, sym, ◌∙◌, arith, FitsSigned, to_z, of_z, w64}
use Rattle.std.proofs.lemmas.Int.{ints, to_z-of_z}
use Rattle.book_model.specs.sky.Facts.{IsFactValue}
use Rattle.chinese_cal.proofs.KeptLemmas.{asked_kept, found_kept, still_kept, answered_kept, kept_or_not}
use Rattle.chinese_cal.proofs.asks.ask_kept.Goals as goal

fits : (v : ℤ) → IsFactValue v → to_z w64 (of_z w64 v) ≡ v
fits v h = let f : FitsSigned w64 v = omega (arith, ints, h.0, h.1) in to_z-of_z w64 v f

pub returns-in-Some-clause-asks : goal.returns-in-Some-clause-asks
returns-in-Some-clause-asks g c =
    let k = found_kept c.args.kept.now.places c.args.fact c.in-Some.value c.requires.kept
    (sym c.find.ensures.found ∙ c.in-Some.is) in
    rw (fits c.in-Some.value k.value) (asked_kept c.args.fact c.in-Some.value k)

pub returns-in-Some-clause-value : goal.returns-in-Some-clause-value
returns-in-Some-clause-value g c =
    let k = found_kept c.args.kept.now.places c.args.fact c.in-Some.value c.requires.kept
    (sym c.find.ensures.found ∙ c.in-Some.is) in
    rw (fits c.in-Some.value k.value) k.value

pub returns-in_err-value-clause-kept : goal.returns-in_err-value-clause-kept
returns-in_err-value-clause-kept g c = still_kept c.args.kept.now.places c.ask.ensures.asks c.requires.kept

pub returns-clause-kept : goal.returns-clause-kept
returns-clause-kept g c =
    let v = c.in_ok-value.value in
    let more = rw (fits v c.in_ok-value.ensures.value) at c.keep.ensures.kept in
    let here = answered_kept c.args.fact v c.in_ok-value.ensures.asks c.in_ok-value.ensures.value in
    kept_or_not c.args.kept.now.places c.keep.new.self.places c.args.kept.now.count c.args.fact v here
    (still_kept c.args.kept.now.places c.ask.ensures.asks c.requires.kept) more
