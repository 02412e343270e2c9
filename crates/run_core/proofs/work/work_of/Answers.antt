use Rattle.std.proofs.Common.{◌≡◌, refl, map, rules}
use Rattle.almanac_core.specs.Almanac.{almanac_requests}
use Rattle.almanac_core.specs.East.{east_requests}
use Rattle.book_model.specs.lines.Text.{line_text}
use Rattle.run_core.proofs.work.work_of.Goals as goal

pub returns-in_ok-almanac_requests-in-Almanac : goal.returns-in_ok-almanac_requests-in-Almanac
returns-in_ok-almanac_requests-in-Almanac c =
    let made = c.in_ok-almanac_requests-in-Almanac.ensures.requests in
    let same : map line_text c.in_ok-almanac_requests-in-Almanac.field-0.items ≡ map line_text
    (almanac_requests c.in-Almanac.year) = rw made refl in
    record { work = rw c.in-Almanac.is (same, c.in_ok-almanac_requests-in-Almanac.ensures.spelled) }

pub returns-in_ok-east_requests-in-East : goal.returns-in_ok-east_requests-in-East
returns-in_ok-east_requests-in-East c =
    let made = c.in_ok-east_requests-in-East.ensures.requests in
    let same : map line_text c.in_ok-east_requests-in-East.field-0.items ≡ map line_text
    (east_requests c.in-East.year) = rw made refl in
    record { work = rw c.in-East.is (same, c.in_ok-east_requests-in-East.ensures.spelled) }

pub returns-in_err-split_lines-in-Convert : goal.returns-in_err-split_lines-in-Convert
returns-in_err-split_lines-in-Convert c = search rules

pub almanac_requests-requires : goal.almanac_requests-requires
almanac_requests-requires c = search rules

pub returns-in_err-almanac_requests-in-Almanac : goal.returns-in_err-almanac_requests-in-Almanac
returns-in_err-almanac_requests-in-Almanac c = search rules

pub returns-in_err-sample_requests-in-Sample : goal.returns-in_err-sample_requests-in-Sample
returns-in_err-sample_requests-in-Sample c = search rules

pub east_requests-requires : goal.east_requests-requires
east_requests-requires c = search rules

pub returns-in_err-east_requests-in-East : goal.returns-in_err-east_requests-in-East
returns-in_err-east_requests-in-East c = search rules

pub returns-in_ok-split_lines-in-Convert : goal.returns-in_ok-split_lines-in-Convert
returns-in_ok-split_lines-in-Convert c = search rules

pub returns-in-Check : goal.returns-in-Check
returns-in-Check c = search rules

pub returns-in-Upgrade : goal.returns-in-Upgrade
returns-in-Upgrade c = search rules
