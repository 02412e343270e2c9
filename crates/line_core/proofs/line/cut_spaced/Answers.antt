use Rattle.std.proofs.Common.{◌≡◌, ◌<◌, get_or, length, arith}
use Rattle.std.proofs.lemmas.List.{take_rest}
use Rattle.line_core.proofs.DateText.{found_at}
use Rattle.line_core.proofs.PrintedPrefixes.{prefix_word, cut_at}
use Rattle.line_core.proofs.line.cut_spaced.Goals as goal

pub returns-clause-cut : goal.returns-clause-cut
returns-clause-cut c =
    let found = found_at _ c.args.line.now c.in_ok-end.end c.in_ok-end.ensures.place in
    let within : c.in_ok-end.end < length c.args.line.now = omega (arith, found.same, found.before_end) in
    let space : get_or c.args.line.now c.in_ok-end.end 0 ≡ 32 = omega arith in
    simp take_rest (cut_at c.args.line.now c.in_ok-end.end within space)

pub returns-clause-word : goal.returns-clause-word
returns-clause-word c = prefix_word c.args.line.now c.in_ok-end.end c.in_ok-end.ensures.place (omega arith)
