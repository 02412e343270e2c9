use Rattle.std.proofs.Common.{◌<◌, length, arith}
use Rattle.std.proofs.lemmas.Grind.{common_steps}
use Rattle.line_core.proofs.PrintedPrefixes.{word_alone}
use Rattle.line_core.proofs.line.whole_word.Goals as goal

pub returns-in-None-clause-word : goal.returns-in-None-clause-word
returns-in-None-clause-word c =
    let some : 0 < length c.args.bytes.now = grind (arith, common_steps) in
    word_alone c.args.bytes.now c.in-None.ensures.place some
