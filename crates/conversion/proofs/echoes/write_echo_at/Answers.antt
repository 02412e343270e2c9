use Rattle.std.proofs.Common.{[]}
use Rattle.conversion.specs.Echoes.{words_in}
use Rattle.conversion.proofs.RowLemmas.{map_at}
use Rattle.conversion.proofs.echoes.write_echo_at.Goals as goal

pub write_own_echo-requires : goal.write_own_echo-requires
write_own_echo-requires g c =
    let line = c.index-lines-index.result in
    record {
      three = rw (
        map_at words_in c.args.lines.now c.args.index line [] c.requires.within,
        ← c.index-lines-index.is,
      ) at c.requires.three;
    }

pub returns : goal.returns
returns g c =
    let line = c.index-lines-index.result in
    rw (map_at words_in c.args.lines.now c.args.index line [] c.requires.within, ← c.index-lines-index.is)
    c.write_own_echo.ensures
