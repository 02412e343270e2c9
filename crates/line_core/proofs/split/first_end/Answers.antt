use Rattle.std.specs.Prelude.{◌==◌}
use Rattle.line_core.proofs.FirstPlaces.{first_place}
use Rattle.line_core.proofs.split.first_end.Goals as goal

pub returns : goal.returns
returns c = first_place (λ b. b == 10) c.args.bytes.now c.memchr.result c.memchr.ensures
