use Rattle.std.proofs.Common.{rules}
use Rattle.cert_check.specs.Text.{list_text}
use Rattle.cert_check.proofs.write.write_place.Goals as goal

pub returns : goal.returns
unfolding list_text
returns g c = search rules
