use Rattle.std.proofs.Common.{rules}
use Rattle.cert_check.specs.Text.{form_text}
use Rattle.cert_check.proofs.write.write_form.Goals as goal

pub returns : goal.returns
unfolding form_text
returns g c = search rules
