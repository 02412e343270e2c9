use Rattle.cert_check.proofs.FilesRead.{read_checkable}
use Rattle.cert_check.proofs.laws.checkable.Goals as goal

pub returns : goal.returns
returns c = record { files = read_checkable }
