use Rattle.book_model.proofs.VersionTables.{later_days, later_requests}
use Rattle.book_model.proofs.laws.later_versions.Goals as goal

pub returns-clause-days : goal.returns-clause-days
returns-clause-days c = later_days

pub returns-clause-dates : goal.returns-clause-dates
returns-clause-dates c = later_requests
