use Rattle.std.proofs.Common.{rules, arith}
use Rattle.std.proofs.lemmas.Grind.{common_steps}
use Rattle.cert_check.proofs.listed.reason_against.Goals as goal

pub returns-then-entry-found : goal.returns-then-entry-found
returns-then-entry-found c = grind (arith, common_steps)

pub returns-else-entry-found : goal.returns-else-entry-found
returns-else-entry-found c = grind (arith, common_steps)

pub returns-in-Undecided : goal.returns-in-Undecided
returns-in-Undecided c = search rules

pub returns-in-Void : goal.returns-in-Void
returns-in-Void c = search rules
