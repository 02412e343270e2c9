use Rattle.book_model.specs.declared.site.Site.TheVariants.{MoonWalk}
use Rattle.book_model.specs.programs.Widths.{close_void}
use Rattle.moon_core.proofs.walks.+walk.Goals as goal

pub returns-then-more-eq0-clause-close : goal.returns-then-more-eq0-clause-close
returns-then-more-eq0-clause-close g t c = λ l u v e b h. close_void {s = MoonWalk}
