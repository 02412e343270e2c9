use Rattle.fix_fine.specs.Shown.{shown_fine}
use Rattle.interval_endpoints.proofs.Following.{within_hull, narrow_hull}
use Rattle.fix_fine.proofs.Rows.{hull_of_endpoints}
use Rattle.fix_fine.proofs.fine.FineEnclosure.hull.Goals as goal

pub returns : goal.returns
returns c = record {
  encloses = record {
    holds = λ w x y. within_hull shown_fine w x y _ _ _ c.hull_endpoints.ensures.holds;
    narrow = λ r x y.
        narrow_hull shown_fine _ r x y _ _ _ c.hull_endpoints.ensures.narrow;
  };
  tight = c.hull_endpoints.ensures.tight;
  table = hull_of_endpoints c.args.self.endpoints c.args.other.endpoints c.hull_endpoints.result
      c.hull_endpoints.ensures.holds c.hull_endpoints.ensures.tight;
}
