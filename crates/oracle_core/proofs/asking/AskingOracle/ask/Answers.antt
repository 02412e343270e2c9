use Rattle.std.proofs.Common.{rules, refl, ◌≡◌, to_z, of_z, w64}
use Rattle.book_model.specs.calendars.Inquiries.{fact_eq}
use Rattle.oracle_core.proofs.Inquiring.{asked_value}
use Rattle.oracle_core.proofs.Keeping.{kept_item, place_within, place_among_facts, already_there}
use Rattle.oracle_core.proofs.Noting.{not_there}
use Rattle.oracle_core.proofs.asking.AskingOracle.ask.Goals as goal

pub item-requires : goal.item-requires
item-requires g c = record {
  within = place_within _ c.args.fact _
      (place_among_facts _ c.args.fact _ (rw c.entries.ensures.entries at c.in-Some.ensures.place));
}

pub returns-in-Some : goal.returns-in-Some
returns-in-Some g c =
    let value : to_z w64 (of_z w64 c.item.result.now.1) ≡ c.item.result.now.1 = search rules in
    let place = place_among_facts _ c.args.fact _ (rw c.entries.ensures.entries at c.in-Some.ensures.place) in
    let h = kept_item _ c.args.fact _ _ place c.item.ensures.item c.self.invariant in
    rw value (record {
      asks = asked_value c.args.fact refl (already_there _ c.args.fact _ (rw c.self.view_is at place)) h;
      value = (h.low, h.high);
    })

pub evaluate-requires : goal.evaluate-requires
evaluate-requires g c = record {
  new = not_there (fact_eq c.args.fact) _
      (rw c.self.view_is at
      (place_among_facts _ c.args.fact _ (rw c.entries.ensures.entries at c.in-None.ensures.place)));
}
