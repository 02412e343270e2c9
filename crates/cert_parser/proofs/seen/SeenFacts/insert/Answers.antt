use Rattle.std.proofs.Common.{rules, ◌≡◌, ℤ, ◌<◌, length, get_or, true, cond, sym, arith, to_z, of_z, w64}
use Rattle.std.specs.Ordering.{int_cmp}
use Rattle.std.specs.BTreeSet.{contains}
use Rattle.std.specs.BTreeMap.{is_at}
use Rattle.cert_parser.specs.Seen.{row_of, has_fact}
use Rattle.cert_parser.proofs.SeenDays.{seen_here, one_more}
use Rattle.cert_parser.proofs.seen.SeenFacts.insert.Goals as goal

pub returns-clause-new : goal.returns-clause-new
returns-clause-new c =
    let day : to_z w64 (of_z w64 c.day.result) ≡ c.day.result = search rules in
    let within : row_of c.args.fact < length c.self.inside.days.items =
    omega (arith, c.row_of.ensures.row, c.row_of.ensures.within, c.self.invariant) in
    let here : get_or c.self.inside.days.items (row_of c.args.fact) c.index_mut.result.now
    ≡ c.index_mut.result.now = rw (← c.row_of.ensures.row) (sym c.index_mut.ensures.value) in
    let seen : has_fact c.self.inside.days.items c.args.fact ≡ contains int_cmp c.index_mut.result.now c.args.fact.day =
    rw here at
    (seen_here c.self.inside.days.items c.args.fact c.index_mut.result.now within) in
    rw (← c.self.view_is, seen) (rw (day, c.day.ensures) at c.in_ok-is_new.ensures.added)

pub returns-clause-seen : goal.returns-clause-seen
returns-clause-seen c =
    let day : to_z w64 (of_z w64 c.day.result) ≡ c.day.result = search rules in
    let within : row_of c.args.fact < length c.self.inside.days.items =
    omega (arith, c.row_of.ensures.row, c.row_of.ensures.within, c.self.invariant) in
    let here : get_or c.self.inside.days.items (row_of c.args.fact) c.index_mut.result.now
    ≡ c.index_mut.result.now = rw (← c.row_of.ensures.row) (sym c.index_mut.ensures.value) in
    let more : (q : ℤ) → contains int_cmp c.insert.new.self q
    ≡ cond (is_at (int_cmp c.args.fact.day) q) true
    (contains int_cmp (get_or c.self.inside.days.items (row_of c.args.fact) c.index_mut.result.now)
    q) = λ q. rw here (rw (day, c.day.ensures) at (c.in_ok-is_new.ensures.updates.0 q)) in
    rw (← c.self.view_is, c.row_of.ensures.row) (one_more c.self.inside.days.items c.args.fact c.index_mut.result.now
    within c.insert.new.self more)
