use Rattle.std.proofs.Common.{rules, SFits, w64}
use Rattle.std.proofs.lemmas.Int.{to_z-of_z}
use Rattle.almanac_core.proofs.Years.{january_from, january_to}
use Rattle.almanac_core.proofs.almanac.first_of_january.Goals as goal

pub returns : goal.returns
returns c =
    let fr : SFits w64 c.january.result = search rules in
    let n = january_from c.args.year c.requires.year.0 in
    let m = january_to c.args.year c.requires.year.1 in
    simp to_z-of_z
    (record {
      day = c.january.ensures.day;
      near_from = rw c.january.ensures.day n;
      near_to = rw c.january.ensures.day m;
    })
