use Rattle.std.proofs.Common.{◌≡◌, rules, w64, to_z, of_z}
use Rattle.line_core.proofs.dates.date_on.Goals as goal

pub returns-in-Persian : goal.returns-in-Persian
returns-in-Persian g c =
    let day : to_z w64 (of_z w64 c.args.day) ≡ c.args.day = search rules in
    record { comes = rw c.in-Persian.is (rw day at c.fields_on.ensures.date) }

pub returns-in-Bahai : goal.returns-in-Bahai
returns-in-Bahai g c =
    let day : to_z w64 (of_z w64 c.args.day) ≡ c.args.day = search rules in
    record { comes = rw c.in-Bahai.is (rw day at c.fields_on-in-Bahai.ensures.date) }

pub returns-in-Chinese : goal.returns-in-Chinese
returns-in-Chinese g c =
    let day : to_z w64 (of_z w64 c.args.day) ≡ c.args.day = search rules in
    record { comes = rw c.in-Chinese.is (rw day at c.fields_on-in-Chinese.ensures.date) }

pub returns-in-Vietnamese : goal.returns-in-Vietnamese
returns-in-Vietnamese g c =
    let day : to_z w64 (of_z w64 c.args.day) ≡ c.args.day = search rules in
    record { comes = rw c.in-Vietnamese.is (rw day at c.fields_at.ensures.date) }

pub returns-in-Korean : goal.returns-in-Korean
returns-in-Korean g c =
    let day : to_z w64 (of_z w64 c.args.day) ≡ c.args.day = search rules in
    record { comes = rw c.in-Korean.is (rw day at c.fields_at-in-Korean.ensures.date) }

pub returns-in-Japanese : goal.returns-in-Japanese
returns-in-Japanese g c =
    let day : to_z w64 (of_z w64 c.args.day) ≡ c.args.day = search rules in
    record { comes = rw c.in-Japanese.is (rw day at c.fields_at-in-Japanese.ensures.date) }

pub returns-in-Islamic : goal.returns-in-Islamic
returns-in-Islamic g c =
    let day : to_z w64 (of_z w64 c.args.day) ≡ c.args.day = search rules in
    record { comes = rw c.in-Islamic.is (rw day at c.fields_on-in-Islamic.ensures.date) }

pub returns-in-HinduSolar : goal.returns-in-HinduSolar
returns-in-HinduSolar g c =
    let day : to_z w64 (of_z w64 c.args.day) ≡ c.args.day = search rules in
    record { comes = rw c.in-HinduSolar.is (rw day at c.fields_on-in-HinduSolar.ensures.date) }

pub returns-in-HinduLunar : goal.returns-in-HinduLunar
returns-in-HinduLunar g c =
    let day : to_z w64 (of_z w64 c.args.day) ≡ c.args.day = search rules in
    record { comes = rw c.in-HinduLunar.is (rw day at c.fields_on-in-HinduLunar.ensures.date) }

pub returns-in-French : goal.returns-in-French
returns-in-French g c =
    let day : to_z w64 (of_z w64 c.args.day) ≡ c.args.day = search rules in
    record { comes = rw c.in-French.is (rw day at c.fields_on-in-French.ensures.date) }

pub returns-in-HebrewObserved : goal.returns-in-HebrewObserved
returns-in-HebrewObserved g c =
    let day : to_z w64 (of_z w64 c.args.day) ≡ c.args.day = search rules in
    record { comes = rw c.in-HebrewObserved.is (rw day at c.fields_on-in-HebrewObserved.ensures.date) }
