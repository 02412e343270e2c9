use Rattle.line_core.proofs.EasternDates.{vietnamese_askable, korean_askable, japanese_askable}
use Rattle.line_core.proofs.dates.named_day.Goals as goal

pub day_at-requires-clause-askable : goal.day_at-requires-clause-askable
day_at-requires-clause-askable g c = vietnamese_askable c.args.date.now (rw c.in-Vietnamese.is at c.requires.askable)

pub day_at-requires-in-Korean-clause-askable : goal.day_at-requires-in-Korean-clause-askable
day_at-requires-in-Korean-clause-askable g c = korean_askable c.args.date.now (rw c.in-Korean.is at c.requires.askable)

pub day_at-requires-in-Japanese-clause-askable : goal.day_at-requires-in-Japanese-clause-askable
day_at-requires-in-Japanese-clause-askable g c = japanese_askable c.args.date.now
    (rw c.in-Japanese.is at c.requires.askable)

pub returns-in-Persian : goal.returns-in-Persian
returns-in-Persian g c = record { comes = rw c.in-Persian.is c.day_by.ensures.day }

pub returns-in-Bahai : goal.returns-in-Bahai
returns-in-Bahai g c = record { comes = rw c.in-Bahai.is c.day_by-in-Bahai.ensures.day }

pub returns-in-Chinese : goal.returns-in-Chinese
returns-in-Chinese g c = record { comes = rw c.in-Chinese.is c.day_by-in-Chinese.ensures.day }

pub returns-in-Vietnamese : goal.returns-in-Vietnamese
returns-in-Vietnamese g c = record { comes = rw c.in-Vietnamese.is c.day_at.ensures.day }

pub returns-in-Korean : goal.returns-in-Korean
returns-in-Korean g c = record { comes = rw c.in-Korean.is c.day_at-in-Korean.ensures.day }

pub returns-in-Japanese : goal.returns-in-Japanese
returns-in-Japanese g c = record { comes = rw c.in-Japanese.is c.day_at-in-Japanese.ensures.day }

pub returns-in-Islamic : goal.returns-in-Islamic
returns-in-Islamic g c = record { comes = rw c.in-Islamic.is c.day_by-in-Islamic.ensures.day }

pub returns-in-HinduSolar : goal.returns-in-HinduSolar
returns-in-HinduSolar g c = record { comes = rw c.in-HinduSolar.is c.day_by-in-HinduSolar.ensures.day }

pub returns-in-HinduLunar : goal.returns-in-HinduLunar
returns-in-HinduLunar g c = record { comes = rw c.in-HinduLunar.is c.day_by-in-HinduLunar.ensures.day }

pub returns-in-French : goal.returns-in-French
returns-in-French g c = record { comes = rw c.in-French.is c.day_by-in-French.ensures.day }

pub returns-in-HebrewObserved : goal.returns-in-HebrewObserved
returns-in-HebrewObserved g c = record { comes = rw c.in-HebrewObserved.is c.day_by-in-HebrewObserved.ensures.day }
