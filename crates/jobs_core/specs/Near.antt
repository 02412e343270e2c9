-- Facts whose days are near that of a first one, with their values.
use Rattle.std.specs.Prelude.{ℤ, ◌+ℤ◌}
use Rattle.book_model.specs.declared.fact.Fact.{Fact}
use Rattle.book_model.specs.lines.LineRules.{fact_on}
use Rattle.book_model.specs.sky.Facts.{IsFact}
use Rattle.jobs_core.specs.declared.near.NearFact.{NearFact}

-- the fact with its value, behind a first fact
abbrev pub near_pair : Fact → NearFact → Fact × ℤ
near_pair first near = (fact_on near.kind near.place (first.day +ℤ near.days), near.value)

-- it is a fact: its place is one of the kind's, and its day one of a fact
abbrev pub IsNear : Fact → NearFact → Type 0
IsNear first near = IsFact near.kind near.place (first.day +ℤ near.days)
