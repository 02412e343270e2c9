use Rattle.std.proofs.Common.{◌≡◌, ap, ◌+◌, ◌∙◌, fold, filter, length, map, if◌then◌else◌}
use Rattle.rayon.proofs.ToStd.{slice-map}
use Rattle.jobs_core.specs.Outcomes.{line_outcome}
use Rattle.conversion.specs.Counting.{is_of}
use Rattle.conversion.proofs.Marks.{sum_marks, marks_fit}
use Rattle.conversion.proofs.counting.count_in.Goals as goal

pub sum-requires-clause-fits : goal.sum-requires-clause-fits
sum-requires-clause-fits g c κs within xs h =
    let test = is_of c.map.result.f.0.now in
    let slice = ap (λ it. it.base.slice.now) c.map.ensures.base ∙ ap (λ it. it.slice.now) c.with_min_len.ensures.base
    ∙ c.par_iter.ensures in
    rw (slice-map h.0 c.args.outcomes.now (h.1 ∙ slice) (λ o. if test (line_outcome o) then 1 else 0) xs h.2)
    (marks_fit line_outcome test c.args.outcomes.now c.requires.few)

pub returns : goal.returns
returns g c =
    let test = is_of c.map.result.f.0.now in
    let kind : c.map.result.f.0.now ≡ c.args.kind = ap (λ f. f.0.now) c.map.ensures.f in
    let slice = ap (λ it. it.base.slice.now) c.map.ensures.base ∙ ap (λ it. it.slice.now) c.with_min_len.ensures.base
    ∙ c.par_iter.ensures in
    let done = c.sum.ensures in
    record {
      count = done.2 ∙ ap (fold ◌+◌ 0) (slice-map done.1.0 c.args.outcomes.now (done.1.1 ∙ slice)
          (λ o. if test (line_outcome o) then 1 else 0) done.0 done.1.2)
          ∙ sum_marks line_outcome test c.args.outcomes.now
          ∙ ap (λ k. length (filter (is_of k) (map line_outcome c.args.outcomes.now))) kind;
    }
