use Rattle.std.proofs.Common.{◌∙◌, codes}
use Rattle.clap.specs.Words.{found_of}
use Rattle.clap.proofs.WalkLemmas.{first_value-rows}
use Rattle.command_line.specs.Words as spec
use Rattle.command_line.proofs.words.order_of_matches.Goals as goal

pub returns : goal.returns
returns c =
    let found = found_of c.args.matches.now in
    let name = c.get_str-name.ensures ∙ first_value-rows found (codes "command") in
    let jobs = c.get_str-jobs.ensures ∙ first_value-rows found (codes "jobs") in
    let first = c.get_str-first.ensures ∙ first_value-rows found (codes "a") in
    let second = c.get_str-second.ensures ∙ first_value-rows found (codes "b") in
    record {
      command = c.order_of_values.ensures.command ∙ (λ i. spec.told_by (name i) (jobs i) (first i) (second i));
      jobs = rw jobs at c.order_of_values.ensures.jobs;
      range = c.order_of_values.ensures.range;
    }
