use Rattle.cert_parser.proofs.TakenWords.{after_counter}
use Rattle.cert_parser.proofs.form.line_form.Goals as goal

pub body_form-requires : goal.body_form-requires
body_form-requires c = after_counter c.args.line.now c.in_ok-number.number c.in_ok-number.rest c.counter_at.result
    c.requires c.counter_at.ensures
    c.in_ok-number.ensures.ok_part
