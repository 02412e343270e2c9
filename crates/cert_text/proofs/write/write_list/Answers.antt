use Rattle.book_model.specs.lines.Text.{facts_text}
use Rattle.byte_streams.proofs.Flow.{writes_first, writes_then}
use Rattle.cert_text.proofs.write.write_list.Goals as goal

pub returns-in_err-write_all : goal.returns-in_err-write_all
unfolding facts_text
returns-in_err-write_all g c = writes_first _ c.from_residual.ensures.0 c.in_err-write_all.ensures

pub returns-in_err-write_numbers : goal.returns-in_err-write_numbers
unfolding facts_text
returns-in_err-write_numbers g c = writes_then c.in_ok-write_all.ensures
    (writes_first _ c.from_residual-in_err-write_numbers.ensures.0 c.in_err-write_numbers.ensures)

pub returns : goal.returns
unfolding facts_text
returns g c = writes_then c.in_ok-write_all.ensures (writes_then c.in_ok-write_numbers.ensures c.write_all-2.ensures)
