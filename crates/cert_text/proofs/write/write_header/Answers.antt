use Rattle.cert_text.proofs.write.write_header.Goals as goal

pub returns : goal.returns
returns g c = rw (c.as_bytes.ensures.value, c.header.ensures.line) at c.write_parts.ensures
