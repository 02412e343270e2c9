use Rattle.text_tests.proofs.tests.verdicts.file_of.Goals as goal

pub returns : goal.returns
returns c = record { checkable = c.checkable.ensures.files c.as_bytes.result.now c.in-Ok.file c.in-Ok.ensures }
