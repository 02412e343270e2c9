use Rattle.byte_streams.proofs.MemoryLemmas.{read_piece}
use Rattle.byte_streams.proofs.memory.MemorySourceSource.read.Goals as goal

pub returns-clause-bytes : goal.returns-clause-bytes
returns-clause-bytes c =
    let v = c.deref-2.ensures.value in
    read_piece c.args.self.now.bytes.items c.args.into.now c.copy_from_slice.new.self c.args.self.now.taken
    c.min-count.result
    (rw v at c.copy_from_slice.ensures.after) (rw v at c.min-count.ensures)
