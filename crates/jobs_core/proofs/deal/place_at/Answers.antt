use Rattle.std.proofs.Common.{sym, arith}
use Rattle.jobs_core.proofs.Dealing.{block_below, place_in, place_past, single_below}
use Rattle.jobs_core.proofs.deal.place_at.Goals as goal

pub overflow_mul-result : goal.overflow_mul-result
overflow_mul-result c =
    let a = c.args in
    let below = block_below a.count a.jobs a.piece a.number c.requires.some c.requires.piece c.requires.number
    c.if-number-count.true in
    omega (arith, below)

pub overflow_add-result-then-number-count : goal.overflow_add-result-then-number-count
overflow_add-result-then-number-count c =
    let a = c.args in
    let below = block_below a.count a.jobs a.piece a.number c.requires.some c.requires.piece c.requires.number
    c.if-number-count.true in
    omega (arith, below)

pub overflow_mul-result-else-number-count : goal.overflow_mul-result-else-number-count
overflow_mul-result-else-number-count c =
    let a = c.args in
    let below = single_below a.count a.jobs a.piece a.number c.requires.some c.requires.piece c.requires.number
    c.if-number-count.false in
    omega (arith, below)

pub overflow_add-result-else-number-count : goal.overflow_add-result-else-number-count
overflow_add-result-else-number-count c =
    let a = c.args in
    let below = single_below a.count a.jobs a.piece a.number c.requires.some c.requires.piece c.requires.number
    c.if-number-count.false in
    omega (arith, below)

pub returns-then-number-count-clause-place : goal.returns-then-number-count-clause-place
returns-then-number-count-clause-place c =
    sym (place_in c.args.count c.args.jobs c.args.piece c.args.number c.if-number-count.true)

pub returns-then-number-count-clause-within : goal.returns-then-number-count-clause-within
returns-then-number-count-clause-within c =
    let a = c.args in
    block_below a.count a.jobs a.piece a.number c.requires.some c.requires.piece c.requires.number
    c.if-number-count.true

pub returns-else-number-count-clause-place : goal.returns-else-number-count-clause-place
returns-else-number-count-clause-place c =
    sym (place_past c.args.count c.args.jobs c.args.piece c.args.number c.if-number-count.false)

pub returns-else-number-count-clause-within : goal.returns-else-number-count-clause-within
returns-else-number-count-clause-within c =
    let a = c.args in
    single_below a.count a.jobs a.piece a.number c.requires.some c.requires.piece c.requires.number
    c.if-number-count.false
