use Rattle.std.proofs.Common.{◌≡◌, ◌≤◌, length, arith, sym}
use Rattle.std.specs.Prelude.{slice_index_or}
use Rattle.cert_parser.proofs.OtherKeys.{other_key}
use Rattle.cert_parser.proofs.words.begins_otherwise.Goals as goal

pub returns-then-is_printable : goal.returns-then-is_printable
returns-then-is_printable c =
    let long : 2 ≤ length c.args.line.now = omega (arith, c.in-len2-up.len_at_least) in
    let some : 1 ≤ length c.args.text.now = omega (arith, c.in-len1-up.len_at_least) in
    let space : slice_index_or c.args.line.now 0 0 ≡ 32 = c.if-space-eq32.true in
    other_key c.args.line.now c.args.text.now long some space (sym c.if-is_printable.ensures)
