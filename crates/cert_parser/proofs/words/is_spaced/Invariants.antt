use Rattle.std.proofs.Common.{◌≡◌, drop}
use Rattle.cert_parser.specs.Grammar.{is_spaced, is_spaced_after}
use Rattle.cert_parser.proofs.words.is_spaced.Given as goal

-- the other bytes decide
abbrev pub invariant-loop-byte : goal.invariant-loop-byte
invariant-loop-byte l = is_spaced_after l.after_space (drop l.byte-index l.line) ≡ is_spaced l.line
