-- Bytes as they come, piece by piece and byte by byte: what is answered of them, and what was read of a source when it
-- is.
use Rattle.std.proofs.Common.{◌≡◌, ◌∙◌, sym, ap, refl, ℕ, ◌+◌, ◌<◌, ◌≤◌, List, [], ◌∷◌, ◌++◌, length, take, drop}
use Rattle.std.proofs.Common.{get_or, append-nil}
use Rattle.std.proofs.lemmas.List.{map-append, take-append-drop, take_more, take_all}
use Rattle.std.specs.Prelude.{Some, None}
use Rattle.std.specs.declared.option.Option.{Option}
use Rattle.std.specs.Io.KnownBytes.{Consumes, IsAtEnd, Keeps}
use Rattle.byte_streams.proofs.Flow.{consumes_none, consumes_on}
use Rattle.book_model.specs.lines.Lines.{without_return}
use Rattle.answered_lines.specs.Lines.{kept_lines, kept_prefix, last_line, plain_lines}
use Rattle.answered_lines.specs.Answers.{AnswersAll, AnswersCut, AnswersInput, AnswersEnded, InputCut}
use Rattle.answered_lines.proofs.AnswerLemmas.{none_answered, all_on, cut_on, cut_first, cut_after}
use Rattle.answered_lines.proofs.PrefixLemmas.{ended_answered, input_answered, input_cut}
use Rattle.answered_lines.proofs.LineLemmas.{kept_lines-append, kept_prefix-append}

plain-append : (ls ms : List (List ℕ)) → plain_lines (ls ++ ms) ≡ plain_lines ls ++ plain_lines ms
plain-append ls ms = map-append without_return ls ms

-- the lines that end in bytes and in more behind them
plain_kept-append : (kept xs ys : List ℕ) → plain_lines (kept_lines kept (xs ++ ys))
    ≡ plain_lines (kept_lines kept xs) ++ plain_lines (kept_lines (kept_prefix kept xs) ys)
plain_kept-append kept xs ys = ap plain_lines (kept_lines-append kept xs ys) ∙ plain-append (kept_lines kept xs)
    (kept_lines (kept_prefix kept xs) ys)

-- more bytes are taken, and the lines that end in them answered
pub bytes_on : (a b c : Option (List ℕ)) (kept now xs ys : List ℕ) → now ≡ kept_prefix kept xs
    → AnswersAll a b (plain_lines (kept_lines kept xs))
    → AnswersAll b c (plain_lines (kept_lines now ys)) → AnswersAll a c (plain_lines (kept_lines kept (xs ++ ys)))
bytes_on a b c kept now xs ys is h k =
    rw (plain_kept-append kept xs ys)
    (all_on a b c (plain_lines (kept_lines kept xs)) (plain_lines (kept_lines (kept_prefix kept xs) ys)) h (rw is at k))

-- or a prefix of their answers is written
pub bytes_cut : (a b c : Option (List ℕ)) (kept now xs ys : List ℕ) → now ≡ kept_prefix kept xs
    → AnswersAll a b (plain_lines (kept_lines kept xs))
    → AnswersCut b c (plain_lines (kept_lines now ys)) → AnswersCut a c (plain_lines (kept_lines kept (xs ++ ys)))
bytes_cut a b c kept now xs ys is h k =
    rw (plain_kept-append kept xs ys)
    (cut_on a b c (plain_lines (kept_lines kept xs)) (plain_lines (kept_lines (kept_prefix kept xs) ys)) h (rw is at k))

-- a prefix of the answers to what ends in bytes is one of what ends in these and more
pub bytes_first : (a b : Option (List ℕ)) (kept xs ys : List ℕ) → AnswersCut a b (plain_lines (kept_lines kept xs))
    → AnswersCut a b (plain_lines (kept_lines kept (xs ++ ys)))
bytes_first a b kept xs ys h =
    rw (plain_kept-append kept xs ys) (cut_first a b (plain_lines (kept_lines kept xs))
    (plain_lines (kept_lines (kept_prefix kept xs) ys)) h)

-- ---- byte by byte
-- one byte more of a piece is taken
pub byte_on : (a b c : Option (List ℕ)) (kept now piece : List ℕ) (i x d : ℕ) → i < length piece → x ≡ get_or piece i d
    → now ≡ kept_prefix kept (take i piece)
    → AnswersAll a b (plain_lines (kept_lines kept (take i piece)))
    → AnswersAll b c (plain_lines (kept_lines now (x ∷ [])))
    → AnswersAll a c (plain_lines (kept_lines kept (take (i + 1) piece)))
byte_on a b c kept now piece i x d within byte is h k =
    rw (take_more piece i d within) (bytes_on a b c kept now (take i piece) (get_or piece i d ∷ []) is h (rw byte at k))

pub prefix_on : (kept now new piece : List ℕ) (i x d : ℕ) → i < length piece → x ≡ get_or piece i d
    → now ≡ kept_prefix kept (take i piece)
    → new ≡ kept_prefix now (x ∷ []) → new ≡ kept_prefix kept (take (i + 1) piece)
prefix_on kept now new piece i x d within byte is then =
    rw (take_more piece i d within, kept_prefix-append kept (take i piece) (get_or piece i d ∷ []), ← is, ← byte) then

-- a byte more of a piece stopped
pub byte_cut : (a b c : Option (List ℕ)) (kept now piece : List ℕ) (i x d : ℕ) → i < length piece → x ≡ get_or piece i d
    → now ≡ kept_prefix kept (take i piece)
    → AnswersAll a b (plain_lines (kept_lines kept (take i piece)))
    → AnswersCut b c (plain_lines (kept_lines now (x ∷ [])))
    → AnswersCut a c (plain_lines (kept_lines kept piece))
byte_cut a b c kept now piece i x d within byte is h k =
    let one : AnswersCut a c (plain_lines (kept_lines kept (take (i + 1) piece))) =
    rw (take_more piece i d within) (bytes_cut a b c kept now (take i piece) (get_or piece i d ∷ []) is h
    (rw byte at k)) in
    let more : AnswersCut a c (plain_lines (kept_lines kept (take (i + 1) piece ++ drop (i + 1) piece))) =
    bytes_first a c kept (take (i + 1) piece) (drop (i + 1) piece) one in
    rw (take-append-drop (i + 1) piece) at more

-- all of a piece is taken
pub whole_piece : (a b : Option (List ℕ)) (kept now piece : List ℕ) (i : ℕ) → length piece ≤ i
    → AnswersAll a b (plain_lines (kept_lines kept (take i piece)))
    → AnswersAll a b (plain_lines (kept_lines kept piece))
whole_piece a b kept now piece i over h = rw (take_all i piece over) at h

pub whole_prefix : (kept now piece : List ℕ) (i : ℕ) → length piece ≤ i → now ≡ kept_prefix kept (take i piece)
    → now ≡ kept_prefix kept piece
whole_prefix kept now piece i over h = rw (take_all i piece over) at h

-- ---- piece by piece
-- what was read of a source: the lines that ended are answered, and this is kept of the one that has begun
pub record IsReading (left now old new : Option (List ℕ)) (kept : List ℕ) : Type 0 where
  pub taken : List ℕ
  pub read : Consumes left now taken
  pub kept_is : kept ≡ kept_prefix [] taken
  pub answered : AnswersAll old new (plain_lines (kept_lines [] taken))

-- nothing is read yet
pub reading_none : (left old : Option (List ℕ)) → IsReading left left old old []
reading_none left old = record { taken = []; read = consumes_none left; kept_is = refl; answered = none_answered old }

-- a piece is read, and then answered
pub reading_on : (left now next old new then : Option (List ℕ)) (kept more piece : List ℕ)
    → IsReading left now old new kept → Consumes now next piece
    → AnswersAll new then (plain_lines (kept_lines kept piece)) → more ≡ kept_prefix kept piece
    → IsReading left next old then more
reading_on left now next old new then kept more piece h read answered prefix = record {
  taken = h.taken ++ piece;
  read = consumes_on left now next h.taken piece h.read read;
  kept_is = rw (kept_prefix-append [] h.taken piece, ← h.kept_is) prefix;
  answered = bytes_on old new then [] kept h.taken piece h.kept_is h.answered answered;
}

-- a call that took nothing
pub consumes_kept : (a b : Option (List ℕ)) → Keeps a b → Consumes a b []
consumes_kept None b h = tt
consumes_kept (Some xs) None h = absurd h
consumes_kept (Some xs) (Some ys) h = sym h

-- a read of no byte
pub consumes_zero : (a b : Option (List ℕ)) (bytes : List ℕ) (n : ℕ) → n ≡ 0 → Consumes a b (take n bytes)
    → Consumes a b []
consumes_zero a b bytes n is h = rw is at h

-- a read failed
pub reading_failed : (left now next old new : Option (List ℕ)) (kept : List ℕ) → IsReading left now old new kept
    → Consumes now next []
    → AnswersEnded left next old new
reading_failed left now next old new kept h read = record {
  input = h.taken;
  read = let all : Consumes left next (h.taken ++ []) = consumes_on left now next h.taken [] h.read read in
      rw (append-nil h.taken) at all;
  answered = ended_answered old new h.taken h.answered;
}

-- the source has ended, and the last line is answered
pub reading_ended : (left now next old new then : Option (List ℕ)) (kept : List ℕ) → IsReading left now old new kept
    → Consumes now next []
    → IsAtEnd next → AnswersAll new then (plain_lines (last_line kept)) → AnswersInput left next old then
reading_ended left now next old new then kept h read end last = record {
  input = h.taken;
  read = let all : Consumes left next (h.taken ++ []) = consumes_on left now next h.taken [] h.read read in
      rw (append-nil h.taken) at all;
  end = end;
  answered = input_answered old then h.taken
      (all_on old new then (plain_lines (kept_lines [] h.taken)) (plain_lines (last_line (kept_prefix [] h.taken)))
      h.answered (rw h.kept_is at last));
}

-- or its answer was cut
pub last_cut : (left now next old new then : Option (List ℕ)) (kept : List ℕ) → IsReading left now old new kept
    → Consumes now next []
    → AnswersCut new then (plain_lines (last_line kept)) → InputCut left next old then
last_cut left now next old new then kept h read last = record {
  input = h.taken;
  read = let all : Consumes left next (h.taken ++ []) = consumes_on left now next h.taken [] h.read read in
      rw (append-nil h.taken) at all;
  answered = input_cut old then h.taken
      (cut_on old new then (plain_lines (kept_lines [] h.taken)) (plain_lines (last_line (kept_prefix [] h.taken)))
      h.answered (rw h.kept_is at last));
}

-- a piece is read, and its answers were cut
pub piece_cut : (left now next old new then : Option (List ℕ)) (kept piece : List ℕ) → IsReading left now old new kept
    → Consumes now next piece
    → AnswersCut new then (plain_lines (kept_lines kept piece)) → InputCut left next old then
piece_cut left now next old new then kept piece h read cut =
    let ended : AnswersCut old then (plain_lines (kept_lines [] (h.taken ++ piece))) = bytes_cut old new
    then [] kept h.taken piece h.kept_is h.answered cut in
    record {
      input = h.taken ++ piece;
      read = consumes_on left now next h.taken piece h.read read;
      answered = input_cut old then (h.taken ++ piece)
          (cut_first old then (plain_lines (kept_lines [] (h.taken ++ piece)))
          (plain_lines (last_line (kept_prefix [] (h.taken ++ piece)))) ended);
    }

-- the reading stops, and all that was read is told
pub reading_stopped : (left now old new : Option (List ℕ)) (kept : List ℕ) → IsReading left now old new kept
    → InputCut left now old new
reading_stopped left now old new kept h = record {
  input = h.taken;
  read = h.read;
  answered = input_cut old new h.taken
      (cut_after old new (plain_lines (kept_lines [] h.taken)) (plain_lines (last_line (kept_prefix [] h.taken)))
      h.answered);
}
