use Rattle.line_core.proofs.LineWords.{words_at, words_none}
use Rattle.line_core.proofs.line.cut_word.Goals as goal

pub returns-in-Some : goal.returns-in-Some
returns-in-Some c =
    let words = words_at c.args.line.now c.in-Some.start c.in-Some.ensures.place in
    record {
      cut = rw (
        c.split_at-in-Some.ensures.front,
        c.split_at-in-Some.ensures.back,
        c.word_length.ensures.length,
        c.split_at.ensures.back,
      ) words;
    }

pub returns-in-None : goal.returns-in-None
returns-in-None c = record { cut = words_none c.args.line.now c.in-None.ensures.place }
