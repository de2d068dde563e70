use Rattle.fields.specs.Working.Outs.{word_cut, word_none, word_out, word-whole}
use Rattle.fields.proofs.out.word.Goals as goal

pub returns-then-to-from : goal.returns-then-to-from
returns-then-to-from c = search word_none

pub returns-then-s-from : goal.returns-then-s-from
returns-then-s-from c = search word_out

pub returns-then-s-to : goal.returns-then-s-to
returns-then-s-to c = search word_cut

pub returns : goal.returns
returns c = search word-whole
