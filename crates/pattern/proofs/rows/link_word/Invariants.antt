use Rattle.std.proofs.Common.{◌≡◌}
use Rattle.pattern.specs.Working.Places.{link_word}
use Rattle.pattern.proofs.rows.link_word.Given as goal

abbrev pub invariant-loop-q : goal.invariant-loop-q
invariant-loop-q l = link_word l.t l.x l.q l.end l.to ≡ link_word l.initial.t l.word l.base l.end l.to
