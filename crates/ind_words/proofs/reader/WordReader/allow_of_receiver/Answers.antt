use Rattle.std.proofs.Common.{sym, ◌∙◌}
use Rattle.ind_words.proofs.ReadingLemmas.{segment_exact, other_exact, is_segment_other, adds_nothing}
use Rattle.ind_words.proofs.reader.WordReader.allow_of_receiver.Goals as goal

pub returns-in-Segment-clause-exact : goal.returns-in-Segment-clause-exact
returns-in-Segment-clause-exact c = λ room before knows.
    segment_exact c.args.self.now.segments room before c.args.indication.now c.in-Segment.offset c.in-Segment.length c.take_segment.result
    (sym c.kind.ensures ∙ c.in-Segment.is) c.take_segment.ensures.exact knows.left knows.covered

pub returns-in_default-clause-exact : goal.returns-in_default-clause-exact
returns-in_default-clause-exact c = λ room before knows.
    other_exact c.args.self.now room before c.args.indication.now c.is_initial-initial.result c.allow_receiver.result knows
    (is_segment_other c.args.indication.now (λ offset length is. c.in_default.not-Segment offset length (c.kind.ensures ∙ is))) c.is_initial-initial.ensures c.allow_receiver.ensures.exact

pub returns-in_default-clause-added : goal.returns-in_default-clause-added
returns-in_default-clause-added c = λ is. adds_nothing c.args.self.now c.args.indication.now (c.allow_receiver.ensures.other is)
