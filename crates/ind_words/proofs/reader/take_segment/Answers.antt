use Rattle.ind_words.proofs.SegmentLemmas.{take_exact}
use Rattle.ind_words.proofs.reader.take_segment.Goals as goal

pub returns-in-Some-run_of-clause-exact : goal.returns-in-Some-run_of-clause-exact
returns-in-Some-run_of-clause-exact c =
    let made = c.in-Some-run_of.ensures in
    rw c.in-Some.is
    (take_exact c.in-Some.segments c.in-Some-run_of.run'.start c.in-Some-run_of.run'.end c.args.offset c.args.length c.take.result
    made.starts made.ends made.filled made.within c.take.ensures.exact)
