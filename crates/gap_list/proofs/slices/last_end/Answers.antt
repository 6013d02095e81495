use Rattle.gap_list.proofs.SearchLemmas.{last_end-read}
use Rattle.gap_list.proofs.slices.last_end.Goals as goal

pub returns-in-Some : goal.returns-in-Some
returns-in-Some c = last_end-read c.args.runs.now c.in-Some.run'.now c.in-Some.ensures.value
