use Rattle.lane_table.proofs.LogFacts.{lane_words}
use Rattle.lane_table.proofs.laws.words.Goals as goal

pub returns : goal.returns
returns c = lane_words
