use Rattle.number_file.proofs.RoundFacts.{never_twice}
use Rattle.number_file.proofs.laws.numbers.Goals as goal

pub returns : goal.returns
returns c = never_twice
