use Rattle.ends_laws.proofs.KeptFacts.{says_what_is_kept}
use Rattle.ends_laws.proofs.laws.says_what_is_kept.Goals as goal

pub returns : goal.returns
returns c = says_what_is_kept
