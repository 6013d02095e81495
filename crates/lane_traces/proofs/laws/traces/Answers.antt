use Rattle.lane_traces.proofs.TraceFacts.{tells_how_far}
use Rattle.lane_traces.proofs.laws.traces.Goals as goal

pub returns : goal.returns
returns c = tells_how_far
