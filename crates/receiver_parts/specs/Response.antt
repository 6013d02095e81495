-- Of the code. How the code keeps a response of the state table.
use Rattle.std.specs.Prelude.{◌≡◌, false, if◌then◌else◌, List, [], ◌∷◌, ◌++◌, None}
use Rattle.std.specs.Option.{option_to_list}
use Rattle.cfdp_types.specs.declared.names.TimerKind.{TimerKind}
use Rattle.cfdp_types.specs.declared.names.TimerKind.TheVariants.{Inactivity}
use Rattle.indications.specs.declared.indication.Indication.{Indication}
use Rattle.receiver_table.specs.Answers as table
use Rattle.receiver_parts.specs.declared.response.Response as response_type

-- a response with only these indications
abbrev pub only : List Indication → response_type.Response
only inds = record {
  inds = inds;
  ack = None;
  nak = false;
  keep_alive = false;
  finished = None;
  deposit = false;
  resumes = false;
  arms = None;
}

-- the timers that a response arms
abbrev pub arms_of : response_type.Response → List TimerKind
arms_of response = (if response.resumes then Inactivity ∷ [] else []) ++ option_to_list response.arms

-- the code's response is the table's
pub record IsResponse (response : response_type.Response) (wanted : table.Response) : Type 0 where
  pub inds : response.inds ≡ wanted.inds
  pub ack : response.ack ≡ wanted.ack
  pub nak : response.nak ≡ wanted.nak
  pub keep_alive : response.keep_alive ≡ wanted.keep_alive
  pub finished : response.finished ≡ wanted.finished
  pub deposit : response.deposit ≡ wanted.deposit
  pub arms : arms_of response ≡ wanted.arms

-- the code's response, as the table has it
abbrev pub response_value : response_type.Response → table.Response
response_value response = record {
  inds = response.inds;
  ack = response.ack;
  nak = response.nak;
  keep_alive = response.keep_alive;
  finished = response.finished;
  deposit = response.deposit;
  arms = arms_of response;
}
