-- Meaning. What a glance at a lane shows of the transaction that it runs or ran last.
use Rattle.std.specs.Prelude.{◌≡◌, [], ◌∷◌, Option, Some, Ok, length}
use Rattle.std.specs.Option.{option_map}
use Rattle.cfdp_types.specs.Put.{PutValue}
use Rattle.cfdp_types.specs.declared.key.TxnKey.{TxnKey}
use Rattle.indications.specs.declared.indication.Indication.TheVariants as told
use Rattle.indications.specs.declared.side.Side.TheVariants.{Sender, Receiver}
use Rattle.pdu_values.specs.declared.bodies.Metadata.{Metadata}
use Rattle.txn_events.specs.declared.answer.Answer.{Answer}
use Rattle.txn_events.specs.declared.event.Event.TheVariants.{On}
use Rattle.txn_events.specs.declared.event.What.TheVariants as what
use Rattle.sender_table.specs.Sending as sender
use Rattle.sender_table.specs.Answers as sender_answers
use Rattle.receiver_table.specs.Reception as receiver
use Rattle.receiver_table.specs.Answers as receiver_answers
use Rattle.lane_table.specs.declared.glance.Glance.{Glance}
use Rattle.lane_table.specs.declared.glance.GlancedFile.{GlancedFile}
use Rattle.lane_table.specs.Logs.{Log, sent, received, answered_behind}
use Rattle.lane_table.specs.Lane.{State, log_of}

-- the file in a Put
abbrev pub file_of_put : PutValue → GlancedFile
file_of_put put = record { size = length put.file; source_name = put.source_name; destination_name = put.destination_name }

-- the file in a Metadata
abbrev pub file_of_metadata : Metadata → GlancedFile
file_of_metadata m = record { size = m.size; source_name = m.source_name; destination_name = m.destination_name }

-- the glance at a sender
abbrev pub glance_at_sender : sender.Sending → sender.State → Glance
glance_at_sender sending state = record {
  key = sending.key;
  end = Sender;
  peer = sending.request.destination;
  class = sending.request.class;
  phase = sender_answers.phase_of state;
  progress = state.progress;
  has_ended = state.ended;
  entries = state.entries;
  file = Some (file_of_put sending.request);
}

-- the glance at a receiver
abbrev pub glance_at_receiver : receiver.Reception → receiver.State → Glance
glance_at_receiver reception state = record {
  key = reception.key;
  end = Receiver;
  peer = reception.key.source;
  class = reception.header.class;
  phase = receiver_answers.phase_of state;
  progress = state.progress;
  has_ended = state.ended;
  entries = state.entries;
  file = option_map file_of_metadata state.metadata;
}

-- the glance at a transaction, from its log
abbrev pub glance_in : Log → Glance
glance_in (sent sending log) = glance_at_sender sending (sender.state_of sending log)
glance_in (received reception log) = glance_at_receiver reception (receiver.state_of log)

-- the glance at a lane, None where no transaction was opened
abbrev pub glance_of : State → Option Glance
glance_of state = option_map glance_in (log_of state)

-- a Report that is accepted says what the glance shows
abbrev pub SaysAsReport : Type 0
SaysAsReport = (log : Log) (key : TxnKey) (answer : Answer) → answered_behind log (On key what.Report) ≡ Ok answer
    → answer.inds ≡ told.Report (glance_in log).phase (glance_in log).progress ∷ []
