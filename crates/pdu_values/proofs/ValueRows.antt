-- The direction of every kind of PDU, and every value of a few bits as it is written.
use Rattle.std.proofs.Common.{◌≡◌, true, false, [], ◌∷◌, map, refl}
use Rattle.cfdp_types.specs.declared.names.Delivery.TheVariants.{Complete, Incomplete}
use Rattle.cfdp_types.specs.declared.names.FileStatus.TheVariants.{Discarded, Rejected, Retained, Unreported}
use Rattle.pdu_values.specs.declared.bodies.Acknowledged.TheVariants as acknowledged
use Rattle.pdu_values.specs.declared.bodies.TransactionStatus.TheVariants.{Undefined, Active, Terminated, Unrecognized}
use Rattle.pdu_values.specs.declared.bodies.Prompt.{Prompt}
use Rattle.pdu_values.specs.declared.bodies.Prompt.TheVariants as prompts
use Rattle.pdu_values.specs.declared.bodies.Eof.{Eof}
use Rattle.pdu_values.specs.declared.bodies.Finished.{Finished}
use Rattle.pdu_values.specs.declared.bodies.Ack.{Ack}
use Rattle.pdu_values.specs.declared.bodies.Metadata.{Metadata}
use Rattle.pdu_values.specs.declared.bodies.Nak.{Nak}
use Rattle.pdu_values.specs.declared.bodies.KeepAlive.{KeepAlive}
use Rattle.pdu_values.specs.declared.bodies.FileData.{FileData}
use Rattle.pdu_values.specs.declared.pdu.Body.TheVariants as bodies
use Rattle.pdu_values.specs.Pdu.{is_toward_sender, ack_is_toward_sender}
use Rattle.pdu_values.specs.Spelling.{delivery_bit, file_status_bits, transaction_status_bits, acknowledged_code, acknowledged_subtype, prompt_bit}

-- ---- directions

eof_goes_to_receiver : (e : Eof) → is_toward_sender (bodies.Eof e) ≡ false
eof_goes_to_receiver e = refl

finished_goes_to_sender : (f : Finished) → is_toward_sender (bodies.Finished f) ≡ true
finished_goes_to_sender f = refl

ack_of_eof_goes_to_sender : ack_is_toward_sender acknowledged.Eof ≡ true
ack_of_eof_goes_to_sender = refl

ack_of_finished_goes_to_receiver : ack_is_toward_sender acknowledged.Finished ≡ false
ack_of_finished_goes_to_receiver = refl

ack_goes_by_what_it_acknowledges : (a : Ack) → is_toward_sender (bodies.Ack a) ≡ ack_is_toward_sender a.of
ack_goes_by_what_it_acknowledges a = refl

metadata_goes_to_receiver : (m : Metadata) → is_toward_sender (bodies.Metadata m) ≡ false
metadata_goes_to_receiver m = refl

nak_goes_to_sender : (n : Nak) → is_toward_sender (bodies.Nak n) ≡ true
nak_goes_to_sender n = refl

prompt_goes_to_receiver : (p : Prompt) → is_toward_sender (bodies.Prompt p) ≡ false
prompt_goes_to_receiver p = refl

keep_alive_goes_to_sender : (k : KeepAlive) → is_toward_sender (bodies.KeepAlive k) ≡ true
keep_alive_goes_to_sender k = refl

file_data_goes_to_receiver : (d : FileData) → is_toward_sender (bodies.FileData d) ≡ false
file_data_goes_to_receiver d = refl

-- ---- bits as they are written

delivery_bits : map delivery_bit (Complete ∷ Incomplete ∷ []) ≡ 0 ∷ 1 ∷ []
delivery_bits = refl

file_statuses_written : map file_status_bits (Discarded ∷ Rejected ∷ Retained ∷ Unreported ∷ []) ≡ 0 ∷ 1 ∷ 2 ∷ 3 ∷ []
file_statuses_written = refl

transaction_statuses_written : map transaction_status_bits (Undefined ∷ Active ∷ Terminated ∷ Unrecognized ∷ []) ≡ 0 ∷ 1 ∷ 2 ∷ 3 ∷ []
transaction_statuses_written = refl

acknowledged_written : map acknowledged_code (acknowledged.Eof ∷ acknowledged.Finished ∷ []) ≡ 4 ∷ 5 ∷ []
acknowledged_written = refl

subtypes_written : map acknowledged_subtype (acknowledged.Eof ∷ acknowledged.Finished ∷ []) ≡ 0 ∷ 1 ∷ []
subtypes_written = refl

prompts_written : map prompt_bit (prompts.Nak ∷ prompts.KeepAlive ∷ []) ≡ 0 ∷ 1 ∷ []
prompts_written = refl
