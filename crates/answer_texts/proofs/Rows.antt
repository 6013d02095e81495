-- Worked rows: what is printed for what users are told, and for events.
use Rattle.std.proofs.Common.{◌≡◌, true, false, [], ◌∷◌, map, Some, None, codes, refl}
use Rattle.std.specs.Fmt.{digits}
use Rattle.hex.specs.Hex.{encode_with}
use Rattle.cfdp_types.specs.declared.key.TxnKey.{TxnKey}
use Rattle.cfdp_types.specs.declared.names.Class.TheVariants.{Two}
use Rattle.cfdp_types.specs.declared.names.Delivery.TheVariants.{Complete, Incomplete}
use Rattle.cfdp_types.specs.declared.names.FileStatus.TheVariants.{Discarded, Rejected, Retained, Unreported}
use Rattle.txn_events.specs.declared.refusal.Refusal.TheVariants as refusal
use Rattle.txn_events.specs.Examples.{header}
use Rattle.indications.specs.declared.indication.Phase.TheVariants as phase
use Rattle.indications.specs.declared.indication.Indication.TheVariants as told
use Rattle.pdu_values.specs.Numbers.{digits as octets_of}
use Rattle.pdu_values.specs.Pdu.{PduValue}
use Rattle.pdu_values.specs.Spelling.{spelling, written}
use Rattle.pdu_values.specs.Tlvs.{width_from}
use Rattle.pdu_values.specs.declared.pdu.Body.TheVariants as body
use Rattle.pdu_values.specs.declared.bodies.Acknowledged.TheVariants as acknowledged
use Rattle.pdu_values.specs.declared.bodies.TransactionStatus.TheVariants.{Active, Terminated}
use Rattle.pdu_values.specs.declared.pdu.Direction.TheVariants.{TowardSender}
use Rattle.answer_texts.specs.ToldTexts.{indication_text, bundle_text}
use Rattle.answer_texts.specs.AnswerTexts.{done_text, refusal_text, fault_line, refused_text}

-- the transaction of the rows
key : TxnKey
key = record { source = record { 0 = 1 }; seq = 5 }

-- the ACK of its EOF
acknowledged_eof : PduValue
acknowledged_eof = record {
  header = record (header Two) { direction = TowardSender };
  body = body.Ack (record { of = acknowledged.Eof; condition = 0; status = Active });
}

-- the ACK of its EOF once the transaction is over
echoed_eof : PduValue
echoed_eof = record {
  header = record (header Two) { direction = TowardSender };
  body = body.Ack (record { of = acknowledged.Eof; condition = 0; status = Terminated });
}

-- ---- events

-- taken
events : map (done_text false) (record { key = key; pdus = []; timers = []; deposit = None }
    ∷ record { key = key; pdus = acknowledged_eof ∷ []; timers = []; deposit = Some (record { key = key; stamp = 2 }) }
    ∷ record { key = key; pdus = acknowledged_eof ∷ echoed_eof ∷ []; timers = []; deposit = None } ∷ [])
    ≡ codes "ok\n" ∷ codes "ok\npdu 28000300010502064001\ndeposit 2\n"
    ∷ codes "ok\npdu 28000300010502064001\npdu 28000300010502064002\n" ∷ []
unfolding digits encode_with written spelling octets_of width_from key acknowledged_eof echoed_eof
events = refl

-- a Put that was taken
puts : done_text true (record { key = key; pdus = []; timers = []; deposit = None }) ≡ codes "ok\ntxn 1 5\n"
unfolding digits key
puts = refl

-- refused, with and without what goes back
echoes : map refused_text (record { why = refusal.OldTransaction; echo = Some acknowledged_eof }
    ∷ record { why = refusal.OldTransaction; echo = None } ∷ [])
    ≡ codes "refused 2 OldTransaction\necho 28000300010502064001\n" ∷ codes "refused 2 OldTransaction\n" ∷ []
unfolding digits encode_with written spelling octets_of width_from acknowledged_eof
echoes = refl

faults : map fault_line (1 ∷ 8 ∷ []) ≡ codes "refused 20 DecodeFault 1\n" ∷ codes "refused 20 DecodeFault 8\n" ∷ []
unfolding digits
faults = refl

refusals : refusal_text 23 (codes "NoRoute") ≡ codes "refused 23 NoRoute\n"
unfolding digits
refusals = refl

refusals_of_a_lane : map (λ why. refused_text (record { why = why; echo = None })) (refusal.NoTransaction ∷ refusal.OldTransaction
    ∷ refusal.LaneBusy ∷ refusal.ModeMismatch ∷ refusal.StaleTimer ∷ refusal.StaleStored ∷ refusal.Storing
    ∷ refusal.WrongState ∷ refusal.SeqExhausted ∷ refusal.TooLarge ∷ refusal.JournalFull ∷ refusal.NoMemory
    ∷ refusal.QueueFull ∷ [])
    ≡ codes "refused 1 NoTransaction\n" ∷ codes "refused 2 OldTransaction\n" ∷ codes "refused 3 LaneBusy\n"
    ∷ codes "refused 4 ModeMismatch\n" ∷ codes "refused 5 StaleTimer\n" ∷ codes "refused 6 StaleStored\n"
    ∷ codes "refused 7 Storing\n" ∷ codes "refused 8 WrongState\n" ∷ codes "refused 9 SeqExhausted\n"
    ∷ codes "refused 10 TooLarge\n" ∷ codes "refused 11 JournalFull\n" ∷ codes "refused 12 NoMemory\n"
    ∷ codes "refused 13 QueueFull\n" ∷ []
unfolding digits
refusals_of_a_lane = refl

-- ---- indications

plain_indications : map indication_text (told.Transaction ∷ told.EofSent ∷ told.EofRecv
    ∷ told.FileSegmentRecv 4294967295 0 ∷ told.Suspended 14 ∷ told.Resumed 9 ∷ told.Fault 7 12
    ∷ told.Abandoned 15 13 ∷ [])
    ≡ codes "Transaction" ∷ codes "EOF-Sent" ∷ codes "EOF-Recv" ∷ codes "File-Segment-Recv 4294967295 0"
    ∷ codes "Suspended 14" ∷ codes "Resumed 9" ∷ codes "Fault 7 12" ∷ codes "Abandoned 15 13" ∷ []
unfolding digits
plain_indications = refl

ends : map indication_text (told.TransactionFinished 0 Complete Retained
    ∷ told.TransactionFinished 7 Incomplete Discarded ∷ told.TransactionFinished 15 Incomplete Unreported
    ∷ told.TransactionFinished 4 Complete Rejected ∷ [])
    ≡ codes "Transaction-Finished 0 complete retained" ∷ codes "Transaction-Finished 7 incomplete discarded"
    ∷ codes "Transaction-Finished 15 incomplete unreported" ∷ codes "Transaction-Finished 4 complete rejected"
    ∷ []
unfolding digits
ends = refl

reports : map indication_text (told.Report phase.Active 0 ∷ told.Report phase.Suspended 10
    ∷ told.Report phase.Storing 11 ∷ told.Report phase.Closing 4294967295 ∷ [])
    ≡ codes "Report active 0" ∷ codes "Report suspended 10" ∷ codes "Report storing 11"
    ∷ codes "Report closing 4294967295" ∷ []
unfolding digits
reports = refl

-- with two messages, one of them without octets
metadata : indication_text (told.MetadataRecv (record {
  source = record { 0 = 18446744073709551615 };
  size = 4194304;
  source_name = 0x61 ∷ [];
  destination_name = 0x62 ∷ 0x5A
      ∷ [];
  messages = (0x00 ∷ 0xAB ∷ []) ∷ [] ∷ [];
}))
    ≡ codes "Metadata-Recv 18446744073709551615 4194304 61 625a 00ab -"
unfolding digits encode_with
metadata = refl

bundles : bundle_text (codes "bob") (record {
  user = 1;
  lane = 3;
  key = record { source = record { 0 = 0 }; seq = 18446744073709551615 };
  inds = told.EofRecv ∷ told.Resumed 9 ∷ [];
})
    ≡ codes "bob 0 18446744073709551615 EOF-Recv\nbob 0 18446744073709551615 Resumed 9\n"
unfolding digits
bundles = refl
