-- Meaning. What is printed for an event that was taken or refused.
use Rattle.std.specs.Prelude.{ℕ, Bool, true, false, List, [], ◌++◌, Option, Some, None, codes, decimal}
use Rattle.std.specs.List.{flat_map}
use Rattle.hex.specs.Hex.{encode_lower}
use Rattle.cfdp_types.specs.declared.key.Deposit.{Deposit}
use Rattle.cfdp_types.specs.declared.key.TxnKey.{TxnKey}
use Rattle.lane_table.specs.declared.done.Done.{Done}
use Rattle.lane_table.specs.declared.refused.Refused.{Refused}
use Rattle.pdu_values.specs.Pdu.{PduValue}
use Rattle.pdu_values.specs.Spelling.{written}
use Rattle.txn_events.specs.Refusal.{refusal_number, refusal_name}
use Rattle.answer_texts.specs.ToldTexts.{key_text}

-- a line of a word and a PDU in hex
abbrev pub pdu_text : List ℕ → PduValue → List ℕ
pdu_text word pdu = word ++ (codes " " ++ (encode_lower (written pdu) ++ codes "\n"))

-- a line for each PDU that is sent
abbrev pub pdus_text : List PduValue → List ℕ
pdus_text pdus = flat_map (pdu_text (codes "pdu")) pdus

-- the line for the transaction that a Put opened
abbrev pub opened_text : Bool → TxnKey → List ℕ
opened_text false key = []
opened_text true key = codes "txn " ++ (key_text key ++ codes "\n")

-- the line for a deposit, if there is one
abbrev pub deposit_text : Option Deposit → List ℕ
deposit_text None = []
deposit_text (Some deposit) = codes "deposit " ++ (decimal deposit.stamp ++ codes "\n")

-- the lines for an event that was accepted, a Put or another
abbrev pub done_text : Bool → Done → List ℕ
done_text is_put done = codes "ok\n" ++ (opened_text is_put done.key ++ (pdus_text done.pdus ++ deposit_text done.deposit))

-- the line for a refusal with a number and a name
abbrev pub refusal_text : ℕ → List ℕ → List ℕ
refusal_text number name = codes "refused " ++ (decimal number ++ (codes " " ++ (name ++ codes "\n")))

-- the line for octets that are not a PDU, with the number of the decode fault
abbrev pub fault_line : ℕ → List ℕ
fault_line number = codes "refused 20 DecodeFault " ++ (decimal number ++ codes "\n")

-- the line for the PDU that is sent back nevertheless, if there is one
abbrev pub echo_text : Option PduValue → List ℕ
echo_text None = []
echo_text (Some pdu) = pdu_text (codes "echo") pdu

-- the lines for an event that a lane refused
abbrev pub refused_text : Refused → List ℕ
refused_text refused = refusal_text (refusal_number refused.why) (refusal_name refused.why) ++ echo_text refused.echo
