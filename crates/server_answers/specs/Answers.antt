-- Meaning. What the server prints of an entity's answers.
use Rattle.std.specs.Prelude.{Bool, List, ℕ, Option, ◌++◌, if◌then◌else◌, codes, decimal}
use Rattle.answer_texts.specs.AnswerTexts.{opened_text, deposit_text, refusal_text, fault_line, refused_text}
use Rattle.cfdp_types.specs.declared.key.Deposit.{Deposit}
use Rattle.cfdp_types.specs.declared.key.TxnKey.{TxnKey}
use Rattle.entity_parts.specs.Refusals.{number_of, name_of}
use Rattle.entity_parts.specs.declared.refusal.EntityRefusal.{EntityRefusal}
use Rattle.entity_parts.specs.declared.refusal.EntityRefusal.TheVariants as answer
use Rattle.entity_routing.specs.declared.refusal.RouteRefusal.TheVariants as routes
use Rattle.lane_traces.specs.declared.traced.Traced.{Traced}
use Rattle.pdu_reading.specs.Fault.{fault_number}
use Rattle.txn_events.specs.Refusal.{refusal_name, refusal_number}
use Rattle.txn_events.specs.declared.refusal.Refusal.TheVariants.{NoMemory, TooLarge}

-- the lines for what was taken: those of a script, but for the PDUs
abbrev pub taken_text : Bool → TxnKey → Option Deposit → List ℕ
taken_text is_put key deposit = codes "ok\n" ++ (opened_text is_put key ++ deposit_text deposit)

-- the lines for what was refused: those of a script
abbrev pub refusal_line : EntityRefusal → List ℕ
refusal_line (answer.Lane refused) = refused_text refused
refusal_line (answer.Route (routes.DecodeFault fault)) = fault_line (fault_number fault)
refusal_line why = refusal_text (number_of why) (name_of why)

-- the line for what there was no memory for
abbrev pub no_memory_line : List ℕ
no_memory_line = refusal_text (refusal_number NoMemory) (refusal_name NoMemory)

-- the line for a file that is too large to be sent
abbrev pub too_large_line : List ℕ
too_large_line = refusal_text (refusal_number TooLarge) (refusal_name TooLarge)

-- the reply to a line that isn't a command
abbrev pub bad_command_line : List ℕ
bad_command_line = codes "bad command\n"

-- the line for how far a transaction is
abbrev pub traced_text : Traced → List ℕ
traced_text traced = codes "trace " ++ (decimal traced.entries ++ (if traced.ended then codes " ended\n" else codes " open\n"))
