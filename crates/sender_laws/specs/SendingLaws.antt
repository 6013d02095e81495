-- Meaning. The laws of every sender.
use Rattle.std.specs.Prelude.{◌≡◌, ◌<◌, true, List, length}
use Rattle.cfdp_types.specs.declared.limits.TheConstants.{JOURNAL_ENTRIES}
use Rattle.indications.specs.Words.{IsBegunOf, IsWordOf}
use Rattle.indications.specs.declared.side.Side.TheVariants.{Sender}
use Rattle.sender_table.specs.Sending.{Sending, Entry, state_of, issued}
use Rattle.sender_laws.specs.LegalSendings.{IsLegal}

-- the indications of a sender are the beginning of a sender's word, and a word once the transaction has ended
abbrev pub TellsWords : Type 0
TellsWords = (sending : Sending) (log : List Entry) → IsLegal sending log
    → IsBegunOf Sender (issued log) × ((state_of sending log).ended ≡ true → IsWordOf Sender (issued log))

-- a legal log has fewer entries than a journal may have
abbrev pub FitsJournal : Type 0
FitsJournal = (sending : Sending) (log : List Entry) → IsLegal sending log → length log < JOURNAL_ENTRIES
