use Rattle.std.proofs.Common.{◌≡◌, ◌++◌, take, string_bytes}
use Rattle.answer_texts.specs.AnswerTexts.{pdus_text}
use Rattle.answer_texts.proofs.answers.push_pdus.Given as goal

-- the lines of the PDUs so far are added
abbrev pub invariant-loop-pdu : goal.invariant-loop-pdu
invariant-loop-pdu l = string_bytes l.text ≡ string_bytes l.initial.text ++ pdus_text (take l.pdu-index l.pdu-items)
