use Rattle.std.proofs.Common.{◌≡◌, ◌++◌, take, string_bytes}
use Rattle.answer_texts.specs.ToldTexts.{messages_text}
use Rattle.answer_texts.proofs.told.push_messages.Given as goal

-- the messages so far are added
abbrev pub invariant-loop-message : goal.invariant-loop-message
invariant-loop-message l = string_bytes l.text ≡ string_bytes l.initial.text ++ messages_text (take l.message-index l.message-items)
