-- Meaning. What the server replies to a Put, or to another request, by what became of it.
use Rattle.std.specs.Prelude.{ℕ, Bool, true, false, List, Result, Ok, Err, codes}
use Rattle.entity_parts.specs.Refusals.{is_passing}
use Rattle.server_answers.specs.Answers.{bad_command_line, no_memory_line, taken_text, refusal_line}
use Rattle.server_answers.specs.declared.outcome.Declined.{Declined}
use Rattle.server_answers.specs.declared.outcome.Declined.TheVariants as declined
use Rattle.server_answers.specs.declared.outcome.Taken.{Taken}

-- the reply to a request that was not taken
abbrev pub declined_text : Declined → List ℕ
declined_text declined.Malformed = bad_command_line
declined_text declined.NoMemory = no_memory_line
declined_text declined.Unreadable = codes "read fault\n"
declined_text declined.Uncovered = codes "numbers fault\n"
declined_text (declined.Refused refusal) = refusal_line refusal

-- the reply to a request
abbrev pub outcome_text : Result Taken Declined → List ℕ
outcome_text (Ok taken) = taken_text taken.is_put taken.key taken.deposit
outcome_text (Err why) = declined_text why

-- whether a file of the outbox may be taken later, by whether the outbox is kept over restarts
abbrev pub may_pass : Declined → Bool → Bool
may_pass declined.NoMemory is_kept = true
may_pass declined.Uncovered is_kept = is_kept
may_pass (declined.Refused refusal) is_kept = is_passing refusal
may_pass declined.Malformed is_kept = false
may_pass declined.Unreadable is_kept = false
