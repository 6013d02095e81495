-- Meaning. What becomes of a timer that has expired: on a held link it rests, and after a release silence counts anew.
use Rattle.std.specs.Prelude.{ℕ, nat_lt, if◌then◌else◌, Option, Some, None}
use Rattle.timer_list.specs.declared.armed.Armed.{Armed}
use Rattle.program_agenda.specs.Links.{deadline_behind}
use Rattle.program_agenda.specs.declared.expiry.Expiry.{Expiry}
use Rattle.program_agenda.specs.declared.expiry.Expiry.TheVariants as expiry
use Rattle.program_agenda.specs.declared.expiry.TimedLink.{TimedLink}

-- when a timer expires on an open link, which may have been released before
abbrev pub deadline_on : Armed → TimedLink → ℕ
deadline_on timer link = if nat_lt 0 link.released then deadline_behind timer link.released link.silence else timer.deadline

-- it runs again where its deadline is still to come
abbrev pub due_by : ℕ → ℕ → Expiry
due_by deadline now = if nat_lt now deadline then expiry.RunsUntil deadline else expiry.Fires

abbrev pub expiry_on : Armed → TimedLink → ℕ → Expiry
expiry_on timer link now = if link.is_held then expiry.Rests link.remote else due_by (deadline_on timer link) now

-- a timer without a link, as of a transaction that nobody knows here any more, fires
abbrev pub expiry_of : Armed → Option TimedLink → ℕ → Expiry
expiry_of timer None now = expiry.Fires
expiry_of timer (Some link) now = expiry_on timer link now
