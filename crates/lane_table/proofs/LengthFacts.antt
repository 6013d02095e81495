-- Logs of both ends, and a lane's journal, keep to the limit of a journal.
use Rattle.std.proofs.Common.{ℕ, ◌<◌, ◌≤◌, length, Option, Some, None, sym, subst, arith}
use Rattle.cfdp_types.specs.declared.limits.TheConstants.{JOURNAL_ENTRIES}
use Rattle.sender_laws.proofs.SendingLength as sender_laws
use Rattle.receiver_laws.proofs.ReceptionLength as receiver_laws
use Rattle.lane_table.specs.Lane.{IsRun, entries_in, log_of}
use Rattle.lane_table.specs.LaneLaws.{FitsJournal, KeepsToLimit}
use Rattle.lane_table.specs.Logs.{Log, sent, received}

pub fits_journal : FitsJournal
fits_journal (sent sending log) legal =
    let fewer : length log < JOURNAL_ENTRIES = sender_laws.fits_journal sending log legal in
    omega arith
fits_journal (received reception log) legal = receiver_laws.fits_journal reception log legal

run_fits : (last : Option ℕ) (found : Option Log) → IsRun last found → entries_in found ≤ JOURNAL_ENTRIES
run_fits None None run = omega arith
run_fits None (Some log) run = absurd run
run_fits (Some number) None run = absurd run
run_fits (Some number) (Some log) run = fits_journal log run

pub keeps_to_limit : KeepsToLimit
keeps_to_limit state sound = subst (λ n. n ≤ JOURNAL_ENTRIES) (sym sound.counted) (run_fits state.last (log_of state) sound.run)
