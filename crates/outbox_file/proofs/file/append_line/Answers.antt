use Rattle.outbox_file.proofs.FileFacts.{appends, notes, stored_if}
use Rattle.outbox_file.proofs.file.append_line.Goals as goal

pub returns-in_err-append-clause-notes : goal.returns-in_err-append-clause-notes
returns-in_err-append-clause-notes g c = appends _ _ _ _ _ c.requires.stored c.requires.plain c.append.result (rw c.requires.is_text at c.append.ensures)

pub returns-clause-notes : goal.returns-clause-notes
returns-clause-notes g c =
    notes _ _ _ _ _ c.requires.stored c.requires.plain c.append.result _ c.in_ok-append.was (rw c.requires.is_text at c.append.ensures) _ c.flush.result c.flush.ensures

pub returns-clause-stored : goal.returns-clause-stored
returns-clause-stored g c =
    stored_if _ _ _ _ _ c.requires.stored c.requires.plain c.append.result _ c.in_ok-append.was (rw c.requires.is_text at c.append.ensures) _ c.flush.result c.flush.ensures
