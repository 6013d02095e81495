use Rattle.std.proofs.Common.{◌≡◌, ◌++◌, drop}
use Rattle.server_answers.specs.Notes.{notes_of, peers_notes}
use Rattle.server_answers.proofs.notes.notes_of.Given as goal

abbrev pub invariant-loop-place : goal.invariant-loop-place
invariant-loop-place l = notes_of l.config ≡ l.notes.items ++ peers_notes (drop l.place l.config.peers)
