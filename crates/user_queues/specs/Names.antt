-- Of the code. The queues that a run's types agree on.
use Rattle.std.specs.Prelude.{ℕ, []}
use Rattle.atomic_table.specs.Seated.{TableId}

-- a stand-in that no run uses: a caller chooses its own queues
abbrev pub no_queue : ℕ → TableId
no_queue user = record { words = 0; slots = 0; views_name = 0; atom = 0; block = 0; offset = 0; slot_names = [] }
