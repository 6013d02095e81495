-- Meaning. Received files that wait to be stored, and which of them is tried next.
use Rattle.std.specs.Prelude.{ℕ, ◌+◌, Bool, nat_le, min, if◌then◌else◌, List, [], ◌∷◌, ◌++◌, Option, Some, None}
use Rattle.program_agenda.specs.declared.store_queue.Retry.{Retry}

-- those that weren't tried yet and those that are tried again, each in their order
pub record StoreQueueValue (D : Type 0) : Type 0 where
  pub fresh : List D
  pub waiting : List (Retry D)

-- the first of those that are tried again, from its moment on; and what waits then without it
abbrev pub next_waiting : {D : Type 0} → ℕ → List (Retry D) → Option D
next_waiting now [] = None
next_waiting now (first ∷ rest) = if nat_le first.again now then Some first.file else None

abbrev pub left_waiting : {D : Type 0} → ℕ → List (Retry D) → List (Retry D)
left_waiting now [] = []
left_waiting now (first ∷ rest) = if nat_le first.again now then rest else first ∷ rest

-- a file that wasn't tried yet is next, or else the first of the others from its moment on
abbrev pub next_by : {D : Type 0} → List D → ℕ → StoreQueueValue D → Option D
next_by (first ∷ rest) now queue = Some first
next_by [] now queue = next_waiting now queue.waiting

abbrev pub next_store : {D : Type 0} → ℕ → StoreQueueValue D → Option D
next_store now queue = next_by queue.fresh now queue

-- the queue without it
abbrev pub without_by : {D : Type 0} → List D → ℕ → StoreQueueValue D → StoreQueueValue D
without_by (first ∷ rest) now queue = record queue { fresh = rest }
without_by [] now queue = record queue { waiting = left_waiting now queue.waiting }

abbrev pub without_store : {D : Type 0} → ℕ → StoreQueueValue D → StoreQueueValue D
without_store now queue = without_by queue.fresh now queue

-- one more file is to be stored, after all that weren't tried yet
abbrev pub added : {D : Type 0} → D → StoreQueueValue D → StoreQueueValue D
added item queue = record queue { fresh = queue.fresh ++ item ∷ [] }

-- one that couldn't be stored now is tried again a second later, after those that wait already; their moments stay
abbrev pub put_off : {D : Type 0} → D → ℕ → StoreQueueValue D → StoreQueueValue D
put_off item now queue = record queue { waiting = queue.waiting ++ record { file = item; again = min (now + 1000) 18446744073709551615 } ∷ [] }

-- from when on one is next: at once, from the first one's moment on, or never
abbrev pub soonest_waiting : {D : Type 0} → List (Retry D) → ℕ
soonest_waiting [] = 18446744073709551615
soonest_waiting (first ∷ rest) = first.again

abbrev pub soonest_by : {D : Type 0} → List D → StoreQueueValue D → ℕ
soonest_by (first ∷ rest) queue = 0
soonest_by [] queue = soonest_waiting queue.waiting

abbrev pub soonest_store : {D : Type 0} → StoreQueueValue D → ℕ
soonest_store queue = soonest_by queue.fresh queue
