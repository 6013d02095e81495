-- A worked queue of files to be stored.
use Rattle.std.proofs.Common.{◌≡◌, ℕ, List, [], ◌∷◌, Option, Some, None, refl}
use Rattle.program_agenda.specs.declared.store_queue.Retry.{Retry}
use Rattle.program_agenda.specs.Stores.{StoreQueueValue, added, next_store, put_off, soonest_store, without_store}

-- a file that is tried again from a moment on
abbrev pub retry : ℕ → ℕ → Retry ℕ
retry file again = record { file = file; again = again }

-- a file that wasn't tried, and two that are tried again
abbrev pub two : StoreQueueValue ℕ
two = record { fresh = 7 ∷ []; waiting = retry 5 1500 ∷ retry 6 1800 ∷ [] }

fresh_first : next_store 2000 two ≡ Some 7
fresh_first = refl

abbrev pub one : StoreQueueValue ℕ
one = without_store 2000 two

left : one ≡ record { fresh = []; waiting = retry 5 1500 ∷ retry 6 1800 ∷ [] }
left = refl

too_early : next_store 1499 one ≡ None
too_early = refl

stays : without_store 1499 one ≡ one
stays = refl

in_time : next_store 1500 one ≡ Some 5
in_time = refl

gone : without_store 1500 one ≡ record one { waiting = retry 6 1800 ∷ [] }
gone = refl

behind_others : (added 9 two).fresh ≡ 7 ∷ 9 ∷ []
behind_others = refl

-- it doesn't move the others
again_later : put_off 7 2000 one ≡ record { fresh = []; waiting = retry 5 1500 ∷ retry 6 1800 ∷ retry 7 3000 ∷ [] }
again_later = refl

at_once : soonest_store two ≡ 0
at_once = refl

from_then_on : soonest_store one ≡ 1500
from_then_on = refl

never : soonest_store (record one { waiting = [] }) ≡ 18446744073709551615
never = refl
