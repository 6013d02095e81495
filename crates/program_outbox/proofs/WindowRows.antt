-- Links that are open for a time, computed.
use Rattle.std.proofs.Common.{◌≡◌, ℕ, [], ◌∷◌, map, position, Some, None, refl}
use Rattle.std.specs.List.{fold}
use Rattle.program_outbox.specs.declared.windows.Window.{Window}
use Rattle.program_outbox.specs.Outboxes.{without_place}
use Rattle.program_outbox.specs.Windows.{earlier, end_of, has_end, is_of, opened, remote_at, until_at}

abbrev pub window : ℕ → ℕ → Window
window remote until = record { remote = record { 0 = remote }; until = until }

-- a pass of ten minutes, and one that begins anew
passes : opened (record { 0 = 9 }) (end_of 1000 600) (window 9 5000 ∷ window 7 90000 ∷ []) ≡ window 7 90000 ∷ window 9 601000 ∷ []
passes = refl

ends : map (λ remote. until_at (position (is_of remote) (window 9 5000 ∷ window 7 90000 ∷ [])) (window 9 5000 ∷ window 7 90000 ∷ []))
    (9 ∷ 7 ∷ 8 ∷ []) ≡ Some 5000 ∷ Some 90000 ∷ None ∷ []
ends = refl

-- it is over at its last moment, and not before
over : map (λ now. remote_at (position (has_end now) (window 7 90000 ∷ window 9 5000 ∷ [])) (window 7 90000 ∷ window 9 5000 ∷ [])) (4999 ∷ 5000 ∷ [])
    ≡ None ∷ Some (record { 0 = 9 }) ∷ []
over = refl

then_left : without_place (position (has_end 5000) (window 7 90000 ∷ window 9 5000 ∷ [])) (window 7 90000 ∷ window 9 5000 ∷ []) ≡ window 7 90000 ∷ []
then_left = refl

next : map (λ moment. fold earlier moment (window 7 90000 ∷ window 9 5000 ∷ [])) (4000 ∷ 6000 ∷ []) ≡ 4000 ∷ 5000 ∷ []
next = refl

far : end_of 18446744073709551000 600 ≡ 18446744073709551615
far = refl
