-- Worked replies.
use Rattle.std.proofs.Common.{◌≡◌, ◌∷◌, [], Some, None, map, refl}
use Rattle.program_tallies.specs.Replies.{after_one}
use Rattle.program_tallies.specs.declared.replies.Window.{Window}

-- what left in second 7
abbrev window : Window
window = record { second = 7; used = 98 }

-- in the same second up to a hundred, and in another one anew
within : after_one 7 2 100 window ∷ after_one 7 3 100 window ∷ after_one 8 3 100 window ∷ []
    ≡ Some (record { second = 7; used = 100 }) ∷ None ∷ Some (record { second = 8; used = 3 }) ∷ []
within = refl

-- the first of a second leaves even if it is greater than the most
first : after_one 8 300 100 window ≡ Some (record { second = 8; used = 300 })
first = refl
