-- Worked rows: paths that can be a socket's address, and others.
use Rattle.std.proofs.Common.{◌≡◌, true, false, ◌∷◌, [], map, refl, codes}
use Rattle.std.specs.List.{repeat}
use Rattle.unix_sockets.specs.Addresses.{is_address}

paths : map is_address (codes "a" ∷ codes "/run/cfdp/control" ∷ [] ∷ (97 ∷ 0 ∷ []) ∷ []) ≡ true ∷ true ∷ false ∷ false ∷ []
paths = refl

lengths : map (λ count. is_address (repeat count (97 ∷ []))) (107 ∷ 108 ∷ []) ≡ true ∷ false ∷ []
lengths = refl
