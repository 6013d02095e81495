-- Worked rows: how far a file is.
use Rattle.std.proofs.Common.{◌≡◌, [], ◌∷◌, ◌++◌, codes, map, refl}
use Rattle.std.specs.Fmt.{digits}
use Rattle.cfdp_send.specs.Progress.{awaited_text, percent_of, progress_text}

percents : map (λ reach. percent_of reach 3) (0 ∷ 1 ∷ 2 ∷ 3 ∷ []) ≡ 0 ∷ 33 ∷ 66 ∷ 100 ∷ []
percents = refl

no_octets : percent_of 0 0 ≡ 100
no_octets = refl

some_sent : progress_text 40 512 ≡ codes "\r40 of 512 octets sent"
unfolding digits
some_sent = refl

awaited : awaited_text 511 512 ++ awaited_text 512 512 ≡ codes ", waiting for the end"
awaited = refl
