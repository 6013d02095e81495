-- Laws of the file that is handed out.
use Rattle.std.proofs.Common.{◌≡◌, ℕ, zero, suc, ◌+◌, ◌<◌, List, length, get_or, Option, refl, sym, ap, ◌∙◌, arith}
use Rattle.std.proofs.lemmas.Grind.{same_number_lists}
use Rattle.std.specs.Prelude.{unwrap_or}
use Rattle.receiver_table.specs.Answers.{octets_from}
use Rattle.receiver_table.proofs.FileOctets.{octets_from-length}

-- the octets below a size, at an index
octets_from-index : (received : ℕ → Option ℕ) (k n i : ℕ) → i < n → get_or (octets_from received k n) i 0 ≡ unwrap_or (received (k + i)) 0
octets_from-index received k zero i below = absurd (omega arith)
octets_from-index received k (suc n) zero below = let e : k + 0 ≡ k = omega arith in rw e refl
octets_from-index received k (suc n) (suc i) below =
    let e : k + 1 + i ≡ k + suc i = omega arith in
    octets_from-index received (k + 1) n i (omega arith) ∙ ap (λ j. unwrap_or (received j) 0) e

-- the octets that came, with 0 for those that are missing
pub image_is : (received : ℕ → Option ℕ) (octets : List ℕ) (size : ℕ) → length octets ≡ size
    → ((i : ℕ) → i < size → get_or octets i 0 ≡ unwrap_or (received i) 0) → octets ≡ octets_from received 0 size
image_is received octets size count same =
    same_number_lists octets (octets_from received 0 size) (count ∙ sym (octets_from-length received 0 size))
    (λ i within.
    let below : i < size = omega (arith, within, count) in
    let zero_more : 0 + i ≡ i = omega arith in
    same i below ∙ sym (rw zero_more at (octets_from-index received 0 size i below)))
