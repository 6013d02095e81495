-- Laws of the modular checksum.
use Rattle.std.proofs.Common.{◌≡◌, ℕ, ◌+◌, ◌-◌, ◌*◌, ◌%◌, ◌^◌, ◌<◌, ◌≤◌, List, [], ◌∷◌, ◌++◌, length, get_or, take, drop, refl, ap, sym, ◌∙◌, arith, add-zero, zero-add, zero, suc}
use Rattle.std.proofs.Math.Nat.{mod-add-mod}
use Rattle.std.proofs.lemmas.List.{drop_more, take-append-drop, length-take-le}
use Rattle.std.proofs.lemmas.Nat.{mod_below, shl_whole}
use Rattle.modular_sum.specs.Sum.{weight_of, total_from, sum}
use Rattle.modular_sum.specs.Pieces.{sum_with}

-- octets one after another add what each part adds where it stands
pub total_from-append : (offset : ℕ) (xs ys : List ℕ)
    → total_from offset (xs ++ ys) ≡ total_from offset xs + total_from (offset + length xs) ys
total_from-append offset [] ys = rw add-zero (sym (zero-add (total_from offset ys)))
total_from-append offset (x ∷ xs) ys =
    let e : offset + 1 + length xs ≡ offset + length (x ∷ xs) = omega arith in
    rw (total_from-append (offset + 1) xs ys, e) (omega arith)

-- a checksum has 32 bits
pub sum_below : (octets : List ℕ) → sum octets < 2 ^ 32
sum_below octets = mod_below (total_from 0 octets) (2 ^ 32) (omega arith)

-- adding the octet at an index and then the rest is adding all that stands from there on
pub total_from_next : (octets : List ℕ) (offset index total : ℕ) → index < length octets
    → ((total + get_or octets index 0 * weight_of offset) % 2 ^ 32 + total_from (offset + 1) (drop (index + 1) octets)) % 2 ^ 32
    ≡ (total + total_from offset (drop index octets)) % 2 ^ 32
total_from_next octets offset index total inside =
    rw (mod-add-mod, drop_more octets index 0 inside) (ap (λ n. n % 2 ^ 32) (omega arith))

-- adding the octet at an offset and then the rest, where the first octet stands at the offset 0
pub total_from_more : (octets : List ℕ) (offset total : ℕ) → offset < length octets
    → ((total + get_or octets offset 0 * weight_of offset) % 2 ^ 32 + total_from (offset + 1) (drop (offset + 1) octets)) % 2 ^ 32
    ≡ (total + total_from offset (drop offset octets)) % 2 ^ 32
total_from_more octets offset total inside = total_from_next octets offset offset total inside

-- an offset counts for what its place in the word of four does
pub weight_of_place : (place offset : ℕ) → place ≡ offset % 4 → weight_of place ≡ weight_of offset
weight_of_place place offset is =
    let same : place % 4 ≡ offset % 4 = omega arith in ap (λ n. 256 ^ (3 - n)) same

-- a shift by whole octets multiplies by a power of 256
shift_by_octets : (k : ℕ) → k < 4 → 2 ^ (8 * k) ≡ 256 ^ k
shift_by_octets zero _ = refl
shift_by_octets (suc zero) _ = refl
shift_by_octets (suc (suc zero)) _ = refl
shift_by_octets (suc (suc (suc zero))) _ = refl
shift_by_octets (suc (suc (suc (suc k)))) below = absurd (omega arith)

-- an octet shifted to its place in the word counts for its weight
pub shifted_octet : (octet offset : ℕ) → octet < 2 ^ 8
    → octet * 2 ^ (8 * (3 - offset % 4)) % 2 ^ 32 ≡ octet * weight_of offset
shifted_octet octet offset fits =
    shl_whole octet 8 (8 * (3 - offset % 4)) 32 fits (omega arith)
    ∙ ap (λ n. octet * n) (shift_by_octets (3 - offset % 4) (omega arith))

-- the octet at an index weighs as its place in the word does
pub total_from_placed : (octets : List ℕ) (offset index total : ℕ) → index < length octets
    → ((total + get_or octets index 0 * weight_of ((offset + index) % 4)) % 2 ^ 32 + total_from (offset + (index + 1)) (drop (index + 1) octets)) % 2 ^ 32
    ≡ (total + total_from (offset + index) (drop index octets)) % 2 ^ 32
total_from_placed octets offset index total inside =
    let e : offset + (index + 1) ≡ offset + index + 1 = omega arith in
    rw (weight_of_place ((offset + index) % 4) (offset + index) refl, e) (total_from_next octets (offset + index) index total inside)

-- four offsets on, octets count the same
pub total_from_four : (offset : ℕ) (octets : List ℕ) → total_from (offset + 4) octets ≡ total_from offset octets
total_from_four offset [] = refl
total_from_four offset (octet ∷ octets) =
    let same : (offset + 4) % 4 ≡ offset % 4 = omega arith in
    let e : offset + 4 + 1 ≡ offset + 1 + 4 = omega arith in
    rw (e, total_from_four (offset + 1) octets, same) refl

-- octets count by their places in words
pub total_from_place : (offset : ℕ) (octets : List ℕ) → total_from (offset % 4) octets ≡ total_from offset octets
total_from_place offset [] = refl
total_from_place offset (octet ∷ octets) =
    let same : offset % 4 % 4 ≡ offset % 4 = omega arith in
    let next : (offset % 4 + 1) % 4 ≡ (offset + 1) % 4 = omega arith in
    rw (same, sym (total_from_place (offset % 4 + 1) octets), next, total_from_place (offset + 1) octets) refl

-- a whole word and what stands behind it
pub total_from_word : (a b c d : ℕ) (octets : List ℕ)
    → total_from 0 (a ∷ b ∷ c ∷ d ∷ octets) ≡ a * 256 ^ 3 + b * 256 ^ 2 + c * 256 + d + total_from 0 octets
total_from_word a b c d octets = rw (sym (total_from_four 0 octets)) (omega arith)

-- adding a word and then the rest is adding all
pub total_after_word : (a b c d total : ℕ) (octets : List ℕ)
    → ((total + (a * 256 ^ 3 + b * 256 ^ 2 + c * 256 + d)) % 2 ^ 32 + total_from 0 octets) % 2 ^ 32
    ≡ (total + total_from 0 (a ∷ b ∷ c ∷ d ∷ octets)) % 2 ^ 32
total_after_word a b c d total octets = rw (mod-add-mod, total_from_word a b c d octets) (ap (λ n. n % 2 ^ 32) (omega arith))

-- adding the word that starts at an index and then the rest is adding all that stands from there on
pub total_after_word_at : (octets : List ℕ) (index total : ℕ) → 4 * index + 4 ≤ length octets
    → ((total + (get_or octets (4 * index) 0 * 256 ^ 3 + get_or octets (4 * index + 1) 0 * 256 ^ 2 + get_or octets (4 * index + 2) 0 * 256 + get_or octets (4 * index + 3) 0)) % 2 ^ 32
    + total_from 0 (drop (4 * (index + 1)) octets)) % 2 ^ 32
    ≡ (total + total_from 0 (drop (4 * index) octets)) % 2 ^ 32
total_after_word_at octets index total inside =
    let second : 4 * index + 1 < length octets = omega arith in
    let third : 4 * index + 1 + 1 < length octets = omega arith in
    let fourth : 4 * index + 1 + 1 + 1 < length octets = omega arith in
    let first : 4 * index < length octets = omega arith in
    let e : 4 * (index + 1) ≡ 4 * index + 1 + 1 + 1 + 1 = omega arith in
    let two : 4 * index + 2 ≡ 4 * index + 1 + 1 = omega arith in
    let three : 4 * index + 3 ≡ 4 * index + 1 + 1 + 1 = omega arith in
    rw (
      e,
      two,
      three,
      drop_more octets (4 * index) 0 first,
      drop_more octets (4 * index + 1) 0 second,
      drop_more octets (4 * index + 1 + 1) 0 third,
      drop_more octets (4 * index + 1 + 1 + 1) 0 fourth,
    )
    (total_after_word (get_or octets (4 * index) 0) (get_or octets (4 * index + 1) 0) (get_or octets (4 * index + 1 + 1) 0) (get_or octets (4 * index + 1 + 1 + 1) 0) total (drop (4 * index + 1 + 1 + 1 + 1) octets))

-- adding the octets up to the next word and then the rest is adding all
pub sum_with_row : (word place lead : ℕ) (octets : List ℕ) → (place + lead) % 4 ≡ 0 → lead ≤ length octets
    → sum_with (sum_with word place (take lead octets)) 0 (drop lead octets) ≡ sum_with word place octets
sum_with_row word place lead octets whole within =
    let length_is : length (take lead octets) ≡ lead = length-take-le lead octets within in
    let all : take lead octets ++ drop lead octets ≡ octets = take-append-drop lead octets in
    let rest_is : total_from (place + lead) (drop lead octets) ≡ total_from 0 (drop lead octets) =
    sym (total_from_place (place + lead) (drop lead octets)) ∙ ap (λ n. total_from n (drop lead octets)) whole in
    let parts : total_from place octets ≡ total_from place (take lead octets) + total_from 0 (drop lead octets) =
    ap (λ l. total_from place l) (sym all) ∙ total_from-append place (take lead octets) (drop lead octets)
    ∙ ap (λ n. total_from place (take lead octets) + total_from (place + n) (drop lead octets)) length_is
    ∙ ap (λ n. total_from place (take lead octets) + n) rest_is in
    mod-add-mod (word + total_from place (take lead octets)) (2 ^ 32) (total_from 0 (drop lead octets))
    ∙ ap (λ n. n % 2 ^ 32) (omega arith)
