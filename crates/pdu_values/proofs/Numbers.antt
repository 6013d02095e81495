-- Numbers as octets: what is spelled is read, and what is read is spelled so.
use Rattle.std.proofs.Common.{◌≡◌, ℕ, zero, suc, ◌+◌, ◌*◌, ◌%◌, ◌^◌, ◌<◌, ◌≤◌, List, [], ◌∷◌, ◌++◌, length, get_or, drop, refl, sym, ap, ◌∙◌, arith, length-drop, drop-cons, add-one}
use Rattle.std.proofs.Math.Nat.{pow-suc, le-mul_of_pos_right, pow-le-pow_right}
use Rattle.std.proofs.lemmas.List.{nil_from_length}
use Rattle.std.proofs.lemmas.Nat.{div-add-mod', div-mul-add, mod-mul-add, mul-add-lt, mod_below}
use Rattle.pdu_values.specs.Numbers.{number_of, digits}

-- each is below 256
abbrev pub IsOctets : List ℕ → Type 0
IsOctets [] = Unit {0}
IsOctets (octet ∷ octets) = (octet < 256) × IsOctets octets

pub IsOctets-at_each : (octets : List ℕ) → ((i : ℕ) → get_or octets i 0 < 256) → IsOctets octets
IsOctets-at_each [] each = tt
IsOctets-at_each (octet ∷ octets) each = (each 0, IsOctets-at_each octets (λ i. each (suc i)))

pub IsOctets-append : (front back : List ℕ) → IsOctets (front ++ back) → IsOctets front × IsOctets back
IsOctets-append [] back h = (tt, h)
IsOctets-append (octet ∷ front) back h =
    let both = IsOctets-append front back h.1 in
    ((h.0, both.0), both.1)

pub pow_256_pos : (k : ℕ) → 0 < 256 ^ k
pow_256_pos zero = omega arith
pow_256_pos (suc k) = omega (arith, pow_256_pos k, pow-suc 256 k)

pub length-digits : (width n : ℕ) → length (digits width n) ≡ width
unfolding digits
length-digits zero n = refl
length-digits (suc width) n = ap suc (length-digits width (n % 256 ^ width))

pub number_of-below : (octets : List ℕ) → IsOctets octets → number_of octets < 256 ^ length octets
unfolding number_of
number_of-below [] h = omega arith
number_of-below (octet ∷ octets) h =
    omega (arith, mul-add-lt octet (256 ^ length octets) (number_of octets) 256 h.0 (number_of-below octets h.1), pow-suc 256 (length octets))

pub number_of-digits : (width n : ℕ) → n < 256 ^ width → number_of (digits width n) ≡ n
unfolding number_of digits
number_of-digits zero n lt = omega arith
number_of-digits (suc width) n lt =
    rw (length-digits width (n % 256 ^ width), number_of-digits width (n % 256 ^ width) (mod_below n (256 ^ width) (pow_256_pos width))) (div-add-mod' n (256 ^ width))

pub digits-number_of : (octets : List ℕ) → IsOctets octets → digits (length octets) (number_of octets) ≡ octets
unfolding number_of digits
digits-number_of [] h = refl
digits-number_of (octet ∷ octets) h =
    let below = number_of-below octets h.1 in
    rw (div-mul-add octet (256 ^ length octets) (number_of octets) below, mod-mul-add octet (256 ^ length octets) (number_of octets) below, digits-number_of octets h.1) refl

-- ---- reading a number octet by octet

one_more : (n octet power rest : ℕ) → n * (power * 256) + (octet * power + rest) ≡ (n * 256 + octet) * power + rest
one_more n octet power rest = omega arith

number_of-front : (n octet : ℕ) (octets : List ℕ) → n * 256 ^ length (octet ∷ octets) + number_of (octet ∷ octets) ≡ (n * 256 + octet) * 256 ^ length octets + number_of octets
unfolding number_of
number_of-front n octet octets =
    ap (λ (power : ℕ). n * power + (octet * 256 ^ length octets + number_of octets)) (pow-suc 256 (length octets)) ∙ one_more n octet (256 ^ length octets) (number_of octets)

pub number_goes_on : (octets : List ℕ) (n i : ℕ) → i < length octets → n * 256 ^ length (drop i octets) + number_of (drop i octets) ≡ number_of octets
    → (n * 256 + get_or octets i 0) * 256 ^ length (drop (i + 1) octets) + number_of (drop (i + 1) octets) ≡ number_of octets
number_goes_on octets n i lt so_far =
    let front : drop i octets ≡ get_or octets i 0 ∷ drop (i + 1) octets = rw add-one (drop-cons octets i 0 lt) in
    sym (number_of-front n (get_or octets i 0) (drop (i + 1) octets)) ∙ ap (λ (os : List ℕ). n * 256 ^ length os + number_of os) (sym front) ∙ so_far

pub number_in_range : (octets : List ℕ) (n k r : ℕ) → IsOctets octets → length octets ≤ 8 → n * 256 ^ k + r ≡ number_of octets → n < 2 ^ 64
number_in_range octets n k r h short e =
    let most : 256 ^ length octets ≤ 256 ^ 8 = pow-le-pow_right (omega arith) short in
    omega (arith, number_of-below octets h, le-mul_of_pos_right n (pow_256_pos k))

pub number_is_read : (octets : List ℕ) (n i : ℕ) → length octets ≤ i → n * 256 ^ length (drop i octets) + number_of (drop i octets) ≡ number_of octets → n ≡ number_of octets
unfolding number_of
number_is_read octets n i le so_far =
    let nothing : drop i octets ≡ [] = nil_from_length (drop i octets) (omega (arith, length-drop i octets)) in
    let last : n * 256 ^ 0 + 0 ≡ number_of octets = ap (λ (os : List ℕ). n * 256 ^ length os + number_of os) (sym nothing) ∙ so_far in
    omega (arith, last)
