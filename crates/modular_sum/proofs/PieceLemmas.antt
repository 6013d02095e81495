-- Laws of the sums of octets at some offsets, for the layers above.
use Rattle.std.proofs.Common.{◌≡◌, ℕ, zero, suc, ◌+◌, ◌-◌, ◌%◌, ◌^◌, ◌<◌, ◌≤◌, ◌⊎◌, nat_le, if◌then◌else◌, List, [], ◌∷◌, length, get_or, take, refl, ap, sym, ◌∙◌, arith, add-zero, zero-add, ⊎_elim, Option, None, Some, slice_get, Bool, true, false}
use Rattle.std.proofs.Math.Nat.{mod-add-mod, mod-eq_of_lt}
use Rattle.std.proofs.lemmas.Nat.{mod_below}
use Rattle.std.proofs.lemmas.Bool.{le-leb, lt-leb, cases_lt}
use Rattle.std.proofs.lemmas.List.{take_more, take_all, length-take-le}
use Rattle.std.proofs.lemmas.Option.{slice_get_past, slice_get-get_or}
use Rattle.modular_sum.specs.Sum.{total_from, sum}
use Rattle.modular_sum.specs.Pieces.{Piece, octet_from, term_of, total_below, IsSumOf, Adds, sum_with, sum_after, ArePiecesOf, PiecesAddUp}
use Rattle.modular_sum.proofs.SumLemmas.{total_from-append}

-- octets that agree below a limit add the same
pub total_below-same : (octets others : ℕ → Option ℕ) (limit : ℕ) → ((i : ℕ) → i < limit → octets i ≡ others i)
    → total_below octets limit ≡ total_below others limit
unfolding total_below
total_below-same octets others zero same = refl
total_below-same octets others (suc limit) same =
    rw (total_below-same octets others limit (λ i below. same i (omega arith)), same limit (omega arith)) refl

-- where nothing stands nothing is added
pub total_below-none : (octets : ℕ → Option ℕ) (limit : ℕ) → ((i : ℕ) → i < limit → octets i ≡ None) → total_below octets limit ≡ 0
unfolding total_below
total_below-none octets zero none = refl
total_below-none octets (suc limit) none =
    rw (total_below-none octets limit (λ i below. none i (omega arith)), none limit (omega arith)) refl

-- what one offset adds, of both
term_of-added : (offset : ℕ) (old new both : Option ℕ) → ((new ≡ None) × (both ≡ old)) ⊎ ((old ≡ None) × (both ≡ new))
    → term_of offset both ≡ term_of offset old + term_of offset new
term_of-added offset old new both adds = ⊎_elim
    (λ (is : (new ≡ None) × (both ≡ old)). rw (is.0, is.1) (sym (add-zero (term_of offset old))))
    (λ (is : (old ≡ None) × (both ≡ new)). rw (is.0, is.1) (sym (zero-add (term_of offset new))))
    adds

-- octets at no offset of both add what each of them adds
pub total_below-added : (old new both : ℕ → Option ℕ) (limit : ℕ) → Adds old new both
    → total_below both limit ≡ total_below old limit + total_below new limit
unfolding total_below
total_below-added old new both zero adds = refl
total_below-added old new both (suc limit) adds =
    rw (total_below-added old new both limit adds, term_of-added limit (old limit) (new limit) (both limit) (adds limit)) (omega arith)

none_in_none : (test : Bool) → (if test then slice_get {X = ℕ} [] 0 else None) ≡ None
none_in_none true = refl
none_in_none false = refl

some_is_none : (octet : ℕ) → Some octet ≡ None → ⊥
some_is_none octet e = cc

-- the octet at an index of a list that stands at an offset
pub octet_from_at : (offset : ℕ) (octets : List ℕ) (index : ℕ) → octet_from offset octets (offset + index) ≡ slice_get octets index
octet_from_at offset octets index =
    let e : offset + index - offset ≡ index = omega arith in
    rw (le-leb offset (offset + index) (omega arith), e) refl

pub octet_from_before : (offset : ℕ) (octets : List ℕ) (i : ℕ) → i < offset → octet_from offset octets i ≡ None
octet_from_before offset octets i before = rw (lt-leb offset i before) refl

pub octet_from_after : (offset : ℕ) (octets : List ℕ) (i : ℕ) → offset + length octets ≤ i → octet_from offset octets i ≡ None
octet_from_after offset octets i after =
    rw (le-leb offset i (omega arith)) (slice_get_past octets (i - offset) (omega arith))

-- the first of the octets in a row
total_below-front : (offset : ℕ) (octets : List ℕ) (count : ℕ) → count ≤ length octets
    → total_below (octet_from offset octets) (offset + count) ≡ total_from offset (take count octets)
unfolding total_below
total_below-front offset octets zero within =
    rw add-zero (total_below-none (octet_from offset octets) offset (λ i below. octet_from_before offset octets i below))
total_below-front offset octets (suc count) within =
    let next : offset + suc count ≡ suc (offset + count) = omega arith in
    let e : suc count ≡ count + 1 = omega arith in
    let here : octet_from offset octets (offset + count) ≡ Some (get_or octets count 0) =
    octet_from_at offset octets count ∙ slice_get-get_or octets count 0 (omega arith) in
    let length_is : length (take count octets) ≡ count = length-take-le count octets (omega arith) in
    rw (
      next,
      here,
      total_below-front offset octets count (omega arith),
      e,
      take_more octets count 0 (omega arith),
      total_from-append offset (take count octets) (get_or octets count 0 ∷ []),
      length_is,
    )
    (omega arith)

-- offsets at which nothing stands add nothing
total_below-past : (octets : ℕ → Option ℕ) (low count : ℕ) → ((i : ℕ) → low ≤ i → octets i ≡ None)
    → total_below octets (low + count) ≡ total_below octets low
unfolding total_below
total_below-past octets low zero none = ap (λ n. total_below octets n) (add-zero low)
total_below-past octets low (suc count) none =
    let next : low + suc count ≡ suc (low + count) = omega arith in
    rw (next, none (low + count) (omega arith), total_below-past octets low count none) (add-zero (total_below octets low))

-- octets in a row, below any limit that they don't reach, add what they count for there
pub total_below-row : (offset : ℕ) (octets : List ℕ) (limit : ℕ) → offset + length octets ≤ limit
    → total_below (octet_from offset octets) limit ≡ total_from offset octets
total_below-row offset octets limit above =
    let end : offset + length octets + (limit - (offset + length octets)) ≡ limit = omega arith in
    ap (λ n. total_below (octet_from offset octets) n) (sym end)
    ∙ total_below-past (octet_from offset octets) (offset + length octets) (limit - (offset + length octets))
    (λ i from. octet_from_after offset octets i from)
    ∙ total_below-front offset octets (length octets) (omega arith)
    ∙ ap (λ l. total_from offset l) (take_all (length octets) octets (omega arith))

-- octets in a row of which none stands at or above the limit add what they count for there
pub total_below-reached : (offset : ℕ) (octets : List ℕ) (limit : ℕ) → ((i : ℕ) → limit ≤ i → octet_from offset octets i ≡ None)
    → total_below (octet_from offset octets) limit ≡ total_from offset octets
total_below-reached offset [] limit none =
    total_below-none (octet_from offset []) limit (λ i below. none_in_none (nat_le offset i))
total_below-reached offset (octet ∷ octets) limit none = ⊎_elim
    (λ (less : limit < offset + length (octet ∷ octets)).
    let last : octet_from offset (octet ∷ octets) (offset + length octets) ≡ Some (get_or (octet ∷ octets) (length octets) 0) =
    octet_from_at offset (octet ∷ octets) (length octets) ∙ slice_get-get_or (octet ∷ octets) (length octets) 0 (omega arith) in
    let past : octet_from offset (octet ∷ octets) (offset + length octets) ≡ None = none (offset + length octets) (omega arith) in
    absurd (some_is_none _ (sym last ∙ past)))
    (λ (above : offset + length (octet ∷ octets) ≤ limit). total_below-row offset (octet ∷ octets) limit above)
    (cases_lt limit (offset + length (octet ∷ octets)))

-- no octets have the sum 0
pub IsSumOf-none : (octets : ℕ → Option ℕ) → ((i : ℕ) → octets i ≡ None) → IsSumOf octets 0
IsSumOf-none octets none limit past = rw (total_below-none octets limit (λ i below. none i)) refl

-- octets that agree have the same sum
pub IsSumOf-same : (octets others : ℕ → Option ℕ) (word : ℕ) → ((i : ℕ) → octets i ≡ others i) → IsSumOf octets word → IsSumOf others word
IsSumOf-same octets others word same is limit past =
    is limit (λ i from. same i ∙ past i from) ∙ ap (λ n. n % 2 ^ 32) (total_below-same octets others limit (λ i below. same i))

-- what is left out of both has nothing where both have nothing
none_of_old : (old new both : Option ℕ) → ((new ≡ None) × (both ≡ old)) ⊎ ((old ≡ None) × (both ≡ new)) → both ≡ None → old ≡ None
none_of_old old new both adds none = ⊎_elim
    (λ (is : (new ≡ None) × (both ≡ old)). sym is.1 ∙ none)
    (λ (is : (old ≡ None) × (both ≡ new)). is.0)
    adds

none_of_new : (old new both : Option ℕ) → ((new ≡ None) × (both ≡ old)) ⊎ ((old ≡ None) × (both ≡ new)) → both ≡ None → new ≡ None
none_of_new old new both adds none = ⊎_elim
    (λ (is : (new ≡ None) × (both ≡ old)). is.0)
    (λ (is : (old ≡ None) × (both ≡ new)). sym is.1 ∙ none)
    adds

-- octets in a row at offsets where nothing stood are added to the sum
pub IsSumOf-added : (old both : ℕ → Option ℕ) (word offset : ℕ) (octets : List ℕ) → IsSumOf old word
    → Adds old (octet_from offset octets) both → IsSumOf both (sum_with word offset octets)
IsSumOf-added old both word offset octets is adds limit past =
    let new : ℕ → Option ℕ = octet_from offset octets in
    let of_old : word ≡ total_below old limit % 2 ^ 32 = is limit (λ i from. none_of_old (old i) (new i) (both i) (adds i) (past i from)) in
    let of_new : total_below new limit ≡ total_from offset octets =
    total_below-reached offset octets limit (λ i from. none_of_new (old i) (new i) (both i) (adds i) (past i from)) in
    ap (λ n. (n + total_from offset octets) % 2 ^ 32) of_old
    ∙ mod-add-mod (total_below old limit) (2 ^ 32) (total_from offset octets)
    ∙ ap (λ n. (total_below old limit + n) % 2 ^ 32) (sym of_new)
    ∙ ap (λ n. n % 2 ^ 32) (sym (total_below-added old new both limit adds))

-- the octets of a whole file
octet_from-first : (file : List ℕ) (i : ℕ) → octet_from 0 file i ≡ slice_get file i
octet_from-first file i = let e : i - 0 ≡ i = omega arith in rw (le-leb 0 i (omega arith), e) refl

total_below-file : (file : List ℕ) → total_below (slice_get file) (length file) ≡ total_from 0 file
total_below-file file =
    total_below-same (slice_get file) (octet_from 0 file) (length file) (λ i below. sym (octet_from-first file i))
    ∙ total_below-row 0 file (length file) (omega arith)

-- the octets of a whole file add up to its sum
pub IsSumOf-whole : (octets : ℕ → Option ℕ) (file : List ℕ) (word : ℕ) → ((i : ℕ) → octets i ≡ slice_get file i)
    → IsSumOf octets word → word ≡ sum file
IsSumOf-whole octets file word same is =
    is (length file) (λ i from. same i ∙ slice_get_past file i from)
    ∙ ap (λ n. n % 2 ^ 32) (total_below-same octets (slice_get file) (length file) (λ i below. same i) ∙ total_below-file file)

-- the octets add up to the sum of a file where each below its size is there, and none at or above it
pub IsSumOf-full : (octets : ℕ → Option ℕ) (file : List ℕ) (word : ℕ) → ((i : ℕ) → i < length file → octets i ≡ Some (get_or file i 0))
    → ((i : ℕ) → length file ≤ i → octets i ≡ None) → IsSumOf octets word → word ≡ sum file
IsSumOf-full octets file word inside none is =
    IsSumOf-whole octets file word
    (λ i. ⊎_elim
    (λ (below : i < length file). inside i below ∙ sym (slice_get-get_or file i 0 below))
    (λ (past : length file ≤ i). none i past ∙ sym (slice_get_past file i past))
    (cases_lt i (length file)))
    is

-- a sum after more octets has 32 bits
pub sum_with-below : (word offset : ℕ) (octets : List ℕ) → sum_with word offset octets < 2 ^ 32
sum_with-below word offset octets = mod_below (word + total_from offset octets) (2 ^ 32) (omega arith)

-- pieces of octets at some offsets add what these do below any limit that none of them reaches
pub sum_after-pieces : (pieces : List Piece) (file : ℕ → Option ℕ) (word limit : ℕ) → word < 2 ^ 32 → ArePiecesOf file pieces
    → ((i : ℕ) → limit ≤ i → file i ≡ None) → sum_after word pieces ≡ (word + total_below file limit) % 2 ^ 32
sum_after-pieces [] file word limit fits none past =
    rw (total_below-none file limit (λ i below. none i), add-zero word) (sym (mod-eq_of_lt fits))
sum_after-pieces (piece ∷ pieces) file word limit fits (rest, adds, others) past =
    let new : ℕ → Option ℕ = octet_from piece.offset piece.octets in
    let of_new : total_below new limit ≡ total_from piece.offset piece.octets =
    total_below-reached piece.offset piece.octets limit (λ i from. none_of_new (rest i) (new i) (file i) (adds i) (past i from)) in
    let later = sum_after-pieces pieces rest (sum_with word piece.offset piece.octets) limit
    (sum_with-below word piece.offset piece.octets) others (λ i from. none_of_old (rest i) (new i) (file i) (adds i) (past i from)) in
    let whole : word + total_from piece.offset piece.octets + total_below rest limit ≡ word + total_below file limit =
    omega (arith, total_below-added rest new file limit adds, of_new) in
    later
    ∙ mod-add-mod (word + total_from piece.offset piece.octets) (2 ^ 32) (total_below rest limit)
    ∙ ap (λ n. n % 2 ^ 32) whole

-- pieces that don't overlap add up to the sum of the whole file
pub pieces_add_up : PiecesAddUp
pieces_add_up file pieces are =
    sum_after-pieces pieces (slice_get file) 0 (length file) (omega arith) are (λ i past. slice_get_past file i past)
    ∙ ap (λ n. n % 2 ^ 32) (zero-add (total_below (slice_get file) (length file)) ∙ total_below-file file)
