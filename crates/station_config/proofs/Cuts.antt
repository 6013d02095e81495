-- A file's path is cut at its last slash.
use Rattle.std.proofs.Common.{subst, ◌≡◌, ◌≢◌, ℕ, ◌+◌, ◌-◌, ◌<◌, Bool, true, false, not, List, length, take, drop, get_or, None, Some, sym, ap, ◌∙◌, arith, ne_eqb, eq-eqb, eqb-true, ◌==◌}
use Rattle.std.specs.List.{suffix_len, before_last}
use Rattle.std.specs.Str.{IsCharBoundary}
use Rattle.std.specs.Str.Pattern.{RFindsChar, SplitsAroundMatch}
use Rattle.std.proofs.lemmas.List.Sums.{suffix_len_is}
use Rattle.std.proofs.lemmas.Str.{IsCharBoundary-before_ascii, len_utf8_ascii}
use Rattle.std.proofs.lemmas.Str.Pattern.{rfind_char}
use Rattle.station_config.specs.Station.{is_bare, is_slash}

-- how much stands behind the last slash, which is at k
last_at : (path : List ℕ) (k : ℕ) → k < length path → get_or path k 0 ≡ 47 → ((i : ℕ) → k < i → i < length path → get_or path i 0 ≢ 47)
    → suffix_len (λ octet. not (is_slash octet)) path ≡ length path - (k + 1)
last_at path k inside slash none =
    suffix_len_is (λ octet. not (is_slash octet)) path (k + 1) 0 (omega arith)
    (λ i from to. ap not (ne_eqb _ _ (none i (omega arith) to)))
    (λ _. ap (λ n. not (is_slash (get_or path n 0))) (omega arith) ∙ ap not (eq-eqb _ _ slash))

-- all of it, where there is no slash
no_slash : (path : List ℕ) → ((i : ℕ) → i < length path → get_or path i 0 ≢ 47) → suffix_len (λ octet. not (is_slash octet)) path ≡ length path
no_slash path none =
    suffix_len_is (λ octet. not (is_slash octet)) path 0 0 (omega arith) (λ i _ to. ap not (ne_eqb _ _ (none i to))) (λ some. absurd (omega arith)) ∙ omega arith

-- what `rsplit_once` answers, where there is a slash
pub parted : (path front back : List ℕ) → SplitsAroundMatch (RFindsChar 47) path front back → (front ≡ before_last is_slash path) × (is_bare path ≡ false)
parted path front back h =
    let ends : h.1 ≡ h.0 + 1 = h.2.1.ends ∙ ap (λ n. h.0 + n) (len_utf8_ascii 47 (omega arith)) in
    let inside : h.0 < length path = omega (arith, h.7) in
    let slash : get_or path h.0 0 ≡ 47 = h.2.1.byte (omega arith) in
    let before : IsCharBoundary path h.0 = IsCharBoundary-before_ascii path h.0 inside (omega (arith, slash)) in
    let after : IsCharBoundary path h.1 = subst (λ (n : ℕ). IsCharBoundary path n) (sym h.2.1.ends) h.2.1.after in
    let last = rfind_char 47 path (Some h.0) (h.1, h.2, h.5, before, after) (omega arith) in
    let rest : suffix_len (λ octet. not (is_slash octet)) path ≡ length path - (h.0 + 1) = last_at path h.0 inside slash last.2 in
    (h.3 ∙ ap (λ n. take n path) (omega (arith, rest)), ne_eqb _ _ (λ same. absurd (omega (arith, same, rest, inside))))

-- and where there is none
pub whole : (path : List ℕ) → RFindsChar 47 path None → is_bare path ≡ true
whole path h = eq-eqb _ _ (no_slash path (rfind_char 47 path None h (omega arith)))
