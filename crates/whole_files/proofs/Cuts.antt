-- A path is cut at a slash.
use Rattle.std.proofs.Common.{subst, ◌≡◌, ◌≢◌, ℕ, ◌+◌, ◌-◌, ◌<◌, true, not, List, [], length, take, drop, get_or, Option, Some, None, Bor, IsUtf8, cond, sym, ap, ◌∙◌, arith, ne_eqb, eq-eqb, eqb-true, option_copied}
use Rattle.std.specs.List.{suffix_len, before_last, after_last}
use Rattle.std.specs.Str.{IsCharBoundary}
use Rattle.std.specs.Str.Pattern.{RFindsChar, SplitsAroundMatch, GetsRange}
use Rattle.std.proofs.lemmas.List.Sums.{suffix_len_is}
use Rattle.std.proofs.lemmas.Str.{IsCharBoundary-start, IsCharBoundary-before_ascii, len_utf8_ascii}
use Rattle.std.proofs.lemmas.Str.Pattern.{rfind_char}
use Rattle.disk.specs.Steps.{is_slash}
use Rattle.whole_files.specs.Wholes.{folder_at}

-- how much stands behind the last slash, which is at k
last_at : (path : List ℕ) (k : ℕ) → k < length path → get_or path k 0 ≡ 47 → ((i : ℕ) → k < i → i < length path → get_or path i 0 ≢ 47)
    → suffix_len (λ octet. not (is_slash octet)) path ≡ length path - (k + 1)
last_at path k inside slash none =
    suffix_len_is (λ octet. not (is_slash octet)) path (k + 1) 0 (omega arith)
    (λ i from to. ap not (ne_eqb _ _ (none i (omega arith) to)))
    (λ _. ap (λ n. not (is_slash (get_or path n 0))) (omega arith) ∙ ap not (eq-eqb _ _ slash))

-- all of it, where there is no slash
no_slash : (path : List ℕ) → ((i : ℕ) → i < length path → get_or path i 0 ≢ 47) → suffix_len (λ octet. not (is_slash octet)) path ≡ length path
no_slash path none =
    suffix_len_is (λ octet. not (is_slash octet)) path 0 0 (omega arith) (λ i _ to. ap not (ne_eqb _ _ (none i to))) (λ some. absurd (omega arith)) ∙ omega arith

-- what `rsplit_once` answers, where there is a slash
pub parted : (path front back : List ℕ) → SplitsAroundMatch (RFindsChar 47) path front back → (front ≡ before_last is_slash path) × (back ≡ after_last is_slash path)
parted path front back h =
    let ends : h.1 ≡ h.0 + 1 = h.2.1.ends ∙ ap (λ n. h.0 + n) (len_utf8_ascii 47 (omega arith)) in
    let inside : h.0 < length path = omega (arith, h.7) in
    let slash : get_or path h.0 0 ≡ 47 = h.2.1.byte (omega arith) in
    let before : IsCharBoundary path h.0 = IsCharBoundary-before_ascii path h.0 inside (omega (arith, slash)) in
    let after : IsCharBoundary path h.1 = subst (λ (n : ℕ). IsCharBoundary path n) (sym h.2.1.ends) h.2.1.after in
    let last = rfind_char 47 path (Some h.0) (h.1, h.2, h.5, before, after) (omega arith) in
    let rest : suffix_len (λ octet. not (is_slash octet)) path ≡ length path - (h.0 + 1) = last_at path h.0 inside slash last.2 in
    (h.3 ∙ ap (λ n. take n path) (omega (arith, rest)), h.4 ∙ ap (λ n. drop n path) (omega (arith, rest)))

-- and where there is none
pub whole : (path : List ℕ) → RFindsChar 47 path None → ([] ≡ before_last is_slash path) × (path ≡ after_last is_slash path)
whole path h =
    let rest : suffix_len (λ octet. not (is_slash octet)) path ≡ length path = no_slash path (rfind_char 47 path None h (omega arith)) in
    let none : 0 ≡ length path - suffix_len (λ octet. not (is_slash octet)) path - 1 = omega (arith, rest) in
    let start : 0 ≡ length path - suffix_len (λ octet. not (is_slash octet)) path = omega (arith, rest) in
    (ap (λ n. take n path) none, ap (λ n. drop n path) start)

-- what `get` answers, up to a slash
gets : (path : List ℕ) (k : ℕ) (r : Option (Bor (List ℕ))) → IsUtf8 path → k < length path → get_or path k 0 ≡ 47 → GetsRange path 0 k r → option_copied r ≡ Some (take k path)
gets path k None text inside slash h = absurd (h (omega arith) (IsCharBoundary-start path text) (IsCharBoundary-before_ascii path k inside (omega (arith, slash))))
gets path k (Some x) text inside slash h = ap Some (h.0 ∙ ap (λ n. take n path) (omega arith))

pub cut_at : (path : List ℕ) (k : ℕ) (r : Option (Bor (List ℕ))) → IsUtf8 path → k < length path → is_slash (get_or path k 0) ≡ true → GetsRange path 0 k r → option_copied r ≡ folder_at path k
cut_at path k r text inside slash h =
    gets path k r text inside (eqb-true _ _ slash) h ∙ ap (λ b. cond b (Some (take k path)) None) (sym slash)
