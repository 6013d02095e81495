-- The users of a configuration come back from their names.
use Rattle.std.proofs.Common.{◌≡◌, ℕ, zero, suc, ◌+◌, ◌<◌, ◌≤◌, ◌==◌, ◌&&◌, ◌||◌, Bool, true, false, not, cond, nat_le, nat_lt, if◌then◌else◌, List, [], ◌∷◌, length, map, slice_get, Option, Some, None, refl, sym, ap, ◌∙◌, subst, arith}
use Rattle.std.specs.List.{list_all, list_any, position, position_or_len}
use Rattle.std.specs.Cmp.{IsEquivalence}
use Rattle.std.proofs.lemmas.Bool.{and_parts, leb-true, lt-ltb, ne_eqb}
use Rattle.std.proofs.lemmas.Cmp.{nat_list_eq_equiv}
use Rattle.std.proofs.lemmas.Option.{slice_get_within}
use Rattle.config_reading.specs.Texts.{is_name_octet, is_same_text, is_user_name, is_within}
use Rattle.config_reading.specs.Values.{ConfigValue, are_distinct, are_of, are_routes, are_users, is_config, is_entity, route_of}
use Rattle.cfdp_types.specs.declared.limits.TheConstants.{USERS, USER_NAME_OCTETS}
use Rattle.line_words.specs.Operands.{name_of}
use Rattle.line_words.specs.Places.{user_of}
use Rattle.journal_scripts.specs.Laws.{IsUser}
use Rattle.journal_scripts.proofs.WordFacts.{is_solid}

-- ---- which of the names is found

same_any : (name x : List ℕ) (xs : List (List ℕ)) (user : ℕ) → slice_get xs user ≡ Some name → list_any (is_same_text x) xs ≡ false → is_same_text x name ≡ false
same_any name x [] user there none = absurd cc
same_any name x (y ∷ ys) zero there none =
    let same : y ≡ name = cc in subst (λ n. is_same_text x n ≡ false) same (left_false (is_same_text x y) (list_any (is_same_text x) ys) none)
  where
    left_false : (a b : Bool) → (a || b) ≡ false → a ≡ false
    left_false false b is = refl
    left_false true b is = absurd cc
same_any name x (y ∷ ys) (suc user) there none = same_any name x ys user there (right_false (is_same_text x y) (list_any (is_same_text x) ys) none)
  where
    right_false : (a b : Bool) → (a || b) ≡ false → b ≡ false
    right_false false b is = is
    right_false true b is = absurd cc

not_true : (b : Bool) → not b ≡ true → b ≡ false
not_true true is = absurd cc
not_true false is = refl

first_at : (users : List (List ℕ)) (user : ℕ) (name : List ℕ) → are_distinct is_same_text users ≡ true → slice_get users user ≡ Some name
    → position_or_len (is_same_text name) users ≡ user
first_at [] user name distinct there = absurd cc
first_at (x ∷ xs) zero name distinct there =
    let same : x ≡ name = cc in
    let yes : is_same_text name x ≡ true = subst (λ n. is_same_text n x ≡ true) same (nat_list_eq_equiv.refl x) in
    rw yes refl
first_at (x ∷ xs) (suc user) name distinct there =
    let both = and_parts (not (list_any (is_same_text x) xs)) (are_distinct is_same_text xs) distinct in
    let other : is_same_text name x ≡ false =
    nat_list_eq_equiv.symm name x ∙ same_any name x xs user there (not_true (list_any (is_same_text x) xs) both.0) in
    rw (other, first_at xs user name both.1 there) (omega arith)

-- ---- names of users

within_plain : (least most octet : ℕ) → 32 < least → most < 128 → is_within least most octet ≡ true → (nat_lt octet 128 ≡ true) × (not (octet == 32) ≡ true)
within_plain least most octet low high is =
    let both = and_parts (nat_le least octet) (nat_le octet most) is in
    let above : least ≤ octet = leb-true least octet both.0 in
    let below : octet ≤ most = leb-true octet most both.1 in
    let other : (octet == 32) ≡ false = ne_eqb octet 32 (λ same. omega (arith, same)) in
    (lt-ltb octet 128 (omega arith), rw (other) refl)

octet_plain : (octet : ℕ) → is_name_octet octet ≡ true → (nat_lt octet 128 ≡ true) × (not (octet == 32) ≡ true)
octet_plain octet is = by (is_within 97 122 octet) (is_within 48 57 octet) refl refl is
  where
    by : (letter digit : Bool) → is_within 97 122 octet ≡ letter → is_within 48 57 octet ≡ digit → (letter || digit) ≡ true
        → (nat_lt octet 128 ≡ true) × (not (octet == 32) ≡ true)
    by true digit letter_is digit_is some = within_plain 97 122 octet (omega arith) (omega arith) letter_is
    by false true letter_is digit_is some = within_plain 48 57 octet (omega arith) (omega arith) digit_is
    by false false letter_is digit_is some = absurd cc

plain : (name : List ℕ) → list_all is_name_octet name ≡ true → (list_all (λ octet. nat_lt octet 128) name ≡ true) × (is_solid name ≡ true)
plain [] all = (refl, refl)
plain (octet ∷ octets) all =
    let both = and_parts (is_name_octet octet) (list_all is_name_octet octets) all in
    let here = octet_plain octet both.0 in
    let rest = plain octets both.1 in
    (rw (here.0) rest.0, rw (here.1) rest.1)

name_there : (users : List (List ℕ)) (user : ℕ) (name : List ℕ) → list_all is_user_name users ≡ true → slice_get users user ≡ Some name → is_user_name name ≡ true
name_there [] user name all there = absurd cc
name_there (x ∷ xs) zero name all there = let same : x ≡ name = cc in subst (λ n. is_user_name n ≡ true) same (and_parts (is_user_name x) (list_all is_user_name xs) all).0
name_there (x ∷ xs) (suc user) name all there = name_there xs user name (and_parts (is_user_name x) (list_all is_user_name xs) all).1 there

first_three : (a b c d : Bool) → (a && b && c && d) ≡ true → b ≡ true
first_three a b c d all = (and_parts a b (and_parts (a && b) c (and_parts (a && b && c) d all).0).0).1

users_of : (config : ConfigValue) → is_config config ≡ true → are_users config.users ≡ true
users_of config kept =
    first_three (is_entity config.entity) (are_users config.users) (are_routes config.entity (length config.users) (map route_of config.peers))
    (list_all (λ peer. are_of config.entity peer.remote.params) config.peers) kept

name_plain : (config : ConfigValue) (user : ℕ) (name : List ℕ) → IsUser config user name
    → (list_all (λ octet. nat_lt octet 128) name ≡ true) × (is_solid name ≡ true)
name_plain config user name is =
    let few = is_within 1 USERS (length config.users) in
    let both = and_parts (few && list_all is_user_name config.users) (are_distinct is_same_text config.users) (users_of config is.kept) in
    let named = name_there config.users user name (and_parts few (list_all is_user_name config.users) both.0).1 is.named in
    plain name (and_parts (is_within 1 USER_NAME_OCTETS (length name)) (list_all is_name_octet name) named).1

pub name_solid : (config : ConfigValue) (user : ℕ) (name : List ℕ) → IsUser config user name → is_solid name ≡ true
name_solid config user name is = (name_plain config user name is).1

pub user_back : (config : ConfigValue) (user : ℕ) (name : List ℕ) → IsUser config user name → user_of config name ≡ Some user
user_back config user name is =
    let few = is_within 1 USERS (length config.users) in
    let distinct = (and_parts (few && list_all is_user_name config.users) (are_distinct is_same_text config.users) (users_of config is.kept)).1 in
    let found : position_or_len (is_same_text name) config.users ≡ user = first_at config.users user name distinct is.named in
    let ascii = (name_plain config user name is).0 in
    let there : nat_lt user (length config.users) ≡ true = lt-ltb user (length config.users) (slice_get_within config.users user name is.named) in
    rw (ascii, found, there) refl
