-- What is read keeps its limits: numbers, names, the entity itself and its users.
use Rattle.std.proofs.Common.{◌≡◌, ℕ, ◌+◌, ℤ, pos, negsuc, Bool, true, false, cond, not, nat_le, IsTrue, List, [], ◌∷◌, ◌++◌, length, length-append, Option, Some, None, Ok, Err, IfOk, refl, ◌∙◌, arith}
use Rattle.std.specs.Cmp.Derive.{both_true}
use Rattle.std.specs.List.{list_all, list_any}
use Rattle.std.proofs.lemmas.Bool.{and_parts, not-true}
use Rattle.std.proofs.lemmas.Bool.Decides.{nat_tests}
use Rattle.toml.specs.Data.{Data, Members, as_integer}
use Rattle.cfdp_types.specs.declared.limits.TheConstants.{CONFIGURED_NUMBER, ID_OCTETS, QUEUE_BUNDLES, RECEIVING_LANES, SEGMENT_OCTETS_LEAST, SEGMENT_OCTETS_MOST, SENDING_LANES}
use Rattle.config_reading.specs.declared.entity.EntitySettings.{EntitySettings}
use Rattle.config_reading.specs.declared.fault.ConfigFault.{ConfigFault}
use Rattle.config_reading.specs.declared.fault.ConfigFault.TheVariants as fault
use Rattle.config_reading.specs.declared.fault.Key.{Key}
use Rattle.config_reading.specs.declared.fault.Key.TheVariants as key
use Rattle.config_reading.specs.Texts.{is_same_text, is_user_name, is_within}
use Rattle.config_reading.specs.Values.{are_distinct, is_entity, is_id}
use Rattle.config_reading.specs.Walk.{Read, and_then, counted, entity_in, entity_keys, greatest_id, has_only, name_of, number_at, number_from, number_of, required, tables_of, text_of, unless, user_in, users_in, value_at}
use Rattle.config_reading.proofs.Distinct.{are_distinct-last, list_all-last, list_any-swap}
use Rattle.config_reading.proofs.Numbers.{power_some}

-- what holds of all that is read in steps
pub ok_then : {A B : Type 0} (r : Read A) (next : A → Read B) (P : A → Type 0) (Q : B → Type 0) → IfOk r P → ((x : A) → P x → IfOk (next x) Q) → IfOk (and_then r next) Q
ok_then (Ok x) next P Q holds more = more x holds
ok_then (Err f) next P Q holds more = tt

pub ok_always : {A B : Type 0} (r : Read A) (next : A → Read B) (Q : B → Type 0) → ((x : A) → IfOk (next x) Q) → IfOk (and_then r next) Q
ok_always (Ok x) next Q more = more x
ok_always (Err f) next Q more = tt

pub ok_unless : {A : Type 0} (b : Bool) (f : ConfigFault) (r : Read A) (Q : A → Type 0) → (b ≡ true → IfOk r Q) → IfOk (unless b f r) Q
ok_unless true f r Q more = more refl
ok_unless false f r Q more = tt

ok_if : (b : Bool) (n : ℕ) (f : ConfigFault) (Q : ℕ → Type 0) → (b ≡ true → Q n) → IfOk (cond b (Ok n) (Err f)) Q
ok_if true n f Q more = more refl
ok_if false n f Q more = tt

pub ok_required : {A : Type 0} (k : Key) (read : Data → Read A) (Q : A → Type 0) (d : Option Data) → ((x : Data) → IfOk (read x) Q) → IfOk (required k read d) Q
ok_required k read Q None holds = tt
ok_required k read Q (Some d) holds = holds d

number_from-within : (k : Key) (least most : ℕ) (z : Option ℤ) → IfOk (number_from k least most z) (λ n. is_within least most n ≡ true)
number_from-within k least most None = tt
number_from-within k least most (Some (pos n)) = ok_if (is_within least most n) n (fault.OutOfRange k) (λ m. is_within least most m ≡ true) (λ e. e)
number_from-within k least most (Some (negsuc n)) = tt

-- a number is in its range
pub ok_number : {A : Type 0} (k : Key) (least most : ℕ) (ms : Members) (next : ℕ → Read A) (Q : A → Type 0) → ((n : ℕ) → is_within least most n ≡ true → IfOk (next n) Q)
    → IfOk (and_then (number_at k least most ms) next) Q
ok_number k least most ms next Q more =
    let P : ℕ → Type 0 = λ n. is_within least most n ≡ true in
    ok_then (number_at k least most ms) next P Q (ok_required k (number_of k least most) P (value_at k ms) (λ d. number_from-within k least most (as_integer d))) more

-- an ID up to the greatest one
pub id_fits : (octets id : ℕ) → nat_le id (greatest_id octets) ≡ true → is_id octets id ≡ true
id_fits octets id fits =
    let some = power_some octets in
    grind (arith, nat_tests)

pub entity_in-limits : (ms : Members) → IfOk (entity_in ms) (λ entity. IsTrue (is_entity entity))
entity_in-limits ms =
    let Q : EntitySettings → Type 0 = λ entity. IsTrue (is_entity entity) in
    ok_unless (has_only entity_keys ms) _ _ Q (λ known.
    ok_number key.Id 0 CONFIGURED_NUMBER ms _ Q (λ id id_within.
    ok_number key.IdOctets 1 ID_OCTETS ms _ Q (λ octets octets_within.
    ok_unless (nat_le id (greatest_id octets)) _ _ Q (λ fits.
    ok_number key.SequenceOctets 1 ID_OCTETS ms _ Q (λ sequence sequence_within.
    ok_number key.First 0 CONFIGURED_NUMBER ms _ Q (λ first first_within.
    ok_number key.PutLanes 1 SENDING_LANES ms _ Q (λ put_lanes put_lanes_within.
    ok_number key.ReceiveLanes 1 RECEIVING_LANES ms _ Q (λ receive_lanes receive_lanes_within.
    ok_number key.Capacity 1 QUEUE_BUNDLES ms _ Q (λ capacity capacity_within.
    ok_number key.Segment SEGMENT_OCTETS_LEAST SEGMENT_OCTETS_MOST ms _ Q (λ segment segment_within.
    both_true (both_true (both_true (both_true (both_true (both_true (both_true octets_within sequence_within) (id_fits octets id fits))
    (and_parts (nat_le 0 first) (nat_le first CONFIGURED_NUMBER) first_within).1) put_lanes_within) receive_lanes_within) capacity_within) segment_within))))))))))

pub ok_name : (k : Key) (d : Data) → IfOk (name_of k d) (λ name. is_user_name name ≡ true)
ok_name k d =
    let Q : List ℕ → Type 0 = λ name. is_user_name name ≡ true in
    ok_always (text_of k d) _ Q (λ name. ok_unless (is_user_name name) (fault.OutOfRange k) (Ok name) Q (λ e. e))

-- a name of a user that none before has
record IsNewName (before : List (List ℕ)) (name : List ℕ) : Type 0 where
  named : is_user_name name ≡ true
  new : list_any (is_same_text name) before ≡ false

user_in-limits : (before : List (List ℕ)) (ms : Members) → IfOk (user_in before ms) (IsNewName before)
user_in-limits before ms =
    let P : List ℕ → Type 0 = λ name. is_user_name name ≡ true in
    let Q : List ℕ → Type 0 = IsNewName before in
    ok_unless (has_only (key.Name ∷ []) ms) _ _ Q (λ known.
    ok_then (required key.Name (name_of key.Name) (value_at key.Name ms)) _ P Q (ok_required key.Name (name_of key.Name) P (value_at key.Name ms) (ok_name key.Name)) (λ name named.
    ok_unless (not (list_any (is_same_text name) before)) fault.DuplicateUser (Ok name) Q (λ new. record { named = named; new = not-true _ new })))

-- so many names of users, each another
pub record AreNames (count : ℕ) (names : List (List ℕ)) : Type 0 where
  pub count_is : length names ≡ count
  pub named : list_all is_user_name names ≡ true
  pub distinct : are_distinct is_same_text names ≡ true

pub users_in-limits : (count : ℕ) (before : List (List ℕ)) (tables : List Members) → length before + length tables ≡ count
    → list_all is_user_name before ≡ true → are_distinct is_same_text before ≡ true → IfOk (users_in before tables) (AreNames count)
users_in-limits count before [] counts named distinct = record { count_is = omega arith; named = named; distinct = distinct }
users_in-limits count before (ms ∷ tables) counts named distinct =
    ok_then (user_in before ms) (λ name. users_in (before ++ name ∷ []) tables) (IsNewName before) (AreNames count) (user_in-limits before ms) (λ name last.
    users_in-limits count (before ++ name ∷ []) tables (omega (arith, length-append before (name ∷ [])))
    (list_all-last is_user_name before name named last.named)
    (are_distinct-last is_same_text before name distinct (list_any-swap name before ∙ last.new)))

-- as many tables as were counted
pub counted-limits : (k : Key) (least most : ℕ) (d : Data) → IfOk (counted k least most d) (λ tables. is_within least most (length tables) ≡ true)
counted-limits k least most d =
    let Q : List Members → Type 0 = λ tables. is_within least most (length tables) ≡ true in
    ok_always (tables_of k d) _ Q (λ tables. ok_unless (is_within least most (length tables)) (fault.OutOfRange k) (Ok tables) Q (λ e. e))
