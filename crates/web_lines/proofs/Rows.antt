-- Worked rows: families, numbers and names of kinds.
use Rattle.std.proofs.Common.{◌≡◌, ◌||◌, ℕ, Bool, true, false, List, [], ◌∷◌, map, Some, None, codes, length, refl, rules}
use Rattle.std.specs.Fmt.{digits}
use Rattle.json.specs.Json.{Json, boolean, member, no_members, number, object, string}
use Rattle.std.specs.Str.{bytes_eq}
use Rattle.web_lines.specs.declared.kind.Kind.TheVariants as kinds
use Rattle.web_lines.specs.declared.kind.Kind.TheVariants.{Entity, Log, Parked, Queued, Recorder, Refusal, Remote, Storing, User}
use Rattle.web_lines.specs.declared.state.State.TheVariants.{Active, Ended}
use Rattle.web_lines.specs.declared.lines.Line.{Line}
use Rattle.web_lines.specs.Document.{document_text, named, some_list}
use Rattle.web_lines.specs.Families.{all_heads, count_rows, counter, gauge, told_rows}
use Rattle.web_lines.specs.Hindered.{says_why}
use Rattle.web_lines.specs.Labels.{labels_at}
use Rattle.web_lines.specs.Numbers.{IsNumberAt, at_counter, at_known, at_member, at_truth}
use Rattle.web_lines.specs.Metrics.{escaped, has_counts, head_text, labels_text, sample_text, told_text}
use Rattle.web_lines.specs.Starts.{start_in}
use Rattle.web_lines.specs.States.{count_in_state, name_of_state, state_in, state_named}

-- a name is among these
abbrev has : List ℕ → List (List ℕ) → Bool
has name [] = false
has name (first ∷ rest) = bytes_eq name first || has name rest

-- a name comes twice
abbrev has_twice : List (List ℕ) → Bool
has_twice [] = false
has_twice (first ∷ rest) = has first rest || has_twice rest

names_differ : has_twice (map (λ head. head.name) all_heads) ≡ false
unfolding told_rows count_rows
names_differ = refl

how_many : length all_heads ≡ 47
unfolding told_rows count_rows
how_many = refl

heads : map head_text (gauge (codes "a") (codes "b c") ∷ counter (codes "d") (codes "e") ∷ [])
    ≡ codes "# HELP a b c\n# TYPE a gauge\n" ∷ codes "# HELP d e\n# TYPE d counter\n" ∷ []
unfolding head_text
heads = refl

bare_number : sample_text (codes "n") [] 70 ≡ codes "n 70\n"
unfolding sample_text labels_text digits
bare_number = refl

two_labels : labels_text ((codes "a", codes "1") ∷ (codes "b", codes "x\"") ∷ []) ≡ codes "{a=\"1\",b=\"x\\\"\"}"
unfolding labels_text
two_labels = refl

three_labels : labels_text ((codes "a", codes "1") ∷ (codes "b", codes "2") ∷ (codes "c", codes "3") ∷ []) ≡ codes "{a=\"1\",b=\"2\",c=\"3\"}"
unfolding labels_text
three_labels = refl

labels_are_escaped : escaped (codes "a\\b\"c\nd") ≡ codes "a\\\\b\\\"c\\nd"
labels_are_escaped = refl

names_of_kinds : map named (codes "entity" ∷ codes "queued" ∷ codes "parked" ∷ codes "storing" ∷ codes "recorder" ∷ codes "ended" ∷ codes "delivered" ∷ codes "store" ∷ codes "entities" ∷ [])
    ≡ Some Entity ∷ Some Queued ∷ Some Parked ∷ Some Storing ∷ Some Recorder ∷ Some kinds.Ended ∷ Some kinds.Delivered ∷ Some kinds.Store ∷ None ∷ []
names_of_kinds = refl

no_lines : document_text []
    ≡ codes "{\"entities\":[],\"logs\":[],\"users\":[],\"transactions\":[],\"remotes\":[],\"refusals\":[],\"outbox\":[],\"reading\":[],\"parked\":[],\"storing\":[],\"recorders\":[]}\n"
unfolding document_text
no_lines = refl

-- what is counted has lists and numbers only where there are such lines
abbrev counting : List Line
counting = record { kind = kinds.Ended; text = record { ref_ptr = (0, 0); now = codes "a" } } ∷ record { kind = kinds.Delivered; text = record { ref_ptr = (0, 0); now = codes "b" } }
    ∷ record { kind = kinds.Ended; text = record { ref_ptr = (0, 0); now = codes "c" } } ∷ []

some_lists : map (λ kind. some_list (codes "x") kind counting) (kinds.Ended ∷ kinds.Delivered ∷ kinds.Store ∷ [])
    ≡ codes "xa,c" ∷ codes "xb" ∷ [] ∷ []
some_lists = refl

counts_are_there : map has_counts (counting ∷ [] ∷ []) ≡ true ∷ false ∷ []
counts_are_there = refl

number_that_is_true : IsNumberAt (at_truth (codes "held")) (object (member (codes "held") (boolean true) no_members)) (Some 1)
number_that_is_true = refl

number_of_a_counter : IsNumberAt (at_counter (codes "stored"))
    (object (member (codes "counters") (object (member (codes "stored") (number (codes "12")) no_members)) no_members)) (Some 12)
number_of_a_counter = search rules

number_that_is_missing : IsNumberAt (at_member (codes "workers")) (object no_members) None
number_that_is_missing = refl

-- the line of a remote entity, and of a refusal without and with a fault of decoding
abbrev remote : Json
remote = object (member (codes "id") (number (codes "7")) no_members)

abbrev refusal : Json
refusal = object (member (codes "name") (string (codes "NoRoute")) no_members)

abbrev faulty : Json
faulty = object (member (codes "name") (string (codes "DecodeFault")) (member (codes "fault") (number (codes "1")) no_members))

remote_label : labels_at Remote (at_member (codes "octets_in")) remote ≡ Some ((codes "remote", codes "7") ∷ [])
remote_label = refl

reason_label : labels_at Refusal (at_member (codes "count")) refusal ≡ Some ((codes "reason", codes "NoRoute") ∷ [])
reason_label = refl

fault_label : labels_at Refusal (at_member (codes "count")) faulty ≡ Some ((codes "reason", codes "DecodeFault") ∷ (codes "fault", codes "1") ∷ [])
fault_label = refl

no_reason : labels_at Refusal (at_member (codes "count")) remote ≡ None
no_reason = refl

nameless_user : labels_at User (at_member (codes "waiting")) remote ≡ None
nameless_user = refl

user_label : labels_at User (at_member (codes "waiting")) refusal ≡ Some ((codes "user", codes "NoRoute") ∷ [])
user_label = refl

-- the line of a lane for which datagrams wait
abbrev waiting : Json
waiting = object (member (codes "user") (string (codes "ops")) (member (codes "lane") (number (codes "3")) no_members))

lane_label : labels_at Parked (at_member (codes "octets")) waiting ≡ Some ((codes "user", codes "ops") ∷ (codes "lane", codes "3") ∷ [])
lane_label = refl

lane_of_a_transaction : labels_at kinds.Transaction (at_member (codes "missing")) waiting ≡ Some ((codes "user", codes "ops") ∷ (codes "lane", codes "3") ∷ [])
lane_of_a_transaction = refl

-- the line of transactions that ended in one way
abbrev end : Json
end = object (member (codes "role") (string (codes "sender")) (member (codes "class") (number (codes "2")) (member (codes "condition") (number (codes "15")) no_members)))

end_labels : labels_at kinds.Ended (at_member (codes "count")) end
    ≡ Some ((codes "role", codes "sender") ∷ (codes "class", codes "2") ∷ (codes "condition", codes "15") ∷ [])
end_labels = refl

no_end : labels_at kinds.Ended (at_member (codes "count")) remote ≡ None
no_end = refl

role_label : labels_at kinds.Delivered (at_member (codes "files")) end ≡ Some ((codes "role", codes "sender") ∷ [])
role_label = refl

no_lane : labels_at Parked (at_member (codes "octets")) refusal ≡ None
no_lane = refl

entity_label : labels_at Entity (at_known (codes "version"))
    (object (member (codes "id") (number (codes "2")) (member (codes "version") (string (codes "0.1")) no_members)))
    ≡ Some ((codes "id", codes "2") ∷ (codes "version", codes "0.1") ∷ [])
entity_label = refl

no_version : labels_at Entity (at_known (codes "version")) remote ≡ None
no_version = refl

unlabelled : map (λ kind. labels_at kind (at_member (codes "workers")) remote) (Entity ∷ Log ∷ Queued ∷ []) ≡ Some [] ∷ Some [] ∷ Some [] ∷ []
unlabelled = refl

no_number_no_line : told_text (gauge (codes "a") (codes "b")) (Some []) None ≡ []
no_number_no_line = refl

no_labels_no_line : told_text (gauge (codes "a") (codes "b")) None (Some 1) ≡ []
no_labels_no_line = refl

zero_is_a_number : told_text (gauge (codes "a") (codes "b")) (Some []) (Some 0) ≡ codes "a 0\n"
unfolding sample_text labels_text digits
zero_is_a_number = refl

hindered : says_why (Some (object (member (codes "why") (string (codes "no space is left")) no_members))) ≡ true
hindered = refl

unhindered : map says_why (Some waiting ∷ None ∷ []) ≡ false ∷ false ∷ []
unhindered = refl

states : map state_named (codes "active" ∷ codes "ended" ∷ codes "open" ∷ []) ≡ Some Active ∷ Some Ended ∷ None ∷ []
states = refl

state_of_a_line : state_in (object (member (codes "state") (string (codes "ended")) no_members)) ≡ Some Ended
state_of_a_line = refl

names_of_states : map name_of_state (Active ∷ Ended ∷ []) ≡ codes "active" ∷ codes "ended" ∷ []
names_of_states = refl

ended_twice : count_in_state Ended (Ended ∷ Active ∷ Ended ∷ []) ≡ 2
ended_twice = refl

start_that_is_said : start_in (object (member (codes "started") (string (codes "2026-02-03T04:05:06.007Z")) no_members))
    ≡ Some (codes "2026-02-03T04:05:06.007Z")
start_that_is_said = refl

start_that_is_no_text : start_in (object (member (codes "started") (boolean true) no_members)) ≡ None
start_that_is_no_text = refl
