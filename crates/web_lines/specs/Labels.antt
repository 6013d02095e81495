-- Meaning. The labels of a number, as a line gives them.
use Rattle.std.specs.Prelude.{ℕ, List, [], ◌∷◌, Option, Some, None, option_map, option_and_then, option_to_list, codes}
use Rattle.std.specs.Option.{option_or}
use Rattle.json.specs.Json.{Json}
use Rattle.json.specs.Find.{get, as_number, as_str}
use Rattle.web_lines.specs.declared.kind.Kind.{Kind}
use Rattle.web_lines.specs.declared.kind.Kind.TheVariants.{Delivered, Ended, Entity, Parked, Refusal, Remote, Transaction, User}
use Rattle.web_lines.specs.declared.labels.Label.{Label}
use Rattle.web_lines.specs.declared.labels.Labels.{Labels}
use Rattle.web_lines.specs.declared.labels.Labels.TheVariants.{Bare, One, Two, Three}
use Rattle.web_lines.specs.Numbers.{Spot, at_known}

-- a label's name and value
abbrev pub SaidLabel : Type 0
SaidLabel = List ℕ × List ℕ

-- labels of the code
abbrev pub said_label : Label → SaidLabel
said_label label = (label.name.now, label.value.now)

abbrev pub said_labels : Labels → List SaidLabel
said_labels Bare = []
said_labels (One label) = said_label label ∷ []
said_labels (Two first second) = said_label first ∷ said_label second ∷ []
said_labels (Three first second third) = said_label first ∷ said_label second ∷ said_label third ∷ []

-- the text or the number that a value is
abbrev pub word_of : Json → Option (List ℕ)
word_of value = option_or (as_str value) (as_number value)

-- a label of this name, whose value is a member's text or number
abbrev pub label_at : List ℕ → List ℕ → Json → Option SaidLabel
label_at name member value = option_map (λ word. (name, word)) (option_and_then word_of (get member value))

-- one label, if it is there
abbrev pub one_label : Option SaidLabel → Option (List SaidLabel)
one_label label = option_map (λ label. label ∷ []) label

-- both labels, or none
abbrev pub both_labels : Option SaidLabel → Option SaidLabel → Option (List SaidLabel)
both_labels (Some first) (Some second) = Some (first ∷ second ∷ [])
both_labels first second = None

-- all three labels, or none
abbrev pub all_labels : Option SaidLabel → Option SaidLabel → Option SaidLabel → Option (List SaidLabel)
all_labels (Some first) (Some second) (Some third) = Some (first ∷ second ∷ third ∷ [])
all_labels first second third = None

-- the first label, and the second one if it is there
abbrev pub with_label : Option SaidLabel → Option SaidLabel → Option (List SaidLabel)
with_label first second = option_map (λ label. label ∷ option_to_list second) first

-- the entity's number and its version, for the family that has its version
abbrev pub entity_labels : Spot → Json → Option (List SaidLabel)
entity_labels (at_known name) value = both_labels (label_at (codes "id") (codes "id") value) (label_at (codes "version") (codes "version") value)
entity_labels spot value = Some []

-- the labels of the number at a place of a line: a user's name, a remote entity's number, a refusal's reason with its
-- fault of decoding if it has one, a lane with its user, also that of a transaction, the role, class and condition of
-- transactions that ended, the role of files that came whole; a line that lacks what they say has no number
abbrev pub labels_at : Kind → Spot → Json → Option (List SaidLabel)
labels_at User spot value = one_label (label_at (codes "user") (codes "name") value)
labels_at Remote spot value = one_label (label_at (codes "remote") (codes "id") value)
labels_at Refusal spot value = with_label (label_at (codes "reason") (codes "name") value) (label_at (codes "fault") (codes "fault") value)
labels_at Parked spot value = both_labels (label_at (codes "user") (codes "user") value) (label_at (codes "lane") (codes "lane") value)
labels_at Transaction spot value = both_labels (label_at (codes "user") (codes "user") value) (label_at (codes "lane") (codes "lane") value)
labels_at Ended spot value = all_labels (label_at (codes "role") (codes "role") value) (label_at (codes "class") (codes "class") value) (label_at (codes "condition") (codes "condition") value)
labels_at Delivered spot value = one_label (label_at (codes "role") (codes "role") value)
labels_at Entity spot value = entity_labels spot value
labels_at kind spot value = Some []
