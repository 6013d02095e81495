-- The tables up to the one at which reading stops, as the code goes over them.
use Rattle.std.proofs.Common.{◌≡◌, ℕ, ◌+◌, ◌<◌, List, [], ◌∷◌, ◌++◌, drop, get_or, length, map, Ok, Err, ap, sym, ◌∙◌}
use Rattle.std.proofs.lemmas.List.{drop_more}
use Rattle.config_reading.specs.declared.entity.EntitySettings.{EntitySettings}
use Rattle.config_reading.specs.declared.fault.ConfigFault.{ConfigFault}
use Rattle.config_reading.specs.Values.{PeerValue}
use Rattle.config_reading.specs.Walk.{remote_in, user_in}
use Rattle.config_reading.proofs.Tables.{left}
use Rattle.fault_texts.specs.Spots.{names_until, peers_until}
use Rattle.toml.specs.Data.{Members}

left-turn : {A : Type 0} (see : A → Members) (ts : List A) (i : ℕ) (t : A) → i < length ts → t ≡ get_or ts i t → left see ts i ≡ see t ∷ left see ts (i + 1)
left-turn see ts i t within is = ap (map see) (drop_more ts i t within ∙ ap (λ x. x ∷ drop (i + 1) ts) (sym is))

pub names-turn : {A : Type 0} (see : A → Members) (before : List (List ℕ)) (ts : List A) (i : ℕ) (t : A) (name : List ℕ) → i < length ts → t ≡ get_or ts i t → Ok name ≡ user_in before (see t)
    → names_until before (left see ts i) ≡ names_until (before ++ name ∷ []) (left see ts (i + 1))
names-turn see before ts i t name within is read = ap (names_until before) (left-turn see ts i t within is) ∙ rw (← read)

pub names-stop : {A : Type 0} (see : A → Members) (before : List (List ℕ)) (ts : List A) (i : ℕ) (t : A) (f : ConfigFault) → i < length ts → t ≡ get_or ts i t → Err f ≡ user_in before (see t)
    → names_until before (left see ts i) ≡ before
names-stop see before ts i t f within is refused = ap (names_until before) (left-turn see ts i t within is) ∙ rw (← refused)

pub peers-turn : {A : Type 0} (entity : EntitySettings) (users : List (List ℕ)) (see : A → Members) (before : List PeerValue) (ts : List A) (i : ℕ) (t : A) (peer : PeerValue)
    → i < length ts → t ≡ get_or ts i t → remote_in entity users before (see t) ≡ Ok peer
    → peers_until entity users before (left see ts i) ≡ peers_until entity users (before ++ peer ∷ []) (left see ts (i + 1))
peers-turn entity users see before ts i t peer within is read = ap (peers_until entity users before) (left-turn see ts i t within is) ∙ rw read

pub peers-stop : {A : Type 0} (entity : EntitySettings) (users : List (List ℕ)) (see : A → Members) (before : List PeerValue) (ts : List A) (i : ℕ) (t : A) (f : ConfigFault)
    → i < length ts → t ≡ get_or ts i t → remote_in entity users before (see t) ≡ Err f → peers_until entity users before (left see ts i) ≡ before
peers-stop entity users see before ts i t f within is refused = ap (peers_until entity users before) (left-turn see ts i t within is) ∙ rw refused
