-- The tables of a text, as the code goes over them.
use Rattle.std.proofs.Common.{◌≡◌, ℕ, ◌+◌, ◌<◌, List, [], ◌∷◌, ◌++◌, append_assoc, drop, get_or, length, map, Ok, Err, string_bytes, refl, ap, sym, ◌∙◌, ◌&&◌, ◌⊎◌, inl, inr}
use Rattle.std.specs.List.{list_all, list_any}
use Rattle.std.specs.Map.{keys_of}
use Rattle.toml.proofs.Views.{Entry, items_view-drop}
use Rattle.toml.specs.declared.value.Value.{Value}
use Rattle.toml.specs.Data.{Data, Items, item, Members}
use Rattle.toml.specs.View.{items_view, members_view, view}
use Rattle.std.proofs.lemmas.List.{drop_more}
use Rattle.config_reading.specs.declared.entity.EntitySettings.{EntitySettings}
use Rattle.config_reading.specs.Values.{PeerValue}
use Rattle.config_reading.specs.declared.fault.ConfigFault.{ConfigFault}
use Rattle.config_reading.specs.declared.fault.Key.{Key}
use Rattle.config_reading.specs.Faults.{key_text}
use Rattle.config_reading.specs.Texts.{is_same_text}
use Rattle.config_reading.specs.Walk.{Read, and_then, has_only, remote_in, remotes_in, table_of, tables_from, user_in, users_in}

-- the keys of a table are those of its map
pub has_only-view : (keys : List Key) (es : List Entry)
    → has_only keys (members_view es) ≡ list_all (λ name. list_any (λ known. is_same_text (key_text known) (string_bytes name)) keys) (keys_of es)
has_only-view keys [] = refl
has_only-view keys (e ∷ es) = ap (λ b. list_any (λ known. is_same_text (key_text known) (string_bytes e.0)) keys && b) (has_only-view keys es)

-- some tables, and those of the items that are left
abbrev pub tables_after : Key → List Members → Items → Read (List Members)
tables_after k before ds = and_then (tables_from k ds) (λ rest. Ok (before ++ rest))

one_more : (before : List Members) (ms : Members) (r : Read (List Members))
    → and_then (and_then r (λ rest. Ok (ms ∷ rest))) (λ rest. Ok (before ++ rest)) ≡ and_then r (λ rest. Ok ((before ++ ms ∷ []) ++ rest))
one_more before ms (Ok rest) = ap Ok (rw append_assoc)
one_more before ms (Err f) = refl

pub tables_after-table : (k : Key) (before : List Members) (d : Data) (ds : Items) (ms : Members) → table_of k d ≡ Ok ms
    → tables_after k before (item d ds) ≡ tables_after k (before ++ ms ∷ []) ds
tables_after-table k before d ds ms is = rw is (one_more before ms (tables_from k ds))

pub tables_after-fault : (k : Key) (before : List Members) (d : Data) (ds : Items) (f : ConfigFault) → table_of k d ≡ Err f → tables_after k before (item d ds) ≡ Err f
tables_after-fault k before d ds f is = rw is

same_read : {A : Type 0} (r : Read A) → and_then r (λ x. Ok x) ≡ r
same_read (Ok x) = refl
same_read (Err f) = refl

-- none before
pub tables_after-none : (k : Key) (ds : Items) → tables_from k ds ≡ tables_after k [] ds
tables_after-none k ds = sym (same_read (tables_from k ds))

-- one item of an array
at_item : (vs : List Value) (i : ℕ) (v : Value) → i < length vs → v ≡ get_or vs i v → items_view (drop i vs) ≡ item (view v) (items_view (drop (i + 1) vs))
at_item vs i v within is = items_view-drop vs i v within ∙ ap (λ x. item (view x) (items_view (drop (i + 1) vs))) (sym is)

pub tables_after-turn : (k : Key) (before : List Members) (vs : List Value) (i : ℕ) (v : Value) (ms : Members) → i < length vs → v ≡ get_or vs i v → Ok ms ≡ table_of k (view v)
    → tables_after k before (items_view (drop i vs)) ≡ tables_after k (before ++ ms ∷ []) (items_view (drop (i + 1) vs))
tables_after-turn k before vs i v ms within is read = ap (tables_after k before) (at_item vs i v within is) ∙ tables_after-table k before (view v) (items_view (drop (i + 1) vs)) ms (sym read)

pub tables_after-failed : (k : Key) (before : List Members) (vs : List Value) (i : ℕ) (v : Value) (f : ConfigFault) → i < length vs → v ≡ get_or vs i v → Err f ≡ table_of k (view v)
    → tables_after k before (items_view (drop i vs)) ≡ Err f
tables_after-failed k before vs i v f within is refused = ap (tables_after k before) (at_item vs i v within is) ∙ tables_after-fault k before (view v) (items_view (drop (i + 1) vs)) f (sym refused)

-- one table of a list
abbrev pub left : {A : Type 0} → (A → Members) → List A → ℕ → List Members
left see ts i = map see (drop i ts)

left-turn : {A : Type 0} (see : A → Members) (ts : List A) (i : ℕ) (t : A) → i < length ts → t ≡ get_or ts i t → left see ts i ≡ see t ∷ left see ts (i + 1)
left-turn see ts i t within is = ap (map see) (drop_more ts i t within ∙ ap (λ x. x ∷ drop (i + 1) ts) (sym is))

pub users_in-turn : {A : Type 0} (see : A → Members) (before : List (List ℕ)) (ts : List A) (i : ℕ) (t : A) (name : List ℕ) → i < length ts → t ≡ get_or ts i t → Ok name ≡ user_in before (see t)
    → users_in before (left see ts i) ≡ users_in (before ++ name ∷ []) (left see ts (i + 1))
users_in-turn see before ts i t name within is read = ap (users_in before) (left-turn see ts i t within is) ∙ rw (← read)

pub users_in-failed : {A : Type 0} (see : A → Members) (before : List (List ℕ)) (ts : List A) (i : ℕ) (t : A) (f : ConfigFault) → i < length ts → t ≡ get_or ts i t → Err f ≡ user_in before (see t)
    → users_in before (left see ts i) ≡ Err f
users_in-failed see before ts i t f within is refused = ap (users_in before) (left-turn see ts i t within is) ∙ rw (← refused)

pub remotes_in-turn : {A : Type 0} (entity : EntitySettings) (users : List (List ℕ)) (see : A → Members) (before : List PeerValue) (ts : List A) (i : ℕ) (t : A) (peer : PeerValue)
    → i < length ts → t ≡ get_or ts i t → remote_in entity users before (see t) ≡ Ok peer
    → remotes_in entity users before (left see ts i) ≡ remotes_in entity users (before ++ peer ∷ []) (left see ts (i + 1))
remotes_in-turn entity users see before ts i t peer within is read = ap (remotes_in entity users before) (left-turn see ts i t within is) ∙ rw read

pub remotes_in-failed : {A : Type 0} (entity : EntitySettings) (users : List (List ℕ)) (see : A → Members) (before : List PeerValue) (ts : List A) (i : ℕ) (t : A) (f : ConfigFault)
    → i < length ts → t ≡ get_or ts i t → remote_in entity users before (see t) ≡ Err f → remotes_in entity users before (left see ts i) ≡ Err f
remotes_in-failed entity users see before ts i t f within is refused = ap (remotes_in entity users before) (left-turn see ts i t within is) ∙ rw refused

-- either there was no memory, or a fault that comes first later too
pub or_later : {P Q R : Type 0} → P ⊎ Q → (Q → R) → P ⊎ R
or_later (inl p) next = inl p
or_later (inr q) next = inr (next q)
