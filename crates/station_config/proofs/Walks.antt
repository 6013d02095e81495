-- Rows and items, as the code goes over them.
use Rattle.std.proofs.Common.{◌≡◌, ℕ, ◌+◌, ◌<◌, Bool, List, [], ◌∷◌, ◌++◌, append_assoc, drop, get_or, length, refl, ap, sym, ◌∙◌, string_bytes, ◌&&◌}
use Rattle.std.specs.Prelude.{◌||◌}
use Rattle.std.specs.List.{list_all, list_any}
use Rattle.std.specs.Map.{keys_of}
use Rattle.toml.proofs.Views.{Entry, items_view-drop}
use Rattle.toml.specs.Data.{Data, item}
use Rattle.toml.specs.declared.value.Value.{Value}
use Rattle.toml.specs.View.{items_view, members_view, view}
use Rattle.station_config.specs.Settings.{remote_of, remotes_of}
use Rattle.station_config.specs.declared.settings.RemoteSettings.{RemoteSettings}
use Rattle.station_config.specs.Station.{all_items, any_item, is_known, knows_all}

-- the keys of a table are those of its map
pub knows_all-view : (table : List ℕ) (es : List Entry) → knows_all table (members_view es) ≡ list_all (λ name. is_known table (string_bytes name)) (keys_of es)
knows_all-view table [] = refl
knows_all-view table (e ∷ es) = ap (λ b. is_known table (string_bytes e.0) && b) (knows_all-view table es)

-- the items of an array are those of its list
pub any_item-view : (test : Data → Bool) (vs : List Value) → any_item test (items_view vs) ≡ list_any (λ v. test (view v)) vs
any_item-view test [] = refl
any_item-view test (v ∷ vs) = ap (λ b. test (view v) || b) (any_item-view test vs)

pub all_items-view : (test : Data → Bool) (vs : List Value) → all_items test (items_view vs) ≡ list_all (λ v. test (view v)) vs
all_items-view test [] = refl
all_items-view test (v ∷ vs) = ap (λ b. test (view v) && b) (all_items-view test vs)

-- the remote entities of the first items, and of the next one
pub remotes_after : (before : List RemoteSettings) (vs : List Value) (i : ℕ) (v : Value) → i < length vs → v ≡ get_or vs i v
    → before ++ remotes_of (items_view (drop i vs)) ≡ (before ++ remote_of (view v) ∷ []) ++ remotes_of (items_view (drop (i + 1) vs))
remotes_after before vs i v within is =
    ap (λ ds. before ++ remotes_of ds) (items_view-drop vs i v within ∙ ap (λ x. item (view x) (items_view (drop (i + 1) vs))) (sym is)) ∙ rw append_assoc
