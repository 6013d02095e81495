-- Meaning. Places in a list.
use Rattle.std.specs.Prelude.{ℕ, List, ◌++◌, Option, Some, None, slice_get, option_to_list}
use Rattle.std.specs.List.{remove}

-- the item at a place, the list without it, and the list with it moved to the end
abbrev pub at_place : {A : Type 0} → Option ℕ → List A → Option A
at_place None items = None
at_place (Some place) items = slice_get items place

abbrev pub without_place : {A : Type 0} → Option ℕ → List A → List A
without_place None items = items
without_place (Some place) items = remove items place

abbrev pub turned_at : {A : Type 0} → Option ℕ → List A → List A
turned_at place items = without_place place items ++ option_to_list (at_place place items)
