-- Worked rows: names as flight systems send them, and the parts of their paths.
use Rattle.std.proofs.Common.{◌≡◌, true, false, [], ◌∷◌, ◌++◌, map, length, Some, None, Ok, Err, codes, decimal, refl, arith}
use Rattle.std.specs.List.{list_all}
use Rattle.file_stores.specs.Names.{is_plain_name}
use Rattle.file_stores.specs.declared.filestore.StoreFault.TheVariants.{Failed}
use Rattle.station_store.specs.declared.settings.Layout.TheVariants.{Tree}
use Rattle.station_store.specs.Paths.{tree_parts, relative, IsTaken}
use Rattle.station_store.specs.Sources.{name_from}
use Rattle.station_store.specs.Stations.{kept_as, place_of}

parts : map tree_parts (codes "log" ∷ codes "/log" ∷ codes "//ram/log.1" ∷ codes "a//b" ∷ codes "a/" ∷ codes "/" ∷ codes "" ∷ [])
    ≡ (codes "log" ∷ [])
    ∷ (codes "log" ∷ [])
    ∷ (codes "ram" ∷ codes "log.1" ∷ [])
    ∷ (codes "a" ∷ [] ∷ codes "b" ∷ [])
    ∷ (codes "a" ∷ [] ∷ [])
    ∷ ([] ∷ [])
    ∷ ([] ∷ [])
    ∷ []
parts = refl

are_taken : map (λ name. list_all is_plain_name (tree_parts name)) (codes "log" ∷ codes "/log" ∷ codes "//ram/log.1" ∷ codes "a/.../b" ∷ codes "a../.b" ∷ [])
    ≡ true ∷ true ∷ true ∷ true ∷ true ∷ []
are_taken = refl

are_bad : map (λ name. list_all is_plain_name (tree_parts name)) (codes "" ∷ codes "/" ∷ codes "a/" ∷ codes "a//b" ∷ codes "." ∷ codes "../a" ∷ codes "a/../b" ∷ codes "a/." ∷ (97 ∷ 0 ∷ []) ∷ [])
    ≡ false ∷ false ∷ false ∷ false ∷ false ∷ false ∷ false ∷ false ∷ false ∷ []
are_bad = refl

-- eight folders and the file's own name are taken, nine folders are not
depths : map (λ name. length (tree_parts name)) (codes "log" ∷ codes "/a/b/c/d/e/f/g/h/log" ∷ codes "a/b/c/d/e/f/g/h/i/log" ∷ []) ≡ 1 ∷ 9 ∷ 10 ∷ []
depths = refl

too_deep : ¬ (IsTaken Tree (codes "a/b/c/d/e/f/g/h/i/log"))
too_deep is = omega (arith, is.few)

paths : map relative (codes "log" ∷ codes "///ram/log" ∷ []) ≡ codes "log" ∷ codes "ram/log" ∷ []
paths = refl

-- where a deposit and a try kept their files
deposited : kept_as (Ok tt) (codes "log") ≡ Some (codes "log")
deposited = refl

not_deposited : kept_as (Err Failed) (codes "log") ≡ None
not_deposited = refl

tried : map place_of (None ∷ Some (record { name = codes "log"; octets = []; place = None }) ∷ Some (record { name = codes "log"; octets = []; place = Some (codes "log.1") }) ∷ []) ≡ None ∷ None ∷ Some (codes "log.1") ∷ []
tried = refl

-- a name in the folder of its source
in_folder : name_from (record { 0 = 12 }) (codes "ram/log") ≡ decimal 12 ++ codes "/ram/log"
in_folder = refl
