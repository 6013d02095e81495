-- Worked rows: which events are kept and shown.
use Rattle.std.proofs.Common.{◌≡◌, List, [], ◌∷◌, map, codes, refl}
use Rattle.event_levels.specs.declared.level.Level.{Level}
use Rattle.event_levels.specs.declared.level.Level.TheVariants.{Detail, Info, Warning}
use Rattle.kept_events.specs.declared.ring.Form.TheVariants.{Labelled, Plain}
use Rattle.kept_events.specs.KeptLines.{LineValue}
use Rattle.kept_events.specs.Rings.{KeptValue, kept_line, kept_with, shown, texts, trimmed}

abbrev levels : List Level
levels = Detail ∷ Info ∷ Warning ∷ []

abbrev detail : LineValue
detail = kept_line Detail (codes "d")

abbrev info : LineValue
info = kept_line Info (codes "i")

abbrev warning : LineValue
warning = kept_line Warning (codes "w")

abbrev four : KeptValue
four = kept_with detail (kept_with warning (kept_with info (kept_with detail (record { all = []; notable = [] }))))

kept : four ≡ record { all = detail ∷ info ∷ warning ∷ detail ∷ []; notable = info ∷ warning ∷ [] }
kept = refl

shows : map (λ least. texts Plain (codes "-") (shown least 2 four)) levels ≡ codes "-w-d" ∷ codes "-i-w" ∷ codes "-w" ∷ []
shows = refl

one : map (λ least. texts Plain [] (shown least 1 four)) levels ≡ codes "d" ∷ codes "w" ∷ codes "w" ∷ []
one = refl

-- a line that needs all of the room drops the others
drops : trimmed 2097152 (info ∷ detail ∷ []) ≡ []
drops = refl

fits : trimmed 2097151 (info ∷ detail ∷ []) ≡ detail ∷ []
fits = refl

labels : texts Labelled (codes "-") (kept_line Warning (codes "{\"a\":1}\n") ∷ []) ≡ codes "-{\"a\":1,\"level\":\"warning\"}\n"
labels = refl
