-- Worked rows: names of recordings, their lines, and when transactions began.
use Rattle.std.proofs.Common.{◌≡◌, [], ◌∷◌, map, true, false, Some, None, codes, refl}
use Rattle.std.specs.Fmt.{digits, padded_integral, char_count}
use Rattle.cfdp_types.specs.declared.key.TxnKey.{TxnKey}
use Rattle.station_lines.specs.declared.moment.Moment.{Moment}
use Rattle.program_recorder.specs.Headings.{begun_line, end_line, last_line, way_word}
use Rattle.program_recorder.specs.Names.{key_of_name, name_text}
use Rattle.program_recorder.specs.Sights.{begun_at}

-- the transaction of the rows, and another one
abbrev key : TxnKey
key = record { source = record { 0 = 2 }; seq = 4 }

-- another one
abbrev other : TxnKey
other = record { source = record { 0 = 2 }; seq = 10 }

written : map name_text (key ∷ other ∷ []) ≡ codes "2.4.script" ∷ codes "2.10.script" ∷ []
unfolding digits
written = refl

-- a name with needless zeros or another ending is of no transaction
read : map key_of_name (codes "2.4.script" ∷ codes "2.10.script" ∷ codes "02.4.script" ∷ codes "2.4.script.part" ∷ codes "2.script" ∷ codes "2..script" ∷ [])
    ≡ Some key ∷ Some other ∷ None ∷ None ∷ None ∷ None ∷ []
read = refl

lines : begun_line None ∷ last_line (Some (record { 0 = 1000 })) ∷ end_line [] None ∷ way_word true ∷ way_word false ∷ []
    ≡ codes "# first indication: not noted\n" ∷ codes "# last indication: 1970-01-01T00:00:01.000Z\n" ∷ codes "# it has not ended\n"
    ∷ codes "sends to" ∷ codes "receives from" ∷ []
unfolding digits padded_integral char_count
lines = refl

-- a transaction began with its first bundle
abbrev one : Moment
one = record { 0 = 1 }

abbrev two : Moment
two = record { 0 = 2 }

began : begun_at None None key one ∷ begun_at (Some key) (Some one) key two ∷ begun_at (Some key) (Some one) other two ∷ []
    ≡ Some one ∷ Some one ∷ Some two ∷ []
began = refl
