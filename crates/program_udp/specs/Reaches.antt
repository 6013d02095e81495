-- Meaning. How far into its file the data of PDUs reaches.
use Rattle.std.specs.Prelude.{ℕ, ◌+◌, min, max, List, [], ◌∷◌, length}
use Rattle.pdu_values.specs.Pdu.{PduValue}
use Rattle.pdu_values.specs.declared.pdu.Body.{Body}
use Rattle.pdu_values.specs.declared.pdu.Body.TheVariants as bodies

-- where the data of a PDU ends in its file, or 0 without data
abbrev pub data_end : Body → ℕ
data_end (bodies.FileData part) = min (part.offset + length part.octets) 18446744073709551615
data_end other = 0

-- the greatest end of the data of these PDUs
abbrev pub reach_of : List PduValue → ℕ
reach_of [] = 0
reach_of (pdu ∷ rest) = max (data_end pdu.body) (reach_of rest)
