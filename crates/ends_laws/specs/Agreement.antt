-- Meaning. When a PDU's statements about a file agree with the file's Put.
use Rattle.std.specs.Prelude.{◌≡◌, ℕ, ◌+◌, ◌<◌, List, length, slice_get}
use Rattle.cfdp_types.specs.Condition as condition
use Rattle.cfdp_types.specs.Put.{PutValue}
use Rattle.cfdp_types.specs.declared.image.Image.{Image}
use Rattle.pdu_values.specs.declared.pdu.Body.{Body}
use Rattle.pdu_values.specs.declared.pdu.Body.TheVariants as body
use Rattle.pdu_values.specs.declared.bodies.Eof.{Eof}
use Rattle.pdu_values.specs.declared.bodies.FileData.{FileData}
use Rattle.pdu_values.specs.declared.bodies.Metadata.{Metadata}

-- Metadata has the size of the Put's file and both of its names
pub record Describes (put : PutValue) (m : Metadata) : Type 0 where
  pub size : m.size ≡ length put.file
  pub source_name : m.source_name ≡ put.source_name
  pub destination_name : m.destination_name ≡ put.destination_name

-- file data has the file's octets at its offsets
abbrev pub HasOctetsOf : List ℕ → FileData → Type 0
HasOctetsOf file d = (i : ℕ) → i < length d.octets → slice_get file (d.offset + i) ≡ slice_get d.octets i

-- an EOF without an error has the file's size
abbrev pub HasSizeOf : List ℕ → Eof → Type 0
HasSizeOf file e = e.condition ≡ condition.no_error → e.size ≡ length file

-- the body of a PDU agrees with the Put; kinds that say nothing of the file always do
abbrev pub AgreesWith : PutValue → Body → Type 0
AgreesWith put (body.Metadata m) = Describes put m
AgreesWith put (body.FileData d) = HasOctetsOf put.file d
AgreesWith put (body.Eof e) = HasSizeOf put.file e
AgreesWith put _ = Unit {0}

-- the image that a file store is given of the Put's file
abbrev pub image_of_put : PutValue → Image
image_of_put put = record { source_name = put.source_name; destination_name = put.destination_name; octets = put.file }
