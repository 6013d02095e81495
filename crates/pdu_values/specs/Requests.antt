-- Meaning. The segment requests of a NAK.
use Rattle.std.specs.Prelude.{Bool, true, false, ℕ, ◌^◌, ◌<◌, List, ◌++◌}
use Rattle.pdu_values.specs.declared.requests.SegmentRequest.{SegmentRequest}
use Rattle.pdu_values.specs.Numbers.{digits}

-- octets of a size or an offset in a file: 8 with the large file flag, 4 without it
abbrev pub size_octets : Bool → ℕ
size_octets false = 4
size_octets true = 8

-- the two offsets of a segment request fit fields of this width
pub record RequestFits (width : ℕ) (r : SegmentRequest) : Type 0 where
  pub start : r.start < 256 ^ width
  pub end : r.end < 256 ^ width

-- a segment request in octets: its start and its end, each in this width
abbrev pub request : ℕ → SegmentRequest → List ℕ
request width r = digits width r.start ++ digits width r.end
