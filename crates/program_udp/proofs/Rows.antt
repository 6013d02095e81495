-- Worked rows: how far data reaches.
use Rattle.std.proofs.Common.{◌≡◌, [], ◌∷◌, codes, refl}
use Rattle.pdu_values.specs.declared.bodies.Prompt.TheVariants as prompts
use Rattle.pdu_values.specs.declared.pdu.Body.TheVariants as bodies
use Rattle.pdu_values.specs.declared.pdu.Header.{Header}
use Rattle.program_udp.specs.Reaches.{data_end, reach_of}

part_end : data_end (bodies.FileData (record { offset = 4; octets = codes "abc" })) ≡ 7
part_end = refl

no_part : data_end (bodies.Prompt prompts.Nak) ≡ 0
no_part = refl

greatest : (header : Header) → reach_of (record { header = header; body = bodies.FileData (record { offset = 4; octets = codes "abc" }) }
    ∷ record { header = header; body = bodies.FileData (record { offset = 0; octets = codes "abcd" }) } ∷ []) ≡ 7
greatest header = refl
