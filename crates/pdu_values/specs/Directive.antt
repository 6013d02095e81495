-- Meaning. The codes of the file directives (CCSDS 727.0-B-5, 5.2.1).
use Rattle.std.specs.Prelude.{ℕ, Option, Some, None, ◌==◌, if◌then◌else◌}
use Rattle.pdu_values.specs.declared.directive.Directive.{Directive}
use Rattle.pdu_values.specs.declared.directive.Directive.TheVariants.{Eof, Finished, Ack, Metadata, Nak, Prompt, KeepAlive}

-- the code of a directive
abbrev pub directive_code : Directive → ℕ
directive_code Eof = 4
directive_code Finished = 5
directive_code Ack = 6
directive_code Metadata = 7
directive_code Nak = 8
directive_code Prompt = 9
directive_code KeepAlive = 12

-- the directive with a code
abbrev pub directive_with_code : ℕ → Option Directive
directive_with_code code =
    if code == 4 then Some Eof else
    (if code == 5 then Some Finished else
    (if code == 6 then Some Ack else
    (if code == 7 then Some Metadata else
    (if code == 8 then Some Nak else
    (if code == 9 then Some Prompt else
    (if code == 12 then Some KeepAlive else None))))))
