use Rattle.std.proofs.Common.{◌≡◌, ◌++◌, take}
use Rattle.std.specs.Prelude.{string_bytes}
use Rattle.std.specs.List.{flat_map}
use Rattle.script_explained.specs.Words.{request_text}
use Rattle.script_explained.proofs.pdus.push_nak.Given as goal

-- so many requests are written
abbrev pub invariant-loop-request : goal.invariant-loop-request
invariant-loop-request l = string_bytes l.text ≡ string_bytes l.initial.text ++ flat_map request_text (take l.request-index l.request-items)
