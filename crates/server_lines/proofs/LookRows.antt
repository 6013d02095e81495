-- Worked rows: which lines only look at the station, by the reference configuration.
use Rattle.std.proofs.Common.{◌≡◌, true, false, [], ◌∷◌, map, replicate, Some, codes, refl}
use Rattle.std.specs.Option.{option_map}
use Rattle.entity_config.specs.Reference.{reference_config}
use Rattle.server_lines.specs.Commands.{command_of}
use Rattle.server_lines.specs.Looks.{only_looks}

looks : map (λ line. option_map only_looks (command_of reference_config line)) (codes "status" ∷ codes "follow" ∷ codes "follow 10" ∷ codes "follow 10 info"
    ∷ codes "follow warning" ∷ codes "outbox" ∷ codes "journal 2 4" ∷ [])
    ≡ replicate 7 (Some true)
looks = refl

changes : map (λ line. option_map only_looks (command_of reference_config line)) (codes "put alice 0 1 1 a b" ∷ codes "send alice 1 1 a b" ∷ codes "cancel alice 2 4"
    ∷ codes "report alice 2 4" ∷ codes "take bob" ∷ codes "trace 2 4" ∷ codes "drop 1" ∷ codes "hold 7" ∷ codes "release 7" ∷ codes "quit" ∷ [])
    ≡ replicate 10 (Some false)
changes = refl

tunes : map (λ line. option_map only_looks (command_of reference_config line)) (codes "rate 7 off" ∷ codes "hold all" ∷ codes "release all" ∷ codes "release 7 600"
    ∷ codes "reopen" ∷ [])
    ≡ replicate 5 (Some false)
tunes = refl
