use Rattle.std.proofs.Common.{◌≡◌, ◌++◌, take, string_bytes}
use Rattle.std.specs.List.{flat_map}
use Rattle.test_configs.specs.Texts.{remote_part, timers_part, user_part}
use Rattle.test_configs.proofs.text.text_of.Given as goal

-- the tables of the users so far are added
abbrev pub invariant-loop-user : goal.invariant-loop-user
invariant-loop-user l =
    string_bytes l.text ≡ string_bytes l.initial.text ++ flat_map (λ user. user_part user.now) (take l.user-index l.user-items)

-- those of the remote entities so far are added
abbrev pub invariant-loop-remote : goal.invariant-loop-remote
invariant-loop-remote l =
    string_bytes l.text ≡ string_bytes l.initial.text
    ++ flat_map (λ remote. remote_part remote ++ timers_part remote) (take l.remote-index l.remote-items)
