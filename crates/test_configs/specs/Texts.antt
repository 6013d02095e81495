-- Meaning. The text of a configuration, table by table.
use Rattle.std.specs.Prelude.{ℕ, List, ◌++◌, codes, decimal}
use Rattle.std.specs.List.{flat_map}
use Rattle.test_configs.specs.declared.entity.EntityText.{EntityText}
use Rattle.test_configs.specs.declared.entity.RemoteText.{RemoteText}

-- the table of the entity itself
unfoldable pub entity_part : EntityText → List ℕ
entity_part entity =
    codes "[entity]\nid = " ++ (decimal entity.id
    ++ (codes "\nid_octets = 1\nseq_octets = 1\nfirst = 1\nput_lanes = " ++ (decimal entity.put_lanes
    ++ (codes "\nrecv_lanes = " ++ (decimal entity.receive_lanes
    ++ (codes "\ncapacity = " ++ (decimal entity.capacity ++ codes "\nsegment = 256\n")))))))

-- the table of a user
unfoldable pub user_part : List ℕ → List ℕ
user_part name = codes "[[user]]\nname = \"" ++ (name ++ codes "\"\n")

-- the table of a remote entity, without its timers
unfoldable pub remote_part : RemoteText → List ℕ
remote_part remote =
    codes "[[remote]]\nid = " ++ (decimal remote.id
    ++ (codes "\naddress = \"127.0.0.1:" ++ (decimal remote.port
    ++ (codes "\"\nuser = \"" ++ (remote.user.now
    ++ codes "\"\nack_limit = 2\nnak_limit = 2\ncheck_limit = 2\n")))))

-- the timers of a remote entity
unfoldable pub timers_part : RemoteText → List ℕ
timers_part remote =
    codes "ack_ms = " ++ (decimal remote.timers_ms
    ++ (codes "\nnak_ms = " ++ (decimal remote.timers_ms
    ++ (codes "\ncheck_ms = " ++ (decimal remote.timers_ms
    ++ (codes "\ninactivity_ms = " ++ (decimal remote.inactivity_ms ++ codes "\n")))))))

-- the whole text
abbrev pub text_shown : EntityText → List ℕ
text_shown entity =
    (entity_part entity ++ flat_map (λ user. user_part user.now) entity.users.now)
    ++ flat_map (λ remote. remote_part remote ++ timers_part remote) entity.remotes.now
