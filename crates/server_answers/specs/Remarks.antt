-- Meaning. What the server says of things in a configuration that make little sense.
use Rattle.std.specs.Prelude.{List, ℕ, ◌++◌, codes, decimal}
use Rattle.std.specs.List.{flat_map}
use Rattle.cfdp_types.specs.declared.names.Role.{Role}
use Rattle.cfdp_types.specs.declared.names.Role.TheVariants as role
use Rattle.server_answers.specs.declared.note.Note.{Note}
use Rattle.server_answers.specs.declared.note.Note.TheVariants as note

-- the table of a role's handlers
abbrev pub table_of : Role → List ℕ
table_of role.Send = codes "send"
table_of role.RecvOne = codes "recv1"
table_of role.RecvTwo = codes "recv2"

-- what one of them means, and what to do about it
abbrev pub remark_text : Note → List ℕ
remark_text note.ShortNumbers =
    codes "`seq_octets` is 1: all lanes together have 256 numbers, for ever; better: 4"
remark_text (note.FewLanes files lanes) =
    codes "a peer with this configuration may have " ++ (decimal files ++ (codes " files open at once, and `recv_lanes` is "
    ++ (decimal lanes ++ codes ": two of them may meet in one lane, and in class 1 one of these is lost")))
remark_text (note.NoUser remote) = codes "entity " ++ (decimal remote.0 ++ codes " has no `user`: its files are refused")
remark_text (note.Suspends remote side) =
    codes "a handler in `" ++ (table_of side ++ (codes "` of entity " ++ (decimal remote.0
    ++ codes " suspends: the transaction keeps its lane until somebody resumes or cancels it")))
remark_text (note.SoonGivenUp remote milliseconds) =
    codes "entity " ++ (decimal remote.0 ++ (codes " is given up after " ++ (decimal milliseconds
    ++ codes " ms: `ack_ms` times `ack_limit` should be longer than a silence of the link")))
remark_text (note.NothingAgain remote) =
    codes "`inactivity_ms` of entity " ++ (decimal remote.0
    ++ codes " is no longer than `ack_ms` or `nak_ms`: a transaction ends before anything is sent again")

-- a line for each of them
abbrev pub remarks_text : List Note → List ℕ
remarks_text notes = flat_map (λ one. codes "note: " ++ (remark_text one ++ codes "\n")) notes
