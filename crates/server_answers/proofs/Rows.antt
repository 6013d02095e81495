-- Worked rows: lines of answers, and what is said of a configuration that makes little sense.
use Rattle.std.proofs.Common.{◌≡◌, [], ◌∷◌, codes, map, refl}
use Rattle.std.specs.Fmt.{digits}
use Rattle.cfdp_types.specs.declared.names.Role.TheVariants as role
use Rattle.server_answers.specs.declared.note.Note.TheVariants as note
use Rattle.server_answers.specs.Answers.{bad_command_line, no_memory_line, too_large_line}
use Rattle.server_answers.specs.Remarks.{remark_text, remarks_text, table_of}

no_memory : no_memory_line ≡ codes "refused 12 NoMemory\n"
unfolding digits
no_memory = refl

too_large : too_large_line ≡ codes "refused 10 TooLarge\n"
unfolding digits
too_large = refl

bad_command : bad_command_line ≡ codes "bad command\n"
bad_command = refl

tables : map table_of (role.Send ∷ role.RecvOne ∷ role.RecvTwo ∷ []) ≡ codes "send" ∷ codes "recv1" ∷ codes "recv2" ∷ []
tables = refl

of_numbers_and_lanes : remarks_text (note.ShortNumbers ∷ note.FewLanes 4 2 ∷ [])
    ≡ codes "note: `seq_octets` is 1: all lanes together have 256 numbers, for ever; better: 4\nnote: a peer with this configuration may have 4 files open at once, and `recv_lanes` is 2: two of them may meet in one lane, and in class 1 one of these is lost\n"
unfolding digits
of_numbers_and_lanes = refl

of_remotes : map remark_text (note.NoUser (record { 0 = 7 }) ∷ note.Suspends (record { 0 = 7 }) role.RecvOne
    ∷ note.SoonGivenUp (record { 0 = 7 }) 900 ∷ note.NothingAgain (record { 0 = 7 }) ∷ [])
    ≡ codes "entity 7 has no `user`: its files are refused"
    ∷ codes "a handler in `recv1` of entity 7 suspends: the transaction keeps its lane until somebody resumes or cancels it"
    ∷ codes "entity 7 is given up after 900 ms: `ack_ms` times `ack_limit` should be longer than a silence of the link"
    ∷ codes "`inactivity_ms` of entity 7 is no longer than `ack_ms` or `nak_ms`: a transaction ends before anything is sent again"
    ∷ []
unfolding digits
of_remotes = refl
