-- Worked rows: what makes little sense in the reference configuration, and in changes of its remote entity.
use Rattle.std.proofs.Common.{◌≡◌, [], ◌∷◌, None, Some, refl}
use Rattle.cfdp_types.specs.Reference.{all_cancel, reference}
use Rattle.cfdp_types.specs.declared.names.Handler.TheVariants.{Suspend}
use Rattle.cfdp_types.specs.declared.names.Role.TheVariants.{RecvTwo, Send}
use Rattle.cfdp_types.specs.declared.params.ParamsParts.{ParamsParts}
use Rattle.cfdp_types.specs.Handlers.{with_handler}
use Rattle.cfdp_types.specs.Condition as condition
use Rattle.config_reading.specs.declared.remote.Remote.{Remote}
use Rattle.entity_config.specs.Reference.{reference_config}
use Rattle.server_answers.specs.declared.note.Note.TheVariants as note
use Rattle.server_answers.specs.Notes.{notes_of, remote_notes}

-- numbers of one octet, four files for two lanes, and an inactivity that is as long as the timers
whole : notes_of reference_config ≡ note.ShortNumbers ∷ note.FewLanes 4 2 ∷ note.NothingAgain (record { 0 = 1 }) ∷ []
whole = refl

-- with a longer inactivity
abbrev calm : ParamsParts
calm = record reference { timers = record { ack = 1000; nak = 1000; check = 1000; inactivity = 1001 } }

abbrev remote : ParamsParts → Remote
remote params = record { id = record { 0 = 1 }; user = Some 0; params = params }

nothing : remote_notes (remote calm) ≡ []
nothing = refl

nobody : remote_notes (record (remote calm) { user = None }) ≡ note.NoUser (record { 0 = 1 }) ∷ []
nobody = refl

soon : remote_notes (remote (record calm { timers = record { ack = 499; nak = 1000; check = 1000; inactivity = 1001 } })) ≡ note.SoonGivenUp (record { 0 = 1 }) 998 ∷ []
soon = refl

suspended : remote_notes (remote (record calm {
  tables = record {
    send = with_handler (all_cancel Send) condition.positive_ack_limit Suspend;
    receive_one = reference.tables.receive_one;
    receive_two = with_handler (all_cancel RecvTwo) condition.check_limit Suspend;
  };
}))
    ≡ note.Suspends (record { 0 = 1 }) Send ∷ note.Suspends (record { 0 = 1 }) RecvTwo ∷ []
suspended = refl
