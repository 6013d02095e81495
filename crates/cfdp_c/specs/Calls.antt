-- Meaning. What calls of C do to the session behind a handle, by the code that they answer with.
use Rattle.std.specs.Prelude.{◌≡◌, ◌<◌, ◌≤◌, ◌⊎◌, ◌+◌, ◌-◌, ℕ, ℤ, min, List, [], ◌∷◌, ◌++◌, length, slice_range, take as first, Option, Some, None, option_map, Result, Err, IsTrue}
use Rattle.cfdp_types.specs.declared.key.TxnKey.{TxnKey}
use Rattle.config_reading.specs.Faults.{fault_number}
use Rattle.config_reading.specs.Walk.{config_of}
use Rattle.config_reading.specs.declared.fault.ConfigFault.{ConfigFault}
use Rattle.config_reading.specs.declared.fault.ConfigFault.TheVariants.{BadToml}
use Rattle.world_table.specs.Histories.{Happening, held_for}
use Rattle.entity_parts.specs.FirstLanes.{first_lane}
use Rattle.cfdp_types.specs.Put.{PutValue, put_fault}
use Rattle.cfdp_types.specs.declared.put_request.PutFault.{PutFault}
use Rattle.entity_routing.specs.declared.world_event.Request.TheVariants as requests
use Rattle.entity_routing.specs.declared.world_event.WorldEvent.{WorldEvent}
use Rattle.entity_routing.specs.declared.world_event.WorldEvent.TheVariants as events
use Rattle.world_core.specs.Worlds.{MayCome, StandsAfter}
use Rattle.cfdp_session.specs.declared.session.Session.{Session}
use Rattle.cfdp_session.specs.declared.flat.FlatBundle.{FlatBundle}
use Rattle.cfdp_session.specs.declared.flat.FlatDone.{FlatDone}
use Rattle.cfdp_session.specs.declared.flat.FlatImage.{FlatImage}
use Rattle.cfdp_session.specs.Flat.{flat_bundle, flat_done}
use Rattle.cfdp_session.specs.Steps.{IsLoaded, IsMissing, IsOpened, IsQuiet, IsTaken, IsTicked, IsTold, IsUnsettled, running_in}
use Rattle.cfdp_session.specs.Kept.{timers_of}
use Rattle.cfdp_session.specs.Running.{is_before, settled}
use Rattle.cfdp_c.specs.declared.codes.TheConstants.{OK, REFUSED, NOTHING, CLOSED, OPEN, NO_MEMORY, BAD_CONFIG, NO_ROOM, UNKNOWN, MESSAGE_TOO_LONG, TOO_MANY_MESSAGES}
use Rattle.cfdp_types.specs.declared.limits.TheConstants.{MESSAGES, MESSAGE_OCTETS}
use Rattle.cfdp_c.specs.Codes.{place_text, put_code}

-- ---- events

-- the session received the event and is in the handle again, and the result is in `done`
pub record IsHandled (old : Session) (after : Option Session) (event : WorldEvent) (done : FlatDone) : Type 0 where
  pub new : Session
  pub held : after ≡ Some new
  pub told : IsTold old event old.timers.clock (running_in old) new
  pub done_is : done ≡ flat_done new.last

-- the event waits, since there was no memory for a timer of the last one; the session is in the handle again
pub record IsPutOff (old : Session) (after : Option Session) : Type 0 where
  pub new : Session
  pub held : after ≡ Some new
  pub same : IsUnsettled old new

-- OK where the entity accepted the event, REFUSED where it refused it, and UNKNOWN, with nothing changed, where it has
-- no such user or lane; NO_MEMORY where it has not got the event
abbrev pub IsAnswered : ℤ → Session → Option Session → WorldEvent → FlatDone → Type 0
IsAnswered code old after event done =
    ((code ≡ OK) × IsHandled old after event done × (done.refusal ≡ 0))
    ⊎ ((code ≡ REFUSED) × IsHandled old after event done × (done.refusal ≡ 0 → ⊥))
    ⊎ ((code ≡ UNKNOWN) × (MayCome old.world.config event → ⊥) × (after ≡ Some old))
    ⊎ ((code ≡ NO_MEMORY) × IsPutOff old after)

-- an event for a handle; for a closed one the call returns CLOSED, and the handle stays closed
abbrev pub Answers : ℤ → Option Session → Option Session → WorldEvent → FlatDone → Type 0
Answers code None after event done = (code ≡ CLOSED) × (after ≡ None)
Answers code (Some old) after event done = IsAnswered code old after event done

-- memory ran out, and nothing changed; or it is as said
abbrev pub OrNoMemory : ℤ → Option Session → Option Session → Type 0 → Type 0
OrNoMemory code before after answered = ((code ≡ NO_MEMORY) × (after ≡ before)) ⊎ answered

-- the session without the messages for the next Put
abbrev pub emptied : Session → Session
emptied session = record session { messages = [] }

-- a Put, which takes the session's messages: it can't be made, or memory ran out, or it is an event
abbrev pub IsPut : ℤ → Session → Option Session → ℕ → ℕ → PutValue → FlatDone → Type 0
IsPut code old after user lane put done =
    ((fault : PutFault) × (put_fault put.source_name put.destination_name put.messages ≡ Some fault) × (code ≡ put_code fault) × (after ≡ Some (emptied old)))
    ⊎ ((code ≡ NO_MEMORY) × (after ≡ Some (emptied old)))
    ⊎ IsAnswered code (emptied old) after (events.Request user (requests.Put lane put)) done

-- a Put for a handle, still without the messages
abbrev pub Puts : ℤ → Option Session → Option Session → ℕ → ℕ → (List (List ℕ) → PutValue) → FlatDone → Type 0
Puts code None after user lane put done = (code ≡ CLOSED) × (after ≡ None)
Puts code (Some old) after user lane put done = IsPut code old after user lane (put old.messages) done

-- the session with one more message for the next Put
abbrev pub with_message : Session → List ℕ → Session
with_message session octets = record session { messages = session.messages ++ octets ∷ [] }

-- a message is added, or it is refused and nothing changes
abbrev pub Adds : ℤ → Session → Option Session → List ℕ → Type 0
Adds code old after octets =
    ((code ≡ OK) × (after ≡ Some (with_message old octets)))
    ⊎ ((code ≡ MESSAGE_TOO_LONG) × (MESSAGE_OCTETS < length octets) × (after ≡ Some old))
    ⊎ ((code ≡ TOO_MANY_MESSAGES) × (MESSAGES ≤ length old.messages) × (after ≡ Some old))
    ⊎ ((code ≡ NO_MEMORY) × (after ≡ Some old))

-- a message for a handle
abbrev pub IsMessage : ℤ → Option Session → Option Session → List ℕ → Type 0
IsMessage code None after octets = (code ≡ CLOSED) × (after ≡ None)
IsMessage code (Some old) after octets = Adds code old after octets

-- the messages for the next Put are dropped
abbrev pub Clears : ℤ → Option Session → Option Session → Type 0
Clears code None after = (code ≡ CLOSED) × (after ≡ None)
Clears code (Some old) after = (code ≡ OK) × (after ≡ Some (emptied old))

-- ---- time

-- the session passed on a timer that had expired, and is in the handle again; the result is in `done`
pub record IsExpired (old : Session) (after : Option Session) (now : ℕ) (done : FlatDone) : Type 0 where
  pub new : Session
  pub held : after ≡ Some new
  pub ticked : IsTicked old now new
  pub done_is : done ≡ flat_done new.last

-- the time for a handle: a timer was passed on and was accepted or refused, or none has expired
abbrev pub Ticks : ℤ → Option Session → Option Session → ℕ → FlatDone → Type 0
Ticks code None after now done = (code ≡ CLOSED) × (after ≡ None)
Ticks code (Some old) after now done =
    ((code ≡ OK) × IsExpired old after now done × (done.refusal ≡ 0))
    ⊎ ((code ≡ REFUSED) × IsExpired old after now done × (done.refusal ≡ 0 → ⊥))
    ⊎ ((code ≡ NOTHING) × ((new : Session) × (after ≡ Some new) × IsQuiet old now new))
    ⊎ ((code ≡ NO_MEMORY) × IsPutOff old after)

-- the session with nothing left to do with timers
abbrev pub in_time : Session → Session
in_time session = record session { timers = settled (timers_of session.last) session.timers }

-- a time before which no timer of a handle expires, or NOTHING where none does
abbrev pub Awaits : ℤ → Option Session → Option Session → ℕ → Type 0
Awaits code None after deadline = (code ≡ CLOSED) × (after ≡ None)
Awaits code (Some old) after deadline =
    ((code ≡ OK) × (after ≡ Some (in_time old)) × IsTrue (is_before (Some deadline) (running_in old)))
    ⊎ ((code ≡ NOTHING) × (after ≡ Some (in_time old)) × IsTrue (is_before None (running_in old)))
    ⊎ ((code ≡ NO_MEMORY) × IsPutOff old after)

-- ---- what is asked

-- octets for a buffer are copied to its beginning if there are any and it has room; `len` says how many there are
abbrev pub IsCopied : ℤ → Option (List ℕ) → ℕ → List ℕ → ℕ → Type 0
IsCopied code None room buffer len = code ≡ NOTHING
IsCopied code (Some octets) room buffer len =
    (len ≡ length octets) × (length octets ≤ room → (code ≡ OK) × (first len buffer ≡ octets)) × (room < length octets → code ≡ NO_ROOM)

-- a thing is handed out, if there is one
abbrev pub IsGiven : {A : Type 0} → ℤ → Option A → A → Type 0
IsGiven code None given = code ≡ NOTHING
IsGiven code (Some thing) given = (code ≡ OK) × (given ≡ thing)

-- a question to a handle; for a closed one the call returns CLOSED
abbrev pub Asked : ℤ → Option Session → (Session → Type 0) → Type 0
Asked code None holds = code ≡ CLOSED
Asked code (Some session) holds = holds session

-- ---- bundles and files

-- a user's bundle is taken and reported, or none waits, or there is no such user
abbrev pub Takes : ℤ → Option Session → Option Session → ℕ → FlatBundle → Type 0
Takes code None after user bundle = (code ≡ CLOSED) × (after ≡ None)
Takes code (Some old) after user bundle =
    ((code ≡ OK) × ((new : Session) × (after ≡ Some new) × IsTaken old user new × (option_map flat_bundle new.front ≡ Some bundle)))
    ⊎ ((code ≡ NOTHING) × ((history : List Happening) → StandsAfter old.world history → held_for (first_lane old.world.config) history user ≡ []) × (after ≡ Some old))
    ⊎ ((code ≡ UNKNOWN) × (length old.world.config.users ≤ user) × (after ≡ Some old))

-- the file of a waiting deposit is kept and reported, or there is none
abbrev pub Loads : ℤ → Option Session → Option Session → TxnKey → ℕ → FlatImage → Type 0
Loads code None after key stamp image = (code ≡ CLOSED) × (after ≡ None)
Loads code (Some old) after key stamp image =
    ((code ≡ OK) × ((new : Session) × (after ≡ Some new) × IsLoaded old key stamp new image))
    ⊎ ((code ≡ REFUSED) × IsMissing old.world key stamp image × (after ≡ Some old))

-- octets from an offset on, as many as the buffer holds
abbrev pub IsCut : ℤ → Option (List ℕ) → ℕ → ℕ → List ℕ → ℕ → Type 0
IsCut code None offset room buffer len = code ≡ NOTHING
IsCut code (Some octets) offset room buffer len =
    (length octets < offset → code ≡ NOTHING)
    × (offset ≤ length octets → (code ≡ OK) × (len ≡ min room (length octets - offset)) × (first len buffer ≡ slice_range octets offset (offset + len)))

-- ---- opening

-- the reason for which a configuration's text is refused, by its number, and its place by its name
pub record IsFault (text : List ℕ) (fault : ℕ) (room : ℕ) (place : List ℕ) (len : ℕ) : Type 0 where
  pub why : ConfigFault
  pub found : (why ≡ BadToml) ⊎ (config_of text ≡ Err why)
  pub number : fault ≡ fault_number why
  pub length_is : len ≡ length (place_text why)
  pub name : length (place_text why) ≤ room → first len place ≡ place_text why

-- a closed handle is opened, unless memory runs out or the configuration is refused
abbrev pub Opens : ℤ → Option Session → Option Session → List ℕ → Type 0 → Type 0
Opens code (Some old) after text refused = (code ≡ OPEN) × (after ≡ Some old)
Opens code None after text refused =
    ((code ≡ OK) × ((session : Session) × (after ≡ Some session) × IsOpened text session))
    ⊎ ((code ≡ NO_MEMORY) × (after ≡ None))
    ⊎ ((code ≡ BAD_CONFIG) × (after ≡ None) × refused)

-- whatever the handle held is freed
abbrev pub Closes : ℤ → Option Session → Option Session → Type 0
Closes code None after = (code ≡ CLOSED) × (after ≡ None)
Closes code (Some old) after = (code ≡ OK) × (after ≡ None)
