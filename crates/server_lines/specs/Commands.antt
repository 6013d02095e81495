-- Meaning. What a line of a server's commands asks for, by a configuration.
use Rattle.std.specs.Prelude.{ℕ, ◌==◌, ◌||◌, Bool, true, false, nat_lt, if◌then◌else◌, List, [], ◌∷◌, length, Option, Some, None, codes}
use Rattle.std.specs.Option.{option_map}
use Rattle.std.specs.Str.{bytes_eq}
use Rattle.cfdp_types.specs.declared.limits.TheConstants.{NAME_OCTETS}
use Rattle.config_reading.specs.Values.{ConfigValue}
use Rattle.line_words.specs.Operands.{◌>>=◌, number_of, key_from, class_of, closure_of, request_for}
use Rattle.line_words.specs.Places.{user_of, lane_of}
use Rattle.line_words.specs.Words.{decimal_of}
use Rattle.event_levels.specs.Levels.{level_named}
use Rattle.event_levels.specs.declared.level.Level.{Level}
use Rattle.line_words.specs.Quoted.{words_in}
use Rattle.server_lines.specs.declared.command.Command.{Command}
use Rattle.server_lines.specs.declared.command.Command.TheVariants as command
use Rattle.server_lines.specs.declared.command.Tuning.TheVariants as tuning
use Rattle.server_lines.specs.declared.options.SendOptions.{SendOptions}
use Rattle.server_lines.specs.declared.sending.Sending.{Sending}
use Rattle.server_lines.specs.declared.sending.Waiting.{Waiting}

-- ---- words

-- a file name: neither empty nor too long
abbrev pub file_name_of : List ℕ → Option (List ℕ)
file_name_of word = if (length word == 0) || nat_lt NAME_OCTETS (length word) then None else Some word

-- ---- files to be sent

-- CLASS DEST SRC DST, with closure asked for or not
abbrev pub sending_from : List ℕ → List ℕ → List ℕ → List ℕ → Bool → Option Sending
sending_from class destination source destination_name closure = do
  of_class ← class_of class
  to ← number_of destination
  from_name ← file_name_of source
  to_name ← file_name_of destination_name
  Some (record { class = of_class; closure = closure; destination = record { 0 = to }; source = from_name; destination_name = to_name })

-- the same words, with or without the word `closure` after them
abbrev pub sending_of : List (List ℕ) → Option Sending
sending_of (class ∷ destination ∷ source ∷ destination_name ∷ operands) = do
  closure ← closure_of operands
  sending_from class destination source destination_name closure
sending_of operands = None

-- a file to be sent from one of a user's lanes
abbrev pub put_command : ℕ → ℕ → Sending → Command
put_command user lane sending =
    command.Put (record {
      user = user;
      lane = lane;
      class = sending.class;
      closure = sending.closure;
      destination = sending.destination;
      source = sending.source;
      destination_name = sending.destination_name;
    })

-- ---- files that wait

-- what a send asks for besides its file, without another source name
abbrev pub options : Bool → Bool → SendOptions
options closure urgent = record { closure = closure; is_urgent = urgent; source_name = None }

-- as NAME, and nothing else
abbrev pub name_from : Bool → Bool → List ℕ → List (List ℕ) → Option SendOptions
name_from closure urgent word (name ∷ []) =
    if bytes_eq word (codes "as") then option_map (λ of_name. record { closure = closure; is_urgent = urgent; source_name = Some of_name }) (file_name_of name)
    else None
name_from closure urgent word words = None

-- what comes after the word `urgent`, and then what comes from it on: as NAME, or nothing
abbrev pub after_urgent : Bool → List (List ℕ) → Option SendOptions
after_urgent closure [] = Some (options closure true)
after_urgent closure (word ∷ words) = name_from closure true word words

abbrev pub urgent_from : Bool → List ℕ → List (List ℕ) → Option SendOptions
urgent_from closure word words = if bytes_eq word (codes "urgent") then after_urgent closure words else name_from closure false word words

-- what comes after the word `closure`, and then all: closure, urgent, as NAME, each or none, in this order
abbrev pub after_closure : List (List ℕ) → Option SendOptions
after_closure [] = Some (options true false)
after_closure (word ∷ words) = urgent_from true word words

abbrev pub options_of : List (List ℕ) → Option SendOptions
options_of [] = Some (options false false)
options_of (word ∷ words) = if bytes_eq word (codes "closure") then after_closure words else urgent_from false word words

-- a file with what else is asked for
abbrev pub with_options : SendOptions → Option Sending → Option Waiting
with_options asked sending = option_map (λ of_sending. record { sending = of_sending; is_urgent = asked.is_urgent; source_name = asked.source_name }) sending

-- CLASS DEST SRC DST, and what else is asked for
abbrev pub waiting_of : List (List ℕ) → Option Waiting
waiting_of (class ∷ destination ∷ source ∷ destination_name ∷ operands) = do
  asked ← options_of operands
  with_options asked (sending_from class destination source destination_name asked.closure)
waiting_of operands = None

-- a file that waits for one of a user's lanes
abbrev pub send_command : ℕ → Waiting → Command
send_command user waiting =
    command.Send (record {
      user = user;
      class = waiting.sending.class;
      closure = waiting.sending.closure;
      destination = waiting.sending.destination;
      source = waiting.sending.source;
      destination_name = waiting.sending.destination_name;
      is_urgent = waiting.is_urgent;
      source_name = waiting.source_name;
    })

-- ---- from which lane

-- put USER LANE and the file to be sent
abbrev pub put_at : ConfigValue → List ℕ → List ℕ → List (List ℕ) → Option Command
put_at config user lane operands = do
  of_user ← user_of config user
  of_lane ← lane_of config lane
  sending ← sending_of operands
  Some (put_command of_user of_lane sending)

abbrev pub put_of : ConfigValue → List (List ℕ) → Option Command
put_of config (user ∷ lane ∷ operands) = put_at config user lane operands
put_of config operands = None

-- send USER and the file to be sent
abbrev pub send_at : ConfigValue → List ℕ → List (List ℕ) → Option Command
send_at config user operands = do
  of_user ← user_of config user
  waiting ← waiting_of operands
  Some (send_command of_user waiting)

abbrev pub send_of : ConfigValue → List (List ℕ) → Option Command
send_of config (user ∷ operands) = send_at config user operands
send_of config operands = None

-- ---- other lines

-- a user's request, from its four words
abbrev pub asked_from : ConfigValue → List ℕ → List ℕ → List ℕ → List ℕ → Option Command
asked_from config kind user source seq = do
  of_user ← user_of config user
  key ← key_from source seq
  request ← request_for kind key
  Some (command.Ask of_user request)

-- cancel USER SOURCE SEQ, and the like
abbrev pub asked_of : ConfigValue → List ℕ → List (List ℕ) → Option Command
asked_of config kind (user ∷ source ∷ seq ∷ []) = asked_from config kind user source seq
asked_of config kind operands = None

-- take USER
abbrev pub take_of : ConfigValue → List (List ℕ) → Option Command
take_of config (user ∷ []) = option_map command.Take (user_of config user)
take_of config operands = None

-- trace SOURCE SEQ
abbrev pub trace_of : List (List ℕ) → Option Command
trace_of (source ∷ seq ∷ []) = option_map command.Trace (key_from source seq)
trace_of operands = None

-- journal SOURCE SEQ
abbrev pub journal_of : List (List ℕ) → Option Command
journal_of (source ∷ seq ∷ []) = option_map command.Journal (key_from source seq)
journal_of operands = None

-- status, and nothing else
abbrev pub status_of : List (List ℕ) → Option Command
status_of [] = Some command.Status
status_of operands = None

-- quit, and nothing else
abbrev pub quit_of : List (List ℕ) → Option Command
quit_of [] = Some command.Quit
quit_of operands = None

-- outbox, and nothing else
abbrev pub outbox_of : List (List ℕ) → Option Command
outbox_of [] = Some command.Outbox
outbox_of operands = None

-- drop and the number of a file in the outbox
abbrev pub drop_of : List (List ℕ) → Option Command
drop_of (number ∷ []) = option_map command.Drop (number_of number)
drop_of operands = None

-- ---- what changes the server, or watches a part of it

-- a number from 1 to a limit
abbrev pub positive_of : ℕ → List ℕ → Option ℕ
positive_of most word = do
  number ← decimal_of most word
  if number == 0 then None else Some number

-- a limit in octets a second; `off` lifts it
abbrev pub rate_in : List ℕ → Option (Option ℕ)
rate_in word = if bytes_eq word (codes "off") then Some None else option_map Some (positive_of 1000000000 word)

-- rate N, for all remote entities together
abbrev pub rate_all : List ℕ → Option Command
rate_all limit = option_map (λ of_limit. command.Tune (tuning.Rate None of_limit)) (rate_in limit)

-- rate REMOTE N, and nothing else
abbrev pub rate_from : List ℕ → List ℕ → List (List ℕ) → Option Command
rate_from remote limit [] = do
  id ← number_of remote
  of_limit ← rate_in limit
  Some (command.Tune (tuning.Rate (Some (record { 0 = id })) of_limit))
rate_from remote limit operands = None

abbrev pub rate_of : List (List ℕ) → Option Command
rate_of [] = None
rate_of (limit ∷ []) = rate_all limit
rate_of (remote ∷ limit ∷ operands) = rate_from remote limit operands

-- hold all, or hold REMOTE
abbrev pub hold_of : List (List ℕ) → Option Command
hold_of (word ∷ []) =
    if bytes_eq word (codes "all") then Some (command.Tune tuning.HoldAll)
    else option_map (λ id. command.Hold (record { 0 = id })) (number_of word)
hold_of operands = None

-- release all, or release REMOTE
abbrev pub release_alone : List ℕ → Option Command
release_alone word =
    if bytes_eq word (codes "all") then Some (command.Tune tuning.ReleaseAll)
    else option_map (λ id. command.Release (record { 0 = id })) (number_of word)

-- release REMOTE SECONDS, and nothing else
abbrev pub release_for : List ℕ → List ℕ → List (List ℕ) → Option Command
release_for remote seconds [] = do
  id ← number_of remote
  of_seconds ← positive_of 86400 seconds
  Some (command.Tune (tuning.ReleaseFor (record { 0 = id }) of_seconds))
release_for remote seconds operands = None

abbrev pub release_of : List (List ℕ) → Option Command
release_of [] = None
release_of (word ∷ []) = release_alone word
release_of (remote ∷ seconds ∷ operands) = release_for remote seconds operands

-- what comes after follow N: a level, or nothing
abbrev pub follow_by : ℕ → List (List ℕ) → Option Command
follow_by count [] = Some (command.Follow count)
follow_by count (word ∷ []) = option_map (λ level. command.Tune (tuning.FollowFrom count level)) (level_named word)
follow_by count words = None

-- follow LEVEL, and nothing else
abbrev pub follow_from : Level → List (List ℕ) → Option Command
follow_from level [] = Some (command.Tune (tuning.FollowFrom 0 level))
follow_from level words = None

-- the first word is a level, or else a number of events
abbrev pub follow_first : Option Level → List ℕ → List (List ℕ) → Option Command
follow_first (Some level) word words = follow_from level words
follow_first None word words = do
  count ← number_of word
  follow_by count words

-- follow [N] [LEVEL]
abbrev pub follow_of : List (List ℕ) → Option Command
follow_of [] = Some (command.Follow 0)
follow_of (word ∷ words) = follow_first (level_named word) word words

-- reopen, and nothing else
abbrev pub reopen_of : List (List ℕ) → Option Command
reopen_of [] = Some (command.Tune tuning.Reopen)
reopen_of operands = None

-- by the first word: what changes the server, or else a user's request
abbrev pub tuning_by : ConfigValue → List ℕ → List (List ℕ) → Option Command
tuning_by config kind operands =
    if bytes_eq kind (codes "rate") then rate_of operands
    else if bytes_eq kind (codes "reopen") then reopen_of operands
    else asked_of config kind operands

-- by the first word: the outbox or a link, or else what changes the server
abbrev pub outbox_by : ConfigValue → List ℕ → List (List ℕ) → Option Command
outbox_by config kind operands =
    if bytes_eq kind (codes "outbox") then outbox_of operands
    else if bytes_eq kind (codes "drop") then drop_of operands
    else if bytes_eq kind (codes "hold") then hold_of operands
    else if bytes_eq kind (codes "release") then release_of operands
    else tuning_by config kind operands

-- by the first word: the other commands that send no file
abbrev pub other_by : ConfigValue → List ℕ → List (List ℕ) → Option Command
other_by config kind operands =
    if bytes_eq kind (codes "take") then take_of config operands
    else if bytes_eq kind (codes "trace") then trace_of operands
    else if bytes_eq kind (codes "journal") then journal_of operands
    else if bytes_eq kind (codes "status") then status_of operands
    else if bytes_eq kind (codes "follow") then follow_of operands
    else if bytes_eq kind (codes "quit") then quit_of operands
    else outbox_by config kind operands

abbrev pub command_by : ConfigValue → List ℕ → List (List ℕ) → Option Command
command_by config kind operands =
    if bytes_eq kind (codes "put") then put_of config operands
    else if bytes_eq kind (codes "send") then send_of config operands
    else other_by config kind operands

-- ---- whole lines

abbrev pub command_of_words : ConfigValue → List (List ℕ) → Option Command
command_of_words config [] = None
command_of_words config (kind ∷ operands) = command_by config kind operands

-- what a line asks for, or nothing where it is not a command
abbrev pub command_of : ConfigValue → List ℕ → Option Command
command_of config line = do
  words ← words_in line
  command_of_words config words
