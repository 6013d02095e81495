-- Worked rows: what lines do to a session, which are bad, and what is printed.
use Rattle.std.proofs.Common.{◌≡◌, ℕ, ◌<◌, ◌+◌, true, false, List, [], ◌∷◌, map, length, take, sym, ap, Option, Some, None, Result, Ok, Err, codes, inl, inr, refl, arith, ⊎_elim}
use Rattle.std.specs.Prelude.{is_ok, if◌then◌else◌, ⊤}
use Rattle.std.specs.Fmt.{digits}
use Rattle.std.proofs.lemmas.List.{length-take}
use Rattle.cfdp_types.specs.declared.key.TxnKey.{TxnKey}
use Rattle.txn_events.specs.declared.refusal.Refusal.TheVariants as refusal
use Rattle.txn_events.specs.Examples.{abc, put_value}
use Rattle.cfdp_types.specs.declared.names.Class.TheVariants.{One}
use Rattle.indications.specs.declared.indication.Indication.TheVariants as told
use Rattle.lane_table.specs.Steps.{plainly}
use Rattle.pdu_reading.specs.declared.fault.DecodeFault.TheVariants as faults
use Rattle.world_table.specs.Histories.{takes}
use Rattle.config_reading.specs.Values.{ConfigValue}
use Rattle.entity_config.specs.declared.setting.Setting.TheVariants as setting
use Rattle.entity_config.specs.Reference.{reference_config}
use Rattle.entity_routing.specs.declared.refusal.RouteRefusal.TheVariants as routes
use Rattle.entity_routing.specs.declared.world_event.Request.TheVariants as requests
use Rattle.entity_routing.specs.declared.world_event.WorldEvent.TheVariants as events
use Rattle.entity_parts.specs.declared.refusal.EntityRefusal.TheVariants as answer
use Rattle.script_lines.specs.Commands.{command_of}
use Rattle.script_lines.specs.declared.command.Command.{Command}
use Rattle.script_lines.specs.declared.command.Command.TheVariants as command
use Rattle.script_io.specs.declared.fault.TheConstants.{INTERRUPTIONS}
use Rattle.script_io.specs.declared.input.TheConstants.{LINE_OCTETS}
use Rattle.script_io.specs.declared.fault.ReplayFault.{ReplayFault}
use Rattle.script_io.specs.declared.fault.ReplayFault.TheVariants as stop
use Rattle.script_io.specs.Ending.{beside_text}
use Rattle.script_io.specs.Lines.{line_octets}
use Rattle.script_replay.specs.declared.run.TheConstants.{LINES}
use Rattle.script_replay.specs.Run.{PlaysLine, Prints, StopsBehind, StopsAt, Replays, EndsRun}
use Rattle.script_replay.specs.Sessions.{Session, fresh, configured, left_by, with_history, is_put, history_taken, Answers, IsBadFor}
use Rattle.script_replay.specs.Texts.{user_name, route_text, answer_text, taken_text}

abbrev pub key : TxnKey
key = record { source = record { 0 = 1 }; seq = 5 }

-- ---- what is printed

names : map (user_name reference_config) (0 ∷ 1 ∷ 2 ∷ []) ≡ codes "alice" ∷ codes "bob" ∷ [] ∷ []
names = refl

routes_printed : map route_text (routes.DecodeFault faults.TooShort ∷ routes.DecodeFault faults.NoFileName ∷ routes.NotForUs ∷ routes.WrongDirection
    ∷ routes.NoRoute ∷ routes.NotYours ∷ routes.UnknownRemote ∷ [])
    ≡ codes "refused 20 DecodeFault 1\n" ∷ codes "refused 20 DecodeFault 8\n" ∷ codes "refused 21 NotForUs\n" ∷ codes "refused 22 WrongDirection\n"
    ∷ codes "refused 23 NoRoute\n" ∷ codes "refused 24 NotYours\n" ∷ codes "refused 25 UnknownRemote\n" ∷ []
unfolding digits
routes_printed = refl

refusals_printed : map (answer_text false) (Err (answer.Lane (plainly refusal.QueueFull)) ∷ Err (answer.Route routes.NoRoute) ∷ [])
    ≡ codes "refused 13 QueueFull\n" ∷ codes "refused 23 NoRoute\n" ∷ []
unfolding digits
refusals_printed = refl

takes_printed : map (taken_text (codes "bob")) (None ∷ Some (record { user = 1; lane = 3; key = key; inds = told.EofRecv ∷ told.Resumed 9 ∷ [] }) ∷ [])
    ≡ codes "none\n" ∷ codes "bob 1 5 EOF-Recv\nbob 1 5 Resumed 9\n" ∷ []
unfolding digits
takes_printed = refl

puts : map is_put (events.Request 0 (requests.Put 1 (put_value One abc)) ∷ events.Request 0 (requests.Cancel key) ∷ events.Pump key ∷ [])
    ≡ true ∷ false ∷ false ∷ []
puts = refl

-- ---- settings

-- room for one bundle instead of eight
abbrev pub narrow : ConfigValue
narrow = record reference_config { entity = record reference_config.entity { capacity = 1 } }

set_early : Answers fresh (command.Set (setting.Capacity 1)) (record { config = narrow; may_set = true; gathered = None; history = [] }) []
set_early = record { early = refl; config = narrow; set = refl; after_is = refl; silent = refl }

-- once anything has happened no setting may come
set_late : IsBadFor (with_history fresh []) (Some (command.Set (setting.Capacity 1)))
set_late = inl refl

never_answered : (after : Session) (text : List ℕ) → Answers (with_history fresh []) (command.Set (setting.Capacity 1)) after text → ⊥
never_answered after text set = let early = set.early in cc

set_out_of_range : IsBadFor fresh (Some (command.Set (setting.Capacity 0)))
set_out_of_range = inr refl

set_well : IsBadFor fresh (Some (command.Set (setting.Capacity 1))) → ⊥
set_well bad = ⊎_elim (λ late. cc) (λ refused. cc) bad

-- ---- files in pieces

abbrev begun : Session
begun = configured reference_config

first_piece : Answers begun (command.File (codes "ab")) (record begun { gathered = Some (codes "ab") }) []
first_piece = record { front = []; gathers = refl; after_is = refl; silent = refl }

second_piece : Answers (record begun { gathered = Some (codes "ab") }) (command.File (codes "c")) (record begun { gathered = Some (codes "abc") }) []
second_piece = record { front = codes "ab"; gathers = refl; after_is = refl; silent = refl }

no_pieces : IsBadFor fresh (Some (command.File (codes "ab")))
no_pieces = refl

pieces_are_good : IsBadFor begun (Some (command.File (codes "ab"))) → ⊥
pieces_are_good bad = cc bad

-- a put uses them up, another event doesn't
used_up : map (λ put. left_by put (Some (codes "abc"))) (true ∷ false ∷ []) ≡ Some [] ∷ Some (codes "abc") ∷ []
used_up = refl

never_gathered : left_by true None ≡ None
never_gathered = refl

-- ---- takes

nothing_waits : Answers fresh (command.Take 1) (with_history fresh []) (codes "none\n")
nothing_waits = record { may = omega (arith); taken = None; gives = refl; after_is = refl; printed = refl }

nobody_takes : IsBadFor fresh (Some (command.Take 2))
nobody_takes = omega (arith)

bob_may_take : IsBadFor fresh (Some (command.Take 1)) → ⊥
bob_may_take bad = omega (arith, bad)

taken_then : (bundle : _) → history_taken [] 1 (Some bundle) ≡ takes 1 ∷ []
taken_then bundle = refl

not_taken_then : history_taken (takes 0 ∷ []) 1 None ≡ takes 0 ∷ []
not_taken_then = refl

-- ---- events

no_such_user : IsBadFor fresh (Some (command.Event (events.Request 2 (requests.Report key))))
no_such_user = λ may. omega (arith, may)

no_such_lane : IsBadFor fresh (Some (command.Event (events.Request 1 (requests.Put 2 (put_value One abc)))))
no_such_lane = λ may. let within = may.1 in omega (arith, within)

pumps_may_come : IsBadFor fresh (Some (command.Event (events.Pump key))) → ⊥
pumps_may_come bad = bad tt

-- a pump of what is not there is refused, and changes nothing but that no setting may come now
no_transaction : Answers fresh (command.Event (events.Pump key)) (with_history fresh []) (codes "refused 1 NoTransaction\n")
unfolding digits
no_transaction = record {
  may = tt;
  result = Err (answer.Lane (plainly refusal.NoTransaction));
  answered = inl (record { taken = tt; refused = (plainly refusal.NoTransaction, refl, inl refl) });
  after_is = refl;
  printed = refl;
}

-- ---- the others

remark : Answers fresh command.Nothing fresh []
remark = (refl, refl)

remark_is_good : IsBadFor fresh (Some command.Nothing) → ⊥
remark_is_good bad = bad

says_nothing_known : IsBadFor fresh None
says_nothing_known = tt

-- ---- the numbers of scripts, as they stand in the code

lines : LINES ≡ 1000000
lines = refl

octets_of_a_line : LINE_OCTETS ≡ line_octets
octets_of_a_line = refl

interruptions : INTERRUPTIONS ≡ 1000000
interruptions = refl

-- ---- whole scripts

-- no script with more lines comes to its end
too_many_lines : (script : List (List ℕ)) (old new : Option (List ℕ)) → LINES < length script → Replays fresh (Ok tt) script old new → ⊥
too_many_lines script old new more ends = let few = ends.plays.0 in omega (arith, more, few)

-- no line that is too long is played
too_long_a_line : (session after : Session) (line text : List ℕ) → line_octets < length line → PlaysLine session line after text → ⊥
too_long_a_line session after line text long plays = let short = plays.short in omega (arith, long, short)

-- no bad line has a greater number than the one behind the last that there may be
no_later_bad_line : (script : List (List ℕ)) (number : ℕ) (text : List ℕ) → LINES + 1 < number → StopsAt fresh script number text → ⊥
no_later_bad_line script number text later stops =
    let few = stops.few in
    let is = stops.number_is in omega (arith, later, few, is)

-- a script of two lines, of which the second is a bad one
abbrev pub script : List (List ℕ)
script = codes "take bob" ∷ codes "set" ∷ []

taken_by_bob : PlaysLine fresh (codes "take bob") (with_history fresh []) (codes "none\n")
taken_by_bob = record { command = command.Take 1; short = omega arith; says = refl; answers = nothing_waits }

first_line : Prints fresh (codes "take bob" ∷ []) (codes "none\n")
first_line = record {
  after = with_history fresh [];
  plays = (with_history fresh [], codes "none\n", [], taken_by_bob, (refl, refl), refl);
}

second_is_bad : StopsAt fresh script 2 (codes "none\n")
unfolding first_line
second_is_bad = record {
  place = 1;
  number_is = refl;
  few = omega arith;
  prints = first_line;
  bad = record { line = codes "set"; there = refl; bad = inr (inr tt) };
}

stops_at_it : Replays fresh (Err (stop.BadLine 2)) script (Some []) (Some (codes "none\n"))
stops_at_it = record { text = codes "none\n"; plays = second_is_bad; written = refl }

-- its first line as a whole script, and where the reader fails behind it, or the writer in its answer
whole_script : Replays fresh (Ok tt) (codes "take bob" ∷ []) (Some []) (Some (codes "none\n"))
whole_script = record { text = codes "none\n"; plays = (omega arith, first_line); written = refl }

behind_one_line : StopsBehind fresh script (codes "none\n")
behind_one_line = record { count = 1; within = omega arith; few = omega arith; prints = first_line }

reader_failed : Replays fresh (Err stop.Read) script (Some []) (Some (codes "none\n"))
reader_failed = record { text = codes "none\n"; plays = behind_one_line; written = refl }

writer_failed : Replays fresh (Err stop.Write) script (Some []) (Some (codes "no"))
writer_failed = record { text = codes "none\n"; plays = behind_one_line; written = (2, refl) }

says_none : (said : Command) → command_of reference_config None (codes "set") ≡ Some said → ⊥
says_none said says = cc

-- it does not come to its end
never_whole : (old new : Option (List ℕ)) → Replays fresh (Ok tt) script old new → ⊥
never_whole old new ends = let second = ends.plays.1.plays.4.3 in absurd (says_none second.command second.says)

-- ---- the ends of runs

told_of_it : EndsRun fresh 1 script (Some []) (Some (codes "none\nline 2: bad line\n")) (Some []) (Some [])
unfolding digits
told_of_it = record {
  ended = Err (stop.BadLine 2);
  status_is = refl;
  mid = Some (codes "none\n");
  replays = stops_at_it;
  answered = (17, refl);
  beside = (0, refl);
}

told_beside : EndsRun fresh 1 script (Some []) (Some (codes "none\n")) (Some []) (Some (codes "read fault\n"))
told_beside = record {
  ended = Err stop.Read;
  status_is = refl;
  mid = Some (codes "none\n");
  replays = reader_failed;
  answered = (0, refl);
  beside = (11, refl);
}

ends_well : EndsRun fresh 0 (codes "take bob" ∷ []) (Some []) (Some (codes "none\n")) (Some []) (Some [])
ends_well = record { ended = Ok tt; status_is = refl; mid = Some (codes "none\n"); replays = whole_script; answered = (0, refl); beside = (0, refl) }

-- nothing is told of a run that ended well, and it has the status 0
abbrev status_of : Result ⊤ ReplayFault → ℕ
status_of ended = if is_ok ended then 0 else 1

says_nothing : (ended : Result ⊤ ReplayFault) (n : ℕ) → status_of ended ≡ 0 → codes "read fault\n" ≡ take n (beside_text ended) → ⊥
says_nothing (Ok done) n status told = let more = ap length told in absurd (omega (arith, more, length-take n (beside_text (Ok done))))
says_nothing (Err why) n status told = absurd (omega (arith, status))

never_told : (others : List (List ℕ)) (old new : Option (List ℕ)) → EndsRun fresh 0 others old new (Some []) (Some (codes "read fault\n")) → ⊥
never_told others old new run = says_nothing run.ended run.beside.0 (sym run.status_is) run.beside.1
