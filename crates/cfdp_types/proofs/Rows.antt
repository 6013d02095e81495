-- Worked rows: what the definitions give, computed.
use Rattle.std.proofs.Common.{◌≡◌, ℕ, Bool, true, false, List, [], ◌∷◌, map, replicate, Some, None, refl, arith}
use Rattle.cfdp_types.specs.Handlers.{IsFaultTable, act, handler_in, is_allowed, with_handler}
use Rattle.cfdp_types.specs.Params.{IsParams, table_for, timer_length}
use Rattle.cfdp_types.specs.declared.params.ParamsParts.{ParamsParts}
use Rattle.cfdp_types.specs.Put.{put_fault}
use Rattle.cfdp_types.specs.Reference.{all_cancel}
use Rattle.cfdp_types.specs.ChecksumType.{type_of}
use Rattle.cfdp_types.specs.declared.names.Checksum.TheVariants.{Modular, Null}
use Rattle.cfdp_types.specs.declared.names.Handler.{Handler}
use Rattle.cfdp_types.specs.declared.names.Handler.TheVariants.{Cancel, Suspend, Ignore, Abandon}
use Rattle.cfdp_types.specs.declared.names.Role.{Role}
use Rattle.cfdp_types.specs.declared.names.Role.TheVariants.{Send, RecvOne, RecvTwo}
use Rattle.cfdp_types.specs.declared.names.TimerKind.TheVariants.{Ack, Nak, Check, Inactivity}
use Rattle.cfdp_types.specs.declared.put_request.PutFault.TheVariants as faults

-- whether a role may name cancel, suspend, ignore and abandon for a condition
abbrev row : Role → ℕ → List Bool
row role c = is_allowed role c Cancel ∷ is_allowed role c Suspend ∷ is_allowed role c Ignore ∷ is_allowed role c Abandon ∷ []

-- every condition code
abbrev codes : List ℕ
codes = 0 ∷ 1 ∷ 2 ∷ 3 ∷ 4 ∷ 5 ∷ 6 ∷ 7 ∷ 8 ∷ 9 ∷ 10 ∷ 11 ∷ 12 ∷ 13 ∷ 14 ∷ 15 ∷ []

abbrev unnamed : List Bool
unnamed = false ∷ false ∷ false ∷ false ∷ []

abbrev all_four : List Bool
all_four = true ∷ true ∷ true ∷ true ∷ []

abbrev but_suspend : List Bool
but_suspend = true ∷ false ∷ true ∷ true ∷ []

abbrev cancel_or_abandon : List Bool
cancel_or_abandon = true ∷ false ∷ false ∷ true ∷ []

-- the rows of the table of handlers, where one role's limits have their own
abbrev rows : List Bool → List (List Bool)
rows limit =
    unnamed ∷ limit ∷ unnamed ∷ unnamed
    ∷ cancel_or_abandon ∷ cancel_or_abandon ∷ cancel_or_abandon ∷ limit
    ∷ limit ∷ unnamed ∷ limit ∷ cancel_or_abandon
    ∷ unnamed ∷ unnamed ∷ unnamed ∷ unnamed ∷ []

rows_of_send : map (row Send) codes ≡ rows all_four
rows_of_send = refl

rows_of_class_one : map (row RecvOne) codes ≡ rows but_suspend
rows_of_class_one = refl

rows_of_class_two : map (row RecvTwo) codes ≡ rows all_four
rows_of_class_two = refl

-- where a condition is named twice, the last pair decides
abbrev pairs : List (ℕ × Handler)
pairs = (7, Suspend) ∷ (1, Ignore) ∷ (7, Abandon) ∷ []

later_counts : act pairs 7 ≡ Abandon
later_counts = refl

only_pair_counts : act pairs 1 ≡ Ignore
only_pair_counts = refl

unnamed_is_cancel : act pairs 8 ≡ Cancel
unnamed_is_cancel = refl

-- names and messages of these many octets
abbrev octets : ℕ → List ℕ
octets n = replicate n 97

empty_name : put_fault [] (octets 1) [] ≡ Some faults.NoName
empty_name = refl

-- an empty name comes before one that is too long
empty_name_first : put_fault (octets 256) [] [] ≡ Some faults.NoName
empty_name_first = refl

long_name : put_fault (octets 256) (octets 1) (octets 256 ∷ []) ≡ Some faults.NameTooLong
long_name = refl

longest_names : put_fault (octets 255) (octets 255) [] ≡ None
longest_names = refl

long_message : put_fault (octets 1) (octets 1) ([] ∷ octets 256 ∷ []) ≡ Some faults.MessageTooLong
long_message = refl

five_messages : put_fault (octets 1) (octets 1) (replicate 5 (octets 1)) ≡ Some faults.TooManyMessages
five_messages = refl

four_messages : put_fault (octets 1) (octets 1) (replicate 4 (octets 255)) ≡ None
four_messages = refl

-- parameters whose timers and tables differ, with no checksum
abbrev pub sample : ParamsParts
sample = record {
  local = record { 0 = 2 };
  lengths = record { entity_octets = 1; sequence_octets = 1 };
  segment_octets = 256;
  timers = record { ack = 1000; nak = 1001; check = 1002; inactivity = 1003 };
  limits = record { ack = 2; nak = 2; check = 2 };
  tables = record {
    send = all_cancel Send;
    receive_one = all_cancel RecvOne;
    receive_two = with_handler (all_cancel RecvTwo) 7 Suspend;
  };
  checksum = Null;
}

types_of_checksums : map type_of (Modular ∷ Null ∷ []) ≡ 0 ∷ 15 ∷ []
types_of_checksums = refl

lengths_of_timers : map (timer_length sample.timers) (Ack ∷ Nak ∷ Check ∷ Inactivity ∷ []) ≡ 1000 ∷ 1001 ∷ 1002 ∷ 1003 ∷ []
lengths_of_timers = refl

suspends_at_nak_limit : handler_in (table_for sample.tables RecvTwo) 7 ≡ Suspend
suspends_at_nak_limit = refl

cancels_in_class_one : handler_in (table_for sample.tables RecvOne) 7 ≡ Cancel
cancels_in_class_one = refl

all_cancel_is_table : (role : Role) → IsFaultTable (all_cancel role)
all_cancel_is_table role c h = Prim.grind arith

suspending_is_table : IsFaultTable (with_handler (all_cancel RecvTwo) 7 Suspend)
suspending_is_table c h = Prim.grind arith

-- they keep their ranges
pub sample_is_params : IsParams sample
sample_is_params = record {
  lengths = record { entity = record { least = omega arith; most = omega arith }; sequence = record { least = omega arith; most = omega arith } };
  segment = record { least = omega arith; most = omega arith };
  timers = record {
    ack = record { least = omega arith; most = omega arith };
    nak = record { least = omega arith; most = omega arith };
    check = record { least = omega arith; most = omega arith };
    inactivity = record { least = omega arith; most = omega arith };
  };
  limits = record {
    ack = record { least = omega arith; most = omega arith };
    nak = record { least = omega arith; most = omega arith };
    check = record { least = omega arith; most = omega arith };
  };
  tables = record {
    send = record { role_is = refl; handlers = all_cancel_is_table Send };
    receive_one = record { role_is = refl; handlers = all_cancel_is_table RecvOne };
    receive_two = record { role_is = refl; handlers = suspending_is_table };
  };
}
