-- Rows. Codes and names, and worked answers to calls.
use Rattle.std.specs.Prelude.{◌≡◌, ℕ, pos, negsuc, [], ◌∷◌, Some, None, codes}
use Rattle.std.proofs.Common.{refl, arith}
use Rattle.cfdp_types.specs.declared.key.TxnKey.{TxnKey}
use Rattle.cfdp_types.specs.declared.names.Checksum.TheVariants.{Null}
use Rattle.cfdp_types.specs.declared.names.Class.TheVariants.{Two}
use Rattle.cfdp_types.specs.declared.names.Handler.TheVariants.{Ignore}
use Rattle.cfdp_types.specs.declared.names.Role.TheVariants.{RecvOne}
use Rattle.cfdp_types.specs.declared.names.TimerKind.TheVariants as timer
use Rattle.cfdp_types.specs.declared.put_request.PutFault.TheVariants as put
use Rattle.config_reading.specs.declared.fault.ConfigFault.TheVariants as fault
use Rattle.config_reading.specs.declared.fault.Key.TheVariants as key
use Rattle.config_reading.specs.declared.fault.Section.TheVariants as section
use Rattle.entity_config.specs.declared.setting.Setting.TheVariants as setting
use Rattle.entity_routing.specs.declared.world_event.Request.TheVariants as requests
use Rattle.cfdp_c.specs.declared.codes.TheConstants.{OK, NOTHING, NO_ROOM}
use Rattle.cfdp_c.specs.Codes.{class_of, handler_setting, place_text, put_code, request_of, setting_of, timer_kind}
use Rattle.cfdp_c.specs.Names.{code_text, refusal_text}
use Rattle.cfdp_c.specs.Calls.{IsCopied, IsCut, IsGiven}

abbrev txn : TxnKey
txn = record { source = record { 0 = 1 }; seq = 5 }

-- ---- numbers

row-nak : timer_kind 2 ≡ Some timer.Nak
row-nak = refl

row-inactivity : timer_kind 4 ≡ Some timer.Inactivity
row-inactivity = refl

row-no-timer : timer_kind 0 ≡ None
row-no-timer = refl

row-class : class_of 2 ≡ Some Two
row-class = refl

row-no-class : class_of 3 ≡ None
row-no-class = refl

row-suspend : request_of 2 txn ≡ Some (requests.Suspend txn)
row-suspend = refl

row-abandon : request_of 5 txn ≡ Some (requests.Abandon txn)
row-abandon = refl

row-no-request : request_of 6 txn ≡ None
row-no-request = refl

row-name-too-long : put_code put.NameTooLong ≡ negsuc 8
row-name-too-long = refl

row-first : setting_of 2 9 ≡ Some (setting.First 9)
row-first = refl

row-null-checksum : setting_of 6 15 ≡ Some (setting.Checksum Null)
row-null-checksum = refl

row-no-checksum : setting_of 6 1 ≡ None
row-no-checksum = refl

row-handler : handler_setting 2 10 3 ≡ Some (setting.Handler RecvOne 10 Ignore)
row-handler = refl

row-no-condition : handler_setting 2 16 3 ≡ None
row-no-condition = refl

-- ---- names

row-missing-key : place_text (fault.MissingKey key.Address) ≡ codes "address"
row-missing-key = refl

row-unknown-key : place_text (fault.UnknownKey section.Remote) ≡ codes "remote"
row-unknown-key = refl

row-no-place : place_text fault.DuplicateUser ≡ codes ""
row-no-place = refl

row-ok : code_text (pos 0) ≡ Some (codes "OK")
row-ok = refl

row-no-room : code_text (negsuc 3) ≡ Some (codes "NO_ROOM")
row-no-room = refl

row-too-late : code_text (negsuc 13) ≡ Some (codes "TOO_LATE")
row-too-late = refl

row-no-code : code_text (negsuc 11) ≡ None
row-no-code = refl

row-queue-full : refusal_text 13 ≡ Some (codes "QueueFull")
row-queue-full = refl

row-not-yours : refusal_text 24 ≡ Some (codes "NotYours")
row-not-yours = refl

row-no-refusal : refusal_text 14 ≡ None
row-no-refusal = refl

-- ---- copies

row-copied : IsCopied OK (Some (7 ∷ 8 ∷ [])) 3 (7 ∷ 8 ∷ 0 ∷ []) 2
row-copied = (refl, λ fits. (refl, refl), λ lacks. absurd (omega (arith, lacks)))

row-room-lacks : IsCopied NO_ROOM (Some (7 ∷ 8 ∷ [])) 1 (0 ∷ []) 2
row-room-lacks = (refl, λ fits. absurd (omega (arith, fits)), λ lacks. refl)

row-nothing : IsCopied NOTHING None 1 (0 ∷ []) 0
row-nothing = refl

row-cut : IsCut OK (Some (7 ∷ 8 ∷ 9 ∷ [])) 1 1 (8 ∷ []) 1
row-cut = (λ beyond. absurd (omega (arith, beyond)), λ within. (refl, refl, refl))

row-given : IsGiven {A = ℕ} OK (Some 7) 7
row-given = (refl, refl)
