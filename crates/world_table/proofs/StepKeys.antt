-- A step of a lane tells under the key of its event.
use Rattle.std.proofs.Common.{◌≡◌, ℕ, Bool, true, false, not, ◌||◌, ◌&&◌, is_some, Option, Some, None, refl, sym, ap, ◌∙◌}
use Rattle.std.specs.Option.{option_map, option_or}
use Rattle.std.proofs.lemmas.Bool.{eqb-true, true≢false}
use Rattle.cfdp_types.specs.Steps.{is_stamp}
use Rattle.cfdp_types.specs.declared.key.EntityId.{EntityId}
use Rattle.cfdp_types.specs.declared.key.TxnKey.{TxnKey}
use Rattle.txn_events.specs.declared.event.Event.TheVariants.{On}
use Rattle.txn_events.specs.declared.event.What.{What}
use Rattle.lane_table.specs.Logs.{Transaction}
use Rattle.lane_table.specs.Lane.{State, key_at, key_of, is_running}
use Rattle.lane_table.specs.Steps.{is_foreign, is_new, is_old, is_unknown, new_transaction, refused_by_lane, refusal_at, stepped_by, stepped}
use Rattle.lane_table.proofs.StepFacts.{if_none, not_foreign, same_source}

none_first : {A : Type 0} (o rest : Option A) → option_or o rest ≡ None → o ≡ None
none_first None rest e = refl
none_first (Some x) rest e = absurd cc

pub stamp_is : (last : Option ℕ) (number : ℕ) → is_stamp last number ≡ true → last ≡ Some number
stamp_is None number is = absurd cc
stamp_is (Some l) number is = ap Some (eqb-true l number is)

-- an event that opens nothing is not new, and so its number is the last one
reached : (foreign new found stamp runs : Bool) → found ≡ false → (foreign || (new && not found)) ≡ false → (not new && not (stamp && runs)) ≡ false
    → stamp ≡ true
reached true new found stamp runs none known young = absurd (true≢false known)
reached false true true stamp runs none known young = absurd (true≢false none)
reached false true false stamp runs none known young = absurd (true≢false known)
reached false false found true runs none known young = refl
reached false false found false runs none known young = absurd (true≢false young)

keyed_by : (state : State) (key : TxnKey) (happens : What) → key_at state.source key.seq ≡ key → is_unknown state (On key happens) ≡ false
    → is_old state (On key happens) ≡ false → (opened : Option Transaction) → new_transaction state (On key happens) ≡ opened
    → key_of (stepped_by state (On key happens) opened) ≡ Some key
keyed_by state key happens same known young (Some transaction) is = ap Some same
keyed_by state key happens same known young None is =
    let last : state.last ≡ Some key.seq =
    stamp_is state.last key.seq
    (reached (is_foreign state (On key happens)) (is_new state (On key happens)) (is_some (new_transaction state (On key happens)))
    (is_stamp state.last key.seq) (is_running state) (ap is_some is) known young) in
    ap (option_map (key_at state.source)) last ∙ ap Some same

-- the lane's last transaction is then the one with the event's key
pub step_keyed : (state : State) (key : TxnKey) (happens : What) → refusal_at state (On key happens) ≡ None
    → key_of (stepped state (On key happens)) ≡ Some key
step_keyed state key happens free =
    let one = if_none (is_unknown state (On key happens)) _ _ (none_first (refused_by_lane state (On key happens)) _ free) in
    let two = if_none (is_old state (On key happens)) _ _ one.1 in
    let same : key.source ≡ state.source = same_source key.source state.source (not_foreign state (On key happens) one.0) in
    keyed_by state key happens (ap (λ (source : EntityId). key_at source key.seq) (sym same)) one.0 two.0
    (new_transaction state (On key happens)) refl
