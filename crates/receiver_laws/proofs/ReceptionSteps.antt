-- What the state is after a response's answer.
use Rattle.std.proofs.Common.{◌≡◌, ℕ, Bool, true, false, cond, not, ◌||◌, ◌&&◌, List, [], ◌∷◌, ◌++◌, map, take, length, nat_lt, Option, Some, None, refl, sym, ap, ◌∙◌, ◌⊎◌, inl, inr}
use Rattle.std.specs.Prelude.{is_some}
use Rattle.std.specs.List.{list_any}
use Rattle.cfdp_types.specs.Steps.{Effect, arms, keeps, stops, is_kind, has_kind, newer_or}
use Rattle.cfdp_types.proofs.StepLemmas.{armed_by, armed_after-operations, newer_or-none}
use Rattle.cfdp_types.specs.declared.key.Deposit.{Deposit}
use Rattle.cfdp_types.specs.declared.names.TimerKind.{TimerKind}
use Rattle.cfdp_types.specs.declared.names.TimerKind.TheVariants.{Ack, Inactivity}
use Rattle.cfdp_types.specs.Params.{timer_length}
use Rattle.cfdp_types.specs.declared.limits.TheConstants.{NAK_REQUESTS}
use Rattle.pdu_values.specs.declared.pdu.Body.{Body}
use Rattle.pdu_values.specs.declared.pdu.Body.TheVariants as body
use Rattle.pdu_values.specs.declared.bodies.Finished.{Finished}
use Rattle.txn_events.specs.declared.event.What.{What}
use Rattle.indications.specs.Words.{is_end}
use Rattle.receiver_table.specs.Reception.{Reception, Entry, State, step, finished_in, finished_among, waiting_after}
use Rattle.receiver_table.specs.Answers.{Response, with_event, without_timers, with_timers, effect_of, bodies_of, pdu_to_sender, nak_of, ack_of, requests_of, last_end, scope_of, is_sign_of_life, if_there, if_so}

-- ---- the Finished among a response's PDUs

abbrev among : Reception → List Body → Option Finished
among reception bodies = finished_among (map (pdu_to_sender reception) bodies)

newer_or-assoc : {A : Type 0} (a b c : Option A) → newer_or (newer_or a b) c ≡ newer_or a (newer_or b c)
newer_or-assoc None b c = refl
newer_or-assoc (Some x) b c = refl

among-append : (reception : Reception) (xs ys : List Body) → among reception (xs ++ ys) ≡ newer_or (among reception ys) (among reception xs)
among-append reception [] ys = sym (newer_or-none (among reception ys))
among-append reception (x ∷ xs) ys =
    ap (λ o. newer_or o (finished_in x)) (among-append reception xs ys)
    ∙ newer_or-assoc (among reception ys) (among reception xs) (finished_in x)

among-ack : (reception : Reception) (ended : Bool) (ack : Option ℕ) → among reception (if_there (ack_of ended) ack) ≡ None
among-ack reception ended None = refl
among-ack reception ended (Some code) = refl

-- bodies that are no Finished, and one more that is none
among-so : (reception : Reception) (before : List Body) (so : Bool) (b : Body) → among reception before ≡ None → finished_in b ≡ None
    → among reception (before ++ if_so so b) ≡ None
among-so reception before false b none is = among-append reception before [] ∙ none
among-so reception before true b none is =
    among-append reception before (b ∷ []) ∙ rw is none

among-finished : (reception : Reception) (f : Option Finished) → among reception (if_there body.Finished f) ≡ f
among-finished reception None = refl
among-finished reception (Some f) = refl

no_finished : (so : Bool) (b other : Body) → finished_in b ≡ None → finished_in other ≡ None → finished_in (cond so b other) ≡ None
no_finished true b other p q = p
no_finished false b other p q = q

among-last : (reception : Reception) (before : List Body) (f : Option Finished) → among reception before ≡ None
    → among reception (before ++ if_there body.Finished f) ≡ f
among-last reception before f none =
    among-append reception before (if_there body.Finished f) ∙ rw (none, among-finished reception f) (newer_or-none f)

nak_without : (now : State) → finished_in (nak_of now) ≡ None
nak_without now =
    let some = take NAK_REQUESTS (requests_of now) in
    no_finished (nat_lt NAK_REQUESTS (length (requests_of now)))
    (body.Nak (record { start = 0; end = last_end some; requests = some }))
    (body.Nak (record { start = 0; end = scope_of now; requests = requests_of now }))
    refl refl

among-bodies : (reception : Reception) (now : State) (ended : Bool) (response : Response) → among reception (bodies_of now ended response) ≡ response.finished
among-bodies reception now ended response =
    let acks = if_there (ack_of ended) response.ack in
    let alive = body.KeepAlive (record { progress = now.progress }) in
    among-last reception ((acks ++ if_so response.nak (nak_of now)) ++ if_so response.keep_alive alive) response.finished
    (among-so reception (acks ++ if_so response.nak (nak_of now)) response.keep_alive alive
    (among-so reception acks response.nak (nak_of now) (among-ack reception ended response.ack) (nak_without now))
    refl)

-- ---- the entry of a response

abbrev pub answered : Reception → State → What → Response → Entry
answered reception front event response =
    record { event = event; answer = with_timers reception front event response (without_timers reception front (with_event front event) response) }

pub finished_then : (reception : Reception) (front : State) (event : What) (response : Response)
    → (step front (answered reception front event response)).finished ≡ newer_or response.finished front.finished
unfolding step
finished_then reception front event response =
    ap (λ f. newer_or f front.finished) (among-bodies reception (with_event front event) (list_any is_end response.inds) response)

-- ---- timers

-- suspended, closing or over, it stops a timer that is not Ack
effect_stops : (ended storing paused finished ack : Bool) (rest : Effect) → ack ≡ false → (paused || finished) ≡ true
    → cond ((ended || storing) || ((paused && not finished) && not ended)) stops (cond ((finished && not ended) && not ack) stops rest) ≡ stops
effect_stops true storing paused finished ack rest apart idle = refl
effect_stops false true paused finished ack rest apart idle = refl
effect_stops false false true false ack rest apart idle = refl
effect_stops false false true true ack rest apart idle = rw apart refl
effect_stops false false false true ack rest apart idle = rw apart refl
effect_stops false false false false ack rest apart idle = absurd cc

effect_idle : (response : Response) (after : State) (event : What) (kind : TimerKind) → is_kind Ack kind ≡ false
    → (after.paused || is_some after.finished) ≡ true → effect_of response after event kind ≡ stops
effect_idle response after event kind apart idle =
    effect_stops after.ended (is_some after.waiting) after.paused (is_some after.finished) (is_kind Ack kind)
    (cond (has_kind response.arms kind) arms (cond (is_kind Inactivity kind && is_sign_of_life event) arms keeps)) apart idle

pub armed_then : (reception : Reception) (front : State) (event : What) (response : Response) (kind : TimerKind) → is_kind Ack kind ≡ false
    → ((step front (answered reception front event response)).paused || is_some (step front (answered reception front event response)).finished) ≡ true
    → (step front (answered reception front event response)).armed kind ≡ None
unfolding step
armed_then reception front event response kind apart idle =
    armed_after-operations reception.key (timer_length reception.params.timers) front.entries
    (effect_of response (step front (record { event = event; answer = without_timers reception front (with_event front event) response })) event)
    front.armed kind
    ∙ ap (λ effect. armed_by front.entries effect (front.armed kind))
    (effect_idle response (step front (record { event = event; answer = without_timers reception front (with_event front event) response })) event kind apart idle)

-- ---- deposits

waits_for : (waiting : Option ℕ) (event : What) (handed : Bool) (d : Deposit)
    → is_some (waiting_after waiting event (cond handed (Some d) None)) ≡ true
    → (handed ≡ true) ⊎ (is_some (waiting_after waiting event None) ≡ true)
waits_for waiting event true d e = inl refl
waits_for waiting event false d e = inr e

pub waits_then : (reception : Reception) (front : State) (event : What) (response : Response)
    → is_some (step front (answered reception front event response)).waiting ≡ true
    → (response.deposit ≡ true) ⊎ (is_some (waiting_after front.waiting event None) ≡ true)
unfolding step
waits_then reception front event response e = waits_for front.waiting event response.deposit _ e
