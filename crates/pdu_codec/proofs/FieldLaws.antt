-- What loops over optional fields and segment requests have found so far.
use Rattle.std.proofs.Common.{◌≡◌, ℕ, ◌≤◌, Bool, true, false, cond, List, [], ◌∷◌, ◌++◌, length, Option, Some, None, refl, sym, ap, ◌∙◌, ◌==◌, ◌+◌, append_assoc, append-nil, arith}
use Rattle.std.specs.Option.{option_map}
use Rattle.std.proofs.lemmas.List.{length-append}
use Rattle.cfdp_types.specs.declared.key.EntityId.{EntityId}
use Rattle.pdu_values.specs.declared.requests.SegmentRequest.{SegmentRequest}
use Rattle.pdu_values.specs.Tlvs.{Tlv, location_in, messages_in, message_kind, entity_id_kind}
use Rattle.pdu_values.specs.Numbers.{number_of}
use Rattle.pdu_reading.specs.Items.{items_to_end}
use Rattle.pdu_reading.specs.Reading.{tlv_at, location_tlv_at, request_at}
use Rattle.pdu_laws.proofs.ItemLaws.{Shortens, items_to_end-step, items_to_end-none}
use Rattle.pdu_laws.proofs.FieldLaws.{tlv_behind, location_tlv_behind, request_behind}
use Rattle.cfdp_types.specs.Steps.{older_or}
use Rattle.pdu_codec.specs.Parts.{items_among, messages_at, requests_at}
use Rattle.pdu_codec.proofs.ItemLaws.{items_among_go_on, items_among_stop, none_left}

pub request_shortens : (width : ℕ) → 1 ≤ width → Shortens (request_at width)
request_shortens width some octets x e = request_behind width some octets x e

-- ---- the fault location

older_or_field : (found : Option EntityId) (t : Tlv) (ts : List Tlv) → older_or found (location_in (t ∷ ts)) ≡ older_or (older_or found (location_in (t ∷ []))) (location_in ts)
unfolding location_in
older_or_field (Some id) t ts = refl
older_or_field None t ts = by_test (t.kind == entity_id_kind)
  where
    by_test : (test : Bool) → cond test (Some (record { 0 = number_of t.value })) (location_in ts)
        ≡ older_or (cond test (Some (record { 0 = number_of t.value })) None) (location_in ts)
    by_test true = refl
    by_test false = refl

pub located_step : (found : Option EntityId) (octets rest : List ℕ) (t : Tlv) (all : Option (Option EntityId)) → location_tlv_at octets ≡ Some (t, rest)
    → option_map (λ tlvs. older_or found (location_in tlvs)) (items_to_end location_tlv_at octets) ≡ all
    → option_map (λ tlvs. older_or (older_or found (location_in (t ∷ []))) (location_in tlvs)) (items_to_end location_tlv_at rest) ≡ all
located_step found octets rest t all e so = sym (by_answer (items_to_end location_tlv_at rest) refl) ∙ so
  where
    by_answer : (read : Option (List Tlv)) → items_to_end location_tlv_at rest ≡ read
        → option_map (λ tlvs. older_or found (location_in tlvs)) (items_to_end location_tlv_at octets)
        ≡ option_map (λ tlvs. older_or (older_or found (location_in (t ∷ []))) (location_in tlvs)) (items_to_end location_tlv_at rest)
    by_answer None there = rw (items_to_end-step location_tlv_at location_tlv_behind octets (t, rest) e, there) refl
    by_answer (Some ts) there = rw (items_to_end-step location_tlv_at location_tlv_behind octets (t, rest) e, there) (ap Some (older_or_field found t ts))

pub located_none : (found : Option EntityId) (octets : List ℕ) (all : Option (Option EntityId)) → 1 ≤ length octets → location_tlv_at octets ≡ None
    → option_map (λ tlvs. older_or found (location_in tlvs)) (items_to_end location_tlv_at octets) ≡ all → None ≡ all
located_none found octets all long e so = sym (ap (option_map (λ tlvs. older_or found (location_in tlvs))) (items_to_end-none location_tlv_at octets long e)) ∙ so

pub located_all : (found : Option EntityId) (octets : List ℕ) (all : Option (Option EntityId)) → true ≡ (length octets == 0)
    → option_map (λ tlvs. older_or found (location_in tlvs)) (items_to_end location_tlv_at octets) ≡ all → Some found ≡ all
unfolding location_in
located_all found octets all e so = sym (rw (none_left location_tlv_at octets e) (by_found found)) ∙ so
  where
    by_found : (found : Option EntityId) → Some (older_or found None) ≡ Some found
    by_found None = refl
    by_found (Some id) = refl

-- ---- messages to the user

messages_of_field : (t : Tlv) (ts : List Tlv) → messages_in (t ∷ ts) ≡ messages_in (t ∷ []) ++ messages_in ts
unfolding messages_in
messages_of_field t ts = by_test (t.kind == message_kind)
  where
    by_test : (test : Bool) → cond test (t.value ∷ messages_in ts) (messages_in ts) ≡ cond test (t.value ∷ []) [] ++ messages_in ts
    by_test true = refl
    by_test false = refl

pub told_step : (told : List (List ℕ)) (octets rest : List ℕ) (t : Tlv) (all : List (List ℕ)) → tlv_at octets ≡ Some (t, rest)
    → told ++ messages_at octets ≡ all → (told ++ messages_in (t ∷ [])) ++ messages_at rest ≡ all
told_step told octets rest t all e so =
    append_assoc told (messages_in (t ∷ [])) (messages_at rest)
    ∙ ap (λ (more : List (List ℕ)). told ++ more) (sym (messages_of_field t (items_among tlv_at (length rest) rest)) ∙ ap messages_in (sym (items_among_go_on tlv_at tlv_behind octets (t, rest) e)))
    ∙ so

pub told_all : (told : List (List ℕ)) (octets : List ℕ) (all : List (List ℕ)) → tlv_at octets ≡ None → told ++ messages_at octets ≡ all → told ≡ all
unfolding messages_in
told_all told octets all e so = sym (append-nil told) ∙ ap (λ (more : List (List ℕ)). told ++ more) (sym (ap messages_in (items_among_stop tlv_at octets e))) ∙ so

pub counted_step : (count : ℕ) (octets rest : List ℕ) (t : Tlv) (all : ℕ) → tlv_at octets ≡ Some (t, rest)
    → count + length (messages_at octets) ≡ all → (count + length (messages_in (t ∷ []))) + length (messages_at rest) ≡ all
counted_step count octets rest t all e so =
    let parts : messages_at octets ≡ messages_in (t ∷ []) ++ messages_at rest = ap messages_in (items_among_go_on tlv_at tlv_behind octets (t, rest) e) ∙ messages_of_field t (items_among tlv_at (length rest) rest) in
    omega (arith, ap length parts, length-append (messages_in (t ∷ [])) (messages_at rest), so)

pub counted_all : (count : ℕ) (octets : List ℕ) (all : ℕ) → tlv_at octets ≡ None → count + length (messages_at octets) ≡ all → count ≡ all
unfolding messages_in
counted_all count octets all e so = omega (arith, ap length (ap messages_in (items_among_stop tlv_at octets e)), so)

-- ---- segment requests

pub asked_step : (width : ℕ) (some : 1 ≤ width) (asked : List SegmentRequest) (octets rest : List ℕ) (r : SegmentRequest) (all : List SegmentRequest) → request_at width octets ≡ Some (r, rest)
    → asked ++ requests_at width octets ≡ all → (asked ++ r ∷ []) ++ requests_at width rest ≡ all
asked_step width some asked octets rest r all e so =
    append_assoc asked (r ∷ []) (requests_at width rest)
    ∙ ap (λ (more : List SegmentRequest). asked ++ more) (sym (items_among_go_on (request_at width) (request_shortens width some) octets (r, rest) e))
    ∙ so

pub asked_all : (width : ℕ) (asked : List SegmentRequest) (octets : List ℕ) (all : List SegmentRequest) → request_at width octets ≡ None → asked ++ requests_at width octets ≡ all → asked ≡ all
asked_all width asked octets all e so = sym (append-nil asked) ∙ ap (λ (more : List SegmentRequest). asked ++ more) (sym (items_among_stop (request_at width) octets e)) ∙ so
