-- Optional fields: what is kept of those that were read fits, and those that are written are kept so.
use Rattle.std.proofs.Common.{◌≡◌, ℕ, ◌+◌, ◌^◌, ◌≤◌, Bool, true, false, cond, eqb, ltb, ◌&&◌, List, [], ◌∷◌, length, map, Option, Some, None, refl, ap, subst, arith}
use Rattle.std.specs.List.{flat_map, AllByRecursion}
use Rattle.std.proofs.Math.Nat.{pow-le-pow_right}
use Rattle.std.proofs.lemmas.Bool.{ltb-true, lt-ltb, and_parts}
use Rattle.std.proofs.lemmas.List.{length-append}
use Rattle.cfdp_types.specs.declared.key.EntityId.{EntityId}
use Rattle.pdu_values.specs.Numbers.{number_of, digits}
use Rattle.pdu_values.specs.Tlvs.{Tlv, message_kind, entity_id_kind, messages_in, location_in, may_locate, message_tlv, octets_for, location_tlvs}
use Rattle.pdu_values.specs.Spelling.{tlv, IsIdLength, IsMessage, IsLocation, IsTlv, IsLocationTlv, Locates, Tells}
use Rattle.pdu_values.proofs.Numbers.{number_of-below, number_of-digits, length-digits}
use Rattle.pdu_values.proofs.WidthLaws.{length-tlv, octets_for-is}
use Rattle.pdu_laws.proofs.FieldLaws.{IsTlvRead, IsLocationTlvRead}

each_of : {A : Type 0} (P Q : A → Type 0) → ((x : A) → P x → Q x) → (xs : List A) → AllByRecursion P xs → AllByRecursion Q xs
each_of P Q f [] h = tt
each_of P Q f (x ∷ xs) h = (f x h.0, each_of P Q f xs h.1)

-- ---- the fault location

-- an entity ID in a TLV has 1 to 8 octets
located : (t : Tlv) → eqb t.kind entity_id_kind ≡ true → may_locate t ≡ true → IsIdLength (length t.value)
located t is may =
    let tests : (ltb 0 (length t.value) && ltb (length t.value) 9) ≡ true = subst (λ (b : Bool). cond b (ltb 0 (length t.value) && ltb (length t.value) 9) true ≡ true) is may in
    let both = and_parts (ltb 0 (length t.value)) (ltb (length t.value) 9) tests in
    record { least = omega (arith, ltb-true 0 (length t.value) both.0); most = omega (arith, ltb-true (length t.value) 9 both.1) }

location_step : (b : Bool) (t : Tlv) (others : Option EntityId) → eqb t.kind entity_id_kind ≡ b → IsLocationTlvRead t → IsLocation others → IsLocation (cond b (Some (record { 0 = number_of t.value })) others)
location_step true t others is read fits =
    let short = located t is read.is_location_tlv.may_locate in
    let most : 256 ^ length t.value ≤ 256 ^ 8 = pow-le-pow_right (omega arith) short.most in
    omega (arith, number_of-below t.value read.value_octets, most)
location_step false t others is read fits = fits

pub location_fits : (tlvs : List Tlv) → AllByRecursion IsLocationTlvRead tlvs → IsLocation (location_in tlvs)
unfolding location_in
location_fits [] h = tt
location_fits (t ∷ ts) h = location_step (eqb t.kind entity_id_kind) t (location_in ts) refl h.0 (location_fits ts h.1)

pub locates_read : (tlvs : List Tlv) → AllByRecursion IsLocationTlvRead tlvs → Locates tlvs (location_in tlvs)
locates_read tlvs h = record { each = each_of IsLocationTlvRead IsLocationTlv (λ t read. read.is_location_tlv) tlvs h; kept = refl }

-- ---- the messages to the user

pub tells_read : (tlvs : List Tlv) → AllByRecursion IsTlvRead tlvs → Tells tlvs (messages_in tlvs)
tells_read tlvs h = record { each = each_of IsTlvRead IsTlv (λ t read. read.is_tlv) tlvs h; kept = refl }

message_step : (b : Bool) (t : Tlv) (others : List (List ℕ)) → IsTlv t → AllByRecursion IsMessage others → AllByRecursion IsMessage (cond b (t.value ∷ others) others)
message_step true t others fits each = (fits.value, each)
message_step false t others fits each = each

pub messages_fit : (tlvs : List Tlv) → AllByRecursion IsTlv tlvs → AllByRecursion IsMessage (messages_in tlvs)
unfolding messages_in
messages_fit [] h = tt
messages_fit (t ∷ ts) h = message_step (eqb t.kind message_kind) t (messages_in ts) h.0 (messages_fit ts h.1)

-- ---- what is written

pub plain_locates : (entity_octets : ℕ) (location : Option EntityId) → IsIdLength entity_octets → IsLocation location → Locates (location_tlvs entity_octets location) location
unfolding location_in
plain_locates entity_octets None is fits = record { each = tt; kept = refl }
plain_locates entity_octets (Some id) is fits =
    let width = octets_for entity_octets id.0 in
    let w = octets_for-is entity_octets id.0 is fits in
    let long : length (digits width id.0) ≡ width = length-digits width id.0 in
    let tests : (ltb 0 (length (digits width id.0)) && ltb (length (digits width id.0)) 9) ≡ true =
    rw (lt-ltb 0 (length (digits width id.0)) (omega (arith, long, w.0.least)), lt-ltb (length (digits width id.0)) 9 (omega (arith, long, w.0.most))) refl in
    record {
      each = (
        record { is_tlv = record { kind = omega arith; value = omega (arith, long, w.0.most) }; may_locate = tests },
        tt,
      );
      kept = ap (λ (n : ℕ). Some (record { 0 = n })) (number_of-digits width id.0 w.1);
    }

pub plain_tells : (messages : List (List ℕ)) → AllByRecursion IsMessage messages → Tells (map message_tlv messages) messages
unfolding messages_in
plain_tells [] h = record { each = tt; kept = refl }
plain_tells (message ∷ messages) h =
    let others = plain_tells messages h.1 in
    record { each = (record { kind = omega arith; value = h.0 }, others.each); kept = ap (λ (ms : List (List ℕ)). message ∷ ms) others.kept }

-- ---- how long it is

told_step : (b : Bool) (t : Tlv) (others : List (List ℕ)) (rest : ℕ) → length (flat_map tlv (map message_tlv others)) ≤ rest → length (flat_map tlv (map message_tlv (cond b (t.value ∷ others) others))) ≤ length (tlv t) + rest
told_step true t others rest le =
    let m = message_tlv t.value in
    omega (arith, length-append (tlv m) (flat_map tlv (map message_tlv others)), length-tlv m, length-tlv t, le)
told_step false t others rest le = omega (arith, le)

-- the messages alone are no longer than all that stood there
pub messages_shorter : (tlvs : List Tlv) → length (flat_map tlv (map message_tlv (messages_in tlvs))) ≤ length (flat_map tlv tlvs)
unfolding messages_in
messages_shorter [] = omega arith
messages_shorter (t ∷ ts) =
    omega (arith, told_step (eqb t.kind message_kind) t (messages_in ts) (length (flat_map tlv ts)) (messages_shorter ts), length-append (tlv t) (flat_map tlv ts))
