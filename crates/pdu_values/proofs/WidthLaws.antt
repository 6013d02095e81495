-- How many octets a number and an optional field take.
use Rattle.std.proofs.Common.{◌≡◌, ℕ, zero, suc, ◌+◌, ◌-◌, ◌^◌, ◌<◌, ◌≤◌, Bool, true, false, cond, ltb, [], length, Option, Some, None, refl, sym, subst, arith}
use Rattle.std.specs.List.{flat_map}
use Rattle.std.proofs.Math.Nat.{pow-le-pow_right}
use Rattle.std.proofs.lemmas.Bool.{ltb-true, le-ltb}
use Rattle.std.proofs.lemmas.List.{length-append}
use Rattle.cfdp_types.specs.declared.key.EntityId.{EntityId}
use Rattle.pdu_values.specs.Numbers.{digits}
use Rattle.pdu_values.specs.Tlvs.{Tlv, entity_id_kind, width_from, octets_for, location_tlvs}
use Rattle.pdu_values.specs.Spelling.{lv, tlv, IsIdLength, IsLocation}
use Rattle.pdu_values.proofs.Numbers.{length-digits}

-- a TLV has a type and a length
pub tlv_long : (t : Tlv) → 1 ≤ length (tlv t)
tlv_long t = omega (arith, length-append (digits 1 t.kind) (lv t.value), length-digits 1 t.kind)

pub length-tlv : (t : Tlv) → length (tlv t) ≡ 2 + length t.value
length-tlv t =
    omega (arith, length-append (digits 1 t.kind) (lv t.value), length-digits 1 t.kind, length-append (digits 1 (length t.value)) t.value, length-digits 1 (length t.value))

-- ---- the octets of an entity ID

pub record IsWidth (least most n width : ℕ) : Type 0 where
  pub at_least : least ≤ width
  pub at_most : width ≤ most
  pub holds : n < 256 ^ most → n < 256 ^ width

width_step : (b : Bool) (least most n other : ℕ) → ltb n (256 ^ least) ≡ b → least ≤ most → (b ≡ false → IsWidth (least + 1) most n other) → IsWidth least most n (cond b least other)
width_step true least most n other is le next = record { at_least = omega arith; at_most = le; holds = λ lt. ltb-true n (256 ^ least) is }
width_step false least most n other is le next =
    let w = next refl in
    record { at_least = omega (arith, w.at_least); at_most = w.at_most; holds = w.holds }

pub width_from-is : (more width n : ℕ) → IsWidth width (width + more) n (width_from more width n)
unfolding width_from
width_from-is zero width n = record { at_least = omega arith; at_most = omega arith; holds = λ lt. subst (λ (k : ℕ). n < 256 ^ k) (omega arith) lt }
width_from-is (suc more) width n =
    let next = width_from-is more (width + 1) n in
    let shifted : IsWidth (width + 1) (width + suc more) n (width_from more (width + 1) n) =
    subst (λ (k : ℕ). IsWidth (width + 1) k n (width_from more (width + 1) n)) (omega arith) next in
    width_step (ltb n (256 ^ width)) width (width + suc more) n (width_from more (width + 1) n) refl (omega arith) (λ is. shifted)

-- the octets of an entity ID in a TLV are 1 to 8, and hold it
pub octets_for-is : (entity_octets n : ℕ) → IsIdLength entity_octets → n < 256 ^ 8 → IsIdLength (octets_for entity_octets n) × (n < 256 ^ octets_for entity_octets n)
octets_for-is entity_octets n is lt =
    let w = width_from-is (8 - entity_octets) entity_octets n in
    let most : entity_octets + (8 - entity_octets) ≡ 8 = omega (arith, is.most) in (
      record { least = omega (arith, is.least, w.at_least); most = omega (arith, w.at_most, most) },
      w.holds (subst (λ (k : ℕ). n < 256 ^ k) (sym most) lt),
    )

pub width_goes_on : (width n : ℕ) → width < 8 → 256 ^ width ≤ n → width_from (8 - (width + 1)) (width + 1) n ≡ width_from (8 - width) width n
unfolding width_from
width_goes_on width n short above = let more : 8 - width ≡ suc (8 - (width + 1)) = omega (arith, short) in rw (more, le-ltb n (256 ^ width) above) refl

pub pow_fits : (width : ℕ) → width < 8 → 256 ^ width < 18446744073709551616
pow_fits width short = omega (arith, pow-le-pow_right {n = 256} (omega arith) {i = width} {j = 7} (omega (arith, short)))

pub location_short : (entity_octets : ℕ) (location : Option EntityId) → IsIdLength entity_octets → IsLocation location → length (flat_map tlv (location_tlvs entity_octets location)) ≤ 10
location_short entity_octets None is fits = omega arith
location_short entity_octets (Some id) is fits =
    let width = octets_for entity_octets id.0 in
    let t : Tlv = record { kind = entity_id_kind; value = digits width id.0 } in
    let w = octets_for-is entity_octets id.0 is fits in
    omega (arith, length-append (tlv t) [], length-tlv t, length-digits width id.0, w.0.most)
