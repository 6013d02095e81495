-- A field that is read is the field that was spelled, and what was spelled is read again.
use Rattle.std.proofs.Common.{◌≡◌, ℕ, ◌+◌, ◌^◌, ◌<◌, ◌≤◌, Bool, true, false, cond, ltb, List, ◌++◌, length, take, drop, Option, Some, None, refl, sym, ap, subst, ◌∙◌, append_assoc, arith}
use Rattle.std.proofs.lemmas.Bool.{ltb-false, le-ltb}
use Rattle.std.proofs.lemmas.List.{take_at, drop_at, take-append-drop, length-append, length-take, length-drop}
use Rattle.pdu_values.specs.Numbers.{number_of, digits}
use Rattle.pdu_values.specs.declared.requests.SegmentRequest.{SegmentRequest}
use Rattle.pdu_values.specs.Tlvs.{Tlv, may_locate}
use Rattle.pdu_reading.specs.Items.{◌>>=◌}
use Rattle.pdu_values.specs.Spelling.{lv, tlv, request, IsTlv, IsLocationTlv, RequestFits}
use Rattle.pdu_reading.specs.Reading.{octets_at, number_at, lv_at, tlv_at, location_tlv_at, request_at}
use Rattle.pdu_values.proofs.Numbers.{IsOctets, IsOctets-append, length-digits, number_of-below, number_of-digits, digits-number_of}

-- the value of a step that found one
pub bind_some : {A B : Type 0} (o : Option A) (f : A → Option B) (y : B) → (o >>= f) ≡ Some y → (x : A) × (o ≡ Some x) × (f x ≡ Some y)
bind_some (Some x) f y e = (x, refl, e)
bind_some None f y e = absurd cc

abbrev found : {A : Type 0} → A → Option A
found x = Some x

pub some_is : {A : Type 0} (x y : A) → found x ≡ found y → x ≡ y
some_is x y e = cc

-- a test that let the value through
guard_some : {A : Type 0} (b : Bool) (x y : A) → cond b None (Some x) ≡ Some y → (b ≡ false) × (x ≡ y)
guard_some true x y e = absurd cc
guard_some false x y e = (refl, cc)

-- a test that the value passed
pub passed_some : {A : Type 0} (b : Bool) (x y : A) → cond b (Some x) None ≡ Some y → (b ≡ true) × (x ≡ y)
passed_some true x y e = (refl, cc)
passed_some false x y e = absurd cc

-- what a reader took from the front, and what it left
pub record Takes (octets text rest : List ℕ) : Type 0 where
  pub parts : octets ≡ text ++ rest
  pub rest_octets : IsOctets rest

pub Takes-then : {a x b y c : List ℕ} → Takes a x b → Takes b y c → Takes a (x ++ y) c
Takes-then {a} {x} {b} {y} {c} p q = record { parts = p.parts ∙ ap (λ (t : List ℕ). x ++ t) q.parts ∙ sym (append_assoc x y c); rest_octets = q.rest_octets }

-- a field that was read, and what is read behind it
pub record Then {A B : Type 0} (text : A → List ℕ) (IsFit : A → Type 0) (octets : List ℕ) (behind : A × List ℕ → Option B) (y : B) : Type 0 where
  pub value : A
  pub rest : List ℕ
  pub takes : Takes octets (text value) rest
  pub fits : IsFit value
  pub goes_on : behind (value, rest) ≡ Some y

-- ---- octets

-- what was taken, which are octets too
pub record TakesOctets (count : ℕ) (octets text rest : List ℕ) : Type 0 where
  pub takes : Takes octets text rest
  pub text_octets : IsOctets text
  pub long : length text ≡ count

pub octets_take : (count : ℕ) (octets text rest : List ℕ) → IsOctets octets → octets_at count octets ≡ Some (text, rest) → TakesOctets count octets text rest
octets_take count octets text rest h e =
    let g = guard_some (ltb (length octets) count) (take count octets, drop count octets) (text, rest) e in
    let long : count ≤ length octets = ltb-false _ _ g.0 in
    let halves = IsOctets-append (take count octets) (drop count octets) (rw take-append-drop h) in
    let front : TakesOctets count octets (take count octets) (drop count octets) = record {
      takes = record { parts = sym (take-append-drop count octets); rest_octets = halves.1 };
      text_octets = halves.0;
      long = omega (arith, length-take count octets);
    } in
    subst (λ (p : List ℕ × List ℕ). TakesOctets count octets p.0 p.1) g.1 front

pub octets_again : (count : ℕ) (text rest : List ℕ) → length text ≡ count → octets_at count (text ++ rest) ≡ Some (text, rest)
octets_again count text rest e =
    let long : ltb (length (text ++ rest)) count ≡ false = le-ltb _ _ (omega (arith, length-append text rest)) in
    rw (long, take_at text rest count e, drop_at text rest count e) refl

-- ---- numbers

pub record TakesNumber (width : ℕ) (octets : List ℕ) (n : ℕ) (rest : List ℕ) : Type 0 where
  pub takes : Takes octets (digits width n) rest
  pub below : n < 256 ^ width

pub number_takes : (width : ℕ) (octets : List ℕ) (n : ℕ) (rest : List ℕ) → IsOctets octets → number_at width octets ≡ Some (n, rest) → TakesNumber width octets n rest
unfolding number_at
number_takes width octets n rest h e =
    let b = bind_some (octets_at width octets) (λ front. Some (number_of front.0, front.1)) (n, rest) e in
    let t = octets_take width octets b.0.0 b.0.1 h b.1 in
    let spelled : digits width (number_of b.0.0) ≡ b.0.0 = ap (λ (k : ℕ). digits k (number_of b.0.0)) (sym t.long) ∙ digits-number_of b.0.0 t.text_octets in
    let made : TakesNumber width octets (number_of b.0.0) b.0.1 = record {
      takes = record { parts = rw spelled t.takes.parts; rest_octets = t.takes.rest_octets };
      below = subst (λ (k : ℕ). number_of b.0.0 < 256 ^ k) t.long (number_of-below b.0.0 t.text_octets);
    } in
    subst (λ (p : ℕ × List ℕ). TakesNumber width octets p.0 p.1) (some_is (number_of b.0.0, b.0.1) (n, rest) b.2) made

pub number_then : {B : Type 0} {behind : ℕ × List ℕ → Option B} (width : ℕ) (octets : List ℕ) (y : B) → IsOctets octets → (number_at width octets >>= behind) ≡ Some y → Then (digits width) (λ n. n < 256 ^ width) octets behind y
number_then {B} {behind} width octets y h e =
    let b = bind_some (number_at width octets) behind y e in
    let t = number_takes width octets b.0.0 b.0.1 h b.1 in
    record { value = b.0.0; rest = b.0.1; takes = t.takes; fits = t.below; goes_on = b.2 }

pub number_again : (width n : ℕ) (rest : List ℕ) → n < 256 ^ width → number_at width (digits width n ++ rest) ≡ Some (n, rest)
unfolding number_at
number_again width n rest lt =
    rw (octets_again width (digits width n) rest (length-digits width n), number_of-digits width n lt) refl

-- ---- a length, and that many octets

-- a value with a length in one octet, that was read
pub record IsLvRead (value : List ℕ) : Type 0 where
  pub short : length value < 256
  pub value_octets : IsOctets value

pub record TakesLv (octets value rest : List ℕ) : Type 0 where
  pub takes : Takes octets (lv value) rest
  pub is_read : IsLvRead value

pub lv_takes : (octets value rest : List ℕ) → IsOctets octets → lv_at octets ≡ Some (value, rest) → TakesLv octets value rest
unfolding lv_at
lv_takes octets value rest h e =
    let b = bind_some (number_at 1 octets) (λ count. octets_at count.0 count.1) (value, rest) e in
    let first = number_takes 1 octets b.0.0 b.0.1 h b.1 in
    let second = octets_take b.0.0 b.0.1 value rest first.takes.rest_octets b.2 in
    let both : Takes octets (digits 1 b.0.0 ++ value) rest = Takes-then first.takes second.takes in
    record {
      takes = subst (λ (k : ℕ). Takes octets (digits 1 k ++ value) rest) (sym second.long) both;
      is_read = record { short = omega (arith, second.long, first.below); value_octets = second.text_octets };
    }

pub lv_then : {B : Type 0} {behind : List ℕ × List ℕ → Option B} (octets : List ℕ) (y : B) → IsOctets octets → (lv_at octets >>= behind) ≡ Some y → Then lv IsLvRead octets behind y
lv_then {B} {behind} octets y h e =
    let b = bind_some (lv_at octets) behind y e in
    let t = lv_takes octets b.0.0 b.0.1 h b.1 in
    record { value = b.0.0; rest = b.0.1; takes = t.takes; fits = t.is_read; goes_on = b.2 }

pub lv_again : (value rest : List ℕ) → length value < 256 → lv_at (lv value ++ rest) ≡ Some (value, rest)
unfolding lv_at
lv_again value rest short =
    ap lv_at (append_assoc (digits 1 (length value)) value rest)
    ∙ rw (number_again 1 (length value) (value ++ rest) short) (octets_again (length value) value rest refl)

-- ---- items: what stands more than once

-- an item that was read
pub record TakesItem {A : Type 0} (text : A → List ℕ) (IsFit : A → Type 0) (octets : List ℕ) (x : A × List ℕ) : Type 0 where
  pub takes : Takes octets (text x.0) x.1
  pub fits : IsFit x.0

-- a TLV that was read
pub record IsTlvRead (t : Tlv) : Type 0 where
  pub is_tlv : IsTlv t
  pub value_octets : IsOctets t.value

-- a TLV that was read where a fault location may stand
pub record IsLocationTlvRead (t : Tlv) : Type 0 where
  pub is_location_tlv : IsLocationTlv t
  pub value_octets : IsOctets t.value

pub tlv_takes : (octets : List ℕ) (x : Tlv × List ℕ) → IsOctets octets → tlv_at octets ≡ Some x → TakesItem tlv IsTlvRead octets x
unfolding tlv_at
tlv_takes octets x h e =
    let kind = number_then 1 octets x h e in
    let value = lv_then kind.rest x kind.takes.rest_octets kind.goes_on in
    let t : Tlv = record { kind = kind.value; value = value.value } in
    let made : TakesItem tlv IsTlvRead octets (t, value.rest) = record {
      takes = Takes-then kind.takes value.takes;
      fits = record { is_tlv = record { kind = kind.fits; value = value.fits.short }; value_octets = value.fits.value_octets };
    } in
    subst (TakesItem tlv IsTlvRead octets) (some_is (t, value.rest) x value.goes_on) made

pub tlv_again : (t : Tlv) (rest : List ℕ) → IsTlv t → tlv_at (tlv t ++ rest) ≡ Some (t, rest)
unfolding tlv_at
tlv_again t rest fits =
    ap tlv_at (append_assoc (digits 1 t.kind) (lv t.value) rest)
    ∙ rw (number_again 1 t.kind (lv t.value ++ rest) fits.kind, lv_again t.value rest fits.value) refl

pub location_tlv_takes : (octets : List ℕ) (x : Tlv × List ℕ) → IsOctets octets → location_tlv_at octets ≡ Some x → TakesItem tlv IsLocationTlvRead octets x
unfolding location_tlv_at
location_tlv_takes octets x h e =
    let b = bind_some (tlv_at octets) (λ found. cond (may_locate found.0) (Some found) None) x e in
    let p = passed_some (may_locate b.0.0) b.0 x b.2 in
    let t = tlv_takes octets b.0 h b.1 in
    let made : TakesItem tlv IsLocationTlvRead octets b.0 = record { takes = t.takes; fits = record { is_location_tlv = record { is_tlv = t.fits.is_tlv; may_locate = p.0 }; value_octets = t.fits.value_octets } } in
    subst (TakesItem tlv IsLocationTlvRead octets) p.1 made

pub location_tlv_again : (t : Tlv) (rest : List ℕ) → IsLocationTlv t → location_tlv_at (tlv t ++ rest) ≡ Some (t, rest)
unfolding location_tlv_at
location_tlv_again t rest fits = rw (tlv_again t rest fits.is_tlv, fits.may_locate) refl

pub request_takes : (width : ℕ) (octets : List ℕ) (x : SegmentRequest × List ℕ) → IsOctets octets → request_at width octets ≡ Some x → TakesItem (request width) (RequestFits width) octets x
unfolding request_at
request_takes width octets x h e =
    let start = number_then width octets x h e in
    let end = number_then width start.rest x start.takes.rest_octets start.goes_on in
    let r : SegmentRequest = record { start = start.value; end = end.value } in
    let made : TakesItem (request width) (RequestFits width) octets (r, end.rest) = record {
      takes = Takes-then start.takes end.takes;
      fits = record { start = start.fits; end = end.fits };
    } in
    subst (TakesItem (request width) (RequestFits width) octets) (some_is (r, end.rest) x end.goes_on) made

pub request_again : (width : ℕ) (r : SegmentRequest) (rest : List ℕ) → RequestFits width r → request_at width (request width r ++ rest) ≡ Some (r, rest)
unfolding request_at
request_again width r rest fits =
    ap (request_at width) (append_assoc (digits width r.start) (digits width r.end) rest)
    ∙ rw (number_again width r.start (digits width r.end ++ rest) fits.start, number_again width r.end rest fits.end) refl

-- ---- how many octets are left

octets_behind : (count : ℕ) (octets : List ℕ) (x : List ℕ × List ℕ) → octets_at count octets ≡ Some x → length x.1 + count ≡ length octets
octets_behind count octets x e =
    let g = guard_some (ltb (length octets) count) (take count octets, drop count octets) x e in
    let long : count ≤ length octets = ltb-false _ _ g.0 in
    let left : length (drop count octets) + count ≡ length octets = omega (arith, length-drop count octets) in
    subst (λ (y : List ℕ × List ℕ). length y.1 + count ≡ length octets) g.1 left

pub number_behind : (width : ℕ) (octets : List ℕ) (x : ℕ × List ℕ) → number_at width octets ≡ Some x → length x.1 + width ≡ length octets
unfolding number_at
number_behind width octets x e =
    let b = bind_some (octets_at width octets) (λ front. Some (number_of front.0, front.1)) x e in
    subst (λ (y : ℕ × List ℕ). length y.1 + width ≡ length octets) (some_is (number_of b.0.0, b.0.1) x b.2) (octets_behind width octets b.0 b.1)

pub lv_behind : (octets : List ℕ) (x : List ℕ × List ℕ) → lv_at octets ≡ Some x → length x.1 < length octets
unfolding lv_at
lv_behind octets x e =
    let b = bind_some (number_at 1 octets) (λ count. octets_at count.0 count.1) x e in
    omega (arith, number_behind 1 octets b.0 b.1, octets_behind b.0.0 b.0.1 x b.2)

pub tlv_behind : (octets : List ℕ) (x : Tlv × List ℕ) → tlv_at octets ≡ Some x → length x.1 < length octets
unfolding tlv_at
tlv_behind octets x e =
    let kind = bind_some (number_at 1 octets) (λ kind. lv_at kind.1 >>= (λ value. Some (record { kind = kind.0; value = value.0 }, value.1))) x e in
    let value = bind_some (lv_at kind.0.1) (λ value. Some (record { kind = kind.0.0; value = value.0 }, value.1)) x kind.2 in
    let t : Tlv = record { kind = kind.0.0; value = value.0.0 } in
    let shorter : length value.0.1 < length octets = omega (arith, number_behind 1 octets kind.0 kind.1, lv_behind kind.0.1 value.0 value.1) in
    subst (λ (y : Tlv × List ℕ). length y.1 < length octets) (some_is (t, value.0.1) x value.2) shorter

pub location_tlv_behind : (octets : List ℕ) (x : Tlv × List ℕ) → location_tlv_at octets ≡ Some x → length x.1 < length octets
unfolding location_tlv_at
location_tlv_behind octets x e =
    let b = bind_some (tlv_at octets) (λ found. cond (may_locate found.0) (Some found) None) x e in
    let p = passed_some (may_locate b.0.0) b.0 x b.2 in
    subst (λ (y : Tlv × List ℕ). length y.1 < length octets) p.1 (tlv_behind octets b.0 b.1)

pub request_behind : (width : ℕ) → 1 ≤ width → (octets : List ℕ) (x : SegmentRequest × List ℕ) → request_at width octets ≡ Some x → length x.1 < length octets
unfolding request_at
request_behind width long octets x e =
    let start = bind_some (number_at width octets) (λ start. number_at width start.1 >>= (λ end. Some (record { start = start.0; end = end.0 }, end.1))) x e in
    let end = bind_some (number_at width start.0.1) (λ end. Some (record { start = start.0.0; end = end.0 }, end.1)) x start.2 in
    let r : SegmentRequest = record { start = start.0.0; end = end.0.0 } in
    let shorter : length end.0.1 < length octets = omega (arith, number_behind width octets start.0 start.1, number_behind width start.0.1 end.0 end.1) in
    subst (λ (y : SegmentRequest × List ℕ). length y.1 < length octets) (some_is (r, end.0.1) x end.2) shorter
