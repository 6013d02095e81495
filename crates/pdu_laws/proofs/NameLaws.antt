-- A body whose fields fit, with or without its names.
use Rattle.std.proofs.Common.{◌≡◌, ℕ, ◌<◌, Bool, true, false, ◌||◌, ◌==◌, ◌⊎◌, inl, inr, List, [], length, refl, ap, arith}
use Rattle.std.proofs.lemmas.Bool.{eqb-true, eqb-false, eq-eqb, ne_eqb, or_parts, or_from}
use Rattle.std.proofs.lemmas.List.{nil_from_length}
use Rattle.pdu_values.specs.declared.bodies.Metadata as metadata_type
use Rattle.pdu_values.specs.declared.pdu.Body.{Body}
use Rattle.pdu_values.specs.declared.pdu.Body.TheVariants as bodies
use Rattle.pdu_values.specs.Spelling.{IsName, BodyFits}
use Rattle.pdu_reading.specs.Reading.{lacks_name}
use Rattle.pdu_laws.proofs.BodyLaws.{FieldsFit}

-- a name that is not left out
is_name : (name : List ℕ) → length name < 256 → (length name == 0) ≡ false → IsName name
is_name name short not_empty = record { least = omega (arith, eqb-false (length name) 0 not_empty); most = short }

-- fields that fit, and no name left out
pub fields_and_names : (width : ℕ) (body : Body) → FieldsFit width body → lacks_name body ≡ false → BodyFits width body
fields_and_names width (bodies.Eof e) fits named = fits
fields_and_names width (bodies.Finished f) fits named = fits
fields_and_names width (bodies.Ack a) fits named = fits
fields_and_names width (bodies.Metadata m) fits named =
    let names = or_parts (length m.source_name == 0) (length m.destination_name == 0) named in
    record {
      checksum_type = fits.checksum_type;
      size = fits.size;
      source_name = is_name m.source_name fits.source_name names.0;
      destination_name = is_name m.destination_name fits.destination_name names.1;
      messages = fits.messages;
    }
fields_and_names width (bodies.Nak n) fits named = fits
fields_and_names width (bodies.Prompt p) fits named = fits
fields_and_names width (bodies.KeepAlive k) fits named = fits
fields_and_names width (bodies.FileData f) fits named = fits

pub fields_fit : (width : ℕ) (body : Body) → BodyFits width body → FieldsFit width body
fields_fit width (bodies.Eof e) fits = fits
fields_fit width (bodies.Finished f) fits = fits
fields_fit width (bodies.Ack a) fits = fits
fields_fit width (bodies.Metadata m) fits = record {
  checksum_type = fits.checksum_type;
  size = fits.size;
  source_name = fits.source_name.most;
  destination_name = fits.destination_name.most;
  messages = fits.messages;
}
fields_fit width (bodies.Nak n) fits = fits
fields_fit width (bodies.Prompt p) fits = fits
fields_fit width (bodies.KeepAlive k) fits = fits
fields_fit width (bodies.FileData f) fits = fits

-- a body that fits leaves no name out
pub names_fit : (width : ℕ) (body : Body) → BodyFits width body → lacks_name body ≡ false
names_fit width (bodies.Eof e) fits = refl
names_fit width (bodies.Finished f) fits = refl
names_fit width (bodies.Ack a) fits = refl
names_fit width (bodies.Metadata m) fits =
    let source = fits.source_name.least in
    let destination = fits.destination_name.least in
    or_from (length m.source_name == 0) (length m.destination_name == 0) (ne_eqb (length m.source_name) 0 (λ is. omega arith)) (ne_eqb (length m.destination_name) 0 (λ is. omega arith))
names_fit width (bodies.Nak n) fits = refl
names_fit width (bodies.Prompt p) fits = refl
names_fit width (bodies.KeepAlive k) fits = refl
names_fit width (bodies.FileData f) fits = refl

-- ---- a name that is left out

lacking_step : (source destination : List ℕ) (b : Bool) → (length source == 0) ≡ b → (b || (length destination == 0)) ≡ true → (source ≡ []) ⊎ (destination ≡ [])
lacking_step source destination true is e = inl (nil_from_length source (eqb-true (length source) 0 is))
lacking_step source destination false is e = inr (nil_from_length destination (eqb-true (length destination) 0 e))

pub lacking : (m : metadata_type.Metadata) → lacks_name (bodies.Metadata m) ≡ true → (m.source_name ≡ []) ⊎ (m.destination_name ≡ [])
lacking m e = lacking_step m.source_name m.destination_name (length m.source_name == 0) refl e

pub lacking_is : (m : metadata_type.Metadata) → (m.source_name ≡ []) ⊎ (m.destination_name ≡ []) → lacks_name (bodies.Metadata m) ≡ true
lacking_is m (inl source) = rw (eq-eqb (length m.source_name) 0 (ap length source)) refl
lacking_is m (inr destination) = rw (eq-eqb (length m.destination_name) 0 (ap length destination)) (or_true (length m.source_name == 0))
  where
    or_true : (b : Bool) → (b || true) ≡ true
    or_true true = refl
    or_true false = refl
