-- What is known of closure, beside the first Metadata.
use Rattle.std.proofs.Common.{◌≡◌, Bool, [], ◌∷◌, Option, Some, None, refl, ap, ◌∙◌}
use Rattle.std.specs.Prelude.{option_map}
use Rattle.cfdp_types.specs.Steps.{older_or}
use Rattle.pdu_values.specs.declared.pdu.Body.{Body}
use Rattle.pdu_values.specs.declared.pdu.Body.TheVariants as body
use Rattle.pdu_values.specs.declared.bodies.Metadata.{Metadata}
use Rattle.txn_events.specs.Events.{body_of_event}
use Rattle.receiver_table.specs.Reception.{initial, step, state_of, metadata_of, closure_of}
use Rattle.receiver_laws.specs.ReceptionLaws.{AsksAsMetadata}

-- what a Metadata says of closure
abbrev said : Option Metadata → Option Bool
said = option_map (λ m. m.closure)

brought : (b : Option Body) → closure_of b ≡ said (metadata_of b)
brought None = refl
brought (Some (body.Metadata m)) = refl
brought (Some _) = refl

first_counts : (m other : Option Metadata) → older_or (said m) (said other) ≡ said (older_or m other)
first_counts None other = refl
first_counts (Some m) other = refl

pub asks_as_metadata : AsksAsMetadata
unfolding initial step state_of
asks_as_metadata [] = refl
asks_as_metadata (entry ∷ front) =
    let now = state_of front in
    let b = body_of_event entry.event in
    ap (λ c. older_or c (closure_of b)) (asks_as_metadata front)
    ∙ ap (older_or (said now.metadata)) (brought b)
    ∙ first_counts now.metadata (metadata_of b)
