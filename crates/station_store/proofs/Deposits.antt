-- A file that is ready is the one that is deposited.
use Rattle.std.proofs.Common.{◌≡◌, ℕ, Bool, true, false, cond, List, [], Option, Some, None, IfSome, refl, subst, arith}
use Rattle.std.specs.Str.{bytes_eq}
use Rattle.std.proofs.lemmas.Bool.{and_parts}
use Rattle.std.proofs.lemmas.Slice.Eq.{bytes_eq-Decides}
use Rattle.disk.specs.Steps.{Step}
use Rattle.disk.specs.Promise.{IsReached}
use Rattle.disk.proofs.Reach.{slash_within}
use Rattle.station_store.specs.declared.settings.Layout.{Layout}
use Rattle.station_store.specs.declared.settings.Clash.{Clash}
use Rattle.station_store.specs.Paths.{IsTaken}
use Rattle.station_store.specs.Stations.{ReadyFile, IsKept, IsReadyFor, is_for, ready_place}

-- the empty path has no folder
pub root_reached : (steps : List Step) → IsReached steps []
root_reached steps end slash = absurd (omega (arith, slash_within [] end slash))

-- the file that answers has this name and these octets, and where it was kept it stays
pub record WasReady (layout : Layout) (clash : Clash) (done : List Step) (name octets : List ℕ) (place : Option (List ℕ)) : Type 0 where
  pub taken : IsTaken layout name
  pub kept : IfSome place (λ at. IsKept layout clash done name octets at)

pub was_ready : (layout : Layout) (clash : Clash) (done : List Step) (ready : Option ReadyFile) (name octets : List ℕ) (place : Option (List ℕ)) → IsReadyFor layout clash done ready
    → ready_place ready name octets ≡ Some place → WasReady layout clash done name octets place
was_ready layout clash done None name octets place is at = absurd cc
was_ready layout clash done (Some file) name octets place is at = by (is_for name octets file) refl at
  where
    by : (same : Bool) → is_for name octets file ≡ same → cond same (Some file.place) None ≡ Some place → WasReady layout clash done name octets place
    by true same at =
        let both = and_parts (bytes_eq file.name name) (bytes_eq file.octets octets) same in
        let of_name : file.name ≡ name = (bytes_eq-Decides file.name name).0 both.0 in
        let of_octets : file.octets ≡ octets = (bytes_eq-Decides file.octets octets).0 both.1 in
        let of_place : file.place ≡ place = cc in
        let kept = subst (λ (p : Option (List ℕ)). IfSome p (λ q. IsKept layout clash done file.name file.octets q)) of_place is.1 in
        let kept_octets = subst (λ (o : List ℕ). IfSome place (λ q. IsKept layout clash done file.name o q)) of_octets kept in
        record {
          taken = subst (IsTaken layout) of_name is.0;
          kept = subst (λ (n : List ℕ). IfSome place (λ q. IsKept layout clash done n octets q)) of_name kept_octets;
        }
    by false same at = absurd cc
