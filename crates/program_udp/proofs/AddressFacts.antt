-- The first that listens at an address.
use Rattle.std.proofs.Common.{◌≡◌, ◌≤◌, ◌-◌, ◌↔◌, ℕ, Bool, false, IsTrue, List, [], ◌∷◌, Option, length, take, drop, get_or, subst, arith, inr}
use Rattle.std.proofs.lemmas.Bool.{false≢true}
use Rattle.std.proofs.lemmas.List.{take_rest}
use Rattle.std.specs.declared.net.socket_addr.SocketAddr.{SocketAddr}
use Rattle.program_udp.specs.Peers.{FirstAt, Fits}
use Rattle.program_udp.specs.declared.addresses.Compared.{Compared}
use Rattle.program_udp.specs.declared.addresses.PeerAddress.{PeerAddress}

pub behind_first : (compared : Compared) (peers : List PeerAddress) (address : SocketAddr) (place : Option ℕ) (d : PeerAddress) (listens : Bool) → 1 ≤ length peers → (IsTrue listens ↔ Fits compared (get_or peers 0 d).address address) → listens ≡ false → FirstAt compared (take (length peers - 1) (drop 1 peers)) address place → FirstAt compared peers address place
behind_first compared [] address place d listens some said isnt behind = absurd (omega arith)
behind_first compared (first ∷ rest) address place d listens some said isnt behind =
    inr ((λ same. false≢true (subst IsTrue isnt (said.1 same))), subst (λ (l : List PeerAddress). FirstAt compared l address place) (take_rest (first ∷ rest) 1) behind)
