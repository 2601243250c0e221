-- An address that a caller passed is returned as it was passed.
use Rattle.std.proofs.Common.{◌≡◌, ◌*◌, ◌+◌, ◌/◌, ◌%◌, ℕ, List, [], ◌∷◌, ◌++◌, Bool, true, false}
use Rattle.std.proofs.Common.{if◌then◌else◌, ◌==◌, Option, Some, None, length, take, replicate}
use Rattle.std.proofs.Common.{refl, sym, ap, ap₂, subst, arith}
use Rattle.std.specs.Net.Addr.{octets_of, segments_of}
use Rattle.std.specs.declared.net.socket_addr.SocketAddr.{SocketAddr}
use Rattle.std.specs.declared.net.socket_addr.SocketAddr.TheVariants.{V6}
use Rattle.stun_handles.specs.Addresses.{caller_address, ipv4, ipv6, socket_address}
use Rattle.stun_handles.specs.declared.address.Address.{Address}

take_four : (octets : List ℕ) → length octets ≡ 16
    → take 4 (take 4 octets ++ replicate 12 0) ≡ take 4 octets
take_four [] h = absurd (omega (arith, h))
take_four (a ∷ []) h = absurd (omega (arith, h))
take_four (a ∷ b ∷ []) h = absurd (omega (arith, h))
take_four (a ∷ b ∷ c ∷ []) h = absurd (omega (arith, h))
take_four (a ∷ b ∷ c ∷ d ∷ rest) h = refl

whole : (s : ℕ) → s / 256 * 256 + s % 256 ≡ s
whole s = grind arith

segments_again : (segments : List ℕ) → segments_of (octets_of segments) ≡ segments
segments_again [] = refl
segments_again (s ∷ rest) = ap₂ (λ x xs. x ∷ xs) (whole s) (segments_again rest)

abbrev IsMeant : Option SocketAddr → SocketAddr → Type 0
IsMeant o address = o ≡ Some address

same_address : (a b : SocketAddr) → IsMeant (Some a) b → b ≡ a
same_address a b h = cc

of_length : (octets : List ℕ) (port : ℕ) (four sixteen : Bool) (address : SocketAddr)
    → length octets ≡ 16
    → IsMeant (if four then Some (ipv4 (take 4 octets) port)
    else if sixteen then Some (ipv6 octets port) else None) address
    → socket_address (caller_address address) ≡ Some address
of_length octets port true sixteen address size h =
    subst (λ a. socket_address (caller_address a) ≡ Some a)
    (sym (same_address (ipv4 (take 4 octets) port) address h))
    (ap (λ o. Some (ipv4 o port)) (take_four octets size))
of_length octets port false true address size h =
    subst (λ a. socket_address (caller_address a) ≡ Some a)
    (sym (same_address (ipv6 octets port) address h))
    (ap (λ s. Some (V6 (record {
      ip = record { segments = s };
      port = port;
      flowinfo = 0;
      scope_id = 0;
    }))) (segments_again (segments_of octets)))
of_length octets port false false address size h = cc

-- the address that a caller passed is told again
pub address_again : (a : Address) (address : SocketAddr) → length a.octets ≡ 16
    → socket_address a ≡ Some address → socket_address (caller_address address) ≡ Some address
address_again a address size h =
    of_length a.octets a.port (a.length == 4) (a.length == 16) address size h
