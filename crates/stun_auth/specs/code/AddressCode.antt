-- A socket address as data.
use Rattle.std.specs.Prelude.{◌≡◌, ℕ, List, ◌⊎◌, refl}
use Rattle.std.proofs.Common.{inl, inr}
use Rattle.std.specs.Coded.{Coded, code_by, coded×, coded⊎, coded_ℕ, coded_list}
use Rattle.std.specs.declared.net.socket_addr.SocketAddr.{SocketAddr}
use Rattle.std.specs.declared.net.socket_addr.SocketAddr.TheVariants.{V4, V6}

-- address and port
abbrev pub V4Parts : Type 0
V4Parts = List ℕ × ℕ

-- address, port, flow information and scope
abbrev pub V6Parts : Type 0
V6Parts = List ℕ × (ℕ × (ℕ × ℕ))

abbrev pub parts_of : SocketAddr → V4Parts ⊎ V6Parts
parts_of (V4 a) = inl (a.ip.octets, a.port)
parts_of (V6 a) = inr (a.ip.segments, (a.port, (a.flowinfo, a.scope_id)))

abbrev pub from_parts : V4Parts ⊎ V6Parts → SocketAddr
from_parts (inl p) = V4 (record { ip = record { octets = p.0 }; port = p.1 })
from_parts (inr p) =
    V6 (record {
      ip = record { segments = p.0 };
      port = p.1.0;
      flowinfo = p.1.1.0;
      scope_id = p.1.1.1;
    })

pub parts_again : (a : SocketAddr) → from_parts (parts_of a) ≡ a
parts_again (V4 a) = refl
parts_again (V6 a) = refl

abbrev pub coded_address : Coded SocketAddr
coded_address = code_by (V4Parts ⊎ V6Parts) (coded⊎ (coded× (coded_list coded_ℕ) coded_ℕ)
    (coded× (coded_list coded_ℕ) (coded× coded_ℕ (coded× coded_ℕ coded_ℕ)))) parts_of from_parts
    parts_again
