-- The order of addresses is total, and tells all addresses apart.
use Rattle.std.proofs.Common.{◌≡◌, ℕ, List, refl, ap}
use Rattle.std.specs.declared.cmp.Ordering.TheVariants.{Less, Equal}
use Rattle.std.specs.Ordering.{nat_cmp, ordering_then, ordering_reverse}
use Rattle.std.specs.Cmp.{IsTotalOrder, on_total, then_total, nat_cmp_total}
use Rattle.std.specs.Cmp.Lexicographic.{slice_cmp, nat_list_cmp_total}
use Rattle.std.specs.FinMap.{IsAntisymmetric}
use Rattle.std.proofs.lemmas.Map.Lookups.{exact_pairs, exact_unsigned, exact_bytes}
use Rattle.std.specs.declared.net.socket_addr.SocketAddrV4.{SocketAddrV4}
use Rattle.std.specs.declared.net.socket_addr.SocketAddrV6.{SocketAddrV6}
use Rattle.std.specs.declared.net.socket_addr.SocketAddr.{SocketAddr}
use Rattle.std.specs.declared.net.socket_addr.SocketAddr.TheVariants.{V4, V6}
use Rattle.stun_base.specs.Address.{v4_cmp, v6_cmp, address_cmp}

pub v4_total : IsTotalOrder v4_cmp
v4_total =
    then_total (on_total (λ a. a.ip.octets) nat_list_cmp_total)
    (on_total (λ a. a.port) nat_cmp_total)

pub v6_total : IsTotalOrder v6_cmp
v6_total =
    then_total (on_total (λ a. a.ip.segments) nat_list_cmp_total)
    (then_total (on_total (λ a. a.port) nat_cmp_total)
    (then_total (on_total (λ a. a.flowinfo) nat_cmp_total)
    (on_total (λ a. a.scope_id) nat_cmp_total)))

reversed : (a b : SocketAddr) → address_cmp a b ≡ ordering_reverse (address_cmp b a)
reversed (V4 a) (V4 b) = v4_total.antisymm a b
reversed (V4 a) (V6 b) = refl
reversed (V6 a) (V4 b) = refl
reversed (V6 a) (V6 b) = v6_total.antisymm a b

chained : (a b c : SocketAddr) → address_cmp a b ≡ Less → address_cmp b c ≡ Less
    → address_cmp a c ≡ Less
chained (V4 a) (V4 b) (V4 c) p q = v4_total.trans a b c p q
chained (V4 a) (V4 b) (V6 c) p q = refl
chained (V4 a) (V6 b) (V4 c) p q = cc
chained (V4 a) (V6 b) (V6 c) p q = refl
chained (V6 a) (V4 b) (V4 c) p q = cc
chained (V6 a) (V4 b) (V6 c) p q = cc
chained (V6 a) (V6 b) (V4 c) p q = cc
chained (V6 a) (V6 b) (V6 c) p q = v6_total.trans a b c p q

tied : (a b c : SocketAddr) → address_cmp a b ≡ Equal → address_cmp a c ≡ address_cmp b c
tied (V4 a) (V4 b) (V4 c) p = v4_total.congr a b c p
tied (V4 a) (V4 b) (V6 c) p = refl
tied (V4 a) (V6 b) c p = cc
tied (V6 a) (V4 b) c p = cc
tied (V6 a) (V6 b) (V4 c) p = refl
tied (V6 a) (V6 b) (V6 c) p = v6_total.congr a b c p

pub address_total : IsTotalOrder address_cmp
address_total = record { antisymm = reversed; trans = chained; congr = tied }

exact_v4 : (a b : SocketAddrV4) → v4_cmp a b ≡ Equal → a ≡ b
exact_v4 a b h =
    ap (λ (p : List ℕ × ℕ). record { ip = record { octets = p.0 }; port = p.1 })
    (exact_pairs (slice_cmp nat_cmp) nat_cmp exact_bytes exact_unsigned (a.ip.octets, a.port) (
      b.ip.octets,
      b.port,
    ) h)

exact_v6 : (a b : SocketAddrV6) → v6_cmp a b ≡ Equal → a ≡ b
exact_v6 a b h =
    let flow_scope : (x y : ℕ × ℕ) → ordering_then (nat_cmp x.0 y.0) (nat_cmp x.1 y.1) ≡ Equal
    → x ≡ y = exact_pairs nat_cmp nat_cmp exact_unsigned exact_unsigned in
    let port_on : (x y : ℕ × (ℕ × ℕ))
    → ordering_then (nat_cmp x.0 y.0) (ordering_then (nat_cmp x.1.0 y.1.0) (nat_cmp x.1.1 y.1.1))
    ≡ Equal → x ≡ y = exact_pairs nat_cmp _ exact_unsigned flow_scope in
    ap (λ (p : List ℕ × (ℕ × (ℕ × ℕ))). record {
      ip = record { segments = p.0 };
      port = p.1.0;
      flowinfo = p.1.1.0;
      scope_id = p.1.1.1;
    })
    (exact_pairs (slice_cmp nat_cmp) _ exact_bytes port_on (
      a.ip.segments,
      (a.port, (a.flowinfo, a.scope_id)),
    ) (b.ip.segments, (b.port, (b.flowinfo, b.scope_id))) h)

pub address_exact : IsAntisymmetric address_cmp
address_exact (V4 a) (V4 b) h = ap V4 (exact_v4 a b h)
address_exact (V4 a) (V6 b) h = cc
address_exact (V6 a) (V4 b) h = cc
address_exact (V6 a) (V6 b) h = ap V6 (exact_v6 a b h)
