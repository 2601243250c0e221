-- What has no line feed: digits, and the texts of addresses.
use Rattle.std.proofs.Common.{◌≡◌, ℕ, zero, suc, ◌+◌, ◌/◌, ◌%◌, List, [], ◌∷◌, ◌++◌, All, false}
use Rattle.std.proofs.Common.{drop, take, flat_map, refl, ◌∙◌, ap, arith}
use Rattle.std.specs.Prelude.{◌==◌, ◌||◌, bytes_eq, codes, nat_lt}
use Rattle.std.specs.Char.{digit_char}
use Rattle.std.specs.Fmt.{digit_glyph, digits, digits_onto}
use Rattle.std.specs.Net.Addr.{ipv4_octets, ipv6_segments, octets_of}
use Rattle.std.specs.Net.Text.{compressed_text, groups_text, hex, hex_groups_text, ipv4_text}
use Rattle.std.specs.Net.Text.{ipv6_text, leading_zero_digits, longest_zero_run, scope_text}
use Rattle.std.specs.Net.Text.{socket_text}
use Rattle.std.specs.declared.net.socket_addr.SocketAddr.{SocketAddr}
use Rattle.std.specs.declared.net.socket_addr.SocketAddr.TheVariants.{V4, V6}
use Rattle.std.proofs.lemmas.Bool.{cond_both, ne_eqb}
use Rattle.std.proofs.lemmas.List.Elements.{All-append, All-cons, All-drop, All-nil}
use Rattle.std.proofs.lemmas.List.Folds.{list_any-append, list_any_none}
use Rattle.stun_base.specs.AttributeText.{hex_byte}
use Rattle.stun_cli.specs.Line.{has_line_feed}

-- a text of two that have none
pub has_line_feed-append : (front text : List ℕ) → has_line_feed front ≡ false
    → has_line_feed text ≡ false
    → has_line_feed (front ++ text) ≡ false
has_line_feed-append front text none none_behind =
    list_any-append (λ byte. byte == 10) front text
    ∙ (ap (λ any. any || has_line_feed text) none ∙ none_behind)

-- a byte is no line feed, and none of a text is
abbrev Other : ℕ → Type 0
Other byte = (byte == 10) ≡ false

record AreOther (text : List ℕ) : Type 0 where
  bytes : All Other text

none : AreOther []
none = record { bytes = All-nil Other }

and : (front text : List ℕ) → AreOther front → AreOther text → AreOther (front ++ text)
and front text are are_behind = record {
  bytes = All-append Other front text are.bytes are_behind.bytes;
}

more : {byte : ℕ} {text : List ℕ} → Other byte → AreOther text → AreOther (byte ∷ text)
more {byte} {text} other are = record { bytes = All-cons Other byte text other are.bytes }

one : (byte : ℕ) → Other byte → AreOther (byte ∷ [])
one byte other = more other none

-- digits
glyph-other : (digit : ℕ) → Other (digit_glyph false digit)
glyph-other digit =
    cond_both (nat_lt digit 10) (48 + digit) (87 + digit) Other
    (λ _. ne_eqb (48 + digit) 10 (λ same. omega (arith, same)))
    (λ _. ne_eqb (87 + digit) 10 (λ same. omega (arith, same)))

char-other : (digit : ℕ) → Other (digit_char digit)
char-other digit =
    cond_both (nat_lt digit 10) (48 + digit) (87 + digit) Other
    (λ _. ne_eqb (48 + digit) 10 (λ same. omega (arith, same)))
    (λ _. ne_eqb (87 + digit) 10 (λ same. omega (arith, same)))

digits_onto-other : (k base n : ℕ) (text : List ℕ) → AreOther text
    → AreOther (digits_onto k base false n text)
digits_onto-other zero base n text are = are
digits_onto-other (suc k) base n text are =
    let first = more (glyph-other (n % base)) are in
    cond_both (n / base == 0) (digit_glyph false (n % base) ∷ text)
    (digits_onto k base false (n / base) (digit_glyph false (n % base) ∷ text)) AreOther
    (λ _. first) (λ _. digits_onto-other k base (n / base) _ first)

digits-other : (base n : ℕ) → AreOther (digits base false n)
unfolding digits
digits-other base n = digits_onto-other 64 base n [] none

-- the text of an address
dot : AreOther (codes ".")
dot = one 46 refl

colon : AreOther (codes ":")
colon = one 58 refl

colons : AreOther (codes "::")
colons = more refl colon

ipv4-other : (octets : List ℕ) → AreOther (ipv4_text octets)
ipv4-other octets =
    let first = and _ _ (and _ _ (digits-other 10 _) dot) (digits-other 10 _) in
    let second = and _ _ (and _ _ first dot) (digits-other 10 _) in
    and _ _ (and _ _ second dot) (digits-other 10 _)

hex-other : (segment : ℕ) → AreOther (hex segment)
unfolding hex
hex-other segment =
    record {
      bytes =
          All-drop Other (leading_zero_digits segment) _
          (more (char-other (segment / 0x1000)) (more (char-other (segment / 0x100 % 16))
          (more (char-other (segment / 0x10 % 16)) (one _ (char-other (segment % 16)))))).bytes;
    }

further-other : (segments : List ℕ) → AreOther (flat_map (λ t. codes ":" ++ hex t) segments)
further-other [] = none
further-other (first ∷ rest) =
    and _ _ (and _ _ colon (hex-other first)) (further-other rest)

groups-other : (segments : List ℕ) → AreOther (groups_text segments)
groups-other [] = none
groups-other (first ∷ rest) = and _ _ (hex-other first) (further-other rest)

compressed-other : (segments : List ℕ) (run : ℕ × ℕ) → AreOther (compressed_text segments run)
compressed-other segments run =
    let front = take run.0 segments in
    let behind = drop (run.0 + run.1) segments in
    cond_both (nat_lt 1 run.1) (groups_text front ++ codes "::" ++ groups_text behind)
    (groups_text segments) AreOther
    (λ _. and _ _ (and _ _ (groups-other front) colons) (groups-other behind))
    (λ _. groups-other segments)

groups_text-other : (segments : List ℕ) → AreOther (hex_groups_text segments)
unfolding hex_groups_text
groups_text-other segments = compressed-other segments (longest_zero_run segments)

mapped : AreOther (codes "::ffff:")
mapped = more refl (more refl (more refl (more refl (more refl (more refl colon)))))

ipv6-other : (segments : List ℕ) → AreOther (ipv6_text segments)
unfolding ipv6_text
ipv6-other segments =
    let last = octets_of (drop 6 segments) in
    cond_both (bytes_eq (take 6 segments) (0 ∷ 0 ∷ 0 ∷ 0 ∷ 0 ∷ 0xffff ∷ []))
    (codes "::ffff:" ++ ipv4_text last) (hex_groups_text segments) AreOther
    (λ _. and _ _ mapped (ipv4-other last)) (λ _. groups_text-other segments)

scope-other : (scope : ℕ) → AreOther (scope_text scope)
scope-other scope = cond_both _ _ _ AreOther (λ _. none) (λ _. more refl (digits-other 10 scope))

address-other : (address : SocketAddr) → AreOther (socket_text address)
address-other (V4 a) =
    and _ _ (and _ _ (ipv4-other (ipv4_octets a.ip)) colon) (digits-other 10 a.port)
address-other (V6 a) =
    let host = and _ _ (ipv6-other (ipv6_segments a.ip)) (scope-other a.scope_id) in
    more refl (and _ _ (and _ _ host (more refl colon)) (digits-other 10 a.port))

-- so they have no line feed
pub no_line_feed_in_digits : (base n : ℕ) → has_line_feed (digits base false n) ≡ false
no_line_feed_in_digits base n =
    list_any_none (λ byte. byte == 10) (digits base false n) (digits-other base n).bytes

pub no_line_feed_in_byte : (byte : ℕ) → has_line_feed (hex_byte byte) ≡ false
no_line_feed_in_byte byte =
    list_any_none (λ byte. byte == 10) (hex_byte byte)
    (more (glyph-other (byte / 16)) (one _ (glyph-other (byte % 16)))).bytes

pub no_line_feed_in_address : (address : SocketAddr) → has_line_feed (socket_text address) ≡ false
no_line_feed_in_address address =
    list_any_none (λ byte. byte == 10) (socket_text address) (address-other address).bytes
