-- What a client adds to a body always fits the message.
use Rattle.std.proofs.Common.{◌≡◌, ◌≤◌, ◌<◌, ◌^◌, ◌+◌, ◌-◌, ℕ, Bool, true, false, List, []}
use Rattle.std.proofs.Common.{◌∷◌, ◌++◌, length, Option, Some, None, Ok, Err, refl, sym, ◌∙◌, ap, arith}
use Rattle.std.proofs.Common.{cond, subst}
use Rattle.std.specs.Prelude.{nat_le, nat_lt, ◌==◌, ◌||◌}
use Rattle.std.specs.List.{AllByRecursion}
use Rattle.std.specs.Net.Addr.{ipv4_octets, ipv6_octets}
use Rattle.std.specs.Net.Socket.{socket_ip, socket_port}
use Rattle.std.specs.Option.{IfSome}
use Rattle.std.specs.declared.net.ip_addr.IpAddr.{IpAddr}
use Rattle.std.specs.declared.net.ip_addr.IpAddr.TheVariants.{V4, V6}
use Rattle.std.proofs.lemmas.List.Sums.{sum_by-append, sum_by-cons}
use Rattle.stun_base.specs.Algorithm.{digest_length}
use Rattle.stun_base.specs.Attributes.{FINGERPRINT, MESSAGE_INTEGRITY, MESSAGE_INTEGRITY_SHA256, NONCE}
use Rattle.stun_base.specs.Attributes.{PASSWORD_ALGORITHM, PASSWORD_ALGORITHMS, REALM, USERHASH}
use Rattle.stun_base.specs.Attributes.{USERNAME}
use Rattle.stun_base.specs.Credentials.{NameAndPassword}
use Rattle.stun_base.specs.declared.keys.algorithm.IntegrityAlgorithm.{IntegrityAlgorithm}
use Rattle.stun_base.specs.declared.keys.algorithm.IntegrityAlgorithm.TheVariants.{Sha1, Sha256}
use Rattle.stun_base.specs.declared.wire.error.StunWriteError.{StunWriteError}
use Rattle.stun_base.specs.declared.wire.error.StunWriteError.TheVariants.{MessageIntegrityExists}
use Rattle.stun_base.specs.declared.wire.error.StunWriteError.TheVariants.{NotAllowed, TooLarge}
use Rattle.stun_base.specs.declared.wire.error.StunWriteError.TheVariants.{TooSmall}
use Rattle.stun_base.specs.declared.wire.message_type.MessageClass.TheVariants.{Request}
use Rattle.stun_base.specs.MessageType.{type_number}
use Rattle.stun_types.specs.Attribute.{TypedValue, attribute_length}
use Rattle.stun_types.specs.Grammar.{spelled_message}
use Rattle.stun_types.specs.Limits.{LENGTH_LIMIT, TEXT_LIMIT, USERNAME_LIMIT, max_length}
use Rattle.stun_types.specs.Message.{IsMessage}
use Rattle.stun_types.specs.Visible.{has_kind}
use Rattle.stun_types.specs.Walk.{walk}
use Rattle.stun_types.specs.Writing.{HasOneMore, IsAddable, IsOpen}
use Rattle.stun_types.specs.Writing.{empty_message, has_integrity}
use Rattle.stun_types.specs.Writing.{integrity_attribute, is_set_apart, length_with, size_refusal}
use Rattle.stun_types.specs.Writing.{signing_refusal, with_attribute, with_integrity}
use Rattle.stun_types.specs.XorMappedAddress.{xor_bytes, xor_key, xored_address, xored_value}
use Rattle.stun_judging.specs.AddedAttribute as attributes
use Rattle.stun_judging.specs.Additions.{Addition, Page, added_all, added_one, addition_refusal}
use Rattle.stun_judging.specs.Additions.{after, attribute, growth, growth_of, integrity}
use Rattle.stun_judging.specs.Additions.{is_text_too_long as is_added_too_long, page_unless_refused}
use Rattle.stun_judging.specs.Naming.{Naming, hashed, plain, name_attribute}
use Rattle.stun_judging.specs.Signed.{added_kinds, hashed_name, kinds_in, plain_name}
use Rattle.stun_judging.proofs.Growth.{length-with_integrity}
use Rattle.stun_judging.proofs.SignedRoom.{length-one_more}
use Rattle.stun_extra.specs.AttributeTypes.{SOFTWARE}
use Rattle.stun_extra.specs.Fingerprint.{with_fingerprint}
use Rattle.stun_client.specs.Challenge.{Challenge, algorithm_choice, challenge_additions}
use Rattle.stun_client.specs.Challenges.{Answered}
use Rattle.stun_client.specs.Judging.{long_term}
use Rattle.stun_client.specs.Signing.{additions_of as additions_for}
use Rattle.stun_client.specs.declared.preferences.Preferences.{Preferences}
use Rattle.stun_exchanges.proofs.SealedLemmas.{still_none}
use Rattle.stun_client_endpoint.specs.Bodies.{BODY_LIMIT, Body, Piece, RESERVED, attribute_for}
use Rattle.stun_client_endpoint.specs.Bodies.{body_length, body_size_refusal, is_reserved}
use Rattle.stun_client_endpoint.specs.Bodies.{of_peer, piece_length, with_value}
use Rattle.stun_client_endpoint.specs.Written.{Form, Page?, and_then, closed_request}
use Rattle.stun_client_endpoint.specs.Written.{completed_request, is_text_too_long, page_bytes}
use Rattle.stun_client_endpoint.specs.Written.{request_bytes, room_left, unless, whole_request}
use Rattle.stun_client_endpoint.specs.Written.{with_another, with_body, with_credentials}
use Rattle.stun_client_endpoint.specs.Written.{with_one, with_own_end, with_own_software}
use Rattle.stun_client_endpoint.specs.declared.body.BodyError.{BodyError}
use Rattle.stun_client_endpoint.specs.declared.body.BodyError.TheVariants as Bodies
use Rattle.stun_requests.specs.Fitting.{IsBuiltBody, IsShort, IsWhole, IsWritten, adds, adds_peer, new}
use Rattle.stun_requests.specs.ReadBack.{AreOrdinary, IsOrdinary}
use Rattle.stun_requests.proofs.ReadBackLemmas.{ReadingLaws, begun, flip, none_of, not_print}
use Rattle.stun_requests.proofs.ReadBackLemmas.{there_already}

-- ---- bodies

at_end : {X : Type 0} (P : X → Type 0) (xs : List X) (x : X) → AllByRecursion P xs → P x
    → AllByRecursion P (xs ++ x ∷ [])
at_end P [] x all one = (one, tt)
at_end P (y ∷ ys) x all one = (all.0, at_end P ys x all.1 one)

-- an address has its bytes
abbrev IsWholePiece : Piece → Type 0
IsWholePiece (with_value a) = Unit {0}
IsWholePiece (of_peer address) = IsWhole (socket_ip address)

passes : {E : Type 0} (b : Bool) (why : E) (o : Option E) → cond b (Some why) o ≡ None
    → (b ≡ false) × (o ≡ None)
passes true why o none = cc
passes false why o none = (refl, none)

has_room : (b : Bool) (why : BodyError) → cond b None (Some why) ≡ None → b ≡ true
has_room true why none = refl
has_room false why none = cc

below : (a b : ℕ) → nat_le a b ≡ true → a ≤ b
below a b is = grind (arith, is)

longer_body : (body : Body) (piece : Piece) (n : ℕ) → piece_length piece ≡ attribute_length n
    → body_size_refusal body n ≡ None → body_length (body ++ piece ∷ []) ≤ BODY_LIMIT
longer_body body piece n same none =
    let room = has_room (nat_le (body_length body + attribute_length n) BODY_LIMIT) Bodies.TooLarge
    none in
    let short = below (body_length body + attribute_length n) BODY_LIMIT room in
    let both = sum_by-append piece_length body (piece ∷ []) in
    let one = sum_by-cons piece_length piece [] in
    omega (arith, short, both, one, same)

pub record Built (body : Body) : Type 0 where
  pub ordinary : AreOrdinary body
  pub short : body_length body ≤ BODY_LIMIT
  pub whole : AllByRecursion IsWholePiece body

pub built : (body : Body) → IsBuiltBody body → Built body
built body new = record { ordinary = tt; short = omega arith; whole = tt }
built body (adds before _ kind value is low none same) =
    let was = built before is in
    let piece = with_value (record { kind = kind; value = value }) in
    let first = passes (is_reserved kind) Bodies.NotAllowed
    (body_size_refusal before (length value)) none in
    subst Built (sym same) (record {
      ordinary = at_end IsOrdinary before piece was.ordinary (first.0, low);
      short = longer_body before piece (length value) refl first.1;
      whole = at_end IsWholePiece before piece was.whole tt;
    })
built body (adds_peer before _ address is its none same) =
    let was = built before is in
    subst Built (sym same) (record {
      ordinary = at_end IsOrdinary before (of_peer address) was.ordinary tt;
      short = longer_body before (of_peer address) 20 refl none;
      whole = at_end IsWholePiece before (of_peer address) was.whole its;
    })

-- ---- what fits

xored_shorter : (xs key : List ℕ) → length (xor_bytes xs key) ≤ length xs
xored_shorter [] key = omega arith
xored_shorter (x ∷ xs) [] = omega arith
xored_shorter (x ∷ xs) (k ∷ ks) = omega (arith, xored_shorter xs ks)

peer_takes : (ip : IpAddr) (port id : ℕ) → IsWhole ip
    → length (xored_value (xored_address ip port id)) ≤ 20
peer_takes (V4 ip) port id whole = omega (arith, whole, xored_shorter (ipv4_octets ip) (xor_key id))
peer_takes (V6 ip) port id whole = omega (arith, whole, xored_shorter (ipv6_octets ip) (xor_key id))

piece_takes : (id : ℕ) (piece : Piece) → IsWholePiece piece
    → attribute_length (length (attribute_for id piece).value) ≤ piece_length piece
piece_takes id (with_value a) whole = omega arith
piece_takes id (of_peer address) whole =
    let short = peer_takes (socket_ip address) (socket_port address) id whole in
    longer (length (xored_value (xored_address (socket_ip address) (socket_port address) id))) short
  where
    longer : (n : ℕ) → n ≤ 20 → attribute_length n ≤ attribute_length 20
    longer n short = omega (arith, short)

allowed : {E : Type 0} (refuses : Bool) (reason : E) (rest : Option E) → refuses ≡ false
    → rest ≡ None → cond refuses (Some reason) rest ≡ None
allowed refuses reason rest passes none = ap (λ b. cond b (Some reason) rest) passes ∙ none

not_below : (a b : ℕ) → b ≤ a → nat_lt a b ≡ false
not_below a b within = grind (arith, within)

-- the types that a client adds
abbrev client_kinds : List ℕ
client_kinds = SOFTWARE ∷ added_kinds

-- a page that attributes can be added to, which has none of some types and is not too long
record Ready (page : List ℕ) (kinds : List ℕ) (most : ℕ) : Type 0 where
  is_open : IsOpen page
  none : AllByRecursion (λ kind. has_kind kind (walk page) ≡ false) kinds
  short : length page ≤ most

sized : (page : List ℕ) (room n most : ℕ) → length page ≤ most → most + attribute_length n ≤ LENGTH_LIMIT
    → attribute_length n ≤ room → 20 ≤ length page → size_refusal page room n ≡ None
sized page room n most short fits enough header =
    allowed (nat_lt max_length (length_with page n)) TooLarge
    (cond (nat_lt room (attribute_length n)) (Some TooSmall) None)
    (not_below max_length (length_with page n) (omega (arith, short, fits, header)))
    (allowed (nat_lt room (attribute_length n)) TooSmall None
    (not_below room (attribute_length n) enough) refl)

still : (page longer : List ℕ) (a : TypedValue) (kinds : List ℕ) → HasOneMore page longer a
    → AllByRecursion (λ kind. has_kind kind (walk page) ≡ false) kinds
    → AllByRecursion (λ kind. (a.kind == kind) ≡ false) kinds
    → AllByRecursion (λ kind. has_kind kind (walk longer) ≡ false) kinds
still page longer a [] one none other = tt
still page longer a (kind ∷ kinds) one none other = (
  ap (has_kind kind) one.walk_is
      ∙ still_none kind (walk page) (length page, a) none.0 other.0,
  still page longer a kinds one none.1 other.1,
)

module _ (laws : ReadingLaws)
    (begins : (message_type id : ℕ) → message_type < 2 ^ 14
    → IsOpen (spelled_message message_type id []) × (walk (spelled_message message_type id []) ≡ []))
  where
    -- one more attribute
    grown : (page : List ℕ) (a : TypedValue) (kinds : List ℕ) (most : ℕ) → Ready page kinds most
        → most + attribute_length (length a.value) ≤ LENGTH_LIMIT → a.kind < 2 ^ 16
        → is_set_apart a.kind ≡ false → AllByRecursion (λ kind. (a.kind == kind) ≡ false) kinds
        → Ready (with_attribute page a) kinds (most + attribute_length (length a.value))
    grown page a kinds most ready fits small unset other =
        let header = ready.is_open.is_message.header.is_whole in
        let addable : IsAddable page a = record {
          kind = small;
          value = omega (arith, ready.short, fits, header);
        } in
        let one = laws.adds page a ready.is_open addable in
        record {
          is_open = laws.opens page a ready.is_open addable unset;
          none = still page (with_attribute page a) a kinds one ready.none other;
          short = omega (
            arith,
            ready.short,
            length-one_more page (with_attribute page a) a ready.is_open.is_message one,
          );
        }

    -- ---- the body

    another_is : (page : List ℕ) (a : TypedValue) (kinds : List ℕ) (most : ℕ) → Ready page kinds most
        → most + attribute_length (length a.value) ≤ LENGTH_LIMIT → is_set_apart a.kind ≡ false
        → with_another a page ≡ Ok (with_attribute page a)
    another_is page a kinds most ready fits unset =
        let n = length a.value in
        let room = room_left page in
        let size = size_refusal page room n in
        ap (λ o. unless o (with_attribute page a))
        (allowed (is_set_apart a.kind) NotAllowed
        (cond (has_integrity page) (Some MessageIntegrityExists) size) unset
        (allowed (has_integrity page) MessageIntegrityExists size ready.is_open.no_integrity
        (sized page room n most ready.short fits (omega (arith, ready.short, fits))
        ready.is_open.is_message.header.is_whole)))

    -- of the types of a body, none is written by the client
    record Apart (kind : ℕ) : Type 0 where
      small : kind < 2 ^ 16
      unset : is_set_apart kind ≡ false
      others : AllByRecursion (λ other. (kind == other) ≡ false) client_kinds

    none_set : (a b c : Bool) → a ≡ false → b ≡ false → c ≡ false → (a || b || c) ≡ false
    none_set false false false one two three = refl
    none_set false false true one two three = cc
    none_set false true c one two three = cc
    none_set true b c one two three = cc

    apart_of : (id : ℕ) (piece : Piece) → IsOrdinary piece → Apart (attribute_for id piece).kind
    apart_of id (with_value a) ordinary =
        let all = none_of RESERVED a.kind ordinary.0 in
        record {
          small = ordinary.1;
          unset = none_set (a.kind == MESSAGE_INTEGRITY) (a.kind == MESSAGE_INTEGRITY_SHA256)
              (a.kind == FINGERPRINT) (flip MESSAGE_INTEGRITY a.kind all.1.0)
              (flip MESSAGE_INTEGRITY_SHA256 a.kind all.1.1.1.1.1.1.0)
              (flip FINGERPRINT a.kind all.1.1.1.1.1.1.1.1.1.1.1.1.0);
          others = (
            flip SOFTWARE a.kind all.1.1.1.1.1.1.1.1.1.1.1.0,
            (
              flip NONCE a.kind all.1.1.1.1.0,
              (
                flip REALM a.kind all.1.1.1.0,
                (
                  flip USERNAME a.kind all.0,
                  (
                    flip USERHASH a.kind all.1.1.1.1.1.1.1.1.0,
                    (
                      flip PASSWORD_ALGORITHMS a.kind all.1.1.1.1.1.1.1.1.1.1.0,
                      (flip PASSWORD_ALGORITHM a.kind all.1.1.1.1.1.1.1.0, tt),
                    ),
                  ),
                ),
              ),
            ),
          );
        }
    apart_of id (of_peer address) ordinary = record {
      small = omega arith;
      unset = refl;
      others = (refl, (refl, (refl, (refl, (refl, (refl, (refl, tt)))))));
    }

    -- a step succeeds and leaves such a page
    record Goes (first : Page?) (kinds : List ℕ) (most : ℕ) : Type 0 where
      page : List ℕ
      is : first ≡ Ok page
      ready : Ready page kinds most

    weaker : (page : List ℕ) (kinds : List ℕ) (most greater : ℕ) → most ≤ greater
        → Ready page kinds most → Ready page kinds greater
    weaker page kinds most greater more ready = record {
      is_open = ready.is_open;
      none = ready.none;
      short = omega (arith, ready.short, more);
    }

    body_goes : (id : ℕ) (body : Body) (page : List ℕ) (most : ℕ) → AreOrdinary body
        → AllByRecursion IsWholePiece body → most + body_length body ≤ LENGTH_LIMIT
        → Ready page client_kinds most
        → Goes (with_body id body page) client_kinds (most + body_length body)
    body_goes id [] page most ordinary whole fits ready = record {
      page = page;
      is = refl;
      ready = weaker page client_kinds most (most + body_length []) (omega arith) ready;
    }
    body_goes id (piece ∷ others) page most ordinary whole fits ready =
        let a = attribute_for id piece in
        let n = attribute_length (length a.value) in
        let takes = piece_takes id piece whole.0 in
        let sum = sum_by-cons piece_length piece others in
        let apart = apart_of id piece ordinary.0 in
        let one = another_is page a client_kinds most ready (omega (arith, fits, takes, sum)) apart.unset in
        let next = grown page a client_kinds most ready (omega (arith, fits, takes, sum)) apart.small
        apart.unset apart.others in
        let rest = body_goes id others (with_attribute page a) (most + piece_length piece) ordinary.1
        whole.1 (omega (arith, fits, sum))
        (weaker (with_attribute page a) client_kinds (most + n) (most + piece_length piece)
        (omega (arith, takes)) next) in
        record {
          page = rest.page;
          is = ap (λ first. and_then first (with_body id others)) one ∙ rest.is;
          ready = weaker rest.page client_kinds (most + piece_length piece + body_length others)
              (most + body_length (piece ∷ others)) (omega (arith, sum)) rest.ready;
        }

    -- ---- SOFTWARE

    software_goes : (software : Option (List ℕ)) (page : List ℕ) → IfSome software (λ text. length text ≤ TEXT_LIMIT)
        → Ready page client_kinds 60020
        → Goes (with_own_software software page) added_kinds 60788
    software_goes None page short ready = record {
      page = page;
      is = refl;
      ready = record {
        is_open = ready.is_open;
        none = ready.none.1;
        short = omega (arith, ready.short);
      };
    }
    software_goes (Some text) page short ready =
        let a : TypedValue = record { kind = SOFTWARE; value = text } in
        let n = length text in
        let room = room_left page in
        let size = size_refusal page room n in
        let takes = text_takes n short in
        let bare : Ready page added_kinds 60020 = record {
          is_open = ready.is_open;
          none = ready.none.1;
          short = ready.short;
        } in
        let next = grown page a added_kinds 60020 bare (omega (arith, takes)) (omega arith) refl
        (refl, (refl, (refl, (refl, (refl, (refl, tt)))))) in
        record {
          page = with_attribute page a;
          is =
              ap (λ b. cond b (Err TooLarge) (with_one a page)) (not_below TEXT_LIMIT n short)
              ∙ ap (λ o. unless o (with_attribute page a))
              (allowed (has_integrity page) MessageIntegrityExists
              (cond (has_kind SOFTWARE (walk page)) (Some (there_already SOFTWARE)) size)
              ready.is_open.no_integrity
              (allowed (has_kind SOFTWARE (walk page)) (there_already SOFTWARE) size ready.none.0
              (sized page room n 60020 ready.short (omega (arith, takes))
              (omega (arith, ready.short, takes)) ready.is_open.is_message.header.is_whole)));
          ready = weaker (with_attribute page a) added_kinds (60020 + attribute_length n) 60788
              (omega (arith, takes)) next;
        }
      where
        text_takes : (n : ℕ) → n ≤ TEXT_LIMIT → attribute_length n ≤ 768
        text_takes n short = omega (arith, short)

    -- ---- the signature

    -- an attribute that signing adds
    record IsPlain (a : TypedValue) : Type 0 where
      small : a.kind < 2 ^ 16
      unset : is_set_apart a.kind ≡ false
      short : is_added_too_long a ≡ false

    -- attributes of different types, and then a digest or none
    abbrev AreSignable : List Addition → Type 0
    AreSignable [] = Unit {0}
    AreSignable (attribute a ∷ others) =
        IsPlain a × AllByRecursion (λ kind. (a.kind == kind) ≡ false) (kinds_in others)
        × AreSignable others
    AreSignable (integrity algorithm key ∷ others) = others ≡ []

    -- what they leave, without FINGERPRINT
    record Signs (list : List Addition) (page : List ℕ) (room : ℕ) (most : ℕ) : Type 0 where
      left : Page
      is : added_all list (record { bytes = page; room = room }) ≡ Ok left
      is_message : IsMessage left.bytes
      no_print : has_kind FINGERPRINT (walk left.bytes) ≡ false
      short : length left.bytes ≤ most + growth list

    signs : (list : List Addition) (page : List ℕ) (room most : ℕ) → AreSignable list
        → Ready page (kinds_in list) most → most + growth list ≤ LENGTH_LIMIT → growth list ≤ room
        → Signs list page room most
    unfolding added_one
    signs [] page room most fine ready fits enough = record {
      left = record { bytes = page; room = room };
      is = refl;
      is_message = ready.is_open.is_message;
      no_print = ready.is_open.no_fingerprint;
      short = omega (arith, ready.short);
    }
    signs (attribute a ∷ others) page room most fine ready fits enough =
        let n = length a.value in
        let sum = sum_by-cons growth_of (attribute a) others in
        let size = size_refusal page room n in
        let fresh : Option StunWriteError =
        cond (has_kind a.kind (walk page)) (Some (there_already a.kind)) size in
        let unsigned : Option StunWriteError =
        cond (has_integrity page) (Some MessageIntegrityExists) fresh in
        let accepted : addition_refusal (attribute a) (record { bytes = page; room = room }) ≡ None =
        allowed (is_added_too_long a) TooLarge (cond (is_set_apart a.kind) (Some NotAllowed) unsigned)
        fine.0.short
        (allowed (is_set_apart a.kind) NotAllowed unsigned fine.0.unset
        (allowed (has_integrity page) MessageIntegrityExists fresh ready.is_open.no_integrity
        (allowed (has_kind a.kind (walk page)) (there_already a.kind) size ready.none.0
        (sized page room n most ready.short (omega (arith, fits, sum)) (omega (arith, enough, sum))
        ready.is_open.is_message.header.is_whole)))) in
        let bare : Ready page (kinds_in others) most = record {
          is_open = ready.is_open;
          none = ready.none.1;
          short = ready.short;
        } in
        let longer = with_attribute page a in
        let next : Page = record { bytes = longer; room = room - attribute_length n } in
        let rest = signs others longer (room - attribute_length n) (most + attribute_length n) fine.2
        (grown page a (kinds_in others) most bare (omega (arith, fits, sum)) fine.0.small fine.0.unset
        fine.1)
        (omega (arith, fits, sum)) (omega (arith, enough, sum)) in
        record {
          left = rest.left;
          is = ap (λ refused. after (page_unless_refused refused next) (added_all others)) accepted
              ∙ rest.is;
          is_message = rest.is_message;
          no_print = rest.no_print;
          short = omega (arith, rest.short, sum);
        }
    signs (integrity algorithm key ∷ x ∷ others) page room most fine ready fits enough = cc
    signs (integrity algorithm key ∷ []) page room most fine ready fits enough =
        let n = digest_length algorithm in
        let sum = sum_by-cons growth_of (integrity algorithm key) [] in
        let size = size_refusal page room n in
        let header = ready.is_open.is_message.header.is_whole in
        let accepted : signing_refusal page room algorithm ≡ None =
        allowed (has_integrity page) MessageIntegrityExists size ready.is_open.no_integrity
        (sized page room n most ready.short (omega (arith, fits, sum)) (omega (arith, enough, sum))
        header) in
        let sealed = with_integrity page algorithm key in
        let next : Page = record { bytes = sealed; room = room - attribute_length n } in
        let one = laws.writes.signed page algorithm key ready.is_open
        (omega (arith, ready.short, fits, sum, header)) in
        record {
          left = next;
          is = ap (λ refused. after (page_unless_refused refused next) (added_all [])) accepted;
          is_message = one.is_message;
          no_print = ap (has_kind FINGERPRINT) one.walk_is
              ∙ still_none FINGERPRINT (walk page) (length page, integrity_attribute page algorithm key)
              ready.is_open.no_fingerprint (not_print algorithm);
          short = omega (arith, ready.short, sum, length-with_integrity page algorithm key header);
        }

    -- ---- what a challenge adds

    plain_text : (kind : ℕ) (value : List ℕ) → kind < 2 ^ 16 → is_set_apart kind ≡ false
        → is_added_too_long (record { kind = kind; value = value }) ≡ false
        → IsPlain (record { kind = kind; value = value })
    plain_text kind value small unset short = record { small = small; unset = unset; short = short }

    abbrev choice : List ℕ → IntegrityAlgorithm → List ℕ → List Addition
    choice offered a key = algorithm_choice offered a ++ integrity a key ∷ []

    choice_signable : (offered : List ℕ) (a : IntegrityAlgorithm) (key : List ℕ)
        → AreSignable (choice offered a key)
    choice_signable [] Sha1 key = refl
    choice_signable [] Sha256 key =
        (record { small = omega arith; unset = refl; short = refl }, tt, refl)
    choice_signable (byte ∷ list) a key = (
      record { small = omega arith; unset = refl; short = refl },
      (refl, tt),
      (record { small = omega arith; unset = refl; short = refl }, tt, refl),
    )

    choice_kinds : (P : ℕ → Type 0) → P PASSWORD_ALGORITHMS → P PASSWORD_ALGORITHM
        → (offered : List ℕ) (a : IntegrityAlgorithm) (key : List ℕ)
        → AllByRecursion P (kinds_in (choice offered a key))
    choice_kinds P list one [] Sha1 key = tt
    choice_kinds P list one [] Sha256 key = (one, tt)
    choice_kinds P list one (byte ∷ offered) a key = (list, (one, tt))

    digest_grows : (a : IntegrityAlgorithm) (key : List ℕ) → growth (integrity a key ∷ []) ≤ 36
    digest_grows Sha1 key = omega arith
    digest_grows Sha256 key = omega arith

    entry_grows : (a : IntegrityAlgorithm)
        → growth_of (attribute (attributes.password_algorithm a)) ≤ 8
    entry_grows Sha1 = omega arith
    entry_grows Sha256 = omega arith

    choice_grows : (offered : List ℕ) (a : IntegrityAlgorithm) (key : List ℕ)
        → length offered ≤ 2600 → growth (choice offered a key) ≤ 2648
    choice_grows [] Sha1 key short = omega (arith, digest_grows Sha1 key)
    choice_grows [] Sha256 key short =
        omega (
          arith,
          sum_by-cons growth_of (attribute (attributes.password_algorithm Sha256))
              (integrity Sha256 key ∷ []),
          entry_grows Sha256,
          digest_grows Sha256 key,
        )
    choice_grows (byte ∷ list) a key short =
        let entry = attribute (attributes.password_algorithm a) in
        let repeated = attribute (record { kind = PASSWORD_ALGORITHMS; value = byte ∷ list }) in
        omega (
          arith,
          sum_by-cons growth_of repeated (entry ∷ integrity a key ∷ []),
          sum_by-cons growth_of entry (integrity a key ∷ []),
          entry_grows a,
          digest_grows a key,
          list_takes (length (byte ∷ list)) short,
        )
      where
        list_takes : (n : ℕ) → n ≤ 2600 → attribute_length n ≤ 2604
        list_takes n short = omega (arith, short)

    -- the name, in clear or hashed
    record IsNamed (naming : Naming) : Type 0 where
      plain_one : IsPlain (name_attribute naming)
      takes : attribute_length (length (name_attribute naming).value) ≤ 520
      behind_nonce : (NONCE == (name_attribute naming).kind) ≡ false
      behind_realm : (REALM == (name_attribute naming).kind) ≡ false
      before_list : ((name_attribute naming).kind == PASSWORD_ALGORITHMS) ≡ false
      before_one : ((name_attribute naming).kind == PASSWORD_ALGORITHM) ≡ false

    named : (naming : Naming) → IfSome (plain_name naming) (λ name. length name ≤ USERNAME_LIMIT)
        → IfSome (hashed_name naming) (λ hash. length hash ≡ 32) → IsNamed naming
    named (plain name) short long = record {
      plain_one = record {
        small = omega arith;
        unset = refl;
        short = rw (not_below USERNAME_LIMIT (length name) short) refl;
      };
      takes = takes (length name) short;
      behind_nonce = refl;
      behind_realm = refl;
      before_list = refl;
      before_one = refl;
    }
      where
        takes : (n : ℕ) → n ≤ 513 → attribute_length n ≤ 520
        takes n short = omega (arith, short)
    named (hashed hash) short long = record {
      plain_one = record { small = omega arith; unset = refl; short = refl };
      takes = omega (arith, long);
      behind_nonce = refl;
      behind_realm = refl;
      before_list = refl;
      before_one = refl;
    }

    kind_of_name : (P : ℕ → Type 0) → P USERNAME → P USERHASH → (naming : Naming)
        → P (name_attribute naming).kind
    kind_of_name P one other (plain name) = one
    kind_of_name P one other (hashed hash) = other

    -- what is added under a challenge: it can be added, to a page that has none of its types, and takes
    -- at most so much
    record IsFitting (list : List Addition) : Type 0 where
      signable : AreSignable list
      none : (page : List ℕ) → AllByRecursion (λ kind. has_kind kind (walk page) ≡ false) added_kinds
          → AllByRecursion (λ kind. has_kind kind (walk page) ≡ false) (kinds_in list)
      takes : growth list ≤ 4704

    fitting : (c : Challenge) → IsShort c → IsFitting (challenge_additions true c)
    fitting c short =
        let name = name_attribute c.naming in
        let its = named c.naming short.username short.userhash in
        let tail = choice c.offered c.algorithm c.key in
        let nonce = attributes.nonce c.nonce in
        let realm = attributes.realm c.realm in
        record {
          signable = (
            record {
              small = omega arith;
              unset = refl;
              short = rw (not_below TEXT_LIMIT (length c.nonce) short.nonce) refl;
            },
            (
              refl,
              (
                its.behind_nonce,
                choice_kinds (λ kind. (NONCE == kind) ≡ false) refl refl c.offered c.algorithm c.key,
              ),
            ),
            (
              record {
                small = omega arith;
                unset = refl;
                short = rw (not_below TEXT_LIMIT (length c.realm) short.realm) refl;
              },
              (
                its.behind_realm,
                choice_kinds (λ kind. (REALM == kind) ≡ false) refl refl c.offered c.algorithm c.key,
              ),
              (
                its.plain_one,
                choice_kinds (λ kind. (name.kind == kind) ≡ false) its.before_list its.before_one
                    c.offered c.algorithm c.key,
                choice_signable c.offered c.algorithm c.key,
              ),
            ),
          );
          none = λ page all. (
            all.0,
            (
              all.1.0,
              (
                kind_of_name (λ kind. has_kind kind (walk page) ≡ false) all.1.1.0 all.1.1.1.0 c.naming,
                choice_kinds (λ kind. has_kind kind (walk page) ≡ false) all.1.1.1.1.0 all.1.1.1.1.1.0
                    c.offered c.algorithm c.key,
              ),
            ),
          );
          takes = omega (
            arith,
            sum_by-cons growth_of (attribute nonce) (attribute realm ∷ attribute name ∷ tail),
            sum_by-cons growth_of (attribute realm) (attribute name ∷ tail),
            sum_by-cons growth_of (attribute name) tail,
            text_takes (length c.nonce) short.nonce,
            text_takes (length c.realm) short.realm,
            its.takes,
            choice_grows c.offered c.algorithm c.key short.offered,
          );
        }
      where
        text_takes : (n : ℕ) → n ≤ TEXT_LIMIT → attribute_length n ≤ 768
        text_takes n short = omega (arith, short)

    fitting_for : (who : NameAndPassword) (p : Preferences) (accepts : Bool)
        (challenge : Option Answered) → IfSome challenge (λ c. IsShort c.challenge)
        → IsFitting (additions_for (long_term who p accepts) challenge)
    fitting_for who p accepts None short =
        record { signable = tt; none = λ page all. tt; takes = omega arith }
    fitting_for who p accepts (Some c) short = fitting c.challenge short

    -- ---- all of it

    -- a whole request
    record Ends (first : Page?) : Type 0 where
      bytes : List ℕ
      is : first ≡ Ok bytes

    ended : (has : Bool) (page : List ℕ) → has_kind FINGERPRINT (walk page) ≡ false → IsMessage page
        → length page ≤ 65492 → Ends (with_own_end has page)
    ended false page none is_message short = record { bytes = page; is = refl }
    ended true page none is_message short =
        let room = room_left page in
        record {
          bytes = with_fingerprint page;
          is = ap (λ o. unless o (with_fingerprint page))
              (allowed (has_kind FINGERPRINT (walk page)) (there_already FINGERPRINT)
              (size_refusal page room 4) none
              (sized page room 4 65492 short (omega arith) (omega (arith, short))
              is_message.header.is_whole));
        }

    signed_page : (who : NameAndPassword) (p : Preferences) (accepts : Bool)
        (challenge : Option Answered) (has : Bool) (page : List ℕ)
        → IfSome challenge (λ c. IsShort c.challenge) → Ready page added_kinds 60788
        → Ends (and_then (with_credentials (long_term who p accepts) challenge page)
        (with_own_end has))
    signed_page who p accepts challenge has page short ready =
        let list = additions_for (long_term who p accepts) challenge in
        let fine = fitting_for who p accepts challenge short in
        let bare : Ready page (kinds_in list) 60788 = record {
          is_open = ready.is_open;
          none = fine.none page ready.none;
          short = ready.short;
        } in
        let done = signs list page (LENGTH_LIMIT - length page) 60788 fine.signable bare
        (omega (arith, fine.takes)) (omega (arith, fine.takes, ready.short)) in
        let end = ended has done.left.bytes done.no_print done.is_message
        (omega (arith, done.short, fine.takes)) in
        record {
          bytes = end.bytes;
          is = ap (λ r. and_then (page_bytes r) (with_own_end has)) done.is ∙ end.is;
        }

    written : (form : Form) (who : NameAndPassword) (p : Preferences) (accepts : Bool)
        (challenge : Option Answered) (method id : ℕ) (body : Body) → method < 4096 → IsBuiltBody body
        → IfSome form.software (λ text. length text ≤ TEXT_LIMIT)
        → IfSome challenge (λ c. IsShort c.challenge)
        → Ends (whole_request form (long_term who p accepts) challenge method id body)
    written form who p accepts challenge method id body low is software short =
        let identity = long_term who p accepts in
        let of = built body is in
        let start = empty_message Request method id in
        let fresh = begun laws method id low in
        let first = body_goes id body start 20 of.ordinary of.whole (omega (arith, of.short)) (record {
          is_open = fresh.unsigned.is_open;
          none = (no_software, fresh.unsigned.none);
          short = omega arith;
        }) in
        let second = software_goes form.software first.page software
        (weaker first.page client_kinds (20 + body_length body) 60020 (omega (arith, of.short)) first.ready)
        in
        let last = signed_page who p accepts challenge form.has_fingerprint second.page short second.ready in
        record {
          bytes = last.bytes;
          is =
              ap (λ r. and_then r (completed_request form identity challenge)) first.is
              ∙ ap (λ r. and_then r (closed_request form identity challenge)) second.is
              ∙ last.is;
        }
      where
        no_software : has_kind SOFTWARE (walk (empty_message Request method id)) ≡ false
        no_software = ap (has_kind SOFTWARE) (begins (type_number Request method) id (omega (arith, low))).1

    not_too_long : (software : Option (List ℕ)) → IfSome software (λ text. length text ≤ TEXT_LIMIT)
        → is_text_too_long software ≡ false
    not_too_long None short = refl
    not_too_long (Some text) short = not_below TEXT_LIMIT (length text) short

    pub can_be_written : (form : Form) (who : NameAndPassword) (p : Preferences) (accepts : Bool)
        (challenge : Option Answered) (method id : ℕ) (body : Body) → method < 4096 → IsBuiltBody body
        → IfSome form.software (λ text. length text ≤ TEXT_LIMIT)
        → IfSome challenge (λ c. IsShort c.challenge)
        → IsWritten form who p accepts challenge method id body
    unfolding request_bytes
    can_be_written form who p accepts challenge method id body low is software short =
        let whole = written form who p accepts challenge method id body low is software short in
        record {
          bytes = whole.bytes;
          is = ap (λ b. cond b (Err TooLarge)
              (whole_request form (long_term who p accepts) challenge method id body))
              (not_too_long form.software software)
              ∙ whole.is;
        }
