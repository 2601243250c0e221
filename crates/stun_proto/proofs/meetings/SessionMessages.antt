-- There are messages such as the laws of contacts and sessions speak of: what each side adds to a
-- bare message is small, so it can sign.
use Rattle.std.proofs.Common.{◌≡◌, ℕ, ◌-◌, ◌<◌, ◌≤◌, ◌^◌, List, [], ◌∷◌, length, Option, Some, None}
use Rattle.std.proofs.Common.{Bool, true, false, refl, sym, ◌∙◌, ap, subst, arith, cond}
use Rattle.std.proofs.Common.{Result, Ok, Err}
use Rattle.std.specs.Prelude.{IsOk, codes}
use Rattle.std.proofs.lemmas.Str.{IsUtf8-from_ascii}
use Rattle.stun_base.specs.MessageType.{class_of, is_error, is_response, type_number}
use Rattle.stun_base.specs.declared.wire.error.StunWriteError.{StunWriteError}
use Rattle.stun_base.specs.declared.wire.message_type.MessageClass.TheVariants as Class
use Rattle.stun_types.specs.ErrorCode.{IsError}
use Rattle.stun_types.specs.Writing.{empty_message}
use Rattle.stun_judging.specs.Additions.{Page, added_all, page_of}
use Rattle.stun_auth.specs.Client.{ClientState}
use Rattle.stun_auth.specs.ClientSigning.{client_additions}
use Rattle.stun_judging.specs.Reading.{STALE_NONCE, UNAUTHORIZED, is_code}
use Rattle.stun_auth.specs.Server.{Sight}
use Rattle.stun_auth.specs.ServerSigning.{server_signed}
use Rattle.stun_judging.specs.Signed.{Added, IsBuilt, IsSmall}
use Rattle.stun_auth.specs.Signed.{added_by_client, added_by_server}
use Rattle.stun_proto.specs.Contact.{IsChallenged, IsGranted}
use Rattle.stun_proto.specs.Negotiation.{error}
use Rattle.stun_proto.specs.Renewal.{IsAsked}
use Rattle.stun_proto.specs.Session.{IsAnswered}
use Rattle.stun_proto.specs.SessionExample.{failed}
use Rattle.stun_proto.proofs.meetings.Ascii.{from_small}
use Rattle.stun_proto.proofs.meetings.SignedRuns.{RoomLaws, SigningLaws}

-- ---- one message
-- the numbers of a method with its classes are those of a message type
pub record IsMethod (method : ℕ) : Type 0 where
  pub request_less : type_number Class.Request method < 2 ^ 14
  pub success_less : type_number Class.Success method < 2 ^ 14
  pub error_less : type_number Class.Error method < 2 ^ 14
  pub request_is : class_of (type_number Class.Request method) ≡ Class.Request
  pub success_is : class_of (type_number Class.Success method) ≡ Class.Success
  pub error_is : class_of (type_number Class.Error method) ≡ Class.Error

ok_page : (o : Result Page StunWriteError) → IsOk o → (page : Page) × (o ≡ Ok page)
ok_page (Ok page) h = (page, refl)
ok_page (Err reason) h = cc

module _ (laws : SigningLaws) (room : RoomLaws) (method : ℕ) (numbers : IsMethod method) where
  -- a bare request that a client signs
  pub record Asks (state : ClientState) : Type 0 where
    pub page : Page
    pub asked : IsAsked state page
    pub asked_is : asked.message.bytes ≡ empty_message Class.Request method 7

  pub asks : (state : ClientState) → IsSmall (added_by_client true state) → Asks state
  asks state small =
      let kind = type_number Class.Request method in
      let bytes : List ℕ = empty_message Class.Request method 7 in
      let built : IsBuilt bytes (class_of kind) None = laws.bare kind 7 numbers.request_less in
      let short = built.short in
      let signed = ok_page (added_all (client_additions true state) (page_of bytes))
      (room.client true state (class_of kind) None bytes (page_of bytes).room built small
      (omega (arith, short))) in
      record {
        page = signed.0;
        asked = record {
          message = page_of bytes;
          unsigned = built.unsigned;
          class_is = built.class_is ∙ numbers.request_is;
          signed = signed.1;
        };
        asked_is = refl;
      }

  -- a bare success that a server signs
  pub record Grants (s : Sight) : Type 0 where
    pub page : Page
    pub granted : IsGranted s page
    pub granted_is : granted.message.bytes ≡ empty_message Class.Success method 7

  pub grants : (s : Sight) (a : Added) → added_by_server s true ≡ Some a → IsSmall a → Grants s
  grants s a adds small =
      let kind = type_number Class.Success method in
      let bytes : List ℕ = empty_message Class.Success method 7 in
      let built : IsBuilt bytes (class_of kind) None = laws.bare kind 7 numbers.success_less in
      let short = built.short in
      let signed = ok_page (server_signed s true (page_of bytes))
      (room.server s true a (class_of kind) None bytes (page_of bytes).room built adds small
      (omega (arith, short))) in
      record {
        page = signed.0;
        granted = record {
          message = page_of bytes;
          unsigned = built.unsigned;
          class_is = built.class_is ∙ numbers.success_is;
          signed = signed.1;
        };
        granted_is = refl;
      }

  -- a success is a response that tells no nonce stale
  pub answers : (s : Sight) (a : Added) → added_by_server s true ≡ Some a → IsSmall a
      → (page : Page) × IsAnswered s page
  answers s a adds small =
      let kind = type_number Class.Success method in
      let bytes : List ℕ = empty_message Class.Success method 7 in
      let built : IsBuilt bytes (class_of kind) None = laws.bare kind 7 numbers.success_less in
      let short = built.short in
      let signed = ok_page (server_signed s true (page_of bytes))
      (room.server s true a (class_of kind) None bytes (page_of bytes).room built adds small
      (omega (arith, short))) in (
        signed.0,
        record {
          message = page_of bytes;
          unsigned = built.unsigned;
          class_is = ap is_response (built.class_is ∙ numbers.success_is);
          not_stale = ap (is_code STALE_NONCE) built.error_is;
          signed = signed.1;
        },
      )

  -- a bare error that a server signs
  pub record Fails (s : Sight) (code : ℕ) : Type 0 where
    pub message : Page
    pub page : Page
    pub unsigned : IsBuilt message.bytes Class.Error (Some code)
    pub signed : server_signed s true message ≡ Ok page
    pub message_is : message.bytes ≡ failed method code

  pub fails : (s : Sight) (code : ℕ) (a : Added) → IsError (error code)
      → added_by_server s true ≡ Some a → IsSmall a → Fails s code
  fails s code a is_error_code adds small =
      let kind = type_number Class.Error method in
      let bytes : List ℕ = failed method code in
      let general : IsBuilt bytes (class_of kind)
      (cond (is_error (class_of kind)) (Some code) None) =
      laws.failure kind 7 (error code) numbers.error_less is_error_code in
      let built : IsBuilt bytes Class.Error (Some code) =
      subst (λ k. IsBuilt bytes k (cond (is_error k) (Some code) None)) numbers.error_is general in
      let short = built.short in
      let signed = ok_page (server_signed s true (page_of bytes))
      (room.server s true a Class.Error (Some code) bytes (page_of bytes).room built adds small
      (omega (arith, short))) in
      record {
        message = page_of bytes;
        page = signed.0;
        unsigned = built;
        signed = signed.1;
        message_is = refl;
      }

abbrev pub is_challenged : {s : Sight} (message page : Page)
    → IsBuilt message.bytes Class.Error (Some UNAUTHORIZED)
    → server_signed s true message ≡ Ok page → IsChallenged s page
is_challenged message page built signed = record {
  message = message;
  unsigned = built.unsigned;
  code_is = built.error_is;
  signed = signed;
}

-- ---- codes
pub unauthorized_is : IsError (error UNAUTHORIZED)
unauthorized_is = record {
  from_300 = omega arith;
  below_700 = omega arith;
  text = IsUtf8-from_ascii (codes "Unauthorized") (from_small (codes "Unauthorized") refl);
  short = omega arith;
}
