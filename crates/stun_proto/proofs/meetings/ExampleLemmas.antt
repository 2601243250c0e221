-- A server with one user, whose hash no other has.
use Rattle.std.proofs.Common.{◌≡◌, ℕ, ◌≤◌, Bool, true, false, cond, List}
use Rattle.std.proofs.Common.{length, Some, None, refl, sym, ◌∙◌, ap, arith}
use Rattle.std.specs.Prelude.{codes}
use Rattle.std.specs.Option.{is_some}
use Rattle.std.specs.Ordering.{eq_by_cmp}
use Rattle.std.specs.Cmp.Lexicographic.{nat_list_cmp_total}
use Rattle.std.specs.FinMap as map
use Rattle.std.specs.FinMap.{get-insert}
use Rattle.std.proofs.lemmas.List.Elements.{All-nil}
use Rattle.std.proofs.lemmas.Map.Text.{is_eq-slice_cmp}
use Rattle.std.proofs.lemmas.Slice.Eq.{bytes_eq-Decides}
use Rattle.std.proofs.lemmas.Str.{IsUtf8-from_ascii}
use Rattle.std.specs.declared.net.socket_addr.SocketAddr.{SocketAddr}
use Rattle.stun_base.specs.Address.{address_cmp}
use Rattle.stun_base.specs.Credentials.{NameAndPassword}
use Rattle.stun_base.specs.declared.keys.algorithm.IntegrityAlgorithm.TheVariants.{Sha256}
use Rattle.stun_judging.specs.declared.algorithm_set.AlgorithmSet.TheVariants.{Both}
use Rattle.stun_auth.specs.Client.{initial}
use Rattle.stun_judging.specs.Registered.{Registered, name_cmp, new_registered, of_password}
use Rattle.stun_judging.specs.Registered.{with_user}
use Rattle.stun_proto.specs.Headline.{IsReadyClient}
use Rattle.stun_proto.specs.Honest.{AgreesOn, HaveOwnHashes, IsReady}
use Rattle.stun_proto.specs.Honest.{ShortNamesAreSigned, StrongestIsAgreed}
use Rattle.stun_proto.specs.Isolation.{concerns}
use Rattle.stun_proto.specs.Matching.{AreTexts}
use Rattle.stun_proto.specs.MeetingExample.{a_meeting, a_server, a_user}
use Rattle.stun_proto.specs.Negotiation.{whole_negotiation}
use Rattle.stun_proto.proofs.meetings.Ascii.{from_small}

-- ---- one user
module _ (none : Registered) (nobody : none.secrets ≡ map.empty) (who : NameAndPassword) where
  present_at : (name : List ℕ) → map.get (with_user none who).secrets name
      ≡ cond (eq_by_cmp name_cmp name who.username) (Some (of_password who.password)) None
  present_at name =
      ap (λ secrets. map.get (map.insert secrets who.username (of_password who.password)) name)
      nobody
      ∙ get-insert nat_list_cmp_total map.empty who.username (of_password who.password) name
      ∙ ap (cond (eq_by_cmp name_cmp name who.username) (Some (of_password who.password)))
      (map.get-empty name_cmp name)

  pub one_present : map.get (with_user none who).secrets who.username ≡ Some (of_password who.password)
  one_present =
      present_at who.username
      ∙ ap (λ b. cond b (Some (of_password who.password)) None)
      (is_eq-slice_cmp who.username who.username ∙ (bytes_eq-Decides who.username who.username).1
      refl)

  only_one : (name : List ℕ) → is_some (map.get (with_user none who).secrets name) ≡ true
      → name ≡ who.username
  only_one name there =
      by (eq_by_cmp name_cmp name who.username) refl (sym (ap is_some (present_at name)) ∙ there)
    where
      by : (b : Bool) → eq_by_cmp name_cmp name who.username ≡ b
          → is_some (cond b (Some (of_password who.password)) None) ≡ true → name ≡ who.username
      by true is h = (bytes_eq-Decides name who.username).0
          (sym (is_eq-slice_cmp name who.username) ∙ is)
      by false is h = cc

  pub own_hashes : HaveOwnHashes (with_user none who)
  own_hashes a b here there alike = only_one a here ∙ sym (only_one b there)

-- ---- texts
pub texts : AreTexts a_server.registered.realm a_user.username
texts = record {
  realm = IsUtf8-from_ascii (codes "realm") (from_small (codes "realm") refl);
  username = IsUtf8-from_ascii (codes "user") (from_small (codes "user") refl);
}

-- ---- the meeting
abbrev pub before_user : Registered
before_user = record (new_registered (codes "realm")) { algorithms = Both }

module _ (from : SocketAddr) (words more : List ℕ) where
  is_ready : IsReady (a_meeting from words more) a_user a_server
  is_ready = record {
    credentials = refl;
    registered = record {
      secret = of_password a_user.password;
      present = one_present before_user refl a_user;
      keys = λ a supported. refl;
    };
    hashes = own_hashes before_user refl a_user;
    new_address = map.get-empty address_cmp from;
    others_first = All-nil (λ call. concerns from call ≡ false);
    others_second = All-nil (λ call. concerns from call ≡ false);
    in_time = omega arith;
  }

  pub is_ready_client : IsReadyClient initial (a_meeting from words more) a_user a_server
  is_ready_client = record
      { new = refl; ready = is_ready; realm_fits = omega arith; name_fits = omega arith }

  pub agrees : ShortNamesAreSigned → StrongestIsAgreed → length words ≤ 16
      → AgreesOn from a_user Sha256 (whole_negotiation (a_meeting from words more) initial a_server)
  agrees signed agreed few =
      agreed (a_meeting from words more) a_user a_server texts
      (signed (a_meeting from words more) a_user a_server texts
      (record { realm = omega arith; username = omega arith; words = few }) is_ready)
