-- Each page that the server or its caller ends is signed by the key of the user.
use Rattle.stun_sessions.proofs.AnsweredLemmas.{accepted_is_answered}
use Rattle.stun_sessions.proofs.responses.accepted_requests_are_answered.Goals as goal

pub returns : goal.returns
returns c = λ s key from request client required a fine is sends decides.
    accepted_is_answered c.answers_of_a_server_are_signed.ensures.written
    c.answers_of_a_server_are_signed.ensures.binding
    c.begun_responses_are_pages.ensures.unknown s key
    from request client required a fine is sends decides
