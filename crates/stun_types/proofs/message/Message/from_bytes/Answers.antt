-- The walk ends at the stated end if and only if the bytes are a message.
use Rattle.std.proofs.Common.{◌+◌, length, arith, ◌≢◌, refl, ap}
use Rattle.stun_base.specs.Header.{HEADER_LENGTH}
use Rattle.stun_types.specs.Message.{IsMessage}
use Rattle.stun_types.specs.Walk.{walk, attributes_length}
use Rattle.stun_types.proofs.HeaderLemmas.{fields_of}
use Rattle.stun_types.proofs.VisibleLemmas.{StandsAt-read}
use Rattle.stun_types.proofs.MessageLemmas.{HasTaken-step, next_place-within, refusal-none}
use Rattle.stun_types.proofs.MessageLemmas.{refusal-unfilled, attributes_length-end}
use Rattle.stun_types.proofs.MessageLemmas.{attributes_length-all}
use Rattle.stun_types.proofs.message.Message.from_bytes.Goals as goal

-- the walk ends before the end of the bytes
unfilled : (c : goal.In_default)
    → HEADER_LENGTH + attributes_length (walk c.args.bytes.now) ≢ length c.args.bytes.now
unfilled c filled =
    let end =
    attributes_length-end c.loop-place.place c.args.bytes.now c.loop-place.invariant.taken
    c.in_default.ensures.none in
    absurd (omega arith)

pub returns-in_default-clause-ok : goal.returns-in_default-clause-ok
returns-in_default-clause-ok c = (λ ok. cc, λ message. absurd (unfilled c message.filled))

pub returns-in_default-clause-refused : goal.returns-in_default-clause-refused
returns-in_default-clause-refused c =
    let field = ap (λ header. header.data_length) c.in_ok-header.ensures.value in
    refusal-unfilled c.args.bytes.now (c.in_ok-header.ensures.ok.0 refl) (omega (arith, field))
    (unfilled c)

pub loop-place-preserved : goal.loop-place-preserved
loop-place-preserved c =
    let read = c.in-Some.ensures in
    let stands = StandsAt-read read.whole read.kind read.behind in
    record {
      taken = HasTaken-step c.loop-place.invariant.taken stands;
      within = next_place-within stands;
    }

-- the bytes are a message
is_message : (c : goal.After-loop-place) → IsMessage c.args.bytes.now
is_message c =
    let field = ap (λ header. header.data_length) c.in_ok-header.ensures.value in
    let end =
    attributes_length-all c.loop-place.place c.args.bytes.now c.loop-place.invariant.taken
    (omega arith) in
    record {
      header = c.in_ok-header.ensures.ok.0 refl;
      stated = omega (arith, field);
      filled = omega (arith, end);
    }

pub invariant_of-result : goal.invariant_of-result
invariant_of-result c =
    let message = is_message c in
    let field = ap (λ header. header.data_length) c.in_ok-header.ensures.value in
    let aligned = (fields_of c.args.bytes.now message.header.fields).aligned in
    record {
      is_message = message;
      header_is = c.in_ok-header.ensures.value;
      limit = omega (arith, field, aligned);
    }

pub returns-clause-accepted : goal.returns-clause-accepted
returns-clause-accepted c = refusal-none c.args.bytes.now (is_message c)

pub returns-clause-ok : goal.returns-clause-ok
returns-clause-ok c = (λ ok. is_message c, λ message. refl)
