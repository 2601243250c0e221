-- One more result is appended, and the results before it are told of the same bytes.
use Rattle.std.proofs.Common.{◌≡◌, ◌∙◌, ◌+◌, ◌++◌, ◌∷◌, [], ap, arith, length, subst, sym, Some}
use Rattle.std.proofs.lemmas.Grind.{length_at_push}
use Rattle.stun_endpoint.specs.Batches.{FollowOneAnother}
use Rattle.stun_endpoint.proofs.BatchLemmas.{batch_more, follow_more}
use Rattle.stun_endpoint.proofs.server.Server.receive_many.Goals as goal

pub loop-datagram-preserved : goal.loop-datagram-preserved
loop-datagram-preserved g c =
    let results = c.loop-datagram.results.items in
    let one = c.in_ok-received.received in
    let items = c.push_reserved.ensures.items ∙ ap (λ r. r ++ one ∷ []) c.reserve.ensures.items in
    record {
      received = batch_more c.args.self.now (Some c.args.users.now.registered) c.args.now
          c.args.datagrams.now c.loop-datagram.datagram-index c.datagram-item.result
          c.loop-datagram.answers c.receive_onto.new.answers results c.push_reserved.new.self.items
          one (omega arith) c.datagram-item.is c.loop-datagram.invariant.ranges
          c.loop-datagram.invariant.received c.in_ok-received.ensures.kept
          c.in_ok-received.ensures.received items;
      ranges = subst (λ more. FollowOneAnother 0 more (length c.receive_onto.new.answers)) (sym items)
          (subst (FollowOneAnother 0 (results ++ one ∷ [])) c.in_ok-received.ensures.end
          (follow_more 0 (length c.loop-datagram.answers) results one c.loop-datagram.invariant.ranges
          c.in_ok-received.ensures.start c.in_ok-received.ensures.room));
      count = ap length items ∙ (length_at_push results one).1
          ∙ ap (λ n. n + 1) c.loop-datagram.invariant.count;
    }
