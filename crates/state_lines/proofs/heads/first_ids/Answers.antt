use Rattle.std.proofs.Common.{◌∙◌, ◌+◌, ◌<◌, ◌∷◌, [], None, get_or, length, ap, sym, subst}
use Rattle.std.proofs.lemmas.List.{length-append}
use Rattle.state_lines.specs.Heads.{AreHeads, heads_of}
use Rattle.state_lines.proofs.Listing.{first_more}
use Rattle.state_lines.proofs.heads.first_ids.Goals as goal

pub loop-ids-preserved : goal.loop-ids-preserved
loop-ids-preserved c =
    let lists = c.args.lists.now in
    let heads = c.loop-ids.heads.items in
    let ids = c.ids-item.result in
    let head = c.head.result in
    let long = c.loop-ids.invariant.long in
    record {
      long = ap length c.in_ok-push.ensures.items ∙ length-append heads (head ∷ []) ∙ ap (λ n. n + 1) long;
      heads = λ there listed. subst (λ hs. AreHeads there None (heads_of hs)) (sym c.in_ok-push.ensures.items)
          (first_more there lists heads ids head listed (subst (λ n. n < length lists) (sym long) c.loop-ids-test.true) (c.ids-item.is ∙ ap (λ n. get_or lists n ids) (sym long)) c.head.ensures
          (c.loop-ids.invariant.heads there listed));
    }
