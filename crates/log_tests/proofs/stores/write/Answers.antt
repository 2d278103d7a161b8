use Rattle.std.proofs.Common.{◌≡◌, [], ◌∷◌, Result, Some, Err, IfOk, sym, ap, subst, ◌∙◌}
use Rattle.std.specs.declared.alloc.AllocError.{AllocError}
use Rattle.log_items.specs.Plain.{entries_of}
use Rattle.log_items.specs.declared.frames.Frame.{Frame}
use Rattle.hub_store.specs.Changes.{trail_in}
use Rattle.hub_store.specs.Frames.{goes_on}
use Rattle.hub_store.specs.Trail.{of_part}
use Rattle.log_tests.specs.Stores.{trimming, next_at}
use Rattle.log_tests.proofs.Going.{trimming_goes}
use Rattle.log_tests.proofs.stores.write.Goals as goal

pub body-requires-clause-behind : goal.body-requires-clause-behind
body-requires-clause-behind g c =
    let position = c.args.position in
    let frame = subst (λ (r : Result Frame AllocError). IfOk r (λ frame. entries_of frame ≡ trimming position ∷ [])) c.expect-frame.ensures c.frame_at.ensures in
    trimming_goes _ _ position c.requires.going.goes.next frame c.requires.position

-- a frame whose write failed is under way
pub returns-in-Err-SiteFault : goal.returns-in-Err-SiteFault
returns-in-Err-SiteFault g c =
    let e = c.in-Err-SiteFault.ensures in
    let position = c.args.position in
    let goes = c.requires.going.goes in
    let frame = subst (λ (r : Result Frame AllocError). IfOk r (λ frame. entries_of frame ≡ trimming position ∷ [])) c.expect-frame.ensures c.frame_at.ensures in
    let broken = c.body.ensures.broken (c.in-Err-SiteFault.is ∙ ap Err c.in-Err-SiteFault.field-0-is) in record {
      sound = e.sound;
      goes = record {
        one = goes.one;
        follow = goes.follow;
        say = goes.say;
        whole = e.keeps.whole ∙ goes.whole;
        next = subst (λ settled. goes_on (g.N.Start.origin.logs 0) (of_part 0 settled) ≡ next_at position) (sym e.trail) goes.next;
        frame = λ some is. let same : Some some ≡ Some (entries_of c.expect-frame.result) = sym is ∙ broken.1 in let own : some ≡ entries_of c.expect-frame.result = cc in own ∙ frame;
      };
    }

-- where it was refused the transcript is over
pub returns-in-Err : goal.returns-in-Err
returns-in-Err g c = c.body.ensures.sound
