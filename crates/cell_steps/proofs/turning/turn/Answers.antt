use Rattle.std.proofs.Common.{◌≡◌, ◌∙◌, ◌<◌, ℕ, List, [], length, vec_len, refl, ap, subst, arith}
use Rattle.std.specs.List.{All}
use Rattle.dura_model.specs.Partition.{Partition, enter}
use Rattle.log_items.specs.declared.items.Item.{Item}
use Rattle.log_items.specs.Plain.{items_of}
use Rattle.part_items.specs.ItemFits.{FitsItem}
use Rattle.part_steps.specs.States.{state_of, count_of}
use Rattle.part_steps.specs.declared.state.PartState.{PartState}
use Rattle.cell_steps.specs.Ahead.{ahead_of, begun_of}
use Rattle.cell_steps.specs.Sent.{SendsAtOnce}
use Rattle.cell_steps.proofs.Made.{rests, ends, has_step, empty_is, some_in, either_at, sends_begun}
use Rattle.cell_steps.proofs.turning.turn.Goals as goal

pub returns-then-is_empty : goal.returns-then-is_empty
returns-then-is_empty g c =
    let flows = g.R.Reactions.flows c.args.reactions.now in
    let a = c.args.live in
    let filled = c.in_ok-filled.filled in
    let begun_is : state_of c.enter.result ≡ begun_of a = c.enter.ensures.entered ∙ ap (λ (p : Partition). enter a.incarnation p) (c.in_ok-copy.ensures.same ∙ ap state_of c.ahead-2.ensures) in
    let many : count_of c.enter.result ≡ count_of (ahead_of a) = c.enter.ensures.partitions ∙ c.in_ok-copy.ensures.partitions ∙ ap count_of c.ahead-2.ensures in
    let none : filled.items.items ≡ [] = empty_is filled.items.items (vec_len filled.items) c.is_empty.result filled.items.ok.0 c.is_empty.ensures c.if-is_empty.true in
    let few : length filled.items.items < c.args.limit = let some = c.requires.some in let long = ap length none in omega (arith, some, long) in
    rests flows c.args.now c.args.limit a _ filled c.gather.new.waits begun_is many c.new.ensures.items c.in_ok-filled.ensures.on _ refl refl refl refl refl c.in_ok-filled.ensures.indexed c.in_ok-filled.ensures.may none (c.in_ok-filled.ensures.gone few) (c.in_ok-filled.ensures.none few)

pub returns-in-Some : goal.returns-in-Some
returns-in-Some g c =
    let flows = g.R.Reactions.flows c.args.reactions.now in
    let a = c.args.live in
    let filled = c.in_ok-filled.filled in
    let begun_is : state_of c.enter.result ≡ begun_of a = c.enter.ensures.entered ∙ ap (λ (p : Partition). enter a.incarnation p) (c.in_ok-copy.ensures.same ∙ ap state_of c.ahead-2.ensures) in
    let many : count_of c.enter.result ≡ count_of (ahead_of a) = c.enter.ensures.partitions ∙ c.in_ok-copy.ensures.partitions ∙ ap count_of c.ahead-2.ensures in
    let place : c.position-position.result ≡ (state_of (ahead_of a)).position = c.position-position.ensures ∙ ap (λ (s : PartState). (state_of s).position) c.ahead.ensures in
    ends flows c.args.now c.args.limit a _ filled c.gather.new.waits begun_is many c.new.ensures.items c.in_ok-filled.ensures.on _ c.in-Some.number refl refl refl refl refl c.in_ok-filled.ensures.indexed c.in_ok-filled.ensures.may
    (some_in filled.items.items (vec_len filled.items) c.is_empty.result filled.items.ok.0 c.is_empty.ensures c.if-is_empty.false) (either_at c.position-position.result (state_of (ahead_of a)).position a.incarnation c.in-Some.number place c.in-Some.ensures.one) c.in-Some.ensures.past

pub returns : goal.returns
returns g c =
    let flows = g.R.Reactions.flows c.args.reactions.now in
    let a = c.args.live in
    let filled = c.in_ok-filled.filled in
    let begun_is : state_of c.enter.result ≡ begun_of a = c.enter.ensures.entered ∙ ap (λ (p : Partition). enter a.incarnation p) (c.in_ok-copy.ensures.same ∙ ap state_of c.ahead-2.ensures) in
    let many : count_of c.enter.result ≡ count_of (ahead_of a) = c.enter.ensures.partitions ∙ c.in_ok-copy.ensures.partitions ∙ ap count_of c.ahead-2.ensures in
    let low = c.in_default.ensures.none in
    let sends = subst (λ (n : ℕ). SendsAtOnce c.args.mode n (begun_of a) (state_of filled.state) c.in-Ok.packets.items) (c.in_ok-filled.ensures.on.on.count ∙ many)
    (sends_begun c.args.mode (count_of filled.state) a.incarnation (state_of (ahead_of a)) (state_of filled.state) c.in-Ok.packets.items
    (subst (λ (s : PartState). SendsAtOnce c.args.mode (count_of filled.state) (state_of s) (state_of filled.state) c.in-Ok.packets.items) c.ahead-3.ensures c.in-Ok.ensures)) in
    let fit = subst (λ (l : List Item). All FitsItem (items_of l)) c.deref.ensures.value (c.all_fit.ensures.fits c.if-not-all_fit.false) in
    has_step flows c.args.now c.args.limit a _ filled c.gather.new.waits begun_is many c.new.ensures.items c.in_ok-filled.ensures.on _ c.args.mode c.in-Ok.packets.items c.args.round _ sends refl refl refl refl c.in_ok-filled.ensures.indexed c.in_ok-filled.ensures.may c.in_ok-push.ensures.items
    (c.position-position.ensures ∙ ap (λ (s : PartState). (state_of s).position) c.ahead.ensures) refl c.of.ensures c.requires.may.younger (some_in filled.items.items (vec_len filled.items) c.is_empty.result filled.items.ok.0 c.is_empty.ensures c.if-is_empty.false) c.in_ok-filled.ensures.few c.requires.most
    fit low c.in_ok-filled.ensures.gone c.in_ok-filled.ensures.none c.in_ok-filled.ensures.first c.in_ok-filled.ensures.own
