use Rattle.std.proofs.Common.{◌≡◌, ◌∙◌, ℕ, length, sym, subst, arith}
use Rattle.log_items.specs.Plain.{entry_of}
use Rattle.part_steps.specs.States.{IsStateOf, parts_in}
use Rattle.recover_core.specs.Restored.{IsFront}
use Rattle.recover_core.proofs.PlacedAt.{is_fresh, placed_there, restored_there, refused_there, not_restored}
use Rattle.recover_core.proofs.trying.place_at.Goals as goal

pub returns-in-Ok-Some-clause-states : goal.returns-in-Ok-Some-clause-states
returns-in-Ok-Some-clause-states g c =
    let old = c.args.states.now.items in
    let count : c.len-count.result ≡ length old = omega (arith, c.len-count.ensures) in
    let between : IsStateOf (length old) c.args.place c.new.result = is_fresh (length old) c.args.place c.new.result c.new.ensures.fresh (c.new.ensures.partitions ∙ count) c.new.ensures.sound in
    placed_there old c.swap-state.new.states.items c.swap.new.states.items c.args.place c.swap-state.result c.new.result c.in-Ok-Some.made c.requires.all c.requires.place c.swap-state.ensures.was c.swap-state.ensures.now
    c.swap.ensures.now (g.R.Reactions.flows c.args.reactions.now) (entry_of c.args.entry.now) between c.in-Ok-Some.field-0 c.in-Ok-Some.field-0-is c.in-Ok-Some.ensures

pub returns-in-Ok-clause-states : goal.returns-in-Ok-clause-states
returns-in-Ok-clause-states g c =
    let old = c.args.states.now.items in
    let count : c.len-count.result ≡ length old = omega (arith, c.len-count.ensures) in
    let between : IsStateOf (length old) c.args.place c.new.result = is_fresh (length old) c.args.place c.new.result c.new.ensures.fresh (c.new.ensures.partitions ∙ count) c.new.ensures.sound in
    let again : IsStateOf (length old) c.args.place c.in-Ok.again = subst (λ (n : ℕ). IsStateOf n c.args.place c.in-Ok.again) count c.in-Ok.ensures.state in
    restored_there old c.swap-state.new.states.items c.swap-in-Ok.new.states.items c.args.place c.swap-state.result c.new.result c.in-Ok.again c.requires.all c.requires.place c.swap-state.ensures.was c.swap-state.ensures.now
    c.swap-in-Ok.ensures.now (g.R.Reactions.flows c.args.reactions.now) (entry_of c.args.entry.now) between again

pub returns-in-Ok-clause-refused : goal.returns-in-Ok-clause-refused
returns-in-Ok-clause-refused g c tells done opened front =
    let old = c.args.states.now.items in
    let count : c.len-count.result ≡ length old = omega (arith, c.len-count.ensures) in
    let flows = g.R.Reactions.flows c.args.reactions.now in
    let steps = g.V.Site.history c.args.site.now in
    let made = parts_in old c.args.place in
    let between : IsStateOf (length old) c.args.place c.new.result = is_fresh (length old) c.args.place c.new.result c.new.ensures.fresh (c.new.ensures.partitions ∙ count) c.new.ensures.sound in
    let front_is = subst (λ (n : ℕ). IsFront flows steps c.args.log n c.args.place c.args.entry.now.position done made) (sym count) front in
    refused_there old c.swap-state.new.states.items c.swap-in-Ok.new.states.items c.args.place c.swap-state.result c.new.result c.in-Ok.again c.requires.all c.requires.place c.swap-state.ensures.was c.swap-state.ensures.now
    c.swap-in-Ok.ensures.now flows (entry_of c.args.entry.now) between c.in-Ok-None.field-0 c.in-Ok-None.field-0-is c.in-Ok-None.ensures steps c.args.log (c.in-Ok.ensures.restores tells done made opened front_is)

pub returns-in-Err-restore-clause-refused : goal.returns-in-Err-restore-clause-refused
returns-in-Err-restore-clause-refused g c tells done opened front =
    let old = c.args.states.now.items in
    let count : c.len-count.result ≡ length old = omega (arith, c.len-count.ensures) in
    let flows = g.R.Reactions.flows c.args.reactions.now in
    let steps = g.V.Site.history c.args.site.now in
    let made = parts_in old c.args.place in
    let front_is = subst (λ (n : ℕ). IsFront flows steps c.args.log n c.args.place c.args.entry.now.position done made) (sym count) front in
    not_restored steps c.args.log made c.in-Err-restore.error (c.in-Err-restore.ensures.restores tells done made opened front_is)
