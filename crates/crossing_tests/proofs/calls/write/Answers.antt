use Rattle.std.proofs.Common.{◌≡◌, None, Some, false, ◌+◌, List, [], ◌++◌, sym, ap, subst, ◌∙◌, arith}
use Rattle.std.proofs.lemmas.List.{length-map}
use Rattle.dura_value.specs.Items.{Entry}
use Rattle.log_items.specs.Plain.{entry_of, entries_of}
use Rattle.commit_gate.specs.Ledgers.{log_length, after_frame}
use Rattle.commit_gate.specs.Views.{all_sent}
use Rattle.gated_store.specs.Follows.{GoesOnThere}
use Rattle.hub_store.specs.Frames.{GoesBehind, goes_on}
use Rattle.hub_store.specs.Origin.{Log}
use Rattle.hub_store.specs.Trail.{of_part}
use Rattle.crossing_tests.specs.Crossing.{header, ledgers}
use Rattle.crossing_tests.proofs.Moved.{stands_moved}
use Rattle.crossing_tests.proofs.calls.write.Goals as goal

pub body-answer-requires-clause-rests : goal.body-answer-requires-clause-rests
body-answer-requires-clause-rests g c = (c.requires.stands.each c.args.part None c.requires.rests).0

pub body-answer-requires-clause-behind : goal.body-answer-requires-clause-behind
body-answer-requires-clause-behind g c =
    let log : Log = record { file = 16 + c.args.part; header = header c.args.part; payloads = []; entries = [] } in
    subst (λ (mine : List Entry). GoesBehind (goes_on log mine) (entries_of c.args.frame)) (sym (c.requires.stands.each c.args.part None c.requires.rests).1) c.requires.may.behind

pub body-answer-requires-clause-numbers : goal.body-answer-requires-clause-numbers
body-answer-requires-clause-numbers g c =
    let empty = ap (λ (mine : List Entry). log_length (ledgers c.args.part mine)) (c.requires.stands.each c.args.part None c.requires.rests).1 ∙ c.requires.may.empty in
    let long = length-map c.args.frame entry_of in
    omega (arith, empty, long, c.requires.may.few)

pub body-answer-requires-clause-may : goal.body-answer-requires-clause-may
body-answer-requires-clause-may g c =
    subst (λ (mine : List Entry). GoesOnThere ledgers mine c.args.part (entries_of c.args.frame)) (sym (c.requires.stands.each c.args.part None c.requires.rests).1) c.requires.may.goes

pub body-answer-requires-clause-makes : goal.body-answer-requires-clause-makes
body-answer-requires-clause-makes g c =
    let going = entries_of c.args.frame in
    subst (λ (mine : List Entry). ledgers c.args.part (mine ++ going) ≡ after_frame (ledgers c.args.part mine) going (all_sent c.args.sending.items)) (sym (c.requires.stands.each c.args.part None c.requires.rests).1) c.requires.may.makes

pub returns-in-Ok : goal.returns-in-Ok
returns-in-Ok g c =
    let e = c.in-Ok.ensures in
    stands_moved c.args.store.now c.body-answer.new.self _ c.args.part (Some false) c.requires.stands e.kept e.keeps (λ q apart. ap (of_part q) e.trail)
    (ap (of_part c.args.part) e.trail ∙ (c.requires.stands.each c.args.part None c.requires.rests).1)

pub returns-in-Err-SiteFault : goal.returns-in-Err-SiteFault
returns-in-Err-SiteFault g c =
    let e = c.body-answer.ensures in
    stands_moved c.args.store.now c.body-answer.new.self _ c.args.part (Some false) c.requires.stands e.kept e.keeps (λ q apart. ap (of_part q) e.trail)
    (ap (of_part c.args.part) e.trail ∙ (c.requires.stands.each c.args.part None c.requires.rests).1)
