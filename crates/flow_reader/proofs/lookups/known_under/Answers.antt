use Rattle.std.proofs.Common.{◌≡◌, ◌∙◌, ap, subst, sym}
use Rattle.std.specs.List.{each_same}
use Rattle.flow_syntax.specs.Views.{block_of, flows_of}
use Rattle.flow_values.specs.Answers.{IsUnder}
use Rattle.flow_values.specs.Faults.{at, to_key}
use Rattle.flow_values.proofs.Parts.{fails_under}
use Rattle.flow_reader.specs.Names.{known_block}
use Rattle.flow_reader.proofs.lookups.known_under.Goals as goal

pub returns-in-Ok : goal.returns-in-Ok
returns-in-Ok c = ap (at (to_key c.args.name.now)) c.in-Ok.ensures

pub returns-in_ok-clone-in-Err : goal.returns-in_ok-clone-in-Err
returns-in_ok-clone-in-Err c =
    let cloned = c.in_ok-clone-in-Err.ensures.cases in
    let same : c.in_ok-clone-in-Err.field-0 ≡ c.args.name.now = sym cloned.3 ∙ each_same cloned.0.bytes.items cloned.1.bytes.items cloned.4.0 ∙ cloned.2 in
    fails_under (known_block (flows_of c.args.file.now) 0 (block_of c.args.block.now)) (to_key c.args.name.now) c.in-Err.error c.under.result c.in-Err.ensures (subst (λ name. IsUnder (to_key name) c.in-Err.error c.under.result) same c.under.ensures)
