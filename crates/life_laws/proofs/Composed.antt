-- What was settled in a life makes the settled states of its cells.
use Rattle.std.proofs.Common.{◌≡◌, ◌<◌, ◌∙◌, false, List, [], Ok, sym, ap, subst, arith, length, append-nil}
use Rattle.std.proofs.lemmas.Option.{slice_get_within}
use Rattle.dura_model.proofs.Kept.{fresh_shown}
use Rattle.dura_model.specs.Entries.{placed}
use Rattle.dura_model.specs.Legal.{after_from}
use Rattle.dura_model.specs.Partition.{fresh, shown}
use Rattle.dura_value.specs.Items.{Entry}
use Rattle.life_laws.specs.Composed.{run_of, ShowsRun}
use Rattle.many_logs.proofs.Frames.{put_then}
use Rattle.many_logs.proofs.Leads.{commits_lead}
use Rattle.many_logs.specs.Labels.{labels_of_commits}
use Rattle.many_rules.specs.Rules.{Rules, commits_of}
use Rattle.spec_cell.specs.Views.{CellView}
use Rattle.world_core.specs.World.{WorldView}
use Rattle.world_laws.specs.Lives.{IsWell}

pub shows_run : (rules : Rules) (w : WorldView) → IsWell rules w → w.ended ≡ false → ShowsRun rules w.store.trail w.cells
shows_run rules w well on =
    let ground = well.ground on in
    let have = ground.have in
    let run = run_of rules w.store.trail in
    let made = put_then rules.flows rules.count fresh rules.begin have.states rules.recovered (commits_of w.store.trail) ground.begun have.made in
    record {
      states = have.states;
      made = made;
      show = have.shown;
      bases = λ p c there.
          let within : p < length w.cells = slice_get_within {A = CellView} w.cells p c there in
          let many = well.stands.many in
          let below : p < rules.count = omega (arith, within, many) in
          let mine = (well.stands.joined on p c there).1.goes.mine in
          subst (λ (entries : List Entry). placed rules.flows rules.count (rules.begin p) entries ≡ Ok (have.states p)) (sym mine) (have.each p below);
      legal = λ low given.
          let lead = commits_lead rules.flows rules.count run fresh have.states (fresh_shown rules.count) low have.numbered given made in
          ap (after_from rules.flows (shown rules.flows rules.count fresh)) (sym (append-nil (labels_of_commits run))) ∙ lead.comes [];
    }
