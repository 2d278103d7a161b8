-- Runs that come to the same world go on alike.
use Rattle.std.proofs.Common.{◌≡◌, ℕ, List, [], ◌++◌, Some, refl, sym, ap, ◌∙◌}
use Rattle.flow_syntax.specs.Syntax.{Flows}
use Rattle.dura_model.specs.Legal.{Legal, after_from}
use Rattle.dura_model.specs.Steps.{Label}
use Rattle.dura_model.specs.World.{World, empty}
use Rattle.many_logs.specs.Stands.{FilesStand}
use Rattle.many_logs.proofs.Leads.{after_both}

pub goes_on_alike : (flows : Flows) (count digest : ℕ) (files : ℕ → List ℕ) (one other more : List Label) (w : World) → Legal flows one w → Legal flows other w → FilesStand flows count digest files (one ++ more) → FilesStand flows count digest files (other ++ more)
goes_on_alike flows count digest files one other more w first second stands = record {
  logs = stands.logs;
  kept = stands.kept;
  none_left = stands.none_left;
  legal = after_both flows empty w other more second ∙ sym (after_both flows empty w one more first) ∙ stands.legal;
}
