use Rattle.std.proofs.Common.{sym, ap, ◌∙◌, [], append-nil}
use Rattle.dura_model.specs.Legal.{after_from}
use Rattle.dura_model.specs.Partition.{shown}
use Rattle.many_logs.specs.Labels.{labels_of_commits}
use Rattle.many_logs.proofs.Leads.{commits_lead}
use Rattle.many_logs.proofs.laws.commits_are_labels.Goals as goal

pub returns : goal.returns
returns c flows count parts later run shows below numbered given all =
    let lead = commits_lead flows count run parts later shows below numbered given all in
    (ap (after_from flows (shown flows count parts)) (sym (append-nil (labels_of_commits run))) ∙ lead.comes [], lead.shown_still)
