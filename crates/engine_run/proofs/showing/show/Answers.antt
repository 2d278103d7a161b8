use Rattle.std.proofs.Common.{◌∙◌, inl, inr, ℕ, List, length, Err, refl, sym, ap, subst, le_trans, arith}
use Rattle.std.proofs.Math.Nat.{le_of_eq}
use Rattle.engine_run.specs.Showing.{AreThere, IsLogCause, RefusesAs}
use Rattle.engine_run.proofs.Causes.{differ}
use Rattle.engine_run.proofs.Shown.{syncs_tape, flows_shown, logs_shown, are_there, table_shown, stopped, stops_shown}
use Rattle.engine_run.proofs.showing.show.Goals as goal
use Rattle.flow_syntax.specs.Views.{flows_of}
use Rattle.part_steps.specs.declared.state.PartState.{PartState}
use Rattle.part_steps.specs.States.{parts_in}
use Rattle.log_files.specs.Fronts.{AreSyncs}
use Rattle.recover_core.specs.Recovering.{AreOpened}
use Rattle.run_causes.specs.declared.cause.Cause.{Cause}
use Rattle.run_causes.specs.declared.cause.Cause.TheVariants.{Done, Usage, SiteFault, SayFault, ClockFault, Memory}
use Rattle.run_inputs.specs.Input.{IsFlowsCause}
use Rattle.site_model.specs.Calls.{HasRisen}
use Rattle.site_model.specs.History.{Step, changes_of, content_of, tape}
use Rattle.state_lines.specs.declared.error.ShowError.{ShowError}
use Rattle.state_lines.specs.declared.error.ShowError.TheVariants as stops
use Rattle.site_model.proofs.Faults.{risen_later}

pub returns-in-Err : goal.returns-in-Err
returns-in-Err g c =
    let read = c.read_flow_file.ensures in
    let old = g.V.Site.history c.args.site.now in
    let early = c.in-Err.ensures.flows_cause in record {
      tells = read.tells;
      shows = λ tells. flows_shown (λ f. content_of f old) c.args.count (tape old) (tape (g.V.Site.history c.read_flow_file.new.site)) c.in-Err.cause early (c.in-Err.ensures.reads tells) (ap tape read.unchanged);
      nothing = record { mid = old; syncs = (0, omega arith, inl refl); files = λ file. ap (changes_of file) read.unchanged };
      fault = λ is. c.in-Err.ensures.fault (ap (λ (cause : Cause). Err cause) is);
      say_fault = λ is. absurd (subst IsFlowsCause is early);
      no_clock = λ is. subst IsFlowsCause is early;
      no_usage = λ is. subst IsFlowsCause is early;
      later = read.later;
      say_later = le_of_eq (sym read.say_faults);
    }

pub returns-in-Err-recover_all : goal.returns-in-Err-recover_all
returns-in-Err-recover_all g c =
    let read = c.read_flow_file.ensures in
    let recover = c.recover_all.ensures in
    let file = c.in-Ok.file in
    let old = g.V.Site.history c.args.site.now in
    let now = g.V.Site.history c.recover_all.new.site in
    let cause = c.in-Err-recover_all.cause in
    let early = c.in-Err-recover_all.ensures.early in
    let syncs = subst (λ (s : List Step). AreSyncs c.args.count s now) read.unchanged recover.syncs in record {
      tells = λ tells. read.tells (recover.tells tells);
      shows = λ tells.
          let refuses = subst (λ (s : List Step). RefusesAs (flows_of file.flows) c.args.count file.digest (λ f. content_of f s) cause) read.unchanged (c.in-Err-recover_all.ensures.refuses tells) in
          logs_shown (λ f. content_of f old) c.args.count (tape old) (tape now) (flows_of file.flows) file.digest cause (c.in-Ok.ensures.reads (recover.tells tells)) refuses (syncs_tape c.args.count old now syncs);
      nothing = record { mid = now; syncs = syncs; files = λ f. refl };
      fault = λ is. risen_later _ _ _ read.later recover.later (c.in-Err-recover_all.ensures.fault (ap (λ (cause : Cause). Err cause) is));
      say_fault = λ is. absurd (subst IsLogCause is early);
      no_clock = λ is. subst IsLogCause is early;
      no_usage = λ is. subst IsLogCause is early;
      later = le_trans read.later recover.later;
      say_later = le_of_eq (sym (recover.say_faults ∙ read.say_faults));
    }

pub returns-in-Ok-say_table : goal.returns-in-Ok-say_table
returns-in-Ok-say_table g c =
    let read = c.read_flow_file.ensures in
    let recover = c.recover_all.ensures in
    let said = c.say_table.ensures in
    let file = c.in-Ok.file in
    let flows = flows_of file.flows in
    let found = c.in-Ok-recover_all.opened in
    let old = g.V.Site.history c.args.site.now in
    let mid = g.V.Site.history c.recover_all.new.site in
    let now = g.V.Site.history c.say_table.new.site in
    let syncs = subst (λ (s : List Step). AreSyncs c.args.count s mid) read.unchanged recover.syncs in
    let before = recover.say_faults ∙ read.say_faults in record {
      tells = λ tells. read.tells (recover.tells (said.tells tells));
      shows = λ tells.
          let told = said.tells tells in
          let opened = subst (λ (s : List Step). AreOpened flows c.args.count file.digest (λ f. content_of f s) found) read.unchanged (c.in-Ok-recover_all.ensures.opens told) in
          table_shown (λ f. content_of f old) c.args.count _ flows _ (parts_in c.deref.result.now) (tape old) (tape mid) (tape now) (subst (λ (l : List PartState). AreThere (λ f. content_of f old) c.args.count flows (parts_in l)) (sym c.deref.ensures.value) (are_there (λ f. content_of f old) c.args.count flows file.digest found (c.in-Ok.ensures.reads (recover.tells told)) opened)) c.of-machines.ensures (ap (λ (l : List PartState). length l) c.deref.ensures.value ∙ c.in-Ok-recover_all.ensures.begins.many)
          (syncs_tape c.args.count old mid syncs) c.in-Ok-say_table.ensures.said;
      nothing = record { mid = mid; syncs = syncs; files = said.files };
      fault = λ is. absurd (differ Done SiteFault refl is);
      say_fault = λ is. absurd (differ Done SayFault refl is);
      no_clock = differ Done ClockFault refl;
      no_usage = differ Done Usage refl;
      later = le_trans (le_trans read.later recover.later) (le_of_eq (sym said.disk_faults));
      say_later = le_trans (le_of_eq (sym before)) said.later;
    }

pub returns-in-Err-SayFault-clause-tells : goal.returns-in-Err-SayFault-clause-tells
returns-in-Err-SayFault-clause-tells g c = let read = c.read_flow_file.ensures in let recover = c.recover_all.ensures in let said = c.say_table.ensures in λ tells. read.tells (recover.tells (said.tells tells))

pub returns-in-Err-SayFault-clause-nothing : goal.returns-in-Err-SayFault-clause-nothing
returns-in-Err-SayFault-clause-nothing g c = let read = c.read_flow_file.ensures in let recover = c.recover_all.ensures in let said = c.say_table.ensures in let mid = g.V.Site.history c.recover_all.new.site in let syncs = subst (λ (s : List Step). AreSyncs c.args.count s mid) read.unchanged recover.syncs in record { mid = mid; syncs = syncs; files = said.files }

pub returns-in-Err-SayFault-clause-fault : goal.returns-in-Err-SayFault-clause-fault
returns-in-Err-SayFault-clause-fault g c = λ is. absurd (differ SayFault SiteFault refl is)

pub returns-in-Err-SayFault-clause-no_clock : goal.returns-in-Err-SayFault-clause-no_clock
returns-in-Err-SayFault-clause-no_clock g c = differ SayFault ClockFault refl

pub returns-in-Err-SayFault-clause-no_usage : goal.returns-in-Err-SayFault-clause-no_usage
returns-in-Err-SayFault-clause-no_usage g c = differ SayFault Usage refl

pub returns-in-Err-SayFault-clause-later : goal.returns-in-Err-SayFault-clause-later
returns-in-Err-SayFault-clause-later g c = le_trans (le_trans c.read_flow_file.ensures.later c.recover_all.ensures.later) (le_of_eq (sym c.say_table.ensures.disk_faults))

pub returns-in-Err-SayFault-clause-say_later : goal.returns-in-Err-SayFault-clause-say_later
returns-in-Err-SayFault-clause-say_later g c = le_trans (le_of_eq (sym (c.recover_all.ensures.say_faults ∙ c.read_flow_file.ensures.say_faults))) c.say_table.ensures.later

pub returns-clause-tells : goal.returns-clause-tells
returns-clause-tells g c = let read = c.read_flow_file.ensures in let recover = c.recover_all.ensures in let said = c.say_table.ensures in λ tells. read.tells (recover.tells (said.tells tells))

pub returns-clause-nothing : goal.returns-clause-nothing
returns-clause-nothing g c = let read = c.read_flow_file.ensures in let recover = c.recover_all.ensures in let said = c.say_table.ensures in let mid = g.V.Site.history c.recover_all.new.site in let syncs = subst (λ (s : List Step). AreSyncs c.args.count s mid) read.unchanged recover.syncs in record { mid = mid; syncs = syncs; files = said.files }

pub returns-clause-fault : goal.returns-clause-fault
returns-clause-fault g c = λ is. absurd (differ Memory SiteFault refl is)

pub returns-clause-say_fault : goal.returns-clause-say_fault
returns-clause-say_fault g c = λ is. absurd (differ Memory SayFault refl is)

pub returns-clause-no_clock : goal.returns-clause-no_clock
returns-clause-no_clock g c = differ Memory ClockFault refl

pub returns-clause-no_usage : goal.returns-clause-no_usage
returns-clause-no_usage g c = differ Memory Usage refl

pub returns-clause-later : goal.returns-clause-later
returns-clause-later g c = le_trans (le_trans c.read_flow_file.ensures.later c.recover_all.ensures.later) (le_of_eq (sym c.say_table.ensures.disk_faults))

pub returns-clause-say_later : goal.returns-clause-say_later
returns-clause-say_later g c = le_trans (le_of_eq (sym (c.recover_all.ensures.say_faults ∙ c.read_flow_file.ensures.say_faults))) c.say_table.ensures.later

pub returns-in-Err-SayFault-clause-shows : goal.returns-in-Err-SayFault-clause-shows
returns-in-Err-SayFault-clause-shows g c tells =
    let read = c.read_flow_file.ensures in
    let recover = c.recover_all.ensures in
    let said = c.say_table in
    let file = c.in-Ok.file in
    let flows = flows_of file.flows in
    let found = c.in-Ok-recover_all.opened in
    let old = g.V.Site.history c.args.site.now in
    let mid = g.V.Site.history c.recover_all.new.site in
    let syncs = subst (λ (s : List Step). AreSyncs c.args.count s mid) read.unchanged recover.syncs in
    let told = said.ensures.tells tells in
    let opened = subst (λ (s : List Step). AreOpened flows c.args.count file.digest (λ f. content_of f s) found) read.unchanged (c.in-Ok-recover_all.ensures.opens told) in
    stops_shown (λ f. content_of f old) c.args.count _ flows _ (parts_in c.deref.result.now) (tape old) (tape mid) (tape (g.V.Site.history said.new.site)) stops.SayFault
    (subst (λ (l : List PartState). AreThere (λ f. content_of f old) c.args.count flows (parts_in l)) (sym c.deref.ensures.value) (are_there (λ f. content_of f old) c.args.count flows file.digest found (c.in-Ok.ensures.reads (recover.tells told)) opened))
    c.of-machines.ensures (ap (λ (l : List PartState). length l) c.deref.ensures.value ∙ c.in-Ok-recover_all.ensures.begins.many) (syncs_tape c.args.count old mid syncs) (stopped said.result _ c.in-Err-SayFault.field-0 stops.SayFault said.ensures.part c.in-Err-SayFault.is c.in-Err-SayFault.field-0-is)

pub returns-in-Err-SayFault-clause-say_fault : goal.returns-in-Err-SayFault-clause-say_fault
returns-in-Err-SayFault-clause-say_fault g c = λ is.
    let said = c.say_table in
    subst (λ (n : ℕ). HasRisen n (g.V.Site.say_faults said.new.site)) (c.recover_all.ensures.say_faults ∙ c.read_flow_file.ensures.say_faults)
    (said.ensures.fault (c.in-Err-SayFault.is ∙ ap (λ (e : ShowError). Err e) c.in-Err-SayFault.field-0-is))

pub returns-clause-shows : goal.returns-clause-shows
returns-clause-shows g c tells =
    let read = c.read_flow_file.ensures in
    let recover = c.recover_all.ensures in
    let said = c.say_table in
    let file = c.in-Ok.file in
    let flows = flows_of file.flows in
    let found = c.in-Ok-recover_all.opened in
    let old = g.V.Site.history c.args.site.now in
    let mid = g.V.Site.history c.recover_all.new.site in
    let syncs = subst (λ (s : List Step). AreSyncs c.args.count s mid) read.unchanged recover.syncs in
    let told = said.ensures.tells tells in
    let opened = subst (λ (s : List Step). AreOpened flows c.args.count file.digest (λ f. content_of f s) found) read.unchanged (c.in-Ok-recover_all.ensures.opens told) in
    inr (stops_shown (λ f. content_of f old) c.args.count _ flows _ (parts_in c.deref.result.now) (tape old) (tape mid) (tape (g.V.Site.history said.new.site)) stops.Memory
    (subst (λ (l : List PartState). AreThere (λ f. content_of f old) c.args.count flows (parts_in l)) (sym c.deref.ensures.value) (are_there (λ f. content_of f old) c.args.count flows file.digest found (c.in-Ok.ensures.reads (recover.tells told)) opened))
    c.of-machines.ensures (ap (λ (l : List PartState). length l) c.deref.ensures.value ∙ c.in-Ok-recover_all.ensures.begins.many) (syncs_tape c.args.count old mid syncs) (stopped said.result _ c.in-Err-Memory.field-0 stops.Memory said.ensures.part c.in-Err-Memory.is c.in-Err-Memory.field-0-is))
