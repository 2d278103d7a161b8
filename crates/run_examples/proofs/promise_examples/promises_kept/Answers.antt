use Rattle.std.proofs.Common.{◌≡◌, ◌∙◌, [], ◌∷◌, Option, Some, None, refl, sym, ap, subst}
use Rattle.cluster_run.proofs.Ends.{never_usage}
use Rattle.command_words.specs.declared.words.Call.{Call}
use Rattle.engine_run.specs.Promises.{SettlesNothing}
use Rattle.run_causes.specs.declared.cause.Cause.TheVariants.{Usage}
use Rattle.run_examples.proofs.promise_examples.promises_kept.Goals as goal
use Rattle.run_examples.proofs.SyncsLeave.{syncs_leave, never_speaks}
use Rattle.site_model.specs.History.{reads}

-- words that ask for nothing ask for no call
no_call : (asked : Option Call) (call : Call) → asked ≡ None → asked ≡ Some call → ⊥
no_call asked call none some = cc

pub returns-clause-nothing : goal.returns-clause-nothing
returns-clause-nothing c = λ words none. record {
  idle = λ is. refl;
  settles_nothing = λ is. refl;
  comes = λ tells options is. absurd (no_call _ _ none is);
  keeps = λ options is. absurd (no_call _ _ none is);
  unfit = λ tells options is. absurd (no_call _ _ none is);
  shows = λ tells partitions is. absurd (no_call _ _ none is);
  writes_nothing = λ partitions is. absurd (no_call _ _ none is);
}

pub returns-clause-busy : goal.returns-clause-busy
returns-clause-busy c = λ words none keeps. let same = keeps.idle none in cc same

pub returns-clause-settled : goal.returns-clause-settled
returns-clause-settled c = λ words none keeps. let same = keeps.settles_nothing (subst (λ (call : Option Call). SettlesNothing call Usage) (sym none) tt) in cc same

-- no run ends with a fault of the words
pub returns-clause-usage : goal.returns-clause-usage
returns-clause-usage c = λ words options is keeps. never_usage options _ _ _ _ _ _ (keeps.comes tt options is)

pub returns-clause-touched : goal.returns-clause-touched
returns-clause-touched c = λ words options is keeps. let same = keeps.keeps options is in cc same

pub returns-clause-spoken : goal.returns-clause-spoken
returns-clause-spoken c = λ words options old is unfit keeps. never_speaks options.partitions 97 old (keeps.unfit tt options is unfit).syncs

pub returns-clause-unfit : goal.returns-clause-unfit
returns-clause-unfit c = λ words options old is unfit keeps. let same = (keeps.unfit tt options is unfit).nothing in cc same

pub returns-clause-waiting : goal.returns-clause-waiting
returns-clause-waiting c = λ words partitions is keeps. keeps.shows tt partitions is

pub returns-clause-written : goal.returns-clause-written
returns-clause-written c = λ words partitions is keeps.
    let nothing = keeps.writes_nothing partitions is in
    let wrong : 0 ∷ [] ≡ [] = ap reads (nothing.files 16) ∙ syncs_leave partitions nothing.mid nothing.syncs in
    cc wrong
