-- `clap` says of simple commands what their matches are, and when there are none.
use Rattle.std.proofs.Common.{◌≡◌, ◌≢◌, List, [], ◌∷◌, true, inl, inr, ap, sym, ◌∙◌}
use Rattle.clap.specs.Faults.{fault_of, is_simple_and_free}
use Rattle.clap.specs.Kinds.{Kinds, HasKind, IsAmong}
use Rattle.clap.specs.Simple.{App, HasMatchesOf, is_simple, subcommand_of, subcommand_rows_of}
use Rattle.clap.specs.Values.{kind_of}
use Rattle.clap.specs.Walk.{Text}
use Rattle.clap.specs.declared.error.Error.{Error}
use Rattle.clap.specs.declared.error.kind.ErrorKind.{ErrorKind}
use Rattle.clap.specs.declared.error.kind.ErrorKind.TheVariants.{OutOfMemory}
use Rattle.clap.specs.declared.parser.matches.ArgMatches.{ArgMatches}
use Rattle.command_words.specs.Command.{netherite}
use Rattle.command_words.proofs.words.matches_of.Goals as goal

matched : (app : App) (words : List Text) (m : ArgMatches) → app ≡ netherite → HasMatchesOf app words m → (is_simple_and_free app ≡ true → fault_of app words ≡ [])
    → (fault_of netherite words ≡ []) × (subcommand_rows_of m ≡ subcommand_of netherite words)
matched app words m is has passes = (
  ap (λ (a : App). fault_of a words) (sym is) ∙ passes (ap is_simple_and_free is),
  (has (ap is_simple is)).1 ∙ ap (λ (a : App). subcommand_of a words) is,
)

some_kind : (kinds : Kinds) (k : ErrorKind) → IsAmong k kinds → kinds ≢ []
some_kind [] k among = absurd among
some_kind (x ∷ xs) k among = λ none. cc

fails_by : (kinds : Kinds) (e : Error) → HasKind kinds e → kind_of e ≢ OutOfMemory → kinds ≢ []
fails_by kinds e (inl memory) other = absurd (other memory)
fails_by kinds e (inr among) other = some_kind kinds (kind_of e) among

failed : (app : App) (words : List Text) (e : Error) → app ≡ netherite → (is_simple_and_free app ≡ true → HasKind (fault_of app words) e) → kind_of e ≢ OutOfMemory → fault_of netherite words ≢ []
failed app words e is fails other = λ none. fails_by (fault_of app words) e (fails (ap is_simple_and_free is)) other (ap (λ (a : App). fault_of a words) is ∙ none)

pub returns-in-Ok : goal.returns-in-Ok
returns-in-Ok c = record { ok = matched _ _ _ c.in_ok-command.ensures c.in-Ok.ensures.matches c.in-Ok.ensures.kinds; err = tt }

pub returns-in-Err : goal.returns-in-Err
returns-in-Err c = record { ok = tt; err = λ other. failed _ _ c.in-Err.error c.in_ok-command.ensures c.in-Err.ensures.kinds (c.error_of.ensures other) }
