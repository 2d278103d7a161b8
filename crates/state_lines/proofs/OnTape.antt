-- What saying a line leaves on the tape.
use Rattle.std.proofs.Common.{◌≡◌, ◌∙◌, ℕ, List, [], ◌++◌, take, drop, Result, Ok, Err, IfErr, refl, sym, ap, subst}
use Rattle.std.proofs.lemmas.List.{take-append-drop, append-nil}
use Rattle.std.specs.Result.{IsErrAnd}
use Rattle.site_model.specs.History.{Step, saying, tape}
use Rattle.site_model.specs.Calls.{Says}
use Rattle.site_model.proofs.Tape.{tape-saying}
use Rattle.state_lines.specs.declared.error.ShowError.{ShowError}
use Rattle.state_lines.specs.declared.error.ShowError.TheVariants.{SayFault, Memory}
use Rattle.state_lines.specs.Steps.{SaysPart}

pub said_whole : (line : List ℕ) (old new : List Step) → new ≡ saying line old → tape new ≡ tape old ++ line
said_whole line old new is = ap tape is ∙ tape-saying line old

pub said_part : {T E : Type 0} (line : List ℕ) (old new : List Step) (result : Result T E) → Says line old new result → SaysPart line SayFault (tape old) (tape new)
said_part line old new result call = record {
  part = take call.count line;
  rest = drop call.count line;
  said = ap tape call.steps ∙ tape-saying (take call.count line) old;
  front = sym (take-append-drop call.count line);
  whole = λ is. absurd (cc is);
}

-- where memory ran out before it was said
pub nothing_said : (line before : List ℕ) → SaysPart line Memory before before
nothing_said line before = record { part = []; rest = line; said = sym (append-nil before); front = refl; whole = λ is. refl }

-- where the error is a known one, what holds at it holds of the result
pub by_error : {T : Type 0} (result : Result T ShowError) (known : ShowError) (P : ShowError → Type 0) → IsErrAnd result (λ error. error ≡ known) → P known → IfErr result P
by_error (Ok value) known P is holds = tt
by_error (Err error) known P is holds = subst P (sym is) holds
