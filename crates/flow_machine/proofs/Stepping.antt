-- The step of a statement, by what the statement is.
use Rattle.std.proofs.Common.{◌≡◌, List, [], ◌∷◌, length, map, Some, Result, Ok, Err, OnOk, sym, subst}
use Rattle.std.specs.List.{slice_get}
use Rattle.std.proofs.lemmas.List.{append-nil}
use Rattle.dura_value.specs.Views.{messages_of}
use Rattle.flow_syntax.specs.declared.syntax.Stmt.{Stmt}
use Rattle.flow_syntax.specs.Syntax.{Statement}
use Rattle.flow_syntax.specs.Views.{block_of}
use Rattle.flow_syntax.specs.Machine.{Machine, only, todo}
use Rattle.flow_messages.specs.declared.made.Made.{Made}
use Rattle.flow_messages.specs.Views.{asked_of}
use Rattle.flow_machine.specs.declared.machine.Machine.{Machine as OwnMachine}
use Rattle.flow_machine.specs.Views.{machine_of}
use Rattle.flow_machine.specs.Steps.{Makes}

-- what holds of a statement, whatever the machine was, holds of one that is the same
pub as_is : {E : Type 0} (r : Result Unit E) (P : Machine → Statement → Type 0) (s t : Statement) → s ≡ t → ((was : Machine) → OnOk r (P was t)) → OnOk r ((was : Machine) → P was s)
as_is (Ok x) P s t is all = λ (was : Machine). subst (P was) (sym is) (all was)
as_is (Err e) P s t is all = tt

-- a step that sends nothing
pub tried : {E : Type 0} (r : Result Unit E) (made : Made) (own : OwnMachine) (m : Machine) → OnOk r (machine_of own ≡ m) → OnOk r (Makes made made own (only m))
tried (Ok x) made own m is = record { machine = is; sent = sym (append-nil (messages_of made.messages.items)); asked = sym (append-nil (map asked_of made.asked.items)) }
tried (Err e) made own m is = tt

-- a body of one statement is that statement
pub alone : (body : List Stmt) (one : Stmt) → length (todo (block_of body)) ≡ 1 → Some one ≡ slice_get body 0 → body ≡ one ∷ []
alone [] one is at = absurd (cc is)
alone (statement ∷ []) one is at = let first : Some one ≡ Some statement = at in cc first
alone (statement ∷ other ∷ more) one is at = absurd (cc is)
