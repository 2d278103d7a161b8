-- What is said leaves cells joined to the store; and which line may be said.
use Rattle.std.proofs.Common.{◌≡◌, ◌≢◌, ◌<◌, [], ◌∷◌, true, ℕ, List, ◌++◌, Option, Some, None, Result, Ok, Err, IfOk, Vec, Global, slice_get, sym, ◌∙◌, ap, subst, refl}
use Rattle.std.specs.Option.{option_map}
use Rattle.cell_frames.proofs.Said.{said_joined}
use Rattle.cell_frames.specs.Joined.{StoreView, Joined}
use Rattle.client_port.specs.Lines.{line_of}
use Rattle.dura_model.proofs.Shown.{home_below}
use Rattle.dura_model.specs.Entries.{placed}
use Rattle.dura_model.specs.Partition.{Partition}
use Rattle.dura_value.specs.Ids.{client, home}
use Rattle.dura_value.specs.Items.{Entry}
use Rattle.dura_value.specs.Messages.{Answer}
use Rattle.gated_store.specs.declared.refusal.SayRefusal.{SayRefusal}
use Rattle.gated_store.specs.declared.refusal.SayRefusal.TheVariants as refusals
use Rattle.hub_store.specs.Changes.{asked}
use Rattle.hub_store.specs.Trail.{Settled, Said, of_part}
use Rattle.many_rules.specs.Answering.{answer, line_in}
use Rattle.many_rules.specs.Rules.{Rules, Answers, IsNext}
use Rattle.spec_cell.specs.Views.{CellView, IsBase}
use Rattle.trail_states.specs.HaveMade.{HaveMade}
use Rattle.world_steps.specs.Cells.{AllJoined}
use Rattle.world_steps.specs.Says.{SaysAs}

-- all cells stay joined once more was said
pub said_all : (rules : Rules) (s : StoreView) (more : List Said) (cells : List CellView) → AllJoined rules s cells → AllJoined rules (record s { told = s.told ++ more }) cells
said_all rules s more cells all p c is = let there = all p c is in (there.0, said_joined rules s p c more there.1)

-- an answer has its line
line_there : (name : List ℕ) (number : ℕ) (found : Option Answer) (line : List ℕ) → option_map (line_of name number) found ≡ Some line → (a : Answer) × (found ≡ Some a) × (line ≡ line_of name number a)
line_there name number None line is = absurd (cc is)
line_there name number (Some a) line is = (a, refl, cc is)

-- a line that answers a request as what is settled has it may be said
pub may_be_said : (rules : Rules) (trail : List Settled) (told : List Said) (one : Said) (line : List ℕ) → (rules.serves ≡ true → IsNext rules told one) → 0 < rules.count → HaveMade rules trail → answer rules trail one ≡ Some line → Answers rules trail told one line
may_be_said rules trail told one line next some have is =
    let place = home rules.count (client one.client) in
    let below = home_below rules.count 0 (client one.client) some in
    let there = line_there one.client one.number ((have.states place).answers (client one.client) one.number) line (sym (ap (line_in one) (have.each place below)) ∙ is) in
    record { states = have.states; made = have.made; answer = there.0; has = there.1; next = next; line_is = there.2 }

-- the answer is that of the settled state of its client's home
pub answer_there : (rules : Rules) (s : StoreView) (p : ℕ) (c : CellView) (one : Said) (base : Partition) → p ≡ home rules.count (client one.client) → Joined rules s p c → placed rules.flows rules.count (rules.begin c.number) c.slot.mine ≡ Ok base
    → answer rules s.trail one ≡ option_map (line_of one.client one.number) (base.answers (client one.client) one.number)
answer_there rules s p c one base at joined is =
    let here : placed rules.flows rules.count (rules.begin p) (of_part p s.trail) ≡ Ok base =
    subst (λ (n : ℕ). placed rules.flows rules.count (rules.begin n) (of_part p s.trail) ≡ Ok base) joined.goes.number (subst (λ (l : List Entry). placed rules.flows rules.count (rules.begin c.number) l ≡ Ok base) joined.goes.mine is) in
    ap (line_in one) (subst (λ (n : ℕ). placed rules.flows rules.count (rules.begin n) (of_part n s.trail) ≡ Ok base) at here)

-- a line that a cell's settled state gives is that answer
pub answered_at : {E : Type 0} (rules : Rules) (s : StoreView) (cells : List CellView) (p : ℕ) (c : CellView) (one : Said) (r : Result (Option (Vec ℕ Global)) E) → p ≡ home rules.count (client one.client) → slice_get cells p ≡ Some c → AllJoined rules s cells
    → IfOk r (λ line. (base : Partition) × IsBase rules.flows rules.count (rules.begin c.number) c base × (option_map (λ l. l.items) line ≡ option_map (line_of one.client one.number) (base.answers (client one.client) one.number)))
    → IfOk r (λ line. answer rules s.trail one ≡ option_map (λ l. l.items) line)
answered_at rules s cells p c one (Ok line) at there all is = answer_there rules s p c one is.0 at (all p c there).1 is.1 ∙ sym is.2
answered_at rules s cells p c one (Err error) at there all is = tt

-- whatever saying an answer comes to but a fault, cells stay joined
pub says_joined : (rules : Rules) (name : List ℕ) (number : ℕ) (old new : StoreView) (r : Result (Unit {0}) SayRefusal) (cells : List CellView) → SaysAs rules name number old new r → r ≢ Err refusals.SayFault → AllJoined rules old cells → AllJoined rules new cells
says_joined rules name number old new (Ok done) cells says apart all = subst (λ (s : StoreView). AllJoined rules s cells) (sym says.1) (said_all rules old (asked name number ∷ []) cells all)
says_joined rules name number old new (Err refusals.NotAnswered) cells says apart all = subst (λ (s : StoreView). AllJoined rules s cells) (sym says.1) all
says_joined rules name number old new (Err refusals.Memory) cells says apart all = subst (λ (s : StoreView). AllJoined rules s cells) (sym says) all
says_joined rules name number old new (Err refusals.SayFault) cells says apart all = absurd (apart refl)
