-- Each world of a life is well.
use Rattle.std.proofs.Common.{ℕ, List}
use Rattle.cell_steps.specs.declared.mode.Mode.{Mode}
use Rattle.many_rules.specs.Rules.{Rules}
use Rattle.world_core.specs.World.{WorldView}
use Rattle.world_core.specs.declared.answer.Answer.{Answer}
use Rattle.world_laws.specs.Lives.{IsWell}
use Rattle.world_lives.specs.Lives.{Lives, nothing, one_more}
use Rattle.world_lives.specs.declared.deed.Deed.{Deed}

pub lives_well : (rules : Rules) (mode : Mode) (nodes : ℕ) (first last : WorldView) (done : List Deed) (came : List Answer) → IsWell rules first → Lives rules mode nodes first done came last → IsWell rules last
lives_well rules mode nodes first _ _ _ well nothing = well
lives_well rules mode nodes first _ _ _ well (one_more lives deed answer new does then) = then
