-- What an item makes of a state belongs where the state did.
use Rattle.dura_model.proofs.Kept.{item_belongs}
use Rattle.dura_model.proofs.laws.items_belong.Goals as goal

pub returns-clause-belongs : goal.returns-clause-belongs
returns-clause-belongs c = λ flows count place p next item below b begun is. item_belongs flows count place item p next below b begun is
