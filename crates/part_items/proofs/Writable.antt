-- What is within the limits of the format may be written.
use Rattle.std.proofs.Common.{List}
use Rattle.dura_value.specs.declared.data.Value.{Value}
use Rattle.dura_value.specs.declared.data.Value.TheVariants as values
use Rattle.dura_value.specs.declared.outcome.Outcome.{Outcome}
use Rattle.dura_value.specs.declared.outcome.Outcome.TheVariants as outcomes
use Rattle.dura_value.specs.Messages.{Answer, is_done, has_failed, was_started, was_there, is_unknown, was_raised, has_ended, is_missing, is_running, is_value, Body, start, raise, query, wait, result, operate, lock, granted, release}
use Rattle.dura_value.specs.Items.{Item, took, got, ran, ended, fired, trim, Entry}
use Rattle.dura_codec.specs.Spelling.{CanSpell, CanSpellAnswer, CanSpellOutcome, CanSpellBody}
use Rattle.part_items.specs.Spelling.{CanSpellItem, CanSpellEntry, CanSpellFrame}
use Rattle.part_items.specs.Fits.{FitsValue, FitsAnswer, FitsOutcome, FitsBody}
use Rattle.part_items.specs.ItemFits.{FitsItem, FitsEntry, FitsFrame}

pub value_writable : (value : Value) → FitsValue value → CanSpell value
value_writable values.Null fits = tt
value_writable values.False fits = tt
value_writable values.True fits = tt
value_writable (values.Int n) fits = tt
value_writable (values.Text text) fits = tt
value_writable (values.List parts) fits = fits.few

pub answer_writable : (answer : Answer) → FitsAnswer answer → CanSpellAnswer answer
answer_writable (is_done value) fits = value_writable value fits
answer_writable (has_failed text) fits = tt
answer_writable was_started fits = tt
answer_writable was_there fits = tt
answer_writable is_unknown fits = tt
answer_writable was_raised fits = tt
answer_writable has_ended fits = tt
answer_writable is_missing fits = tt
answer_writable is_running fits = tt
answer_writable (is_value value) fits = value_writable value fits

pub outcome_writable : (outcome : Outcome) → FitsOutcome outcome → CanSpellOutcome outcome
outcome_writable (outcomes.Done value) fits = value_writable value fits
outcome_writable (outcomes.Failed text) fits = tt

pub body_writable : (body : Body) → FitsBody body → CanSpellBody body
body_writable (start argument reply) fits = value_writable argument fits.0
body_writable (raise event value number) fits = value_writable value fits.1
body_writable (query number) fits = tt
body_writable (wait number) fits = tt
body_writable (result reply answer) fits = answer_writable answer fits.1
body_writable (operate operation argument reply) fits = value_writable argument fits.1
body_writable (lock id task set index) fits = fits.few
body_writable (granted task) fits = tt
body_writable release fits = tt

item_writable : (item : Item) → FitsItem item → CanSpellItem item
item_writable (took message) fits = body_writable message.body fits.body_fits
item_writable (got source number message) fits = body_writable message.body fits.2.body_fits
item_writable (ran from to stamp) fits = tt
item_writable (ended id task outcome) fits = outcome_writable outcome fits.2
item_writable (fired id task stamp) fits = tt
item_writable (trim reader number) fits = tt

entry_writable : (entry : Entry) → FitsEntry entry → CanSpellEntry entry
entry_writable entry fits = record { few = fits.few; each = λ k d lt. item_writable _ (fits.each k d lt) }

pub frame_writable : (entries : List Entry) → FitsFrame entries → CanSpellFrame entries
frame_writable entries fits = record { few = fits.few; each = λ k d lt. entry_writable _ (fits.each k d lt) }
