-- What comes to a cell is the call's.
use Rattle.std.proofs.Common.{◌≡◌, ℕ, true, List, [], ◌∷◌, None, Some, sym, subst}
use Rattle.std.proofs.lemmas.List.Elements.{All-append, All-cons, All-nil}
use Rattle.cell_frames.specs.Ours.{AreOurs, WaitOurs}
use Rattle.cell_waits.specs.Waits.{Waiting}
use Rattle.dura_model.specs.Partition.{Partition}
use Rattle.dura_model.specs.World.{Activity}
use Rattle.dura_value.specs.Ids.{Id}
use Rattle.dura_value.specs.Items.{Identity, Item, took, got, ended}
use Rattle.dura_value.specs.Messages.{Message}
use Rattle.dura_value.specs.declared.outcome.Outcome.{Outcome}
use Rattle.hub_store.specs.Trail.{Said}
use Rattle.many_rules.specs.Rules.{Rules, rules_at, pairs_of}
use Rattle.run_rules.specs.Rules.{IsAsked}
use Rattle.spec_cell.specs.Comes.{with_wait, Arrives, Records, Offers}
use Rattle.spec_cell.specs.Views.{CellView, IsBase}
use Rattle.spec_cell.specs.declared.coming.Arrived.{Arrived}
use Rattle.spec_cell.specs.declared.coming.Arrived.TheVariants as arrivals
use Rattle.spec_cell.specs.declared.coming.Offered.{Offered}
use Rattle.spec_cell.specs.declared.coming.Offered.TheVariants as offers
use Rattle.spec_cell.specs.declared.coming.Recorded.{Recorded}
use Rattle.spec_cell.specs.declared.coming.Recorded.TheVariants as records
use Rattle.task_laws.specs.Asked.{WasAsked}

module _ (rules : Rules) (latest : ℕ) (told : List Said) (old : CellView) (ours : AreOurs rules latest told old) (waits : WaitOurs rules told old) where
  abbrev Both : CellView → Type 0
  Both c = AreOurs rules latest told c × WaitOurs rules told c

  abbrev IsAskedHere : Item → Type 0
  IsAskedHere item = rules.serves ≡ true → IsAsked (rules_at rules old.number) (pairs_of told) item

  abbrev WasAskedHere : Item → Type 0
  WasAskedHere item = (base : Partition) → IsBase rules.flows rules.count (rules.begin old.number) old base → rules.serves ≡ true → WasAsked rules.flows base item

  -- one that waits behind the others
  one_waits : (w : Waiting) → IsAskedHere w.item → WasAskedHere w.item → Both (with_wait w old)
  one_waits w asked run = (
    record { ours = ours.ours; run = ours.run },
    record {
      asked = λ serves.
          let P = λ (v : Waiting). IsAsked (rules_at rules old.number) (pairs_of told) v.item in
          All-append P old.waits (w ∷ []) (waits.asked serves) (All-cons P w [] (asked serves) (All-nil P));
      run = λ base is serves.
          let P = λ (v : Waiting). WasAsked rules.flows base v.item in
          All-append P old.waits (w ∷ []) (waits.run base is serves) (All-cons P w [] (run base is serves) (All-nil P));
    },
  )

  pub arrives_ours : (ahead : Partition) (source : Identity) (number : ℕ) (message : Message) (arrived : Arrived) (new : CellView) → Arrives ahead source number message old arrived new → Both new
  arrives_ours ahead source number message arrivals.Queued new is = subst Both (sym is.1) (one_waits (record { item = got source number message; activity = None }) (λ serves. tt) (λ base there serves. tt))
  arrives_ours ahead source number message (arrivals.Repeat next) new is = subst Both (sym is.2) (ours, waits)
  arrives_ours ahead source number message (arrivals.Gap next) new is = subst Both (sym is.2) (ours, waits)

  pub offers_ours : (base ahead : Partition) (message : Message) (offered : Offered) (new : CellView) → IsAskedHere (took message) → Offers base ahead message old offered new → Both new
  offers_ours base ahead message offers.Queued new asked is = subst Both (sym is.1) (one_waits (record { item = took message; activity = None }) asked (λ base there serves. tt))
  offers_ours base ahead message offers.Clash new asked is = subst Both (sym is.1) (ours, waits)
  offers_ours base ahead message offers.Taken new asked is = subst Both (sym is.1) (ours, waits)
  offers_ours base ahead message (offers.Kept answer) new asked is = subst Both (sym is.1) (ours, waits)

  pub records_ours : (ahead : Partition) (id : Id) (task : ℕ) (activity : Activity) (outcome : Outcome) (recorded : Recorded) (new : CellView) → WasAskedHere (ended id task outcome) → Records ahead id task activity outcome old recorded new → Both new
  records_ours ahead id task activity outcome records.Recorded new run is = subst Both (sym is.1) (one_waits (record { item = ended id task outcome; activity = Some activity }) (λ serves. tt) run)
  records_ours ahead id task activity outcome records.NotPending new run is = subst Both (sym is.1) (ours, waits)
