-- The ledgers of the states fit what the store begins with.
use Rattle.std.proofs.Common.{◌≡◌, ◌<◌, ◌∙◌, ℕ, zero, suc, List, [], ◌∷◌, ◌++◌, Some, None, refl, sym, ap, subst, arith, slice_get, get_or, length}
use Rattle.std.proofs.lemmas.Option.{slice_get_within, slice_get_read}
use Rattle.commit_gate.specs.Views.{floors_in, floors_of}
use Rattle.commit_gate.specs.declared.ledger.Ledger.{Ledger}
use Rattle.dura_model.specs.Partition.{Partition, fresh}
use Rattle.gated_store.specs.Kept.{LedgerFits}
use Rattle.log_items.specs.Entries.{incarnations_in}
use Rattle.many_logs.specs.Labels.{AreNumbered}
use Rattle.many_logs.specs.Placing.{of_partition, states_after}
use Rattle.many_rules.proofs.FirstLedgers.{begins_with, none_read_past}
use Rattle.many_rules.specs.Ledgers.{ledgers, readers}
use Rattle.many_rules.specs.Rules.{Rules}
use Rattle.open_logs.proofs.Pushed.{element, pushed_both}
use Rattle.part_steps.specs.States.{parts_in, state_of}
use Rattle.part_steps.specs.declared.state.PartState.{PartState}
use Rattle.state_ledgers.proofs.LedgerFitsStore.{fits_first}
use Rattle.state_ledgers.specs.Ledger.{IsLedgerOf, made_by}
use Rattle.call_begins.specs.Begins.{AreLedgersOf}
use Rattle.call_begins.proofs.Begins.{state_at}

pub ledgers_fit : (rules : Rules) (states : List PartState) (pasts : List (List ℕ)) (list : List Ledger) → rules.begin ≡ parts_in states → states_after rules.flows rules.count fresh rules.recovered ≡ Some rules.begin → AreNumbered fresh rules.recovered
    → length list ≡ rules.count → length pasts ≡ rules.count → ((p : ℕ) (past : List ℕ) → slice_get pasts p ≡ Some past → past ≡ incarnations_in (of_partition p rules.recovered)) → AreLedgersOf rules.count states pasts list
    → (p : ℕ) (ledger : Ledger) → slice_get list p ≡ Some ledger → LedgerFits (ledgers rules) (readers rules) rules.count p [] None ledger
ledgers_fit rules states pasts list begin made numbered many counted past show p ledger is =
    let within : p < length list = slice_get_within {A = Ledger} list p ledger is in
    let below : p < rules.count = omega (arith, within, many) in
    let one = element pasts p (omega (arith, below, counted)) in
    let state = rules.begin p in
    let shows : IsLedgerOf rules.count state one.0 ledger = subst (λ (f : ℕ → Partition). IsLedgerOf rules.count (f p) one.0 ledger) (sym begin) (show p ledger one.0 is one.1) in
    let first : ledgers rules p [] ≡ made_by one.0 state = begins_with rules p below ∙ ap (λ (i : List ℕ). made_by i state) (sym (past p one.0 one.1)) in
    fits_first (ledgers rules) (readers rules) rules.count p state one.0 ledger first refl (λ source far. none_read_past rules made numbered p source below far) shows

-- of no partition an entry was given up
pub no_floors : (list : List Ledger) → ((p : ℕ) (ledger : Ledger) → slice_get list p ≡ Some ledger → floors_in ledger ≡ []) → (p : ℕ) → floors_of list p ≡ []
no_floors [] all p = refl
no_floors (ledger ∷ list) all zero = all 0 ledger refl
no_floors (ledger ∷ list) all (suc p) = no_floors list (λ q other is. all (suc q) other is) p

pub none_given_up : (count : ℕ) (states : List PartState) (pasts : List (List ℕ)) (list : List Ledger) → length list ≡ count → length pasts ≡ count → AreLedgersOf count states pasts list → (p : ℕ) → floors_of list p ≡ []
none_given_up count states pasts list many counted show =
    no_floors list (λ p ledger is.
    let within : p < length list = slice_get_within {A = Ledger} list p ledger is in
    let one = element pasts p (omega (arith, within, many, counted)) in
    (show p ledger one.0 is one.1).nothing_lost)

-- one ledger more
pub one_more_shown : (count place : ℕ) (states : List PartState) (pasts : List (List ℕ)) (list : List Ledger) (s : PartState) (past : List ℕ) (ledger : Ledger) → place ≡ length pasts → length list ≡ length pasts → place < length states → s ≡ get_or states place s
    → IsLedgerOf count (state_of s) past ledger → AreLedgersOf count states pasts list → AreLedgersOf count states (pasts ++ past ∷ []) (list ++ ledger ∷ [])
one_more_shown count place states pasts list s past ledger place_is many below value shows all =
    let at : slice_get states place ≡ Some s = slice_get_read states (length states) place s refl below value in
    let e : length list ≡ place = many ∙ sym place_is in
    pushed_both (λ p l q. IsLedgerOf count (parts_in states p) q l) list pasts ledger past many all
    (subst (λ (n : ℕ). IsLedgerOf count (parts_in states n) past ledger) (sym e) (subst (λ (st : Partition). IsLedgerOf count st past ledger) (sym (state_at states place s at)) shows))
