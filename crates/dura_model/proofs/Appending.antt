-- What entries make where others come behind them.
use Rattle.std.proofs.Common.{◌≡◌, ◌+◌, ℕ, List, [], ◌∷◌, ◌++◌, Option, Some, None, Result, Ok, Err, refl, sym, ap, subst, ◌∙◌, append_assoc}
use Rattle.std.specs.Prelude.{◌↔◌}
use Rattle.dura_value.specs.Items.{Entry}
use Rattle.dura_value.specs.Reading.{◌>>=◌}
use Rattle.flow_syntax.specs.Syntax.{Flows}
use Rattle.dura_model.specs.Partition.{Partition}
use Rattle.dura_model.specs.Steps.{Label}
use Rattle.dura_model.specs.Entries.{entry_accepted, or_place, placed, incarnation_behind, next_incarnation, labels_of, labels_in, AllGiven}

-- a state was made, and another one of it
pub both_placed : {X Y : Type 0} (position : ℕ) (o : Option X) (f : X → Result Y ℕ) (y : Y) → (or_place position o >>= f) ≡ Ok y → (x : X) × (o ≡ Some x) × (f x ≡ Ok y)
both_placed position None f y is = absurd (cc is)
both_placed position (Some x) f y is = (x, refl, is)

module _ (flows : Flows) (count : ℕ) where
  pub placed_both : (p : Partition) (a b : List Entry) → placed flows count p (a ++ b) ≡ (placed flows count p a >>= λ q. placed flows count q b)
  placed_both p [] b = refl
  placed_both p (entry ∷ a) b = by (or_place entry.position (entry_accepted flows count p entry)) (λ next. placed_both next a b)
    where
      by : (made : Result Partition ℕ) → ((next : Partition) → placed flows count next (a ++ b) ≡ (placed flows count next a >>= λ q. placed flows count q b))
          → (made >>= λ next. placed flows count next (a ++ b)) ≡ ((made >>= λ next. placed flows count next a) >>= λ q. placed flows count q b)
      by (Ok next) rest = rest next
      by (Err position) rest = refl

  pub given_both : (p : Partition) (a b : List Entry) → AllGiven flows count p (a ++ b) ↔ (AllGiven flows count p a × ((q : Partition) → placed flows count p a ≡ Ok q → AllGiven flows count q b))
  given_both p [] b = (λ given. (tt, λ q is. let same : p ≡ q = cc is in subst (λ (s : Partition). AllGiven flows count s b) same given), λ both. both.1 p refl)
  given_both p (entry ∷ a) b = by (λ next. given_both next a b)
    where
      Both : Partition → Type 0
      Both next = AllGiven flows count next a × ((q : Partition) → placed flows count next a ≡ Ok q → AllGiven flows count q b)

      by : ((next : Partition) → AllGiven flows count next (a ++ b) ↔ Both next) → AllGiven flows count p ((entry ∷ a) ++ b) ↔ (AllGiven flows count p (entry ∷ a) × ((q : Partition) → placed flows count p (entry ∷ a) ≡ Ok q → AllGiven flows count q b))
      by rest = (
        λ given. (
          (given.0, λ next is. ((rest next).0 (given.1 next is)).0),
          λ q is.
              let first = both_placed entry.position (entry_accepted flows count p entry) (λ next. placed flows count next a) q is in
              ((rest first.0).0 (given.1 first.0 first.1)).1 q first.2,
        ),
        λ both. (both.0.0, λ next is. (rest next).1 (both.0.1 next is, λ q later. both.1 q (ap (λ (o : Option Partition). or_place entry.position o >>= λ s. placed flows count s a) is ∙ later))),
      )

pub labels_both : (a b : List Entry) → labels_in (a ++ b) ≡ labels_in a ++ labels_in b
labels_both [] b = refl
labels_both (entry ∷ a) b = ap (λ (labels : List Label). labels_of entry.items ++ labels) (labels_both a b) ∙ sym (append_assoc (labels_of entry.items) (labels_in a) (labels_in b))

incarnation_last : (incarnation : ℕ) (entries : List Entry) (last : Entry) → incarnation_behind incarnation (entries ++ last ∷ []) ≡ last.incarnation + 1
incarnation_last incarnation [] last = refl
incarnation_last incarnation (entry ∷ entries) last = incarnation_last (entry.incarnation + 1) entries last

pub next_incarnation_last : (entries : List Entry) (last : Entry) → next_incarnation (entries ++ last ∷ []) ≡ last.incarnation + 1
next_incarnation_last = incarnation_last 0
