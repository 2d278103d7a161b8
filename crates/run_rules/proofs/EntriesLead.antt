-- Entries that are accepted lead the world that the one partition shows where their labels do.
use Rattle.std.proofs.Common.{◌≡◌, ◌<◌, ◌+◌, ℕ, List, [], ◌∷◌, ◌++◌, Option, Some, Ok, refl, sym, ap, subst, ◌∙◌, arith}
use Rattle.std.specs.Prelude.{option_map}
use Rattle.std.specs.Option.{option_and_then}
use Rattle.dura_value.specs.Items.{Item, Entry}
use Rattle.flow_syntax.specs.Syntax.{Flows}
use Rattle.dura_model.specs.Legal.{after_from}
use Rattle.dura_model.specs.Partition.{Partition, enter, accepted, shown, with_part}
use Rattle.dura_model.specs.Placed.{AreShown, IsGiven}
use Rattle.dura_model.specs.Steps.{Label, step}
use Rattle.dura_model.specs.World.{World}
use Rattle.dura_model.proofs.Shown.{item_labelled}
use Rattle.dura_model.proofs.Kept.{item_keeps, item_stands, enter_keeps}
use Rattle.part_items.specs.Numbered.{Next, behind, behind_all, IsNumbered}
use Rattle.many_logs.specs.Labels.{state_next}
use Rattle.dura_model.specs.Entries.{all_accepted, entry_accepted, placed, and_label, labels_of, labels_in, AreGiven, AllGiven, shown_by}
use Rattle.dura_model.proofs.Appending.{both_placed}
use Rattle.dura_model.proofs.Alone.{home_alone, shown_alone, are_shown_alone, IsStep, accepted_is_step}
use Rattle.dura_value.proofs.Basics.{both_some}

module _ (flows : Flows) where
  -- one run behind another
  after_both : (w v : World) (run more : List Label) → after_from flows w run ≡ Some v → after_from flows w (run ++ more) ≡ after_from flows v more
  after_both w v [] more is = let same : w ≡ v = cc is in ap (λ (from : World). after_from flows from more) same
  after_both w v (label ∷ run) more is =
      let first = both_some (step flows w label) (λ next. after_from flows next run) v is in
      ap (option_and_then (λ next. after_from flows next (run ++ more))) first.1 ∙ after_both first.0 v run more first.2

  -- the state shows a world, which these labels lead to, and its log goes on here
  record Leads (p q : Partition) (labels : List Label) (next : Next) : Type 0 where
    shown : AreShown 1 (λ place. q)
    comes : after_from flows (shown_by flows p) labels ≡ Some (shown_by flows q)
    goes_on : state_next q ≡ next

  step_comes : (p next : Partition) (item : Item) (is : IsStep p item) → AreShown 1 (λ place. p) → IsGiven p item → accepted flows 1 p item ≡ Some next
      → step flows (shown_by flows p) is.label ≡ Some (shown_by flows next)
  step_comes p next item is shows given accepts =
      sym (item_labelled flows 1 (λ place. p) 0 item is.label is.id shows (omega arith) is.labelled is.happens (home_alone is.id) given)
      ∙ ap (option_map (λ (s : Partition). shown flows 1 (with_part (λ place. p) 0 s))) accepts
      ∙ ap (λ (w : World). Some w) (shown_alone flows (with_part (λ place. p) 0 next) next refl)

  items_lead : (items : List Item) (p q : Partition) → AreShown 1 (λ place. p) → 0 < p.position → AreGiven flows 1 p items → all_accepted flows 1 p items ≡ Some q → Leads p q (labels_of items) (state_next p)
  items_lead [] p q shows begun given all =
      let same : p ≡ q = cc all in
      subst (λ (s : Partition). Leads p s [] (state_next p)) same (record { shown = shows; comes = refl; goes_on = refl })
  items_lead (item ∷ items) p q shows begun given all =
      let first = both_some (accepted flows 1 p item) (λ next. all_accepted flows 1 next items) q all in
      let next = first.0 in
      let is = accepted_is_step flows p next item (shows.each 0 (omega arith)).number first.1 in
      let here = are_shown_alone (with_part (λ place. p) 0 next) next refl (item_keeps flows 1 (λ place. p) 0 item next shows (omega arith) begun is.alone first.1) in
      let stands = item_stands flows 1 (λ place. p) 0 item next shows (omega arith) begun first.1 in
      let rest = items_lead items next q here (omega (arith, begun, stands.position)) (given.1 next first.1) first.2 in
      record {
        shown = rest.shown;
        comes =
            ap (λ (label : Option Label). after_from flows (shown_by flows p) (and_label label (labels_of items))) is.labelled
            ∙ ap (option_and_then (λ w. after_from flows w (labels_of items))) (step_comes p next item is shows given.0 first.1)
            ∙ rest.comes;
        goes_on = rest.goes_on ∙ same_next next p stands.position stands.incarnation;
      }
    where
      same_next : (a b : Partition) → a.position ≡ b.position → a.incarnation ≡ b.incarnation → state_next a ≡ state_next b
      same_next a b position incarnation = λ i. record { position = position i; incarnation = incarnation i }

  pub entries_lead : (p q : Partition) (entries : List Entry) → AreShown 1 (λ place. p) → IsNumbered (state_next p) entries → AllGiven flows 1 p entries → placed flows 1 p entries ≡ Ok q
      → (after_from flows (shown_by flows p) (labels_in entries) ≡ Some (shown_by flows q)) × AreShown 1 (λ place. q) × (state_next q ≡ behind_all (state_next p) entries)
  entries_lead p q [] shows numbered given all =
      let same : p ≡ q = cc all in
      subst (λ (s : Partition). (Some (shown_by flows p) ≡ Some (shown_by flows s)) × AreShown 1 (λ place. s) × (state_next s ≡ state_next p)) same (refl, shows, refl)
  entries_lead p q (entry ∷ entries) shows numbered given all =
      let first = both_placed entry.position (entry_accepted flows 1 p entry) (λ next. placed flows 1 next entries) q all in
      let next = first.0 in
      let entered = enter entry.incarnation p in
      let begins = are_shown_alone (with_part (λ place. p) 0 entered) entered refl (enter_keeps flows 1 (λ place. p) 0 entry.incarnation shows (omega arith) numbered.1) in
      let one = items_lead entry.items entered next begins (omega arith) given.0 first.1 in
      let goes_on : state_next next ≡ behind entry = one.goes_on ∙ ap (λ (position : ℕ). record { position = position + 1; incarnation = entry.incarnation }) (sym numbered.0) in
      let rest = entries_lead next q entries one.shown (subst (λ (n : Next). IsNumbered n entries) (sym goes_on) numbered.2) (given.1 next first.1) first.2 in (
        after_both (shown_by flows p) (shown_by flows next) (labels_of entry.items) (labels_in entries) one.comes ∙ rest.0,
        rest.1,
        rest.2 ∙ ap (λ (n : Next). behind_all n entries) goes_on,
      )
