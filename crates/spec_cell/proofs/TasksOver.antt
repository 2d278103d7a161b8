-- Tasks that are over, item by item and entry by entry.
use Rattle.std.proofs.Common.{◌≡◌, ◌∙◌, ◌+◌, ◌<◌, ℕ, Bool, false, List, [], ◌∷◌, ◌++◌, length, get_or, take, map, refl, sym, ap}
use Rattle.std.proofs.lemmas.List.{map_more, take-map}
use Rattle.dura_value.specs.ById.{at_number}
use Rattle.dura_value.specs.Ids.{Id}
use Rattle.dura_value.specs.Items.{Item, Entry, took, got, ran, ended, fired, trim}
use Rattle.log_items.specs.Plain.{item_of, items_of, entry_of}
use Rattle.log_items.specs.declared.items.Item.{Item as OwnItem}
use Rattle.cell_steps.specs.Steps.{entries_in}
use Rattle.spec_cell.specs.Tasks.{without_ended, without_settled}
use Rattle.cell_steps.specs.declared.step.Step.{Step}

ended_both : (out : Id → ℕ → Bool) (a b : List Item) → without_ended out (a ++ b) ≡ without_ended (without_ended out a) b
ended_both out [] b = refl
ended_both out (ended id task outcome ∷ a) b = ended_both (at_number out id task false) a b
ended_both out (took message ∷ a) b = ended_both out a b
ended_both out (got source number message ∷ a) b = ended_both out a b
ended_both out (ran from to stamp ∷ a) b = ended_both out a b
ended_both out (fired id task stamp ∷ a) b = ended_both out a b
ended_both out (trim reader number ∷ a) b = ended_both out a b

settled_both : (out : Id → ℕ → Bool) (a b : List Entry) → without_settled out (a ++ b) ≡ without_settled (without_settled out a) b
settled_both out [] b = refl
settled_both out (e ∷ a) b = settled_both (without_ended out e.items) a b

-- one item more
pub ended_next : (out before after : Id → ℕ → Bool) (xs : List OwnItem) (i : ℕ) (x : OwnItem) → i < length xs → x ≡ get_or xs i x → before ≡ without_ended out (items_of (take i xs)) → after ≡ without_ended before (item_of x ∷ [])
    → after ≡ without_ended out (items_of (take (i + 1) xs))
ended_next out before after xs i x inside at so_far one =
    one ∙ ap (λ (o : Id → ℕ → Bool). without_ended o (item_of x ∷ [])) so_far ∙ sym (ended_both out (items_of (take i xs)) (item_of x ∷ []))
    ∙ ap (without_ended out) (sym (map_more item_of xs i x inside ∙ ap (λ (y : OwnItem). map item_of (take i xs) ++ item_of y ∷ []) (sym at)))

-- one entry more
pub settled_next : (out before after : Id → ℕ → Bool) (xs : List Step) (i : ℕ) (x : Step) → i < length xs → x ≡ get_or xs i x → before ≡ without_settled out (take i (entries_in xs)) → after ≡ without_ended before (items_of x.entry.items)
    → after ≡ without_settled out (take (i + 1) (entries_in xs))
settled_next out before after xs i x inside at so_far one =
    one ∙ ap (λ (o : Id → ℕ → Bool). without_settled o (entry_of x.entry ∷ [])) so_far ∙ sym (settled_both out (take i (entries_in xs)) (entry_of x.entry ∷ []))
    ∙ ap (without_settled out)
    (ap (λ (l : List Entry). l ++ entry_of x.entry ∷ []) (take-map (λ (s : Step). entry_of s.entry) i xs)
    ∙ sym (take-map (λ (s : Step). entry_of s.entry) (i + 1) xs ∙ map_more (λ (s : Step). entry_of s.entry) xs i x inside ∙ ap (λ (y : Step). map (λ (s : Step). entry_of s.entry) (take i xs) ++ entry_of y.entry ∷ []) (sym at)))
