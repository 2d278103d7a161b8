-- What holds of the numbering of entries where others come behind them.
use Rattle.std.proofs.Common.{◌≡◌, List, [], ◌∷◌, ◌++◌, refl}
use Rattle.std.specs.Prelude.{◌↔◌}
use Rattle.dura_value.specs.Items.{Entry}
use Rattle.part_items.specs.Numbered.{Next, behind, behind_all, IsNumbered}

pub behind_both : (next : Next) (a b : List Entry) → behind_all next (a ++ b) ≡ behind_all (behind_all next a) b
behind_both next [] b = refl
behind_both next (entry ∷ a) b = behind_both (behind entry) a b

pub numbered_both : (next : Next) (a b : List Entry) → IsNumbered next (a ++ b) ↔ (IsNumbered next a × IsNumbered (behind_all next a) b)
numbered_both next [] b = (λ later. (tt, later), λ both. both.1)
numbered_both next (entry ∷ a) b =
    let rest = numbered_both (behind entry) a b in (
      λ all. let later = rest.0 all.2 in ((all.0, all.1, later.0), later.1),
      λ both. (both.0.0, both.0.1, rest.1 (both.0.2, both.1)),
    )
