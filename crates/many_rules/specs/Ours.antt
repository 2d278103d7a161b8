-- An entry that is a call's is so still once more was said, and up to a later moment.
use Rattle.std.proofs.Common.{◌≤◌, ℕ, max, ◌++◌, refl, arith}
use Rattle.std.specs.List.{All}
use Rattle.dura_value.specs.Items.{Entry}
use Rattle.many_rules.specs.Rules.{Rules, IsOurs, rules_at}
use Rattle.run_rules.specs.Rules as one
use Rattle.run_rules.specs.Rules.{Told, IsAsked}
use Rattle.run_rules.proofs.Going as going

module _ (rules : Rules) (latest : ℕ) (partition : ℕ) (entry : Entry) where
  -- what was asked, as the first incarnation would have it
  abbrev at_first : (told : Told) → IsOurs rules latest told partition entry → All (IsAsked (rules_at rules partition) told) entry.items → one.IsOurs (rules_at rules partition) latest told (record entry { incarnation = rules.incarnations partition })
  at_first told ours asked = record { incarnation = refl; asked = asked; timely = ours.timely }

  pub ours_still : (told more : Told) → IsOurs rules latest told partition entry → IsOurs rules latest (told ++ more) partition entry
  ours_still told more ours = record {
    incarnation = ours.incarnation;
    some = ours.some;
    few = ours.few;
    since = ours.since;
    asked = λ serves. (going.ours_still (rules_at rules partition) latest told more _ (at_first told ours (ours.asked serves))).asked;
    timely = ours.timely;
  }

  pub ours_later : (later : ℕ) (told : Told) → latest ≤ later → IsOurs rules latest told partition entry → IsOurs rules later told partition entry
  ours_later later told above ours = record {
    incarnation = ours.incarnation;
    some = ours.some;
    few = ours.few;
    asked = ours.asked;
    since = ours.since;
    timely = λ k d inside. going.by_later (max (rules.begin partition).stamp latest) (max (rules.begin partition).stamp later) (omega (arith, above)) _ (ours.timely k d inside);
  }
