-- Items are read again.
use Rattle.std.proofs.Common.{◌≡◌, ℕ, List, ◌∷◌, ◌++◌, Ok, refl, ap, ◌∙◌}
use Rattle.std.specs.Int.{w32, w64, to_be_bytes}
use Rattle.dura_value.specs.declared.outcome.Outcome.{Outcome}
use Rattle.dura_value.specs.Ids.{Id}
use Rattle.dura_value.specs.Messages.{Message}
use Rattle.dura_value.specs.Items.{Identity, Item, took, got, ran, ended, fired, trim}
use Rattle.dura_codec.specs.Spelling.{spell_id, spell_outcome, spell_message}
use Rattle.part_items.specs.Grammar.{took_at, got_at, ran_at, done_at, fired_at, trim_at, item_at}
use Rattle.part_items.specs.Spelling.{spell_three, spell_item}
use Rattle.part_items.proofs.Numbers.{number_again_4, count_again}
use Rattle.part_items.proofs.Ids.{id_again}
use Rattle.part_items.proofs.Messages.{outcome_again, message_again, regroup, two, three}
use Rattle.part_items.specs.ItemFits.{FitsItem}

took_again : (message : Message) (rest : List ℕ) → FitsItem (took message) → took_at (spell_message message ++ rest) ≡ Ok (took message, rest)
unfolding took_at
took_again message rest fits = rw (message_again message rest fits) refl

got_again : (source : Identity) (number : ℕ) (message : Message) (rest : List ℕ) → FitsItem (got source number message)
    → got_at (to_be_bytes w32 source.partition ++ (to_be_bytes w64 source.incarnation ++ (to_be_bytes w64 source.position ++ (to_be_bytes w64 number ++ (spell_message message ++ rest))))) ≡ Ok (got source number message, rest)
unfolding got_at
got_again source number message rest fits =
    rw (
      number_again_4 source.partition (to_be_bytes w64 source.incarnation ++ (to_be_bytes w64 source.position ++ (to_be_bytes w64 number ++ (spell_message message ++ rest)))) fits.0.partition_fits,
      count_again source.incarnation (to_be_bytes w64 source.position ++ (to_be_bytes w64 number ++ (spell_message message ++ rest))) fits.0.incarnation_fits,
      count_again source.position (to_be_bytes w64 number ++ (spell_message message ++ rest)) fits.0.position_fits,
      count_again number (spell_message message ++ rest) fits.1,
      message_again message rest fits.2,
    ) refl

ran_again : (from to : Id) (stamp : ℕ) (rest : List ℕ) → FitsItem (ran from to stamp) → ran_at (spell_id from ++ (spell_id to ++ (to_be_bytes w64 stamp ++ rest))) ≡ Ok (ran from to stamp, rest)
unfolding ran_at
ran_again from to stamp rest fits =
    rw (id_again from (spell_id to ++ (to_be_bytes w64 stamp ++ rest)) fits.0, id_again to (to_be_bytes w64 stamp ++ rest) fits.1, count_again stamp rest fits.2) refl

done_again : (id : Id) (task : ℕ) (outcome : Outcome) (rest : List ℕ) → FitsItem (ended id task outcome) → done_at (spell_id id ++ (to_be_bytes w32 task ++ (spell_outcome outcome ++ rest))) ≡ Ok (ended id task outcome, rest)
unfolding done_at
done_again id task outcome rest fits =
    rw (id_again id (to_be_bytes w32 task ++ (spell_outcome outcome ++ rest)) fits.0, number_again_4 task (spell_outcome outcome ++ rest) fits.1, outcome_again outcome rest fits.2) refl

fired_again : (id : Id) (task stamp : ℕ) (rest : List ℕ) → FitsItem (fired id task stamp) → fired_at (spell_id id ++ (to_be_bytes w32 task ++ (to_be_bytes w64 stamp ++ rest))) ≡ Ok (fired id task stamp, rest)
unfolding fired_at
fired_again id task stamp rest fits =
    rw (id_again id (to_be_bytes w32 task ++ (to_be_bytes w64 stamp ++ rest)) fits.0, number_again_4 task (to_be_bytes w64 stamp ++ rest) fits.1, count_again stamp rest fits.2) refl

trim_again : (reader : Identity) (number : ℕ) (rest : List ℕ) → FitsItem (trim reader number)
    → trim_at (to_be_bytes w32 reader.partition ++ (to_be_bytes w64 number ++ (to_be_bytes w64 reader.incarnation ++ (to_be_bytes w64 reader.position ++ rest)))) ≡ Ok (trim reader number, rest)
unfolding trim_at
trim_again reader number rest fits =
    rw (
      number_again_4 reader.partition (to_be_bytes w64 number ++ (to_be_bytes w64 reader.incarnation ++ (to_be_bytes w64 reader.position ++ rest))) fits.0.partition_fits,
      count_again number (to_be_bytes w64 reader.incarnation ++ (to_be_bytes w64 reader.position ++ rest)) fits.1,
      count_again reader.incarnation (to_be_bytes w64 reader.position ++ rest) fits.0.incarnation_fits,
      count_again reader.position rest fits.0.position_fits,
    ) refl

-- three numbers, and what follows
then_three : (a b c : ℕ) (rest : List ℕ) → spell_three a b c ++ rest ≡ to_be_bytes w64 a ++ (to_be_bytes w64 b ++ (to_be_bytes w64 c ++ rest))
unfolding spell_three
then_three a b c rest = regroup (to_be_bytes w64 a) (to_be_bytes w64 b) (to_be_bytes w64 c) rest

-- each item behind its tag
took_tagged : (bytes : List ℕ) → item_at (0x20 ∷ bytes) ≡ took_at bytes
unfolding item_at
took_tagged bytes = refl

got_tagged : (bytes : List ℕ) → item_at (0x21 ∷ bytes) ≡ got_at bytes
unfolding item_at
got_tagged bytes = refl

ran_tagged : (bytes : List ℕ) → item_at (0x22 ∷ bytes) ≡ ran_at bytes
unfolding item_at
ran_tagged bytes = refl

done_tagged : (bytes : List ℕ) → item_at (0x23 ∷ bytes) ≡ done_at bytes
unfolding item_at
done_tagged bytes = refl

fired_tagged : (bytes : List ℕ) → item_at (0x24 ∷ bytes) ≡ fired_at bytes
unfolding item_at
fired_tagged bytes = refl

trim_tagged : (bytes : List ℕ) → item_at (0x25 ∷ bytes) ≡ trim_at bytes
unfolding item_at
trim_tagged bytes = refl

pub item_again : (item : Item) (rest : List ℕ) → FitsItem item → item_at (spell_item item ++ rest) ≡ Ok (item, rest)
item_again (took message) rest fits = took_tagged _ ∙ took_again message rest fits
item_again (got source number message) rest fits =
    ap item_at (three 0x21 (to_be_bytes w32 source.partition) (spell_three source.incarnation source.position number) (spell_message message) rest)
    ∙ (got_tagged _ ∙ (ap (λ (bytes : List ℕ). got_at (to_be_bytes w32 source.partition ++ bytes)) (then_three source.incarnation source.position number (spell_message message ++ rest)) ∙ got_again source number message rest fits))
item_again (ran from to stamp) rest fits = ap item_at (three 0x22 (spell_id from) (spell_id to) (to_be_bytes w64 stamp) rest) ∙ (ran_tagged _ ∙ ran_again from to stamp rest fits)
item_again (ended id task outcome) rest fits = ap item_at (three 0x23 (spell_id id) (to_be_bytes w32 task) (spell_outcome outcome) rest) ∙ (done_tagged _ ∙ done_again id task outcome rest fits)
item_again (fired id task stamp) rest fits = ap item_at (three 0x24 (spell_id id) (to_be_bytes w32 task) (to_be_bytes w64 stamp) rest) ∙ (fired_tagged _ ∙ fired_again id task stamp rest fits)
item_again (trim reader number) rest fits =
    ap item_at (two 0x25 (to_be_bytes w32 reader.partition) (spell_three number reader.incarnation reader.position) rest)
    ∙ (trim_tagged _ ∙ (ap (λ (bytes : List ℕ). trim_at (to_be_bytes w32 reader.partition ++ bytes)) (then_three number reader.incarnation reader.position rest) ∙ trim_again reader number rest fits))
