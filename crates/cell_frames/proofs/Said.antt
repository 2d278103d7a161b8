-- What the store says leaves cells joined to it.
use Rattle.std.proofs.Common.{◌≡◌, ℕ, max, List, [], ◌∷◌, ◌++◌, refl, sym, subst}
use Rattle.std.specs.List.{All}
use Rattle.std.proofs.lemmas.List.{map-append}
use Rattle.std.proofs.lemmas.List.Elements.{All-cons, All-nil, All-head}
use Rattle.cell_frames.specs.Joined.{StoreView, Joined}
use Rattle.cell_waits.specs.Waits.{Waiting}
use Rattle.dura_value.specs.Items.{Item, took, got, ran, ended, fired, trim}
use Rattle.hub_store.specs.Trail.{Said}
use Rattle.many_rules.specs.Ours.{ours_still}
use Rattle.many_rules.specs.Rules.{Rules, IsOurs, rules_at, pairs_of}
use Rattle.run_rules.proofs.Going as one_going
use Rattle.run_rules.specs.Rules as one
use Rattle.run_rules.specs.Rules.{Told, IsAsked, IsBy}
use Rattle.spec_cell.specs.Views.{CellView}

-- what is asked for is so still once more was said: it is of an entry of its own
asked_still : (rules : one.Rules) (told more : Told) (item : Item) → IsAsked rules told item → IsAsked rules (told ++ more) item
asked_still rules told more (took message) asked =
    let ours : one.IsOurs rules 0 told (record { position = 0; incarnation = rules.incarnation; items = took message ∷ [] }) = record {
      incarnation = refl;
      asked = All-cons (IsAsked rules told) (took message) [] asked (All-nil (IsAsked rules told));
      timely = All-cons (IsBy (max rules.begin.stamp 0)) (took message) [] tt (All-nil (IsBy (max rules.begin.stamp 0)));
    } in
    All-head (IsAsked rules (told ++ more)) (took message) [] (one_going.ours_still rules 0 told more _ ours).asked
asked_still rules told more (got source number message) asked = asked
asked_still rules told more (ran from to stamp) asked = asked
asked_still rules told more (ended id task outcome) asked = asked
asked_still rules told more (fired id task stamp) asked = asked
asked_still rules told more (trim reader number) asked = asked

pub said_joined : (rules : Rules) (s : StoreView) (p : ℕ) (c : CellView) (more : List Said) → Joined rules s p c → Joined rules (record s { told = s.told ++ more }) p c
said_joined rules s p c more joined =
    let both : pairs_of s.told ++ pairs_of more ≡ pairs_of (s.told ++ more) = sym (map-append (λ (one : Said). (one.client, one.number)) s.told more) in
    let goes = joined.goes in
    record {
      goes = record {
        number = goes.number;
        mine = goes.mine;
        ours = record {
          ours = subst (λ (told : Told). All (IsOurs rules s.latest told c.number) c.entries) both (λ k d inside. ours_still rules s.latest c.number _ (pairs_of s.told) (pairs_of more) (goes.ours.ours k d inside));
          run = goes.ours.run;
        };
        waits = record {
          asked = λ serves.
              subst (λ (told : Told). All (λ (w : Waiting). IsAsked (rules_at rules c.number) told w.item) c.waits) both
              (λ k d inside. asked_still (rules_at rules c.number) (pairs_of s.told) (pairs_of more) _ (goes.waits.asked serves k d inside));
          run = goes.waits.run;
        };
        of_call = goes.of_call;
        since = goes.since;
        timely = goes.timely;
        fresh = goes.fresh;
        unlost = goes.unlost;
        read = goes.read;
      };
      out = record { rests = joined.out.rests; goes = joined.out.goes };
    }
