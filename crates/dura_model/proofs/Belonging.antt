-- A state that takes in of a stream, lets go of one, or begins an entry still belongs where it did.
use Rattle.std.proofs.Common.{◌≡◌, ◌≤◌, ◌<◌, ◌+◌, ◌-◌, ◌==◌, ◌&&◌, ◌⊎◌, inl, ℕ, length, drop, Bool, true, false, cond, [], ◌∷◌, ◌++◌, Some, refl, sym, subst, ◌∙◌, arith}
use Rattle.std.specs.Prelude.{nat_le, nat_lt, not}
use Rattle.std.specs.List.{Contains}
use Rattle.std.proofs.lemmas.Bool.{eqb-true, ltb-true, and_parts, not-true}
use Rattle.dura_value.specs.Ids.{home}
use Rattle.dura_value.specs.Items.{Identity, Posted}
use Rattle.dura_value.specs.Messages.{Message}
use Rattle.dura_model.specs.Partition.{enter, Inbox, Partition, entry_of, with_inbox, got_in, trim_in}
use Rattle.log_items.specs.Streams.{Outbox, begins_at, with_first}
use Rattle.dura_model.specs.Placed.{IsBehind, IsOther, Belongs}
use Rattle.dura_model.proofs.Basics.{passed, eqb_apart}
use Rattle.dura_model.proofs.Shown.{dropped_in}
use Rattle.dura_model.proofs.Keeping.{entry_behind, queued_lives}

module _ (count p : ℕ) where
  -- a message came in
  pub got_belongs : (q next : Partition) (source : Identity) (number : ℕ) (message : Message) → Belongs count p q → 0 < q.position → got_in count q source number message ≡ Some next → Belongs count p next
  got_belongs q next source number message b begun is = subst (Belongs count p) it.1 belongs
    where
      box : Inbox
      box = record { next = number + 1; reader = entry_of q }

      after : Partition
      after = record q { queue = q.queue ++ message ∷ []; inboxes = with_inbox q.inboxes source.partition box }

      away : Bool
      away = source.partition == q.number

      low_source : Bool
      low_source = nat_lt source.partition count

      in_turn : Bool
      in_turn = number == (q.inboxes source.partition).next

      lives : Bool
      lives = home count message.to == q.number

      it : ((not away && (low_source && (in_turn && lives))) ≡ true) × (after ≡ next)
      it = passed (not away && (low_source && (in_turn && lives))) after next is

      one : (not away ≡ true) × ((low_source && (in_turn && lives)) ≡ true)
      one = and_parts (not away) (low_source && (in_turn && lives)) it.0

      two : (low_source ≡ true) × ((in_turn && lives) ≡ true)
      two = and_parts low_source (in_turn && lives) one.1

      three : (in_turn ≡ true) × (lives ≡ true)
      three = and_parts in_turn lives two.1

      other_source : IsOther count p source.partition
      other_source = record { apart = λ wrong. eqb_apart source.partition q.number (not-true away one.0) (wrong ∙ sym b.number); below = ltb-true source.partition count two.0 }

      others : (other : ℕ) (test : Bool) → (source.partition == other) ≡ test → IsOther count p other ⊎ ((cond test box (q.inboxes other)).next ≡ 0)
      others other true same = inl (subst (IsOther count p) (eqb-true source.partition other same) other_source)
      others other false apart = b.inboxes.others other

      earlier : (other : ℕ) (test : Bool) → 0 < (cond test box (q.inboxes other)).next → IsBehind p q.position q.incarnation (cond test box (q.inboxes other)).reader
      earlier other true some = entry_behind count p q b begun
      earlier other false some = b.inboxes.earlier other some

      belongs : Belongs count p after
      belongs = record {
        number = b.number;
        rows = b.rows;
        queue = queued_lives count p q.queue message b.queue (eqb-true (home count message.to) q.number three.1 ∙ b.number);
        outboxes = b.outboxes;
        inboxes = record { others = λ other. others other (source.partition == other) refl; earlier = λ other. earlier other (source.partition == other) };
        stamps = b.stamps;
      }

  -- a stream was let go of
  pub trim_belongs : (q next : Partition) (reader : Identity) (number : ℕ) → Belongs count p q → trim_in count q reader number ≡ Some next → Belongs count p next
  trim_belongs q next reader number b is = subst (Belongs count p) it.1 belongs
    where
      target : ℕ
      target = reader.partition

      after : Partition
      after = record q { outboxes = with_first q.outboxes target number }

      away : Bool
      away = target == q.number

      low_target : Bool
      low_target = nat_lt target count

      enough : Bool
      enough = nat_le number ((q.outboxes target).first + length (q.outboxes target).messages)

      it : ((not away && (low_target && enough)) ≡ true) × (after ≡ next)
      it = passed (not away && (low_target && enough)) after next is

      one : (not away ≡ true) × ((low_target && enough) ≡ true)
      one = and_parts (not away) (low_target && enough) it.0

      two : (low_target ≡ true) × (enough ≡ true)
      two = and_parts low_target enough one.1

      other_target : IsOther count p target
      other_target = record { apart = λ wrong. eqb_apart target q.number (not-true away one.0) (wrong ∙ sym b.number); below = ltb-true target count two.0 }

      box_of : ℕ → Bool → Outbox
      box_of other test = cond test (begins_at number (q.outboxes other)) (q.outboxes other)

      others : (other : ℕ) (test : Bool) → (target == other) ≡ test → IsOther count p other ⊎ (box_of other test ≡ record { first = 0; messages = [] })
      others other true same = inl (subst (IsOther count p) (eqb-true target other same) other_target)
      others other false apart = b.outboxes.others other

      left : (other : ℕ) (one_posted : Posted) (test : Bool) → Contains (box_of other test).messages one_posted → Contains (q.outboxes other).messages one_posted
      left other posted true of_it = by (nat_le number (q.outboxes other).first) of_it
        where
          by : (low : Bool) → Contains (cond low (q.outboxes other) (record { first = number; messages = drop (number - (q.outboxes other).first) (q.outboxes other).messages })).messages posted → Contains (q.outboxes other).messages posted
          by true has = has
          by false has = dropped_in (number - (q.outboxes other).first) (q.outboxes other).messages posted has
      left other posted false of_it = of_it

      belongs : Belongs count p after
      belongs = record {
        number = b.number;
        rows = b.rows;
        queue = b.queue;
        outboxes = record {
          others = λ other. others other (target == other) refl;
          senders = λ other posted of_it. b.outboxes.senders other posted (left other posted (target == other) of_it);
          receivers = λ other posted of_it. b.outboxes.receivers other posted (left other posted (target == other) of_it);
          earlier = λ other posted of_it. b.outboxes.earlier other posted (left other posted (target == other) of_it);
        };
        inboxes = b.inboxes;
        stamps = b.stamps;
      }

  entered_behind : (was now incarnation new : ℕ) (entry : Identity) → was ≤ now → incarnation ≤ new → IsBehind p was incarnation entry → IsBehind p now new entry
  entered_behind was now incarnation new entry later younger is = record { here = is.here; before = omega (arith, later, is.before); alive = omega (arith, younger, is.alive) }

  -- an entry begins
  pub enter_belongs : (q : Partition) (incarnation : ℕ) → Belongs count p q → q.incarnation ≤ incarnation → Belongs count p (enter incarnation q)
  enter_belongs q incarnation b young = record {
    number = b.number;
    rows = b.rows;
    queue = b.queue;
    outboxes = record {
      others = b.outboxes.others;
      senders = b.outboxes.senders;
      receivers = b.outboxes.receivers;
      earlier = λ target posted of_it. entered_behind q.position (q.position + 1) q.incarnation incarnation posted.entry (omega arith) young (b.outboxes.earlier target posted of_it);
    };
    inboxes = record {
      others = b.inboxes.others;
      earlier = λ source some. entered_behind q.position (q.position + 1) q.incarnation incarnation (q.inboxes source).reader (omega arith) young (b.inboxes.earlier source some);
    };
    stamps = b.stamps;
  }
