-- What may follow goes on to, and what followed is given.
use Rattle.std.proofs.Common.{◌≡◌, ℕ, ◌+◌, ◌≤◌, max, List, ◌++◌, length, Ok, ◌∙◌, ap, subst, arith}
use Rattle.std.specs.List.{filter}
use Rattle.std.specs.Prelude.{bytes_eq}
use Rattle.std.proofs.lemmas.List.{length-append}
use Rattle.std.proofs.lemmas.List.Elements.{filter-append}
use Rattle.dura_value.specs.Reading.{◌>>=◌}
use Rattle.dura_model.specs.Partition.{Partition}
use Rattle.dura_value.specs.Items.{Item, Entry, took, got, ran, ended, fired, trim}
use Rattle.dura_value.specs.Messages.{Message}
use Rattle.dura_model.specs.Entries.{placed, AllGiven}
use Rattle.dura_model.proofs.Appending.{placed_both, given_both}
use Rattle.run_rules.specs.Rules.{Rules, Told, count_told, IsDue, IsAsked, IsBy, IsOurs, Follows}

count_more : (told more : Told) (name : List ℕ) → count_told told name ≤ count_told (told ++ more) name
count_more told more name =
    let is_of = λ (one : List ℕ × ℕ). bytes_eq one.0 name in
    let both : count_told (told ++ more) name ≡ length (filter is_of told) + length (filter is_of more) =
    ap length (filter-append is_of told more) ∙ length-append (filter is_of told) (filter is_of more) in
    omega (arith, both)

module _ (rules : Rules) (latest : ℕ) (told more : Told) where
  due_still : (message : Message) → IsDue rules told message → IsDue rules (told ++ more) message
  due_still message due = let grown = count_more told more due.name in record {
    name = due.name;
    place = due.place;
    request = due.request;
    asked = due.asked;
    sends = due.sends;
    answered = omega (arith, grown, due.answered);
  }

  asked_still : (item : Item) → IsAsked rules told item → IsAsked rules (told ++ more) item
  asked_still (took message) asked = due_still message asked
  asked_still (got source number message) asked = asked
  asked_still (ran from to stamp) asked = asked
  asked_still (ended id task outcome) asked = asked
  asked_still (fired id task stamp) asked = asked
  asked_still (trim reader number) asked = asked

  pub ours_still : (entry : Entry) → IsOurs rules latest told entry → IsOurs rules latest (told ++ more) entry
  ours_still entry ours = record { incarnation = ours.incarnation; asked = λ k d inside. asked_still _ (ours.asked k d inside); timely = ours.timely }

  pub follows_still : (settled going : List Entry) → Follows rules latest settled told going → Follows rules latest settled (told ++ more) going
  follows_still settled going follows = record {
    before = follows.before;
    made = follows.made;
    after = follows.after;
    accepted = follows.accepted;
    given = follows.given;
    ours = λ k d inside. ours_still _ (follows.ours k d inside);
    pending = follows.pending;
  }

-- what is of no later stamp than this is of none later than a later one
pub by_later : (now later : ℕ) → now ≤ later → (item : Item) → IsBy now item → IsBy later item
by_later now later above (took message) low = low
by_later now later above (got source number message) low = low
by_later now later above (ran from to stamp) low = omega (arith, above, low)
by_later now later above (ended id task outcome) low = low
by_later now later above (fired id task stamp) low = omega (arith, above, low)
by_later now later above (trim reader number) low = low

pub ours_later : (rules : Rules) (latest later : ℕ) (told : Told) → latest ≤ later → (entry : Entry) → IsOurs rules latest told entry → IsOurs rules later told entry
ours_later rules latest later told above entry ours = record {
  incarnation = ours.incarnation;
  asked = ours.asked;
  timely = λ k d inside. by_later (max rules.begin.stamp latest) (max rules.begin.stamp later) (omega (arith, above)) _ (ours.timely k d inside);
}

pub follows_later : (rules : Rules) (latest later : ℕ) (settled going : List Entry) (told : Told) → latest ≤ later → Follows rules latest settled told going → Follows rules later settled told going
follows_later rules latest later settled going told above follows = record {
  before = follows.before;
  made = follows.made;
  after = follows.after;
  accepted = follows.accepted;
  given = follows.given;
  ours = λ k d inside. ours_later rules latest later told above _ (follows.ours k d inside);
  pending = follows.pending;
}

module _ (rules : Rules) (latest : ℕ) (settled going : List Entry) (told : Told) where
  pub followed_made : (follows : Follows rules latest settled told going) → placed rules.flows 1 rules.begin (settled ++ going) ≡ Ok follows.after
  followed_made follows =
      placed_both rules.flows 1 rules.begin settled going ∙ ap (λ made. made >>= λ q. placed rules.flows 1 q going) follows.made ∙ follows.accepted

  pub followed_given : AllGiven rules.flows 1 rules.begin settled → Follows rules latest settled told going → AllGiven rules.flows 1 rules.begin (settled ++ going)
  followed_given given follows =
      (given_both rules.flows 1 rules.begin settled going).1 (given, λ q is. let same : follows.before ≡ q = cc (follows.made, is) in subst (λ (p : Partition). AllGiven rules.flows 1 p going) same follows.given)
