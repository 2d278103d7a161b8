-- Messages that join streams, stream by stream.
use Rattle.std.proofs.Common.{◌≡◌, ◌<◌, ◌≤◌, ◌==◌, ℕ, zero, suc, ◌+◌, Bool, true, false, cond, List, [], ◌∷◌, ◌++◌, map, refl, sym, ap, ◌∙◌, append_assoc, append-nil, arith}
use Rattle.std.specs.List.{All, flat_map, range_with_len}
use Rattle.std.proofs.lemmas.Bool.{eqb-true}
use Rattle.std.proofs.lemmas.List.Concat.{flat_map-cons}
use Rattle.std.proofs.lemmas.List.Elements.{All-head, All-tail}
use Rattle.cell_packets.specs.Packets.{sent_to}
use Rattle.dura_model.proofs.Basics.{eqb_apart}
use Rattle.dura_value.specs.Items.{Posted}
use Rattle.log_items.specs.Streams.{Outbox, Sent, with_posted, with_sent}

-- the messages among these that go to a partition
abbrev pub posts_to : ℕ → List Sent → List Posted
posts_to target [] = []
posts_to target (one ∷ more) = cond (one.to == target) (one.posted ∷ posts_to target more) (posts_to target more)

-- a stream with these behind its messages
abbrev pub joined : Outbox → List Posted → Outbox
joined box posts = record { first = box.first; messages = box.messages ++ posts }

pub sent_joined : (boxes : ℕ → Outbox) (list : List Sent) (target : ℕ) → with_sent boxes list target ≡ joined (boxes target) (posts_to target list)
sent_joined boxes [] target = λ i. record { first = (boxes target).first; messages = (sym (append-nil (boxes target).messages)) i }
sent_joined boxes (one ∷ more) target = sent_joined (with_posted boxes one.to one.posted) more target ∙ by (one.to == target)
  where
    by : (test : Bool) → joined (cond test (record (boxes target) { messages = (boxes target).messages ++ one.posted ∷ [] }) (boxes target)) (posts_to target more) ≡ joined (boxes target) (cond test (one.posted ∷ posts_to target more) (posts_to target more))
    by true = λ i. record { first = (boxes target).first; messages = (append_assoc (boxes target).messages (one.posted ∷ []) (posts_to target more)) i }
    by false = refl

pub posts_both : (target : ℕ) (a b : List Sent) → posts_to target (a ++ b) ≡ posts_to target a ++ posts_to target b
posts_both target [] b = refl
posts_both target (one ∷ a) b = by (one.to == target) (posts_both target a b)
  where
    by : (test : Bool) → posts_to target (a ++ b) ≡ posts_to target a ++ posts_to target b → cond test (one.posted ∷ posts_to target (a ++ b)) (posts_to target (a ++ b)) ≡ cond test (one.posted ∷ posts_to target a) (posts_to target a) ++ posts_to target b
    by true rest = ap (λ (l : List Posted). one.posted ∷ l) rest
    by false rest = rest

-- messages to one partition
pub posts_of : (target other : ℕ) (posts : List Posted) → posts_to target (map (sent_to other) posts) ≡ cond (other == target) posts []
posts_of target other posts = by (other == target) refl posts
  where
    by : (test : Bool) → (other == target) ≡ test → (posts : List Posted) → posts_to target (map (sent_to other) posts) ≡ cond test posts []
    by true same [] = refl
    by true same (post ∷ posts) = ap (λ (b : Bool). cond b (post ∷ posts_to target (map (sent_to other) posts)) (posts_to target (map (sent_to other) posts))) same ∙ ap (λ (l : List Posted). post ∷ l) (by true same posts)
    by false apart [] = refl
    by false apart (post ∷ posts) = ap (λ (b : Bool). cond b (post ∷ posts_to target (map (sent_to other) posts)) (posts_to target (map (sent_to other) posts))) apart ∙ by false apart posts

-- of messages to each of some partitions in their order: none to one before them, those to one of them, and none to one behind them
pub posts_past : (parts : ℕ → List Posted) (target from many : ℕ) → target < from → posts_to target (flat_map (λ other. map (sent_to other) (parts other)) (range_with_len from many)) ≡ []
posts_past parts target from zero low = refl
posts_past parts target from (suc many) low =
    let apart : (from == target) ≡ false = grind (arith, low) in
    ap (posts_to target) (flat_map-cons (λ other. map (sent_to other) (parts other)) from (range_with_len (from + 1) many))
    ∙ posts_both target (map (sent_to from) (parts from)) (flat_map (λ other. map (sent_to other) (parts other)) (range_with_len (from + 1) many))
    ∙ ap (λ (l : List Posted). l ++ posts_to target (flat_map (λ other. map (sent_to other) (parts other)) (range_with_len (from + 1) many))) (posts_of target from (parts from) ∙ ap (λ (b : Bool). cond b (parts from) []) apart)
    ∙ posts_past parts target (from + 1) many (omega (arith, low))

pub posts_among : (parts : ℕ → List Posted) (target from many : ℕ) → from ≤ target → target < from + many → posts_to target (flat_map (λ other. map (sent_to other) (parts other)) (range_with_len from many)) ≡ parts target
posts_among parts target from zero low below = absurd (omega (arith, low, below))
posts_among parts target from (suc many) low below =
    ap (posts_to target) (flat_map-cons (λ other. map (sent_to other) (parts other)) from (range_with_len (from + 1) many))
    ∙ posts_both target (map (sent_to from) (parts from)) rest
    ∙ ap (λ (l : List Posted). l ++ posts_to target rest) (posts_of target from (parts from))
    ∙ by (from == target) refl (λ away. posts_among parts target (from + 1) many (omega (arith, low, away)) (omega (arith, below)))
  where
    rest : List Sent
    rest = flat_map (λ other. map (sent_to other) (parts other)) (range_with_len (from + 1) many)

    by : (test : Bool) → (from == target) ≡ test → (((from ≡ target) → ⊥) → posts_to target rest ≡ parts target) → cond test (parts from) [] ++ posts_to target rest ≡ parts target
    by true same among =
        let is = eqb-true from target same in
        ap (λ (l : List Posted). parts from ++ l) (posts_past parts target (from + 1) many (omega (arith, is))) ∙ append-nil (parts from) ∙ ap parts is
    by false apart among = among (eqb_apart from target apart)

pub posts_beyond : (parts : ℕ → List Posted) (target from many : ℕ) → from + many ≤ target → posts_to target (flat_map (λ other. map (sent_to other) (parts other)) (range_with_len from many)) ≡ []
posts_beyond parts target from zero past = refl
posts_beyond parts target from (suc many) past =
    let apart : (from == target) ≡ false = grind (arith, past) in
    ap (posts_to target) (flat_map-cons (λ other. map (sent_to other) (parts other)) from (range_with_len (from + 1) many))
    ∙ posts_both target (map (sent_to from) (parts from)) (flat_map (λ other. map (sent_to other) (parts other)) (range_with_len (from + 1) many))
    ∙ ap (λ (l : List Posted). l ++ posts_to target (flat_map (λ other. map (sent_to other) (parts other)) (range_with_len (from + 1) many))) (posts_of target from (parts from) ∙ ap (λ (b : Bool). cond b (parts from) []) apart)
    ∙ posts_beyond parts target (from + 1) many (omega (arith, past))

-- none to a partition past all to which these go
pub posts_none : (count target : ℕ) (list : List Sent) → count ≤ target → All (λ one. one.to < count) list → posts_to target list ≡ []
posts_none count target [] past all = refl
posts_none count target (one ∷ list) past all =
    let low = All-head (λ (one : Sent). one.to < count) one list all in
    let apart : (one.to == target) ≡ false = grind (arith, low, past) in
    ap (λ (b : Bool). cond b (one.posted ∷ posts_to target list) (posts_to target list)) apart ∙ posts_none count target list past (All-tail (λ (one : Sent). one.to < count) one list all)
