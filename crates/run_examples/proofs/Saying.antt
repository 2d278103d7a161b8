-- What a call says of its end, and what doesn't fit.
use Rattle.std.proofs.Common.{◌≡◌, ◌<◌, inl, inr, ℕ, ◌^◌, List, [], ◌∷◌, Some, None, refl, arith}
use Rattle.std.proofs.lemmas.List.Elements.{All-nil}
use Rattle.std.specs.Prelude.{replicate}
use Rattle.std.proofs.lemmas.Option.{slice_get_within}
use Rattle.client_port.specs.Ports.{Queue}
use Rattle.engine_rounds.specs.Ends.{EndsAs}
use Rattle.engine_rounds.specs.declared.driving.End.{End}
use Rattle.engine_rounds.specs.declared.driving.End.TheVariants as ends
use Rattle.engine_rounds.specs.declared.serving.Came.{Came}
use Rattle.engine_rounds.specs.declared.serving.Came.TheVariants as cames
use Rattle.call_begins.specs.Says.{AnyFollows}
use Rattle.hub_store.specs.Moments.{SaidSoFar}
use Rattle.hub_store.specs.Moments.SaidSoFar.{silent, settles, says}
use Rattle.hub_store.specs.Trail.{Settled, Said}
use Rattle.many_rules.specs.Rules.{Answers, commits_of, rules_at}
use Rattle.many_logs.specs.Placing.{states_after}
use Rattle.run_rules.specs.Rules.{request_at}
use Rattle.node_core.specs.declared.halt.Halt.{Halt}
use Rattle.node_core.specs.declared.halt.Halt.TheVariants as halts
use Rattle.request_reader.specs.Line.{Request}
use Rattle.rest_check.specs.Rest.{IsAtRest}
use Rattle.round_steps.specs.Labels.{settled_labels}
use Rattle.round_steps.specs.Serving.{HasSaid}
use Rattle.run_examples.proofs.Clocks.{one_frame, one_too_many}
use Rattle.run_examples.specs.Clocks.{delivery, delivered_often, one_at_a_time}
use Rattle.run_examples.specs.Saying.{HaltsWith, SaysOfMany}
use Rattle.run_examples.specs.States.{asker, sum}
use Rattle.site_model.specs.History.{said}

-- these deliveries make no state: nothing was on its way
not_at_rest : (queues : List Queue) → IsAtRest one_at_a_time (delivered_often 64 asker sum) queues → ⊥
not_at_rest queues rest =
    let none : states_after one_at_a_time.flows one_at_a_time.count one_at_a_time.begin (commits_of (delivered_often 64 asker sum)) ≡ None = refl in
    let made = rest.made.made in
    cc (none, made)

-- nothing is asked for, so nothing is said
none_asked : (client : List ℕ) (place : ℕ) (request : Request) → request_at (rules_at one_at_a_time 0) client place ≡ Some request → ⊥
none_asked client place request is = let some = slice_get_within {A = Request} [] place request is in absurd (omega (arith, some))

nothing_said : {trail : List Settled} {told : List Said} {lines : List ℕ} → SaidSoFar AnyFollows (Answers one_at_a_time) trail told lines → lines ≡ []
nothing_said silent = refl
nothing_said (settles before partition at going follows) = nothing_said before
nothing_said (says before one line may) = let next = may.next refl in absurd (none_asked one.client 0 next.request next.asked)

-- where no client asks, and none was told
nobody : HasSaid [] [] []
nobody = record { clients = refl; each = λ name q is. absurd (cc is) }

ended : (end : End) → cames.Ended (ends.Long 64) ≡ cames.Ended end → HasSaid one_at_a_time.requests [] [] × EndsAs one_at_a_time 1 (delivered_often 64 asker sum) [] end
ended ends.Rest is = absurd (cc is)
ended (ends.Long labels) is =
    let same : labels ≡ 64 = cc is in
    let many : settled_labels (delivered_often 64 asker sum) ≡ 64 = refl in
    (nobody, (omega (arith, same, many), omega (arith, same), not_at_rest []))

pub says_on : SaysOfMany [] 64 (cames.Ended (ends.Long 64)) (Some [])
says_on = record {
  told = [];
  queues = [];
  port_is = refl;
  few = one_frame asker sum;
  says = λ tells fine. record { lines = []; said = settles silent 0 0 (replicate 64 (delivery asker sum 0).entry) tt; spoken = refl };
  halts = λ halt is. absurd (cc is);
  ends = ended;
}

pub too_many_labels : SaysOfMany [] 65 (cames.Ended (ends.Long 65)) (Some []) → ⊥
too_many_labels s = one_too_many asker sum s.few

pub no_port : (came : Came) → SaysOfMany [] 64 came None → ⊥
no_port came s = let is = s.port_is in cc is

pub spoke : SaysOfMany (said 97 ∷ []) 64 (cames.Ended (ends.Long 64)) (Some []) → ⊥
spoke s =
    let all = s.says tt (λ same. cc same) in
    let none = nothing_said all.said in
    let spoken = all.spoken in
    cc (none, spoken)

pub not_full : SaysOfMany [] 64 (cames.Halted (halts.Full 0 0)) (Some []) → ⊥
not_full s = let full = s.halts (halts.Full 0 0) refl in let is = full.length_is in absurd (omega (arith, is))

pub not_over : SaysOfMany [] 64 (cames.Ended ends.Rest) (Some []) → ⊥
not_over s = not_at_rest _ (s.ends ends.Rest refl).1

pub miscounted : SaysOfMany [] 64 (cames.Ended (ends.Long 63)) (Some []) → ⊥
miscounted s =
    let many : settled_labels (delivered_often 64 asker sum) ≡ 64 = refl in
    let is = (s.ends (ends.Long 63) refl).1.0 in
    absurd (omega (arith, many, is))

-- ---- why a call halts

pub spent : HaltsWith (halts.Spent 0 (2 ^ 62))
spent = record { held = []; ours = All-nil _; incarnation = 2 ^ 62; of_call = omega arith; comes = inr (inl refl); past = omega arith }

pub not_spent : (number : ℕ) → number < 2 ^ 62 → HaltsWith (halts.Spent 0 number) → ⊥
not_spent number low s = let past = s.past in absurd (omega (arith, low, past))

pub not_so_full : (length : ℕ) → length < 4096 → HaltsWith (halts.Full 0 length) → ⊥
not_so_full length low full = let past = full.past in absurd (omega (arith, low, past))
