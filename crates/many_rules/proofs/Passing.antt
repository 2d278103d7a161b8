-- What passes the gate goes on from what was settled.
use Rattle.std.proofs.Common.{◌≡◌, ℕ, List, ◌++◌, Some, Ok, sym, ap, subst, ◌∙◌}
use Rattle.dura_model.specs.Partition.{Partition, fresh, with_part}
use Rattle.dura_value.specs.Items.{Identity, Entry}
use Rattle.hub_store.specs.Trail.{Settled}
use Rattle.dura_model.specs.Entries as alone
use Rattle.many_logs.specs.Placing.{states_after}
use Rattle.many_logs.specs.Labels.{AreNumbered}
use Rattle.many_logs.specs.Names.{identities_in, AreOf}
use Rattle.many_logs.proofs.Frames.{put_then}
use Rattle.many_logs.proofs.Gates.{frame_ready, frame_named}
use Rattle.many_logs.proofs.Names.{order_of}
use Rattle.many_logs.proofs.Own.{own_chain, chain_goes, chain_given}
use Rattle.many_rules.specs.Rules.{Rules, commits_of, known_of, GoesFrom, Passes}
use Rattle.many_rules.specs.Appended.{puts_part, names_both}

module _ (rules : Rules) (made : states_after rules.flows rules.count fresh rules.recovered ≡ Some rules.begin) where
  pub passes_goes : (trail : List Settled) (partition : ℕ) (going : List Entry) → AreNumbered fresh (rules.recovered ++ commits_of trail) → Passes rules trail partition going → (states : ℕ → Partition) → states_after rules.flows rules.count rules.begin (commits_of trail) ≡ Some states
      → GoesFrom rules (known_of rules trail) states partition going
  passes_goes trail partition going numbered passes states all =
      let same : passes.settled ≡ states = λ i other. each other i in
      let whole = order_of rules.flows rules.count (rules.recovered ++ commits_of trail) states numbered (put_then rules.flows rules.count fresh rules.begin states rules.recovered (commits_of trail) made all) in
      let are : AreOf (known_of rules trail) passes.settled =
      subst (λ (known : List Identity). AreOf known passes.settled) (names_both rules.recovered (commits_of trail)) (subst (AreOf (identities_in (rules.recovered ++ commits_of trail))) (sym same) whole) in
      let ready = frame_ready rules.flows rules.count passes.settled passes.ahead passes.under_way passes.memory partition going passes.passes in
      subst (λ (f : ℕ → Partition). GoesFrom rules (known_of rules trail) f partition going) same
      (record {
        accepted = (with_part passes.settled partition passes.after, chain_goes rules.flows rules.count going passes.settled partition passes.after ready passes.made);
        given = chain_given rules.flows rules.count going passes.settled partition passes.given;
        pending = passes.pending;
        named = frame_named rules.flows rules.count passes.settled passes.ahead passes.under_way passes.memory (known_of rules trail) are partition going passes.trims passes.passes;
      })
    where
      each : (other : ℕ) → passes.settled other ≡ states other
      each other =
          let own = own_chain rules.flows rules.count (commits_of trail) rules.begin states other all in
          let theirs = ap (alone.placed rules.flows rules.count (rules.begin other)) (puts_part other trail) in
          let both : Ok (passes.settled other) ≡ Ok (states other) = sym (passes.chains other) ∙ sym theirs ∙ own in
          cc both
