-- A life of the world is one life.
use Rattle.std.proofs.Common.{◌≤◌, inl, ℕ, List, length}
use Rattle.cell_steps.specs.declared.mode.Mode.{Mode}
use Rattle.flow_syntax.specs.Syntax.{Flows}
use Rattle.hub_store.specs.Trail.{Settled}
use Rattle.join_laws.specs.Joined.{IsOneLife, life_at}
use Rattle.open_logs.specs.Picks.{origin_of}
use Rattle.site_model.specs.History.{Step}
use Rattle.world_core.specs.declared.answer.Answer.{Answer}
use Rattle.world_lives.specs.Begins.{rules_of}
use Rattle.world_lives.specs.Lives.{IsLife}
use Rattle.world_lives.specs.declared.deed.Deed.{Deed}

-- where the site tells a life tells
pub one_life : (flows : Flows) (count digest : ℕ) (mode : Mode) (nodes : ℕ) (old new : List Step) (done : List Deed) (came : List Answer) (trail : List Settled) (moment : ℕ) (tells : Type 0) → tells
    → IsLife flows count digest mode nodes tells old new done came trail → length old ≤ moment → moment ≤ length new → IsOneLife flows count digest (life_at old new trail moment)
one_life flows count digest mode nodes old new done came trail moment tells it is begun within =
    let rules = rules_of flows count is.begun is.run in record {
      lived = inl (record {
        origin = origin_of count digest is.steps is.begun;
        begin = rules.begin;
        incarnations = rules.incarnations;
        since = rules.since;
        most = rules.most;
        requests = rules.requests;
        serves = rules.serves;
        opening = is.opening it;
        further = is.further it;
        nothing = is.nothing it;
        crash = is.crash it;
      });
      begun = begun;
      within = within;
    }
