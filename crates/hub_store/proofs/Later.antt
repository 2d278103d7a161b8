-- What stands where a call may commit less stands where it may commit more.
use Rattle.std.proofs.Common.{inl, inr, ℕ, List, []}
use Rattle.dura_value.specs.Items.{Entry}
use Rattle.hub_store.specs.Moments.{SaidSoFar, LeavesLog, StandsWith, StoreStands, AtEveryMoment}
use Rattle.hub_store.specs.Moments.SaidSoFar.{silent, settles, says}
use Rattle.hub_store.specs.Origin.{Log, Origin}
use Rattle.hub_store.specs.Runs.{Runs}
use Rattle.hub_store.specs.Runs.Runs.{starts, steps_on, settles as run_settles}
use Rattle.hub_store.specs.Sound.{IsTold}
use Rattle.hub_store.specs.Trail.{Settled, Said}
use Rattle.hub_store.specs.declared.way.Way.{Way}
use Rattle.site_model.specs.History.{Change, Step}
use Rattle.std.specs.Prelude.{Bool}

module _ (MayFollow Later : List Settled → List Said → ℕ → List Entry → Type 0) (MaySay : List Settled → List Said → Said → List ℕ → Type 0)
    (may : (trail : List Settled) (told : List Said) (partition : ℕ) (going : List Entry) → MayFollow trail told partition going → Later trail told partition going) where
  told_later : {trail : List Settled} {told : List Said} {lines : List ℕ} → SaidSoFar MayFollow MaySay trail told lines → SaidSoFar Later MaySay trail told lines
  told_later silent = silent
  told_later (settles {trail} {told} before partition at going follows) = settles (told_later before) partition at going (may trail told partition going follows)
  told_later (says before one line say) = says (told_later before) one line say

  log_later : (log : Log) (partition : ℕ) (trail : List Settled) (told : List Said) (changes : List Change) (image : List ℕ) → LeavesLog MayFollow MaySay log partition trail told changes image → LeavesLog Later MaySay log partition trail told changes image
  log_later log partition trail told changes image (inl kept) = inl kept
  log_later log partition trail told changes image (inr next) = inr (record { going = next.going; follows = may trail told partition next.going next.follows; gate = next.gate; keeps = next.keeps })

  pub with_later : (o : Origin) (steps : List Step) (trail : List Settled) (told : List Said) (part : List ℕ) → StandsWith MayFollow MaySay o steps trail told part → StandsWith Later MaySay o steps trail told part
  with_later o steps trail told part stands = record {
    lines = stands.lines;
    rightly = told_later stands.rightly;
    spoken = stands.spoken;
    images = λ partition below image left. log_later (o.logs partition) partition trail told _ image (stands.images partition below image left);
    others = stands.others;
  }

  pub stands_later : (o : Origin) (steps : List Step) (trail : List Settled) → StoreStands MayFollow MaySay o steps trail → StoreStands Later MaySay o steps trail
  stands_later o steps trail here = record {
    told = here.told;
    part = here.part;
    stands = with_later o steps trail here.told here.part here.stands;
    speaking = elim here.speaking [
      | inl whole ↦ inl whole
      | inr next ↦ inr (record { speaking = next.speaking; one = next.one; line = next.line; may = next.may; front = next.front })
    ];
  }

  runs_later : (o : Origin) {begin now : List Step} {trail : List Settled} → Runs (StoreStands MayFollow MaySay o) begin now trail → Runs (StoreStands Later MaySay o) begin now trail
  runs_later o (starts here) = starts (stands_later o _ _ here)
  runs_later o (steps_on step run here) = steps_on step (runs_later o run) (stands_later o _ _ here)
  runs_later o (run_settles more run at here) = run_settles more (runs_later o run) at (stands_later o _ _ here)

  pub is_told_later : (o : Origin) (now : List Step) (ways : List Way) (trail : List Settled) (told : List Said) (cut : Bool) → IsTold MayFollow MaySay o now ways trail told cut → IsTold Later MaySay o now ways trail told cut
  is_told_later o now ways trail told cut is = record {
    runs = runs_later o is.runs;
    logs = is.logs;
    rests = λ going. with_later o now trail told [] (is.rests going);
  }

  pub moments_later : (o : Origin) (now : List Step) (trail : List Settled) → AtEveryMoment MayFollow MaySay o now trail → AtEveryMoment Later MaySay o now trail
  moments_later o now trail every = λ moment low high. stands_later o _ _ (every moment low high)
