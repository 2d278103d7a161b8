-- What was settled stays so, whatever a call on frames comes to.
use Rattle.std.proofs.Common.{◌≡◌, ◌≤◌, inl, inr, ◌∙◌, ℕ, max, true, List, [], ◌∷◌, ◌++◌, length, take, drop, Result, Ok, Err, sym, ap, subst, arith, append_assoc, append-nil}
use Rattle.std.specs.List.{All}
use Rattle.std.proofs.lemmas.List.{take-append-drop}
use Rattle.std.proofs.lemmas.List.Elements.{All-append, All-cons, All-nil, All-head, All-tail}
use Rattle.std.specs.declared.alloc.Global.{Global}
use Rattle.std.specs.declared.vec.Vec.{Vec}
use Rattle.commit_gate.proofs.Going.{all_front}
use Rattle.cell_frames.specs.Joined.{StoreView, Joined, view_of}
use Rattle.cell_frames.specs.Owns.{Opens}
use Rattle.cell_frames.specs.Settles.{SettlesFrame}
use Rattle.cell_frames.specs.declared.owning.Reopened.{Reopened}
use Rattle.cell_frames.specs.declared.owning.Reopened.TheVariants as reopenings
use Rattle.cell_frames.specs.declared.settling.SettleRefusal.{SettleRefusal}
use Rattle.cell_frames.specs.declared.settling.SettleRefusal.TheVariants as refusals
use Rattle.cell_steps.specs.declared.mode.Mode.{Mode}
use Rattle.gated_store.specs.declared.local.Gated as gated_types
use Rattle.gated_store.specs.declared.store.GatedStore.{GatedStore}
use Rattle.gated_store.specs.Keeps.{KeepsGate}
use Rattle.dura_value.specs.Items.{Item, Entry, took, got, ran, ended, fired, trim}
use Rattle.hub_store.specs.Changes.{KeepsAll, trail_in}
use Rattle.hub_store.specs.Trail.{Settled, settling}
use Rattle.hub_store.specs.declared.start.Start as starts
use Rattle.log_items.specs.declared.items.Packet.{Packet}
use Rattle.many_rules.specs.Rules.{Rules, IsFrom}
use Rattle.node_core.specs.Growing.{IsStamped, Grows, GrowsOn}
use Rattle.node_core.specs.Running.{IsRunning}
use Rattle.node_core.proofs.Steps.{kept_all, same_all}
use Rattle.hub_store.specs.Origin.{Origin}
use Rattle.run_rules.proofs.Going.{by_later}
use Rattle.run_rules.specs.Rules.{IsBy}
use Rattle.site_model.specs.declared.site.Site as sites
use Rattle.spec_cell.specs.Views.{CellView}
use Rattle.world_steps.specs.Cells.{AllJoined, CellBecomes}
use Rattle.world_steps.specs.TakesOver.{TakenBy}
use Rattle.world_steps.specs.declared.taking_over.Taken.{Taken}
use Rattle.world_steps.specs.declared.taking_over.Taken.TheVariants as takings

front_all : (P : Entry → Type 0) (n : ℕ) (entries : List Entry) → All P entries → All P (take n entries)
front_all P n entries all = all_front P (take n entries) (drop n entries) (subst (All P) (sym (take-append-drop n entries)) all)

-- an item that isn't before a moment isn't before an earlier one
from_earlier : (first earlier : ℕ) → earlier ≤ first → (item : Item) → IsFrom first item → IsFrom earlier item
from_earlier first earlier low (took message) from = tt
from_earlier first earlier low (got source number message) from = tt
from_earlier first earlier low (ran from_id to stamp) from = omega (arith, low, from)
from_earlier first earlier low (ended id task outcome) from = tt
from_earlier first earlier low (fired id task stamp) from = omega (arith, low, from)
from_earlier first earlier low (trim reader number) from = tt

module _ (rules : Rules) where
  -- between moments further apart
  wider : (first last earlier later : ℕ) → earlier ≤ first → last ≤ later → (one : Settled) → IsStamped rules first last one → IsStamped rules earlier later one
  wider first last earlier later low high one is = record {
    few = is.few;
    from = λ k d inside. from_earlier first earlier low _ (is.from k d inside);
    by = λ k d inside. by_later (max (rules.begin one.partition).stamp last) (max (rules.begin one.partition).stamp later) (omega (arith, high)) _ (is.by k d inside);
  }

  wider_all : (first last earlier later : ℕ) → earlier ≤ first → last ≤ later → (l : List Settled) → All (IsStamped rules first last) l → All (IsStamped rules earlier later) l
  wider_all first last earlier later low high l all = λ k d inside. wider first last earlier later low high _ (all k d inside)

  pub grows_not : (first last : ℕ) (l : List Settled) → first ≤ last → Grows rules first last l l
  grows_not first last l low = record { in_order = low; more = []; is = sym (append-nil l); stamped = All-nil (IsStamped rules first last) }

  pub grows_then : (first mid last : ℕ) (a b c : List Settled) → Grows rules first mid a b → Grows rules mid last b c → Grows rules first last a c
  grows_then first mid last a b c one two =
      let low = one.in_order in
      let high = two.in_order in
      record {
        in_order = omega (arith, low, high);
        more = one.more ++ two.more;
        is = two.is ∙ ap (λ (l : List Settled). l ++ two.more) one.is ∙ append_assoc a one.more two.more;
        stamped = All-append (IsStamped rules first last) one.more two.more (wider_all first mid first last (omega arith) high one.more one.stamped) (wider_all mid last first last low (omega arith) two.more two.stamped);
      }

  -- nothing was settled
  pub grows_same : (first last : ℕ) (old new : List Settled) → first ≤ last → new ≡ old → Grows rules first last old new
  grows_same first last old new low same = record { in_order = low; more = []; is = same ∙ sym (append-nil old); stamped = All-nil (IsStamped rules first last) }

  -- ---- one partition's frame

  -- what is settled of one partition, of entries that are so
  settling_all : (first last p at : ℕ) (entries : List Entry) → All (λ e. length e.items ≤ rules.most) entries → All (λ e. All (IsFrom first) e.items) entries → All (λ e. All (IsBy (max (rules.begin p).stamp last)) e.items) entries → All (IsStamped rules first last) (settling p at entries)
  settling_all first last p at [] few from by = All-nil (IsStamped rules first last)
  settling_all first last p at (e ∷ entries) few from by =
      All-cons (IsStamped rules first last) _ _ (record {
        few = All-head (λ (x : Entry). length x.items ≤ rules.most) e entries few;
        from = All-head (λ (x : Entry). All (IsFrom first) x.items) e entries from;
        by = All-head (λ (x : Entry). All (IsBy (max (rules.begin p).stamp last)) x.items) e entries by;
      })
      (settling_all first last p at entries (All-tail (λ (x : Entry). length x.items ≤ rules.most) e entries few) (All-tail (λ (x : Entry). All (IsFrom first) x.items) e entries from) (All-tail (λ (x : Entry). All (IsBy (max (rules.begin p).stamp last)) x.items) e entries by))

  module _ (serves : rules.serves ≡ true) (p : ℕ) (mode : Mode) (old new : StoreView) (c : CellView) (joined : Joined rules old p c) (low : old.latest ≤ new.latest) where
    on_trail : (at : ℕ) → new.trail ≡ old.trail ++ settling p at (take c.out c.entries) → Grows rules old.latest new.latest old.trail new.trail
    on_trail at trail =
        let goes = joined.goes in
        let fresh = goes.fresh serves in
        let mine : All (λ e. All (IsBy (max (rules.begin p).stamp old.latest)) e.items) c.entries =
        subst (λ (n : ℕ). All (λ e. All (IsBy (max (rules.begin n).stamp old.latest)) e.items) c.entries) goes.number (λ k d inside. (goes.ours.ours k d inside).timely) in
        record {
          in_order = low;
          more = settling p at (take c.out c.entries);
          is = trail;
          stamped = settling_all old.latest new.latest p at (take c.out c.entries) (front_all (λ e. length e.items ≤ rules.most) c.out c.entries (λ k d inside. (goes.ours.ours k d inside).few)) (front_all (λ e. All (IsFrom old.latest) e.items) c.out c.entries fresh.held)
              (front_all (λ e. All (IsBy (max (rules.begin p).stamp new.latest)) e.items) c.out c.entries
              (λ k d inside m item within. by_later (max (rules.begin p).stamp old.latest) (max (rules.begin p).stamp new.latest) (omega (arith, low)) _ (mine k d inside m item within)));
        }

    same : new.trail ≡ old.trail → Grows rules old.latest new.latest old.trail new.trail
    same trail = grows_same old.latest new.latest old.trail new.trail low trail

    pub settles_grow : (after : CellView) (result : Result (Vec Packet Global) SettleRefusal) → SettlesFrame rules p mode old new c after result → Grows rules old.latest new.latest old.trail new.trail
    settles_grow after (Ok packets) does = on_trail does.0.at does.0.trail
    settles_grow after (Err refusals.NoFrame) does = same (ap (λ (s : StoreView). s.trail) does.2)
    settles_grow after (Err refusals.SiteFault) does = same does.1
    settles_grow after (Err refusals.Memory) does = on_trail does.at does.trail

    -- the log was opened again, and then no more was settled
    opens_on : (between : StoreView) (reopened : Reopened) (mid : CellView) → new.trail ≡ between.trail → Opens rules p mode old between c (Ok reopened) mid → Grows rules old.latest new.latest old.trail new.trail
    opens_on between (reopenings.Settled packets) mid rest does = on_trail does.0.at (rest ∙ does.0.trail)
    opens_on between reopenings.Dropped mid rest does = same (rest ∙ does.1)

    pub taking_grows : (node : ℕ) (taken : Taken) (after : CellView) → TakenBy rules mode p node old new c taken after → Grows rules old.latest new.latest old.trail new.trail
    taking_grows node (takings.Done reopened) after does = opens_on does.between reopened does.mid (ap (λ (s : StoreView). s.trail) does.rest) does.opens
    taking_grows node (takings.Spent reopened number) after does = opens_on does.between reopened does.mid (ap (λ (s : StoreView). s.trail) does.rest) does.opens
    taking_grows node takings.SiteFault after does = same does.0
    taking_grows node takings.Memory after does = elim does [
      | inl stays ↦ same stays
      | inr on ↦ on_trail on.at on.trail
    ]

module _ {V L : Type 0} {G : sites.Ghosts V} {K : starts.Ghosts (gated_types.Gated L)} (rules : Rules) where
  pub grows_on_not : (s : GatedStore V L G K) → GrowsOn rules s s
  grows_on_not s = record { grows = grows_not rules s.logs.latest s.logs.latest (trail_in s.logs) (omega arith) }

  pub grows_on_then : (a b c : GatedStore V L G K) → GrowsOn rules a b → GrowsOn rules b c → GrowsOn rules a c
  grows_on_then a b c one two = record { grows = grows_then rules a.logs.latest b.logs.latest c.logs.latest (trail_in a.logs) (trail_in b.logs) (trail_in c.logs) one.grows two.grows }

  module _ (old new : GatedStore V L G K) (keeps : KeepsAll old.logs new.logs) where
    low : old.logs.latest ≤ new.logs.latest
    low = let same = keeps.latest in omega (arith, same)

    -- nothing was settled
    pub grows_on_same : trail_in new.logs ≡ trail_in old.logs → GrowsOn rules old new
    grows_on_same same = record { grows = grows_same rules old.logs.latest new.logs.latest (trail_in old.logs) (trail_in new.logs) low same }

    module _ (serves : rules.serves ≡ true) (p : ℕ) (mode : Mode) (cells later : List CellView) (joined : AllJoined rules (view_of old) cells) where
      -- a frame was settled, or it wasn't
      pub settled_grow : (result : Result (Vec Packet Global) SettleRefusal) → CellBecomes p cells later (λ c after. SettlesFrame rules p mode (view_of old) (view_of new) c after result) → GrowsOn rules old new
      settled_grow result b = record { grows = settles_grow rules serves p mode (view_of old) (view_of new) b.cell (joined p b.cell b.there).1 low b.after result b.does }

      -- a partition was taken over, or it wasn't
      pub taken_grow : (node : ℕ) (taken : Taken) → CellBecomes p cells later (λ c after. TakenBy rules mode p node (view_of old) (view_of new) c taken after) → GrowsOn rules old new
      taken_grow node taken b = record { grows = taking_grows rules serves p mode (view_of old) (view_of new) b.cell (joined p b.cell b.there).1 low node taken b.after b.does }

  -- a call on one partition's frame that settles nothing
  pub grows_on_gate : (p : ℕ) (old new : GatedStore V L G K) → KeepsGate p old new → trail_in new.logs ≡ trail_in old.logs → GrowsOn rules old new
  grows_on_gate p old new keeps same = grows_on_same old new (kept_all p old.logs new.logs keeps.logs) same

  -- the logs are as they were
  pub grows_on_logs : (old new : GatedStore V L G K) → new.logs ≡ old.logs → GrowsOn rules old new
  grows_on_logs old new same = grows_on_same old new (same_all old.logs new.logs same) (cc same)

  -- a frame was settled in a call that goes on, or it wasn't
  pub settled_on : (o : Origin) (p : ℕ) (mode : Mode) (old new : GatedStore V L G K) (cells later : List CellView) (result : Result (Vec Packet Global) SettleRefusal) → IsRunning o rules old cells → KeepsGate p old new → CellBecomes p cells later (λ c after. SettlesFrame rules p mode (view_of old) (view_of new) c after result)
      → GrowsOn rules old new
  settled_on o p mode old new cells later result running keeps becomes = settled_grow old new (kept_all p old.logs new.logs keeps.logs) running.serves p mode cells later running.joined result becomes

  -- a partition was taken over in a call that goes on, or it wasn't
  pub taken_on : (o : Origin) (p : ℕ) (mode : Mode) (old new : GatedStore V L G K) (cells later : List CellView) (node : ℕ) (taken : Taken) → IsRunning o rules old cells → KeepsAll old.logs new.logs → CellBecomes p cells later (λ c after. TakenBy rules mode p node (view_of old) (view_of new) c taken after)
      → GrowsOn rules old new
  taken_on o p mode old new cells later node taken running keeps becomes = taken_grow old new keeps running.serves p mode cells later running.joined node taken becomes
