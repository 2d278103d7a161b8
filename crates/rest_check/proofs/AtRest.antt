-- Partitions at rest, as their cells have it.
use Rattle.std.proofs.Common.{◌≡◌, ◌<◌, ◌≤◌, ◌∙◌, ◌↔◌, ◌+◌, ◌++◌, ℕ, Bool, true, add-one, get_or, take, List, [], ◌∷◌, zero, suc, length, Some, None, Ok, refl, sym, ap, subst, arith, slice_get}
use Rattle.std.specs.List.{All}
use Rattle.std.proofs.Math.Seq.{take-suc}
use Rattle.std.proofs.lemmas.List.{take_all}
use Rattle.std.proofs.lemmas.List.Elements.{All-push}
use Rattle.std.specs.Prelude.{slice_index_or}
use Rattle.std.proofs.lemmas.Option.{get_or_from_slice_get, slice_get_within}
use Rattle.call_begins.proofs.Begins.{state_at}
use Rattle.cell_frames.proofs.Calls.{made_of}
use Rattle.cell_frames.specs.Joined.{StoreView, view_of}
use Rattle.client_port.specs.Clients.{clients_of}
use Rattle.client_port.specs.Ports.{Queue, due_of}
use Rattle.dura_model.proofs.Shown.{home_below}
use Rattle.dura_model.specs.Entries.{placed}
use Rattle.dura_model.specs.Partition.{Partition}
use Rattle.dura_value.specs.Ids.{Id, client, home}
use Rattle.dura_value.specs.Items.{Entry}
use Rattle.rest_check.specs.Rest.{AreAwaitedAt, AreStatesOfCells, IsNextAwaitedAt, IsStateOfCell, IsAtRest, IsAwaited, IsAwaitedAt}
use Rattle.gated_store.specs.declared.local.Gated as gated_types
use Rattle.gated_store.specs.declared.store.GatedStore.{GatedStore}
use Rattle.hub_store.specs.Changes.{trail_in}
use Rattle.hub_store.specs.Origin.{Origin}
use Rattle.hub_store.specs.Trail.{of_part}
use Rattle.hub_store.specs.declared.start.Start as starts
use Rattle.many_rules.specs.Rules.{Rules}
use Rattle.node_core.specs.Running.{IsRunning}
use Rattle.open_logs.proofs.Pushed.{pushed}
use Rattle.part_steps.specs.Quiet.{IsQuiet}
use Rattle.part_steps.specs.States.{AreStatesOfAll, IsStateOf, parts_in, state_of}
use Rattle.part_steps.specs.declared.state.PartState.{PartState}
use Rattle.request_reader.specs.Line.{Request}
use Rattle.rest_laws.specs.Rest.{AreAtRest}
use Rattle.site_model.specs.declared.site.Site as sites
use Rattle.spec_cell.specs.Views.{CellView, IsBase}
use Rattle.trail_states.specs.HaveMade.{HaveMade}
use Rattle.world_steps.proofs.Cells.{there_at}
use Rattle.world_steps.specs.Cells.{AllJoined}

something_there : {X : Type 0} (xs : List X) (i : ℕ) → i < length xs → (x : X) × (slice_get xs i ≡ Some x)
something_there [] i low = absurd (omega (arith, low))
something_there (x ∷ xs) zero low = (x, refl)
something_there (x ∷ xs) (suc i) low = something_there xs i (omega (arith, low))

-- rest is a matter of so many states
moved : (count other : ℕ) (old new : ℕ → Partition) → count ≡ other → ((p : ℕ) → p < other → old p ≡ new p) → AreAtRest count old → AreAtRest other new
moved count other old new same each rest = record {
  quiet = λ p below. subst IsQuiet (each p below) (rest.quiet p (omega (arith, below, same)));
  read = λ source reader from to.
      let read = rest.read source reader (omega (arith, from, same)) (omega (arith, to, same)) in
      let first = ap (λ (q : Partition). (q.outboxes reader).first) (each source from) in
      let left = ap (λ (q : Partition). length (q.outboxes reader).messages) (each source from) in
      let next = ap (λ (q : Partition). (q.inboxes source).next) (each reader to) in
      omega (arith, read, first, left, next);
}

module _ (rules : Rules) (s : StoreView) (made : HaveMade rules s.trail) (cells : List CellView) (joined : AllJoined rules s cells) (many : length cells ≡ rules.count) where
  -- a cell's settled state is what was settled of its partition
  pub base_is : (p : ℕ) (c : CellView) (base : Partition) → slice_get cells p ≡ Some c → IsBase rules.flows rules.count (rules.begin c.number) c base → made.states p ≡ base
  base_is p c base there is =
      let goes = (joined p c there).1.goes in
      let within : p < length cells = slice_get_within {A = CellView} cells p c there in
      let here : placed rules.flows rules.count (rules.begin p) (of_part p s.trail) ≡ Ok base =
      subst (λ (n : ℕ). placed rules.flows rules.count (rules.begin n) (of_part p s.trail) ≡ Ok base) goes.number (subst (λ (l : List Entry). placed rules.flows rules.count (rules.begin c.number) l ≡ Ok base) goes.mine is) in
      let same : Ok (made.states p) ≡ Ok base = sym (made.each p (omega (arith, within, many))) ∙ here in
      cc same

  -- and the other way round
  pub base_there : (p : ℕ) (c : CellView) → slice_get cells p ≡ Some c → IsBase rules.flows rules.count (rules.begin c.number) c (made.states p)
  base_there p c there =
      let goes = (joined p c there).1.goes in
      let within : p < length cells = slice_get_within {A = CellView} cells p c there in
      subst (λ (n : ℕ). placed rules.flows rules.count (rules.begin n) c.slot.mine ≡ Ok (made.states p)) (sym goes.number)
      (subst (λ (l : List Entry). placed rules.flows rules.count (rules.begin p) l ≡ Ok (made.states p)) (sym goes.mine) (made.each p (omega (arith, within, many))))

  module _ (states : List PartState) (are : AreStatesOfCells rules cells states) where
    state_is : (p : ℕ) (one : PartState) → slice_get states p ≡ Some one → made.states p ≡ state_of one
    state_is p one there = let of = are.each p one there in base_is p of.0 (state_of one) of.1 of.2.base

    -- they are the states of all partitions
    pub are_all : 0 < rules.count → AreStatesOfAll states
    are_all some = record {
      some = let long = are.many in omega (arith, some, many, long);
      each = λ p d within.
          let it = something_there states p within in
          let same : slice_index_or states p d ≡ it.0 = get_or_from_slice_get states p it.0 d it.1 in
          let of = are.each p it.0 it.1 in
          let long = are.many in
          let below : p < rules.count = omega (arith, within, many, long) in
          subst (IsStateOf (length states) p) (sym same) (record {
            sound = of.2.sound;
            among = of.2.among ∙ sym (long ∙ many);
            number = sym (ap (λ (q : Partition). q.number) (state_is p it.0 it.1)) ∙ (made.shown.each p below).number;
          });
    }

    part_is : (p : ℕ) → p < rules.count → parts_in states p ≡ made.states p
    part_is p below =
        let long = are.many in
        let it = something_there states p (omega (arith, below, many, long)) in
        state_at states p it.0 it.1 ∙ sym (state_is p it.0 it.1)

    -- so they are at rest just where what was settled is
    pub rests : AreAtRest (length states) (parts_in states) → AreAtRest rules.count made.states
    rests = moved (length states) rules.count (parts_in states) made.states (are.many ∙ many) part_is

    pub rests_back : AreAtRest rules.count made.states → AreAtRest (length states) (parts_in states)
    rests_back = moved rules.count (length states) made.states (parts_in states) (sym (are.many ∙ many)) (λ p below. sym (part_is p (let long = are.many in omega (arith, below, long, many))))

each_of : {X : Type 0} (P Q : X → Type 0) (xs : List X) → ((x : X) → P x → Q x) → All P xs → All Q xs
each_of P Q xs then all = λ k d low. then _ (all k d low)

-- what was found at rest
module _ {V L : Type 0} {G : sites.Ghosts V} {K : starts.Ghosts (gated_types.Gated L)} (o : Origin) (rules : Rules) (store : GatedStore V L G K) (cells : List CellView) (running : IsRunning o rules store cells) where
  -- the states of all cells are those of all partitions
  pub all_states : (states : List PartState) → AreStatesOfCells rules cells states → AreStatesOfAll states
  all_states states are = are_all rules (view_of store) (made_of o rules o.count store running.begun running.kept) cells running.joined running.many states are running.some

  module _ (made : HaveMade rules (trail_in store.logs)) where
    home_there : (name : List ℕ) → (c : CellView) × (slice_get cells (home rules.count (client name)) ≡ Some c)
    home_there name =
        let below = home_below rules.count 0 (client name) running.some in
        let long = running.many in
        something_there cells (home rules.count (client name)) (omega (arith, below, long))

    is_base : (name : List ℕ) (c : CellView) (base : Partition) → slice_get cells (home rules.count (client name)) ≡ Some c → IsBase rules.flows rules.count (rules.begin c.number) c base → made.states (home rules.count (client name)) ≡ base
    is_base name = base_is rules (view_of store) made cells running.joined running.many (home rules.count (client name))

    at_home : (name : List ℕ) (number : ℕ) → ((c : CellView) → slice_get cells (home rules.count (client name)) ≡ Some c → IsAwaitedAt rules c (client name) number) → IsAwaited (made.states (home rules.count (client name))) (client name) number
    at_home name number waits =
        let it = home_there name in
        let found = waits it.0 it.1 in
        subst (λ (base : Partition). IsAwaited base (client name) number) (sym (is_base name it.0 found.0 it.1 found.1)) found.2

  pub at_rest : (queues : List Queue) (names : List (List ℕ)) → names ≡ clients_of rules.requests → (states : List PartState) → AreStatesOfCells rules cells states → AreAtRest (length states) (parts_in states) → AreAwaitedAt rules cells queues names → IsAtRest rules (trail_in store.logs) queues
  at_rest queues names same states are rest awaited =
      let made = made_of o rules o.count store running.begun running.kept in
      record {
        made = made;
        rest = rests rules (view_of store) made cells running.joined running.many states are rest;
        awaited = let Q : List ℕ → Type 0 = λ name. (r : Request) → due_of name queues ≡ Some r → IsAwaited (made.states (home rules.count (client name))) (client name) r.number in
            subst (All Q) same (each_of (IsNextAwaitedAt rules cells queues) Q names (λ name waits r due. at_home made name r.number (λ c there. waits c there r due)) awaited);
      }

  -- and what is at rest is found so
  pub rest_found : (queues : List Queue) (states : List PartState) → AreStatesOfCells rules cells states → IsAtRest rules (trail_in store.logs) queues → AreAtRest (length states) (parts_in states)
  rest_found queues states are rest = rests_back rules (view_of store) rest.made cells running.joined running.many states are rest.rest

  pub awaited_found : (queues : List Queue) (names : List (List ℕ)) → names ≡ clients_of rules.requests → IsAtRest rules (trail_in store.logs) queues → AreAwaitedAt rules cells queues names
  awaited_found queues names same rest =
      let there = base_there rules (view_of store) rest.made cells running.joined running.many in
      let P : List ℕ → Type 0 = λ name. (r : Request) → due_of name queues ≡ Some r → IsAwaited (rest.made.states (home rules.count (client name))) (client name) r.number in
      subst (AreAwaitedAt rules cells queues) (sym same)
      (each_of P (IsNextAwaitedAt rules cells queues) (clients_of rules.requests) (λ name waits c at r due. let p = home rules.count (client name) in (rest.made.states p, there p c at, waits r due)) rest.awaited)

-- a look at a cell's state tells whether a request is awaited at the cell
pub awaited_by : (rules : Rules) (c : CellView) (base : Partition) (id : Id) (number : ℕ) (b : Bool) → IsBase rules.flows rules.count (rules.begin c.number) c base → (b ≡ true) ↔ IsAwaited base id number → (b ≡ true) ↔ IsAwaitedAt rules c id number
awaited_by rules c base id number b is same = (
  λ yes. (base, is, same.0 yes),
  λ found.
      let same_state : found.0 ≡ base = (let one : Ok found.0 ≡ Ok base = sym found.1 ∙ is in cc one) in
      same.1 (subst (λ (p : Partition). IsAwaited p id number) same_state found.2),
)

-- the cell that a look is taken at is that of the client's home
pub awaited_here : (rules : Rules) (cells : List CellView) (part : ℕ) (name copy : List ℕ) (cell : CellView) (base : Partition) (number : ℕ) (b : Bool) → length cells ≡ rules.count → part ≡ home (length cells) (client copy) → copy ≡ name → cell ≡ get_or cells part cell
    → IsBase rules.flows rules.count (rules.begin cell.number) cell base → (b ≡ true) ↔ IsAwaited base (client copy) number → (c : CellView) → slice_get cells (home rules.count (client name)) ≡ Some c → (b ≡ true) ↔ IsAwaitedAt rules c (client name) number
awaited_here rules cells part name copy cell base number b many is copied value of looks c there =
    let part_is : part ≡ home rules.count (client name) = is ∙ ap (λ (n : ℕ). home n (client copy)) many ∙ ap (λ (m : List ℕ). home rules.count (client m)) copied in
    let at : slice_get cells part ≡ Some c = subst (λ (n : ℕ). slice_get cells n ≡ Some c) (sym part_is) there in
    let here : slice_get cells part ≡ Some cell = there_at cells part cell (slice_get_within {A = CellView} cells part c at) value in
    let same_cell : cell ≡ c = (let one : Some cell ≡ Some c = sym here ∙ at in cc one) in
    awaited_by rules c base (client name) number b (subst (λ (x : CellView). IsBase rules.flows rules.count (rules.begin x.number) x base) same_cell of) (subst (λ (m : List ℕ). (b ≡ true) ↔ IsAwaited base (client m) number) copied looks)

-- a client's home is one of the cells
pub home_of_all : (rules : Rules) (cells : List CellView) (name : List ℕ) → 0 < rules.count → length cells ≡ rules.count → (c : CellView) × (slice_get cells (home rules.count (client name)) ≡ Some c)
home_of_all rules cells name some many =
    let below = home_below rules.count 0 (client name) some in
    something_there cells (home rules.count (client name)) (omega (arith, below, many))

-- ---- walks over a list

pub all_none : {X : Type 0} (P : X → Type 0) → All P []
all_none P = λ k d inside. absurd (omega (arith, inside))

pub all_next : {X : Type 0} (P : X → Type 0) (xs : List X) (i : ℕ) (x : X) → i < length xs → x ≡ get_or xs i x → All P (take i xs) → P x → All P (take (i + 1) xs)
all_next P xs i x lt at all one =
    let longer : take (i + 1) xs ≡ take i xs ++ x ∷ [] = rw (add-one, take-suc xs i x lt, ← at) refl in
    subst (All P) (sym longer) (All-push P (take i xs) x all one)

pub all_whole : {X : Type 0} (P : X → Type 0) (xs : List X) (i : ℕ) → length xs ≤ i → All P (take i xs) → All P xs
all_whole P xs i end all = subst (All P) (take_all i xs end) all

pub all_at : {X : Type 0} (P : X → Type 0) (xs : List X) (i : ℕ) (x : X) → i < length xs → x ≡ get_or xs i x → All P xs → P x
all_at P xs i x lt at all = subst P (sym at) (all i x lt)

-- ---- the states of cells, one after another

abbrev StateAt : Rules → List CellView → ℕ → PartState → Type 0
StateAt rules cells p s = (c : CellView) × (slice_get cells p ≡ Some c) × IsStateOfCell rules c s

pub no_states : (rules : Rules) (cells : List CellView) (states : List PartState) → states ≡ [] → (p : ℕ) (s : PartState) → slice_get states p ≡ Some s → (c : CellView) × (slice_get cells p ≡ Some c) × IsStateOfCell rules c s
no_states rules cells states none p s at = let wrong : None ≡ Some s = subst (λ (l : List PartState). slice_get l p ≡ Some s) none at in absurd (cc wrong)

pub one_more_state : (rules : Rules) (cells : List CellView) (states now : List PartState) (i : ℕ) (cell : CellView) (s : PartState) → length states ≡ i → i < length cells → cell ≡ get_or cells i cell → now ≡ states ++ s ∷ [] → IsStateOfCell rules cell s
    → ((p : ℕ) (one : PartState) → slice_get states p ≡ Some one → (c : CellView) × (slice_get cells p ≡ Some c) × IsStateOfCell rules c one)
    → (p : ℕ) (one : PartState) → slice_get now p ≡ Some one → (c : CellView) × (slice_get cells p ≡ Some c) × IsStateOfCell rules c one
one_more_state rules cells states now i cell s long lt value is of all p one at =
    let there : slice_get cells (length states) ≡ Some cell = subst (λ (n : ℕ). slice_get cells n ≡ Some cell) (sym long) (there_at cells i cell lt value) in
    pushed (StateAt rules cells) states s all (cell, there, of) p one (subst (λ (l : List PartState). slice_get l p ≡ Some one) is at)
