-- What a call is begun with.
use Rattle.std.proofs.Common.{◌<◌, ◌≤◌, ℕ, Bool, List, refl}
use Rattle.std.proofs.lemmas.Option.{get_or_from_slice_get}
use Rattle.cell_frames.specs.Begun.{HasBegun}
use Rattle.flow_syntax.specs.Syntax.{Flows}
use Rattle.many_logs.specs.Placing.{Commit}
use Rattle.open_logs.proofs.Picked.{origin_goes}
use Rattle.open_logs.specs.Begun.{CanBegin, MadeBy}
use Rattle.open_logs.specs.Picks.{origin_of, files_of}
use Rattle.open_logs.specs.declared.begun.Begun.{Begun}
use Rattle.part_steps.specs.States.{parts_in}
use Rattle.request_reader.specs.Line.{Request}
use Rattle.site_model.specs.History.{Step}
use Rattle.call_begins.specs.Begins.{BeginsWith, call_rules}

-- the rules of a call begin with what it is begun with
pub begins_with : (flows : Flows) (count : ℕ) (begun : Begun) (run : List Commit) (since most : ℕ) (requests : List Request) (serves : Bool) → 0 < count → count ≤ 32 → CanBegin count begun → BeginsWith (call_rules flows count begun run since most requests serves) begun.states.items begun.incarnations.items
begins_with flows count begun run since most requests serves some few can = record {
  some = some;
  few = few;
  all = can.all;
  many = can.states;
  numbers = can.incarnations;
  begin = refl;
  from = λ p incarnation at. get_or_from_slice_get begun.incarnations.items p incarnation 0 at;
  young = can.young;
  younger = can.younger;
}

-- each log goes on where the state does
pub has_begun : (flows : Flows) (count digest : ℕ) (steps : List Step) (begun : Begun) (run : List Commit) (since most : ℕ) (requests : List Request) (serves : Bool) → MadeBy flows count begun run → HasBegun (origin_of count digest steps begun) (call_rules flows count begun run since most requests serves)
has_begun flows count digest steps begun run since most requests serves made = record {
  goes = λ p below.
      let there = origin_goes count digest (files_of begun.logs.items) steps (parts_in begun.states.items) p in
      record { position = there.at; incarnation = there.follows };
  below = made.below;
  made = made.made;
  numbered = made.numbered;
}
