-- A state is made again, entry by entry.
use Rattle.std.proofs.Common.{◌≡◌, ◌∙◌, ◌<◌, ◌≤◌, ◌+◌, ℕ, List, [], ◌∷◌, ◌++◌, length, Some, None, Result, Ok, Err, sym, ap, subst, arith, length-append}
use Rattle.site_model.specs.History.{Step, changes_of, IsKept}
use Rattle.commit_log.specs.declared.reader.FrameError.{FrameError}
use Rattle.commit_log.specs.declared.reader.FrameError.TheVariants as unread
use Rattle.commit_log.specs.declared.reader.OpenedLog.{OpenedLog}
use Rattle.dura_value.specs.Items.{Entry}
use Rattle.flow_syntax.specs.Syntax.{Flows}
use Rattle.dura_model.specs.Partition.{Partition, fresh}
use Rattle.dura_model.specs.Entries as alone
use Rattle.dura_model.specs.Entries.{entry_accepted}
use Rattle.log_items.specs.Plain.{entry_of}
use Rattle.part_items.specs.Numbered.{Next}
use Rattle.log_files.specs.Entries.{Reads, Gives, GivesNumbered, next_in}
use Rattle.log_files.specs.declared.reader.Ahead.{Ahead}
use Rattle.log_files.specs.declared.reader.Ahead.TheVariants as ahead
use Rattle.log_files.specs.declared.reader.EntryReader.{EntryReader}
use Rattle.part_steps.specs.declared.state.PartState.{PartState}
use Rattle.part_steps.specs.States.{IsSound, IsStateOf, count_of, state_of}
use Rattle.recover_core.specs.Restored.{IsFront, Restores, FitsAhead, RestoresOne, StopsRestoring}
use Rattle.recover_core.proofs.LogFronts.{fronts_same, ends_before, stands_among, one_more_placed}

-- A state of a partition, and its log where the state goes on.
pub record GoesWith (count partition : ℕ) (state : PartState) (reader : EntryReader) : Type 0 where
  pub state_is : IsStateOf count partition state
  pub position : (state_of state).position ≡ (next_in reader).position
  pub younger : (state_of state).incarnation ≤ (next_in reader).incarnation

pub begins_with : (count partition : ℕ) (state : PartState) (reader : EntryReader) (base : ℕ) → state_of state ≡ fresh partition → count_of state ≡ count → IsSound state
    → next_in reader ≡ record { position = base; incarnation = 0 } → base ≡ 0 → GoesWith count partition state reader
begins_with count partition state reader base is among sound next first = record {
  state_is = record { sound = sound; among = among; number = ap (λ (p : Partition). p.number) is };
  position = ap (λ (p : Partition). p.position) is ∙ sym first ∙ sym (ap (λ (n : Next). n.position) next);
  younger = let none : (state_of state).incarnation ≡ 0 = ap (λ (p : Partition). p.incarnation) is in omega (arith, none);
}

pub fits_ahead : (count partition : ℕ) (state : PartState) (reader : EntryReader) (next : Ahead) → GoesWith count partition state reader → GivesNumbered reader (Ok next) → FitsAhead (state_of state) next
fits_ahead count partition state reader (ahead.Entry entry behind) so_far numbered =
    (so_far.position ∙ sym numbered.is_next.0, let young = so_far.younger in let before = numbered.is_next.1 in omega (arith, young, before), numbered.is_next.2)
fits_ahead count partition state reader (ahead.End end) so_far numbered = tt

pub goes_on_with : (flows : Flows) (count partition : ℕ) (state : PartState) (reader : EntryReader) (next : Ahead) (new : PartState) (behind : EntryReader) → GoesWith count partition state reader
    → GivesNumbered reader (Ok next) → RestoresOne flows state next (new, behind) → GoesWith count partition new behind
goes_on_with flows count partition state reader (ahead.Entry entry after) new behind so_far numbered made = record {
  state_is = record { sound = made.1; among = made.2 ∙ so_far.state_is.among; number = made.5 ∙ so_far.state_is.number };
  position =
      made.3 ∙ ap (λ (n : ℕ). n + 1) (so_far.position ∙ sym numbered.is_next.0)
      ∙ sym (ap (λ (n : Next). n.position) (ap next_in made.6 ∙ numbered.behind));
  younger =
      let same : (next_in behind).incarnation ≡ entry.incarnation = ap (λ (n : Next). n.incarnation) (ap next_in made.6 ∙ numbered.behind) in
      let new_is = made.4 in
      omega (arith, same, new_is);
}
goes_on_with flows count partition state reader (ahead.End end) new behind so_far numbered made = absurd made

pub goes_up : (flows : Flows) (state : PartState) (next : Ahead) (new : PartState) (behind : EntryReader) → RestoresOne flows state next (new, behind) → (state_of new).position ≡ (state_of state).position + 1
goes_up flows state (ahead.Entry entry after) new behind made = made.3
goes_up flows state (ahead.End end) new behind made = absurd made

-- The entries that were read of a log made the state.
pub record IsMade (flows : Flows) (steps : List Step) (log : OpenedLog) (count partition : ℕ) (state : PartState) (reader : EntryReader) : Type 0 where
  pub entries : List Entry
  pub reads : Reads steps log entries reader
  pub chain : alone.placed flows count (fresh partition) entries ≡ Ok (state_of state)
  pub many : length entries ≡ (state_of state).position

pub none_made : (flows : Flows) (steps : List Step) (log : OpenedLog) (count partition : ℕ) (state : PartState) (reader : EntryReader) → state_of state ≡ fresh partition → Reads steps log [] reader
    → IsMade flows steps log count partition state reader
none_made flows steps log count partition state reader is reads = record {
  entries = [];
  reads = reads;
  chain = ap (λ (p : Partition). Ok p) (sym is);
  many = sym (ap (λ (p : Partition). p.position) is);
}

module _ (flows : Flows) (steps : List Step) (log : OpenedLog) (count partition : ℕ) (state : PartState) (reader : EntryReader) (so_far : IsMade flows steps log count partition state reader) (among : count_of state ≡ count) where
  pub one_made : (next : Ahead) (new : PartState) (behind : EntryReader) → Gives steps log so_far.entries (Ok next) → RestoresOne flows state next (new, behind) → IsMade flows steps log count partition new behind
  one_made (ahead.Entry entry after) new behind gives made =
      let taken : entry_accepted flows count (state_of state) (entry_of entry) ≡ Some (state_of new) = subst (λ (n : ℕ). entry_accepted flows n (state_of state) (entry_of entry) ≡ Some (state_of new)) among made.0 in
      record {
        entries = so_far.entries ++ entry_of entry ∷ [];
        reads = subst (Reads steps log (so_far.entries ++ entry_of entry ∷ [])) (sym made.6) gives;
        chain = one_more_placed flows count (fresh partition) (state_of state) (state_of new) so_far.entries (entry_of entry) so_far.chain taken;
        many =
            let more : length (so_far.entries ++ entry_of entry ∷ []) ≡ length so_far.entries + 1 = length-append so_far.entries (entry_of entry ∷ []) in
            let so_many = so_far.many in
            let up = made.3 in
            omega (arith, more, so_many, up);
      }
  one_made (ahead.End end) new behind gives made = absurd made

  module _ (position : ℕ) (done : List Entry) (wanted : Partition) (front : IsFront flows steps log count partition position done wanted) where
    short : (state_of state).position < position → length so_far.entries < length done
    short before = let so_many = so_far.many in let all = front.many in omega (arith, before, so_many, all)

    never_stops : (next : Ahead) (offset : ℕ) → (state_of state).position < position → Gives steps log so_far.entries (Ok next) → StopsRestoring flows (count_of state) (state_of state) next (unread.Damaged offset) → ⊥
    never_stops (ahead.Entry entry behind) offset before gives refused =
        let here : entry_accepted flows count (state_of state) (entry_of entry) ≡ None = subst (λ (n : ℕ). entry_accepted flows n (state_of state) (entry_of entry) ≡ None) among refused in
        stands_among flows count (fresh partition) (state_of state) wanted so_far.entries done (entry_of entry) _ front.left (gives.left ∙ sym front.front) (short before) so_far.chain front.chain here
    never_stops (ahead.End end) offset before gives refused = ends_before so_far.entries done end.gate front.left (sym gives.whole ∙ sym front.front) (short before)

    pub stops_as : (next : Ahead) (error : FrameError) → (state_of state).position < position → Gives steps log so_far.entries (Ok next) → StopsRestoring flows (count_of state) (state_of state) next error → Restores steps log wanted (Err error)
    stops_as next (unread.Damaged offset) before gives stops = absurd (never_stops next offset before gives stops)
    stops_as next unread.SiteFault before gives stops = tt
    stops_as next unread.Memory before gives stops = tt

    pub all_made : (state_of state).position ≡ position → state_of state ≡ wanted
    all_made at =
        let so_many = so_far.many in
        let all = front.many in
        let same : so_far.entries ≡ done = fronts_same so_far.entries done _ front.left (so_far.reads.left ∙ sym front.front) (omega (arith, at, so_many, all)) in
        let both : ◌≡◌ {A = Result Partition ℕ} (Ok (state_of state)) (Ok wanted) = sym so_far.chain ∙ ap (alone.placed flows count (fresh partition)) same ∙ front.chain in
        cc both

  pub unread_as : (error : FrameError) (wanted : Partition) → Gives steps log so_far.entries (Err error) → Restores steps log wanted (Err error)
  unread_as (unread.Damaged offset) wanted gives = gives
  unread_as unread.SiteFault wanted gives = tt
  unread_as unread.Memory wanted gives = tt

-- what is read at one history is read at the same
pub gives_over : (old steps : List Step) (log : OpenedLog) (done : List Entry) (reader : EntryReader) (result : Result Ahead FrameError) → old ≡ steps → IsKept (changes_of log.file steps) → Reads steps log done reader
    → ((some : OpenedLog) (front : List Entry) → IsKept (changes_of some.file old) → Reads old some front reader → Gives old some front result) → Gives steps log done result
gives_over old steps log done reader result same kept has gives =
    let Says : List Step → Type 0 = λ s. IsKept (changes_of log.file s) → Reads s log done reader → Gives s log done result in
    subst Says same (gives log done) kept has
