use Rattle.std.proofs.Common.{◌≡◌, ◌∙◌, ap, sym, ℕ, List, take, arith, refl, true, false}
use Rattle.std.specs.Vec.{vec_len}
use Rattle.std.proofs.lemmas.Bool.{eqb-true}
use Rattle.std.proofs.lemmas.List.{nil_from_length}
use Rattle.hub_store.proofs.Bodies.{some_left}
use Rattle.site_model.specs.History.{syncing}
use Rattle.hub_store.specs.Waiting.{waiting}
use Rattle.hub_store.proofs.SyncCounts.{count_of, count_take, none_wait, all_rest, some_apart}
use Rattle.hub_store.proofs.SyncedStands.{store_synced}
use Rattle.hub_store.proofs.store.Store.sync_all.Goals as goal

pub returns-in_default-clause-no_frame : goal.returns-in_default-clause-no_frame
returns-in_default-clause-no_frame g c = (
  λ is. absurd (cc is),
  λ none. absurd (c.in_default.ensures.some (ap waiting c.deref.ensures.value ∙ all_rest c.args.self.now.ways.items none)),
)

pub returns-then-is_empty-clause-no_frame : goal.returns-then-is_empty-clause-no_frame
returns-then-is_empty-clause-no_frame g c = (
  λ is. none_wait c.args.self.now.ways.items (sym (c.in-Ok.ensures.files ∙ ap waiting c.deref.ensures.value) ∙ nil_from_length c.in-Ok.files.items (let none = eqb-true (vec_len c.in-Ok.files) 0 (sym c.is_empty.ensures ∙ c.if-is_empty.true) in omega (arith, none, c.in-Ok.files.ok))),
  λ none. refl,
)

pub returns-in-Ok-sync_files-clause-sound : goal.returns-in-Ok-sync_files-clause-sound
returns-in-Ok-sync_files-clause-sound g c =
    let old = c.args.self.now in
    let files = c.in-Ok.files.items in
    let same : files ≡ waiting old.ways.items = c.in-Ok.ensures.files ∙ ap waiting c.deref.ensures.value in
    let steps : g.V.Site.history c.sync_files.new.self ≡ syncing files (g.V.Site.history old.site) = c.in-Ok-sync_files.ensures.done.ok ∙ ap (λ (l : List ℕ). syncing l (g.V.Site.history old.site)) c.deref-2.ensures.value in
    store_synced old _ true files c.requires.sound c.requires.going c.requires.follows c.lead_on.ensures refl refl refl refl refl refl c.sync_files.ensures.tells steps
    (λ f. let one = ap (count_of f) same in omega (arith, one)) (λ safely. same)

pub returns-in-Ok-sync_files-clause-no_frame : goal.returns-in-Ok-sync_files-clause-no_frame
returns-in-Ok-sync_files-clause-no_frame g c = (
  λ is. absurd (cc is),
  λ none. absurd (some_apart c.in-Ok.files.items (let some = some_left (vec_len c.in-Ok.files) (sym c.is_empty.ensures ∙ c.if-is_empty.false) in omega (arith, some, c.in-Ok.files.ok)) (c.in-Ok.ensures.files ∙ ap waiting c.deref.ensures.value ∙ all_rest c.args.self.now.ways.items none)),
)

pub returns-clause-sound : goal.returns-clause-sound
returns-clause-sound g c =
    let old = c.args.self.now in
    let files = c.in-Ok.files.items in
    let same : files ≡ waiting old.ways.items = c.in-Ok.ensures.files ∙ ap waiting c.deref.ensures.value in
    let n = c.sync_files.ensures.done.count in
    let steps : g.V.Site.history c.sync_files.new.self ≡ syncing (take n files) (g.V.Site.history old.site) =
    c.sync_files.ensures.done.steps ∙ ap (λ (l : List ℕ). syncing (take n l) (g.V.Site.history old.site)) c.deref-2.ensures.value in
    store_synced old _ false (take n files) c.requires.sound c.requires.going c.requires.follows c.lead_on-in-Err.ensures refl refl refl refl refl refl c.sync_files.ensures.tells steps
    (λ f. let one = ap (count_of f) same in let few = count_take f files n in omega (arith, one, few)) (λ safely. absurd (cc safely))

pub returns-clause-no_frame : goal.returns-clause-no_frame
returns-clause-no_frame g c = (
  λ is. absurd (cc is),
  λ none. absurd (some_apart c.in-Ok.files.items (let some = some_left (vec_len c.in-Ok.files) (sym c.is_empty.ensures ∙ c.if-is_empty.false) in omega (arith, some, c.in-Ok.files.ok)) (c.in-Ok.ensures.files ∙ ap waiting c.deref.ensures.value ∙ all_rest c.args.self.now.ways.items none)),
)
