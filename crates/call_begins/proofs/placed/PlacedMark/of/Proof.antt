-- `of` makes a struct of no bytes, at entries of which what is said holds.
use Rattle.std.proofs.Common.{List, [], ◌∷◌, refl}
use Rattle.std.proofs.raw_atomic.Walks.{proved}
use base.Fml.{ftrue}
use mir.Syntax.{a_type, dcons, dnil}
use mir.MapTy.{inst_fn}
use mir.Val.{Val, vstruct, vcons, vnil}
use types.Kit.{‵, raw, ◌⊛◌, ◌$◌, ◌∵◌, !, qed, done, keep, move, split, join, suffices}
use types.Run.{no_more, and_then, returns, enter}
use types.Part.{agg}
use types.ByLocal.{alloc_all, pass_all, free_all, look_at, get, sets}
use contract.Monad.{fact}
use contract.BorrowLft.{◌⊑◌}
use denote.Param.{bounded}
use denote.Shadow.{pure_i}
use denote.Steps.{nothing, heard}
use denote.Triple.Walked.{says, ends_at}
use Rattle.many_logs.specs.Placing.{Commit}
use Rattle.call_begins.specs.declared.placed.PlacedMark.{PlacedMark}
use Rattle.call_begins.specs.contracts.placed.PlacedMark.{the_row as R}
use Rattle.call_begins.specs.contracts.placed.PlacedMark.of as f
use Rattle.call_begins.proofs.placed.PlacedMark.of.Statement.{statement}
use Rattle.call_begins.proofs.placed.PlacedMark.of.Code as code

-- as the machine has it: a struct with the marker, which has no field
abbrev stored : Val
stored = vstruct (vcons (vstruct vnil) vnil)

abbrev marked : List Commit → PlacedMark
marked run = record { marker = record {}; run = run }

pub of_spec : {M : Type 1} → statement M
of_spec 𝓤 𝓛 𝓜 𝓡 wired K L G d met =
    let args = bounded (a_type ∷ []) (K, tt) (dcons d dnil) in
    let En = f.ended K G d in
    let c = f.clauses K G d 𝓛 𝓜.mem 𝓡.returns in
    proved 𝓛 En tt c 𝓜 𝓡 tt (f.Key.name args) (inst_fn args code.function) (code.unfolded 𝓤 𝓛.H 𝓜 𝓡 wired (K, tt) d)
    (λ κs. tt) (λ κs. tt)
    (λ κs qs bounds a gh are.
    qed 𝓛 ((raw (denote.Triple.Entry.alive 𝓛 En.signature κs qs) ⊛ ‵ ftrue) ∷ (raw (fact 𝓤 (κs.0 ⊑ K.lives)) ⊛ raw (fact 𝓤 ((run : List Commit) × G.holds run))) ∷ []) ∵
    move ! (1 ∷ []) $ split ! $ heard ! _ (λ outlives. heard ! _ (λ made.
    let new = marked made.0 in
    split ! $ keep ! (0 ∷ []) $
    enter ! _ _ _ _ _ $
    alloc_all ! (λ l. pass_all ! refl tt $
    sets ! (agg ! (no_more !)) refl (tt, tt) $
    sets ! (agg ! (and_then ! (get ! refl) (no_more !))) refl (tt, (tt, tt)) $
    returns ! (look_at ! 0 refl) $ free_all ! refl $
    pure_i ! (R.own_val new (stored ∷ [])) ((λ vss. (tt, ((λ uss. (tt, tt)), tt))), tt) (((vstruct vnil ∷ [], tt), (refl, ((tt, (refl, tt)), tt))), tt) $
    suffices ! _ (ends_at 𝓛 En tt c ((κs, qs, bounds, a, tt), gh) stored new tt tt) $ says ! made.1 $
    nothing ! $ join ! $ move ! (1 ∷ 0 ∷ []) $ done !))))
