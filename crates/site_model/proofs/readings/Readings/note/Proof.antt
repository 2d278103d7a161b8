-- `note` has an empty body. Its borrow is opened, and closed at a list that is longer by the stamp.
use Rattle.std.proofs.Common.{ℕ, List, [], ◌∷◌, refl}
use Rattle.std.proofs.raw_atomic.Walks.{proved}
use base.Logic.{id⊢}
use base.Fml.{ftrue, flft}
use mir.Syntax.{named}
use mir.Val.{vunit}
use types.Kit.{‵, ◌⊛◌, ◌$◌, ◌∵◌, !, qed, done, move, keep, use1, split, join, fsplit3, feq_i, suffices, frame, group}
use types.Run.{unit_lit, of_opd, returns, enter}
use types.ByLocal.{alloc_all, pass_all, free_all, look_at, sets}
use denote.Builtin.{u64}
use denote.Exit.{yes}
use denote.Ref.{MutRef, mut_vals, mut_Tells}
use denote.Signature.{plain}
use denote.Slice.{ShrSlice, shr_slice_vals, shr_slice_Tells}
use denote.Steps.{opens, closes}
use denote.Triple.Walked.{Stays, says, stay_ref, stay_none_slice, Goes-ref, Goes-none_slice, ends_at}
use Rattle.site_model.specs.declared.readings.Readings.{Readings}
use Rattle.site_model.specs.Readings.{reading_of}
use Rattle.site_model.specs.contracts.readings.Readings.{the_row as R}
use Rattle.site_model.specs.contracts.readings.Readings.note as f
use Rattle.site_model.proofs.readings.Readings.note.Statement.{statement}
use Rattle.site_model.proofs.readings.Readings.note.Code as code

-- the list is a reference that is there at the end, and of the slice nothing is
abbrev stayed : Stays f.ended.signature.params f.ended.kept
stayed = (stay_ref (0 ∷ []) tt (plain (λ _. R)), (stay_none_slice (1 ∷ []) tt (plain (λ _. u64)) yes, tt))

abbrev noted : List ℕ → Readings → Readings
noted numbers r = record { marker = r.marker; stamps = reading_of numbers ∷ r.stamps }

pub note_spec : {M : Type 1} → statement M
note_spec 𝓤 𝓛 𝓜 𝓡 wired =
    let c = f.clauses 𝓛 𝓜.mem 𝓡.returns in
    proved 𝓛 f.ended stayed c 𝓜 𝓡
    (Goes-ref 𝓛 2 0 tt (plain (λ _. R)), (Goes-none_slice 𝓛 2 (1 ∷ []) tt (plain (λ _. u64)) yes, tt))
    f.Key.name code.function (code.unfolded 𝓤 𝓛.H 𝓜 𝓡 wired)
    (λ κs. (mut_vals, (shr_slice_vals, tt)))
    (λ κs. (mut_Tells (named 0) κs.0 R, (shr_slice_Tells (named 1) κs.1.0 u64, tt)))
    (λ κs qs bounds a _ are.
    let b = a.0.ref_ptr.0 in let o = a.0.ref_ptr.1 in let old = a.0.now in let new = noted a.1.0.now old in
    let rs = mut_vals a.0 in let ns = shr_slice_vals a.1.0 in
    qed 𝓛 (((‵ (flft κs.0 qs.0) ⊛ (‵ (flft κs.1.0 qs.1.0) ⊛ ‵ ftrue))
    ⊛ ‵ ((MutRef (named 0) κs.0 R).own_val a.0 rs)
    ⊛ ‵ ((ShrSlice (named 1) κs.1.0 u64).own_val a.1.0 ns) ⊛ ‵ ftrue) ∷ ‵ ftrue ∷ []) ∵
    split ! $ split ! $ move ! (2 ∷ []) $ split ! $ fsplit3 ! $
    -- [three parts of the reference; what the slice owns; the first token; the others]
    enter ! _ _ _ _ _ $
    alloc_all ! (λ l. pass_all ! refl ((tt, tt), ((tt, (tt, (record { fits = are.1.0.0.1.0 }, tt))), tt)) $
    move ! (1 ∷ 2 ∷ 4 ∷ []) $ opens ! tt R {h = old} b o (λ vs.
    sets ! (of_opd ! (unit_lit !)) refl (tt, tt) $
    move ! (1 ∷ []) $ use1 𝓛 (‵ (R.own_val new vs)) (id⊢ 𝓤 _) $ move ! (1 ∷ 0 ∷ []) $ closes ! tt R new vs b o $
    returns ! (look_at ! 0 refl) $ free_all ! refl $
    -- [three parts of the reference; the first token; the other tokens; what the slice owns]
    keep ! (3 ∷ 0 ∷ 1 ∷ 2 ∷ 5 ∷ 4 ∷ []) $
    suffices ! _ (ends_at 𝓛 f.ended stayed c ((κs, qs, bounds, a, (rs, (ns, tt))), tt) vunit tt (new, (tt, tt)) (tt, (tt, tt))) $ says ! refl $
    group ! 3 $ move ! (0 ∷ 3 ∷ []) $ join ! $ move ! (1 ∷ 2 ∷ []) $ join ! $ frame ! $ frame ! $
    feq_i ! _ (vunit ∷ []) _ refl $ done !)))
