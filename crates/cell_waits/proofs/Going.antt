-- Whether a packet goes, and which streams are cut behind it.
use Rattle.std.proofs.Common.{◌≡◌, ◌∙◌, ◌||◌, ◌++◌, ℕ, Bool, List, [], ◌∷◌, Option, Some, cond, ap, sym}
use Rattle.dura_value.specs.Items.{Identity}
use Rattle.cell_waits.specs.CutStreams.{is_among, goes, cut_behind}

pub goes_at : (lost : Identity → Bool) (cut : List ℕ) (sender : Option Identity) (entry : Identity) (among gone : Bool) → Some entry ≡ sender → is_among cut entry.partition ≡ among → lost entry ≡ gone
    → (among || gone) ≡ goes lost cut sender
goes_at lost cut sender entry among gone is first second =
    sym (ap (λ (b : Bool). b || lost entry) first ∙ ap (λ (b : Bool). among || b) second) ∙ ap (goes lost cut) is

pub cut_at : (lost : Identity → Bool) (cut : List ℕ) (sender : Option Identity) (entry : Identity) (among gone : Bool) → Some entry ≡ sender → is_among cut entry.partition ≡ among → lost entry ≡ gone
    → cond among cut (cond gone (cut ++ entry.partition ∷ []) cut) ≡ cut_behind lost cut sender
cut_at lost cut sender entry among gone is first second =
    sym (ap (λ (b : Bool). cond b cut (cond (lost entry) (cut ++ entry.partition ∷ []) cut)) first ∙ ap (λ (b : Bool). cond among cut (cond b (cut ++ entry.partition ∷ []) cut)) second)
    ∙ ap (cut_behind lost cut) is
