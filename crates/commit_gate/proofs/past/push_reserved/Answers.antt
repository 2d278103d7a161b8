use Rattle.std.proofs.Common.{◌≡◌, ◌+◌, ◌-◌, ◌∷◌, [], ◌++◌, List, ℕ, subst, sym, ap, ◌∙◌, arith, get_or, suc, length}
use Rattle.std.proofs.lemmas.List.{get_or_default}
use Rattle.commit_gate.specs.declared.past.Stretch.{Stretch}
use Rattle.commit_gate.specs.Past.{spread, Rise}
use Rattle.commit_gate.proofs.Stretches.{last_ends, grown, grown_rise, added, added_rise}
use Rattle.commit_gate.proofs.past.push_reserved.Goals as goal

pub returns-then-index-incarnation-clause-rise : goal.returns-then-index-incarnation-clause-rise
returns-then-index-incarnation-clause-rise c =
    let none : Stretch = record { incarnation = 0; end = 0 } in
    let list = c.args.stretches.now.items in
    let k = c.len-count.result - 1 in
    let s : Stretch = record { incarnation = c.index_mut.result.now.incarnation; end = c.length_of-end.result + 1 } in
    let last : suc k ≡ length list = omega arith in
    let long : c.length_of-end.result ≡ length (spread list) = c.length_of-end.ensures ∙ ap (λ (l : List Stretch). length (spread l)) c.deref.ensures.value in
    let ends : (get_or list k none).end ≡ length (spread list) = last_ends list k none c.requires.rise last in
    grown_rise list k s none c.requires.rise last (omega (arith, ends, long))

pub returns-then-index-incarnation-clause-entries : goal.returns-then-index-incarnation-clause-entries
returns-then-index-incarnation-clause-entries c =
    let list = c.args.stretches.now.items in
    let k = c.len-count.result - 1 in
    let last_one = c.index_mut.result.now in
    let s : Stretch = record { incarnation = last_one.incarnation; end = c.length_of-end.result + 1 } in
    let last : suc k ≡ length list = omega arith in
    let here : last_one ≡ get_or list k last_one = c.index_mut.ensures.value in
    let seen = c.index.result.now in
    let same : last_one.incarnation ≡ c.args.incarnation = ap (λ (t : Stretch). t.incarnation) (here ∙ get_or_default list k last_one seen (omega arith) ∙ sym c.index.ensures) ∙ c.if-index-incarnation.true in
    let long : c.length_of-end.result ≡ length (spread list) = c.length_of-end.ensures ∙ ap (λ (l : List Stretch). length (spread l)) c.deref.ensures.value in
    let ends : (get_or list k last_one).end ≡ length (spread list) = last_ends list k last_one c.requires.rise last in
    grown list k s last_one c.requires.rise last (ap (λ (t : Stretch). t.incarnation) here) (omega (arith, ends, long)) ∙ ap (λ (n : ℕ). spread list ++ n ∷ []) same

pub returns-clause-rise : goal.returns-clause-rise
returns-clause-rise c =
    let list = c.args.stretches.now.items in
    let s : Stretch = record { incarnation = c.args.incarnation; end = c.length_of-end.result + 1 } in
    let long : s.end ≡ length (spread list) + 1 = ap (λ (n : ℕ). n + 1) (c.length_of-end.ensures ∙ ap (λ (l : List Stretch). length (spread l)) c.deref.ensures.value) in
    subst Rise (sym c.push_reserved.ensures.items) (added_rise list s c.requires.rise long)

pub returns-clause-entries : goal.returns-clause-entries
returns-clause-entries c =
    let list = c.args.stretches.now.items in
    let s : Stretch = record { incarnation = c.args.incarnation; end = c.length_of-end.result + 1 } in
    let long : s.end ≡ length (spread list) + 1 = ap (λ (n : ℕ). n + 1) (c.length_of-end.ensures ∙ ap (λ (l : List Stretch). length (spread l)) c.deref.ensures.value) in
    ap spread c.push_reserved.ensures.items ∙ added list s c.requires.rise long
