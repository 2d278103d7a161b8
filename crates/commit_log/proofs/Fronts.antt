-- What the front of a file or of a frame says of the whole.
use Rattle.std.proofs.Common.{◌≡◌, ℕ, ◌<◌, min, List, [], length, take, drop, Result, Err, ap, sym, ◌∙◌}
use Rattle.std.proofs.lemmas.List.{drop_more, take_min, length-drop}
use Rattle.site_model.specs.Calls.{Reads}
use Rattle.commit_log.specs.Segment.{constant_at}

-- a constant that the bytes end before
pub falls_short : (wanted : List ℕ) (i at : ℕ) (rest : List ℕ) (total : Result (List ℕ) ℕ) → i < length wanted → rest ≡ [] → constant_at (drop i wanted) at rest ≡ total → total ≡ Err at
falls_short wanted i at rest total within none so_far =
    sym so_far ∙ ap (constant_at (drop i wanted) at) none ∙ ap (λ (l : List ℕ). constant_at l at []) (drop_more wanted i 0 within)

-- what was read is the front of the bytes from there on, as many as there is room for
pub read_is : (content : List ℕ) (at count : ℕ) (old new : List ℕ) → Reads content at old new count → take count new ≡ take (length old) (drop at content)
read_is content at count old new read =
    let number : count ≡ min (length old) (length (drop at content)) = read.number ∙ ap (min (length old)) (sym (length-drop at content)) in
    read.front ∙ ap (λ (n : ℕ). take n (drop at content)) number ∙ take_min (length old) (drop at content)
