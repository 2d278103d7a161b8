-- What is left of a stream, as it is seen.
use Rattle.std.proofs.Common.{◌≡◌, ◌∙◌, ℕ, List, length, map, Option, Some, None, option_map, ap, sym}
use Rattle.std.specs.List.{slice_get}
use Rattle.std.proofs.lemmas.List.{length-map}
use Rattle.std.proofs.lemmas.Option.{slice_get-map}
use Rattle.dura_value.specs.Views.{posted_of}
use Rattle.dura_value.specs.declared.identity.Posted.{Posted}

seen_through : {X Y Z : Type 0} (f : X → Y) (g : Y → Z) (x : Option X) (y : Option Y) → option_map f x ≡ y → option_map (λ v. g (f v)) x ≡ option_map g y
seen_through {X} {Y} f g None y is = ap (option_map g) is
seen_through {X} {Y} f g (Some x) y is = ap (option_map g) is

pub seen_at : {B : Type 0} (now : B → Posted) (found : Option B) (messages : List Posted) (place : ℕ) → option_map now found ≡ slice_get messages place
    → option_map (λ one. posted_of (now one)) found ≡ slice_get (map posted_of messages) place
seen_at now found messages place is = seen_through now posted_of found (slice_get messages place) is ∙ sym (slice_get-map posted_of messages place)

-- as many are seen as there are
pub same_count : (messages : List Posted) (n : ℕ) → n ≡ length messages → n ≡ length (map posted_of messages)
same_count messages n is = is ∙ sym (length-map messages posted_of)
