-- A map that changes at one place changes there as it is seen.
use Rattle.std.proofs.Common.{◌≡◌, ◌∙◌, ◌==◌, ◌&&◌, ℕ, Bool, true, false, Option, None, option_map, refl, ap, cond}
use Rattle.dura_value.specs.Ids.{Id, id_eq}
use Rattle.dura_value.specs.declared.messages.Message.{Message}
use Rattle.dura_value.specs.declared.messages.Answer.{Answer}
use Rattle.dura_value.specs.Views.{message_of, answer_of}
use Rattle.flow_messages.specs.declared.entities.Entity.{Entity}
use Rattle.flow_messages.specs.Views.{entity_of}
use Rattle.dura_value.specs.ById.{at_id, at_number, cleared}
use Rattle.part_rows.specs.declared.rows.Row.{Row}
use Rattle.part_rows.specs.declared.rows.Activity.{Activity}
use Rattle.part_rows.specs.Views.{row_of, activity_of}

seen_by : {X Y : Type 0} (view : X → Y) (b : Bool) (x y : Option X) → option_map view (cond b x y) ≡ cond b (option_map view x) (option_map view y)
seen_by view true x y = refl
seen_by view false x y = refl

by_number : {X Y : Type 0} (view : X → Y) (f g : Id → ℕ → Option X) (id : Id) (n : ℕ) (x : Option X) → g ≡ at_number f id n x
    → (λ (i : Id) (k : ℕ). option_map view (g i k)) ≡ at_number (λ (i : Id) (k : ℕ). option_map view (f i k)) id n (option_map view x)
by_number {X} view f g id n x is =
    ap (λ (h : Id → ℕ → Option X). λ (i : Id) (k : ℕ). option_map view (h i k)) is ∙ (λ t i k. seen_by view (id_eq id i && n == k) x (f i k) t)

by_id : {X Y : Type 0} (view : X → Y) (f g : Id → Option X) (id : Id) (x : Option X) → g ≡ at_id f id x
    → (λ (i : Id). option_map view (g i)) ≡ at_id (λ (i : Id). option_map view (f i)) id (option_map view x)
by_id {X} view f g id x is = ap (λ (h : Id → Option X). λ (i : Id). option_map view (h i)) is ∙ (λ t i. seen_by view (id_eq id i) x (f i) t)

none_by : {X Y : Type 0} (view : X → Y) (b : Bool) (y : Option X) → option_map view (cond b None y) ≡ cond b None (option_map view y)
none_by view true y = refl
none_by view false y = refl

by_clearing : {X Y : Type 0} (view : X → Y) (f g : Id → ℕ → Option X) (id : Id) → g ≡ cleared f id
    → (λ (i : Id) (k : ℕ). option_map view (g i k)) ≡ cleared (λ (i : Id) (k : ℕ). option_map view (f i k)) id
by_clearing {X} view f g id is =
    ap (λ (h : Id → ℕ → Option X). λ (i : Id) (k : ℕ). option_map view (h i k)) is ∙ (λ t i k. none_by view (id_eq id i) (f i k) t)

pub activities_put : (f g : Id → ℕ → Option Activity) (id : Id) (n : ℕ) (x : Option Activity) → g ≡ at_number f id n x
    → (λ (i : Id) (k : ℕ). option_map activity_of (g i k)) ≡ at_number (λ (i : Id) (k : ℕ). option_map activity_of (f i k)) id n (option_map activity_of x)
activities_put = by_number activity_of

pub activities_cleared : (f g : Id → ℕ → Option Activity) (id : Id) → g ≡ cleared f id
    → (λ (i : Id) (k : ℕ). option_map activity_of (g i k)) ≡ cleared (λ (i : Id) (k : ℕ). option_map activity_of (f i k)) id
activities_cleared = by_clearing activity_of

pub taken_put : (f g : Id → ℕ → Option Message) (id : Id) (n : ℕ) (x : Option Message) → g ≡ at_number f id n x
    → (λ (i : Id) (k : ℕ). option_map message_of (g i k)) ≡ at_number (λ (i : Id) (k : ℕ). option_map message_of (f i k)) id n (option_map message_of x)
taken_put = by_number message_of

pub answers_put : (f g : Id → ℕ → Option Answer) (id : Id) (n : ℕ) (x : Option Answer) → g ≡ at_number f id n x
    → (λ (i : Id) (k : ℕ). option_map answer_of (g i k)) ≡ at_number (λ (i : Id) (k : ℕ). option_map answer_of (f i k)) id n (option_map answer_of x)
answers_put = by_number answer_of

pub instances_put : (f g : Id → Option Row) (id : Id) (x : Option Row) → g ≡ at_id f id x
    → (λ (i : Id). option_map row_of (g i)) ≡ at_id (λ (i : Id). option_map row_of (f i)) id (option_map row_of x)
instances_put = by_id row_of

pub entities_put : (f g : Id → Option Entity) (id : Id) (x : Option Entity) → g ≡ at_id f id x
    → (λ (i : Id). option_map entity_of (g i)) ≡ at_id (λ (i : Id). option_map entity_of (f i)) id (option_map entity_of x)
entities_put = by_id entity_of

twice_by : {X : Type 0} (b : Bool) (x y w : X) → cond b x (cond b y w) ≡ cond b x w
twice_by true x y w = refl
twice_by false x y w = refl

-- what was set twice at one place was set once
pub set_again : {X : Type 0} (f : Id → X) (id : Id) (x y : X) → at_id (at_id f id y) id x ≡ at_id f id x
set_again f id x y = λ t i. twice_by (id_eq id i) x y (f i) t
