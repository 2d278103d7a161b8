-- The lines of one kind are said one after another, and those of both make the table.
use Rattle.std.proofs.Common.{◌≡◌, ◌∙◌, inl, inr, ℕ, Bool, List, [], ◌∷◌, ◌++◌, Option, Some, None, Result, Ok, Err, IfErr, refl, sym, ap, subst, append_assoc}
use Rattle.std.specs.Prelude.{OnOk}
use Rattle.std.proofs.lemmas.List.{append-nil}
use Rattle.dura_model.specs.World.{World}
use Rattle.dura_value.specs.Ids.{Id}
use Rattle.dura_value.specs.Messages.{Answer}
use Rattle.flow_syntax.specs.Syntax.{Flows}
use Rattle.shared_maps.specs.IdOrder.{IsNextBehind, NoneBehind}
use Rattle.state_lines.specs.declared.error.ShowError.{ShowError}
use Rattle.state_lines.specs.declared.error.ShowError.TheVariants.{Memory}
use Rattle.state_lines.specs.Table.{table_line, table_lines, last_of, AreNext, has_entity, has_instance, entity_answer, instance_answer}
use Rattle.state_lines.specs.Fronts.{SaysTable, StopsInTable}
use Rattle.state_lines.specs.Steps.{SaysPart, SaysAll, StopsAt}
use Rattle.state_lines.proofs.Next.{last_of-one_more, table_lines-one_more, one_more}

-- The lines of all ids up to the last one were said.
pub record HasSaid (there : Id → Bool) (standing : Id → Option Answer) (last : Option Id) (old new : List ℕ) : Type 0 where
  pub ids : List Id
  pub next : AreNext there None ids
  pub at : last ≡ last_of None ids
  pub said : new ≡ old ++ table_lines standing ids

module _ (there : Id → Bool) (standing : Id → Option Answer) where
  pub begun : (old : List ℕ) → HasSaid there standing None old old
  begun old = record { ids = []; next = tt; at = refl; said = sym (append-nil old) }

  pub one_said : (last : Option Id) (id : Id) (old mid new : List ℕ) → HasSaid there standing last old mid → IsNextBehind there last id → new ≡ mid ++ table_line id (standing id) → HasSaid there standing (Some id) old new
  one_said last id old mid new before next now = record {
    ids = before.ids ++ id ∷ [];
    next = one_more there None before.ids id before.next (subst (λ (l : Option Id). IsNextBehind there l id) before.at next);
    at = sym (last_of-one_more None before.ids id);
    said = now ∙ ap (λ (l : List ℕ). l ++ table_line id (standing id)) before.said ∙ append_assoc old (table_lines standing before.ids) (table_line id (standing id))
        ∙ ap (λ (l : List ℕ). old ++ l) (sym (table_lines-one_more standing before.ids id));
  }

  pub all_said : (last : Option Id) (old new : List ℕ) → HasSaid there standing last old new → NoneBehind there last → SaysAll there standing old new
  all_said last old new before end = record {
    ids = before.ids;
    all = record { next = before.next; end = subst (NoneBehind there) before.at end };
    said = before.said;
  }

  -- nothing was said, since memory ran out
  pub none_said : (old : List ℕ) → StopsAt there standing Memory old old
  none_said old = record {
    lines = [];
    part = [];
    first = record { ids = []; next = tt; whole = refl; going = inl refl };
    said = sym (append-nil (old ++ []) ∙ append-nil old);
    whole = λ is. refl;
  }

  pub stopped : (last : Option Id) (id : Id) (error : ShowError) (old mid new : List ℕ) → HasSaid there standing last old mid → IsNextBehind there last id → SaysPart (table_line id (standing id)) error mid new → StopsAt there standing error old new
  stopped last id error old mid new before next now = record {
    lines = table_lines standing before.ids;
    part = now.part;
    first = record {
      ids = before.ids;
      next = before.next;
      whole = refl;
      going = inr (record { id = id; next = subst (λ (l : Option Id). IsNextBehind there l id) before.at next; rest = now.rest; front = now.front });
    };
    said = now.said ∙ ap (λ (l : List ℕ). l ++ now.part) before.said;
    whole = now.whole;
  }

-- ---- the table

pub table_said : (flows : Flows) (world : World) (old mid new : List ℕ) → SaysAll (has_entity world) (entity_answer flows world) old mid → SaysAll (has_instance world) (instance_answer world) mid new → SaysTable flows world old new
table_said flows world old mid new entities instances =
    let first : List ℕ = table_lines (entity_answer flows world) entities.ids in
    let second : List ℕ = table_lines (instance_answer world) instances.ids in
    record {
      table = first ++ second;
      is = record { entities = entities.ids; instances = instances.ids; all_entities = entities.all; all_instances = instances.all; lines = refl };
      said = instances.said ∙ ap (λ (l : List ℕ). l ++ second) entities.said ∙ append_assoc old first second;
    }

pub stops_in_entities : (flows : Flows) (world : World) (error : ShowError) (old new : List ℕ) → StopsAt (has_entity world) (entity_answer flows world) error old new → StopsInTable flows world error old new
stops_in_entities flows world error old new stops = record { lines = stops.lines; part = stops.part; front = inl stops.first; said = stops.said; whole = stops.whole }

pub stops_in_instances : (flows : Flows) (world : World) (error : ShowError) (old mid new : List ℕ) → SaysAll (has_entity world) (entity_answer flows world) old mid → StopsAt (has_instance world) (instance_answer world) error mid new → StopsInTable flows world error old new
stops_in_instances flows world error old mid new entities stops =
    let first : List ℕ = table_lines (entity_answer flows world) entities.ids in
    record {
      lines = first ++ stops.lines;
      part = stops.part;
      front = inr (record { entities = entities.ids; all_entities = entities.all; more = stops.lines; first = stops.first; whole = refl });
      said = stops.said ∙ ap (λ (l : List ℕ). (l ++ stops.lines) ++ stops.part) entities.said ∙ ap (λ (l : List ℕ). l ++ stops.part) (append_assoc old first stops.lines);
      whole = stops.whole;
    }

-- ---- what came of a call

pub on_ok : {T E : Type 0} {P Q : Type 0} (result : Result T E) → (P → Q) → OnOk result P → OnOk result Q
on_ok (Ok value) goes is = goes is
on_ok (Err error) goes is = tt

pub on_err : {T E : Type 0} {P Q : E → Type 0} (result : Result T E) → ((error : E) → P error → Q error) → IfErr result P → IfErr result Q
on_err (Ok value) goes is = tt
on_err (Err error) goes is = goes error is
