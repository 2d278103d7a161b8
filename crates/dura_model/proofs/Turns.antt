-- Where requests are taken in turn, one is due where it is by the one right before it.
use Rattle.std.proofs.Common.{◌≡◌, ◌&&◌, ◌||◌, Bool, true, false, cond, List, [], ◌∷◌, ◌++◌, refl, sym, ◌∙◌, ap, subst}
use Rattle.std.specs.Prelude.{not}
use Rattle.std.proofs.lemmas.List.{append-nil, append_assoc}
use Rattle.dura_model.specs.Legal.{is_taken, is_answered, may_ask, may_go_on, TakenInTurn}
use Rattle.dura_model.specs.World.{World}
use Rattle.dura_value.specs.Ids.{Id, id_eq}
use Rattle.dura_value.specs.Messages.{Message}
use Rattle.dura_value.proofs.Ids.{id_same}
use Rattle.std.proofs.Math.Bool.{and-true}

-- whether a request lets a client ask for one behind it
abbrev passes : World → Id → Message → Bool
passes w who request = not (id_eq request.from who) || is_taken w request && is_answered w request

and_assoc : (a b c : Bool) → (a && (b && c)) ≡ ((a && b) && c)
and_assoc true b c = refl
and_assoc false b c = refl

one_more : (w : World) (who : Id) (front : List Message) (request : Message) → may_ask w who (front ++ request ∷ []) ≡ (may_ask w who front && passes w who request)
one_more w who [] request = and-true (passes w who request)
one_more w who (first ∷ front) request = ap (λ (b : Bool). passes w who first && b) (one_more w who front request) ∙ and_assoc (passes w who first) (may_ask w who front) (passes w who request)

module _ (w : World) (who : Id) (last : Message) (behind : List Message) where
  goes_on : (front rest : List Message) (taken answered : Bool) → TakenInTurn w (front ++ (rest ++ last ∷ behind)) → (taken && answered) ≡ may_ask w who front → may_go_on w who taken answered rest ≡ may_ask w who (front ++ rest)
  goes_on front [] taken answered turns so_far = so_far ∙ ap (may_ask w who) (sym (append-nil front))
  goes_on front (request ∷ rest) taken answered turns so_far = by (id_eq request.from who) refl (is_taken w request) refl (λ t a. goes_on (front ++ request ∷ []) rest t a further) ∙ ap (may_ask w who) longer
    where
      longer : (front ++ request ∷ []) ++ rest ≡ front ++ request ∷ rest
      longer = append_assoc front (request ∷ []) rest

      further : TakenInTurn w ((front ++ request ∷ []) ++ (rest ++ last ∷ behind))
      further = subst (TakenInTurn w) (sym (append_assoc front (request ∷ []) (rest ++ last ∷ behind))) turns

      by : (own : Bool) → id_eq request.from who ≡ own → (was : Bool) → is_taken w request ≡ was
          → ((t a : Bool) → (t && a) ≡ may_ask w who (front ++ request ∷ []) → may_go_on w who t a rest ≡ may_ask w who ((front ++ request ∷ []) ++ rest))
          → cond own (may_go_on w who (taken && is_taken w request) (is_answered w request) rest) (may_go_on w who taken answered rest) ≡ may_ask w who ((front ++ request ∷ []) ++ rest)
      by false other was is on = on taken answered
          (so_far ∙ sym (one_more w who front request ∙ ap (λ (b : Bool). may_ask w who front && (not b || is_taken w request && is_answered w request)) other ∙ and-true (may_ask w who front)))
      by true own false is on = on (taken && is_taken w request) (is_answered w request)
          (ap (λ (b : Bool). (taken && b) && is_answered w request) is ∙ none taken (is_answered w request)
          ∙ sym (one_more w who front request ∙ ap (λ (b : Bool). may_ask w who front && (not b || is_taken w request && is_answered w request)) own ∙ ap (λ (b : Bool). may_ask w who front && (b && is_answered w request)) is ∙ never (may_ask w who front)))
        where
          none : (a b : Bool) → ((a && false) && b) ≡ false
          none true b = refl
          none false b = refl

          never : (a : Bool) → (a && false) ≡ false
          never true = refl
          never false = refl
      by true own true is on = on (taken && is_taken w request) (is_answered w request)
          (ap (λ (b : Bool). (taken && b) && is_answered w request) is ∙ ap (λ (b : Bool). (b && true) && is_answered w request) all_taken
          ∙ sym (one_more w who front request ∙ ap (λ (b : Bool). may_ask w who front && (not b || is_taken w request && is_answered w request)) own
          ∙ ap (λ (b : Bool). may_ask w who front && (b && is_answered w request)) is ∙ ap (λ (b : Bool). b && is_answered w request) all_answered))
        where
          all_answered : may_ask w who front ≡ true
          all_answered = subst (λ (i : Id). may_ask w i front ≡ true) (id_same request.from who own) (turns front request (rest ++ last ∷ behind) refl is)

          first_of : (a b : Bool) → (a && b) ≡ true → a ≡ true
          first_of true b both = refl
          first_of false b both = absurd (cc both)

          all_taken : taken ≡ true
          all_taken = first_of taken answered (so_far ∙ all_answered)

pub last_tells : (w : World) (before : List Message) (request : Message) (behind : List Message) → TakenInTurn w (before ++ request ∷ behind) → may_go_on w request.from true true before ≡ may_ask w request.from before
last_tells w before request behind turns = goes_on w request.from request behind [] before true true turns refl
