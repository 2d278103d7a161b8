-- What one life comes to, begun on what a crash left before it.
use Rattle.std.proofs.Common.{◌≡◌, ◌≤◌, inl, inr, ℕ, List, [], ◌++◌, length, refl, sym, ◌∙◌, ap, subst, arith, append_assoc, append-nil}
use Rattle.std.proofs.lemmas.Bool.{cases_lt}
use Rattle.dura_value.specs.Dependencies.{Founded}
use Rattle.flow_syntax.specs.Syntax.{Flows}
use Rattle.hub_store.specs.Trail.{Settled, settled_at}
use Rattle.join_laws.proofs.Answers.{all_in, part_in}
use Rattle.join_laws.proofs.Founding.{founded_behind}
use Rattle.join_laws.proofs.Histories.{some_image, earlier_moment}
use Rattle.join_laws.specs.Joined.{Life, by_then, settled_then, rules_from, WentOn, IsOneLife, BeginsOn, IsSettledIn, IsSaidBy, IsPartIn, AllAnsweredIn, Speaks}
use Rattle.many_logs.specs.Names.{identities_in, committed_in}
use Rattle.many_logs.specs.Placing.{Commit, frames_in_order}
use Rattle.many_logs.specs.Stands.{AreKept}
use Rattle.many_rules.specs.Leaves.{StandsOn}
use Rattle.many_rules.specs.Rules.{commits_of}
use Rattle.open_logs.specs.Moments.{IsOpening}
use Rattle.site_model.proofs.Paths.{each_moment, last}
use Rattle.site_model.specs.History.{Step, content_of, IsImage}

-- four lists one behind another, however they are put together
regroup : (a b c d : List Commit) → (a ++ b) ++ (c ++ d) ≡ (a ++ (b ++ c)) ++ d
regroup a b c d = sym (append_assoc (a ++ b) c d) ∙ ap (λ (l : List Commit). l ++ d) (append_assoc a b c)

all_behind : (a b c d : List Commit) → (a ++ (b ++ c)) ++ d ≡ a ++ (b ++ (c ++ d))
all_behind a b c d = append_assoc a (b ++ c) d ∙ ap (λ (l : List Commit). a ++ l) (append_assoc b c d)

-- The files keep what was there at the start, what came behind it, and perhaps more. All that came is founded on what was before it.
pub record KeepsBehind (flows : Flows) (count digest : ℕ) (start behind : List Commit) (files : ℕ → List ℕ) : Type 0 where
  pub more : List Commit
  pub kept : AreKept flows count digest files (start ++ (behind ++ more))
  pub founded : Founded (identities_in start) (committed_in (behind ++ more))

-- whatever a crash leaves of this history does so
abbrev pub AllBehind : Flows → (count digest : ℕ) → (start behind : List Commit) → List Step → Type 0
AllBehind flows count digest start behind steps = (image : ℕ → List ℕ) → IsImage steps image → KeepsBehind flows count digest start behind image

-- With one life more comes behind: whatever a crash leaves of it keeps that, in which is what it settled, and by which it spoke.
pub record ComesToMore (flows : Flows) (count digest : ℕ) (start behind : List Commit) (life : Life) : Type 0 where
  pub after : List Commit
  pub more : List Commit
  pub goes : after ≡ behind ++ more
  pub keep : AllBehind flows count digest start after (by_then life)
  pub settled : IsSettledIn (start ++ after) life
  pub said : IsSaidBy flows (start ++ after) life

module _ (flows : Flows) (count digest : ℕ) (start behind : List Commit) (before : List Step) (keep : AllBehind flows count digest start behind before) (life : Life) (is : IsOneLife flows count digest life) (begins_on : BeginsOn before life.old) where
  -- what the files kept when it began
  first_kept : KeepsBehind flows count digest start behind (λ file. content_of file life.old)
  first_kept = keep (λ file. content_of file life.old) begins_on.reads

  abbrev own : List Commit
  own = start ++ (behind ++ first_kept.more)

  -- as long as logs are opened
  unopened : IsOpening flows count digest own life.old (by_then life) → settled_at life.moment life.trail ≡ [] → ComesToMore flows count digest start behind life
  unopened opening nothing = record {
    after = behind;
    more = [];
    goes = sym (append-nil behind);
    keep = λ image left. elim (opening.images image left) [
      | inl old ↦ keep image (begins_on.leaves image old)
      | inr kept ↦ record { more = first_kept.more; kept = kept; founded = first_kept.founded }
    ];
    settled = record {
      front = start ++ behind;
      rest = [];
      split = sym (append-nil ((start ++ behind) ++ settled_then life) ∙ ap (λ (t : List Settled). (start ++ behind) ++ commits_of t) nothing ∙ append-nil (start ++ behind));
    };
    said = inl opening.silent;
  }

  -- what came with it by then
  abbrev all_after : List Commit
  all_after = behind ++ (first_kept.more ++ settled_then life)

  -- what the files kept and what was settled since are one run
  run_is : own ++ settled_then life ≡ start ++ all_after
  run_is = all_behind start behind first_kept.more (settled_then life)

  -- from then on
  module _ (lived : WentOn flows count digest life.old life.new life.trail) (high : length lived.origin.steps ≤ life.moment) where
    -- what the files stand for that a crash leaves
    stands : (image : ℕ → List ℕ) → IsImage (by_then life) image → (latest : ℕ) × StandsOn (rules_from flows count own lived.begin lived.incarnations lived.since lived.most lived.requests lived.serves) latest digest lived.origin (by_then life) (settled_at life.moment life.trail) image
    stands image left = lived.crash own first_kept.kept life.moment high is.within image left

    -- they keep what was settled by then
    keeps : AllBehind flows count digest start all_after (by_then life)
    keeps image left =
        let on = (stands image left).1 in
        let frames = frames_in_order count on.going in
        let grouped : (behind ++ first_kept.more) ++ (settled_then life ++ frames) ≡ all_after ++ frames = regroup behind first_kept.more (settled_then life) frames in record {
          more = frames;
          kept = subst (AreKept flows count digest image) (append_assoc start (behind ++ first_kept.more) (settled_then life ++ frames) ∙ ap (λ (l : List Commit). start ++ l) grouped) on.kept;
          founded = subst (λ (l : List Commit). Founded (identities_in start) (committed_in l)) grouped (founded_behind start (behind ++ first_kept.more) (settled_then life ++ frames) first_kept.founded on.founded);
        }

    -- what was said answers by that run
    speaks : Speaks flows (start ++ all_after) life
    speaks =
        let some = some_image (by_then life) in
        let rules = rules_from flows count own lived.begin lived.incarnations lived.since lived.most lived.requests lived.serves in
        let on = (stands some.0 some.1).1 in record {
          told = on.told;
          lines = on.lines;
          part = on.part;
          answered = subst (λ (l : List Commit). AllAnsweredIn flows l on.told on.lines) run_is (all_in rules (settled_then life) on.answered);
          spoken = on.spoken ∙ ap (λ (t : List ℕ). t ++ on.lines ++ on.part) (last (lived.opening own first_kept.kept)).silent;
          saying = elim on.saying [
            | inl whole ↦ inl whole
            | inr half ↦ inr (subst (λ (l : List Commit). IsPartIn flows l on.part) run_is (part_in rules (settled_then life) on.told (by_then life) on.part half))
          ];
        }

    opened : ComesToMore flows count digest start behind life
    opened = record {
      after = all_after;
      more = first_kept.more ++ settled_then life;
      goes = refl;
      keep = keeps;
      settled = record { front = own; rest = []; split = sym (append-nil (own ++ settled_then life) ∙ run_is) };
      said = inr speaks;
    }

  -- either way
  pub life_comes_to : ComesToMore flows count digest start behind life
  life_comes_to = elim is.lived [
    | inl lived ↦ elim (cases_lt life.moment (length lived.origin.steps)) [
      | inl low ↦
          let same = earlier_moment lived.further life.moment (omega (arith, low)) in
          unopened (subst (IsOpening flows count digest own life.old) (sym same) (each_moment (lived.opening own first_kept.kept) life.moment is.begun (omega (arith, low)))) (lived.nothing life.moment low)
      | inr high ↦ opened lived high
    ]
    | inr early ↦ unopened (each_moment (early.0 own first_kept.kept) life.moment is.begun is.within) (ap (settled_at life.moment) early.1)
  ]
