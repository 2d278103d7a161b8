-- Looking up the names of pairs, statements and flows one after another.
use Rattle.std.proofs.Common.{◌≡◌, ℕ, ◌+◌, ◌<◌, ◌≤◌, List, ◌∷◌, length, drop, get_or, map, Result, Ok, refl, sym, ◌∙◌, ap}
use Rattle.std.specs.Prelude.{is_some}
use Rattle.std.specs.declared.vec.Vec.{Vec}
use Rattle.std.specs.declared.alloc.Global.{Global}
use Rattle.std.proofs.lemmas.List.{drop_all, drop_more}
use Rattle.flow_syntax.specs.declared.syntax.Locked.{Locked}
use Rattle.flow_syntax.specs.declared.syntax.Stmt.{Stmt}
use Rattle.flow_syntax.specs.Syntax.{Flows, class_of}
use Rattle.flow_syntax.specs.Views.{block_of, body_in, locked_of, named_by, statement_of}
use Rattle.flow_values.specs.Answers.{PartFails, PartGives, IsUnder}
use Rattle.flow_values.specs.Faults.{at, to_key, to_part, ◌>>=◌}
use Rattle.flow_reader.specs.Names.{Known, known_block, known_flows, known_if, known_in, known_pairs}
use Rattle.flow_values.specs.declared.faults.PartError.{PartError}
use Rattle.flow_values.proofs.Parts.{ends_then, ends_under}

left : {X : Type 0} (xs : List X) (i : ℕ) (x : X) → i < length xs → x ≡ get_or xs i x → drop i xs ≡ x ∷ drop (i + 1) xs
left xs i x lt here = drop_more xs i x lt ∙ ap (λ (h : _). h ∷ drop (i + 1) xs) (sym here)

pub pair_known : (file : Flows) (whole : Known) (pairs : List Locked) (i : ℕ) (one : Locked) → i < length pairs → one ≡ get_or pairs i one → known_pairs file i (map locked_of (drop i pairs)) ≡ whole → at (to_part 0) (known_if (is_some (class_of file one.class))) ≡ Ok tt → known_pairs file (i + 1) (map locked_of (drop (i + 1) pairs)) ≡ whole
pair_known file whole pairs i one lt here before known =
    let first : known_pairs file i (map locked_of (one ∷ drop (i + 1) pairs)) ≡ whole = ap (λ (l : List Locked). known_pairs file i (map locked_of l)) (sym (left pairs i one lt here)) ∙ before in
    rw known at first

pub pair_unknown : (file : Flows) (whole : Known) (pairs : List Locked) (i : ℕ) (one : Locked) (error further : PartError) → i < length pairs → one ≡ get_or pairs i one → known_pairs file i (map locked_of (drop i pairs)) ≡ whole → PartFails error (at (to_part 0) (known_if (is_some (class_of file one.class)))) → IsUnder (to_part i) error further → PartFails further whole
pair_unknown file whole pairs i one error further lt here before fails under =
    let first : known_pairs file i (map locked_of (one ∷ drop (i + 1) pairs)) ≡ whole = ap (λ (l : List Locked). known_pairs file i (map locked_of l)) (sym (left pairs i one lt here)) ∙ before in
    rw (← first) (ends_under _ _ (to_part i) error further fails under)

pub no_pairs : (file : Flows) (pairs : List Locked) (i : ℕ) → length pairs ≤ i → known_pairs file i (map locked_of (drop i pairs)) ≡ known_pairs file 0 (map locked_of pairs) → known_pairs file 0 (map locked_of pairs) ≡ Ok tt
no_pairs file pairs i past is = sym is ∙ rw (drop_all i pairs past) refl

-- a statement's names are known
pub goes_on : (file : Flows) (whole : Known) (block : List Stmt) (i : ℕ) (s : Stmt) → i < length block → s ≡ get_or block i s → known_block file i (block_of (drop i block)) ≡ whole → known_in file (statement_of s) ≡ Ok tt → known_block file (i + 1) (block_of (drop (i + 1) block)) ≡ whole
goes_on file whole block i s lt here before known =
    let first : known_block file i (block_of (s ∷ drop (i + 1) block)) ≡ whole = ap (λ (l : List Stmt). known_block file i (block_of l)) (sym (left block i s lt here)) ∙ before in
    rw known at first

-- one of them isn't
pub ends : (file : Flows) (whole : Known) (block : List Stmt) (i : ℕ) (s : Stmt) (error further : PartError) → i < length block → s ≡ get_or block i s → known_block file i (block_of (drop i block)) ≡ whole → PartFails error (known_in file (statement_of s)) → IsUnder (to_part i) error further → PartFails further whole
ends file whole block i s error further lt here before fails under =
    let first : known_block file i (block_of (s ∷ drop (i + 1) block)) ≡ whole = ap (λ (l : List Stmt). known_block file i (block_of l)) (sym (left block i s lt here)) ∙ before in
    rw (← first) (ends_under _ _ (to_part i) error further fails under)

pub all : (file : Flows) (block : List Stmt) (i : ℕ) → length block ≤ i → known_block file i (block_of (drop i block)) ≡ known_block file 0 (block_of block) → known_block file 0 (block_of block) ≡ Ok tt
all file block i past is = sym is ∙ rw (drop_all i block past) refl

-- what is said of what comes behind is said of both
pub then_gives : (first second : Known) (result : Result (Unit {0}) PartError) → first ≡ Ok tt → PartGives (λ known. tt) result second → PartGives (λ known. tt) result (first >>= λ known. second)
then_gives first second result is gives = rw is gives

abbrev pub Body : Type 0
Body = List ℕ × Vec Stmt Global

-- a flow's names are known
pub flow_known : (file : Flows) (whole : Known) (es rest : List Body) (e : Body) → es ≡ e ∷ rest → known_flows file (named_by body_in es) ≡ whole → at (to_key e.0) (known_block file 0 (block_of e.1.items)) ≡ Ok tt → known_flows file (named_by body_in rest) ≡ whole
flow_known file whole es rest e is before known =
    let first : known_flows file (named_by body_in (e ∷ rest)) ≡ whole = ap (λ (l : List Body). known_flows file (named_by body_in l)) (sym is) ∙ before in
    rw known at first

pub flow_unknown : (file : Flows) (whole : Known) (es rest : List Body) (e : Body) (error : PartError) → es ≡ e ∷ rest → known_flows file (named_by body_in es) ≡ whole → PartFails error (at (to_key e.0) (known_block file 0 (block_of e.1.items))) → PartFails error whole
flow_unknown file whole es rest e error is before fails =
    let first : known_flows file (named_by body_in (e ∷ rest)) ≡ whole = ap (λ (l : List Body). known_flows file (named_by body_in l)) (sym is) ∙ before in
    rw (← first) (ends_then _ _ error fails)
