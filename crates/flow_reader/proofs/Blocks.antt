-- Reading the statements of a body one after another, and a statement by its word.
use Rattle.std.proofs.Common.{◌≡◌, ℕ, ◌+◌, ◌<◌, ◌≤◌, List, [], ◌∷◌, ◌++◌, length, drop, get_or, Bool, Some, None, Result, Ok, Err, refl, sym, ◌∙◌, ap, arith}
use Rattle.std.proofs.lemmas.List.{drop_all}
use Rattle.serde_json.specs.Data.{array, Items, item, no_items}
use Rattle.json_tree.specs.View.{view, items_view}
use Rattle.json_tree.specs.declared.tree.Tree.{Tree}
use Rattle.flow_values.specs.Answers.{PartFails, IsUnder}
use Rattle.flow_values.specs.Faults.{Path, at, misshapen, to_part, ◌>>=◌}
use Rattle.flow_values.specs.Expressions.{expression_in}
use Rattle.flow_values.specs.Values.{name_in}
use Rattle.flow_values.specs.declared.faults.PartError.{PartError}
use Rattle.flow_values.specs.declared.faults.PartError.TheVariants.{Misshapen, Memory}
use Rattle.flow_values.proofs.Parts.{items_from, ends_then}
use Rattle.flow_syntax.specs.declared.syntax.Stmt.{Stmt}
use Rattle.flow_syntax.specs.Syntax.{Block, Expression, Locked, nothing, first_then, if_then, lock_in, try, while}
use Rattle.flow_syntax.specs.Views.{statement_of, block_of}
use Rattle.flow_reader.specs.declared.words.Word.{Word}
use Rattle.flow_reader.specs.declared.words.Word.TheVariants as words
use Rattle.flow_reader.specs.Statements.{body_in, of_word, pairs_in, statement_in, statements_from, word_in}

-- statements, and behind them further ones
abbrev pub before_block : List Stmt → Block → Block
before_block [] rest = rest
before_block (s ∷ ss) rest = first_then (statement_of s) (before_block ss rest)

-- the statements that are still to be read, from this place on, behind those that were
abbrev pub with_rest : Bool → List Stmt → ℕ → Items → Result Block Path
with_rest inside done i ds = statements_from inside i ds >>= λ rest. Ok (before_block done rest)

one_behind : (done : List Stmt) (e : Stmt) (rest : Block) → before_block (done ++ e ∷ []) rest ≡ before_block done (first_then (statement_of e) rest)
one_behind [] e rest = refl
one_behind (d ∷ ds) e rest = ap (first_then (statement_of d)) (one_behind ds e rest)

none_behind : (done : List Stmt) → before_block done nothing ≡ block_of done
none_behind [] = refl
none_behind (d ∷ ds) = ap (first_then (statement_of d)) (none_behind ds)

with_first : (done : List Stmt) (e : Stmt) (rest : Result Block Path) → (rest >>= (λ es. Ok (first_then (statement_of e) es)) >>= λ es. Ok (before_block done es)) ≡ (rest >>= λ es. Ok (before_block (done ++ e ∷ []) es))
with_first done e (Err path) = refl
with_first done e (Ok es) = rw (one_behind done e es) refl

-- nothing was read yet
pub begins : (inside : Bool) (vs : List Tree) → with_rest inside [] 0 (items_view (drop 0 vs)) ≡ statements_from inside 0 (items_view vs)
begins inside vs = same (statements_from inside 0 (items_view vs)) where
  same : (read : Result Block Path) → (read >>= λ rest. Ok (before_block [] rest)) ≡ read
  same (Ok es) = refl
  same (Err path) = refl

-- a statement was read
pub goes_on : (inside : Bool) (whole : Result Block Path) (done : List Stmt) (vs : List Tree) (i : ℕ) (v : Tree) (e : Stmt) → i < length vs → v ≡ get_or vs i v → with_rest inside done i (items_view (drop i vs)) ≡ whole → statement_in inside (view v) ≡ Ok (statement_of e) → with_rest inside (done ++ e ∷ []) (i + 1) (items_view (drop (i + 1) vs)) ≡ whole
goes_on inside whole done vs i v e lt here before is = sym (with_first done e (statements_from inside (i + 1) (items_view (drop (i + 1) vs)))) ∙ sym (rw (items_from vs i v lt here, is) refl) ∙ before

-- a part is no statement
pub ends : (inside : Bool) (whole : Result Block Path) (done : List Stmt) (vs : List Tree) (i : ℕ) (v : Tree) (error further : PartError) → i < length vs → v ≡ get_or vs i v → with_rest inside done i (items_view (drop i vs)) ≡ whole → PartFails error (statement_in inside (view v)) → IsUnder (to_part i) error further → PartFails further whole
ends inside whole done vs i v (Misshapen path) (Misshapen outer) lt here before is under = sym before ∙ rw (items_from vs i v lt here, is, under) refl
ends inside whole done vs i v Memory (Misshapen outer) lt here before is under = absurd under
ends inside whole done vs i v (Misshapen path) Memory lt here before is under = tt
ends inside whole done vs i v Memory Memory lt here before is under = tt

-- all statements were read
pub all : (inside : Bool) (vs : List Tree) (done : List Stmt) (i : ℕ) → length vs ≤ i → with_rest inside done i (items_view (drop i vs)) ≡ statements_from inside 0 (items_view vs) → statements_from inside 0 (items_view vs) ≡ Ok (block_of done)
all inside vs done i past is = sym is ∙ rw (drop_all i vs past) (ap Ok (none_behind done))

-- ---- a statement by its word

pub no_word : (inside : Bool) (vs : List Tree) → length vs ≡ 0 → statement_in inside (array (items_view vs)) ≡ misshapen
no_word inside [] none = refl
no_word inside (v ∷ vs) none = absurd (omega (arith, none))

pub unknown_word : (inside : Bool) (vs : List Tree) (v : Tree) → 0 < length vs → v ≡ get_or vs 0 v → None ≡ word_in inside (view v) → statement_in inside (array (items_view vs)) ≡ misshapen
unknown_word inside [] v some here none = absurd (omega (arith, some))
unknown_word inside (x ∷ vs) v some here none = let same : v ≡ x = here in rw (← same, ← none) refl

pub known_word : (inside : Bool) (vs : List Tree) (v : Tree) (word : Word) → 0 < length vs → v ≡ get_or vs 0 v → Some word ≡ word_in inside (view v) → statement_in inside (array (items_view vs)) ≡ of_word inside word (items_view (drop 1 vs))
known_word inside [] v word some here is = absurd (omega (arith, some))
known_word inside (x ∷ vs) v word some here is = let same : v ≡ x = here in rw (← same, ← is) refl

pub behind_two : (vs : List Tree) (a b : Tree) → length vs ≡ 3 → a ≡ get_or vs 1 a → b ≡ get_or vs 2 b → items_view (drop 1 vs) ≡ item (view a) (item (view b) no_items)
behind_two [] a b count at1 at2 = absurd (omega (arith, count))
behind_two (x ∷ []) a b count at1 at2 = absurd (omega (arith, count))
behind_two (x ∷ y ∷ []) a b count at1 at2 = absurd (omega (arith, count))
behind_two (x ∷ y ∷ z ∷ []) a b count at1 at2 = rw (at1, at2) refl
behind_two (x ∷ y ∷ z ∷ w ∷ vs) a b count at1 at2 = absurd (omega (arith, count))

pub behind_three : (vs : List Tree) (a b c : Tree) → length vs ≡ 4 → a ≡ get_or vs 1 a → b ≡ get_or vs 2 b → c ≡ get_or vs 3 c → items_view (drop 1 vs) ≡ item (view a) (item (view b) (item (view c) no_items))
behind_three [] a b c count at1 at2 at3 = absurd (omega (arith, count))
behind_three (x ∷ []) a b c count at1 at2 at3 = absurd (omega (arith, count))
behind_three (x ∷ y ∷ []) a b c count at1 at2 at3 = absurd (omega (arith, count))
behind_three (x ∷ y ∷ z ∷ []) a b c count at1 at2 at3 = absurd (omega (arith, count))
behind_three (x ∷ y ∷ z ∷ w ∷ []) a b c count at1 at2 at3 = rw (at1, at2, at3) refl
behind_three (x ∷ y ∷ z ∷ w ∷ u ∷ vs) a b c count at1 at2 at3 = absurd (omega (arith, count))

pub no_lock : (inside : Bool) (vs : List Tree) → ¬ length vs ≡ 3 → of_word inside words.Lock (items_view (drop 1 vs)) ≡ misshapen
no_lock inside [] other = refl
no_lock inside (x0 ∷ []) other = refl
no_lock inside (x0 ∷ x1 ∷ []) other = refl
no_lock inside (x0 ∷ x1 ∷ x2 ∷ []) other = absurd (other refl)
no_lock inside (x0 ∷ x1 ∷ x2 ∷ x3 ∷ vs) other = refl

pub no_if : (inside : Bool) (vs : List Tree) → ¬ length vs ≡ 4 → of_word inside words.If (items_view (drop 1 vs)) ≡ misshapen
no_if inside [] other = refl
no_if inside (x0 ∷ []) other = refl
no_if inside (x0 ∷ x1 ∷ []) other = refl
no_if inside (x0 ∷ x1 ∷ x2 ∷ []) other = refl
no_if inside (x0 ∷ x1 ∷ x2 ∷ x3 ∷ []) other = absurd (other refl)
no_if inside (x0 ∷ x1 ∷ x2 ∷ x3 ∷ x4 ∷ vs) other = refl

pub no_while : (inside : Bool) (vs : List Tree) → ¬ length vs ≡ 3 → of_word inside words.While (items_view (drop 1 vs)) ≡ misshapen
no_while inside [] other = refl
no_while inside (x0 ∷ []) other = refl
no_while inside (x0 ∷ x1 ∷ []) other = refl
no_while inside (x0 ∷ x1 ∷ x2 ∷ []) other = absurd (other refl)
no_while inside (x0 ∷ x1 ∷ x2 ∷ x3 ∷ vs) other = refl

pub no_try : (inside : Bool) (vs : List Tree) → ¬ length vs ≡ 4 → of_word inside words.Try (items_view (drop 1 vs)) ≡ misshapen
no_try inside [] other = refl
no_try inside (x0 ∷ []) other = refl
no_try inside (x0 ∷ x1 ∷ []) other = refl
no_try inside (x0 ∷ x1 ∷ x2 ∷ []) other = refl
no_try inside (x0 ∷ x1 ∷ x2 ∷ x3 ∷ []) other = absurd (other refl)
no_try inside (x0 ∷ x1 ∷ x2 ∷ x3 ∷ x4 ∷ vs) other = refl

pub if_ends : (inside : Bool) (vs : List Tree) (a b c : Tree) (error : PartError) → length vs ≡ 4 → a ≡ get_or vs 1 a → b ≡ get_or vs 2 b → c ≡ get_or vs 3 c → PartFails error (at (to_part 1) (expression_in (view a))) → PartFails error (of_word inside words.If (items_view (drop 1 vs)))
if_ends inside vs a b c error count at1 at2 at3 fails = rw (behind_three vs a b c count at1 at2 at3) (ends_then _ _ error fails)

pub if_ends_yes : (inside : Bool) (vs : List Tree) (a b c : Tree) (test : Expression) (error : PartError) → length vs ≡ 4 → a ≡ get_or vs 1 a → b ≡ get_or vs 2 b → c ≡ get_or vs 3 c → at (to_part 1) (expression_in (view a)) ≡ Ok test → PartFails error (at (to_part 2) (body_in inside (view b))) → PartFails error (of_word inside words.If (items_view (drop 1 vs)))
if_ends_yes inside vs a b c test error count at1 at2 at3 read fails = rw (behind_three vs a b c count at1 at2 at3, read) (ends_then _ _ error fails)

pub while_ends : (inside : Bool) (vs : List Tree) (a b : Tree) (error : PartError) → length vs ≡ 3 → a ≡ get_or vs 1 a → b ≡ get_or vs 2 b → PartFails error (at (to_part 1) (expression_in (view a))) → PartFails error (of_word inside words.While (items_view (drop 1 vs)))
while_ends inside vs a b error count at1 at2 fails = rw (behind_two vs a b count at1 at2) (ends_then _ _ error fails)

pub try_ends : (inside : Bool) (vs : List Tree) (a b c : Tree) (error : PartError) → length vs ≡ 4 → a ≡ get_or vs 1 a → b ≡ get_or vs 2 b → c ≡ get_or vs 3 c → PartFails error (at (to_part 1) (body_in inside (view a))) → PartFails error (of_word inside words.Try (items_view (drop 1 vs)))
try_ends inside vs a b c error count at1 at2 at3 fails = rw (behind_three vs a b c count at1 at2 at3) (ends_then _ _ error fails)

pub try_ends_variable : (inside : Bool) (vs : List Tree) (a b c : Tree) (body : Block) (error : PartError) → length vs ≡ 4 → a ≡ get_or vs 1 a → b ≡ get_or vs 2 b → c ≡ get_or vs 3 c → at (to_part 1) (body_in inside (view a)) ≡ Ok body → PartFails error (at (to_part 2) (name_in (view b))) → PartFails error (of_word inside words.Try (items_view (drop 1 vs)))
try_ends_variable inside vs a b c body error count at1 at2 at3 read fails = rw (behind_three vs a b c count at1 at2 at3, read) (ends_then _ _ error fails)

pub if_ends_no : (inside : Bool) (vs : List Tree) (a b c : Tree) (test : Expression) (yes_body : Block) (error : PartError) → length vs ≡ 4 → a ≡ get_or vs 1 a → b ≡ get_or vs 2 b → c ≡ get_or vs 3 c → at (to_part 1) (expression_in (view a)) ≡ Ok test → at (to_part 2) (body_in inside (view b)) ≡ Ok yes_body → PartFails error (at (to_part 3) (body_in inside (view c))) → PartFails error (of_word inside words.If (items_view (drop 1 vs)))
if_ends_no inside vs a b c test yes_body error count at1 at2 at3 read read_yes fails = rw (behind_three vs a b c count at1 at2 at3, read, read_yes) (ends_then _ _ error fails)

pub if_read : (inside : Bool) (vs : List Tree) (a b c : Tree) (test : Expression) (yes_body no_body : Block) → length vs ≡ 4 → a ≡ get_or vs 1 a → b ≡ get_or vs 2 b → c ≡ get_or vs 3 c → at (to_part 1) (expression_in (view a)) ≡ Ok test → at (to_part 2) (body_in inside (view b)) ≡ Ok yes_body → at (to_part 3) (body_in inside (view c)) ≡ Ok no_body → of_word inside words.If (items_view (drop 1 vs)) ≡ Ok (if_then test yes_body no_body)
if_read inside vs a b c test yes_body no_body count at1 at2 at3 read read_yes read_no = rw (behind_three vs a b c count at1 at2 at3, read, read_yes, read_no) refl

pub lock_ends : (inside : Bool) (vs : List Tree) (a b : Tree) (error : PartError) → length vs ≡ 3 → a ≡ get_or vs 1 a → b ≡ get_or vs 2 b → PartFails error (at (to_part 1) (pairs_in (view a))) → PartFails error (of_word inside words.Lock (items_view (drop 1 vs)))
lock_ends inside vs a b error count at1 at2 fails = rw (behind_two vs a b count at1 at2) (ends_then _ _ error fails)

pub lock_ends_body : (inside : Bool) (vs : List Tree) (a b : Tree) (pairs : List Locked) (error : PartError) → length vs ≡ 3 → a ≡ get_or vs 1 a → b ≡ get_or vs 2 b → at (to_part 1) (pairs_in (view a)) ≡ Ok pairs → PartFails error (at (to_part 2) (body_in inside (view b))) → PartFails error (of_word inside words.Lock (items_view (drop 1 vs)))
lock_ends_body inside vs a b pairs error count at1 at2 read fails = rw (behind_two vs a b count at1 at2, read) (ends_then _ _ error fails)

pub lock_read : (inside : Bool) (vs : List Tree) (a b : Tree) (pairs : List Locked) (body : Block) → length vs ≡ 3 → a ≡ get_or vs 1 a → b ≡ get_or vs 2 b → at (to_part 1) (pairs_in (view a)) ≡ Ok pairs → at (to_part 2) (body_in inside (view b)) ≡ Ok body → of_word inside words.Lock (items_view (drop 1 vs)) ≡ Ok (lock_in pairs body)
lock_read inside vs a b pairs body count at1 at2 read read_body = rw (behind_two vs a b count at1 at2, read, read_body) refl

pub while_ends_body : (inside : Bool) (vs : List Tree) (a b : Tree) (test : Expression) (error : PartError) → length vs ≡ 3 → a ≡ get_or vs 1 a → b ≡ get_or vs 2 b → at (to_part 1) (expression_in (view a)) ≡ Ok test → PartFails error (at (to_part 2) (body_in inside (view b))) → PartFails error (of_word inside words.While (items_view (drop 1 vs)))
while_ends_body inside vs a b test error count at1 at2 read fails = rw (behind_two vs a b count at1 at2, read) (ends_then _ _ error fails)

pub while_read : (inside : Bool) (vs : List Tree) (a b : Tree) (test : Expression) (body : Block) → length vs ≡ 3 → a ≡ get_or vs 1 a → b ≡ get_or vs 2 b → at (to_part 1) (expression_in (view a)) ≡ Ok test → at (to_part 2) (body_in inside (view b)) ≡ Ok body → of_word inside words.While (items_view (drop 1 vs)) ≡ Ok (while test body)
while_read inside vs a b test body count at1 at2 read read_body = rw (behind_two vs a b count at1 at2, read, read_body) refl

pub try_ends_handler : (inside : Bool) (vs : List Tree) (a b c : Tree) (body : Block) (variable : List ℕ) (error : PartError) → length vs ≡ 4 → a ≡ get_or vs 1 a → b ≡ get_or vs 2 b → c ≡ get_or vs 3 c → at (to_part 1) (body_in inside (view a)) ≡ Ok body → at (to_part 2) (name_in (view b)) ≡ Ok variable → PartFails error (at (to_part 3) (body_in inside (view c))) → PartFails error (of_word inside words.Try (items_view (drop 1 vs)))
try_ends_handler inside vs a b c body variable error count at1 at2 at3 read read_name fails = rw (behind_three vs a b c count at1 at2 at3, read, read_name) (ends_then _ _ error fails)

pub try_read : (inside : Bool) (vs : List Tree) (a b c : Tree) (body : Block) (variable : List ℕ) (handler : Block) → length vs ≡ 4 → a ≡ get_or vs 1 a → b ≡ get_or vs 2 b → c ≡ get_or vs 3 c → at (to_part 1) (body_in inside (view a)) ≡ Ok body → at (to_part 2) (name_in (view b)) ≡ Ok variable → at (to_part 3) (body_in inside (view c)) ≡ Ok handler → of_word inside words.Try (items_view (drop 1 vs)) ≡ Ok (try body variable handler)
try_read inside vs a b c body variable handler count at1 at2 at3 read read_name read_handler = rw (behind_three vs a b c count at1 at2 at3, read, read_name, read_handler) refl
