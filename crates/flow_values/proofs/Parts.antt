-- Reading the parts of an array one after another, each an expression.
use Rattle.std.proofs.Common.{◌≡◌, ℕ, ◌+◌, ◌<◌, ◌≤◌, List, [], ◌∷◌, ◌++◌, length, codes, true, false, drop, get_or, Some, None, Result, Ok, Err, refl, sym, ◌∙◌, ap, arith, add-one}
use Rattle.std.proofs.Math.Seq.{drop-cons}
use Rattle.std.proofs.lemmas.List.{drop_all}
use Rattle.std.specs.Str.{bytes_eq}
use Rattle.serde_json.specs.Data.{Data, array, object, Items, item, no_items, member, no_members}
use Rattle.json_tree.specs.View.{view, items_view}
use Rattle.json_tree.specs.declared.tree.Tree.{Tree}
use Rattle.flow_syntax.specs.declared.syntax.Expr.{Expr}
use Rattle.flow_syntax.specs.declared.syntax.UnaryOp.{UnaryOp}
use Rattle.flow_syntax.specs.declared.syntax.BinaryOp.{BinaryOp}
use Rattle.flow_syntax.specs.Syntax.{Expression, Expressions, variable, list, no_parts, part, unary, binary}
use Rattle.flow_syntax.specs.Views.{expression_of, parts_of, unary_of, binary_of}
use Rattle.flow_values.specs.Answers.{PartFails, IsUnder}
use Rattle.flow_values.specs.Faults.{Path, Step, at, misshapen, to_key, to_part, ◌>>=◌}
use Rattle.flow_values.specs.Expressions.{expression_in, expressions_from, list_in, operation_in, unary_in, binary_in}
use Rattle.flow_values.specs.Values.{name_in}
use Rattle.flow_values.specs.declared.faults.PartError.{PartError}
use Rattle.flow_values.specs.declared.faults.PartError.TheVariants.{Misshapen, Memory}

-- a fault within a part is one of the whole
pub fails_under : {X : Type 0} (read : Result X Path) (step : Step) (error further : PartError) → PartFails error read → IsUnder step error further → PartFails further (at step read)
fails_under read step (Misshapen path) (Misshapen outer) fails under = rw (fails, under) refl
fails_under read step Memory (Misshapen outer) fails under = absurd under
fails_under read step (Misshapen path) Memory fails under = tt
fails_under read step Memory Memory fails under = tt

-- and nothing that is read behind it counts
pub ends_under : {X Y : Type 0} (read : Result X Path) (then : X → Result Y Path) (step : Step) (error further : PartError) → PartFails error read → IsUnder step error further → PartFails further (at step read >>= then)
ends_under read then step (Misshapen path) (Misshapen outer) fails under = rw (fails, under) refl
ends_under read then step Memory (Misshapen outer) fails under = absurd under
ends_under read then step (Misshapen path) Memory fails under = tt
ends_under read then step Memory Memory fails under = tt

-- parts, and behind them further ones
abbrev pub before_parts : List Expr → Expressions → Expressions
before_parts [] rest = rest
before_parts (e ∷ es) rest = part (expression_of e) (before_parts es rest)

-- the parts that are still to be read, from this place on, behind those that were
abbrev pub with_rest : List Expr → ℕ → Items → Result Expressions Path
with_rest done i ds = expressions_from i ds >>= λ rest. Ok (before_parts done rest)

one_behind : (done : List Expr) (e : Expr) (rest : Expressions) → before_parts (done ++ e ∷ []) rest ≡ before_parts done (part (expression_of e) rest)
one_behind [] e rest = refl
one_behind (d ∷ ds) e rest = ap (part (expression_of d)) (one_behind ds e rest)

none_behind : (done : List Expr) → before_parts done no_parts ≡ parts_of done
none_behind [] = refl
none_behind (d ∷ ds) = ap (part (expression_of d)) (none_behind ds)

with_first : (done : List Expr) (e : Expr) (rest : Result Expressions Path) → (rest >>= (λ es. Ok (part (expression_of e) es)) >>= λ es. Ok (before_parts done es)) ≡ (rest >>= λ es. Ok (before_parts (done ++ e ∷ []) es))
with_first done e (Err path) = refl
with_first done e (Ok es) = rw (one_behind done e es) refl

pub items_from : (vs : List Tree) (i : ℕ) (v : Tree) → i < length vs → v ≡ get_or vs i v → items_view (drop i vs) ≡ item (view v) (items_view (drop (i + 1) vs))
items_from vs i v lt at = rw (add-one, drop-cons vs i v lt, ← at) refl

-- nothing was read yet
pub begins : (vs : List Tree) → with_rest [] 0 (items_view (drop 0 vs)) ≡ expressions_from 0 (items_view vs)
begins vs = same (expressions_from 0 (items_view vs)) where
  same : (read : Result Expressions Path) → (read >>= λ rest. Ok (before_parts [] rest)) ≡ read
  same (Ok es) = refl
  same (Err path) = refl

-- a part was read
pub goes_on : (whole : Result Expressions Path) (done : List Expr) (vs : List Tree) (i : ℕ) (v : Tree) (e : Expr) → i < length vs → v ≡ get_or vs i v → with_rest done i (items_view (drop i vs)) ≡ whole → expression_in (view v) ≡ Ok (expression_of e) → with_rest (done ++ e ∷ []) (i + 1) (items_view (drop (i + 1) vs)) ≡ whole
goes_on whole done vs i v e lt here before is = sym (with_first done e (expressions_from (i + 1) (items_view (drop (i + 1) vs)))) ∙ sym (rw (items_from vs i v lt here, is) refl) ∙ before

-- a part is no expression
pub ends : (whole : Result Expressions Path) (done : List Expr) (vs : List Tree) (i : ℕ) (v : Tree) (error further : PartError) → i < length vs → v ≡ get_or vs i v → with_rest done i (items_view (drop i vs)) ≡ whole → PartFails error (expression_in (view v)) → IsUnder (to_part i) error further → PartFails further whole
ends whole done vs i v (Misshapen path) (Misshapen outer) lt here before is under = sym before ∙ rw (items_from vs i v lt here, is, under) refl
ends whole done vs i v Memory (Misshapen outer) lt here before is under = absurd under
ends whole done vs i v (Misshapen path) Memory lt here before is under = tt
ends whole done vs i v Memory Memory lt here before is under = tt

-- all parts were read
pub all : (vs : List Tree) (done : List Expr) (i : ℕ) → length vs ≤ i → with_rest done i (items_view (drop i vs)) ≡ expressions_from 0 (items_view vs) → expressions_from 0 (items_view vs) ≡ Ok (parts_of done)
all vs done i past is = sym is ∙ rw (drop_all i vs past) (ap Ok (none_behind done))

-- ---- an operation by the count of its items

pub two_items : (vs : List Tree) (a b : Tree) → length vs ≡ 2 → a ≡ get_or vs 0 a → b ≡ get_or vs 1 b → items_view vs ≡ item (view a) (item (view b) no_items)
two_items [] a b count at0 at1 = absurd (omega (arith, count))
two_items (x ∷ []) a b count at0 at1 = absurd (omega (arith, count))
two_items (x ∷ y ∷ []) a b count at0 at1 = rw (at0, at1) refl
two_items (x ∷ y ∷ z ∷ vs) a b count at0 at1 = absurd (omega (arith, count))

pub three_items : (vs : List Tree) (a b c : Tree) → length vs ≡ 3 → a ≡ get_or vs 0 a → b ≡ get_or vs 1 b → c ≡ get_or vs 2 c → items_view vs ≡ item (view a) (item (view b) (item (view c) no_items))
three_items [] a b c count at0 at1 at2 = absurd (omega (arith, count))
three_items (x ∷ []) a b c count at0 at1 at2 = absurd (omega (arith, count))
three_items (x ∷ y ∷ []) a b c count at0 at1 at2 = absurd (omega (arith, count))
three_items (x ∷ y ∷ z ∷ []) a b c count at0 at1 at2 = rw (at0, at1, at2) refl
three_items (x ∷ y ∷ z ∷ w ∷ vs) a b c count at0 at1 at2 = absurd (omega (arith, count))

pub no_operation : (vs : List Tree) → ¬ length vs ≡ 2 → ¬ length vs ≡ 3 → operation_in (array (items_view vs)) ≡ misshapen
no_operation [] two three = refl
no_operation (x ∷ []) two three = refl
no_operation (x ∷ y ∷ []) two three = absurd (two refl)
no_operation (x ∷ y ∷ z ∷ []) two three = absurd (three refl)
no_operation (x ∷ y ∷ z ∷ w ∷ vs) two three = refl

pub ends_then : {X Y : Type 0} (read : Result X Path) (then : X → Result Y Path) (error : PartError) → PartFails error read → PartFails error (read >>= then)
ends_then read then (Misshapen path) fails = rw fails refl
ends_then read then Memory fails = tt

pub unary_ends : (vs : List Tree) (a b : Tree) (operation : UnaryOp) (error : PartError) → length vs ≡ 2 → a ≡ get_or vs 0 a → b ≡ get_or vs 1 b → Some (unary_of operation) ≡ unary_in (view a) → PartFails error (at (to_part 1) (expression_in (view b))) → PartFails error (operation_in (array (items_view vs)))
unary_ends vs a b operation error count at0 at1 word fails = rw (two_items vs a b count at0 at1, ← word) (ends_then _ _ error fails)

pub unary_read : (vs : List Tree) (a b : Tree) (operation : UnaryOp) (first : Expression) → length vs ≡ 2 → a ≡ get_or vs 0 a → b ≡ get_or vs 1 b → Some (unary_of operation) ≡ unary_in (view a) → at (to_part 1) (expression_in (view b)) ≡ Ok first → operation_in (array (items_view vs)) ≡ Ok (unary (unary_of operation) first)
unary_read vs a b operation first count at0 at1 word read = rw (two_items vs a b count at0 at1, ← word, read) refl

pub unary_unknown : (vs : List Tree) (a b : Tree) → length vs ≡ 2 → a ≡ get_or vs 0 a → b ≡ get_or vs 1 b → None ≡ unary_in (view a) → operation_in (array (items_view vs)) ≡ misshapen
unary_unknown vs a b count at0 at1 word = rw (two_items vs a b count at0 at1, ← word) refl

pub binary_unknown : (vs : List Tree) (a b c : Tree) → length vs ≡ 3 → a ≡ get_or vs 0 a → b ≡ get_or vs 1 b → c ≡ get_or vs 2 c → None ≡ binary_in (view a) → operation_in (array (items_view vs)) ≡ misshapen
binary_unknown vs a b c count at0 at1 at2 word = rw (three_items vs a b c count at0 at1 at2, ← word) refl

pub binary_ends : (vs : List Tree) (a b c : Tree) (operation : BinaryOp) (error : PartError) → length vs ≡ 3 → a ≡ get_or vs 0 a → b ≡ get_or vs 1 b → c ≡ get_or vs 2 c → Some (binary_of operation) ≡ binary_in (view a) → PartFails error (at (to_part 1) (expression_in (view b))) → PartFails error (operation_in (array (items_view vs)))
binary_ends vs a b c operation error count at0 at1 at2 word fails = rw (three_items vs a b c count at0 at1 at2, ← word) (ends_then _ _ error fails)

pub binary_ends_second : (vs : List Tree) (a b c : Tree) (operation : BinaryOp) (first : Expression) (error : PartError) → length vs ≡ 3 → a ≡ get_or vs 0 a → b ≡ get_or vs 1 b → c ≡ get_or vs 2 c → Some (binary_of operation) ≡ binary_in (view a) → at (to_part 1) (expression_in (view b)) ≡ Ok first → PartFails error (at (to_part 2) (expression_in (view c))) → PartFails error (operation_in (array (items_view vs)))
binary_ends_second vs a b c operation first error count at0 at1 at2 word read fails = rw (three_items vs a b c count at0 at1 at2, ← word, read) (ends_then _ _ error fails)

pub binary_read : (vs : List Tree) (a b c : Tree) (operation : BinaryOp) (first second : Expression) → length vs ≡ 3 → a ≡ get_or vs 0 a → b ≡ get_or vs 1 b → c ≡ get_or vs 2 c → Some (binary_of operation) ≡ binary_in (view a) → at (to_part 1) (expression_in (view b)) ≡ Ok first → at (to_part 2) (expression_in (view c)) ≡ Ok second → operation_in (array (items_view vs)) ≡ Ok (binary (binary_of operation) first second)
binary_read vs a b c operation first second count at0 at1 at2 word read read_second = rw (three_items vs a b c count at0 at1 at2, ← word, read, read_second) refl

-- ---- the only member of an object, by its key

pub variable_ends : (key : List ℕ) (d : Data) (error further : PartError) → bytes_eq key (codes "v") ≡ true → PartFails error (name_in d) → IsUnder (to_key (codes "v")) error further → PartFails further (expression_in (object (member key d no_members)))
variable_ends key d error further is fails under = rw is (ends_under (name_in d) (λ name. Ok (variable name)) (to_key (codes "v")) error further fails under)

pub list_ends : (key : List ℕ) (d : Data) (error further : PartError) → bytes_eq key (codes "v") ≡ false → bytes_eq key (codes "list") ≡ true → PartFails error (list_in d) → IsUnder (to_key (codes "list")) error further → PartFails further (expression_in (object (member key d no_members)))
list_ends key d error further other is fails under = rw (other, is) (ends_under (list_in d) (λ parts. Ok (list parts)) (to_key (codes "list")) error further fails under)

pub operation_ends : (key : List ℕ) (d : Data) (error further : PartError) → bytes_eq key (codes "v") ≡ false → bytes_eq key (codes "list") ≡ false → bytes_eq key (codes "do") ≡ true → PartFails error (operation_in d) → IsUnder (to_key (codes "do")) error further → PartFails further (expression_in (object (member key d no_members)))
operation_ends key d error further other neither is fails under = rw (other, neither, is) (fails_under (operation_in d) (to_key (codes "do")) error further fails under)

pub variable_read : (key : List ℕ) (d : Data) (name : List ℕ) → bytes_eq key (codes "v") ≡ true → name_in d ≡ Ok name → expression_in (object (member key d no_members)) ≡ Ok (variable name)
variable_read key d name is read = rw (is, read) refl

pub list_read : (key : List ℕ) (d : Data) (parts : Expressions) → bytes_eq key (codes "v") ≡ false → bytes_eq key (codes "list") ≡ true → list_in d ≡ Ok parts → expression_in (object (member key d no_members)) ≡ Ok (list parts)
list_read key d parts other is read = rw (other, is, read) refl

pub operation_read : (key : List ℕ) (d : Data) (e : Expression) → bytes_eq key (codes "v") ≡ false → bytes_eq key (codes "list") ≡ false → bytes_eq key (codes "do") ≡ true → operation_in d ≡ Ok e → expression_in (object (member key d no_members)) ≡ Ok e
operation_read key d e other neither is read = rw (other, neither, is, read) refl

pub no_member : (key : List ℕ) (d : Data) → bytes_eq key (codes "v") ≡ false → bytes_eq key (codes "list") ≡ false → bytes_eq key (codes "do") ≡ false → expression_in (object (member key d no_members)) ≡ misshapen
no_member key d other neither none = rw (other, neither, none) refl
