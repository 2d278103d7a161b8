-- A value by its first token, and what failed inside.
use Rattle.std.proofs.Common.{◌≡◌, ◌-◌, ◌∷◌, Err, None, Some, ap, sym, ◌∙◌, arith, rules}
use Rattle.json.specs.Json.{after_end_array, parse_map, read_key}
use Rattle.json.specs.Reads.{token_of}
use Rattle.serde_json.specs.Data.{array, object}
use Rattle.json_tree.specs.Answers.{TreeFails}
use Rattle.json_tree.specs.Tokens.{data_in, items_in, members_in}
use Rattle.json_tree.proofs.Items as items
use Rattle.json_tree.proofs.Members as members
use Rattle.json_tree.proofs.Parts.{array_began, object_began, too_deep_array, too_deep_object, fails_around, leaf_taken, one_taken, view_of_array, view_of_object}
use Rattle.json_tree.proofs.reading.+read.Goals as goal

pub items_in-returns-in_err-item-clause-taken : goal.items_in-returns-in_err-item-clause-taken
items_in-returns-in_err-item-clause-taken t c =
    let going : (after_end_array c.loop-alloc.reader ≡ None) × (c.take_end_array.new.self ≡ c.loop-alloc.reader) = grind arith in
    let ends : c.from_residual.result ≡ Err c.in_err-item.field-0.0 = search rules in
    let fails : TreeFails c.in_err-item.field-0.0 (data_in c.args.levels c.loop-alloc.reader) = rw (← going.1) c.in_err-item.ensures.taken in
    rw ends (items.fails (items_in c.args.levels c.args.reader.now) c.args.levels c.loop-alloc.found.items c.loop-alloc.reader c.in_err-item.field-0.0 c.loop-alloc.invariant.0 going.0 fails)

pub members_in-returns-in_err-member-clause-taken : goal.members_in-returns-in_err-member-clause-taken
members_in-returns-in_err-member-clause-taken t c =
    let named : read_key c.loop-found.reader ≡ Some (Some c.in-Some.name.now, c.next_key.new.self) = grind arith in
    let ends : c.from_residual-in_err-member.result ≡ Err c.in_err-member.field-0.0 = search rules in
    rw ends (members.fails (members_in c.args.levels c.args.reader.now) c.args.levels c.loop-found.found.entries c.in-Some.name.now c.loop-found.reader c.next_key.new.self c.in_err-member.field-0.0 c.loop-found.invariant.0 named c.in_err-member.ensures.taken)

pub tree_in-returns-then-levels-eq0-clause-taken : goal.tree_in-returns-then-levels-eq0-clause-taken
tree_in-returns-then-levels-eq0-clause-taken t c =
    let first : c.args.reader.now ≡ token_of c.in_ok-token.token ∷ c.next.new.self = grind arith in
    let none : c.args.levels ≡ 0 = omega arith in
    too_deep_array c.args.levels c.args.reader.now c.next.new.self none (first ∙ ap (λ k. token_of k ∷ c.next.new.self) c.in-BeginArray.is)

pub tree_in-returns-then-levels-eq0-2-clause-taken : goal.tree_in-returns-then-levels-eq0-2-clause-taken
tree_in-returns-then-levels-eq0-2-clause-taken t c =
    let first : c.args.reader.now ≡ token_of c.in_ok-token.token ∷ c.next.new.self = grind arith in
    let none : c.args.levels ≡ 0 = omega arith in
    too_deep_object c.args.levels c.args.reader.now c.next.new.self none (first ∙ ap (λ k. token_of k ∷ c.next.new.self) c.in-BeginObject.is)

pub tree_in-returns-in_err-items_in-in-BeginArray-clause-taken : goal.tree_in-returns-in_err-items_in-in-BeginArray-clause-taken
tree_in-returns-in_err-items_in-in-BeginArray-clause-taken t c =
    let first : c.args.reader.now ≡ token_of c.in_ok-token.token ∷ c.next.new.self = grind arith in
    let began = array_began c.args.levels c.args.reader.now c.next.new.self (omega arith) (first ∙ ap (λ k. token_of k ∷ c.next.new.self) c.in-BeginArray.is) in
    let error = c.in_err-items_in-in-BeginArray.field-0.0 in
    let ends : c.from_residual-in_err-items_in-in-BeginArray.result ≡ Err error = search rules in
    rw ends (fails_around array (items_in (c.args.levels - 1) c.next.new.self) (data_in c.args.levels c.args.reader.now) error began c.in_err-items_in-in-BeginArray.ensures.taken)

pub tree_in-returns-in_err-members_in-in-BeginObject-clause-taken : goal.tree_in-returns-in_err-members_in-in-BeginObject-clause-taken
tree_in-returns-in_err-members_in-in-BeginObject-clause-taken t c =
    let first : c.args.reader.now ≡ token_of c.in_ok-token.token ∷ c.next.new.self = grind arith in
    let began = object_began c.args.levels c.args.reader.now c.next.new.self (omega arith) (first ∙ ap (λ k. token_of k ∷ c.next.new.self) c.in-BeginObject.is) in
    let error = c.in_err-members_in-in-BeginObject.field-0.0 in
    let ends : c.from_residual-in_err-members_in-in-BeginObject.result ≡ Err error = search rules in
    rw ends (fails_around object (members_in (c.args.levels - 1) c.next.new.self) (data_in c.args.levels c.args.reader.now) error began c.in_err-members_in-in-BeginObject.ensures.taken)

pub tree_in-returns-in_ok-items_in-in-BeginArray-clause-taken : goal.tree_in-returns-in_ok-items_in-in-BeginArray-clause-taken
tree_in-returns-in_ok-items_in-in-BeginArray-clause-taken t c =
    let first : c.args.reader.now ≡ token_of c.in_ok-token.token ∷ c.next.new.self = grind arith in
    let began = array_began c.args.levels c.args.reader.now c.next.new.self (omega arith) (first ∙ ap (λ k. token_of k ∷ c.next.new.self) c.in-BeginArray.is) in
    let found = c.in_ok-items_in-in-BeginArray in
    began ∙ ap (parse_map array) found.ensures.taken ∙ ap (λ d. Some (d, c.items_in.new.reader)) (sym (view_of_array found.field-0))

pub tree_in-returns-in_ok-members_in-in-BeginObject-clause-taken : goal.tree_in-returns-in_ok-members_in-in-BeginObject-clause-taken
tree_in-returns-in_ok-members_in-in-BeginObject-clause-taken t c =
    let first : c.args.reader.now ≡ token_of c.in_ok-token.token ∷ c.next.new.self = grind arith in
    let began = object_began c.args.levels c.args.reader.now c.next.new.self (omega arith) (first ∙ ap (λ k. token_of k ∷ c.next.new.self) c.in-BeginObject.is) in
    let found = c.in_ok-members_in-in-BeginObject in
    began ∙ ap (parse_map object) found.ensures.taken ∙ ap (λ d. Some (d, c.members_in.new.reader)) (sym (view_of_object found.field-0))

pub tree_in-returns-in_default : goal.tree_in-returns-in_default
tree_in-returns-in_default t c =
    let first : c.args.reader.now ≡ token_of c.in_ok-token.token ∷ c.next.new.self = grind arith in
    record {
      taken = leaf_taken c.leaf.result c.args.levels c.in_ok-token.token c.args.reader.now c.next.new.self c.in_default.not-BeginObject c.in_default.not-BeginArray first c.leaf.ensures;
      shorter = one_taken c.leaf.result (token_of c.in_ok-token.token) c.args.reader.now c.next.new.self first;
    }
