use Rattle.std.proofs.Common.{◌∙◌, ◌++◌, ap, sym, codes}
use Rattle.run_causes.specs.Causes.{numbered, line_of, hex_digits}
use Rattle.run_causes.proofs.Parts.{three, four}
use Rattle.run_causes.proofs.lines.write_damage.Goals as goal

pub returns-in_ok-write_two-in-OtherShape : goal.returns-in_ok-write_two-in-OtherShape
returns-in_ok-write_two-in-OtherShape c =
    three c.args.out.now.items (codes "partitions") (numbered c.in-OtherShape.found) (numbered c.in-OtherShape.asked) _ _ c.in_ok-write_word-in-OtherShape.ensures c.in_ok-write_two-in-OtherShape.ensures
    ∙ ap (λ cause. c.args.out.now.items ++ line_of cause) (sym c.in-OtherShape.is)

pub returns-in_ok-write_hex-in-OtherFlows-2 : goal.returns-in_ok-write_hex-in-OtherFlows-2
returns-in_ok-write_hex-in-OtherFlows-2 c =
    four c.args.out.now.items (codes "digest ") (hex_digits 16 c.in-OtherFlows.found) (codes " ") (hex_digits 16 c.in-OtherFlows.given) _ _ _ _ c.in_ok-write_word-in-OtherFlows.ensures c.in_ok-write_hex-in-OtherFlows.ensures c.in_ok-write_word-in-OtherFlows-2.ensures c.in_ok-write_hex-in-OtherFlows-2.ensures
    ∙ ap (λ cause. c.args.out.now.items ++ line_of cause) (sym c.in-OtherFlows.is)
