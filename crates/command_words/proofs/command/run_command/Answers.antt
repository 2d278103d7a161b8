-- The options come to the command one after the other.
use Rattle.std.proofs.Common.{codes, Ok}
use Rattle.clap.specs.Simple.{new_app, with_rule}
use Rattle.command_words.specs.Command.{option_rule}
use Rattle.command_words.proofs.Commands.{with_one_rule}
use Rattle.command_words.proofs.command.run_command.Goals as goal

pub returns : goal.returns
returns c =
    let none = new_app (codes "run") in
    let partitions = option_rule (codes "partitions") (codes "4") in
    let nodes = option_rule (codes "nodes") (codes "1") in
    let mode = option_rule (codes "mode") (codes "global") in
    let batch = option_rule (codes "batch") (codes "16") in
    let steps = option_rule (codes "steps") (codes "1048576") in
    let seed = option_rule (codes "seed") (codes "0") in
    let twice = option_rule (codes "twice") (codes "0") in
    let drop = option_rule (codes "drop") (codes "0") in
    let hold = option_rule (codes "hold") (codes "0") in
    let segment = option_rule (codes "segment") (codes "2147483648") in
    let with_1 = with_rule none partitions in
    let with_2 = with_rule with_1 nodes in
    let with_3 = with_rule with_2 mode in
    let with_4 = with_rule with_3 batch in
    let with_5 = with_rule with_4 steps in
    let with_6 = with_rule with_5 seed in
    let with_7 = with_rule with_6 twice in
    let with_8 = with_rule with_7 drop in
    let with_9 = with_rule with_8 hold in
    let is_1 = with_one_rule (Ok c.new.result) c.with_option-command.result none partitions (c.new.ensures.app, c.new.ensures.local) c.with_option-command.ensures in
    let is_2 = with_one_rule c.with_option-command.result c.with_option-command-2.result with_1 nodes is_1 c.with_option-command-2.ensures in
    let is_3 = with_one_rule c.with_option-command-2.result c.with_option-command-3.result with_2 mode is_2 c.with_option-command-3.ensures in
    let is_4 = with_one_rule c.with_option-command-3.result c.with_option-command-4.result with_3 batch is_3 c.with_option-command-4.ensures in
    let is_5 = with_one_rule c.with_option-command-4.result c.with_option-command-5.result with_4 steps is_4 c.with_option-command-5.ensures in
    let is_6 = with_one_rule c.with_option-command-5.result c.with_option-command-6.result with_5 seed is_5 c.with_option-command-6.ensures in
    let is_7 = with_one_rule c.with_option-command-6.result c.with_option-command-7.result with_6 twice is_6 c.with_option-command-7.ensures in
    let is_8 = with_one_rule c.with_option-command-7.result c.with_option-command-8.result with_7 drop is_7 c.with_option-command-8.ensures in
    let is_9 = with_one_rule c.with_option-command-8.result c.with_option-command-9.result with_8 hold is_8 c.with_option-command-9.ensures in
    with_one_rule c.with_option-command-9.result c.with_option.result with_9 segment is_9 c.with_option.ensures
