-- The subcommands come to the command one after the other.
use Rattle.clap.specs.Simple.{app_of}
use Rattle.command_words.specs.Command.{netherite, run_shape, show_shape}
use Rattle.command_words.proofs.Commands.{with_shape, with_last, whole}
use Rattle.command_words.proofs.command.netherite.Goals as goal

pub returns-in-Ok : goal.returns-in-Ok
returns-in-Ok c =
    let run = with_shape c.run_command.result run_shape (app_of c.top.result) (app_of c.in-Ok.command) c.run_command.ensures c.in-Ok.ensures in
    with_last c.with_subcommand-in-Ok.result c.show_command.result show_shape (app_of c.in-Ok.command) netherite c.with_subcommand-in-Ok.ensures c.show_command.ensures (whole (app_of c.top.result) (app_of c.in-Ok.command) c.top.ensures.0 run)
