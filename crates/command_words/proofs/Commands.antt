-- A command comes about one part after the other, and stays lacking where a part of it lacks.
use Rattle.std.proofs.Common.{◌≡◌, [], true, Result, Ok, Err, IfOk, IsOkAnd, ap, ◌∙◌}
use Rattle.std.specs.declared.alloc.AllocError.{AllocError}
use Rattle.clap.specs.declared.builder.command.Command.{Command}
use Rattle.clap.specs.Simple.{App, Shape, app_of, with_rule, with_subcommand}
use Rattle.clap.specs.Walk.{Rule}
use Rattle.command_words.specs.Command.{netherite, run_shape, show_shape, IsCommand}

rule_on : (before : Result Command AllocError) (after : Command) (app : App) (rule : Rule) → IfOk before (IsCommand app) → IsOkAnd before (λ b. IsCommand (with_rule (app_of b) rule) after) → IsCommand (with_rule app rule) after
rule_on (Ok b) after app rule is adds = (adds.0 ∙ ap (λ (a : App). with_rule a rule) is.0, adds.1)
rule_on (Err error) after app rule is adds = absurd adds

-- an option comes to a command
pub with_one_rule : (before after : Result Command AllocError) (app : App) (rule : Rule) → IfOk before (IsCommand app) → IfOk after (λ c. IsOkAnd before (λ b. IsCommand (with_rule (app_of b) rule) c)) → IfOk after (IsCommand (with_rule app rule))
with_one_rule before (Ok c) app rule is adds = rule_on before c app rule is adds
with_one_rule before (Err error) app rule is adds = tt

-- a subcommand comes to a command
pub with_shape : (sub : Result Command AllocError) (shape : Shape) (before after : App) → IfOk sub (IsCommand (record { top = shape; subs = [] })) → IsOkAnd sub (λ s. after ≡ with_subcommand before (app_of s).top) → after ≡ with_subcommand before shape
with_shape (Ok s) shape before after is adds = adds ∙ ap (λ (app : App). with_subcommand before app.top) is.0
with_shape (Err error) shape before after is adds = absurd adds

-- the last subcommand comes to a command
pub with_last : (result sub : Result Command AllocError) (shape : Shape) (before wanted : App) → IfOk result (λ c. IsOkAnd sub (λ s. app_of c ≡ with_subcommand before (app_of s).top)) → IfOk sub (IsCommand (record { top = shape; subs = [] })) → with_subcommand before shape ≡ wanted → IfOk result (λ c. app_of c ≡ wanted)
with_last (Ok c) sub shape before wanted adds is ends = with_shape sub shape before (app_of c) is adds ∙ ends
with_last (Err error) sub shape before wanted adds is ends = tt

-- both subcommands make the command whole
pub whole : (top with_run : App) → top ≡ record { top = record netherite.top { is_leaf = true }; subs = [] } → with_run ≡ with_subcommand top run_shape → with_subcommand with_run show_shape ≡ netherite
whole top with_run is adds = ap (λ (app : App). with_subcommand app show_shape) adds ∙ ap (λ (app : App). with_subcommand (with_subcommand app run_shape) show_shape) is
