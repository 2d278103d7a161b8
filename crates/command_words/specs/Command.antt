-- The command, and what its words ask for.
use Rattle.std.specs.Prelude.{◌≡◌, ℕ, ◌==◌, List, [], ◌∷◌, codes, length, true, false, if◌then◌else◌, Option, Some, None}
use Rattle.std.specs.Str.{bytes_eq}
use Rattle.clap.specs.Simple.{App, Shape, app_of, new_rule, new_shape, subcommand_of}
use Rattle.clap.specs.Walk.{Row, Rule, Text, first_of}
use Rattle.clap.specs.Faults.{fault_of}
use Rattle.clap.specs.declared.builder.action.ArgAction.TheVariants.{Set}
use Rattle.clap.specs.declared.builder.command.Command.{Command}
use Rattle.clap.specs.declared.builder.command.Command.TheViews.{out-Command}
use Rattle.command_words.specs.declared.words.Call.{Call}
use Rattle.command_words.specs.declared.words.Call.TheVariants.{Run, Show}
use Rattle.command_words.specs.declared.words.RunMode.{RunMode}
use Rattle.command_words.specs.declared.words.RunMode.TheVariants as modes
use Rattle.command_words.specs.declared.words.RunOptions.{RunOptions}
use Rattle.command_words.specs.Numbers.{number_in}
use Rattle.dura_value.specs.Optional.{guard, ◌>>=◌}

-- an option `--name VALUE` with a default
abbrev pub option_rule : Text → Text → Rule
option_rule name default = record (new_rule name) { long = Some name; action = Some Set; defaults = default ∷ [] }

abbrev pub run_shape : Shape
run_shape = record (new_shape (codes "run")) {
  rules = option_rule (codes "partitions") (codes "4") ∷ option_rule (codes "nodes") (codes "1") ∷ option_rule (codes "mode") (codes "global")
      ∷ option_rule (codes "batch") (codes "16") ∷ option_rule (codes "steps") (codes "1048576") ∷ option_rule (codes "seed") (codes "0")
      ∷ option_rule (codes "twice") (codes "0") ∷ option_rule (codes "drop") (codes "0") ∷ option_rule (codes "hold") (codes "0")
      ∷ option_rule (codes "segment") (codes "2147483648") ∷ [];
}

abbrev pub show_shape : Shape
show_shape = record (new_shape (codes "show")) { rules = option_rule (codes "partitions") (codes "4") ∷ [] }

-- run and show, with no words for help or the version
abbrev pub netherite : App
netherite = record {
  top = record (new_shape (codes "netherite")) {
    is_leaf = false;
    no_binary_name = true;
    disable_help_flag = true;
    disable_help_subcommand = true;
    disable_version_flag = true;
    subcommand_required = true;
  };
  subs = run_shape ∷ show_shape ∷ [];
}

-- a command as `clap` has it, none of whose options is for its subcommands too
abbrev pub IsCommand : App → Command → Type 0
IsCommand app command = (app_of command ≡ app) × ((out-Command command).has_globals ≡ false)

-- the number of an option, from the least to the most
abbrev pub number_of : Text → ℕ → ℕ → List Row → Option ℕ
number_of name least most rows = first_of name rows >>= number_in least most

abbrev pub partitions_of : List Row → Option ℕ
partitions_of rows = number_of (codes "partitions") 1 32 rows

-- the mode that a word is for
abbrev pub mode_of : Text → Option RunMode
mode_of word =
    if bytes_eq word (codes "none") then Some modes.None
    else if bytes_eq word (codes "local") then Some modes.Local
    else if bytes_eq word (codes "global") then Some modes.Global
    else None

-- the mode that was chosen
abbrev pub chosen_mode : List Row → Option RunMode
chosen_mode rows = first_of (codes "mode") rows >>= mode_of

abbrev pub run_of : List Row → Option RunOptions
run_of rows = partitions_of rows >>= λ partitions. number_of (codes "nodes") 1 8 rows >>= λ nodes. chosen_mode rows >>= λ mode.
    number_of (codes "batch") 1 64 rows >>= λ batch. number_of (codes "steps") 1 1_048_576 rows >>= λ steps.
    number_of (codes "seed") 0 4_294_967_295 rows >>= λ seed. number_of (codes "twice") 0 100 rows >>= λ twice.
    number_of (codes "drop") 0 100 rows >>= λ drop. number_of (codes "hold") 0 100 rows >>= λ hold.
    number_of (codes "segment") 4096 2_147_483_648 rows >>= λ segment. Some (record {
      partitions = partitions;
      nodes = nodes;
      mode = mode;
      batch = batch;
      steps = steps;
      seed = seed;
      twice = twice;
      drop = drop;
      hold = hold;
      segment = segment;
    })

-- what a subcommand with these values asks for
abbrev pub call_of : Text → List Row → Option Call
call_of name rows =
    if bytes_eq name (codes "run") then (run_of rows >>= λ options. Some (Run options))
    else (partitions_of rows >>= λ partitions. Some (Show partitions))

-- what the words ask for, where the command takes them
abbrev pub call_in : List Text → Option Call
call_in words = guard (length (fault_of netherite words) == 0) (subcommand_of netherite words >>= λ sub. call_of sub.0 sub.1)
