-- Worked rows, by computation.
use Rattle.std.proofs.Common.{◌≡◌, [], ◌∷◌, refl, codes}
use Rattle.std.specs.Fmt.{digits}
use Rattle.std.specs.Str.{chars, is_utf8}
use Rattle.clap.proofs.OnLiterals.{clap_on_literals}
use Rattle.dura_value.specs.Reading.{id_in, pair_at}
use Rattle.serde_json.proofs.OnLiterals.{serde_json_on_literals}
use Rattle.worked_rows.specs.Readings.{asked_by, requests_of}

pub request_files_clash : requests_of (codes "{\"client\":\"a\",\"n\":1,\"start\":\"Sum/x\"}" ∷ codes "{\"client\":\"a\",\"n\":1,\"wait\":\"Sum/x\"}" ∷ []) ≡ codes "clash a 1"
unfolding serde_json_on_literals is_utf8 chars digits id_in pair_at
request_files_clash = refl

pub request_files_second : requests_of (codes "{\"client\":\"a\",\"n\":1,\"start\":\"Sum/x\"}" ∷ codes "{}" ∷ []) ≡ codes "line 2"
unfolding serde_json_on_literals is_utf8 chars digits id_in pair_at
request_files_second = refl

pub request_files_repeated : requests_of (codes "{\"client\":\"a\",\"n\":1,\"start\":\"Sum/x\"}" ∷ codes " {\"arg\":null, \"start\":\"Sum/x\",\"n\":1,\"client\":\"a\"} " ∷ codes "" ∷ []) ≡ codes "read 1"
unfolding serde_json_on_literals is_utf8 chars digits id_in pair_at
request_files_repeated = refl

pub request_files_other_argument : requests_of (codes "{\"client\":\"a\",\"n\":1,\"start\":\"Sum/x\"}" ∷ codes "{\"client\":\"a\",\"n\":1,\"start\":\"Sum/x\",\"arg\":0}" ∷ []) ≡ codes "clash a 1"
unfolding serde_json_on_literals is_utf8 chars digits id_in pair_at
request_files_other_argument = refl

pub request_files_below : requests_of (codes "{\"client\":\"a\",\"n\":2,\"start\":\"Sum/x\"}" ∷ codes "{\"client\":\"a\",\"n\":1,\"start\":\"Sum/x\"}" ∷ []) ≡ codes "line 2"
unfolding serde_json_on_literals is_utf8 chars digits id_in pair_at
request_files_below = refl

pub request_files_other_client : requests_of (codes "{\"client\":\"a\",\"n\":2,\"start\":\"Sum/x\"}" ∷ codes "{\"client\":\"b\",\"n\":1,\"wait\":\"Sum/x\"}" ∷ []) ≡ codes "read 2"
unfolding serde_json_on_literals is_utf8 chars digits id_in pair_at
request_files_other_client = refl

pub request_files_first_decides : requests_of (codes "{\"client\":\"a\",\"n\":1,\"start\":\"Sum/x\"}" ∷ codes "{\"client\":\"a\",\"n\":1,\"wait\":\"Sum/x\"}" ∷ codes "{}" ∷ []) ≡ codes "clash a 1"
unfolding serde_json_on_literals is_utf8 chars digits id_in pair_at
request_files_first_decides = refl

pub request_files_blank : requests_of (codes "" ∷ codes "  " ∷ codes "{}" ∷ []) ≡ codes "line 3"
unfolding serde_json_on_literals is_utf8 chars digits id_in pair_at
request_files_blank = refl

pub request_files_zero : requests_of (codes "{\"client\":\"a\",\"n\":0,\"start\":\"Sum/x\"}" ∷ []) ≡ codes "line 1"
unfolding serde_json_on_literals is_utf8 chars digits id_in pair_at
request_files_zero = refl

pub request_files_too_great : requests_of (codes "{\"client\":\"a\",\"n\":4294967296,\"start\":\"Sum/x\"}" ∷ []) ≡ codes "line 1"
unfolding serde_json_on_literals is_utf8 chars digits id_in pair_at
request_files_too_great = refl

pub request_files_greatest : requests_of (codes "{\"client\":\"a\",\"n\":4294967295,\"start\":\"Sum/x\"}" ∷ []) ≡ codes "read 1"
unfolding serde_json_on_literals is_utf8 chars digits id_in pair_at
request_files_greatest = refl

pub request_files_no_integer : requests_of (codes "{\"client\":\"a\",\"n\":1.0,\"start\":\"Sum/x\"}" ∷ []) ≡ codes "line 1"
unfolding serde_json_on_literals is_utf8 chars digits id_in pair_at
request_files_no_integer = refl

pub request_files_further : requests_of (codes "{\"client\":\"a\",\"n\":1,\"start\":\"Sum/x\",\"value\":0}" ∷ []) ≡ codes "line 1"
unfolding serde_json_on_literals is_utf8 chars digits id_in pair_at
request_files_further = refl

pub request_files_two_kinds : requests_of (codes "{\"client\":\"a\",\"n\":1,\"start\":\"Sum/x\",\"wait\":\"Sum/x\"}" ∷ []) ≡ codes "line 1"
unfolding serde_json_on_literals is_utf8 chars digits id_in pair_at
request_files_two_kinds = refl

pub request_files_last_counts : requests_of (codes "{\"client\":\"a\",\"n\":1,\"start\":\"Sum/\",\"start\":\"Sum/x\"}" ∷ []) ≡ codes "read 1"
unfolding serde_json_on_literals is_utf8 chars digits id_in pair_at
request_files_last_counts = refl

pub request_files_entity_started : requests_of (codes "{\"client\":\"a\",\"n\":1,\"start\":\"@A/x\"}" ∷ []) ≡ codes "line 1"
unfolding serde_json_on_literals is_utf8 chars digits id_in pair_at
request_files_entity_started = refl

pub request_files_client_queried : requests_of (codes "{\"client\":\"a\",\"n\":1,\"query\":\"#a\"}" ∷ []) ≡ codes "line 1"
unfolding serde_json_on_literals is_utf8 chars digits id_in pair_at
request_files_client_queried = refl

pub request_files_entity_queried : requests_of (codes "{\"client\":\"a\",\"n\":1,\"query\":\"@A/x\"}" ∷ []) ≡ codes "read 1"
unfolding serde_json_on_literals is_utf8 chars digits id_in pair_at
request_files_entity_queried = refl

pub request_files_no_event : requests_of (codes "{\"client\":\"a\",\"n\":1,\"raise\":\"G/x\",\"value\":1}" ∷ []) ≡ codes "line 1"
unfolding serde_json_on_literals is_utf8 chars digits id_in pair_at
request_files_no_event = refl

pub request_files_raised : requests_of (codes "{\"client\":\"a\",\"n\":1,\"raise\":\"G/x\",\"event\":\"go\"}" ∷ []) ≡ codes "read 1"
unfolding serde_json_on_literals is_utf8 chars digits id_in pair_at
request_files_raised = refl

pub request_files_minus_zero : requests_of (codes "{\"client\":\"a\",\"n\":1,\"start\":\"S/x\",\"arg\":-0}" ∷ []) ≡ codes "line 1"
unfolding serde_json_on_literals is_utf8 chars digits id_in pair_at
request_files_minus_zero = refl

pub request_files_exponent : requests_of (codes "{\"client\":\"a\",\"n\":1,\"start\":\"S/x\",\"arg\":1e2}" ∷ []) ≡ codes "line 1"
unfolding serde_json_on_literals is_utf8 chars digits id_in pair_at
request_files_exponent = refl

pub request_files_too_large : requests_of (codes "{\"client\":\"a\",\"n\":1,\"start\":\"S/x\",\"arg\":9223372036854775808}" ∷ []) ≡ codes "line 1"
unfolding serde_json_on_literals is_utf8 chars digits id_in pair_at
request_files_too_large = refl

pub request_files_least : requests_of (codes "{\"client\":\"a\",\"n\":1,\"start\":\"S/x\",\"arg\":-9223372036854775808}" ∷ []) ≡ codes "read 1"
unfolding serde_json_on_literals is_utf8 chars digits id_in pair_at
request_files_least = refl

pub request_files_nested : requests_of (codes "{\"client\":\"a\",\"n\":1,\"start\":\"S/x\",\"arg\":[[]]}" ∷ []) ≡ codes "line 1"
unfolding serde_json_on_literals is_utf8 chars digits id_in pair_at
request_files_nested = refl

pub words_none : asked_by ([]) ≡ codes "usage"
unfolding clap_on_literals digits chars
words_none = refl

pub words_run : asked_by (codes "run" ∷ []) ≡ codes "run 4 1 global 16 1048576 0 0 0 0 2147483648"
unfolding clap_on_literals digits chars
words_run = refl

pub words_show : asked_by (codes "show" ∷ []) ≡ codes "show 4"
unfolding clap_on_literals digits chars
words_show = refl

pub words_all : asked_by (codes "run" ∷ codes "--segment=4096" ∷ codes "--hold" ∷ codes "3" ∷ codes "--drop=2" ∷ codes "--twice" ∷ codes "1" ∷ codes "--seed" ∷ codes "9" ∷ codes "--steps" ∷ codes "7" ∷ codes "--batch" ∷ codes "64" ∷ codes "--mode" ∷ codes "local" ∷ codes "--nodes" ∷ codes "8" ∷ codes "--partitions" ∷ codes "1" ∷ []) ≡ codes "run 1 8 local 64 7 9 1 2 3 4096"
unfolding clap_on_literals digits chars
words_all = refl

pub words_many_partitions : asked_by (codes "run" ∷ codes "--partitions" ∷ codes "33" ∷ []) ≡ codes "usage"
unfolding clap_on_literals digits chars
words_many_partitions = refl

pub words_no_partition : asked_by (codes "show" ∷ codes "--partitions" ∷ codes "0" ∷ []) ≡ codes "usage"
unfolding clap_on_literals digits chars
words_no_partition = refl

pub words_leading_zero : asked_by (codes "run" ∷ codes "--batch" ∷ codes "08" ∷ []) ≡ codes "usage"
unfolding clap_on_literals digits chars
words_leading_zero = refl

pub words_sign : asked_by (codes "run" ∷ codes "--batch" ∷ codes "+8" ∷ []) ≡ codes "usage"
unfolding clap_on_literals digits chars
words_sign = refl

pub words_batch_above : asked_by (codes "run" ∷ codes "--batch" ∷ codes "65" ∷ []) ≡ codes "usage"
unfolding clap_on_literals digits chars
words_batch_above = refl

pub words_segment_below : asked_by (codes "run" ∷ codes "--segment" ∷ codes "4095" ∷ []) ≡ codes "usage"
unfolding clap_on_literals digits chars
words_segment_below = refl

pub words_steps_none : asked_by (codes "run" ∷ codes "--steps" ∷ codes "0" ∷ []) ≡ codes "usage"
unfolding clap_on_literals digits chars
words_steps_none = refl

pub words_twice : asked_by (codes "run" ∷ codes "--batch" ∷ codes "8" ∷ codes "--batch" ∷ codes "8" ∷ []) ≡ codes "usage"
unfolding clap_on_literals digits chars
words_twice = refl

pub words_no_value : asked_by (codes "run" ∷ codes "--batch" ∷ []) ≡ codes "usage"
unfolding clap_on_literals digits chars
words_no_value = refl

pub words_unknown : asked_by (codes "run" ∷ codes "--speed" ∷ codes "1" ∷ []) ≡ codes "usage"
unfolding clap_on_literals digits chars
words_unknown = refl

pub words_of_run : asked_by (codes "show" ∷ codes "--batch" ∷ codes "8" ∷ []) ≡ codes "usage"
unfolding clap_on_literals digits chars
words_of_run = refl

pub words_further : asked_by (codes "run" ∷ codes "on" ∷ []) ≡ codes "usage"
unfolding clap_on_literals digits chars
words_further = refl

pub words_no_help : asked_by (codes "help" ∷ []) ≡ codes "usage"
unfolding clap_on_literals digits chars
words_no_help = refl

pub words_no_version : asked_by (codes "--version" ∷ []) ≡ codes "usage"
unfolding clap_on_literals digits chars
words_no_version = refl

pub words_one_partition : asked_by (codes "run" ∷ codes "--partitions" ∷ codes "1" ∷ []) ≡ codes "run 1 1 global 16 1048576 0 0 0 0 2147483648"
unfolding clap_on_literals digits chars
words_one_partition = refl

pub words_most_batch : asked_by (codes "run" ∷ codes "--batch" ∷ codes "64" ∷ []) ≡ codes "run 4 1 global 64 1048576 0 0 0 0 2147483648"
unfolding clap_on_literals digits chars
words_most_batch = refl

pub words_steps : asked_by (codes "run" ∷ codes "--steps" ∷ codes "7" ∷ []) ≡ codes "run 4 1 global 16 7 0 0 0 0 2147483648"
unfolding clap_on_literals digits chars
words_steps = refl

pub words_segment : asked_by (codes "run" ∷ codes "--segment=4096" ∷ []) ≡ codes "run 4 1 global 16 1048576 0 0 0 0 4096"
unfolding clap_on_literals digits chars
words_segment = refl

pub words_shown_partition : asked_by (codes "show" ∷ codes "--partitions" ∷ codes "1" ∷ []) ≡ codes "show 1"
unfolding clap_on_literals digits chars
words_shown_partition = refl

pub words_help_of_run : asked_by (codes "run" ∷ codes "--help" ∷ []) ≡ codes "usage"
unfolding clap_on_literals digits chars
words_help_of_run = refl

pub words_stop : asked_by (codes "stop" ∷ []) ≡ codes "usage"
unfolding clap_on_literals digits chars
words_stop = refl

pub words_some : asked_by (codes "run" ∷ codes "--segment=4096" ∷ codes "--steps" ∷ codes "7" ∷ codes "--batch" ∷ codes "64" ∷ codes "--partitions" ∷ codes "1" ∷ []) ≡ codes "run 1 1 global 64 7 0 0 0 0 4096"
unfolding clap_on_literals digits chars
words_some = refl

pub words_two_partitions : asked_by (codes "run" ∷ codes "--partitions" ∷ codes "2" ∷ []) ≡ codes "run 2 1 global 16 1048576 0 0 0 0 2147483648"
unfolding clap_on_literals digits chars
words_two_partitions = refl

pub words_most_partitions : asked_by (codes "run" ∷ codes "--partitions" ∷ codes "32" ∷ []) ≡ codes "run 32 1 global 16 1048576 0 0 0 0 2147483648"
unfolding clap_on_literals digits chars
words_most_partitions = refl

pub words_no_partition_of_run : asked_by (codes "run" ∷ codes "--partitions" ∷ codes "0" ∷ []) ≡ codes "usage"
unfolding clap_on_literals digits chars
words_no_partition_of_run = refl

pub words_most_shown : asked_by (codes "show" ∷ codes "--partitions" ∷ codes "32" ∷ []) ≡ codes "show 32"
unfolding clap_on_literals digits chars
words_most_shown = refl

pub words_shown_above : asked_by (codes "show" ∷ codes "--partitions" ∷ codes "33" ∷ []) ≡ codes "usage"
unfolding clap_on_literals digits chars
words_shown_above = refl

pub words_most_nodes : asked_by (codes "run" ∷ codes "--nodes" ∷ codes "8" ∷ []) ≡ codes "run 4 8 global 16 1048576 0 0 0 0 2147483648"
unfolding clap_on_literals digits chars
words_most_nodes = refl

pub words_nodes_above : asked_by (codes "run" ∷ codes "--nodes" ∷ codes "9" ∷ []) ≡ codes "usage"
unfolding clap_on_literals digits chars
words_nodes_above = refl

pub words_no_node : asked_by (codes "run" ∷ codes "--nodes" ∷ codes "0" ∷ []) ≡ codes "usage"
unfolding clap_on_literals digits chars
words_no_node = refl

pub words_shown_nodes : asked_by (codes "show" ∷ codes "--nodes" ∷ codes "1" ∷ []) ≡ codes "usage"
unfolding clap_on_literals digits chars
words_shown_nodes = refl

pub words_mode_none : asked_by (codes "run" ∷ codes "--mode" ∷ codes "none" ∷ []) ≡ codes "run 4 1 none 16 1048576 0 0 0 0 2147483648"
unfolding clap_on_literals digits chars
words_mode_none = refl

pub words_mode_local : asked_by (codes "run" ∷ codes "--mode" ∷ codes "local" ∷ []) ≡ codes "run 4 1 local 16 1048576 0 0 0 0 2147483648"
unfolding clap_on_literals digits chars
words_mode_local = refl

pub words_mode_global : asked_by (codes "run" ∷ codes "--mode=global" ∷ []) ≡ codes "run 4 1 global 16 1048576 0 0 0 0 2147483648"
unfolding clap_on_literals digits chars
words_mode_global = refl

pub words_mode_unknown : asked_by (codes "run" ∷ codes "--mode" ∷ codes "fast" ∷ []) ≡ codes "usage"
unfolding clap_on_literals digits chars
words_mode_unknown = refl

pub words_mode_in_capitals : asked_by (codes "run" ∷ codes "--mode" ∷ codes "Global" ∷ []) ≡ codes "usage"
unfolding clap_on_literals digits chars
words_mode_in_capitals = refl

pub words_steps_above : asked_by (codes "run" ∷ codes "--steps" ∷ codes "1048577" ∷ []) ≡ codes "usage"
unfolding clap_on_literals digits chars
words_steps_above = refl

pub words_seed : asked_by (codes "run" ∷ codes "--seed" ∷ codes "1" ∷ []) ≡ codes "run 4 1 global 16 1048576 1 0 0 0 2147483648"
unfolding clap_on_literals digits chars
words_seed = refl

pub words_greatest_seed : asked_by (codes "run" ∷ codes "--seed" ∷ codes "4294967295" ∷ []) ≡ codes "run 4 1 global 16 1048576 4294967295 0 0 0 2147483648"
unfolding clap_on_literals digits chars
words_greatest_seed = refl

pub words_seed_above : asked_by (codes "run" ∷ codes "--seed" ∷ codes "4294967296" ∷ []) ≡ codes "usage"
unfolding clap_on_literals digits chars
words_seed_above = refl

pub words_most_twice : asked_by (codes "run" ∷ codes "--twice" ∷ codes "100" ∷ []) ≡ codes "run 4 1 global 16 1048576 0 100 0 0 2147483648"
unfolding clap_on_literals digits chars
words_most_twice = refl

pub words_twice_above : asked_by (codes "run" ∷ codes "--twice" ∷ codes "101" ∷ []) ≡ codes "usage"
unfolding clap_on_literals digits chars
words_twice_above = refl

pub words_most_drop : asked_by (codes "run" ∷ codes "--drop" ∷ codes "100" ∷ []) ≡ codes "run 4 1 global 16 1048576 0 0 100 0 2147483648"
unfolding clap_on_literals digits chars
words_most_drop = refl

pub words_drop_above : asked_by (codes "run" ∷ codes "--drop" ∷ codes "101" ∷ []) ≡ codes "usage"
unfolding clap_on_literals digits chars
words_drop_above = refl

pub words_most_hold : asked_by (codes "run" ∷ codes "--hold" ∷ codes "100" ∷ []) ≡ codes "run 4 1 global 16 1048576 0 0 0 100 2147483648"
unfolding clap_on_literals digits chars
words_most_hold = refl

pub words_hold_above : asked_by (codes "run" ∷ codes "--hold" ∷ codes "101" ∷ []) ≡ codes "usage"
unfolding clap_on_literals digits chars
words_hold_above = refl

pub words_segment_above : asked_by (codes "run" ∷ codes "--segment" ∷ codes "2147483649" ∷ []) ≡ codes "usage"
unfolding clap_on_literals digits chars
words_segment_above = refl
