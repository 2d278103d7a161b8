-- The byte that each kind of thing begins with.
use Rattle.std.specs.Prelude.{ℕ}

-- values and scalars
abbrev pub null_tag : ℕ
null_tag = 0

abbrev pub false_tag : ℕ
false_tag = 1

abbrev pub true_tag : ℕ
true_tag = 2

abbrev pub int_tag : ℕ
int_tag = 3

abbrev pub text_tag : ℕ
text_tag = 4

abbrev pub list_tag : ℕ
list_tag = 5

-- ids
abbrev pub flow_tag : ℕ
flow_tag = 1

abbrev pub entity_tag : ℕ
entity_tag = 2

abbrev pub client_tag : ℕ
client_tag = 3

-- replies
abbrev pub nobody_tag : ℕ
nobody_tag = 0

abbrev pub task_tag : ℕ
task_tag = 1

abbrev pub request_tag : ℕ
request_tag = 2

-- answers
abbrev pub done_tag : ℕ
done_tag = 0

abbrev pub failed_tag : ℕ
failed_tag = 1

abbrev pub started_tag : ℕ
started_tag = 2

abbrev pub exists_tag : ℕ
exists_tag = 3

abbrev pub unknown_tag : ℕ
unknown_tag = 4

abbrev pub raised_tag : ℕ
raised_tag = 5

abbrev pub ended_tag : ℕ
ended_tag = 6

abbrev pub missing_tag : ℕ
missing_tag = 7

abbrev pub running_tag : ℕ
running_tag = 8

abbrev pub value_tag : ℕ
value_tag = 9

-- bodies
abbrev pub start_tag : ℕ
start_tag = 0x10

abbrev pub raise_tag : ℕ
raise_tag = 0x11

abbrev pub query_tag : ℕ
query_tag = 0x12

abbrev pub wait_tag : ℕ
wait_tag = 0x13

abbrev pub result_tag : ℕ
result_tag = 0x14

abbrev pub operate_tag : ℕ
operate_tag = 0x15

abbrev pub lock_tag : ℕ
lock_tag = 0x16

abbrev pub granted_tag : ℕ
granted_tag = 0x17

abbrev pub release_tag : ℕ
release_tag = 0x18
