-- Worked rows of flows, by computation.
use Rattle.std.proofs.Common.{◌≡◌, [], ◌∷◌, refl, codes}
use Rattle.std.specs.Fmt.{digits}
use Rattle.std.specs.Str.{chars, is_utf8}
use Rattle.serde_json.proofs.OnLiterals.{serde_json_on_literals}
use Rattle.worked_rows.specs.Flows.{line_for, line_in_flow}

pub statements_unknown_word : line_in_flow (codes "[\"lot\",\"x\",1]") ≡ codes "shape #/flows/F/0"
unfolding serde_json_on_literals is_utf8 chars digits
statements_unknown_word = refl

pub statements_let_short : line_in_flow (codes "[\"let\",\"x\"]") ≡ codes "shape #/flows/F/0"
unfolding serde_json_on_literals is_utf8 chars digits
statements_let_short = refl

pub statements_let_name : line_in_flow (codes "[\"let\",\"1x\",1]") ≡ codes "shape #/flows/F/0/1"
unfolding serde_json_on_literals is_utf8 chars digits
statements_let_name = refl

pub statements_let_value : line_in_flow (codes "[\"let\",\"x\",[1]]") ≡ codes "shape #/flows/F/0/2"
unfolding serde_json_on_literals is_utf8 chars digits
statements_let_value = refl

pub statements_spawn : line_in_flow (codes "[\"spawn\",\"x\",7,null]") ≡ codes "shape #/flows/F/0/2"
unfolding serde_json_on_literals is_utf8 chars digits
statements_spawn = refl

pub statements_call : line_in_flow (codes "[\"call\",\"x\",\"add\"]") ≡ codes "shape #/flows/F/0"
unfolding serde_json_on_literals is_utf8 chars digits
statements_call = refl

pub statements_sub : line_in_flow (codes "[\"sub\",\"h\",\"F\",\"k\",{\"v\":\"\"}]") ≡ codes "shape #/flows/F/0/4/v"
unfolding serde_json_on_literals is_utf8 chars digits
statements_sub = refl

pub statements_ask : line_in_flow (codes "[\"ask\",\"h\",\"C\",\"k\",true,null]") ≡ codes "shape #/flows/F/0/4"
unfolding serde_json_on_literals is_utf8 chars digits
statements_ask = refl

pub statements_timer : line_in_flow (codes "[\"timer\",\"h\",{\"list\":0}]") ≡ codes "shape #/flows/F/0/2/list"
unfolding serde_json_on_literals is_utf8 chars digits
statements_timer = refl

pub statements_event : line_in_flow (codes "[\"event\",\"h\",{\"v\":\"x\"}]") ≡ codes "shape #/flows/F/0/2"
unfolding serde_json_on_literals is_utf8 chars digits
statements_event = refl

pub statements_awaited : line_in_flow (codes "[\"await\",\"\",{\"v\":\"h\"}]") ≡ codes "shape #/flows/F/0/1"
unfolding serde_json_on_literals is_utf8 chars digits
statements_awaited = refl

pub statements_all_of : line_in_flow (codes "[\"all\",\"x\",{\"list\":[1,[2]]}]") ≡ codes "shape #/flows/F/0/2/list/1"
unfolding serde_json_on_literals is_utf8 chars digits
statements_all_of = refl

pub statements_any_of : line_in_flow (codes "[\"any\",\"x\",{\"v\":\"h\",\"list\":[]}]") ≡ codes "shape #/flows/F/0/2"
unfolding serde_json_on_literals is_utf8 chars digits
statements_any_of = refl

pub statements_signal : line_in_flow (codes "[\"signal\",\"C\",\"k\",\"o\",{}]") ≡ codes "shape #/flows/F/0/4"
unfolding serde_json_on_literals is_utf8 chars digits
statements_signal = refl

pub statements_lock_none : line_in_flow (codes "[\"lock\",[],[]]") ≡ codes "shape #/flows/F/0/1"
unfolding serde_json_on_literals is_utf8 chars digits
statements_lock_none = refl

pub statements_lock_many : line_in_flow (codes "[\"lock\",[[\"C\",\"k\"],[\"C\",\"k\"],[\"C\",\"k\"],[\"C\",\"k\"],[\"C\",\"k\"],[\"C\",\"k\"],[\"C\",\"k\"],[\"C\",\"k\"],[\"C\",\"k\"],[\"C\",\"k\"],[\"C\",\"k\"],[\"C\",\"k\"],[\"C\",\"k\"],[\"C\",\"k\"],[\"C\",\"k\"],[\"C\",\"k\"],[\"C\",\"k\"]],[]]") ≡ codes "shape #/flows/F/0/1"
unfolding serde_json_on_literals is_utf8 chars digits
statements_lock_many = refl

pub statements_lock_pair : line_in_flow (codes "[\"lock\",[[\"C\"]],[]]") ≡ codes "shape #/flows/F/0/1/0"
unfolding serde_json_on_literals is_utf8 chars digits
statements_lock_pair = refl

pub statements_lock_class : line_in_flow (codes "[\"lock\",[[\"C\",\"k\"],[1,\"k\"]],[]]") ≡ codes "shape #/flows/F/0/1/1/0"
unfolding serde_json_on_literals is_utf8 chars digits
statements_lock_class = refl

pub statements_lock_body : line_in_flow (codes "[\"lock\",[[\"C\",\"k\"]],0]") ≡ codes "shape #/flows/F/0/2"
unfolding serde_json_on_literals is_utf8 chars digits
statements_lock_body = refl

pub statements_branch : line_in_flow (codes "[\"if\",true,[],[[\"fail\"]]]") ≡ codes "shape #/flows/F/0/3/0"
unfolding serde_json_on_literals is_utf8 chars digits
statements_branch = refl

pub statements_repeat : line_in_flow (codes "[\"while\",{\"do\":[\"not\",1,2]},[]]") ≡ codes "shape #/flows/F/0/1/do"
unfolding serde_json_on_literals is_utf8 chars digits
statements_repeat = refl

pub statements_catch : line_in_flow (codes "[\"try\",[],\"e \",[]]") ≡ codes "shape #/flows/F/0/2"
unfolding serde_json_on_literals is_utf8 chars digits
statements_catch = refl

pub statements_returned : line_in_flow (codes "[\"return\",{\"do\":[\"add\",1,{\"w\":\"x\"}]}]") ≡ codes "shape #/flows/F/0/1/do/2"
unfolding serde_json_on_literals is_utf8 chars digits
statements_returned = refl

pub statements_failed : line_in_flow (codes "[\"fail\",{\"do\":[\"neg\",1]}]") ≡ codes "shape #/flows/F/0/1/do"
unfolding serde_json_on_literals is_utf8 chars digits
statements_failed = refl

pub statements_no_word : line_in_flow (codes "[]") ≡ codes "shape #/flows/F/0"
unfolding serde_json_on_literals is_utf8 chars digits
statements_no_word = refl

pub statements_no_array : line_in_flow (codes "0") ≡ codes "shape #/flows/F/0"
unfolding serde_json_on_literals is_utf8 chars digits
statements_no_array = refl

pub statements_second : line_in_flow (codes "[\"let\",\"x\",1],[\"let\",\"y\"]") ≡ codes "shape #/flows/F/1"
unfolding serde_json_on_literals is_utf8 chars digits
statements_second = refl

pub names_flow : line_in_flow (codes "[\"sub\",\"h\",\"Nope\",\"k\",null]") ≡ codes "name #/flows/F/0/2"
unfolding serde_json_on_literals is_utf8 chars digits
names_flow = refl

pub names_own : line_in_flow (codes "[\"sub\",\"h\",\"F\",\"k\",null]") ≡ codes "read"
unfolding serde_json_on_literals is_utf8 chars digits
names_own = refl

pub names_activity : line_in_flow (codes "[\"call\",\"x\",\"nope\",null]") ≡ codes "read"
unfolding serde_json_on_literals is_utf8 chars digits
names_activity = refl

pub names_event : line_in_flow (codes "[\"event\",\"h\",\"nope\"]") ≡ codes "read"
unfolding serde_json_on_literals is_utf8 chars digits
names_event = refl

pub names_class : line_in_flow (codes "[\"ask\",\"h\",\"C\",\"k\",\"o\",null]") ≡ codes "name #/flows/F/0/2"
unfolding serde_json_on_literals is_utf8 chars digits
names_class = refl

pub names_signalled : line_in_flow (codes "[\"signal\",\"C\",\"k\",\"o\",null]") ≡ codes "name #/flows/F/0/1"
unfolding serde_json_on_literals is_utf8 chars digits
names_signalled = refl

pub names_locked : line_in_flow (codes "[\"lock\",[[\"C\",\"k\"]],[]]") ≡ codes "name #/flows/F/0/1/0/0"
unfolding serde_json_on_literals is_utf8 chars digits
names_locked = refl

pub names_repeated : line_in_flow (codes "[\"while\",true,[[\"if\",true,[],[[\"sub\",\"h\",\"Nope\",\"k\",null]]]]]") ≡ codes "name #/flows/F/0/2/0/3/0/2"
unfolding serde_json_on_literals is_utf8 chars digits
names_repeated = refl

pub names_chosen : line_in_flow (codes "[\"if\",true,[[\"signal\",\"C\",\"k\",\"o\",null]],[]]") ≡ codes "name #/flows/F/0/2/0/1"
unfolding serde_json_on_literals is_utf8 chars digits
names_chosen = refl

pub names_tried : line_in_flow (codes "[\"try\",[[\"let\",\"x\",1],[\"sub\",\"h\",\"Nope\",\"k\",null]],\"e\",[]]") ≡ codes "name #/flows/F/0/1/1/2"
unfolding serde_json_on_literals is_utf8 chars digits
names_tried = refl

pub names_caught : line_in_flow (codes "[\"try\",[],\"e\",[[\"sub\",\"h\",\"Nope\",\"k\",null]]]") ≡ codes "name #/flows/F/0/3/0/2"
unfolding serde_json_on_literals is_utf8 chars digits
names_caught = refl

pub names_shape_first : line_in_flow (codes "[\"sub\",\"h\",\"Nope\",\"k\",null],[\"let\",\"x\"]") ≡ codes "shape #/flows/F/1"
unfolding serde_json_on_literals is_utf8 chars digits
names_shape_first = refl

pub names_operation : line_for (codes "{\"classes\":{\"C\":{\"init\":0,\"ops\":{\"o\":[]}}},\"flows\":{\"F\":[[\"ask\",\"h\",\"C\",\"k\",\"p\",null]]}}") ≡ codes "name #/flows/F/0/4"
unfolding serde_json_on_literals is_utf8 chars digits
names_operation = refl

pub names_signalled_operation : line_for (codes "{\"classes\":{\"C\":{\"init\":0,\"ops\":{\"o\":[]}}},\"flows\":{\"F\":[[\"signal\",\"C\",\"k\",\"p\",null]]}}") ≡ codes "name #/flows/F/0/3"
unfolding serde_json_on_literals is_utf8 chars digits
names_signalled_operation = refl

pub names_asked : line_for (codes "{\"classes\":{\"C\":{\"init\":0,\"ops\":{\"o\":[]}}},\"flows\":{\"F\":[[\"ask\",\"h\",\"C\",\"k\",\"o\",null]]}}") ≡ codes "read"
unfolding serde_json_on_literals is_utf8 chars digits
names_asked = refl

pub names_second_lock : line_for (codes "{\"classes\":{\"C\":{\"init\":0,\"ops\":{\"o\":[]}}},\"flows\":{\"F\":[[\"lock\",[[\"C\",\"k\"],[\"D\",\"k\"]],[]]]}}") ≡ codes "name #/flows/F/0/1/1/0"
unfolding serde_json_on_literals is_utf8 chars digits
names_second_lock = refl

pub names_within_lock : line_for (codes "{\"classes\":{\"C\":{\"init\":0,\"ops\":{\"o\":[]}}},\"flows\":{\"F\":[[\"lock\",[[\"C\",\"k\"]],[[\"signal\",\"D\",\"k\",\"o\",null]]]]}}") ≡ codes "name #/flows/F/0/2/0/1"
unfolding serde_json_on_literals is_utf8 chars digits
names_within_lock = refl

pub names_first_flow : line_for (codes "{\"flows\":{\"a\":[[\"sub\",\"h\",\"c\",\"k\",0]],\"B\":[[\"sub\",\"h\",\"b\",\"k\",0]]}}") ≡ codes "name #/flows/B/0/2"
unfolding serde_json_on_literals is_utf8 chars digits
names_first_flow = refl

pub names_shape_of_a_later_flow : line_for (codes "{\"flows\":{\"A\":[[\"sub\",\"h\",\"c\",\"k\",0]],\"B\":0}}") ≡ codes "shape #/flows/B"
unfolding serde_json_on_literals is_utf8 chars digits
names_shape_of_a_later_flow = refl

pub numbers_greatest : line_in_flow (codes "[\"return\",9223372036854775807]") ≡ codes "read"
unfolding serde_json_on_literals is_utf8 chars digits
numbers_greatest = refl

pub numbers_least : line_in_flow (codes "[\"return\",-9223372036854775808]") ≡ codes "read"
unfolding serde_json_on_literals is_utf8 chars digits
numbers_least = refl

pub numbers_above : line_in_flow (codes "[\"return\",9223372036854775808]") ≡ codes "shape #/flows/F/0/1"
unfolding serde_json_on_literals is_utf8 chars digits
numbers_above = refl

pub numbers_below : line_in_flow (codes "[\"return\",-9223372036854775809]") ≡ codes "shape #/flows/F/0/1"
unfolding serde_json_on_literals is_utf8 chars digits
numbers_below = refl

pub numbers_above_all : line_in_flow (codes "[\"return\",18446744073709551616]") ≡ codes "shape #/flows/F/0/1"
unfolding serde_json_on_literals is_utf8 chars digits
numbers_above_all = refl

pub numbers_minus_zero : line_in_flow (codes "[\"return\",-0]") ≡ codes "shape #/flows/F/0/1"
unfolding serde_json_on_literals is_utf8 chars digits
numbers_minus_zero = refl

pub numbers_fraction : line_in_flow (codes "[\"return\",1.0]") ≡ codes "shape #/flows/F/0/1"
unfolding serde_json_on_literals is_utf8 chars digits
numbers_fraction = refl

pub numbers_exponent : line_in_flow (codes "[\"return\",1e2]") ≡ codes "shape #/flows/F/0/1"
unfolding serde_json_on_literals is_utf8 chars digits
numbers_exponent = refl

pub numbers_in_list : line_in_flow (codes "[\"return\",{\"list\":[1,-0]}]") ≡ codes "shape #/flows/F/0/1/list/1"
unfolding serde_json_on_literals is_utf8 chars digits
numbers_in_list = refl

pub numbers_in_operation : line_in_flow (codes "[\"return\",{\"do\":[\"add\",1,1e2]}]") ≡ codes "shape #/flows/F/0/1/do/2"
unfolding serde_json_on_literals is_utf8 chars digits
numbers_in_operation = refl

pub numbers_in_init : line_for (codes "{\"classes\":{\"C\":{\"init\":-0,\"ops\":{}}}}") ≡ codes "shape #/classes/C/init"
unfolding serde_json_on_literals is_utf8 chars digits
numbers_in_init = refl

pub numbers_in_init_list : line_for (codes "{\"classes\":{\"C\":{\"init\":[0,9223372036854775808],\"ops\":{}}}}") ≡ codes "shape #/classes/C/init/1"
unfolding serde_json_on_literals is_utf8 chars digits
numbers_in_init_list = refl

pub expressions_kinds : line_in_flow (codes "[\"return\",{\"list\":[null,false,true,\"a\",{\"v\":\"x\"},{\"list\":[]},{\"do\":[\"str\",1]}]}]") ≡ codes "read"
unfolding serde_json_on_literals is_utf8 chars digits
expressions_kinds = refl

pub expressions_escaped : line_in_flow (codes "[\"return\",\"\\u00e9\\n\"]") ≡ codes "read"
unfolding serde_json_on_literals is_utf8 chars digits
expressions_escaped = refl

pub expressions_pair : line_in_flow (codes "[\"return\",\"\\ud83d\\ude00\"]") ≡ codes "read"
unfolding serde_json_on_literals is_utf8 chars digits
expressions_pair = refl

pub expressions_lone_high : line_in_flow (codes "[\"return\",\"\\ud83d\"]") ≡ codes "not json"
unfolding serde_json_on_literals is_utf8 chars digits
expressions_lone_high = refl

pub expressions_lone_low : line_in_flow (codes "[\"return\",\"\\ude00\"]") ≡ codes "not json"
unfolding serde_json_on_literals is_utf8 chars digits
expressions_lone_low = refl

pub expressions_escaped_name : line_in_flow (codes "[\"return\",{\"v\":\"\\u0078\"}]") ≡ codes "read"
unfolding serde_json_on_literals is_utf8 chars digits
expressions_escaped_name = refl

pub expressions_empty_name : line_in_flow (codes "[\"return\",{\"v\":\"\"}]") ≡ codes "shape #/flows/F/0/1/v"
unfolding serde_json_on_literals is_utf8 chars digits
expressions_empty_name = refl

pub expressions_name_of_64 : line_in_flow (codes "[\"return\",{\"v\":\"aaaaaaaaaaaaaaaaaaaaaaaaaaaaaaaaaaaaaaaaaaaaaaaaaaaaaaaaaaaaaaaa\"}]") ≡ codes "read"
unfolding serde_json_on_literals is_utf8 chars digits
expressions_name_of_64 = refl

pub expressions_name_of_65 : line_in_flow (codes "[\"return\",{\"v\":\"aaaaaaaaaaaaaaaaaaaaaaaaaaaaaaaaaaaaaaaaaaaaaaaaaaaaaaaaaaaaaaaaa\"}]") ≡ codes "shape #/flows/F/0/1/v"
unfolding serde_json_on_literals is_utf8 chars digits
expressions_name_of_65 = refl

pub expressions_name_of_a_digit : line_in_flow (codes "[\"return\",{\"v\":\"1\"}]") ≡ codes "shape #/flows/F/0/1/v"
unfolding serde_json_on_literals is_utf8 chars digits
expressions_name_of_a_digit = refl

pub expressions_two_members : line_in_flow (codes "[\"return\",{\"v\":\"x\",\"do\":[\"not\",true]}]") ≡ codes "shape #/flows/F/0/1"
unfolding serde_json_on_literals is_utf8 chars digits
expressions_two_members = refl

pub expressions_doubled : line_in_flow (codes "[\"return\",{\"v\":\"1\",\"v\":\"x\"}]") ≡ codes "read"
unfolding serde_json_on_literals is_utf8 chars digits
expressions_doubled = refl

pub expressions_doubled_last : line_in_flow (codes "[\"return\",{\"v\":\"x\",\"v\":\"1\"}]") ≡ codes "shape #/flows/F/0/1/v"
unfolding serde_json_on_literals is_utf8 chars digits
expressions_doubled_last = refl

pub expressions_no_operation : line_in_flow (codes "[\"return\",{\"do\":[\"not\"]}]") ≡ codes "shape #/flows/F/0/1/do"
unfolding serde_json_on_literals is_utf8 chars digits
expressions_no_operation = refl

pub expressions_operation_of_two : line_in_flow (codes "[\"return\",{\"do\":[\"add\",1]}]") ≡ codes "shape #/flows/F/0/1/do"
unfolding serde_json_on_literals is_utf8 chars digits
expressions_operation_of_two = refl

pub expressions_operation_no_word : line_in_flow (codes "[\"return\",{\"do\":[0,1]}]") ≡ codes "shape #/flows/F/0/1/do"
unfolding serde_json_on_literals is_utf8 chars digits
expressions_operation_no_word = refl

pub files_empty : line_for (codes "{}") ≡ codes "read"
unfolding serde_json_on_literals is_utf8 chars digits
files_empty = refl

pub files_both : line_for (codes " {\"flows\":{},\"classes\":{}}\n") ≡ codes "read"
unfolding serde_json_on_literals is_utf8 chars digits
files_both = refl

pub files_list : line_for (codes "[]") ≡ codes "shape #"
unfolding serde_json_on_literals is_utf8 chars digits
files_list = refl

pub files_further : line_for (codes "{\"flows\":{},\"plan\":{}}") ≡ codes "shape #"
unfolding serde_json_on_literals is_utf8 chars digits
files_further = refl

pub files_three : line_for (codes "{\"flows\":{},\"classes\":{},\"plan\":{}}") ≡ codes "shape #"
unfolding serde_json_on_literals is_utf8 chars digits
files_three = refl

pub files_flows_key : line_for (codes "{\"flows\":{\"A\":0,\"1\":[]}}") ≡ codes "shape #/flows"
unfolding serde_json_on_literals is_utf8 chars digits
files_flows_key = refl

pub files_flows_array : line_for (codes "{\"flows\":[]}") ≡ codes "shape #/flows"
unfolding serde_json_on_literals is_utf8 chars digits
files_flows_array = refl

pub files_classes_first : line_for (codes "{\"flows\":0,\"classes\":0}") ≡ codes "shape #/classes"
unfolding serde_json_on_literals is_utf8 chars digits
files_classes_first = refl

pub files_flows_in_order : line_for (codes "{\"flows\":{\"b\":0,\"a\":0,\"C\":0}}") ≡ codes "shape #/flows/C"
unfolding serde_json_on_literals is_utf8 chars digits
files_flows_in_order = refl

pub files_doubled : line_for (codes "{\"flows\":{\"F\":0,\"F\":[]}}") ≡ codes "read"
unfolding serde_json_on_literals is_utf8 chars digits
files_doubled = refl

pub files_doubled_last : line_for (codes "{\"flows\":{\"F\":[],\"F\":0}}") ≡ codes "shape #/flows/F"
unfolding serde_json_on_literals is_utf8 chars digits
files_doubled_last = refl

pub files_doubled_flows : line_for (codes "{\"flows\":0,\"flows\":{}}") ≡ codes "read"
unfolding serde_json_on_literals is_utf8 chars digits
files_doubled_flows = refl

pub classes_key : line_for (codes "{\"classes\":{\"\":{\"init\":0,\"ops\":{}}}}") ≡ codes "shape #/classes"
unfolding serde_json_on_literals is_utf8 chars digits
classes_key = refl

pub classes_short : line_for (codes "{\"classes\":{\"C\":{\"init\":0}}}") ≡ codes "shape #/classes/C"
unfolding serde_json_on_literals is_utf8 chars digits
classes_short = refl

pub classes_long : line_for (codes "{\"classes\":{\"C\":{\"init\":[[]],\"ops\":0,\"p\":0}}}") ≡ codes "shape #/classes/C"
unfolding serde_json_on_literals is_utf8 chars digits
classes_long = refl

pub classes_init : line_for (codes "{\"classes\":{\"C\":{\"init\":[0,[]],\"ops\":{}}}}") ≡ codes "shape #/classes/C/init/1"
unfolding serde_json_on_literals is_utf8 chars digits
classes_init = refl

pub classes_init_of_object : line_for (codes "{\"classes\":{\"C\":{\"init\":{},\"ops\":{}}}}") ≡ codes "shape #/classes/C/init"
unfolding serde_json_on_literals is_utf8 chars digits
classes_init_of_object = refl

pub classes_init_first : line_for (codes "{\"classes\":{\"C\":{\"ops\":0,\"init\":[{}]}}}") ≡ codes "shape #/classes/C/init/0"
unfolding serde_json_on_literals is_utf8 chars digits
classes_init_first = refl

pub classes_ops_key : line_for (codes "{\"classes\":{\"C\":{\"init\":0,\"ops\":{\"a b\":[]}}}}") ≡ codes "shape #/classes/C/ops"
unfolding serde_json_on_literals is_utf8 chars digits
classes_ops_key = refl

pub classes_doubled : line_for (codes "{\"classes\":{\"C\":{\"init\":{},\"init\":0,\"ops\":{}}}}") ≡ codes "read"
unfolding serde_json_on_literals is_utf8 chars digits
classes_doubled = refl

pub classes_operation_spawn : line_for (codes "{\"classes\":{\"C\":{\"init\":0,\"ops\":{\"o\":[[\"spawn\",\"x\",\"a\",1]]}}}}") ≡ codes "shape #/classes/C/ops/o/0"
unfolding serde_json_on_literals is_utf8 chars digits
classes_operation_spawn = refl

pub classes_operation_call : line_for (codes "{\"classes\":{\"C\":{\"init\":0,\"ops\":{\"o\":[[\"call\",\"x\",\"a\",1]]}}}}") ≡ codes "shape #/classes/C/ops/o/0"
unfolding serde_json_on_literals is_utf8 chars digits
classes_operation_call = refl

pub classes_operation_sub : line_for (codes "{\"classes\":{\"C\":{\"init\":0,\"ops\":{\"o\":[[\"sub\",\"x\",\"F\",\"k\",1]]}}}}") ≡ codes "shape #/classes/C/ops/o/0"
unfolding serde_json_on_literals is_utf8 chars digits
classes_operation_sub = refl

pub classes_operation_ask : line_for (codes "{\"classes\":{\"C\":{\"init\":0,\"ops\":{\"o\":[[\"ask\",\"x\",\"C\",\"k\",\"o\",1]]}}}}") ≡ codes "shape #/classes/C/ops/o/0"
unfolding serde_json_on_literals is_utf8 chars digits
classes_operation_ask = refl

pub classes_operation_timer : line_for (codes "{\"classes\":{\"C\":{\"init\":0,\"ops\":{\"o\":[[\"timer\",\"x\",1]]}}}}") ≡ codes "shape #/classes/C/ops/o/0"
unfolding serde_json_on_literals is_utf8 chars digits
classes_operation_timer = refl

pub classes_operation_event : line_for (codes "{\"classes\":{\"C\":{\"init\":0,\"ops\":{\"o\":[[\"event\",\"x\",\"e\"]]}}}}") ≡ codes "shape #/classes/C/ops/o/0"
unfolding serde_json_on_literals is_utf8 chars digits
classes_operation_event = refl

pub classes_operation_awaited : line_for (codes "{\"classes\":{\"C\":{\"init\":0,\"ops\":{\"o\":[[\"await\",\"x\",1]]}}}}") ≡ codes "shape #/classes/C/ops/o/0"
unfolding serde_json_on_literals is_utf8 chars digits
classes_operation_awaited = refl

pub classes_operation_all_of : line_for (codes "{\"classes\":{\"C\":{\"init\":0,\"ops\":{\"o\":[[\"all\",\"x\",1]]}}}}") ≡ codes "shape #/classes/C/ops/o/0"
unfolding serde_json_on_literals is_utf8 chars digits
classes_operation_all_of = refl

pub classes_operation_any_of : line_for (codes "{\"classes\":{\"C\":{\"init\":0,\"ops\":{\"o\":[[\"any\",\"x\",1]]}}}}") ≡ codes "shape #/classes/C/ops/o/0"
unfolding serde_json_on_literals is_utf8 chars digits
classes_operation_any_of = refl

pub classes_operation_signal : line_for (codes "{\"classes\":{\"C\":{\"init\":0,\"ops\":{\"o\":[[\"signal\",\"C\",\"k\",\"o\",1]]}}}}") ≡ codes "shape #/classes/C/ops/o/0"
unfolding serde_json_on_literals is_utf8 chars digits
classes_operation_signal = refl

pub classes_operation_lock : line_for (codes "{\"classes\":{\"C\":{\"init\":0,\"ops\":{\"o\":[[\"lock\",[[\"C\",\"k\"]],[]]]}}}}") ≡ codes "shape #/classes/C/ops/o/0"
unfolding serde_json_on_literals is_utf8 chars digits
classes_operation_lock = refl

pub classes_operation_within : line_for (codes "{\"classes\":{\"C\":{\"init\":0,\"ops\":{\"o\":[[\"try\",[],\"e\",[[\"if\",true,[[\"timer\",\"x\",1]],[]]]]]}}}}") ≡ codes "shape #/classes/C/ops/o/0/3/0/2/0"
unfolding serde_json_on_literals is_utf8 chars digits
classes_operation_within = refl

pub classes_operation : line_for (codes "{\"classes\":{\"C\":{\"init\":0,\"ops\":{\"o\":[[\"let\",\"self\",{\"v\":\"arg\"}],[\"if\",true,[[\"return\",1]],[[\"while\",false,[[\"fail\",\"x\"]]]]],[\"try\",[],\"e\",[]]]}}}}") ≡ codes "read"
unfolding serde_json_on_literals is_utf8 chars digits
classes_operation = refl

pub no_json_cut : line_for (codes "{\"flows\":{}") ≡ codes "not json"
unfolding serde_json_on_literals is_utf8 chars digits
no_json_cut = refl

pub no_json_comma : line_for (codes "{\"flows\":{},}") ≡ codes "not json"
unfolding serde_json_on_literals is_utf8 chars digits
no_json_comma = refl

pub no_json_surrogate : line_for (codes "{\"\\ud800\":0}") ≡ codes "not json"
unfolding serde_json_on_literals is_utf8 chars digits
no_json_surrogate = refl

pub no_json_huge : line_for (codes "1e400") ≡ codes "not json"
unfolding serde_json_on_literals is_utf8 chars digits
no_json_huge = refl

pub no_json_empty : line_for [] ≡ codes "not json"
unfolding serde_json_on_literals is_utf8 chars digits
no_json_empty = refl

pub no_json_two : line_for (codes "{}{}") ≡ codes "not json"
unfolding serde_json_on_literals is_utf8 chars digits
no_json_two = refl

pub no_json_leading_zero : line_for (codes "01") ≡ codes "not json"
unfolding serde_json_on_literals is_utf8 chars digits
no_json_leading_zero = refl

pub no_json_no_text : line_for (34 ∷ 255 ∷ 34 ∷ []) ≡ codes "not json"
unfolding serde_json_on_literals is_utf8 chars digits
no_json_no_text = refl

pub no_json_overlong : line_for (34 ∷ 192 ∷ 128 ∷ 34 ∷ []) ≡ codes "not json"
unfolding serde_json_on_literals is_utf8 chars digits
no_json_overlong = refl

pub no_json_marked : line_for (239 ∷ 187 ∷ 191 ∷ codes "{}") ≡ codes "not json"
unfolding serde_json_on_literals is_utf8 chars digits
no_json_marked = refl

pub no_json_line_feed_in_text : line_for (34 ∷ 10 ∷ 34 ∷ []) ≡ codes "not json"
unfolding serde_json_on_literals is_utf8 chars digits
no_json_line_feed_in_text = refl

pub no_json_nested : line_for (codes "[[[[[[[[[[[[[[[[[[[[[[[[[[[[[[[[[[[[[[[[[[[[[[[[[[[[[[[[[[[[[[[[[[[[[[[[[[[[[[[[[[[[[[[[[[[[[[[[[[[[[[[[[[[[[[[[[[[[[[[[[[[[[[[[]]]]]]]]]]]]]]]]]]]]]]]]]]]]]]]]]]]]]]]]]]]]]]]]]]]]]]]]]]]]]]]]]]]]]]]]]]]]]]]]]]]]]]]]]]]]]]]]]]]]]]]]]]]]]]]]]]]]]]]]]]]]]]]]") ≡ codes "not json"
unfolding serde_json_on_literals is_utf8 chars digits
no_json_nested = refl

pub no_json_nested_127 : line_for (codes "[[[[[[[[[[[[[[[[[[[[[[[[[[[[[[[[[[[[[[[[[[[[[[[[[[[[[[[[[[[[[[[[[[[[[[[[[[[[[[[[[[[[[[[[[[[[[[[[[[[[[[[[[[[[[[[[[[[[[[[[[[[[[[[]]]]]]]]]]]]]]]]]]]]]]]]]]]]]]]]]]]]]]]]]]]]]]]]]]]]]]]]]]]]]]]]]]]]]]]]]]]]]]]]]]]]]]]]]]]]]]]]]]]]]]]]]]]]]]]]]]]]]]]]]]]]]]]") ≡ codes "shape #"
unfolding serde_json_on_literals is_utf8 chars digits
no_json_nested_127 = refl
