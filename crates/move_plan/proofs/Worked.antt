-- Worked rows, by computation.
use Rattle.std.proofs.Common.{◌≡◌, [], ◌∷◌, codes, Err, refl}
use Rattle.std.specs.Str.{chars, is_utf8}
use Rattle.serde_json.proofs.OnLiterals.{serde_json_on_literals}
use Rattle.move_plan.specs.declared.error.Place.TheVariants as places
use Rattle.move_plan.specs.Plans.{plan_in}
use Rattle.move_plan.specs.Rows.{going, stopping, plan_with}

pub whole_files_empty : plan_in 4 2 (codes "") ≡ Err places.Whole
unfolding serde_json_on_literals is_utf8 chars
whole_files_empty = refl

pub whole_files_list : plan_in 4 2 (codes "[]") ≡ Err places.Whole
unfolding serde_json_on_literals is_utf8 chars
whole_files_list = refl

pub whole_files_cut : plan_in 4 2 (codes "{\"moves\":[") ≡ Err places.Whole
unfolding serde_json_on_literals is_utf8 chars
whole_files_cut = refl

pub whole_files_no_utf8 : plan_in 4 2 (34 ∷ 255 ∷ 34 ∷ []) ≡ Err places.Whole
unfolding serde_json_on_literals is_utf8 chars
whole_files_no_utf8 = refl

pub whole_files_no_list : plan_in 4 2 (codes "{\"moves\":{}}") ≡ Err places.Whole
unfolding serde_json_on_literals is_utf8 chars
whole_files_no_list = refl

pub whole_files_null : plan_in 4 2 (codes "{\"stops\":null}") ≡ Err places.Whole
unfolding serde_json_on_literals is_utf8 chars
whole_files_null = refl

pub whole_files_further : plan_in 4 2 (codes "{\"moves\":[],\"turns\":[]}") ≡ Err places.Whole
unfolding serde_json_on_literals is_utf8 chars
whole_files_further = refl

pub whole_files_shape_first : plan_in 4 2 (codes "{\"moves\":[0],\"stops\":0}") ≡ Err places.Whole
unfolding serde_json_on_literals is_utf8 chars
whole_files_shape_first = refl

pub whole_files_nothing : plan_in 4 2 (codes "{}") ≡ plan_with [] []
unfolding serde_json_on_literals is_utf8 chars
whole_files_nothing = refl

pub whole_files_blanks : plan_in 4 2 (codes " { \"stops\" : [ ] } ") ≡ plan_with [] []
unfolding serde_json_on_literals is_utf8 chars
whole_files_blanks = refl

pub whole_files_last_counts : plan_in 4 2 (codes "{\"moves\":0,\"moves\":[]}") ≡ plan_with [] []
unfolding serde_json_on_literals is_utf8 chars
whole_files_last_counts = refl

pub moves_partition_past : plan_in 4 1 (codes "{\"moves\":[{\"turn\":1,\"partition\":4,\"node\":0}]}") ≡ Err (places.Move 0)
unfolding serde_json_on_literals is_utf8 chars
moves_partition_past = refl

pub moves_last_partition : plan_in 4 1 (codes "{\"moves\":[{\"turn\":1,\"partition\":3,\"node\":0}]}") ≡ plan_with (going 1 3 0 ∷ []) []
unfolding serde_json_on_literals is_utf8 chars
moves_last_partition = refl

pub moves_node_past : plan_in 4 2 (codes "{\"moves\":[{\"turn\":1,\"partition\":0,\"node\":1},{\"turn\":1,\"partition\":0,\"node\":2}]}") ≡ Err (places.Move 1)
unfolding serde_json_on_literals is_utf8 chars
moves_node_past = refl

pub moves_no_turn : plan_in 4 2 (codes "{\"moves\":[{\"turn\":0,\"partition\":0,\"node\":0}]}") ≡ Err (places.Move 0)
unfolding serde_json_on_literals is_utf8 chars
moves_no_turn = refl

pub moves_greatest_turn : plan_in 4 2 (codes "{\"moves\":[{\"turn\":18446744073709551615,\"partition\":0,\"node\":0}]}") ≡ plan_with (going 18446744073709551615 0 0 ∷ []) []
unfolding serde_json_on_literals is_utf8 chars
moves_greatest_turn = refl

pub moves_too_great : plan_in 4 2 (codes "{\"moves\":[{\"turn\":18446744073709551616,\"partition\":0,\"node\":0}]}") ≡ Err (places.Move 0)
unfolding serde_json_on_literals is_utf8 chars
moves_too_great = refl

pub moves_below_zero : plan_in 4 2 (codes "{\"moves\":[{\"turn\":-1,\"partition\":0,\"node\":0}]}") ≡ Err (places.Move 0)
unfolding serde_json_on_literals is_utf8 chars
moves_below_zero = refl

pub moves_minus_zero : plan_in 4 2 (codes "{\"moves\":[{\"turn\":1,\"partition\":-0,\"node\":0}]}") ≡ Err (places.Move 0)
unfolding serde_json_on_literals is_utf8 chars
moves_minus_zero = refl

pub moves_point : plan_in 4 2 (codes "{\"moves\":[{\"turn\":1.0,\"partition\":0,\"node\":0}]}") ≡ Err (places.Move 0)
unfolding serde_json_on_literals is_utf8 chars
moves_point = refl

pub moves_exponent : plan_in 4 2 (codes "{\"moves\":[{\"turn\":1e2,\"partition\":0,\"node\":0}]}") ≡ Err (places.Move 0)
unfolding serde_json_on_literals is_utf8 chars
moves_exponent = refl

pub moves_text : plan_in 4 2 (codes "{\"moves\":[{\"turn\":\"1\",\"partition\":0,\"node\":0}]}") ≡ Err (places.Move 0)
unfolding serde_json_on_literals is_utf8 chars
moves_text = refl

pub moves_no_node : plan_in 4 2 (codes "{\"moves\":[{\"turn\":1,\"partition\":0}]}") ≡ Err (places.Move 0)
unfolding serde_json_on_literals is_utf8 chars
moves_no_node = refl

pub moves_further : plan_in 4 2 (codes "{\"moves\":[{\"turn\":1,\"partition\":0,\"node\":0,\"of\":0}]}") ≡ Err (places.Move 0)
unfolding serde_json_on_literals is_utf8 chars
moves_further = refl

pub moves_no_object : plan_in 4 2 (codes "{\"moves\":[{\"turn\":1,\"partition\":0,\"node\":0},[1,0,0]]}") ≡ Err (places.Move 1)
unfolding serde_json_on_literals is_utf8 chars
moves_no_object = refl

pub moves_last_counts : plan_in 4 2 (codes "{\"moves\":[{\"turn\":0,\"turn\":2,\"partition\":0,\"node\":1}]}") ≡ plan_with (going 2 0 1 ∷ []) []
unfolding serde_json_on_literals is_utf8 chars
moves_last_counts = refl

pub moves_twice : plan_in 4 2 (codes "{\"moves\":[{\"turn\":9,\"partition\":0,\"node\":1},{\"turn\":3,\"partition\":0,\"node\":1}]}") ≡ plan_with (going 9 0 1 ∷ going 3 0 1 ∷ []) []
unfolding serde_json_on_literals is_utf8 chars
moves_twice = refl

pub stops_only_node : plan_in 4 1 (codes "{\"stops\":[{\"turn\":1,\"node\":0}]}") ≡ Err (places.Stop 0)
unfolding serde_json_on_literals is_utf8 chars
stops_only_node = refl

pub stops_every_node : plan_in 4 2 (codes "{\"stops\":[{\"turn\":5,\"node\":1},{\"turn\":5,\"node\":1},{\"turn\":1,\"node\":0},{\"turn\":1,\"node\":1}]}") ≡ Err (places.Stop 2)
unfolding serde_json_on_literals is_utf8 chars
stops_every_node = refl

pub stops_one_left : plan_in 4 3 (codes "{\"stops\":[{\"turn\":5,\"node\":1},{\"turn\":5,\"node\":1},{\"turn\":1,\"node\":0}]}") ≡ plan_with [] (stopping 5 1 ∷ stopping 5 1 ∷ stopping 1 0 ∷ [])
unfolding serde_json_on_literals is_utf8 chars
stops_one_left = refl

pub stops_node_past : plan_in 4 2 (codes "{\"stops\":[{\"turn\":1,\"node\":2}]}") ≡ Err (places.Stop 0)
unfolding serde_json_on_literals is_utf8 chars
stops_node_past = refl

pub stops_no_turn : plan_in 4 2 (codes "{\"stops\":[{\"turn\":0,\"node\":1}]}") ≡ Err (places.Stop 0)
unfolding serde_json_on_literals is_utf8 chars
stops_no_turn = refl

pub stops_further : plan_in 4 2 (codes "{\"stops\":[{\"turn\":1,\"partition\":0,\"node\":1}]}") ≡ Err (places.Stop 0)
unfolding serde_json_on_literals is_utf8 chars
stops_further = refl

pub stops_shape_first : plan_in 4 1 (codes "{\"stops\":[{\"turn\":1,\"node\":0},{}]}") ≡ Err (places.Stop 1)
unfolding serde_json_on_literals is_utf8 chars
stops_shape_first = refl

pub stops_moves_first : plan_in 4 1 (codes "{\"stops\":[{\"turn\":1,\"node\":9}],\"moves\":[{\"turn\":1,\"partition\":9,\"node\":0}]}") ≡ Err (places.Move 0)
unfolding serde_json_on_literals is_utf8 chars
stops_moves_first = refl

pub stops_both : plan_in 4 2 (codes "{\"moves\":[{\"turn\":20,\"partition\":0,\"node\":1}],\"stops\":[{\"turn\":30,\"node\":0}]}") ≡ plan_with (going 20 0 1 ∷ []) (stopping 30 0 ∷ [])
unfolding serde_json_on_literals is_utf8 chars
stops_both = refl

pub stops_no_node : plan_in 0 0 (codes "{\"stops\":[],\"moves\":[]}") ≡ plan_with [] []
unfolding serde_json_on_literals is_utf8 chars
stops_no_node = refl
