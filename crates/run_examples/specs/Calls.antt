-- What a call's clauses say, by example.
use Rattle.std.specs.Prelude.{ℕ, true, List, [], ◌∷◌, codes, Some}
use Rattle.client_order.specs.Clashes.{Taken}
use Rattle.cluster_run.specs.Asked.{Job}
use Rattle.command_words.specs.declared.words.RunMode.TheVariants as modes
use Rattle.command_words.specs.declared.words.RunOptions.{RunOptions}
use Rattle.dura_model.specs.Partition.{Partition, fresh}
use Rattle.dura_model.specs.World.{World, empty}
use Rattle.dura_value.specs.ById.{at_number}
use Rattle.dura_value.specs.Digest.{fnv1a_64}
use Rattle.dura_value.specs.Ids.{client, orchestration}
use Rattle.dura_value.specs.Messages.{start, wait, to_request, was_started}
use Rattle.dura_value.specs.declared.data.Value.TheVariants as values
use Rattle.engine_rounds.specs.Heard.{Heard, heard_of}
use Rattle.flow_syntax.specs.Syntax.{Flows}
use Rattle.hub_store.specs.Trail.{Settled}
use Rattle.many_rules.specs.Rules.{Rules}
use Rattle.part_items.specs.Examples.{request, taking}
use Rattle.request_reader.specs.Line.{Request}
use Rattle.run_inputs.specs.Examples.{flows_bytes, one_flow, one_request}

-- no flows, and nobody asks for anything
abbrev pub no_flows : Flows
no_flows = record { flows = []; classes = [] }

-- what files of one flow and one request ask for
abbrev pub one_asked : Job
one_asked = record { flows = one_flow; digest = fnv1a_64 flows_bytes; requests = one_request ∷ [] }

-- client a's request 1: to start Sum/x; and to wait for its end under the same number
abbrev pub starting : Request
starting = record { client = codes "a"; number = 1; message = request }

abbrev pub waiting : Request
waiting = record { client = codes "a"; number = 1; message = record { from = client (codes "a"); to = orchestration (codes "Sum") (codes "x"); body = wait 1 } }

-- client b does so too; and a request to start Sum/x was taken of both
abbrev pub waiting_too : Request
waiting_too = record waiting { client = codes "b" }

abbrev pub both_taken : Partition
both_taken = record (fresh 0) { taken = at_number (at_number (fresh 0).taken (client (codes "a")) 1 (Some request)) (client (codes "b")) 1 (Some request) }

-- the entry by which it is taken was settled at the first moment
abbrev pub settled_once : List Settled
settled_once = record { partition = 0; entry = taking 0; at = 1 } ∷ []

-- rules of a call of one partition that begins where nothing happened, for these requests
abbrev pub rules_for : List Request → Rules
rules_for requests = record {
  flows = no_flows;
  count = 1;
  recovered = [];
  begin = fresh;
  incarnations = λ partition. 0;
  since = 0;
  most = 16;
  requests = requests;
  serves = true;
}

-- what this state has taken
abbrev pub taken_of : Partition → Taken
taken_of p name number = p.taken (client name) number

-- client b asks for the same
abbrev pub asking_too : Request
asking_too = record starting { client = codes "b" }

-- client a's requests 2 and 3
abbrev pub second : Request
second = record { client = codes "a"; number = 2; message = record request { body = start values.Null (to_request 2) } }

abbrev pub third : Request
third = record { client = codes "a"; number = 3; message = record request { body = start values.Null (to_request 3) } }

-- all that happened is that client a's request was taken; and that its second one was too, which alone was answered
abbrev pub held_back : Partition
held_back = record (fresh 0) { taken = at_number (fresh 0).taken (client (codes "a")) 1 (Some request) }

abbrev pub out_of_turn : World
out_of_turn = record empty {
  taken = at_number (at_number empty.taken (client (codes "a")) 1 (Some request)) (client (codes "a")) 2 (Some second.message);
  answers = at_number empty.answers (client (codes "a")) 2 (Some was_started);
}

-- all that happened is that client a's request was taken and answered
abbrev pub answered : World
answered = record empty {
  taken = at_number empty.taken (client (codes "a")) 1 (Some request);
  answers = at_number empty.answers (client (codes "a")) 1 (Some was_started);
}

-- one partition on one node
abbrev pub going_alone : (batch steps segment : ℕ) → RunOptions
going_alone batch steps segment = record { partitions = 1; nodes = 1; mode = modes.None; batch = batch; steps = steps; seed = 0; twice = 0; drop = 0; hold = 0; segment = segment }

-- options by which so many steps are enough
abbrev pub by_steps : ℕ → RunOptions
by_steps steps = going_alone 16 steps 4096

-- the clock gave nothing
abbrev pub unheard : Heard
unheard = heard_of [] [] 0
