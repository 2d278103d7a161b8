-- No value has a float.
use Rattle.client_port.proofs.Floats.{written}
use Rattle.client_port.proofs.json.value_text.Goals as goal

pub returns : goal.returns
returns c = written _ c.args.value.now c.in_ok-text.text.items c.in_ok-json.ensures c.in_ok-text.ensures.text
