use Rattle.world_laws.proofs.EachEvent.{goes_on}
use Rattle.world_laws.proofs.laws.made_entries_go_on.Goals as goal

pub returns : goal.returns
returns c rules mode nodes made old new event answer on still stands stands_then ground ground_then are happens = goes_on rules mode nodes made old new are on still stands stands_then ground ground_then event answer happens
