use Rattle.log_tests.proofs.stores.call.Goals as goal

pub reopen-requires-clause-place : goal.reopen-requires-clause-place
reopen-requires-clause-place g c = c.requires

pub returns-in-Ok : goal.returns-in-Ok
returns-in-Ok g c = c.call_going.ensures

pub returns-in-Err-Some : goal.returns-in-Err-Some
returns-in-Err-Some g c = c.reopen.ensures
