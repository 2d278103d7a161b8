use Rattle.log_tests.proofs.stores.say.Goals as goal

pub returns-in-Err-SayFault : goal.returns-in-Err-SayFault
returns-in-Err-SayFault g c = c.say.ensures.sound

pub returns : goal.returns
returns g c = c.say.ensures.sound
