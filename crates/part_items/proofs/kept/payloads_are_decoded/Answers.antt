-- Payloads are decoded one behind the other.
use Rattle.part_items.proofs.PayloadsDecoded.{decoded_last, decoded_numbered, spelled_decoded, spelled_appended}
use Rattle.part_items.proofs.kept.payloads_are_decoded.Goals as goal

pub returns-clause-last : goal.returns-clause-last
returns-clause-last c = decoded_last

pub returns-clause-numbered : goal.returns-clause-numbered
returns-clause-numbered c = decoded_numbered

pub returns-clause-spelled : goal.returns-clause-spelled
returns-clause-spelled c = spelled_decoded

pub returns-clause-appended : goal.returns-clause-appended
returns-clause-appended c = spelled_appended
