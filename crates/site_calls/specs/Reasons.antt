-- Why a call failed, in words.
use Rattle.std.specs.Prelude.{◌++◌, ℕ, List, codes}
use Rattle.site_calls.specs.FileNumbers.{name_text}
use Rattle.site_calls.specs.declared.reason.Reason.{Reason}
use Rattle.site_calls.specs.declared.reason.Reason.TheVariants.{NullDevice, Directory, Locked, HeldFile, NotRegular, SameAs}

abbrev pub reason_text : Reason → List ℕ
reason_text NullDevice = codes "the null device can't be opened"
reason_text Directory = codes "the directory can't be opened or locked"
reason_text Locked = codes "another run holds the directory"
reason_text HeldFile = codes "another run holds this file"
reason_text NotRegular = codes "not a regular file"
reason_text (SameAs name) = codes "the same file as " ++ name_text name
