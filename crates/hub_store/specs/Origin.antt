-- Where a call begins.
use Rattle.std.specs.Prelude.{◌≢◌, ℕ, ◌<◌, List, []}
use Rattle.site_model.specs.History.{Step}
use Rattle.commit_log.specs.declared.header.Header.{Header}
use Rattle.dura_value.specs.Items.{Entry}

-- a partition's log as it was opened: its file, its header, its frames' payloads and the entries that they keep
pub record Log : Type 0 where
  pub file : ℕ
  pub header : Header
  pub payloads : List (List ℕ)
  pub entries : List Entry

-- a log of partition 0 without an entry
abbrev pub no_entry : ℕ → Log
no_entry file = record { file = file; header = record { partition = 0; partitions = 1; digest = 0; base = 0 }; payloads = []; entries = [] }

-- how many partitions there are, the log of each, and what happened outside before
pub record Origin : Type 0 where
  pub count : ℕ
  pub logs : ℕ → Log
  pub steps : List Step

-- each log lies in a file of its own
abbrev pub AreApart : Origin → Type 0
AreApart o = (part other : ℕ) → part < o.count → other < o.count → part ≢ other → (o.logs part).file ≢ (o.logs other).file

-- no log lies in this file
abbrev pub IsNoLog : Origin → ℕ → Type 0
IsNoLog o file = (part : ℕ) → part < o.count → (o.logs part).file ≢ file
