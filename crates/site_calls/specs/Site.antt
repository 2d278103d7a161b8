-- What a site over calls is seen as.
use Rattle.std.specs.Prelude.{ℕ, Option}
use Rattle.site_calls.specs.declared.fault.Fault.{Fault}
use Rattle.site_calls.specs.declared.site.CalledSite.{CalledSite}

-- its calls
abbrev pub calls_of : {C S : Type 0} {c : _} {s : _} → CalledSite C S c s → C
calls_of site = site.calls

-- how often a length, a read, a write or a sync has failed
abbrev pub disk_faults_of : {C S : Type 0} {c : _} {s : _} → CalledSite C S c s → ℕ
disk_faults_of site = site.disk_faults

-- how often saying a line has failed
abbrev pub say_faults_of : {C S : Type 0} {c : _} {s : _} → CalledSite C S c s → ℕ
say_faults_of site = site.say_faults

-- what failed last
abbrev pub fault_of : {C S : Type 0} {c : _} {s : _} → CalledSite C S c s → Option Fault
fault_of site = site.fault
