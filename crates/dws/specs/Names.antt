-- The paper's numbers of dword synchronization.
use Rattle.std.specs.Prelude.{ℕ}
use Rattle.dws.specs.declared.State.{State}
use Rattle.dws.specs.declared.State.TheVariants.{AcquireSync, Valid1, Valid2, SyncAcquired, Lost1, Lost1Recovered}
use Rattle.dws.specs.declared.State.TheVariants.{Lost2, Lost2Recovered, Lost3, Lost3Recovered}
use Rattle.dws.specs.declared.Event.{Event}
use Rattle.dws.specs.declared.Event.TheVariants.{InvalidDword, DataDword, Primitive, Restart}
use Rattle.dws.specs.declared.Report.{Report}
use Rattle.dws.specs.declared.Report.TheVariants.{NoReport, Acquired, Lost}

-- ---- the states, as the standard names them

abbrev pub acquire_sync : ℕ
acquire_sync = 0

abbrev pub valid1 : ℕ
valid1 = 1

abbrev pub valid2 : ℕ
valid2 = 2

abbrev pub sync_acquired : ℕ
sync_acquired = 3

abbrev pub lost1 : ℕ
lost1 = 4

abbrev pub lost1_recovered : ℕ
lost1_recovered = 5

abbrev pub lost2 : ℕ
lost2 = 6

abbrev pub lost2_recovered : ℕ
lost2_recovered = 7

abbrev pub lost3 : ℕ
lost3 = 8

abbrev pub lost3_recovered : ℕ
lost3_recovered = 9

-- the number of each state
abbrev pub number_of_state : State → ℕ
number_of_state AcquireSync = acquire_sync
number_of_state Valid1 = valid1
number_of_state Valid2 = valid2
number_of_state SyncAcquired = sync_acquired
number_of_state Lost1 = lost1
number_of_state Lost1Recovered = lost1_recovered
number_of_state Lost2 = lost2
number_of_state Lost2Recovered = lost2_recovered
number_of_state Lost3 = lost3
number_of_state Lost3Recovered = lost3_recovered

-- ---- the events

abbrev pub invalid_dword : ℕ
invalid_dword = 0

abbrev pub data_dword : ℕ
data_dword = 1

abbrev pub primitive : ℕ
primitive = 2

abbrev pub restart : ℕ
restart = 3

-- the number of each event
abbrev pub number_of_event : Event → ℕ
number_of_event InvalidDword = invalid_dword
number_of_event DataDword = data_dword
number_of_event Primitive = primitive
number_of_event Restart = restart

-- ---- the reports

abbrev pub no_report : ℕ
no_report = 0

abbrev pub acquired : ℕ
acquired = 1

abbrev pub lost : ℕ
lost = 2

-- the number of each report
abbrev pub number_of_report : Report → ℕ
number_of_report NoReport = no_report
number_of_report Acquired = acquired
number_of_report Lost = lost
