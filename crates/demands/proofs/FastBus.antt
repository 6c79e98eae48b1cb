-- The statements of specs/FastBus.antt: those of `places` at the calls of the receiver of fast packets.
-- Assumes nothing.
use Rattle.places.proofs.Calls as Calls
use Rattle.fast.specs.Calls.{fast_calls}
use Rattle.fast.proofs.KeepsPlaces.{fast_keeps_places, fast_pauses_add}
use Rattle.demands.specs.FastBus.{BusyBus, OpenOnBus, ToldOnBus, NoPlaceFree, PauseCount, SumsOfPauses, StartKept}
use Rattle.demands.specs.FastBus.{RulesKept, EveryRunRuns, NoPlaceFreeAt, PauseCountAt}

pub busy_bus : BusyBus
busy_bus names = Calls.busy_bus (fast_calls names) (fast_keeps_places names)

pub open_on_bus : OpenOnBus
open_on_bus names = Calls.open_on_bus (fast_calls names) (fast_keeps_places names)

pub told_on_bus : ToldOnBus
told_on_bus names = Calls.told_on_bus (fast_calls names) (fast_keeps_places names)

pub no_place_free : NoPlaceFree
no_place_free names = Calls.no_place_free (fast_calls names) (fast_keeps_places names)

pub pause_count : PauseCount
pause_count names = Calls.pause_count (fast_calls names) (fast_keeps_places names)

pub sums_of_pauses : SumsOfPauses
sums_of_pauses names = Calls.sums_on_bus (fast_calls names) (fast_keeps_places names) (fast_pauses_add names)

pub start_kept : StartKept
start_kept names = Calls.start_kept (fast_calls names) (fast_keeps_places names)

pub rules_kept : RulesKept
rules_kept names = Calls.rules_kept (fast_calls names) (fast_keeps_places names)

pub every_run_runs : EveryRunRuns
every_run_runs names = Calls.every_run_runs (fast_calls names) (fast_keeps_places names)

pub no_place_free_at : NoPlaceFreeAt
no_place_free_at names = Calls.full_at_any_state (fast_calls names) (fast_keeps_places names)

pub pause_count_at : PauseCountAt
pause_count_at names = Calls.pause_at_any_state (fast_calls names) (fast_keeps_places names)
