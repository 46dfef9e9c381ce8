-- `shelf_run::events::all_unset` meets its contract: each record is unset.
use mathlib.Core.Path.{◌≡◌}
use Prim.Native.Nat.{ℕ, ◌<◌}
use lib.ListN.{get_or}
use Rattle.std.proofs.Common.{rules}
use Rattle.bay.specs.State.{fresh_bay}
use Rattle.port.specs.Names.{most_phys}
use Rattle.shelf_run.specs.Running.{unset}
use Rattle.shelf_run.proofs.Unset.{all_changed}
use Rattle.shelf_run.proofs.events.all_unset.Goals as goal

pub returns : goal.returns
returns c =
    all_changed unset fresh_bay c.args.table.bays c.map.result (search rules) c.map.ensures.items.long
    (λ i h. let k = (c.map.ensures.items.at i fresh_bay fresh_bay h).2 in search rules)
