-- `counts::place::Place::new` meets its contract: the row is tested, and the column found or not.
use mathlib.Core.Path.{refl}
use borrow.Author.Tests.{lt-ltb}
use Rattle.counts.proofs.Columns.{column_found, column_missing}
use Rattle.counts.proofs.place.Place.new.Goals as goal

pub returns-in_default : goal.returns-in_default
returns-in_default c = rw (lt-ltb _ _ c.if-bay.false, column_missing _ c.in_default.ensures) (refl, refl)

pub returns : goal.returns
returns c = let f = column_found _ _ c.in-Some.ensures in rw (lt-ltb _ _ c.if-bay.false, f.1) (refl, refl, f.0)
