-- The log of one list of events and then another: each is the log from where the first leads.
use Prim.Native.Nat.{suc}
use mathlib.Core.List.{List, [], ◌∷◌, ◌++◌}
use mathlib.Core.Path.{◌≡◌, refl, ap}
use lib.ListN.{length}
use Rattle.event.specs.declared.Event.{Event}
use Rattle.phy.specs.declared.Phy.{Phy}
use Rattle.ledger.specs.Log.{Entry, Step, entry, log, after}

module _ (step : Step) where
  pub after_append : (p : Phy) (es fs : List Event) → after step p (es ++ fs) ≡ after step (after step p es) fs
  after_append p [] fs = refl
  after_append p (e ∷ es) fs = after_append (step p e).next es fs

  pub log_append : (p : Phy) (es fs : List Event) → log step p (es ++ fs) ≡ log step p es ++ log step (after step p es) fs
  log_append p [] fs = refl
  log_append p (e ∷ es) fs = ap (λ (l : List Entry). entry step p e ∷ l) (log_append (step p e).next es fs)

  -- one entry for each event
  pub length_log : (p : Phy) (es : List Event) → length (log step p es) ≡ length es
  length_log p [] = refl
  length_log p (e ∷ es) = ap suc (length_log (step p e).next es)
