-- A record put into a row: every other is left, by the laws of lists.
use lib.ListN.{length-set}
use lib.Seq.{get_or-set_same, get_or-set_other}
use Rattle.bay.specs.State.{fresh_bay}
use Rattle.port.specs.Laws.{PutsOne}

pub puts_one : PutsOne
puts_one row i b =
    record {
      long = length-set row i b;
      here = λ l. get_or-set_same row i b fresh_bay l;
      others = λ j n. get_or-set_other row i j b fresh_bay n;
    }
