-- `put_listing` ends: a line leaves fewer to come.
use Rattle.std.proofs.Common.{◌≡◌, refl}
use Rattle.lines.specs.Promises.{wrote, tells_written}
use Rattle.lines.specs.declared.Written.TheVariants.{Line}
use Rattle.lines.proofs.Ends.{written_advances}
use Rattle.casefile.proofs.listings.put_listing.Goals as goal

pub loop-next-smaller : goal.loop-next-smaller
loop-next-smaller g c =
    let line : c.in-Ok-Line.field-0 ≡ Line c.in-Ok-Line.next c.in-Ok-Line.field-0-1 = rw c.in-Ok-Line.is at c.in-Ok-Line.field-0-is in
    let told : tells_written c.next_line-listed.result.written ≡ wrote c.in-Ok-Line.next c.in-Ok-Line.field-0-1 = rw (c.in-Ok-Line.is, line) refl in
    (written_advances g.L.Listing.listable g.met.L.Listing.reads_on _ _ _ _ _ _ _ _ _ _ c.next_line-listed.ensures.puts told).fewer
