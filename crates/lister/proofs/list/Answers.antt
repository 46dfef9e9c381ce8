-- `lister::list` ends as the lines from the start do: each line leads on to the next and leaves fewer to come, and a buffer that has no room for one holds something, which is written.
use Rattle.std.proofs.Common.{◌≡◌, length, refl, ap, ◌∙◌, arith}
use Rattle.lines.specs.Listing.{line_at}
use Rattle.lines.specs.Promises.{wrote, finished, tells_written, length_written}
use Rattle.lines.specs.declared.Written.TheVariants.{Line, Done}
use Rattle.lines.proofs.Ends.{written_advances, finished_comes}
use Rattle.lines.proofs.Moves.{same_length}
use Rattle.lister.proofs.Leads.{leads_on, leads_over}
use Rattle.lister.proofs.list.Goals as goal

pub loop-next-smaller-in-Ok-Line : goal.loop-next-smaller-in-Ok-Line
loop-next-smaller-in-Ok-Line g c =
    let l = c.next_line-listed.ensures in
    let line : c.in-Ok-Line.field-0 ≡ Line c.in-Ok-Line.next c.in-Ok-Line.field-0-1 = rw c.in-Ok-Line.is at c.in-Ok-Line.field-0-is in
    let told : tells_written c.next_line-listed.result.written ≡ wrote c.in-Ok-Line.next c.in-Ok-Line.field-0-1 = rw (c.in-Ok-Line.is, line) refl in
    let long : length_written c.next_line-listed.result.written ≡ c.in-Ok-Line.field-0-1 = rw (c.in-Ok-Line.is, line) refl in
    let advances = written_advances g.L.Listing.listable g.met.L.Listing.reads_on _ _ _ _ _ _ _ _ _ _ l.puts told in
    omega (arith, advances.fewer, advances.within, l.there, long, c.loop-next.invariant.room)

pub loop-next-preserved-in-Ok-Line : goal.loop-next-preserved-in-Ok-Line
loop-next-preserved-in-Ok-Line g c =
    let l = c.next_line-listed.ensures in
    let line : c.in-Ok-Line.field-0 ≡ Line c.in-Ok-Line.next c.in-Ok-Line.field-0-1 = rw c.in-Ok-Line.is at c.in-Ok-Line.field-0-is in
    let told : tells_written c.next_line-listed.result.written ≡ wrote c.in-Ok-Line.next c.in-Ok-Line.field-0-1 = rw (c.in-Ok-Line.is, line) refl in
    let long : length_written c.next_line-listed.result.written ≡ c.in-Ok-Line.field-0-1 = rw (c.in-Ok-Line.is, line) refl in
    let advances = written_advances g.L.Listing.listable g.met.L.Listing.reads_on _ _ _ _ _ _ _ _ _ _ l.puts told in
    let room = ap length l.puts.bytes ∙ same_length (line_at g.L.Listing.listable c.args.trace.now c.loop-next.progress c.loop-next.state) _ _ ∙ c.loop-next.invariant.room in
    record { room = room; held = omega (arith, advances.within, l.there, long, c.loop-next.invariant.room); leads = leads_on c.loop-next.invariant.leads advances }

pub returns-in-Ok-Done : goal.returns-in-Ok-Done
returns-in-Ok-Done g c =
    let done : c.in-Ok-Done.field-0 ≡ Done c.in-Ok-Done.whole = rw c.in-Ok-Done.is at c.in-Ok-Done.field-0-is in
    let told : tells_written c.next_line-listed.result.written ≡ finished c.in-Ok-Done.whole = rw (c.in-Ok-Done.is, done) refl in
    rw c.ending.ensures
    (leads_over c.loop-next.invariant.leads _ (finished_comes g.L.Listing.listable _ _ _ _ _ _ _ _ _ c.next_line-listed.ensures.puts told))
