-- What is written of a line is told by whether it fits, and so is the state that is left.
use Prim.Native.Nat.{ℕ, ◌≤◌}
use mathlib.Core.List.{List}
use lib.ListN.{length}
use lib.Seq.{length-sets}
use mathlib.Core.Path.{◌≡◌, refl}
use Rattle.std.specs.Prelude.{Ok, Err}
use Rattle.table.specs.Choice.{pick}
use Rattle.table.specs.Refusals.{no_room, number_of}
use Rattle.table.proofs.Laws.{apart, by_test}
use Rattle.output.specs.declared.Text.{Text}
use Rattle.lines.specs.Lines.{most_line}
use Rattle.lines.specs.Listing.{Next, line_of, no_line}
use Rattle.lines.specs.Promises.{Answer, Goes, PutsLine, PutsNext, wrote, finished, refused, tells_written, fits, write_line, buffer_after, moved_on}
use Rattle.lines.specs.Laws.{MovesOn, Stays}
use Rattle.lines.specs.declared.Progress.{Progress}
use Rattle.lines.specs.declared.Written.TheVariants.{Line, Done}

moved : {S : Type 0} (line : List ℕ) (next : Progress) (before : List ℕ) (at : ℕ) (r : Answer) (old b : S)
    → tells_written r ≡ write_line line next before at → moved_on r old b ≡ pick (fits line before at) b old
moved line next before at (Ok (Line to n)) old b e =
    by_test (fits line before at) (λ t. rw t refl) (λ f. let w : wrote to n ≡ refused no_room = rw f at e in apart cc)
moved line next before at (Ok (Done whole)) old b e =
    by_test (fits line before at) (λ t. let w : finished whole ≡ wrote next _ = rw t at e in apart cc) (λ f. let w : finished whole ≡ refused no_room = rw f at e in apart cc)
moved line next before at (Err refusal) old b e =
    by_test (fits line before at) (λ t. let w : refused (number_of refusal) ≡ wrote next _ = rw t at e in apart cc) (λ f. rw f refl)

pub moves_on : {S : Type 0} → MovesOn S
moves_on line next before at r after old b p =
    record { says = p.puts.says; state = moved line next before at r old b p.puts.says; bytes = p.puts.bytes; short = p.short }

pub stays : {S : Type 0} → Stays S
stays line next before at r after b p =
    record {
      says = p.puts.says;
      state = by_test (fits line before at) (λ t. rw t refl) (λ f. rw f refl);
      bytes = p.puts.bytes;
      short = p.short;
    }

pub stays_short : {S : Type 0} (line : List ℕ) (next : Progress) (before : List ℕ) (at : ℕ) (r : Answer) (after : List ℕ) (b : S)
    → PutsLine line next before at r after → length line ≤ most_line → PutsNext (line_of line next b) b before at b r after
stays_short line next before at r after b p short = stays line next before at r after b (record { puts = p; short = short })

-- a text that goes on as one contract says goes on as another that it leads to
pub goes_by : {C D : List ℕ → ℕ → Answer → List ℕ → Type 0} (old new : Text) (r : Answer)
    → ((before : List ℕ) (at : ℕ) (after : List ℕ) → C before at r after → D before at r after) → Goes C old new r → Goes D old new r
goes_by old new r f g =
    record { puts = f old.out.now old.n new.out.now g.puts; there = g.there; same_buffer = g.same_buffer }

-- writing what comes next keeps the buffer's length
pub same_length : {S : Type 0} (n : Next S) (buffer : List ℕ) (at : ℕ) → length (buffer_after n buffer at) ≡ length buffer
same_length (line_of bytes next b) buffer at =
    by_test (fits bytes buffer at) (λ t. rw t (length-sets buffer at bytes)) (λ f. rw f refl)
same_length (no_line whole) buffer at = refl
