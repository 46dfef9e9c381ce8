-- Each result says one thing, so a contract that gives what is said gives the result.
use Prim.Native.Nat.{ℕ}
use mathlib.Core.Bool.{true, false}
use mathlib.Core.List.{List}
use mathlib.Core.Path.{◌≡◌, refl, sym, ap, ◌∙◌}
use lib.Dec.{leb}
use lib.ListN.{length}
use Rattle.std.specs.Prelude.{Option, Some, None, Result, Ok, Err}
use Rattle.table.proofs.Laws.{by_test}
use Rattle.table.specs.Results.{TellsOnce, DeterminesLent}
use Rattle.table.proofs.Results.{leads_back, refusal_of, refusal_back, by_equation, by_telling, by_result_lent}
use Rattle.table.specs.declared.Refusal.{Refusal}
use Rattle.number.specs.declared.Found.{Found as FoundAt}
use Rattle.trace.specs.declared.Fault.{Fault}
use Rattle.output.specs.Writing.{line}
use Rattle.lines.specs.Lines.{most_columns, end_line, stop_line, too_long_line}
use Rattle.lines.specs.Listing.{Found, found, nothing, fault, Listable, Next, line_at, found_in}
use Rattle.lines.specs.Promises.{Answer, ToldWritten, wrote, finished, refused, tells_written, PutsShort, PutsColumns, PutsEvent, WritesNext}
use Rattle.lines.specs.Laws.{Determined, NextDetermined}
use Rattle.lines.specs.declared.Progress.{Progress}
use Rattle.lines.specs.declared.Progress.TheVariants.{Done as ProgressDone}
use Rattle.lines.specs.declared.Written.TheVariants.{Line, Done}

-- what is said tells which result said it
answer : ToldWritten → Answer
answer (wrote next n) = Ok (Line next n)
answer (finished whole) = Ok (Done whole)
answer (refused n) = Err (refusal_of n)

answers : (r : Answer) → answer (tells_written r) ≡ r
unfolding answer
answers (Ok (Line next n)) = refl
answers (Ok (Done whole)) = refl
answers (Err refusal) = ap Err (refusal_back refusal)

written_once : TellsOnce tells_written
written_once = leads_back answer answers

short_once : (line : List ℕ) (next : Progress) (before : List ℕ) (at : ℕ) → DeterminesLent (PutsShort line next before at)
short_once line next before at = by_result_lent written_once (λ r after a. record { says = a.puts.says; leaves = a.puts.bytes })

columns_once : (place : ℕ) (columns : List ℕ) (next : Progress) (before : List ℕ) (at : ℕ) → DeterminesLent (PutsColumns place columns next before at)
columns_once place columns next before at r q after later a b =
    by_test (leb (length columns) most_columns)
    (λ t. short_once (line place columns) next before at r q after later (rw t at a) (rw t at b))
    (λ f. let x = rw f at a in let y = rw f at b in (x.0 ∙ sym y.0, x.1 ∙ sym y.1))

pub next_determined : {S : Type 0} (n : Next S) → NextDetermined n
next_determined n old before at b c r q after later x y =
    (x.state ∙ sym y.state, written_once r q (x.says ∙ sym y.says), x.bytes ∙ sym y.bytes)

pub listed_once : {S : Type 0} (n : Next S) (b : S) (before : List ℕ) (at : ℕ) → DeterminesLent (WritesNext n b before at)
listed_once n b before at r q after later x y =
    let same = next_determined n b before at r.state q.state r.written q.written after later x y in
    (λ i. record { state = same.0 i; written = same.1 i }, same.2)

event_once : {S E : Type 0} (m : Listable S E) (b : S) (place : ℕ) (e : E) (next : Progress) (before : List ℕ) (at : ℕ)
    → DeterminesLent (PutsEvent m b place e next before at)
event_once m b place e next before at r q after later x y =
    let line = short_once (m.line place b e) next before at r.written q.written after later x.line y.line in
    let state = x.state ∙ sym y.state in
    (λ i. record { state = state i; written = line.0 i }, line.1)

-- what is found tells what found it
finding : {E : Type 0} → Found E → Result (Option (FoundAt E)) Fault
finding (found e next) = Ok (Some (record { value = e; next = next }))
finding nothing = Ok None
finding (fault n at) = Err (record { refusal = refusal_of n; place = at })

findings : {E : Type 0} (r : Result (Option (FoundAt E)) Fault) → finding (found_in r) ≡ r
unfolding finding
findings (Ok (Some f)) = refl
findings (Ok None) = refl
findings (Err f) = ap (λ (refusal : Refusal). Err (record { refusal = refusal; place = f.place })) (refusal_back f.refusal)

found_once : {E : Type 0} → TellsOnce (found_in {E = E})
found_once = leads_back finding findings

pub determined : Determined
determined =
    record {
      written_once = written_once;
      start = λ length. by_equation _;
      put_line = λ line next before at. by_result_lent written_once (λ r after a. record { says = a.says; leaves = a.bytes });
      put_columns = columns_once;
      put_end = λ place count. short_once (end_line place count) (ProgressDone true);
      put_stop = λ place refusal. short_once (stop_line place refusal) (ProgressDone false);
      put_too_long = short_once too_long_line (ProgressDone false);
      header = λ m r q a b. a.words ∙ sym b.words;
      read = λ m s place. by_telling found_once _;
      put_event = event_once;
      next_event = listed_once;
      next_line = λ m s progress b. listed_once (line_at m s progress b) b;
    }
