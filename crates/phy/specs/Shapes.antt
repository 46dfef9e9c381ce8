-- The words in which moves are written: the shapes of a phy that they go to, and what a step reports with it.
use Rattle.std.specs.Prelude.{ℕ}
use Rattle.table.specs.Flags.{off}
use Rattle.event.specs.declared.Open.{Open}
use Rattle.phy.specs.Names.{L0, L2, P1, P3, P4}
use Rattle.phy.specs.declared.Waited.{Waited}
use Rattle.phy.specs.declared.Settings.{Settings}
use Rattle.phy.specs.declared.Phy.{Phy}
use Rattle.phy.specs.declared.Stepped.{Stepped}

infix 70 ◌and◌
-- a wait and its part of a millisecond, as they are written
abbrev pub ◌and◌ : (wait part : ℕ) → Waited
wait and part = record { wait = wait; part = part }

-- ---- shapes: what is in use is given, all else is zero

-- no Open: every argument zero
abbrev pub no_open : Open
no_open = record { destination = 0; protocol = 0; rate = 0; tag = 0; blockedCount = 0; wait = 0 }

-- an Open with another wait
abbrev pub with_wait : Open → (wait : ℕ) → Open
with_wait o wait =
    record {
      destination = o.destination;
      protocol = o.protocol;
      rate = o.rate;
      tag = o.tag;
      blockedCount = o.blockedCount;
      wait = wait;
    }

-- a request that waits, or none, with no connection and no OPEN from the far end
abbrev pub requesting : (settings : Settings) (link port timer : ℕ) (request : Open) (part : ℕ) → Phy
requesting settings link port timer request part =
    record {
      link = link;
      port = port;
      timer = timer;
      request = request;
      part = part;
      reason = 0;
      inboundSource = 0;
      inboundProtocol = 0;
      connectionProtocol = 0;
      farClosed = off;
      settings = settings;
    }

-- a request that is given up: its wait stands, and its answer waits for L0
abbrev pub given_up : (settings : Settings) (link timer : ℕ) (request : Open) (reason : ℕ) → Phy
given_up settings link timer request reason =
    record {
      link = link;
      port = P4;
      timer = timer;
      request = request;
      part = 0;
      reason = reason;
      inboundSource = 0;
      inboundProtocol = 0;
      connectionProtocol = 0;
      farClosed = off;
      settings = settings;
    }

-- neither request nor connection
abbrev pub idle : Settings → Phy
idle settings = requesting settings L0 P1 0 no_open 0

-- an OPEN from the far end, with a request that waits or none
abbrev pub selected : (settings : Settings) (port : ℕ) (request : Open) (part source protocol : ℕ) → Phy
selected settings port request part source protocol =
    record {
      link = L2;
      port = port;
      timer = 0;
      request = request;
      part = part;
      reason = 0;
      inboundSource = source;
      inboundProtocol = protocol;
      connectionProtocol = 0;
      farClosed = off;
      settings = settings;
    }

-- a connection
abbrev pub connected : (settings : Settings) (link timer protocol farClosed : ℕ) → Phy
connected settings link timer protocol farClosed =
    record {
      link = link;
      port = P3;
      timer = timer;
      request = no_open;
      part = 0;
      reason = 0;
      inboundSource = 0;
      inboundProtocol = 0;
      connectionProtocol = protocol;
      farClosed = farClosed;
      settings = settings;
    }

-- a fresh phy is idle and rejects opens
abbrev pub fresh_phy : Phy
fresh_phy = idle (record { accept = off })

-- the phy with this timer, request, part and settings, all else as it is
abbrev pub changed : Phy → (timer : ℕ) (request : Open) (part : ℕ) (settings : Settings) → Phy
changed p timer request part settings =
    record {
      link = p.link;
      port = p.port;
      timer = timer;
      request = request;
      part = part;
      reason = p.reason;
      inboundSource = p.inboundSource;
      inboundProtocol = p.inboundProtocol;
      connectionProtocol = p.connectionProtocol;
      farClosed = p.farClosed;
      settings = settings;
    }

-- with another timer alone
abbrev pub with_timer : Phy → (timer : ℕ) → Phy
with_timer p timer = changed p timer p.request p.part p.settings

-- another wait of its request, with its part
abbrev pub with_waited : Phy → Waited → Phy
with_waited p w = changed p p.timer (with_wait p.request w.wait) w.part p.settings

-- other settings
abbrev pub with_settings : Phy → (settings : Settings) → Phy
with_settings p settings = changed p p.timer p.request p.part settings

-- ---- reports: an answer with its Open, a notice, a primitive sent; each 0 where there is none

-- an answer with the arguments of its Open
abbrev pub answers : (next : Phy) (answer : ℕ) (request : Open) (notice sent : ℕ) → Stepped
answers next answer request notice sent =
    record {
      next = next;
      answered = request;
      answer = answer;
      notice = notice;
      sent = sent;
      refusal = 0;
    }

-- no answer
abbrev pub reports : (next : Phy) (notice sent : ℕ) → Stepped
reports next notice sent = answers next 0 no_open notice sent

-- nothing changes
abbrev pub quiet : Phy → Stepped
quiet p = reports p 0 0

-- a refusal: the phy as given, every report zero
abbrev pub refused : Phy → ℕ → Stepped
refused p n = record { next = p; answered = no_open; answer = 0; notice = 0; sent = 0; refusal = n }
