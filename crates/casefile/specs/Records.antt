-- The records that a case file holds as numbers, in the order of their fields.
use Rattle.std.specs.Prelude.{ℕ, List, [], ◌∷◌, get_or}
use Rattle.event.specs.declared.Event.{Event}
use Rattle.event.specs.declared.Open.{Open}
use Rattle.phy.specs.declared.Phy.{Phy}

-- the numbers of a phy
abbrev pub phy_numbers : Phy → List ℕ
phy_numbers p =
    p.link
    ∷ p.port
    ∷ p.timer
    ∷ p.request.destination
    ∷ p.request.protocol
    ∷ p.request.rate
    ∷ p.request.tag
    ∷ p.request.blockedCount
    ∷ p.request.wait
    ∷ p.part
    ∷ p.reason
    ∷ p.inboundSource
    ∷ p.inboundProtocol
    ∷ p.connectionProtocol
    ∷ p.farClosed
    ∷ p.settings.accept
    ∷ []

-- a phy's request, of its numbers
abbrev pub request_of : List ℕ → Open
request_of f =
    record {
      destination = get_or f 3 0;
      protocol = get_or f 4 0;
      rate = get_or f 5 0;
      tag = get_or f 6 0;
      blockedCount = get_or f 7 0;
      wait = get_or f 8 0;
    }

-- the phy of numbers
abbrev pub phy_of : List ℕ → Phy
phy_of f =
    record {
      link = get_or f 0 0;
      port = get_or f 1 0;
      timer = get_or f 2 0;
      request = request_of f;
      part = get_or f 9 0;
      reason = get_or f 10 0;
      inboundSource = get_or f 11 0;
      inboundProtocol = get_or f 12 0;
      connectionProtocol = get_or f 13 0;
      farClosed = get_or f 14 0;
      settings = record { accept = get_or f 15 0 };
    }

-- the event of numbers: its code and six arguments
abbrev pub event_from : List ℕ → Event
event_from f =
    record {
      code = get_or f 0 0;
      first = get_or f 1 0;
      second = get_or f 2 0;
      third = get_or f 3 0;
      fourth = get_or f 4 0;
      fifth = get_or f 5 0;
      sixth = get_or f 6 0;
    }
