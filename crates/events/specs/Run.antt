-- Sequences of events from power-up.
use Rattle.std.specs.Prelude.{ℕ, List, [], ◌∷◌, ◌++◌}
use Rattle.device.specs.Device as device
use Rattle.device.specs.declared.Device.{Device}
use Rattle.events.specs.Event.{Event, happens, Given, gives}

-- the device after an event
abbrev pub next : Device → Event → Device
next d e = (happens d e).device

-- ---- a history: the latest event stands first
-- the device after the events
unfoldable pub after : List Event → Device
after [] = device.power_up
after (e ∷ es) = next (after es) e

-- ---- a script: the first event stands first
-- the history when a script has come behind a history
abbrev pub script_onto : List Event → List Event → List Event
script_onto [] history = history
script_onto (e ∷ es) history = script_onto es (e ∷ history)

-- the device after a script, and what each of its events gives
abbrev pub onward : Device → List Event → Device
onward d [] = d
onward d (e ∷ es) = onward (next d e) es

abbrev pub all_given : Device → List Event → List Given
all_given d [] = []
all_given d (e ∷ es) = gives d e ∷ all_given (next d e) es

-- the bytes that several events give, one after the other
abbrev pub bytes_joined : List Given → List ℕ
bytes_joined [] = []
bytes_joined (g ∷ gs) = g.bytes ++ bytes_joined gs
