-- 01, "one thin entry that borrows the harness's own record and updates it for one event": power-up and then calls, one after the other, and
-- what their caller sees, from the events that they ask for alone. In a history the latest event stands first.
use Rattle.std.specs.Prelude.{ℕ, ◌≤◌, ◌/◌, ◌%◌, true, List, [], ◌∷◌, ◌↔◌, ◌≢◌, ◌≡◌, eqb, ℤ, length}
use Rattle.std.proofs.Math.Option.{Option, some, none}
use Rattle.laws.specs.Bytes.{first_or_zeros}
use Rattle.laws.specs.Choice.{pick}
use Rattle.laws.specs.Keys.{◌means◌, meaning_of}
use Rattle.fifo.specs.Flat.{flat}
use Rattle.fifo.specs.Ledger.{held_of}
use Rattle.interrupts.specs.declared.Level.TheVariants.{Low, High, Released}
use Rattle.interrupts.specs.declared.Pins.{Pins}
use Rattle.device.specs.Device as device
use Rattle.device.specs.Show.{pins_of}
use Rattle.device.specs.declared.Device.{Device}
use Rattle.events.specs.Event.{Event, power_up, write, read, sample, cycle, clock, gives}
use Rattle.events.specs.Run.{after}
use Rattle.events.specs.Views.{at_read}
use Rattle.demand3.specs.Demand.{fates}
use Rattle.history.specs.History.{accelerometer, twin, Demand3Here}
use Rattle.rules.specs.Bursts.{is_burst}
use Rattle.rules.specs.Rules.{ruled_from}
use Rattle.outcomes.specs.Demand1.{DueOn, Tabled}
use Rattle.demand2.specs.Demand2.{Demand2, elsewhere}
use Rattle.demand2.specs.Watermark.{Watermark}
use Rattle.twin.specs.Entry.{device_in, asked, step_of, lent_at, pins_code}
use Rattle.twin.specs.declared.Harness.{Harness}

-- ---- what a C program does
-- what twin_event is handed beside the record. The buffer is the caller's, with what it holds before
pub record Handed : Type 0 where
  pub kind : ℕ
  pub address : ℕ
  pub byte : ℕ
  pub x : ℤ
  pub y : ℤ
  pub z : ℤ
  pub buffer : List ℕ
  pub microseconds : ℕ

-- a call of twin_power_up, or of twin_event
pub data Call : Type 0 where
  powers_up : Call
  hands : Handed → Call

-- what the caller sees of twin_event: the number that it gives back, and the buffer then
pub record Seen : Type 0 where
  pub number : ℕ
  pub buffer : List ℕ

-- ---- what the contracts allow
-- the event that twin_event is asked for, as its contract has it
abbrev pub requested : Handed → Option Event
requested c = asked c.kind c.address c.byte c.x c.y c.z (length c.buffer) c.microseconds

-- what its contract lets it leave: from the device that the record was, what is seen, and the device that the record then is
abbrev pub Leaves : Device → Handed → Seen → Device → Type 0
Leaves d c s d' =
    (s.number ≡ (step_of d (requested c)).number) × (d' ≡ (step_of d (requested c)).device) × (s.buffer ≡ lent_at d (requested c) c.buffer)

-- calls one after the other, the first first, each on the record that the one before left: from the record before them, what is seen, and
-- the record at the end
pub data CallsMade : Harness → List Call → List Seen → Harness → Type 0 where
  no_more : {h : Harness} → CallsMade h [] [] h
  on-power-up : {h h' end : Harness} {cs : List Call} {ss : List Seen} → device_in h' ≡ device.power_up → CallsMade h' cs ss end → CallsMade h (powers_up ∷ cs) ss end
  on-event : {h h' end : Harness} {c : Handed} {s : Seen} {cs : List Call} {ss : List Seen}
      → Leaves (device_in h) c s (device_in h') → CallsMade h' cs ss end → CallsMade h (hands c ∷ cs) (s ∷ ss) end

-- ---- the same, from the events
-- "1 write (address, byte; ..), 2 read (address, count; ..), 3 sample (x, y, z .., temperature; ..), 4 cycle start", and Q-4's "log kind 5". A
-- read is of as many bytes as the buffer has. Any other kind is no event
abbrev pub event_for : Handed → Option Event
event_for c =
    meaning_of
    (1 means some (write c.address c.byte)
    ∷ 2 means some (read c.address (length c.buffer))
    ∷ 3 means some (sample c.x c.y c.z c.byte)
    ∷ 4 means some cycle
    ∷ 5 means some (clock c.microseconds)
    ∷ [])
    none c.kind

-- the history when a call has come behind it, and when many have
abbrev pub event_onto : Option Event → List Event → List Event
event_onto (some e) es = e ∷ es
event_onto none es = es

abbrev pub events_asked_onto : List Event → List Call → List Event
events_asked_onto es [] = es
events_asked_onto es (powers_up ∷ cs) = events_asked_onto (power_up ∷ es) cs
events_asked_onto es (hands c ∷ cs) = events_asked_onto (event_onto (event_for c) es) cs

-- the events of calls from power-up
abbrev pub events_asked : List Call → List Event
events_asked = events_asked_onto []

-- what is seen behind a history. Of an event its number and, where it is a read that is done, its bytes in the buffer; of none 8, "record
-- length or kind wrong", and the buffer as it was
abbrev pub seen_of : List Event → Option Event → List ℕ → Seen
seen_of es (some e) buffer =
    let g = gives (after es) e in
    record { number = g.number; buffer = at_read buffer (λ a n. pick (eqb g.number 0) g.bytes buffer) e }
seen_of es none buffer = record { number = 8; buffer = buffer }

abbrev pub all_seen : List Event → List Call → List Seen
all_seen es [] = []
all_seen es (powers_up ∷ cs) = all_seen (power_up ∷ es) cs
all_seen es (hands c ∷ cs) = seen_of es (event_for c) c.buffer ∷ all_seen (event_onto (event_for c) es) cs

-- ---- the pins in one byte: "TWIN_LOW = 0, TWIN_HIGH = 1, TWIN_RELEASED = 2", "that of INT1 plus 4 times that of INT2"
pub record Coded (p : Pins) (code : ℕ) : Type 0 where
  pub int1-low : p.int1 ≡ Low → code % 4 ≡ 0
  pub int1-high : p.int1 ≡ High → code % 4 ≡ 1
  pub int1-released : p.int1 ≡ Released → code % 4 ≡ 2
  pub int2-low : p.int2 ≡ Low → code / 4 ≡ 0
  pub int2-high : p.int2 ≡ High → code / 4 ≡ 1
  pub int2-released : p.int2 ≡ Released → code / 4 ≡ 2

-- ---- one call of twin_event, on any record, also one that no power-up leads to: record, what is handed, what is seen, and the record then
pub record OneCall (h : Harness) (c : Handed) (s : Seen) (h' : Harness) : Type 0 where
  -- Effect "none": "device, lent buffer and log unchanged"
  pub refused : s.number ≢ 0 → (h' ≡ h) × (s.buffer ≡ c.buffer)
  -- 8, "record length or kind wrong": of any kind but 1 to 5, and of these never. So nothing changes then
  pub no_kind : (s.number ≡ 8) ↔ (¬ ((1 ≤ c.kind) × (c.kind ≤ 5)))
  -- demand 1: where an event is asked for, each of its numbers is given exactly when 01 says
  pub tabled : (e : Event) → event_for c ≡ some e → Tabled (Harness × List ℕ) (DueOn (device_in h) e) s.number (h, c.buffer) (h', s.buffer)

-- ---- power-up and then any calls, whatever the record held before: what was seen, and the record at the end
pub record Served (cs : List Call) (ss : List Seen) (end : Harness) : Type 0 where
  pub seen : ss ≡ all_seen [] cs
  pub is-after : device_in end ≡ after (events_asked cs)
  -- what twin_pins gives then
  pub pins : Coded (pins_of (after (events_asked cs))) (pins_code (device_in end))
  -- the demands, with nothing asked of the caller
  pub demand2 : Demand2 (events_asked cs)
  pub watermark : Watermark (events_asked cs)
  pub demand3 : Demand3Here twin (events_asked cs)
  -- demand 2 of the record itself: what a call that reads would see next, below 0x3F, and of the frames
  pub below : (c : Handed) (s : Seen) (h : Harness) → Leaves (device_in end) c s (device_in h) → c.kind ≡ 2 → is_burst c.address (length c.buffer) ≡ true
      → s ≡ record { number = 0; buffer = ruled_from (elsewhere (events_asked cs)) (events_asked cs) c.address (length c.buffer) }
  pub frames : (c : Handed) (s : Seen) (h : Harness) → Leaves (device_in end) c s (device_in h) → c.kind ≡ 2 → c.address ≡ 0x3F → 1 ≤ length c.buffer → length c.buffer ≤ 192
      → s ≡ record { number = 0; buffer = first_or_zeros (length c.buffer) (flat (held_of (fates accelerometer (events_asked cs)))) }
