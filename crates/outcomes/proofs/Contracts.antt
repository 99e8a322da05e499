-- Demand 1 of the contracts themselves, as the toolchain reads them from the source: of the functions that the programs and the entry for C
-- call, which have the device in parts, of the device's own, which have it by value, of the log's reader and writer, and of those that
-- follow a log.
-- Assumes nothing.
use Prim.Native.Nat.{ℕ}
use mathlib.Core.Bool.{Bool, true, false}
use mathlib.Core.List.{List, []}
use mathlib.Core.Path.{◌≡◌, refl, sym, ap}
use contract.Lifetimes.{Lfts}
use denote.Triple.Clauses.{Ended, AtExit}
use denote.Triple.Entry.{Args, Res}
use lib.Dec.{ltb}
use lib.ListN.{length, drop}
use Rattle.laws.specs.Choice.{pick, either}
use Rattle.laws.specs.Outcome.{Claim, promised}
use Rattle.registers.specs.Answers.{number}
use Rattle.device.specs.Parts.{whole, answered_whole}
use Rattle.device.specs.declared.Answered.{Answered}
use Rattle.device.specs.declared.Device.{Device}
use Rattle.events.specs.Event.{Event, write, read, sample, cycle, clock, happens, lent_by}
use Rattle.entries.specs.Entries.{event_into}
use Rattle.benchlog.specs.Answers.{found_number, begins_number, room_number}
use Rattle.benchlog.specs.Reader.{FoundAt, decided, read_at, read_version}
use Rattle.benchlog.specs.Whole.{look_of}
use Rattle.benchlog.specs.declared.Refusal.{Refusal}
use Rattle.benchlog.specs.declared.Entry.{Entry}
use Rattle.benchlog.specs.declared.Entry.TheVariants as entry
use Rattle.follow.specs.Source.{records}
use Rattle.std.specs.Prelude.{Some, None, Result, Ok, Err}
use Rattle.follow.specs.Follow.{Halted, Wait, Full, Stop, as_halted, step_room, step_as, step_where, step_of, as_sought, sought_of, has_version, opened_as, opened_where, opened_of}
use Rattle.follow.specs.contracts.open_log as open-log
use Rattle.follow.specs.contracts.seek as seek
use Rattle.device.specs.contracts.Device.write as write-contract
use Rattle.device.specs.contracts.Device.read as read-contract
use Rattle.device.specs.contracts.Device.sample as sample-contract
use Rattle.device.specs.contracts.Device.start_cycle as cycle-contract
use Rattle.device.specs.contracts.Device.clock as clock-contract
use Rattle.device.specs.contracts.parts.Core.write as core-write
use Rattle.device.specs.contracts.parts.Core.read as core-read
use Rattle.device.specs.contracts.parts.Core.sample as core-sample
use Rattle.device.specs.contracts.parts.Core.start_cycle as core-cycle
use Rattle.device.specs.contracts.parts.Core.clock as core-clock
use Rattle.entries.specs.contracts.play as play
use Rattle.logreader.specs.contracts.read_version as read-version
use Rattle.logreader.specs.contracts.read_entry as read-entry
use Rattle.logwriter.specs.contracts.write_version as write-version
use Rattle.logwriter.specs.contracts.write_entry as write-entry
use Rattle.outcomes.specs.LogNumbers.{NoRoomForVersion, NoRoomForRecord}
use Rattle.outcomes.specs.Demand1.{◌when◌else◌, done, DueOn, DueAtStart, DueAtPlace, Tabled, next_place, place_behind, Askable}
use Rattle.outcomes.specs.Promises.{Promises}
use Rattle.outcomes.proofs.LogRefusals.{encode-spelled}
use Rattle.outcomes.proofs.Demand1.{demand1}

says : {T : Ended} {claim said : Claim T}
    → ((κs : Lfts T.signature.lifetimes) (a : Args T.signature κs) (r : Res T.signature κs) (e : AtExit T κs) → claim κs a r e → said κs a r e)
    → Promises T (promised T claim) said
says {claim = claim} holds = record { claim = claim; asks_nothing = refl; says = holds }

-- ---- events
-- an event on a device, with a buffer that is lent: its answer with the device then, and the buffer then
abbrev Event-tabled : Device → Event → List ℕ → Answered → List ℕ → Type 0
Event-tabled d e buffer after buffer' = Tabled (Device × List ℕ) (DueOn d e) (number after.answer) (d, buffer) (after.device, buffer')

lending : (d : Device) (e : Event) (buffer : List ℕ) → Askable e buffer → {after : Answered} {buffer' : List ℕ} → after ≡ happens d e → buffer' ≡ lent_by d e buffer
    → Event-tabled d e buffer after buffer'
lending d e buffer h p q = rw (p, q) (demand1.event d e buffer h)

-- one that is lent no buffer
abbrev Alone-tabled : Device → Event → Answered → Type 0
Alone-tabled d e after = Tabled Device (DueOn d e) (number after.answer) d after.device

alone : (d : Device) (e : Event) → Askable e [] → {after : Answered} → after ≡ happens d e → lent_by d e [] ≡ [] → Alone-tabled d e after
alone d e h {after} p q =
    let t = lending d e [] h p (sym q) in
    record { exactly = t.exactly; unchanged = λ r. ap (λ (x : Device × List ℕ). x.0) (t.unchanged r) }

-- the device in parts: a write, a read into a buffer of any length, a sample, a cycle start and a clock
pub core-write-tabled : Promises core-write.ended (λ M 𝓤. core-write.clauses) (λ κs a r e.
    let d = whole a.0 a.1.0.now a.1.1.0.now in
    Alone-tabled d (write a.1.1.1.0 a.1.1.1.1.0) (answered_whole r e.1.0.now e.1.1.0.now))
core-write-tabled = says (λ κs a r e p.
    alone (whole a.0 a.1.0.now a.1.1.0.now) (write a.1.1.1.0 a.1.1.1.1.0) tt p refl)

pub core-read-tabled : Promises core-read.ended (λ M 𝓤. core-read.clauses) (λ κs a r e.
    let d = whole a.0 a.1.0.now a.1.1.0.now in
    let buffer = a.1.1.1.1.0.now in
    Event-tabled d (read a.1.1.1.0 (length buffer)) buffer (answered_whole r a.1.0.now e.1.1.0.now) e.1.1.1.1.0.now)
core-read-tabled = says (λ κs a r e p.
    lending (whole a.0 a.1.0.now a.1.1.0.now) (read a.1.1.1.0 (length a.1.1.1.1.0.now)) a.1.1.1.1.0.now refl p.0 p.1)

pub core-sample-tabled : Promises core-sample.ended (λ M 𝓤. core-sample.clauses) (λ κs a r e.
    let d = whole a.0 a.1.0.now a.1.1.0.now in
    Alone-tabled d (sample a.1.1.1.0 a.1.1.1.1.0 a.1.1.1.1.1.0 a.1.1.1.1.1.1.0) (answered_whole r a.1.0.now e.1.1.0.now))
core-sample-tabled = says (λ κs a r e p.
    alone (whole a.0 a.1.0.now a.1.1.0.now) (sample a.1.1.1.0 a.1.1.1.1.0 a.1.1.1.1.1.0 a.1.1.1.1.1.1.0) tt p refl)

-- these two are lent neither registers nor store: with any
pub core-cycle-tabled : Promises core-cycle.ended (λ M 𝓤. core-cycle.clauses) (λ κs a r e.
    (regs frames : List ℕ) → Alone-tabled (whole a.0 regs frames) cycle (answered_whole r regs frames))
core-cycle-tabled = says (λ κs a r e p regs frames. alone (whole a.0 regs frames) cycle tt (p regs frames) refl)

pub core-clock-tabled : Promises core-clock.ended (λ M 𝓤. core-clock.clauses) (λ κs a r e.
    (regs frames : List ℕ) → Alone-tabled (whole a.0 regs frames) (clock a.1.0) (answered_whole r regs frames))
core-clock-tabled = says (λ κs a r e p regs frames. alone (whole a.0 regs frames) (clock a.1.0) tt (p regs frames) refl)

-- a record of a log, played: that is how the replay and the answer have their events
askable : (x : Entry) (buffer : List ℕ) → Askable (event_into (length buffer) x) buffer
unfolding event_into
askable (entry.Write w) buffer = tt
askable (entry.Read q) buffer = refl
askable (entry.Sample s) buffer = tt
askable (entry.CycleStart c) buffer = tt
askable (entry.Clock k) buffer = tt

pub play-tabled : Promises play.ended (λ M 𝓤. play.clauses) (λ κs a r e.
    let d = whole a.0 a.1.0.now a.1.1.0.now in
    let buffer = a.1.1.1.1.0.now in
    Event-tabled d (event_into (length buffer) a.1.1.1.0) buffer (answered_whole r e.1.0.now e.1.1.0.now) e.1.1.1.1.0.now)
play-tabled = says (λ κs a r e p.
    let x = a.1.1.1.0 in
    let buffer = a.1.1.1.1.0.now in
    lending (whole a.0 a.1.0.now a.1.1.0.now) (event_into (length buffer) x) buffer (askable x buffer) p.0 p.1)

-- the device by value
pub write-tabled : Promises write-contract.ended (λ M 𝓤. write-contract.clauses) (λ κs a r e. Alone-tabled a.0 (write a.1.0 a.1.1.0) r)
write-tabled = says (λ κs a r e p. alone a.0 (write a.1.0 a.1.1.0) tt p refl)

pub read-tabled : Promises read-contract.ended (λ M 𝓤. read-contract.clauses) (λ κs a r e.
    let buffer = a.1.1.0.now in Event-tabled a.0 (read a.1.0 (length buffer)) buffer r e.1.1.0.now)
read-tabled = says (λ κs a r e p. lending a.0 (read a.1.0 (length a.1.1.0.now)) a.1.1.0.now refl p.0 p.1)

pub sample-tabled : Promises sample-contract.ended (λ M 𝓤. sample-contract.clauses) (λ κs a r e.
    Alone-tabled a.0 (sample a.1.0 a.1.1.0 a.1.1.1.0 a.1.1.1.1.0) r)
sample-tabled = says (λ κs a r e p. alone a.0 (sample a.1.0 a.1.1.0 a.1.1.1.0 a.1.1.1.1.0) tt p refl)

pub cycle-tabled : Promises cycle-contract.ended (λ M 𝓤. cycle-contract.clauses) (λ κs a r e. Alone-tabled a.0 cycle r)
cycle-tabled = says (λ κs a r e p. alone a.0 cycle tt p refl)

pub clock-tabled : Promises clock-contract.ended (λ M 𝓤. clock-contract.clauses) (λ κs a r e. Alone-tabled a.0 (clock a.1.0) r)
clock-tabled = says (λ κs a r e p. alone a.0 (clock a.1.0) tt p refl)

-- ---- the log's. A reader is lent the log to read alone
pub read-version-tabled : Promises read-version.ended (λ M 𝓤. read-version.clauses) (λ κs a r e.
    Tabled ℕ (DueAtStart a.0.now) (begins_number r) 0 (next_place 0 r))
read-version-tabled = says (λ κs a r e p. rw p (demand1.at-start a.0.now))

pub read-entry-tabled : Promises read-entry.ended (λ M 𝓤. read-entry.clauses) (λ κs a r e.
    Tabled ℕ (DueAtPlace (drop a.1.0 a.0.now)) (found_number r) a.1.0 (place_behind a.1.0 r))
read-entry-tabled = says (λ κs a r e p. rw p (demand1.at_place a.0.now a.1.0))

pub write-version-tabled : Promises write-version.ended (λ M 𝓤. write-version.clauses) (λ κs a r e.
    Tabled (List ℕ × ℕ) (10 when NoRoomForVersion a.0.now a.1.0 else done) (room_number r) (a.0.now, a.1.0) (e.0.now, next_place a.1.0 r))
write-version-tabled = says (λ κs a r e p. rw (p.0, p.1) (demand1.version-room a.0.now a.1.0))

pub write-entry-tabled : Promises write-entry.ended (λ M 𝓤. write-entry.clauses) (λ κs a r e.
    Tabled (List ℕ × ℕ) (10 when NoRoomForRecord a.0.now a.1.0 a.1.1.0 else done) (room_number r) (a.0.now, a.1.0) (e.0.now, next_place a.1.0 r))
write-entry-tabled = says (λ κs a r e p. rw (p.0, p.1, encode-spelled a.1.1.0) (demand1.record-room a.0.now a.1.0 a.1.1.0))

-- ---- who follows a log: where it says that the log is at its end, the refusal is the number that is due there, 0 where nothing is refused
abbrev pub where_stopped : {A : Type 0} → (ℕ → Type 0) → Result A Halted → Type 0
where_stopped Due (Ok found) = Unit
where_stopped Due (Err Wait) = Unit
where_stopped Due (Err Full) = Unit
where_stopped Due (Err (Stop refusal)) = Due refusal

module _ (log : List ℕ) (at room : ℕ) (last : Bool) where
  abbrev here : List ℕ
  here = drop at log

  sought-due : where_stopped (DueAtPlace here) (sought_of log at room last)
  unfolding step_of
  sought-due = go (ltb room step_room) (either last (decided here)) (read_at here 0) (((demand1.at_place here 0).exactly _).0 refl)
    where
      go : (t u : Bool) (f : FoundAt) → DueAtPlace here (found_number f)
          → where_stopped (DueAtPlace here) (as_sought (step_where (pick t (Err Full) (pick u (Ok tt) (Err Wait))) (step_as (look_of f) at)))
      go true u f due = tt
      go false true (Ok (Some found)) due = tt
      go false true (Ok None) due = due
      go false true (Err refusal) due = due
      go false false f due = tt

module _ (begun : Bool) (log : List ℕ) (room : ℕ) (last : Bool) where
  opened-due : where_stopped (DueAtStart log) (opened_of records begun log room last)
  unfolding opened_of
  opened-due = go begun (ltb room step_room) (either last (has_version (length log))) (read_version log) (((demand1.at-start log).exactly _).0 refl)
    where
      go : (s t u : Bool) (b : Result ℕ Refusal) → DueAtStart log (begins_number b)
          → where_stopped (DueAtStart log) (pick s (Ok 0) (opened_where (pick t (Err Full) (pick u (Ok tt) (Err Wait))) (opened_as b)))
      go true t u b due = tt
      go false true u b due = tt
      go false false true (Ok next) due = tt
      go false false true (Err refusal) due = due
      go false false false b due = tt

pub open-log-stops : Promises open-log.ended (λ M 𝓤. open-log.clauses) (λ κs a r e. where_stopped (DueAtStart a.1.0.now) (as_halted r))
open-log-stops = says (λ κs a r e p. rw p (opened-due a.0 a.1.0.now a.1.1.0 a.1.1.1.0))

pub seek-stops : Promises seek.ended (λ M 𝓤. seek.clauses) (λ κs a r e. where_stopped (DueAtPlace (drop a.1.0 a.0.now)) (as_halted r))
seek-stops = says (λ κs a r e p. rw p (sought-due a.0.now a.1.0 a.1.1.0 a.1.1.1.0))
