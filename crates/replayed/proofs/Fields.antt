-- A record's bytes as its event, for every value of every field.
-- Assumes nothing.
use Prim.Native.Nat.{ℕ, ◌+◌, ◌*◌}
use mathlib.Core.Bool.{true}
use mathlib.Core.List.{List, [], ◌∷◌, ◌++◌}
use mathlib.Core.Path.{◌≡◌, refl, ap, ◌∙◌}
use native.Mathlib.Omega.{arith}
use lib.ListN.{length, drop}
use Rattle.benchlog.specs.Format.{length_of_kind}
use Rattle.benchlog.specs.Reader.{entry_of, whole, found_in, decided, read_head, read_at}
use Rattle.benchlog.specs.declared.Entry.{Entry}
use Rattle.benchlog.specs.declared.Entry.TheVariants as entry
use Rattle.benchlog.proofs.Local.{head-local}
use Rattle.entries.specs.Entries.{event_of}
use Rattle.events.specs.Event as event
use Rattle.events.specs.Event.{Event}
use Rattle.recorded.specs.Recorded.{record_of, events_in}
use Rattle.replayed.specs.Events.{signed_of, four_of, IsRecordOf, Fields}

-- bytes that decide, by themselves, are read the same in a log
is-record : (e : Event) (r : Entry) (bytes : List ℕ) → decided bytes ≡ true → ((place : ℕ) → read_head place bytes ≡ whole r (place + length bytes)) → events_in (record_of r) ≡ e ∷ []
    → IsRecordOf e bytes
is-record e r bytes known reads is = record {
  entry = r;
  reads = λ log place rest h. ap (read_head place) h ∙ head-local place bytes rest known ∙ reads place;
  event-is = is;
}

-- ---- each kind
write-fields : (address byte : ℕ) → IsRecordOf (event.write address byte) (0 ∷ 3 ∷ 1 ∷ address ∷ byte ∷ [])
unfolding decided read_head found_in entry_of length_of_kind event_of
write-fields address byte = is-record _ (entry.Write (record { address = address; byte = byte })) _ refl (λ place. refl) refl

read-fields : (address count : ℕ) → IsRecordOf (event.read address count) (0 ∷ 3 ∷ 2 ∷ address ∷ count ∷ [])
unfolding decided read_head found_in entry_of length_of_kind event_of
read-fields address count = is-record _ (entry.Read (record { address = address; count = count })) _ refl (λ place. refl) refl

sample-fields : (x₁ x₀ y₁ y₀ z₁ z₀ t : ℕ)
    → IsRecordOf (event.sample (signed_of x₁ x₀) (signed_of y₁ y₀) (signed_of z₁ z₀) t) (0 ∷ 8 ∷ 3 ∷ x₁ ∷ x₀ ∷ y₁ ∷ y₀ ∷ z₁ ∷ z₀ ∷ t ∷ [])
unfolding decided read_head found_in entry_of length_of_kind event_of
sample-fields x₁ x₀ y₁ y₀ z₁ z₀ t =
    is-record _ (entry.Sample (record { x = signed_of x₁ x₀; y = signed_of y₁ y₀; z = signed_of z₁ z₀; temperature = t })) _ refl (λ place. refl) refl

cycle-fields : IsRecordOf event.cycle (0 ∷ 1 ∷ 4 ∷ [])
unfolding decided read_head found_in entry_of length_of_kind event_of
cycle-fields = is-record _ (entry.CycleStart (record {})) _ refl (λ place. refl) refl

clock-fields : (a b c d : ℕ) → IsRecordOf (event.clock (four_of a b c d)) (0 ∷ 5 ∷ 5 ∷ a ∷ b ∷ c ∷ d ∷ [])
unfolding decided read_head found_in entry_of length_of_kind event_of
clock-fields a b c d =
    let four : (a * 256 + b) * 65536 + (c * 256 + d) ≡ four_of a b c d = omega arith in
    is-record _ (entry.Clock (record { microseconds = four_of a b c d })) _ refl (λ place. ap (λ (us : ℕ). whole (entry.Clock (record { microseconds = us })) (place + 7)) four) refl

pub fields : Fields
fields = record { write = write-fields; read = read-fields; sample = sample-fields; cycle = cycle-fields; clock = clock-fields }
