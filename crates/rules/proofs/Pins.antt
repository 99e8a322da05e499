-- Demand 2: after any events from power-up on, both pins are as the rules of 01 say, of the bytes that are read.
-- Assumes nothing.
use Prim.Native.Nat.{ℕ, ◌<◌}
use mathlib.Core.Bool.{Bool, true, false}
use mathlib.Core.Path.{◌≡◌, refl, sym, ap, ◌∙◌}
use mathlib.Core.List.{List, [], ◌∷◌}
use native.Mathlib.Omega.{arith}
use lib.Dec.{ltb}
use lib.ListN.{get_or}
use borrow.Author.Tests.{ltb-true}
use Rattle.laws.specs.Choice.{pick, both, either}
use Rattle.laws.specs.Lists.{is_in}
use Rattle.laws.specs.Bits.{bit}
use Rattle.laws.proofs.Finite.{left, right}
use Rattle.interrupts.specs.Maps.{all_statuses, is_active}
use Rattle.interrupts.specs.Pins.{level_of, pin_level}
use Rattle.interrupts.specs.declared.Statuses.{Statuses}
use Rattle.interrupts.specs.declared.Pin.TheVariants.{Int1, Int2}
use Rattle.device.specs.Device.{reg}
use Rattle.device.specs.Show.{pins_of}
use Rattle.events.specs.Event.{Event}
use Rattle.events.specs.Run.{after}
use Rattle.rules.specs.Shown.{bit_seen}
use Rattle.rules.specs.Rules.{Place, status_addresses, ruled, is_tabled, Mapped, maps, is_one, some_mapped, Leveled}
use Rattle.rules.proofs.Worths.{holds_at}
use Rattle.rules.proofs.Shown.{shown_in, elsewhere_in}
use Rattle.rules.proofs.Reading.{statuses_now, byte-seen, tabled-seen, status-seen}

-- ---- what the maps name
-- a place that the maps name shows a status, or is of the register table
abbrev is_named : Place → Bool
is_named p = both (ltb p.address 0x3F) (either (is_in status_addresses p.address) (is_tabled p.address))

abbrev are_named : (Mapped → Place) → List Mapped → Bool
are_named pin [] = true
are_named pin (m ∷ ms) = both (is_named m.shown) (both (is_named (pin m)) (are_named pin ms))

-- two ways to tell which bits are 1 make the same pins active, where they agree at such places
module _ (one other : Place → Bool) (same : (p : Place) → is_named p ≡ true → one p ≡ other p) (pin : Mapped → Place) where
  same-mapped : (ms : List Mapped) → are_named pin ms ≡ true → some_mapped one pin ms ≡ some_mapped other pin ms
  same-mapped [] n = refl
  same-mapped (m ∷ ms) n =
      let later = right (is_named m.shown) (both (is_named (pin m)) (are_named pin ms)) n in
      rw (
        same m.shown (left (is_named m.shown) (both (is_named (pin m)) (are_named pin ms)) n),
        same (pin m) (left (is_named (pin m)) (are_named pin ms) later),
        same-mapped ms (right (is_named (pin m)) (are_named pin ms) later),
      )

-- as the code tells it, of its statuses and the registers
abbrev is_one_in : Statuses → List ℕ → Place → Bool
is_one_in s regs p = pick (is_in status_addresses p.address) (holds_at p.address p.number (shown_in s all_statuses)) (bit p.number (get_or regs p.address 0))

leveled : (active high opendrive : Bool) → Leveled active high opendrive (level_of active high opendrive)
leveled active high opendrive = record {
  active-high = λ a h. rw (a, h);
  active-low = λ a h. rw (a, h);
  idle-open = λ a o. rw (a, o);
  idle-high = λ a o h. rw (a, o, h);
  idle-low = λ a o h. rw (a, o, h);
}

module _ (es : List Event) where
  -- what is read at an address
  abbrev r : ℕ → ℕ
  r = ruled (elsewhere_in (after es)) es

  one-is : (p : Place) → is_named p ≡ true → is_one_in (statuses_now es) (after es).regs p ≡ is_one r p
  one-is p n =
      let of = either (is_in status_addresses p.address) (is_tabled p.address) in
      let h = ltb-true p.address 0x3F (left (ltb p.address 0x3F) of n) in
      go h (is_in status_addresses p.address) refl (right (ltb p.address 0x3F) of n) ∙ ap (bit p.number) (byte-seen es p.address h)
    where
      go : p.address < 0x3F → (t : Bool) → is_in status_addresses p.address ≡ t → either t (is_tabled p.address) ≡ true
          → pick t (holds_at p.address p.number (shown_in (statuses_now es) all_statuses)) (bit p.number (reg (after es) p.address)) ≡ bit_seen es p.address p.number
      go h true m e = sym (status-seen es p.address m p.number)
      go h false m e = ap (bit p.number) (sym (tabled-seen es p.address h e))

  active-1 : is_active Int1 (statuses_now es) (after es).regs ≡ some_mapped (is_one r) (λ m. m.int1) maps
  unfolding is_active
  active-1 = same-mapped (is_one_in (statuses_now es) (after es).regs) (is_one r) one-is (λ m. m.int1) maps refl

  active-2 : is_active Int2 (statuses_now es) (after es).regs ≡ some_mapped (is_one r) (λ m. m.int2) maps
  unfolding is_active
  active-2 = same-mapped (is_one_in (statuses_now es) (after es).regs) (is_one r) one-is (λ m. m.int2) maps refl

  drive-is : reg (after es) 0x20 ≡ r 0x20
  drive-is = sym (tabled-seen es 0x20 (omega arith) refl) ∙ byte-seen es 0x20 (omega arith)

  pub pins : let r = ruled (elsewhere_in (after es)) es in
      Leveled (some_mapped (is_one r) (λ m. m.int1) maps) (bit 0 (r 0x20)) (bit 1 (r 0x20)) (pins_of (after es)).int1
      × Leveled (some_mapped (is_one r) (λ m. m.int2) maps) (bit 2 (r 0x20)) (bit 3 (r 0x20)) (pins_of (after es)).int2
  unfolding pins_of pin_level
  pins = (rw (active-1, drive-is) (leveled _ (bit 0 (r 0x20)) (bit 1 (r 0x20))), rw (active-2, drive-is) (leveled _ (bit 2 (r 0x20)) (bit 3 (r 0x20))))
