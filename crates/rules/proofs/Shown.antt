-- What a device shows below 0x3F, by the lists of the rules.
-- Assumes nothing.
use Prim.Native.Nat.{ℕ, ◌<◌}
use mathlib.Core.Bool.{Bool, true, false, not}
use mathlib.Core.Path.{◌≡◌, refl, ap, ◌∙◌}
use mathlib.Core.List.{List, [], ◌∷◌}
use lib.Dec.{eqb}
use borrow.Author.Tests.{eqb-true, lt-ltb}
use Rattle.laws.specs.Choice.{pick, either}
use Rattle.laws.specs.Lists.{is_in}
use Rattle.laws.specs.Keys.{◌means◌, meaning_of}
use Rattle.laws.proofs.Finite.{alike}
use Rattle.channels.specs.Channels.{byte_at}
use Rattle.fifo.specs.Store.{status_at}
use Rattle.interrupts.specs.Maps.{StatusPlaces, all_statuses, worth_at, status_byte}
use Rattle.interrupts.specs.declared.Statuses.{Statuses}
use Rattle.detectors.specs.Detectors.{motion_marks, high_marks}
use Rattle.device.specs.Device.{depth, reg}
use Rattle.device.specs.Show.{inside_of, statuses_in, shown_byte}
use Rattle.device.specs.Read.{byte_from, single_byte, is_data}
use Rattle.device.specs.declared.Device.{Device}
use Rattle.rules.specs.Data.{data_addresses}
use Rattle.rules.specs.Rules.{Status, status, worths_at, Elsewhere, status_addresses, marks_addresses, is_tabled}

-- ---- the code's list of statuses is one of the rules
abbrev pub shown_in : Statuses → List StatusPlaces → List Status
shown_in s [] = []
shown_in s (l ∷ ls) = status l.shown.address l.shown.number (l.holds s) ∷ shown_in s ls

worths-are : (a : ℕ) (s : Statuses) (ls : List StatusPlaces) → worth_at a s ls ≡ worths_at a (shown_in s ls)
unfolding worths_at
worths-are a s [] = refl
worths-are a s (l ∷ ls) = rw (worths-are a s ls)

pub byte_worth : (a : ℕ) (s : Statuses) → status_byte a s ≡ worths_at a (shown_in s all_statuses)
unfolding status_byte
byte_worth a s = worths-are a s all_statuses

-- ---- what a device holds of the FIFO, and shows of its detectors
-- the statuses of the list that are shown at an address: those of the detectors are at 0x09
abbrev only_at : ℕ → List StatusPlaces → List StatusPlaces
only_at a [] = []
only_at a (l ∷ ls) = pick (eqb l.shown.address a) (l ∷ only_at a ls) (only_at a ls)

abbrev pub elsewhere_in : Device → Elsewhere
elsewhere_in d = record {
  count = d.fifo.count;
  overrun = d.fifo.overrun;
  statuses = shown_in (statuses_in d.regs (inside_of d)) (only_at 0x09 all_statuses);
  marks = 0x0B means motion_marks d.detectors ∷ 0x0C means high_marks d.detectors ∷ [];
}

-- ---- the byte of an address
-- a choice by each number of a list is one by whether a number is in it
abbrev choice : (ℕ → ℕ) → List ℕ → ℕ → ℕ → ℕ
choice f [] a rest = rest
choice f (b ∷ l) a rest = pick (eqb a b) (f b) (choice f l a rest)

by-list : (f : ℕ → ℕ) (l : List ℕ) (a rest : ℕ) → choice f l a rest ≡ pick (is_in l a) (f a) rest
by-list f [] a rest = refl
by-list f (b ∷ l) a rest = go (eqb a b) refl (by-list f l a rest)
  where
    go : (t : Bool) → eqb a b ≡ t → choice f l a rest ≡ pick (is_in l a) (f a) rest → pick t (f b) (choice f l a rest) ≡ pick (either t (is_in l a)) (f a) rest
    go true e later = rw (eqb-true a b e)
    go false e later = later

data-address : (a : ℕ) → a < 64 → is_data a ≡ is_in data_addresses a
data-address = alike is_data (is_in data_addresses) 64 refl

module _ (d : Device) (a : ℕ) (h : a < 64) where
  pub single-is : single_byte d a ≡
      pick (is_in data_addresses a) (byte_at d.channels a)
      (pick (eqb a 0x08) d.temperature
      (pick (is_in status_addresses a) (status_byte a (statuses_in d.regs (inside_of d)))
      (pick (is_in marks_addresses a) (meaning_of (elsewhere_in d).marks 0 a)
      (pick (eqb a 0x0E) (status_at depth d.fifo) (reg d a)))))
  unfolding byte_from shown_byte
  single-is =
      let s = statuses_in d.regs (inside_of d) in
      rw (data-address a h, lt-ltb a 64 h)
      (ap (λ rest. pick (is_in data_addresses a) (byte_at d.channels a) (pick (eqb a 0x08) d.temperature rest))
      (by-list (λ k. status_byte k s) status_addresses a _
      ∙ ap (pick (is_in status_addresses a) (status_byte a s)) (by-list (meaning_of (elsewhere_in d).marks 0) marks_addresses a _)))

  pub tabled-byte : is_tabled a ≡ true → single_byte d a ≡ reg d a
  tabled-byte t = single-is ∙ go (is_in data_addresses a) (eqb a 0x08) (is_in status_addresses a) (is_in marks_addresses a) (eqb a 0x0E) _ _ _ _ _ t
    where
      -- whatever the bytes that show there
      go : (p q r u v : Bool) (c t s m f : ℕ) → not (either p (either q (either r (either u v)))) ≡ true
          → pick p c (pick q t (pick r s (pick u m (pick v f (reg d a))))) ≡ reg d a
      go true q r u v c t s m f e = cc
      go false true r u v c t s m f e = cc
      go false false true u v c t s m f e = cc
      go false false false true v c t s m f e = cc
      go false false false false true c t s m f e = cc
      go false false false false false c t s m f e = refl
