-- The data channels show what looking back over the events tells.
-- Assumes nothing.
use Prim.Native.Nat.{ℕ, suc, ◌<◌}
use mathlib.Core.Bool.{Bool, true, false, not}
use mathlib.Core.Path.{◌≡◌, refl, sym, ap, ◌∙◌}
use mathlib.Core.List.{List, ◌∷◌}
use native.Mathlib.Omega.{arith}
use lib.Dec.{eqb}
use lib.IntN.{ℤ, pos}
use borrow.Author.Tests.{ne_eqb}
use Rattle.laws.specs.Choice.{pick, either}
use Rattle.laws.specs.Bits.{bit}
use Rattle.laws.specs.Lists.{is_in}
use Rattle.laws.proofs.Finite.{AtEach, at-any}
use Rattle.channels.specs.Channels.{no_sample, with_sample, after_lsb, unlocked, no_samples, sampled, released, after_read}
use Rattle.channels.specs.Codes.{code, codes, msb_of}
use Rattle.channels.specs.declared.Channel.{Channel}
use Rattle.channels.specs.declared.Channels.{Channels}
use Rattle.events.specs.Event.{Event, sample}
use Rattle.paper.specs.Stored.{starts_anew, byte_by}
use Rattle.paper.specs.Samples.{Values, no_values, is_inside, is_sample, values_at, twelve_bits}
use Rattle.paper.proofs.Offsets.{stored-inside}
use Rattle.paper.specs.Back.{before_last}
use Rattle.rules.specs.Data.{is_read, is_release, Axis, present, new_data, locking, is_locked, data_addresses, x_axis, y_axis, z_axis}

-- a channel is as a history tells of its axis
pub record Shows (axis : Axis) (h : List Event) (c : Channel) : Type 0 where
  pub code : c.code ≡ present axis h
  pub fresh : c.fresh ≡ new_data axis h
  pub locked : c.locked ≡ is_locked axis h
  pub held : is_locked axis h ≡ true → c.held ≡ msb_of (present axis (before_last (locking axis) h))

-- what an event that is no start is to an axis: an accepted sample, a read of its LSB, a read of its MSB, a release
pub record Meets (axis : Axis) (e : Event) (sampled lsb msb release : Bool) : Type 0 where
  pub is-start : starts_anew e ≡ false
  pub is-sample : is_sample e ≡ sampled
  pub is-lsb : is_read axis.lsb_at e ≡ lsb
  pub is-msb : is_read (suc axis.lsb_at) e ≡ msb
  pub is-release : is_release e ≡ release

pub no : {X : Type 0} → false ≡ true → X
no e = let z : ◌≡◌ {A = ℕ} 0 1 = cc in absurd (omega arith)

module _ (axis : Axis) (e : Event) (h : List Event) where
  pub starts : axis.value no_values ≡ pos 0 → starts_anew e ≡ true → Shows axis (e ∷ h) no_sample
  unfolding new_data is_locked
  starts z m = record { code = rw (m, z); fresh = rw m; locked = rw m; held = rw m no }

  module _ (c : Channel) (s : Shows axis h c) where
    pub samples : Meets axis e true false false false → (code : ℕ) → code ≡ twelve_bits (axis.value (values_at h e)) → Shows axis (e ∷ h) (with_sample code c)
    unfolding new_data is_locked
    samples m code k = record {
      code = rw (m.is-start, m.is-sample) k;
      fresh = rw (m.is-start, m.is-lsb, m.is-sample);
      locked = rw (m.is-start, m.is-msb, m.is-release, m.is-lsb) s.locked;
      held = rw (m.is-start, m.is-msb, m.is-release, m.is-lsb) s.held;
    }

    pub reads-lsb : Meets axis e false true false false → (lock : Bool) → not (bit 6 (byte_by h 0x13)) ≡ lock → Shows axis (e ∷ h) (after_lsb lock c)
    unfolding new_data is_locked
    reads-lsb m true k = record {
      code = rw (m.is-start, m.is-sample) s.code;
      fresh = rw (m.is-start, m.is-lsb);
      locked = rw (m.is-start, m.is-msb, m.is-release, m.is-lsb, k);
      held = rw (m.is-start, m.is-msb, m.is-release, m.is-lsb, k) (λ t. ap msb_of s.code);
    }
    reads-lsb m false k = record {
      code = rw (m.is-start, m.is-sample) s.code;
      fresh = rw (m.is-start, m.is-lsb);
      locked = rw (m.is-start, m.is-msb, m.is-release, m.is-lsb, k) s.locked;
      held = rw (m.is-start, m.is-msb, m.is-release, m.is-lsb, k) s.held;
    }

    -- a read of the MSB, or a release
    pub unlocks : (msb release : Bool) → either msb release ≡ true → Meets axis e false false msb release → Shows axis (e ∷ h) (unlocked c)
    unfolding new_data is_locked
    unlocks msb release u m = record {
      code = rw (m.is-start, m.is-sample) s.code;
      fresh = rw (m.is-start, m.is-lsb, m.is-sample) s.fresh;
      locked = rw (m.is-start, m.is-msb, m.is-release, u);
      held = rw (m.is-start, m.is-msb, m.is-release, u) no;
    }

    pub passes : Meets axis e false false false false → Shows axis (e ∷ h) c
    unfolding new_data is_locked
    passes m = record {
      code = rw (m.is-start, m.is-sample) s.code;
      fresh = rw (m.is-start, m.is-lsb, m.is-sample) s.fresh;
      locked = rw (m.is-start, m.is-msb, m.is-release, m.is-lsb) s.locked;
      held = rw (m.is-start, m.is-msb, m.is-release, m.is-lsb) s.held;
    }

-- ---- one axis of the channels
pub record Part (axis : Axis) (part : Channels → Channel) : Type 0 where
  pub low : axis.lsb_at < 0x3E
  pub zeros : axis.value no_values ≡ pos 0
  pub none : part no_samples ≡ no_sample
  pub releases : (c : Channels) → part (released c) ≡ unlocked (part c)
  pub samples : (v : Values) (c : Channels) → part (sampled (codes v.x v.y v.z) c) ≡ with_sample (code (axis.value v)) (part c)
  pub inside : (x y z : ℤ) (t : ℕ) (h : List Event) → is_inside (axis.value (values_at h (sample x y z t))) ≡ true
  pub reads : (lock : Bool) (a : ℕ) (c : Channels)
      → part (after_read lock a c) ≡ pick (eqb a axis.lsb_at) (after_lsb lock (part c)) (pick (eqb a (suc axis.lsb_at)) (unlocked (part c)) (part c))

-- what a read does to a channel, by computation at the six addresses
elsewhere : (a k : ℕ) → is_in data_addresses a ≡ false → is_in data_addresses k ≡ true → eqb a k ≡ false
elsewhere a k h g = ne_eqb a k (λ (e : a ≡ k). no (sym h ∙ ap (λ (n : ℕ). is_in data_addresses n) e ∙ g))

at-six : (P : ℕ → Type 0) → AtEach P data_addresses → ((a : ℕ) → is_in data_addresses a ≡ false → P a) → (a : ℕ) → P a
at-six P each other a = go (is_in data_addresses a) refl
  where
    go : (t : Bool) → is_in data_addresses a ≡ t → P a
    go true e = at-any P data_addresses each a e
    go false e = other a e

unread : (lock : Bool) (a : ℕ) (c : Channels) → is_in data_addresses a ≡ false → after_read lock a c ≡ c
unfolding after_read
unread lock a c h =
    rw (elsewhere a 0x02 h refl, elsewhere a 0x03 h refl, elsewhere a 0x04 h refl, elsewhere a 0x05 h refl, elsewhere a 0x06 h refl, elsewhere a 0x07 h refl)

-- both sides of the law of reads, for the axis whose LSB stands at l
module _ (l : ℕ) (lsb : is_in data_addresses l ≡ true) (msb : is_in data_addresses (suc l) ≡ true) (part : Channels → Channel) (lock : Bool) (c : Channels) where
  abbrev Reads : ℕ → Type 0
  Reads a = part (after_read lock a c) ≡ pick (eqb a l) (after_lsb lock (part c)) (pick (eqb a (suc l)) (unlocked (part c)) (part c))

  reads_at : AtEach Reads data_addresses → (a : ℕ) → Reads a
  reads_at each = at-six Reads each (λ a h. rw (unread lock a c h, elsewhere a l h lsb, elsewhere a (suc l) h msb))

pub x-part : Part x_axis (λ c. c.x)
unfolding after_read
x-part = record {
  low = omega arith;
  zeros = refl;
  none = refl;
  releases = λ c. refl;
  samples = λ v c. refl;
  inside = λ x y z t h. stored-inside h 0x38 x;
  reads = λ lock a c. reads_at 0x02 refl refl (λ c. c.x) lock c (refl, (refl, (refl, (refl, (refl, (refl, tt)))))) a;
}

pub y-part : Part y_axis (λ c. c.y)
unfolding after_read
y-part = record {
  low = omega arith;
  zeros = refl;
  none = refl;
  releases = λ c. refl;
  samples = λ v c. refl;
  inside = λ x y z t h. stored-inside h 0x39 y;
  reads = λ lock a c. reads_at 0x04 refl refl (λ c. c.y) lock c (refl, (refl, (refl, (refl, (refl, (refl, tt)))))) a;
}

pub z-part : Part z_axis (λ c. c.z)
unfolding after_read
z-part = record {
  low = omega arith;
  zeros = refl;
  none = refl;
  releases = λ c. refl;
  samples = λ v c. refl;
  inside = λ x y z t h. stored-inside h 0x3A z;
  reads = λ lock a c. reads_at 0x06 refl refl (λ c. c.z) lock c (refl, (refl, (refl, (refl, (refl, (refl, tt)))))) a;
}
