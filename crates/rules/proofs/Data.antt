-- After any events 0x02 to 0x07 are what looking back tells.
-- Assumes nothing.
use Prim.Native.Nat.{ℕ, zero, suc, ◌+◌, ◌/◌, ◌<◌, ◌≤◌}
use mathlib.Core.Bool.{Bool, true, false, not}
use mathlib.Core.Path.{◌≡◌, refl, subst, ◌∙◌}
use mathlib.Core.List.{List, [], ◌∷◌}
use native.Mathlib.Omega.{arith}
use native.Mathlib.Nat.{add-zero}
use lib.Bits.{and_zero_r}
use lib.Dec.{eqb}
use lib.IntN.{ℤ}
use borrow.Author.Tests.{eqb-true, lt-ltb, le-leb}
use Rattle.laws.specs.Choice.{pick, both}
use Rattle.laws.specs.Bits.{bit}
use Rattle.codes.specs.Addresses.{shadow_at}
use Rattle.table.specs.Rows.{the_table}
use Rattle.channels.specs.Channels.{no_samples, sampled, released, after_lsb, unlocked, byte_at, lsb, msb}
use Rattle.channels.specs.Codes.{codes, msb_of}
use Rattle.channels.specs.declared.Channel.{Channel}
use Rattle.channels.specs.declared.Channels.{Channels}
use Rattle.registers.specs.Answers.{accepted}
use Rattle.registers.specs.Refused.{write_answer, answer_at, reserved_code, not_modelled}
use Rattle.registers.specs.Deeds.{is_reset, judgement, deeds_of}
use Rattle.registers.proofs.Verdicts.{resets-is}
use Rattle.device.specs.Device as device
use Rattle.device.specs.Read.{channels_read}
use Rattle.device.specs.declared.Device.{Device}
use Rattle.events.specs.Event.{Event, power_up, write, read, sample, cycle, clock}
use Rattle.events.specs.Run.{after, script_onto}
use Rattle.events.specs.Bank.{bank}
use Rattle.events.specs.Parts.{channels_next}
use Rattle.events.proofs.Parts.{channels-next}
use Rattle.events.proofs.Runs.{bank-is}
use Rattle.paper.specs.Stored.{byte_by}
use Rattle.paper.specs.Samples.{Values, is_sample, values_at}
use Rattle.rules.specs.Bursts.{is_burst, singles, opened}
use Rattle.paper.specs.Back.{before_last}
use Rattle.rules.specs.Data.{is_read, is_release, Axis, present, new_data, locking, is_locked, lsb_shown, msb_shown, x_axis, y_axis, z_axis, data_by}
use Rattle.paper.proofs.Stored.{stored_is}
use Rattle.paper.proofs.Samples.{sample-is, code_is}
use Rattle.paper.proofs.Offsets.{sample-stored}
use Rattle.rules.proofs.Bursts.{burst-is, burst-bounds, one-read, opened-same}
use Rattle.rules.proofs.Channels.{no, Shows, starts, samples, reads-lsb, unlocks, passes, Part, x-part, y-part, z-part}

-- ---- a release
shadow-accepted : (regs : List ℕ) (byte : ℕ) → accepted (write_answer regs shadow_at byte) ≡ true
unfolding answer_at reserved_code not_modelled the_table
shadow-accepted regs byte = rw (and_zero_r byte)

releases-is : (regs : List ℕ) (a byte : ℕ) → (judgement regs a byte).deeds.releases ≡ is_release (write a byte)
unfolding judgement deeds_of
releases-is regs a byte = go (accepted (write_answer regs a byte)) refl (eqb a shadow_at) refl
  where
    go : (t : Bool) → accepted (write_answer regs a byte) ≡ t → (s : Bool) → eqb a shadow_at ≡ s → (judgement regs a byte).deeds.releases ≡ both s (bit 6 byte)
    go true e s f = rw (e, f)
    go false e true f = cc (eqb-true a shadow_at f, shadow-accepted regs byte)
    go false e false f = rw e

-- ---- one event more
module _ (axis : Axis) (part : Channels → Channel) (w : Part axis part) (h : List Event) where
  -- the channel of the axis after the history
  abbrev channel : List Event → Channel
  channel es = part (after es).channels

  module _ (s : Shows axis h (channel h)) where
    after-event : (e : Event) → Shows axis (e ∷ h) (part (channels_next (bank h) e (after h).channels)) → Shows axis (e ∷ h) (channel (e ∷ h))
    unfolding after
    after-event e p = rw (channels-next (after h) e, bank-is h) p

    shows-start : Shows axis (power_up ∷ h) (channel (power_up ∷ h))
    shows-start = after-event power_up (rw w.none (starts axis power_up h w.zeros refl))

    shows-write : (a byte : ℕ) → Shows axis (write a byte ∷ h) (channel (write a byte ∷ h))
    shows-write a byte =
        after-event (write a byte) (rw (resets-is (bank h) a byte, releases-is (bank h) a byte) (go (is_reset a byte) refl (is_release (write a byte)) refl))
      where
        e : Event
        e = write a byte

        go : (r : Bool) → is_reset a byte ≡ r → (u : Bool) → is_release e ≡ u
            → Shows axis (e ∷ h) (part (pick r no_samples (pick u (released (after h).channels) (after h).channels)))
        go true p u q = rw w.none (starts axis e h w.zeros p)
        go false p true q = rw (w.releases (after h).channels) (unlocks axis e h (channel h) s false true refl (record { is-start = p; is-sample = refl; is-lsb = refl; is-msb = refl; is-release = q }))
        go false p false q = passes axis e h (channel h) s (record { is-start = p; is-sample = refl; is-lsb = refl; is-msb = refl; is-release = q })

    shows-sample : (x y z : ℤ) (t : ℕ) → Shows axis (sample x y z t ∷ h) (channel (sample x y z t ∷ h))
    shows-sample x y z t = after-event (sample x y z t) (rw (sample-is x y z, sample-stored h x y z) (go (is_sample (sample x y z t)) refl))
      where
        e : Event
        e = sample x y z t

        v : Values
        v = values_at h e

        go : (ok : Bool) → is_sample e ≡ ok → Shows axis (e ∷ h) (part (pick ok (sampled (codes v.x v.y v.z) (after h).channels) (after h).channels))
        go true p =
            rw (w.samples v (after h).channels)
            (samples axis e h (channel h) s (record { is-start = refl; is-sample = p; is-lsb = refl; is-msb = refl; is-release = refl }) _ (code_is (axis.value v) (w.inside x y z t h)))
        go false p = passes axis e h (channel h) s (record { is-start = refl; is-sample = p; is-lsb = refl; is-msb = refl; is-release = refl })

    shows-cycle : Shows axis (cycle ∷ h) (channel (cycle ∷ h))
    shows-cycle = after-event cycle (passes axis cycle h (channel h) s (record { is-start = refl; is-sample = refl; is-lsb = refl; is-msb = refl; is-release = refl }))

    shows-clock : (us : ℕ) → Shows axis (clock us ∷ h) (channel (clock us ∷ h))
    shows-clock us =
        after-event (clock us) (passes axis (clock us) h (channel h) s (record { is-start = refl; is-sample = refl; is-lsb = refl; is-msb = refl; is-release = refl }))

    -- a read that is no burst below 0x3F
    shows-other : (a n : ℕ) → is_burst a n ≡ false → Shows axis (read a n ∷ h) (channel (read a n ∷ h))
    shows-other a n b =
        after-event (read a n) (rw (burst-is a n, b) (passes axis (read a n) h (channel h) s (record { is-start = refl; is-sample = refl; is-lsb = away axis.lsb_at (omega (arith, w.low)); is-msb = away (suc axis.lsb_at) (omega (arith, w.low)); is-release = refl })))
      where
        away : (k : ℕ) → k < 0x3F → is_read k (read a n) ≡ false
        away k l = go (eqb a k) refl (eqb n 1) refl
          where
            go : (p : Bool) → eqb a k ≡ p → (q : Bool) → eqb n 1 ≡ q → both p q ≡ false
            go true f true g =
                let one : is_burst k 1 ≡ true = rw (lt-ltb k 0x3F l, le-leb (k + 1) 0x3F (omega arith)) in
                cc (eqb-true a k f, eqb-true n 1 g)
            go true f false g = refl
            go false f q g = refl

    -- a read of one byte below 0x3F
    shows-one : (a : ℕ) → a < 0x3F → Shows axis (read a 1 ∷ h) (channel (read a 1 ∷ h))
    unfolding channels_read
    shows-one a l =
        after-event (read a 1) (rw (one-read (after h) a l, add-zero, stored_is h shadow_at (omega arith), w.reads (not (bit 6 (byte_by h 0x13))) a (after h).channels) (go (eqb a axis.lsb_at) refl (eqb a (suc axis.lsb_at)) refl))
      where
        e : Event
        e = read a 1

        lock : Bool
        lock = not (bit 6 (byte_by h 0x13))

        go : (p : Bool) → eqb a axis.lsb_at ≡ p → (q : Bool) → eqb a (suc axis.lsb_at) ≡ q
            → Shows axis (e ∷ h) (pick p (after_lsb lock (channel h)) (pick q (unlocked (channel h)) (channel h)))
        go true f true g = absurd (omega (arith, eqb-true a axis.lsb_at f, eqb-true a (suc axis.lsb_at) g))
        go true f false g = reads-lsb axis e h (channel h) s (record { is-start = refl; is-sample = refl; is-lsb = rw f; is-msb = rw g; is-release = refl }) lock refl
        go false f true g = unlocks axis e h (channel h) s true false refl (record { is-start = refl; is-sample = refl; is-lsb = rw f; is-msb = rw g; is-release = refl })
        go false f false g = passes axis e h (channel h) s (record { is-start = refl; is-sample = refl; is-lsb = rw f; is-msb = rw g; is-release = refl })

-- ---- any events
module _ (axis : Axis) (part : Channels → Channel) (w : Part axis part) where
  abbrev Right : List Event → Type 0
  Right h = Shows axis h (part (after h).channels)

  shows-singles : (a n : ℕ) → a + n ≤ 0x3F → (h : List Event) → Right h → Right (script_onto (singles a n) h)
  shows-singles a zero l h s = s
  shows-singles a (suc n) l h s = shows-singles (suc a) n (omega arith) (read a 1 ∷ h) (shows-one axis part w h s a (omega arith))

  shows-read : (a n : ℕ) (h : List Event) → Right h → Right (pick (is_burst a n) (script_onto (singles a n) h) (read a n ∷ h))
  shows-read a n h s = go (is_burst a n) refl
    where
      go : (t : Bool) → is_burst a n ≡ t → Right (pick t (script_onto (singles a n) h) (read a n ∷ h))
      go true e = shows-singles a n (burst-bounds a n e).1 h s
      go false e = shows-other axis part w h s a n e

  shows-none : Right []
  unfolding after device.power_up new_data is_locked
  shows-none = rw w.none (record { code = rw w.zeros; fresh = refl; locked = refl; held = no })

  shows : (es : List Event) → Right (opened es)
  unfolding opened
  shows [] = shows-none
  shows (power_up ∷ es) = shows-start axis part w (opened es) (shows es)
  shows (write a byte ∷ es) = shows-write axis part w (opened es) (shows es) a byte
  shows (read a n ∷ es) = shows-read a n (opened es) (shows es)
  shows (sample x y z t ∷ es) = shows-sample axis part w (opened es) (shows es) x y z t
  shows (cycle ∷ es) = shows-cycle axis part w (opened es) (shows es)
  shows (clock us ∷ es) = shows-clock axis part w (opened es) (shows es) us

  module _ (es : List Event) where
    here : Shows axis (opened es) (part (after es).channels)
    here = subst (λ (d : Device). Shows axis (opened es) (part d.channels)) (opened-same es) (shows es)

    lsb-is : lsb (part (after es).channels) ≡ lsb_shown axis (opened es)
    lsb-is = rw (here.code, here.fresh)

    msb-is : msb (part (after es).channels) ≡ msb_shown axis (opened es)
    msb-is = rw (here.code, here.locked) (go (is_locked axis (opened es)) refl)
      where
        go : (t : Bool) → is_locked axis (opened es) ≡ t
            → pick t (part (after es).channels).held (msb_of (present axis (opened es))) ≡ present axis (pick t (before_last (locking axis) (opened es)) (opened es)) / 16
        go true e = here.held e ∙ omega arith
        go false e = omega arith

pub data_is : (es : List Event) (a : ℕ) → byte_at (after es).channels a ≡ data_by (opened es) a
unfolding byte_at data_by
data_is es a =
    rw (
      lsb-is x_axis (λ c. c.x) x-part es,
      msb-is x_axis (λ c. c.x) x-part es,
      lsb-is y_axis (λ c. c.y) y-part es,
      msb-is y_axis (λ c. c.y) y-part es,
      lsb-is z_axis (λ c. c.z) z-part es,
      msb-is z_axis (λ c. c.z) z-part es,
    )
