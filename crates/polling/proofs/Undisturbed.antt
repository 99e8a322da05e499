-- Q-13, its first claim: a poll changes the channels alone, and from 0x08 on nothing that an event does or gives looks at them. Every other
-- part of the device goes by whole, so a new part, detector or shown byte has no line here. Assumes nothing.
use Prim.Native.Nat.{ℕ, zero, suc, ◌+◌, ◌≤◌}
use mathlib.Core.Bool.{Bool, true, false}
use mathlib.Core.List.{List, [], ◌∷◌}
use mathlib.Core.Path.{◌≡◌, refl, sym, ap, ◌∙◌}
use native.Mathlib.Omega.{arith}
use borrow.Author.Tests.{ltb-true, ltb-false, le-ltb, le-leb, ne_eqb}
use Rattle.laws.specs.Choice.{pick}
use Rattle.laws.specs.Lists.{is_in}
use Rattle.laws.proofs.Finite.{at-any}
use Rattle.codes.specs.Addresses.{frames_at}
use Rattle.channels.specs.Channels.{no_samples}
use Rattle.channels.specs.declared.Channels.{Channels}
use Rattle.registers.specs.Answers.{accepted}
use Rattle.registers.specs.Refused.{read_answer}
use Rattle.device.specs.Device.{with_channels}
use Rattle.device.specs.Show.{pins_of}
use Rattle.device.specs.Read.{is_data, byte_from, single_bytes, read_of}
use Rattle.device.specs.Write.{write_of}
use Rattle.device.specs.Sample.{sample_of, cycle_of}
use Rattle.device.specs.Clock.{clock_of}
use Rattle.device.specs.declared.Device.{Device}
use Rattle.device.proofs.Laws.{after_is}
use Rattle.events.specs.Event.{Event, power_up, write, read, sample, cycle, clock, gives}
use Rattle.events.specs.Run.{next, after}
use Rattle.events.proofs.Parts.{by_parts_lem}
use Rattle.polling.specs.Undisturbed.{is_poll, without_polls, gave_besides, status_addresses, Undisturbed}

-- the device with its channels covered
abbrev covered : Device → Device
covered d = with_channels d no_samples

-- ---- what one event does
-- every part but the channels is made of itself and the registers
next-covered : (d : Device) (e : Event) → covered (next d e) ≡ covered (next (covered d) e)
next-covered d e = ap covered (by_parts_lem d e) ∙ sym (ap covered (by_parts_lem (covered d) e))

poll-covered : (d : Device) (a n : ℕ) → is_poll (read a n) ≡ true → covered (next d (read a n)) ≡ covered d
unfolding read_of
poll-covered d a n h = rw (ne_eqb a frames_at (omega (arith, ltb-true)), after_is) (go (accepted (read_answer a n)) _)
  where
    go : (t : Bool) (c : Channels) → covered (pick t (with_channels d c) d) ≡ covered d
    go true c = refl
    go false c = refl

skipped : (d : Device) (e : Event) → is_poll e ≡ true → covered (next d e) ≡ covered d
skipped d power_up h = cc
skipped d (write a byte) h = cc
skipped d (read a n) h = poll-covered d a n h
skipped d (sample x y z t) h = cc
skipped d cycle h = cc
skipped d (clock us) h = cc

-- ---- what one event gives
-- from 0x08 on no read looks at the channels
module _ (d : Device) (a : ℕ) (h : 0x08 ≤ a) where
  singles-covered : (n : ℕ) → single_bytes d a n ≡ single_bytes (covered d) a n
  unfolding single_bytes byte_from
  singles-covered zero = refl
  singles-covered (suc n) =
      let p : is_data (a + n) ≡ false = rw (le-leb 0x02 (a + n) (omega arith), le-ltb (a + n) 0x08 (omega arith)) in
      rw (after_is d a n, after_is (covered d) a n, p, singles-covered n)

  read-covered : (n : ℕ) → gives d (read a n) ≡ gives (covered d) (read a n)
  unfolding read_of
  read-covered n = rw (singles-covered n)

gives-covered : (d : Device) (e : Event) → is_poll e ≡ false → gives d e ≡ gives (covered d) e
unfolding write_of sample_of cycle_of clock_of
gives-covered d power_up h = refl
gives-covered d (write a byte) h = refl
gives-covered d (read a n) h = read-covered d a (omega (arith, ltb-false)) n
gives-covered d (sample x y z t) h = refl
gives-covered d cycle h = refl
gives-covered d (clock us) h = refl

-- ---- any events
same-without : (es : List Event) → covered (after es) ≡ covered (after (without_polls es))
unfolding after without_polls
same-without [] = refl
same-without (e ∷ es) = go (is_poll e) refl (same-without es)
  where
    go : (t : Bool) → is_poll e ≡ t → covered (after es) ≡ covered (after (without_polls es))
        → covered (next (after es) e) ≡ covered (after (pick t (without_polls es) (e ∷ without_polls es)))
    go true q i = skipped (after es) e q ∙ i
    go false q i = next-covered (after es) e ∙ ap (λ (d : Device). covered (next d e)) i ∙ sym (next-covered (after (without_polls es)) e)

gave-without : (es : List Event) → gave_besides es ≡ gave_besides (without_polls es)
unfolding without_polls gave_besides
gave-without [] = refl
gave-without (e ∷ es) = go (is_poll e) refl (gave-without es)
  where
    go : (t : Bool) → is_poll e ≡ t → gave_besides es ≡ gave_besides (without_polls es)
        → pick t (gave_besides es) (gives (after es) e ∷ gave_besides es) ≡ gave_besides (pick t (without_polls es) (e ∷ without_polls es))
    go true q i = i
    go false q i =
        let g : gives (after es) e ≡ gives (after (without_polls es)) e =
        gives-covered (after es) e q ∙ ap (λ (d : Device). gives d e) (same-without es) ∙ sym (gives-covered (after (without_polls es)) e q) in
        rw (q, g, i)

module _ (es fs : List Event) (alike : without_polls es ≡ without_polls fs) where
  same : covered (after es) ≡ covered (after fs)
  same = same-without es ∙ ap (λ (hs : List Event). covered (after hs)) alike ∙ sym (same-without fs)

  reads_same : (a n : ℕ) → 0x08 ≤ a → gives (after es) (read a n) ≡ gives (after fs) (read a n)
  reads_same a n h = read-covered (after es) a h n ∙ ap (λ (d : Device). gives d (read a n)) same ∙ sym (read-covered (after fs) a h n)

  pins-same : pins_of (after es) ≡ pins_of (after fs)
  unfolding pins_of
  pins-same = ap pins_of same

  -- each of the list
  all-behind : (a : ℕ) → is_in status_addresses a ≡ true → 0x08 ≤ a
  all-behind = at-any (λ k. 0x08 ≤ k) status_addresses (omega arith, (omega arith, (omega arith, (omega arith, (omega arith, tt)))))

  pub undisturbed : Undisturbed es fs
  undisturbed = record {
    frames = λ n. reads_same 0x3F n (omega arith);
    statuses = λ a m. reads_same a 1 (all-behind a m);
    pins = pins-same;
    behind = reads_same;
    besides = gave-without es ∙ ap gave_besides alike ∙ sym (gave-without fs);
  }
