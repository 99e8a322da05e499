-- Low-g and high-g as reads of 0x09 show them: when the status is 1, how long it is held, and what begins it anew. Assumes nothing.
use Prim.Native.Nat.{ℕ, ◌+◌, ◌<◌}
use mathlib.Core.Bool.{Bool, true, false}
use mathlib.Core.List.{List, [], ◌∷◌, ◌++◌}
use mathlib.Core.Logic.{◌↔◌}
use mathlib.Core.Path.{◌≡◌, refl, sym, ap, ◌∙◌}
use native.Mathlib.Omega.{arith}
use Rattle.events.specs.Event.{Event, write, clock}
use Rattle.rules.specs.Shown.{bit_seen}
use Rattle.lookback.specs.Sight.{Sight, points_in}
use Rattle.lookback.specs.Watch.{restarts}
use Rattle.lookback.specs.Seen.{seen, is_set}
use Rattle.lookback.specs.Held.{clock_over, SetFor}
use Rattle.lookback.proofs.Seen.{Lawful}
use Rattle.lookback.proofs.Held as lookback
use Rattle.lasting.specs.Lasting.{Lasting, watch}
use Rattle.lasting.specs.Words.{Came}
use Rattle.lasting.proofs.Words as words
use Rattle.lasting.proofs.NewRuns.{new-run}
use Rattle.lowhigh.specs.Low.{low_lasting}
use Rattle.lowhigh.specs.High.{high_lasting}
use Rattle.lowhigh.specs.Held.{BeginsAnew, HeldFor}
use Rattle.lowhigh.proofs.Low as low
use Rattle.lowhigh.proofs.High as high

module _ (l : Lasting) (lawful : Lawful (watch l)) (k : ℕ) (shown : (es : List Event) → bit_seen es 0x09 k ≡ is_set (watch l) es) where
  -- "at each sample for .. of clock since the first such sample"; "It clears at a sample where .."
  exactly : (es : List Event) → (bit_seen es 0x09 k ≡ true) ↔ Came l es
  exactly es = rw (shown es) (words.set-exactly l es)

  anew-behind : (es : List Event) → points_in (seen (watch l) es) ≡ [] → BeginsAnew l k es
  anew-behind es n later few = shown (later ++ es) ∙ new-run l lawful es n later few

  held : (es : List Event) (e : Event) (later : List Event) → SetFor (watch l) es e later → HeldFor l k es e later
  held es e later s =
      let h = lookback.held (watch l) lawful es e later s in
      record {
        stands = λ short. shown (later ++ (e ∷ es)) ∙ h.stands short;
        clears = λ us short long. anew-behind (clock us ∷ (later ++ (e ∷ es))) (ap {A = List (Sight l.Point)} points_in (h.clears us short long).left);
      }

  module _ (es : List Event) where
    -- "restarts them: status, marks and runs clear"
    anew-at : (e : Event) → restarts (watch l) es e ≡ true → BeginsAnew l k (e ∷ es)
    unfolding seen
    anew-at e r = let n : seen (watch l) (e ∷ es) ≡ [] = rw r in anew-behind (e ∷ es) (ap {A = List (Sight l.Point)} points_in n)

    -- no other write does anything to it
    other : (a byte : ℕ) → restarts (watch l) es (write a byte) ≡ false → bit_seen (write a byte ∷ es) 0x09 k ≡ bit_seen es 0x09 k
    other a byte n = shown (write a byte ∷ es) ∙ lookback.write-other (watch l) lawful es a byte n ∙ sym (shown es)

-- ---- both
module _ (es : List Event) where
  -- "Low-g: .. It clears at a sample where .."
  pub low-exactly : (bit_seen es 0x09 0 ≡ true) ↔ Came low_lasting es
  low-exactly = exactly low_lasting low.lawful 0 low.low-seen es

  pub high-exactly : (bit_seen es 0x09 1 ≡ true) ↔ Came high_lasting es
  high-exactly = exactly high_lasting high.lawful 1 high.high-seen es

  -- "Both latch as any-motion does", which Q-4's times include, each with its own remaining time
  pub low_held : (e : Event) (later : List Event) → SetFor (watch low_lasting) es e later → HeldFor low_lasting 0 es e later
  low_held = held low_lasting low.lawful 0 low.low-seen es

  pub high_held : (e : Event) (later : List Event) → SetFor (watch high_lasting) es e later → HeldFor high_lasting 1 es e later
  high_held = held high_lasting high.lawful 1 high.high-seen es

  -- "an accepted write to 0x0F, 0x17, 0x21 or 0x22 to 0x26 restarts them"; so do power-up and soft reset
  pub low-anew : (e : Event) → restarts (watch low_lasting) es e ≡ true → BeginsAnew low_lasting 0 (e ∷ es)
  low-anew = anew-at low_lasting low.lawful 0 low.low-seen es

  pub high-anew : (e : Event) → restarts (watch high_lasting) es e ≡ true → BeginsAnew high_lasting 1 (e ∷ es)
  high-anew = anew-at high_lasting high.lawful 1 high.high-seen es

  pub low-other : (a byte : ℕ) → restarts (watch low_lasting) es (write a byte) ≡ false → bit_seen (write a byte ∷ es) 0x09 0 ≡ bit_seen es 0x09 0
  low-other = other low_lasting low.lawful 0 low.low-seen es

  pub high-other : (a byte : ℕ) → restarts (watch high_lasting) es (write a byte) ≡ false → bit_seen (write a byte ∷ es) 0x09 1 ≡ bit_seen es 0x09 1
  high-other = other high_lasting high.lawful 1 high.high-seen es
