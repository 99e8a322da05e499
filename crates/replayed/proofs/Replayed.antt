-- The demands, of every line of a log's replay.
-- Assumes nothing.
use Prim.Native.Nat.{ℕ, suc}
use mathlib.Core.Bool.{Bool, false}
use mathlib.Core.List.{List, [], ◌∷◌}
use mathlib.Core.Logic.{◌≢◌}
use mathlib.Core.Path.{◌≡◌, refl, ap, sym, ◌∙◌}
use lib.ListN.{length}
use Rattle.laws.specs.Bytes.{zeros}
use Rattle.laws.specs.Choice.{pick}
use Rattle.laws.proofs.Bytes.{length-zeros}
use Rattle.std.specs.Prelude.{Ok, Err}
use Rattle.registers.specs.Answers.{Answer, number, accepted}
use Rattle.device.specs.declared.Device.{Device}
use Rattle.events.specs.Event.{Event, Given, power_up, write, read, sample, cycle, clock, happens, lent_by, gives}
use Rattle.events.specs.Run.{after}
use Rattle.events.proofs.Given.{read-gives}
use Rattle.demand2.proofs.Demand2.{demand2}
use Rattle.demand2.proofs.Watermark.{watermark}
use Rattle.recorded.specs.Recorded.{Recorded, events_of, before_own}
use Rattle.replayed.specs.Lines.{letters_if, line_text, given_by}
use Rattle.replayed.specs.Replayed.{Demanded}
use Rattle.replayed.proofs.Lines.{line_of}

-- a refused event gives no bytes
not-accepted : (a : Answer) → number a ≢ 0 → accepted a ≡ false
not-accepted (Ok x) h = absurd (h refl)
not-accepted (Err refusal) h = refl

no_bytes : (d : Device) (e : Event) → (gives d e).number ≢ 0 → (gives d e).bytes ≡ []
no_bytes d power_up h = refl
no_bytes d (write a byte) h = refl
no_bytes d (read a n) h =
    sym (read-gives d a n (zeros n) (length-zeros n))
    ∙ ap (λ (b : Bool). pick b (lent_by d (read a n) (zeros n)) []) (not-accepted (happens d (read a n)).answer h)
no_bytes d (sample x y z t) h = refl
no_bytes d cycle h = refl
no_bytes d (clock us) h = refl

module _ (pins : Bool) (log : List ℕ) where
  -- a line by what its event gives
  abbrev line_by : Recorded → List Recorded → Given → List ℕ
  line_by r rs g = line_text (suc (length rs)) g.number g.bytes (letters_if pins (events_of (r ∷ rs)))

  -- where the event is this one
  given-of : (r : Recorded) (rs : List Recorded) {e : Event} {g : Given} → r.own ≡ e → gives (after (before_own r rs)) e ≡ g → line_by r rs (given_by r rs) ≡ line_by r rs g
  given-of r rs own is = ap (line_by r rs) (ap (gives (after (before_own r rs))) own ∙ is)

  pub demanded : Demanded pins log
  demanded = record {
    refused = λ later rs r h no.
        line_of pins log later rs r h
        ∙ ap (λ (bs : List ℕ). line_text (suc (length rs)) (given_by r rs).number bs (letters_if pins (events_of (r ∷ rs)))) (no_bytes (after (before_own r rs)) r.own no);
    ruled = λ later rs h. demand2 (events_of rs);
    watermark = λ later rs h. watermark (events_of rs);
    below = λ later rs r a n h own burst. line_of pins log later rs r h ∙ given-of r rs own ((demand2 (before_own r rs)).below a n burst);
    frames = λ later rs r n h own some most.
        let ruled = demand2 (before_own r rs) in line_of pins log later rs r h ∙ given-of r rs own (ruled.frames n some most);
  }
