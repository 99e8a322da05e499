-- After any history the previous sample of the device's slope detectors is the latest accepted one that was not forgotten. Assumes nothing.
use Prim.Native.Nat.{ℕ}
use mathlib.Core.Bool.{Bool, true, false}
use mathlib.Core.List.{List, [], ◌∷◌, ◌++◌}
use mathlib.Core.Path.{◌≡◌, refl, sym}
use lib.Dec.{eqb}
use Rattle.laws.specs.Choice.{pick, both, either}
use Rattle.laws.specs.Lists.{is_in}
use Rattle.laws.proofs.Finite.{of-pick, either-false}
use Rattle.slopes.specs.Previous.{no_previous, forgotten}
use Rattle.detectors.specs.Detectors.{all_quiet, detectors_sampled, detectors_clocked, detectors_written}
use Rattle.detectors.specs.declared.Detectors.{Detectors}
use Rattle.registers.specs.Deeds.{is_reset, deeds_of, judgement}
use Rattle.registers.specs.declared.Deeds.{Deeds}
use Rattle.registers.proofs.Verdicts.{resets-is}
use Rattle.device.specs.Device as device
use Rattle.events.specs.Event.{Event, power_up, write, read, sample, cycle, clock}
use Rattle.events.specs.Run.{after}
use Rattle.events.specs.Bank.{bank}
use Rattle.events.specs.Parts.{detectors_next}
use Rattle.events.proofs.Parts.{detectors-next}
use Rattle.events.proofs.Runs.{bank-is}
use Rattle.paper.specs.Stored.{is_accepted}
use Rattle.paper.specs.Samples.{Values, all_inside, values_at}
use Rattle.paper.proofs.Samples.{sample-is}
use Rattle.paper.proofs.Offsets.{sample-stored}
use Rattle.lookback.specs.InForce.{begins_anew}
use Rattle.lookback.proofs.InForce.{deed-is}
use Rattle.points.specs.Points.{forgetting, samples}
use Rattle.points.proofs.Points.{Follows}

pub forgets-is : (es : List Event) (a byte : ℕ) → (judgement (bank es) a byte).deeds.forgets ≡ both (is_accepted es a byte) (is_in forgetting a)
unfolding deeds_of
forgets-is = deed-is (λ d. d.forgets) forgetting (λ regs r a byte. sym (either-false (eqb a 0x0F))) refl

written : (e : Deeds) (d : Detectors) → (detectors_written e d).previous ≡ pick e.resets no_previous (pick e.forgets (forgotten d.previous) d.previous)
unfolding detectors_written
written e d = of-pick (λ (s : Detectors). s.previous) e.resets all_quiet _

previous-next : (es : List Event) (d : Detectors) → Follows d.previous (samples es) → (e : Event) → Follows (detectors_next (bank es) e d).previous (samples (e ∷ es))
unfolding samples begins_anew detectors_sampled detectors_clocked
previous-next es d h power_up = refl
previous-next es d h (write a byte) =
    rw (written (judgement (bank es) a byte).deeds d, resets-is (bank es) a byte, forgets-is es a byte) (go (is_reset a byte) (both (is_accepted es a byte) (is_in forgetting a)))
  where
    go : (r f : Bool) → Follows (pick r no_previous (pick f (forgotten d.previous) d.previous)) (pick (either r f) [] (samples es))
    go true f = refl
    go false true = refl
    go false false = h
previous-next es d h (read a n) = h
previous-next es d h (sample x y z t) = rw (sample-is x y z, sample-stored es x y z) (go (all_inside x y z))
  where
    v : Values
    v = values_at es (sample x y z t)

    go : (b : Bool) → Follows (pick b (detectors_sampled (bank es) v.x v.y v.z d) d).previous (pick b (v ∷ []) [] ++ samples es)
    go true = refl
    go false = h
previous-next es d h cycle = h
previous-next es d h (clock us) = h

pub previous-is : (es : List Event) → Follows (after es).detectors.previous (samples es)
unfolding after device.power_up samples
previous-is [] = refl
previous-is (e ∷ es) = rw (detectors-next (after es) e, bank-is es) (previous-next es (after es).detectors (previous-is es) e)
