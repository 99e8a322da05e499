-- 0x08 and the data status are those of the samples so far, as looking back tells.
-- Assumes nothing.
use mathlib.Core.Bool.{Bool, true, false}
use mathlib.Core.Path.{◌≡◌, refl, sym, ap, ◌∙◌}
use mathlib.Core.List.{List, [], ◌∷◌}
use Rattle.laws.specs.Choice.{pick, either}
use Rattle.laws.proofs.Finite.{of-pick}
use Rattle.device.specs.Device as device
use Rattle.device.specs.declared.Device.{Device}
use Rattle.events.specs.Event.{Event, power_up, write, read, sample, cycle, clock}
use Rattle.events.specs.Run.{after}
use Rattle.events.specs.Parts.{temperature_next, came_next}
use Rattle.events.proofs.Parts.{by_parts_lem}
use Rattle.paper.specs.Stored.{is_soft_reset}
use Rattle.paper.specs.Samples.{is_sample, Values, no_values, values_at}
use Rattle.paper.proofs.Samples.{sample-is}
use Rattle.rules.specs.Data.{last_sample}
use Rattle.rules.specs.Rules.{came_by}

module _ (e : Event) (es : List Event) where
  temperature-next : temperature_next e (last_sample es).temperature ≡ (last_sample (e ∷ es)).temperature
  temperature-next = go e
    where
      go : (e : Event) → temperature_next e (last_sample es).temperature ≡ (last_sample (e ∷ es)).temperature
      go power_up = refl
      go (write a byte) = sym (of-pick (λ (v : Values). v.temperature) (is_soft_reset a byte) no_values (last_sample es))
      go (read a n) = refl
      go (sample x y z t) =
          let s = sample x y z t in
          rw (sample-is x y z) (sym (of-pick (λ (v : Values). v.temperature) (is_sample s) (values_at es s) (last_sample es)))
      go cycle = refl
      go (clock us) = refl

  came-next : came_next e (came_by es) ≡ came_by (e ∷ es)
  unfolding came_by
  came-next = go e
    where
      wait : (b c : Bool) → pick b false c ≡ pick (either b false) false c
      wait true c = refl
      wait false c = refl

      come : (b c : Bool) → pick b true c ≡ either b c
      come true c = refl
      come false c = refl

      go : (e : Event) → came_next e (came_by es) ≡ came_by (e ∷ es)
      go power_up = refl
      go (write a byte) = wait (is_soft_reset a byte) (came_by es)
      go (read a n) = refl
      go (sample x y z t) = rw (sample-is x y z) (come (is_sample (sample x y z t)) (came_by es))
      go cycle = refl
      go (clock us) = refl

pub temperature-is : (es : List Event) → (after es).temperature ≡ (last_sample es).temperature
unfolding after device.power_up
temperature-is [] = refl
temperature-is (e ∷ es) = ap (λ (d : Device). d.temperature) (by_parts_lem (after es) e) ∙ rw (temperature-is es) (temperature-next e es)

pub came-is : (es : List Event) → (after es).came ≡ came_by es
unfolding after device.power_up came_by
came-is [] = refl
came-is (e ∷ es) = ap (λ (d : Device). d.came) (by_parts_lem (after es) e) ∙ rw (came-is es) (came-next e es)
