-- Q-5: what low-g and high-g are, as the events tell of them: a condition on the stored sample, met at each sample for a time.
use Rattle.std.specs.Prelude.{ℕ, ◌+◌, ◌*◌, Bool, List, [], ◌∷◌}
use Rattle.events.specs.Event.{Event}
use Rattle.paper.specs.Stored.{byte_by}
use Rattle.paper.specs.Samples.{Values}
use Rattle.lookback.specs.Watch.{Mark, Watch}
use Rattle.lasting.specs.Run.{latest_is, is_met_for}

-- "an accepted write to 0x0F, 0x17, 0x21 or 0x22 to 0x26 restarts them: status, marks and runs clear"
abbrev pub clearing : List ℕ
clearing = 0x0F ∷ 0x17 ∷ 0x21 ∷ 0x22 ∷ 0x23 ∷ 0x24 ∷ 0x25 ∷ 0x26 ∷ []

pub record Lasting : Type 1 where
  -- what an accepted sample after a history is held against, where the detector is enabled
  pub Point : Type 0
  pub point_of : List Event → Values → List Point
  -- the condition; what clears a status that is not latched; and what is marked where the status is set
  pub is_met : Point → Bool
  pub is_far : Point → Bool
  pub mark : Point → Mark
  -- the address of the delay
  pub delay_at : ℕ

module _ (l : Lasting) where
  -- "(0x22 + 1) times 2 ms", of low-g; of high-g with 0x25. In microseconds
  abbrev pub delay_asked : List Event → ℕ
  delay_asked es = (byte_by es l.delay_at + 1) * 2000

  abbrev pub watch : Watch
  watch = record {
    Point = l.Point;
    point_of = l.point_of;
    Setting = ℕ;
    setting = delay_asked;
    clearing = clearing;
    sets = is_met_for l.is_met;
    clears = λ delay ss. latest_is l.is_far ss;
    mark = l.mark;
  }
