-- Demand 3 over clears: every sample accepted since power-up, counted. The latest event of a history stands first.
use Rattle.std.specs.Prelude.{ℕ, suc, ◌+◌, min, List, [], ◌∷◌, map, ◌≡◌, eqb, length}
use Rattle.laws.specs.Bits.{worth}
use Rattle.fifo.specs.Ledger.{Fate, taken_of, held_of, lost_of}
use Rattle.fifo.specs.declared.Setting.{Setting}
use Rattle.demand3.specs.Chip.{Said, cleared, sampled, read_out, nothing, Chip, since}
use Rattle.demand3.specs.Counts.{begun, held_after}
use Rattle.demand3.specs.Demand.{fates}

-- samples accepted, taken and lost, and held when the FIFO was cleared
pub record Totals : Type 0 where
  pub accepted : ℕ
  pub taken : ℕ
  pub lost : ℕ
  pub cleared_away : ℕ

-- one more event, with the setting in force and so many held when it comes
abbrev pub totalled : Setting → ℕ → Said → Totals → Totals
-- what is held is cleared away
totalled s many cleared n = record { accepted = n.accepted; taken = n.taken; lost = n.lost; cleared_away = n.cleared_away + many }
-- one is accepted; when full one is lost, this one or the oldest
totalled s many (sampled f) n = record { accepted = suc n.accepted; taken = n.taken; lost = n.lost + worth 1 (eqb many s.depth); cleared_away = n.cleared_away }
-- of those held, as many are taken as the readout begins
totalled s many (read_out b) n = record { accepted = n.accepted; taken = n.taken + min many (begun s.size b); lost = n.lost; cleared_away = n.cleared_away }
totalled s many nothing n = n

-- the histories at whose end the FIFO was cleared, with one more event
abbrev pub and_before : {E : Type 0} → Said → List E → List (List E) → List (List E)
and_before cleared es hs = es ∷ hs
and_before (sampled f) es hs = hs
and_before (read_out n) es hs = hs
and_before nothing es hs = hs

abbrev pub sum : List ℕ → ℕ
sum [] = 0
sum (n ∷ ns) = n + sum ns

module _ (c : Chip) where
  -- how many are held after a history
  abbrev pub held_now : List c.Event → ℕ
  held_now es = held_after (c.setting es) (since c es)

  unfoldable pub totals : List c.Event → Totals
  totals [] = record { accepted = 0; taken = 0; lost = 0; cleared_away = 0 }
  totals (e ∷ es) = totalled (c.setting es) (held_now es) (c.says es e) (totals es)

  -- the histories at whose end the FIFO was cleared
  unfoldable pub endings : List c.Event → List (List c.Event)
  endings [] = []
  endings (e ∷ es) = and_before (c.says es e) es (endings es)

  -- so many of a kind, at each of those ends
  abbrev pub at_ends : (List (Fate (List ℕ)) → List (List ℕ)) → List c.Event → ℕ
  at_ends kind es = sum (map (λ h. length (kind (fates c h))) (endings es))

  pub record OverClears (es : List c.Event) : Type 0 where
    -- every sample accepted since power-up is taken, held, lost, or was held when the FIFO was cleared
    pub whole : (totals es).accepted ≡ (totals es).taken + held_now es + (totals es).lost + (totals es).cleared_away
    -- these are the samples that demand 3 calls so, from one clear to the next
    pub taken : (totals es).taken ≡ length (taken_of (fates c es)) + at_ends taken_of es
    pub lost : (totals es).lost ≡ length (lost_of (fates c es)) + at_ends lost_of es
    pub held : held_now es ≡ length (held_of (fates c es))
    pub cleared_away : (totals es).cleared_away ≡ at_ends held_of es
