-- What demand 3 refuses: 01's "Try these against it". It leaves one answer at 0x0E and at 0x3F.
-- Assumes nothing.
use Prim.Native.Nat.{ℕ}
use mathlib.Core.List.{List, [], ◌∷◌}
use mathlib.Core.Path.{◌≡◌, refl, sym, ◌∙◌}
use native.Mathlib.Omega.{arith}
use lib.IntN.{pos}
use Rattle.codes.specs.Axes.{axes_of}
use Rattle.codes.specs.Mode.{mode_of}
use Rattle.events.specs.Event.{Event, write, sample}
use Rattle.demand3.specs.Chip.{read_out, Chip, Twin, since}
use Rattle.demand3.specs.Demand.{fates, due_status, Demand3}
use Rattle.paper.specs.Computed.{the_paper}
use Rattle.history.specs.History.{says_here, accelerometer, twin}
use Rattle.history.proofs.Conserve.{demand3}

-- two twins of a chip that meet it after the events show the same at 0x0E, and give the same at 0x3F
module _ {c : Chip} {t u : Twin c} {es : List c.Event} (p : Demand3 c t es) (q : Demand3 c u es) where
  pub same-status : t es 0x0E 1 ≡ u es 0x0E 1
  same-status = p.shown ∙ sym q.shown

  pub same-readout : (e : c.Event) (n : ℕ) → c.says es e ≡ read_out n → t es 0x3F n ≡ u es 0x3F n
  same-readout e n h = p.next e n h ∙ sym (q.next e n h)

-- "one whose 0x0E is invented": it is the device's, or demand 3 is not met
pub not-invented : {t : Twin accelerometer} {es : List Event} → Demand3 accelerometer t es → t es 0x0E 1 ≡ twin es 0x0E 1
not-invented {es = es} p = same-status p (demand3 es).demand

-- ---- two histories with the same first event, and bytes that differ
abbrev begun : List Event
begun = write 0x3E 0x40 ∷ []

abbrev second : List Event
second = sample (pos 0) (pos 0) (pos 0) 0 ∷ begun

bytes : (due_status accelerometer begun ≡ 0x00) × (due_status accelerometer second ≡ 0x01)
unfolding due_status fates since says_here the_paper mode_of axes_of
bytes = (refl, refl)

apart : {t u : List ℕ} → t ≡ due_status accelerometer begun ∷ [] → u ≡ due_status accelerometer second ∷ [] → t ≡ u → ⊥
apart p q e = let z : ◌≡◌ {A = ℕ} 0 1 = cc (bytes.0, bytes.1) in omega arith

-- a byte that is always the same
pub constant-fails : (t : Twin accelerometer) (b : List ℕ) → ((es : List Event) → t es 0x0E 1 ≡ b) → ((es : List Event) → Demand3 accelerometer t es) → ⊥
constant-fails t b same meets = apart (meets begun).shown (meets second).shown (same begun ∙ sym (same second))

-- "one that does its first event and pretends afterwards"
abbrev pub first_of : List Event → List Event
first_of [] = []
first_of (e ∷ []) = e ∷ []
first_of (e ∷ f ∷ es) = first_of (f ∷ es)

pub pretender-fails : (t : Twin accelerometer) → ((es : List Event) → Demand3 accelerometer (λ es. t (first_of es)) es) → ⊥
pretender-fails t meets = apart (meets begun).shown (meets second).shown refl
