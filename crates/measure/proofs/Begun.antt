-- The digits behind the point, written one after the other.
-- Assumes nothing.
use Prim.Native.Nat.{ℕ, suc, ◌+◌, ◌-◌, ◌*◌, ◌/◌, ◌%◌, ◌≤◌, ◌<◌}
use mathlib.Core.List.{List, [], ◌∷◌, ◌++◌, append_assoc, append-nil}
use mathlib.Core.Path.{◌≡◌, sym, ap, ◌∙◌}
use native.Mathlib.Omega.{arith}
use lib.ListN.{length, set, length-append}
use Rattle.benchlog.proofs.Places.{Put, put-store}
use Rattle.text.specs.Text.{digit, Pushed}
use Rattle.text.proofs.Texts.{pushed}
use Rattle.measure.specs.Measure.{places, most_places}
use Rattle.measure.proofs.Numerals.{more-places}

-- i digits of rest stand from at on, and those of left are to come
pub record Begun (out : List ℕ) (at rest i left : ℕ) (l : List ℕ) : Type 0 where
  pub front : List ℕ
  pub so-many : length front ≡ i
  pub whole : places most_places rest ≡ front ++ places (most_places - i) left
  pub put : Put out at front l

pub next : {out : List ℕ} {at rest i left : ℕ} {l : List ℕ} → i < most_places → (left ≡ 0 → ⊥) → at + most_places ≤ length out → Begun out at rest i left l
    → Begun out at rest (i + 1) (left * 10 % 1024) (set l (at + i) (digit (left * 10 / 1024)))
next {i = i} {left = left} h some room b =
    let e : most_places - i ≡ suc (most_places - (i + 1)) = omega arith in
    record {
      front = b.front ++ (digit (left * 10 / 1024) ∷ []);
      so-many = simp length-append (omega (arith, b.so-many));
      whole = b.whole ∙ rw (e, more-places _ left some) (sym (append_assoc b.front _ _));
      put = put-store _ b.put (omega (arith, b.so-many)) (omega (arith, b.so-many));
    }

pub done : {out : List ℕ} {at rest i left : ℕ} {l : List ℕ} → places (most_places - i) left ≡ [] → Begun out at rest i left l → Pushed out at (places most_places rest) l (at + i)
done {at = at} e b =
    rw (b.whole, e, append-nil b.front) (pushed b.put (ap (λ (n : ℕ). at + n) (sym b.so-many)))
