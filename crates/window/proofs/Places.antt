-- The buffer's bytes between the two places of its window.
-- Assumes nothing.
use Prim.Native.Nat.{ℕ, zero, suc, ◌+◌, ◌-◌, ◌≤◌, ◌<◌, min}
use mathlib.Core.List.{List, [], ◌∷◌, ◌++◌}
use mathlib.Core.Path.{◌≡◌, refl, sym, ap, subst, ◌∙◌}
use native.Mathlib.Omega.{arith}
use lib.ListN.{length, take, drop, length-append, length-take, length-drop}
use lib.Seq.{take-add, take_at, drop_at, drop-nil, drop-drop, length-take-le, take-append-le, take-append-add}
use Rattle.std.specs.Prelude.{Result, Ok, Err, IfOk}
use Rattle.laws.specs.Bytes.{between, moved_forward}
use Rattle.laws.proofs.Bytes.{length-between}
use borrow.Rule.Slice.PartMut.{put_mid, post_of}
use Rattle.window.specs.declared.given.ReadFailed.{ReadFailed}
use Rattle.window.specs.declared.Window.{Window}
use Rattle.window.specs.Window.{Within, unused, past, at_front, HasRoom, with_read, more_by, Refilled}

-- the part that is lent
pub unused-part : (w : Window) (buffer : List ℕ) → Within w (length buffer) → take (w.to - w.from) (drop w.from buffer) ≡ unused w buffer
unfolding unused
unused-part w buffer within =
    let from = w.from in
    let to = w.to in
    let e : to ≡ from + (to - from) = omega (arith, within.0) in
    let t : take to buffer ≡ take from buffer ++ take (to - from) (drop from buffer) = ap (λ (n : ℕ). take n buffer) e ∙ take-add from (to - from) buffer in
    sym (rw t (drop_at (take from buffer) (take (to - from) (drop from buffer)) from (length-take-le from buffer (omega (arith, within.0, within.1)))))

pub unused-few : (w : Window) (buffer : List ℕ) → length (unused w buffer) ≤ w.to - w.from
unfolding unused
unused-few w buffer = omega (arith, length-between w.from w.to buffer)

unused-most : (w : Window) (buffer : List ℕ) → length (unused w buffer) ≤ length buffer
unfolding unused
unused-most w buffer = omega (arith, length-between w.from w.to buffer)

-- ---- what a run used is past
-- of at most k bytes, no more than k can be dropped
drop-least : (n k : ℕ) (bs : List ℕ) → length bs ≤ k → drop (min n k) bs ≡ drop n bs
drop-least n k [] h = drop-nil (min n k) ∙ sym (drop-nil n)
drop-least zero k (b ∷ bs) h = let e : min 0 k ≡ 0 = omega arith in ap (λ (i : ℕ). drop i (b ∷ bs)) e
drop-least (suc n) zero (b ∷ bs) h = absurd (omega (arith, h))
drop-least (suc n) (suc k) (b ∷ bs) h = let e : min (suc n) (suc k) ≡ suc (min n k) = omega arith in ap (λ (i : ℕ). drop i (b ∷ bs)) e ∙ drop-least n k bs (omega (arith, h))

moved_on : (w : Window) (used : ℕ) (buffer : List ℕ) → unused (past w used) buffer ≡ drop (min used (w.to - w.from)) (unused w buffer)
unfolding unused
moved_on w used buffer = sym (drop-drop (min used (w.to - w.from)) w.from (take w.to buffer))

pub unused-past : (w : Window) (used : ℕ) (buffer : List ℕ) → unused (past w used) buffer ≡ drop used (unused w buffer)
unused-past w used buffer = moved_on w used buffer ∙ drop-least used (w.to - w.from) (unused w buffer) (unused-few w buffer)

pub past-within : (w : Window) (used : ℕ) {room : ℕ} → Within w room → Within (past w used) room
past-within w used within = (omega (arith, within.0), within.1)

-- ---- a read behind what is not used: more is what stands in the buffer behind it then
module _ (w : Window) (buffer more : List ℕ) (n : ℕ) (few : n ≤ length more) where
  abbrev filled : List ℕ
  filled = take (length (unused w buffer)) (moved_forward w.from w.to buffer) ++ more

  front : take (length (unused w buffer)) (moved_forward w.from w.to buffer) ≡ unused w buffer
  unfolding unused moved_forward
  front = take_at (between w.from w.to buffer) _ _ refl

  unused-filled : unused (with_read (at_front w buffer) n) filled ≡ unused w buffer ++ take n more
  unfolding unused
  unused-filled = rw front (take-append-add (unused w buffer) more n)

-- what is not used stands at the front of the buffer: f is the window then, and moved the buffer
module _ (w : Window) (buffer : List ℕ) {f : Window} {moved : List ℕ} (window : f ≡ at_front w buffer) (bytes : moved ≡ moved_forward w.from w.to buffer) where
  length_moved : length moved ≡ length buffer
  unfolding unused moved_forward
  length_moved = rw bytes (simp (length-append, length-drop, length-take) (omega arith))

  -- behind it may be room
  pub ends-within : f.to ≤ length moved
  ends-within = rw window (omega (arith, length_moved, unused-most w buffer))

  pub has_room : f.to < length moved → HasRoom w buffer
  has_room h = let to : f.to ≡ length (unused w buffer) = ap (λ (t : Window). t.to) window in omega (arith, h, to, length_moved)

  -- into which given was put, of which a read gave the first n bytes
  pub refilled : (given : List ℕ) (n : ℕ) → length given ≡ length (take (length moved - f.to) (drop f.to moved)) → n ≤ length given
      → Refilled w buffer (with_read f n) (put_mid f.to (length moved - f.to) moved given) × Within (with_read f n) (length buffer)
  refilled given n long few =
      let l = length_moved in
      let most = unused-most w buffer in
      let to : f.to ≡ length (unused w buffer) = ap (λ (t : Window). t.to) window in
      let from : f.from ≡ 0 = ap (λ (t : Window). t.from) window in
      let room : length given ≡ length moved - f.to = simp (length-take, length-drop) at long ∙ omega arith in (
        record {
          part = take n given;
          window = rw (length-take-le n given few, window);
          bytes = rw (window, bytes) (unused-filled w buffer (given ++ post_of (at_front w buffer).to (length (moved_forward w.from w.to buffer) - (at_front w buffer).to) (moved_forward w.from w.to buffer)) n (simp length-append (omega arith)) ∙ ap (λ (t : List ℕ). unused w buffer ++ t) (take-append-le n given _ few));
        },
        (omega arith, omega arith),
      )

-- what is so behind a read that did not fail, by what it gave
pub came : (count : Result ℕ ReadFailed) (f w : Window) (P : ℕ → Type 0) (Q : Window → Type 0) → more_by f count ≡ Ok w → IfOk count P
    → ((n : ℕ) → P n → Q (with_read f n)) → Q w
came (Ok n) f w P Q e p q = let is : with_read f n ≡ w = cc in subst Q is (q n p)
came (Err x) f w P Q e p q = let z : ◌≡◌ {A = ℕ} 0 1 = cc in absurd (omega arith)
