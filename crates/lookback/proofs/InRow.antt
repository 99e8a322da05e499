-- 01, "N over points in a row set it .. Non-latched, N calm points in a row clear it": of a detector that is set and cleared so, the status that looks
-- back is 1 exactly where the points have such a row. Assumes nothing.
use Prim.Native.Nat.{ℕ, zero, suc, ◌+◌, ◌≤◌}
use mathlib.Core.Bool.{Bool, true, false, not}
use mathlib.Core.List.{List, [], ◌∷◌, ◌++◌}
use mathlib.Core.Logic.{◌↔◌}
use mathlib.Core.Path.{◌≡◌, refl, sym, ap, ◌∙◌}
use native.Mathlib.Omega.{arith}
use lib.ListN.{length, take, drop, length-append, take-append-drop}
use Rattle.laws.proofs.Finite.{left, right}
use Rattle.lookback.specs.Sight.{point, passed, points_in}
use Rattle.lookback.specs.Watch.{Watch, Sights, Going}
use Rattle.lookback.specs.Seen.{is_set_by}
use Rattle.lookback.specs.Came.{NoneClears, CameSet}
use Rattle.lookback.specs.Marks.{SetAt}
use Rattle.lookback.specs.InRow.{every, last_are, InRow, CameInRow, SetInRow}
use Rattle.lookback.proofs.Came as sights
use Rattle.lookback.proofs.Came.{further, here, on}

module _ {P : Type 0} (so : P → Bool) where
  -- ---- the last n points as a row
  taken-many : (n : ℕ) (ps : List P) → last_are so n ps ≡ true → length (take n ps) ≡ n
  taken-many zero ps h = refl
  taken-many (suc n) [] h = let z : ◌≡◌ {A = ℕ} 0 1 = cc in absurd (omega arith)
  taken-many (suc n) (p ∷ ps) h = ap suc (taken-many n ps (right (so p) (last_are so n ps) h))

  taken-all : (n : ℕ) (ps : List P) → last_are so n ps ≡ true → every so (take n ps) ≡ true
  taken-all zero ps h = refl
  taken-all (suc n) [] h = refl
  taken-all (suc n) (p ∷ ps) h = rw (left (so p) (last_are so n ps) h) (taken-all n ps (right (so p) (last_are so n ps) h))

  abbrev at_front : (n : ℕ) (ps : List P) → last_are so n ps ≡ true → InRow so n ps
  at_front n ps h = record {
    later = [];
    row = take n ps;
    earlier = drop n ps;
    split = sym (take-append-drop n ps);
    many = taken-many n ps h;
    all = taken-all n ps h;
  }

  row_last : (n : ℕ) (row earlier : List P) → length row ≡ n → every so row ≡ true → last_are so n (row ++ earlier) ≡ true
  row_last zero row earlier m a = refl
  row_last (suc n) [] earlier m a = absurd (omega arith)
  row_last (suc n) (p ∷ row) earlier m a = rw (left (so p) (every so row) a) (row_last n row earlier (omega arith) (right (so p) (every so row) a))

  last-longer : (n : ℕ) (ps qs : List P) → last_are so n ps ≡ true → last_are so n (ps ++ qs) ≡ true
  last-longer zero ps qs h = refl
  last-longer (suc n) [] qs h = let z : ◌≡◌ {A = ℕ} 0 1 = cc in absurd (omega arith)
  last-longer (suc n) (p ∷ ps) qs h = rw (left (so p) (last_are so n ps) h) (last-longer n ps qs (right (so p) (last_are so n ps) h))

  -- ---- rows of one point or more
  first_so : (n : ℕ) (p : P) (ps : List P) → 1 ≤ n → last_are so n (p ∷ ps) ≡ true → so p ≡ true
  first_so zero p ps some h = absurd (omega arith)
  first_so (suc n) p ps some h = left (so p) (last_are so n ps) h

  none-in-none : (n : ℕ) → 1 ≤ n → ¬ InRow so n []
  none-in-none n some r =
      let e : length r.later + (length r.row + length r.earlier) ≡ 0 = sym (simp length-append at (ap length r.split)) in
      omega (arith, r.many)

  abbrev row-further : (n : ℕ) (p : P) (ps : List P) → InRow so n ps → InRow so n (p ∷ ps)
  row-further n p ps r = record {
    later = p ∷ r.later;
    row = r.row;
    earlier = r.earlier;
    split = ap {B = List P} (λ qs. p ∷ qs) r.split;
    many = r.many;
    all = r.all;
  }

  -- a row among p ∷ ps is the last points, or it is a row among ps
  front-or-within : (n : ℕ) (p : P) (ps : List P) → last_are so n (p ∷ ps) ≡ false → ¬ InRow so n ps → ¬ InRow so n (p ∷ ps)
  front-or-within n p ps f w r = go r.later r.split
    where
      go : (later : List P) → p ∷ ps ≡ later ++ (r.row ++ r.earlier) → ⊥
      go [] e =
          let l : last_are so n (p ∷ ps) ≡ true = rw e (row_last n r.row r.earlier r.many r.all) in
          let z : ◌≡◌ {A = ℕ} 0 1 = cc in
          omega arith
      go (q ∷ later) e = w (record { later = later; row = r.row; earlier = r.earlier; split = cc; many = r.many; all = r.all })

-- ---- the detector
module _ (w : Watch) (g : Going w.Setting) (is_over : w.Point → Bool) (n : ℕ) (some : 1 ≤ n)
    (sets-is : (ss : Sights w) → w.sets g.own ss ≡ last_are is_over n (points_in ss))
    (clears-is : (ss : Sights w) → w.clears g.own ss ≡ last_are (λ p. not (is_over p)) n (points_in ss)) where
  abbrev is_calm : w.Point → Bool
  is_calm p = not (is_over p)

  -- calm points that reach as far as an over one end before it
  calm-within : (m : ℕ) (ps : List w.Point) (p : w.Point) (qs : List w.Point) → is_over p ≡ true → last_are is_calm m (ps ++ (p ∷ qs)) ≡ true → last_are is_calm m ps ≡ true
  calm-within zero ps p qs o h = refl
  calm-within (suc m) [] p qs o h = let f : false ≡ true = rw o at h in cc
  calm-within (suc m) (q ∷ ps) p qs o h =
      rw (left (is_calm q) (last_are is_calm m (ps ++ (p ∷ qs))) h) (calm-within m ps p qs o (right (is_calm q) (last_are is_calm m (ps ++ (p ∷ qs))) h))

  points-joined : (later ss : Sights w) → points_in (later ++ ss) ≡ points_in later ++ points_in ss
  points-joined [] ss = refl
  points-joined (point p ∷ later) ss = ap {B = List w.Point} (λ qs. p ∷ qs) (points-joined later ss)
  points-joined (passed us ∷ later) ss = points-joined later ss

  -- where no later point clears, no N calm points in a row came later
  none-calm : (ss later : Sights w) → NoneClears w g ss later → ¬ InRow is_calm n (points_in later)
  none-calm ss [] c = none-in-none is_calm n some
  none-calm ss (point p ∷ later) c = front-or-within is_calm n p (points_in later) (not-front (last_are is_calm n (p ∷ points_in later)) refl) (none-calm ss later c.1)
    where
      not-front : (t : Bool) → last_are is_calm n (p ∷ points_in later) ≡ t → t ≡ false
      not-front true f =
          let l : last_are is_calm n (p ∷ points_in (later ++ ss)) ≡ true = rw (points-joined later ss) (last-longer is_calm n (p ∷ points_in later) (points_in ss) f) in
          sym l ∙ (sym (clears-is (point p ∷ (later ++ ss))) ∙ c.0)
      not-front false f = refl
  none-calm ss (passed us ∷ later) c = none-calm ss later c

  -- what is said of the points holds of what was seen
  module _ (p : w.Point) (earlier : List w.Point) (row : last_are is_over n (p ∷ earlier) ≡ true) where
    came-of : (ss : Sights w) (later : List w.Point) → points_in ss ≡ later ++ (p ∷ earlier) → (g.non_latched ≡ true → ¬ InRow is_calm n later)
        → (c : CameSet w g ss) × (c.setter ≡ p) × (points_in c.earlier ≡ earlier)
    came-of [] later e c = let l : 0 ≡ length later + suc (length earlier) = simp length-append at (ap length e) in absurd (omega arith)
    came-of (passed us ∷ ss) later e u = let c = came-of ss later e u in (further w g (passed us) ss c.0 c.0.since, c.1, c.2)
    came-of (point q ∷ ss) [] e c =
        let i : q ≡ p = cc in
        let j : points_in ss ≡ earlier = cc in
        (here w g q ss (sets-is (point q ∷ ss) ∙ rw (i, j) row), i, j)
    came-of (point q ∷ ss) (l ∷ later) e none =
        let j : points_in ss ≡ later ++ (p ∷ earlier) = cc in
        let i : q ≡ l = cc in
        let c = came-of ss later j (λ u r. none u (row-further is_calm n l later r)) in
        (on w g q ss c.0 (λ u. clears-is (point q ∷ ss) ∙ not_calm i j u (last_are is_calm n (q ∷ points_in ss)) refl), c.1, c.2)
      where
        not_calm : q ≡ l → points_in ss ≡ later ++ (p ∷ earlier) → g.non_latched ≡ true → (t : Bool) → last_are is_calm n (q ∷ points_in ss) ≡ t → t ≡ false
        not_calm i j u true f =
            absurd (none u (at_front is_calm n (l ∷ later) (calm-within n (l ∷ later) p earlier (first_so is_over n p earlier some row) (rw (i, j) at f))))
        not_calm i j u false f = refl

  module _ (ss : Sights w) where
    came-in-row : CameSet w g ss → CameInRow is_over n g.non_latched (points_in ss)
    came-in-row c = record {
      came = record {
        later = points_in c.later;
        row = take n (c.setter ∷ points_in c.earlier);
        earlier = drop n (c.setter ∷ points_in c.earlier);
        split =
            ap points_in c.split ∙ points-joined c.later (point c.setter ∷ c.earlier)
            ∙ ap (λ (qs : List w.Point). points_in c.later ++ qs) (sym (take-append-drop n (c.setter ∷ points_in c.earlier)));
        many = taken-many is_over n (c.setter ∷ points_in c.earlier) (sym (sets-is (point c.setter ∷ c.earlier)) ∙ c.sets);
        all = taken-all is_over n (c.setter ∷ points_in c.earlier) (sym (sets-is (point c.setter ∷ c.earlier)) ∙ c.sets);
      };
      since = λ u. none-calm (point c.setter ∷ c.earlier) c.later (c.since u);
    }

    in-row-came : CameInRow is_over n g.non_latched (points_in ss) → CameSet w g ss
    in-row-came r = go r.came.row r.came.many r.came.all r.came.split
      where
        go : (row : List w.Point) → length row ≡ n → every is_over row ≡ true → points_in ss ≡ r.came.later ++ (row ++ r.came.earlier) → CameSet w g ss
        go [] m a e = absurd (omega arith)
        go (p ∷ row) m a e = (came-of p (row ++ r.came.earlier) (row_last is_over n (p ∷ row) r.came.earlier m a) ss r.came.later e r.since).0

    pub set_when : (is_set_by w g ss ≡ true) ↔ CameInRow is_over n g.non_latched (points_in ss)
    set_when = ((λ h. came-in-row ((sights.set_when w g ss).0 h)), (λ r. (sights.set_when w g ss).1 (in-row-came r)))

  -- and so is the point that set it
  module _ (ss : Sights w) where
    pub setter-in-row : SetAt w g ss → SetInRow is_over n g.non_latched (points_in ss)
    setter-in-row a = record {
      later = points_in a.came.later;
      point = a.came.setter;
      earlier = points_in a.came.earlier;
      split = ap points_in a.came.split ∙ points-joined a.came.later (point a.came.setter ∷ a.came.earlier);
      row = sym (sets-is (point a.came.setter ∷ a.came.earlier)) ∙ a.came.sets;
      before = λ r. let t = (sights.set_when w g a.came.earlier).1 (in-row-came a.came.earlier r) in let b = a.before in let z : ◌≡◌ {A = ℕ} 0 1 = cc in omega arith;
      since = λ u. none-calm (point a.came.setter ∷ a.came.earlier) a.came.later (a.came.since u);
    }

    pub in-row-setter : (s : SetInRow is_over n g.non_latched (points_in ss)) → (a : SetAt w g ss) × (a.came.setter ≡ s.point)
    in-row-setter s =
        let c = came-of s.point s.earlier s.row ss s.later s.split s.since in
        (record { came = c.0; before = new c.0.earlier c.2 (is_set_by w g c.0.earlier) refl }, c.1)
      where
        new : (earlier : Sights w) → points_in earlier ≡ s.earlier → (t : Bool) → is_set_by w g earlier ≡ t → t ≡ false
        new earlier i true e = absurd (s.before (rw i at (came-in-row earlier ((sights.set_when w g earlier).0 e))))
        new earlier i false e = refl

  -- N calm points in a row do not end with an over one
  pub apart : (p : w.Point) (ss : Sights w) → w.clears g.own (point p ∷ ss) ≡ true → w.sets g.own (point p ∷ ss) ≡ false
  apart p ss h = sets-is (point p ∷ ss) ∙ go (last_are is_over n (p ∷ points_in ss)) refl
    where
      calm : not (is_over p) ≡ true
      calm = first_so is_calm n p (points_in ss) some (sym (clears-is (point p ∷ ss)) ∙ h)

      go : (t : Bool) → last_are is_over n (p ∷ points_in ss) ≡ t → t ≡ false
      go true f = sym (rw (first_so is_over n p (points_in ss) some f) at calm)
      go false f = refl
