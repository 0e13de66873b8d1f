-- The loop over the days: what holds at the start, what a turn keeps, and what is left at the end.
-- Assumes nothing.
use Prim.Native.Nat.{ℕ, ◌+◌, ◌-◌, ◌≤◌, ◌<◌}
use mathlib.Core.Path.{◌≡◌, refl}
use mathlib.Core.List.{List, ◌++◌, map, append-nil}
use native.Mathlib.Numerals.{add-one}
use lib.ListN.{length, get_or, take, drop, set, drop_of_length-le}
use lib.Seq.{drop-cons, take-suc-set, take_all, append_snoc}
use Rattle.series.specs.Units.{day_of, base_of}
use Rattle.licence.specs.declared.Licence.{Licence}
use Rattle.licence.specs.Rule.{taking, takings, quota_left}
use Rattle.licence.specs.Call.{listed_takings, listed_left}

-- the quota left and the takings of the days from day t on
abbrev pub left_from : (M left : ℕ) (days base : List ℕ) (t : ℕ) → ℕ
left_from M left days base t = quota_left M left (map day_of (drop t days)) (map base_of (drop t base))

abbrev pub takings_from : (M left : ℕ) (days base : List ℕ) (t : ℕ) → List ℕ
takings_from M left days base t = takings M left (map day_of (drop t days)) (map base_of (drop t base))

pub left_start : (l : Licence) (days base : List ℕ) → left_from l.daily_limit l.quota days base 0 ≡ listed_left l days base
unfolding listed_left
left_start l days base = refl

pub takings_start : (l : Licence) (days base list : List ℕ) → take 0 list ++ takings_from l.daily_limit l.quota days base 0 ≡ listed_takings l days base
unfolding listed_takings
takings_start l days base list = refl

module _ (M left : ℕ) (days base : List ℕ) (t : ℕ) where
  module _ (h : t < length days) (k : t < length base) (x : ℕ) (e : x ≡ taking M left (day_of (get_or days t 0)) (base_of (get_or base t 0))) where
    pub left_turn : (whole : ℕ) → left_from M left days base t ≡ whole → left_from M (left - x) days base (t + 1) ≡ whole
    unfolding quota_left
    left_turn whole f = rw (add-one, e) (rw (drop-cons days t 0 h, drop-cons base t 0 k) at f)

    pub takings_turn : (whole list : List ℕ) → t < length list → take t list ++ takings_from M left days base t ≡ whole → take (t + 1) (set list t x) ++ takings_from M (left - x) days base (t + 1) ≡ whole
    unfolding takings
    takings_turn whole list i f = rw (add-one, take-suc-set list t x i, append_snoc, e) (rw (drop-cons days t 0 h, drop-cons base t 0 k) at f)

  pub left_end : (whole : ℕ) → length days ≤ t → left_from M left days base t ≡ whole → left ≡ whole
  unfolding quota_left
  left_end whole h f = rw (drop_of_length-le days h) at f

pub takings_end : (l : Licence) (left : ℕ) (days base list : List ℕ) (t : ℕ) → length days ≤ t → length list ≤ t
    → take t list ++ takings_from l.daily_limit left days base t ≡ listed_takings l days base → list ≡ listed_takings l days base
unfolding takings
takings_end l left days base list t h i f = rw (drop_of_length-le days h, append-nil, take_all t list i) at f
