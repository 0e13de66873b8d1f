-- What the list of longest runs holds: exactly the runs of which document 01's sentence holds, each once; each present day
-- lies in one of them; and how a walk finds them, one behind the other.
-- Assumes nothing.
use Prim.Native.Nat.{ℕ, zero, suc, ◌+◌, ◌≤◌, ◌<◌}
use mathlib.Core.Path.{◌≡◌, refl, sym, ◌∙◌, ap, ap₂, subst}
use mathlib.Core.Bool.{Bool, true, false, cond}
use mathlib.Core.List.Memᴰ
use mathlib.Core.List.{List, [], ◌∷◌, map, Memᴰ, head-eq_of_cons-eq, tail-eq_of_cons-eq, cons-ne-nil}
use mathlib.Core.Logic.{◌↔◌, ◌⊎◌, inl, inr, ⊎_elim}
use mathlib.Core.Option.{Option, none, some, none-ne-some, some-injective}
use native.Mathlib.Nat.{add-zero, zero-add, suc-add}
use native.Mathlib.Omega.{arith}
use lib.ListN.{length, get_or, take, drop}
use lib.Seq.{drop-nil, get_or-drop, get_or-take}
use Rattle.numbers.proofs.Sorting.{all_members, InOrder, order_end, order_next}
use Rattle.series.specs.Runs.{joined, joins_at, Longest, Run, further, runs_from, runs}

module _ {A : Type 0} (joins : A → A → Bool) where
  pub joined_none : (before : Option A) → joined joins before none ≡ false
  unfolding joined
  joined_none none = refl
  joined_none (some x) = refl

  pub joined_after_gap : (day : Option A) → joined joins none day ≡ false
  unfolding joined
  joined_after_gap day = refl

  pub joined_days : (x y : A) → joined joins (some x) (some y) ≡ joins x y
  unfolding joined
  joined_days x y = refl

  -- the days that follow a day and join
  pub further_none : (before : Option A) → further joins before [] ≡ []
  unfolding further
  further_none before = refl

  pub further_after_gap : (ds : List (Option A)) → further joins none ds ≡ []
  unfolding further joined
  further_after_gap [] = refl
  further_after_gap (none ∷ ds) = refl
  further_after_gap (some y ∷ ds) = refl

  pub further_stops : (before d : Option A) (ds : List (Option A)) → joined joins before d ≡ false → further joins before (d ∷ ds) ≡ []
  unfolding further
  further_stops before none ds e = refl
  further_stops before (some y) ds e = rw e

  pub further_goes_on : (before : Option A) (y : A) (ds : List (Option A)) → joined joins before (some y) ≡ true → further joins before (some y ∷ ds) ≡ y ∷ further joins (some y) ds
  unfolding further
  further_goes_on before y ds e = rw e

  -- by the test of the next day
  by_joined : (P : List A → Type 0) (before : Option A) (y : A) (ds : List (Option A)) → (joined joins before (some y) ≡ true → P (y ∷ further joins (some y) ds)) → (joined joins before (some y) ≡ false → P []) → P (further joins before (some y ∷ ds))
  unfolding further
  by_joined P before y ds on stop = go (joined joins before (some y)) refl
    where
      go : (b : Bool) → joined joins before (some y) ≡ b → P (cond b (y ∷ further joins (some y) ds) [])
      go true e = on e
      go false e = stop e

  pub further_length : (before : Option A) (ds : List (Option A)) → length (further joins before ds) ≤ length ds
  unfolding further
  further_length before [] = omega arith
  further_length before (none ∷ ds) = omega arith
  further_length before (some y ∷ ds) = let rest = further_length (some y) ds in by_joined (λ l. length l ≤ suc (length ds)) before y ds (λ e. omega arith) (λ e. omega arith)

  further_neighbouring : (before : Option A) (ds : List (Option A)) → take (length (further joins before ds)) ds ≡ map some (further joins before ds)
  unfolding further
  further_neighbouring before [] = refl
  further_neighbouring before (none ∷ ds) = refl
  further_neighbouring before (some y ∷ ds) =
      let rest = further_neighbouring (some y) ds in
      by_joined (λ l. take (length l) (some y ∷ ds) ≡ map some l) before y ds (λ e. ap (λ l. some y ∷ l) rest) (λ e. refl)

  further_joins : (before : Option A) (ds : List (Option A)) (t : ℕ) → t < length (further joins before ds) → joins_at joins (before ∷ ds) (suc t) ≡ true
  unfolding further joins_at
  further_joins before [] t h = absurd (omega arith)
  further_joins before (none ∷ ds) t h = absurd (omega arith)
  further_joins before (some y ∷ ds) zero h = by_joined (λ l. 0 < length l → joined joins before (some y) ≡ true) before y ds (λ e k. e) (λ e k. absurd (omega arith)) h
  further_joins before (some y ∷ ds) (suc t) h =
      let rest = further_joins (some y) ds t in
      by_joined (λ l. suc t < length l → joins_at joins (some y ∷ ds) (suc t) ≡ true) before y ds (λ e k. rest (omega arith)) (λ e k. absurd (omega arith)) h

  further_ends : (before : Option A) (ds : List (Option A)) → joins_at joins (before ∷ ds) (suc (length (further joins before ds))) ≡ false
  unfolding further joins_at
  further_ends before [] = joined_none before
  further_ends before (none ∷ ds) = joined_none before
  further_ends before (some y ∷ ds) =
      let rest = further_ends (some y) ds in
      by_joined (λ l. joins_at joins (before ∷ some y ∷ ds) (suc (length l)) ≡ false) before y ds (λ e. rest) (λ e. e)

  -- there are no others
  further_only : (before : Option A) (ds : List (Option A)) (xs : List A) → take (length xs) ds ≡ map some xs → ((t : ℕ) → t < length xs → joins_at joins (before ∷ ds) (suc t) ≡ true) → joins_at joins (before ∷ ds) (suc (length xs)) ≡ false → xs ≡ further joins before ds
  unfolding further joins_at
  further_only before [] [] n j e = refl
  further_only before (none ∷ ds) [] n j e = refl
  further_only before (some y ∷ ds) [] n j e = rw e
  further_only before [] (x ∷ xs) n j e = absurd (cons-ne-nil _ _ (sym n))
  further_only before (none ∷ ds) (x ∷ xs) n j e = absurd (none-ne-some x (head-eq_of_cons-eq n))
  further_only before (some y ∷ ds) (x ∷ xs) n j e =
      rw (j 0 (omega arith)) (ap₂ (λ a l. a ∷ l) (sym (some-injective y x (head-eq_of_cons-eq n))) (further_only (some y) ds xs (tail-eq_of_cons-eq n) (λ t h. j (suc t) (omega arith)) e))

  -- the days of a run, where they stand
  pub run_day : {days : List (Option A)} {start : ℕ} {run : List A} → Longest joins days start run → (d : A) (t : ℕ) → t < length run → get_or days (start + t) none ≡ some (get_or run t d)
  run_day {days} {start} {run} l d t h = sym (get_or-drop start days t none) ∙ sym (get_or-take (length run) (drop start days) t none h) ∙ ap (λ ds. get_or ds t none) l.neighbouring ∙ some_at run t h
    where
      some_at : (xs : List A) (i : ℕ) → i < length xs → get_or (map some xs) i none ≡ some (get_or xs i d)
      some_at [] i g = absurd (omega arith)
      some_at (x ∷ xs) zero g = refl
      some_at (x ∷ xs) (suc i) g = some_at xs i (omega arith)

  -- each element of a run joins the one before
  pub run_joins : {days : List (Option A)} {start : ℕ} {run : List A} → Longest joins days start run → (d : A) (t : ℕ) → suc t < length run → joins (get_or run t d) (get_or run (suc t) d) ≡ true
  unfolding joins_at
  run_joins {days} {start} {run} l d t h = sym (joined_days (get_or run t d) (get_or run (suc t) d)) ∙ ap₂ (joined joins) (sym (run_day l d t (omega arith))) (sym (run_day l d (suc t) h)) ∙ ap (λ k. joined joins (get_or days (start + t) none) (get_or days k none)) (omega arith) ∙ l.together (suc (start + t)) (omega arith) (omega arith)

  -- a run seen with one day more before it
  later_by_one : {d : Option A} {ds : List (Option A)} {k : ℕ} {run : List A} → Longest joins ds (suc k) run → Longest joins (d ∷ ds) (suc (suc k)) run
  unfolding joins_at
  later_by_one {d} {ds} {k} {run} l =
      record {
        not_empty = l.not_empty;
        neighbouring = l.neighbouring;
        together = λ t g h. after t g h;
        none_before = l.none_before;
        none_after = rw (suc-add (suc k) (length run), suc-add k (length run)) (rw (suc-add k (length run)) at l.none_after);
      }
    where
      after : (t : ℕ) → suc (suc k) < t → t < suc (suc k) + length run → joins_at joins (d ∷ ds) t ≡ true
      after zero g h = absurd (omega arith)
      after (suc zero) g h = absurd (omega arith)
      after (suc (suc t)) g h = l.together (suc t) (omega arith) (omega arith)

  sooner_by_one : {d : Option A} {ds : List (Option A)} {k : ℕ} {run : List A} → Longest joins (d ∷ ds) (suc (suc k)) run → Longest joins ds (suc k) run
  unfolding joins_at
  sooner_by_one {d} {ds} {k} {run} l =
      record {
        not_empty = l.not_empty;
        neighbouring = l.neighbouring;
        together = λ t g h. after t g h;
        none_before = l.none_before;
        none_after = rw (suc-add k (length run)) (rw (suc-add (suc k) (length run), suc-add k (length run)) at l.none_after);
      }
    where
      after : (t : ℕ) → suc k < t → t < suc k + length run → joins_at joins ds t ≡ true
      after zero g h = absurd (omega arith)
      after (suc t) g h = l.together (suc (suc t)) (omega arith) (omega arith)

  -- the run that starts on a present day
  abbrev run_on : ℕ → A → List (Option A) → Run A
  run_on p y ds = record { start = p; flows = y ∷ further joins (some y) ds }

  pub first_run : (before : Option A) (y : A) (ds : List (Option A)) → joined joins before (some y) ≡ false → Longest joins (before ∷ some y ∷ ds) 1 (y ∷ further joins (some y) ds)
  unfolding joins_at
  first_run before y ds e =
      let n = length (further joins (some y) ds) in
      let two : 1 + suc n ≡ suc (suc n) = omega arith in
      record {
        not_empty = omega arith;
        neighbouring = ap (λ l. some y ∷ l) (further_neighbouring (some y) ds);
        together = after;
        none_before = e;
        none_after = subst (λ t. joins_at joins (before ∷ some y ∷ ds) t ≡ false) (sym two) (further_ends (some y) ds);
      }
    where
      after : (t : ℕ) → 1 < t → t < 1 + suc (length (further joins (some y) ds)) → joins_at joins (before ∷ some y ∷ ds) t ≡ true
      after zero g h = absurd (omega arith)
      after (suc zero) g h = absurd (omega arith)
      after (suc (suc t)) g h = further_joins (some y) ds t (omega arith)

  only_run : (before : Option A) (y : A) (ds : List (Option A)) (run : List A) → Longest joins (before ∷ some y ∷ ds) 1 run → run ≡ y ∷ further joins (some y) ds
  unfolding joins_at
  only_run before y ds [] l = absurd (omega (arith, l.not_empty))
  only_run before y ds (x ∷ xs) l =
      let two : 1 + suc (length xs) ≡ suc (suc (length xs)) = omega arith in
      ap₂ (λ a l. a ∷ l) (sym (some-injective y x (head-eq_of_cons-eq l.neighbouring)))
      (further_only (some y) ds xs (tail-eq_of_cons-eq l.neighbouring) (λ t h. l.together (suc (suc t)) (omega arith) (omega arith)) (subst (λ t. joins_at joins (before ∷ some y ∷ ds) t ≡ false) two l.none_after))

  starts_here : (before : Option A) (y : A) (ds : List (Option A)) → joins_at joins (before ∷ some y ∷ ds) 1 ≡ false → joined joins before (some y) ≡ false
  unfolding joins_at
  starts_here before y ds c = c

  -- what stands in the list, k days behind its first position
  pub record Placed (p : ℕ) (before : Option A) (ds : List (Option A)) (r : Run A) (k : ℕ) : Type 0 where
    pub at : r.start ≡ p + k
    pub longest : Longest joins (before ∷ ds) (suc k) r.flows

  run_placed : (p : ℕ) (before : Option A) (ds : List (Option A)) (r : Run A) → Memᴰ r (runs_from joins p before ds) → (k : ℕ) × Placed p before ds r k
  unfolding runs_from
  run_placed p before [] r m = absurd (Memᴰ.not-nil m)
  run_placed p before (none ∷ ds) r m =
      let h = run_placed (suc p) none ds r m in
      (suc h.0, record { at = omega (arith, h.1.at); longest = later_by_one h.1.longest })
  run_placed p before (some y ∷ ds) r m = by_test (joined joins before (some y)) refl (run_placed (suc p) (some y) ds r) m
    where
      later : List (Run A)
      later = runs_from joins (suc p) (some y) ds

      further_on : ((k : ℕ) × Placed (suc p) (some y) ds r k) → (k : ℕ) × Placed p before (some y ∷ ds) r k
      further_on h = (suc h.0, record { at = omega (arith, h.1.at); longest = later_by_one h.1.longest })

      here : joined joins before (some y) ≡ false → r ≡ run_on p y ds → Placed p before (some y ∷ ds) r 0
      here c e = record { at = ap (λ r. r.start) e ∙ sym (add-zero p); longest = subst (λ r. Longest joins (before ∷ some y ∷ ds) 1 r.flows) (sym e) (first_run before y ds c) }

      by_test : (b : Bool) → joined joins before (some y) ≡ b → (Memᴰ r later → (k : ℕ) × Placed (suc p) (some y) ds r k)
          → Memᴰ r (cond b later (run_on p y ds ∷ later)) → (k : ℕ) × Placed p before (some y ∷ ds) r k
      by_test true c rest n = further_on (rest n)
      by_test false c rest n = ⊎_elim (λ e. (0, here c e)) (λ t. further_on (rest t)) (Memᴰ.cases_cons n)

  no_run : (ds : List (Option A)) (k : ℕ) (run : List A) → take (length run) (drop k ds) ≡ map some run → get_or (drop k ds) 0 none ≡ none → 0 < length run → ⊥
  no_run ds k [] n e h = omega arith
  no_run ds k (x ∷ xs) n e h = by_front (drop k ds) n e
    where
      by_front : (l : List (Option A)) → take (suc (length xs)) l ≡ some x ∷ map some xs → get_or l 0 none ≡ none → ⊥
      by_front [] n e = cons-ne-nil _ _ (sym n)
      by_front (none ∷ l) n e = none-ne-some x (head-eq_of_cons-eq n)
      by_front (some y ∷ l) n e = none-ne-some y (sym e)

  placed_run : (p : ℕ) (before : Option A) (ds : List (Option A)) (r : Run A) (k : ℕ) → Placed p before ds r k → Memᴰ r (runs_from joins p before ds)
  unfolding runs_from
  placed_run p before [] r k h = absurd (no_run [] k r.flows h.longest.neighbouring (ap (λ l. get_or l 0 none) (drop-nil k)) h.longest.not_empty)
  placed_run p before (none ∷ ds) r zero h = absurd (no_run (none ∷ ds) 0 r.flows h.longest.neighbouring refl h.longest.not_empty)
  placed_run p before (none ∷ ds) r (suc k) h = placed_run (suc p) none ds r k (record { at = omega (arith, h.at); longest = sooner_by_one h.longest })
  placed_run p before (some y ∷ ds) r zero h =
      let e : r ≡ run_on p y ds = λ i. record { start = (h.at ∙ add-zero p) i; flows = only_run before y ds r.flows h.longest i } in
      starts h.longest.none_before e
    where
      starts : joins_at joins (before ∷ some y ∷ ds) 1 ≡ false → r ≡ run_on p y ds → Memᴰ r (cond (joined joins before (some y)) (runs_from joins (suc p) (some y) ds) (run_on p y ds ∷ runs_from joins (suc p) (some y) ds))
      starts c e = rw (starts_here before y ds c) (Memᴰ.head e)
  placed_run p before (some y ∷ ds) r (suc k) h = by_test (joined joins before (some y)) (placed_run (suc p) (some y) ds r k (record { at = omega (arith, h.at); longest = sooner_by_one h.longest }))
    where
      later : List (Run A)
      later = runs_from joins (suc p) (some y) ds

      by_test : (b : Bool) → Memᴰ r later → Memᴰ r (cond b later (run_on p y ds ∷ later))
      by_test true m = m
      by_test false m = Memᴰ.tail m

  -- of a whole list, with no day before it
  from_first_day : {days : List (Option A)} (start : ℕ) {run : List A} → Longest joins (none ∷ days) (suc start) run → Longest joins days start run
  unfolding joins_at joined
  from_first_day {days} (suc k) l = sooner_by_one l
  from_first_day {days} zero {run} l =
      record { not_empty = l.not_empty; neighbouring = l.neighbouring; together = λ t g h. after t g h; none_before = refl; none_after = ends (length run) (rw (suc-add 0 (length run), zero-add) at l.none_after) }
    where
      after : (t : ℕ) → 0 < t → t < 0 + length run → joins_at joins days t ≡ true
      after zero g h = absurd (omega arith)
      after (suc t) g h = l.together (suc (suc t)) (omega arith) (omega arith)

      ends : (n : ℕ) → joins_at joins (none ∷ days) (suc n) ≡ false → joins_at joins days (0 + n) ≡ false
      ends zero e = refl
      ends (suc n) e = rw zero-add e

  with_no_day_before : {days : List (Option A)} (start : ℕ) {run : List A} → Longest joins days start run → Longest joins (none ∷ days) (suc start) run
  unfolding joins_at joined
  with_no_day_before {days} (suc k) l = later_by_one l
  with_no_day_before {days} zero {run} l =
      record { not_empty = l.not_empty; neighbouring = l.neighbouring; together = λ t g h. after t g h; none_before = refl; none_after = rw (suc-add 0 (length run), zero-add) (ends (length run) (rw zero-add at l.none_after)) }
    where
      after : (t : ℕ) → 1 < t → t < 1 + length run → joins_at joins (none ∷ days) t ≡ true
      after zero g h = absurd (omega arith)
      after (suc zero) g h = absurd (omega arith)
      after (suc (suc t)) g h = l.together (suc t) (omega arith) (omega arith)

      ends : (n : ℕ) → joins_at joins days n ≡ false → joins_at joins (none ∷ days) (suc n) ≡ false
      ends zero e = refl
      ends (suc n) e = e

  -- THE SENTENCE: the list of runs holds a run exactly if it is a longest one
  pub run_sentence : (days : List (Option A)) (r : Run A) → Memᴰ r (runs joins days) ↔ Longest joins days r.start r.flows
  run_sentence days r = (is_longest, λ l. placed_run 0 none days r r.start (record { at = sym (zero-add r.start); longest = with_no_day_before r.start l }))
    where
      is_longest : Memᴰ r (runs joins days) → Longest joins days r.start r.flows
      is_longest m =
          let h = run_placed 0 none days r m in
          let e : h.0 ≡ r.start = omega (arith, h.1.at) in
          from_first_day r.start (subst (λ k. Longest joins (none ∷ days) (suc k) r.flows) e h.1.longest)

  -- in the order of their first days, and so each once
  in_order_from : (p : ℕ) (before : Option A) (ds : List (Option A)) → InOrder (λ r s. r.start < s.start) (runs_from joins p before ds)
  unfolding runs_from
  in_order_from p before [] = order_end
  in_order_from p before (none ∷ ds) = in_order_from (suc p) none ds
  in_order_from p before (some y ∷ ds) = by_test (joined joins before (some y)) (in_order_from (suc p) (some y) ds)
    where
      later : List (Run A)
      later = runs_from joins (suc p) (some y) ds

      by_test : (b : Bool) → InOrder (λ r s. r.start < s.start) later → InOrder (λ r s. r.start < s.start) (cond b later (run_on p y ds ∷ later))
      by_test true o = o
      by_test false o = order_next {x = run_on p y ds} (all_members later (λ r m. let h = run_placed (suc p) (some y) ds r m in omega (arith, h.1.at))) o

  pub runs_in_order : (days : List (Option A)) → InOrder (λ r s. r.start < s.start) (runs joins days)
  runs_in_order days = in_order_from 0 none days

  -- day t lies in a run of the list
  pub record InRun (rs : List (Run A)) (t : ℕ) : Type 0 where
    pub run : Run A
    pub listed : Memᴰ run rs
    pub from : run.start ≤ t
    pub to : t < run.start + length run.flows

  -- each present day lies in a run; or it joins, with all days up to it, the day before the first
  covered_from : (p : ℕ) (before : Option A) (ds : List (Option A)) (k : ℕ) (y : A) → get_or ds k none ≡ some y → (k < length (further joins before ds)) ⊎ InRun (runs_from joins p before ds) (p + k)
  unfolding runs_from further
  covered_from p before [] k y e = absurd (none-ne-some y e)
  covered_from p before (none ∷ ds) zero y e = absurd (none-ne-some y e)
  covered_from p before (none ∷ ds) (suc k) y e =
      ⊎_elim (λ h. absurd (omega (arith, ap length (further_after_gap ds)))) (λ i. inr (record { run = i.run; listed = i.listed; from = omega (arith, i.from); to = omega (arith, i.to) })) (covered_from (suc p) none ds k y e)
  covered_from p before (some x ∷ ds) zero y e = by_test (joined joins before (some x))
    where
      by_test : (b : Bool) → (0 < length (cond b (x ∷ further joins (some x) ds) [])) ⊎ InRun (cond b (runs_from joins (suc p) (some x) ds) (run_on p x ds ∷ runs_from joins (suc p) (some x) ds)) (p + 0)
      by_test true = inl (omega arith)
      by_test false = inr (record { run = run_on p x ds; listed = Memᴰ.head refl; from = omega arith; to = omega arith })
  covered_from p before (some x ∷ ds) (suc k) y e = by_test (joined joins before (some x)) (covered_from (suc p) (some x) ds k y e)
    where
      later : List (Run A)
      later = runs_from joins (suc p) (some x) ds

      by_test : (b : Bool) → (k < length (further joins (some x) ds)) ⊎ InRun later (suc p + k) → (suc k < length (cond b (x ∷ further joins (some x) ds) [])) ⊎ InRun (cond b later (run_on p x ds ∷ later)) (p + suc k)
      by_test true c = ⊎_elim (λ h. inl (omega arith)) (λ i. inr (record { run = i.run; listed = i.listed; from = omega (arith, i.from); to = omega (arith, i.to) })) c
      by_test false c =
          inr (⊎_elim (λ h. record { run = run_on p x ds; listed = Memᴰ.head refl; from = omega arith; to = omega arith }) (λ i. record { run = i.run; listed = Memᴰ.tail i.listed; from = omega (arith, i.from); to = omega (arith, i.to) }) c)

  pub in_a_run : (days : List (Option A)) (t : ℕ) (y : A) → get_or days t none ≡ some y → InRun (runs joins days) t
  in_a_run days t y e =
      ⊎_elim (λ h. absurd (omega (arith, ap length (further_after_gap days)))) (λ i. subst (InRun (runs joins days)) (zero-add t) i) (covered_from 0 none days t y e)

  -- A walk: behind the days that join the day before it, it goes on as if it began there ..
  pub runs_past : (p : ℕ) (before : Option A) (ds : List (Option A)) → runs_from joins p before ds ≡ runs_from joins (p + length (further joins before ds)) none (drop (length (further joins before ds)) ds)
  unfolding runs_from further joined
  runs_past p before [] = refl
  runs_past p before (none ∷ ds) = rw add-zero refl
  runs_past p before (some y ∷ ds) = go (joined joins before (some y)) (runs_past (suc p) (some y) ds)
    where
      later : List (Run A)
      later = runs_from joins (suc p) (some y) ds

      n : ℕ
      n = length (further joins (some y) ds)

      go : (b : Bool) → later ≡ runs_from joins (suc p + n) none (drop n ds)
          → cond b later (run_on p y ds ∷ later) ≡ runs_from joins (p + length (cond b (y ∷ further joins (some y) ds) [])) none (drop (length (cond b (y ∷ further joins (some y) ds) [])) (some y ∷ ds))
      go true h = h ∙ ap (λ k. runs_from joins k none (drop n ds)) (omega arith)
      go false h = rw add-zero refl

  -- .. at a gap with the next day, and at a present day with its run and what stands behind that
  pub walk_gap : (p : ℕ) (ds : List (Option A)) → runs_from joins p none (none ∷ ds) ≡ runs_from joins (suc p) none ds
  unfolding runs_from
  walk_gap p ds = refl

  pub walk_run : (p : ℕ) (y : A) (ds : List (Option A)) → let n = length (further joins (some y) ds) in
      runs_from joins p none (some y ∷ ds) ≡ record { start = p; flows = y ∷ further joins (some y) ds } ∷ runs_from joins (suc p + n) none (drop n ds)
  unfolding runs_from joined
  walk_run p y ds = ap (λ l. run_on p y ds ∷ l) (runs_past (suc p) (some y) ds)

  pub walk_end : (p : ℕ) (before : Option A) → runs_from joins p before [] ≡ []
  unfolding runs_from
  walk_end p before = refl

  -- the days of some runs, all together: a list has no fewer
  abbrev pub days_in : List (Run A) → ℕ
  days_in [] = 0
  days_in (r ∷ rs) = length r.flows + days_in rs

  pub runs_cover : (p : ℕ) (before : Option A) (ds : List (Option A)) → days_in (runs_from joins p before ds) + length (further joins before ds) ≤ length ds
  unfolding runs_from further
  runs_cover p before [] = omega arith
  runs_cover p before (none ∷ ds) = omega (arith, runs_cover (suc p) none ds)
  runs_cover p before (some y ∷ ds) = by_test (joined joins before (some y)) (runs_cover (suc p) (some y) ds)
    where
      later : List (Run A)
      later = runs_from joins (suc p) (some y) ds

      by_test : (b : Bool) → days_in later + length (further joins (some y) ds) ≤ length ds → days_in (cond b later (run_on p y ds ∷ later)) + length (cond b (y ∷ further joins (some y) ds) []) ≤ suc (length ds)
      by_test true h = omega arith
      by_test false h = omega arith

  pub runs_few : (p : ℕ) (before : Option A) (ds : List (Option A)) → length (runs_from joins p before ds) ≤ length ds
  unfolding runs_from
  runs_few p before [] = omega arith
  runs_few p before (none ∷ ds) = omega (arith, runs_few (suc p) none ds)
  runs_few p before (some y ∷ ds) = by_test (joined joins before (some y)) (runs_few (suc p) (some y) ds)
    where
      later : List (Run A)
      later = runs_from joins (suc p) (some y) ds

      by_test : (b : Bool) → length later ≤ length ds → length (cond b later (run_on p y ds ∷ later)) ≤ suc (length ds)
      by_test true h = omega arith
      by_test false h = omega arith
